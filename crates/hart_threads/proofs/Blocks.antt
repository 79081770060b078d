-- A request of thread-local storage that a hart answers itself, and what it reads before it asks the linker.
use Rattle.std.proofs.Common.{◌≡◌, ◌≢◌, ⊎_elim, ℕ, ◌≤◌, ◌<◌, eq-eqb, Bool, true, false, cond, List, [], ◌∷◌, ◌++◌, Option, Some, None, refl, sym, ap, subst, ◌∙◌, append-nil, arith}
use mathlib.Core.Logic.{dite}
use native.Mathlib.Decide.{ℕ_discrete}
use Rattle.std.specs.Prelude.{◌==◌}
use Rattle.std.proofs.lemmas.Bool.{eqb-true}
use Rattle.std.specs.List.{Contains}
use Rattle.std.proofs.lemmas.List.Elements.{Contains-append_right}
use Rattle.std.proofs.lemmas.Option.{none-some}
use Rattle.history_event.specs.declared.event.Event.{Event}
use Rattle.history_event.specs.declared.state.Module.{Module}
use Rattle.word_rule.specs.declared.entry.Entry.{Entry}
use Rattle.word_rule.specs.declared.view.HartView.{HartView}
use Rattle.word_rule.specs.declared.view.TrailItem.{TrailItem}
use Rattle.word_rule.specs.declared.view.TrailItem.TheVariants.{Generation as ReadGeneration}
use Rattle.word_rule.specs.Views.{NoneAbove, known_of, last_block, read_of, readings_by, readings_of}
use Rattle.tls_blocks.specs.Blocks.{BlockTable, block_at}
use Rattle.history_state.specs.After.{after}
use Rattle.history_state.specs.Lemmas.Lists.{here}
use Rattle.history_state.specs.Setting.{Setting}
use Rattle.history_state.specs.State.{State}
use Rattle.history_state.specs.Storage.{tls_block}
use Rattle.history_calls.specs.Answer.{returns, over}
use Rattle.history_calls.specs.Call.{locates}
use Rattle.history_calls.specs.Gives.{Gives, HasBlock, variable_at}
use Rattle.hart_moves.specs.Due.{Due, Return, back, due}
use Rattle.hart_moves.specs.Harts.{HartState}
use Rattle.hart_moves.specs.Moves.{Did, Moves, MovesAs}
use Rattle.hart_moves.specs.Trails.{Located, beside_of, block_of, located_by}
use Rattle.hart_moves.specs.TurnEvents.Appends.{has_finals}
use Rattle.hart_trails.specs.Trails.{Leaves, Reads}
use Rattle.hart_linker.specs.Between.{AreCurrent, BlocksFit, HaveReached}
use Rattle.hart_threads.specs.Keeping.{Answers, ReadsBlock, kept_in}
use Rattle.hart_threads.specs.Turns.{TakesTurn}
use Rattle.hart_threads.proofs.Stepping.{turn_here}

-- ---- the hart answers itself

kept_block : (blocks : BlockTable) (generation number block : ℕ) → kept_in blocks generation number ≡ Some block → (blocks.generation ≡ generation) × (block_at blocks.entries number ≡ Some block)
kept_block blocks generation number block is = by (blocks.generation == generation) refl is
  where
    by : (t : Bool) → (blocks.generation == generation) ≡ t → cond t (block_at blocks.entries number) None ≡ Some block → (blocks.generation ≡ generation) × (block_at blocks.entries number ≡ Some block)
    by true same at = (eqb-true blocks.generation generation same, at)
    by false same at = absurd (none-some block at)

-- outside a call a hart knows the entries that it took
known_taken : (seat : HartView) → seat.lane.offer ≡ None → known_of seat.lane ≡ seat.lane.taken
known_taken seat none = ap (λ o. seat.lane.taken ++ read_of o) none ∙ append-nil seat.lane.taken

-- where a block is kept it is the last answer taken, and the blocks are those of the generation that the hart has heard of
record IsKeptNow (seat : HartView) (blocks : BlockTable) (number block : ℕ) : Type 0 where
  pub answer : last_block blocks.generation number seat.lane.taken ≡ Some block
  pub generation : blocks.generation ≡ (after seat.heard).generation

kept_now : (seat : HartView) (blocks : BlockTable) → seat.lane.offer ≡ None → BlocksFit blocks seat → AreCurrent blocks seat → (number block : ℕ) → block_at blocks.entries number ≡ Some block
    → IsKeptNow seat blocks number block
kept_now seat blocks idle fit current number block at =
    let taken : known_of seat.lane ≡ seat.lane.taken = known_taken seat idle in
    let answer : last_block blocks.generation number seat.lane.taken ≡ Some block =
    ap (last_block blocks.generation number) (sym taken) ∙ sym (fit.same number) ∙ at in
    record {
      answer = answer;
      generation = ⊎_elim
          (λ (same : blocks.generation ≡ (after seat.heard).generation). same)
          (λ (none : known_of seat.lane ≡ []). absurd (none-some block (sym (ap (last_block blocks.generation number) (sym taken ∙ none)) ∙ answer)))
          current.current;
    }

located : (s : State) (h number block : ℕ) → HasBlock s h number block → block_of s h number ≡ Some (record { number = number; block = block })
located s h number block has =
    ap (λ (m : Option Module). elim m [
      | Some x ↦ elim (tls_block s h x.serial) [ Some b ↦ Some (record { number = number; block = b }) | None ↦ None ]
      | None ↦ None
    ]) has.there
    ∙ ap (λ (o : Option ℕ). elim o [ Some b ↦ Some (record { number = number; block = b }) | None ↦ None ]) has.is

located_due : (s t : State) (h number offset : ℕ) (b : HartState) (to : Return) → due s b ≡ Due.serve (locates number offset) to → located_by t h (due s b) [] ≡ block_of t h number
located_due s t h number offset b to is = ap (λ (d : Due). located_by t h d []) is

pub kept_moves : (w : Setting) (before now : HartView) (blocks : BlockTable) (number offset : ℕ) (b c : HartState) (result : Bool) → before.lane.offer ≡ None
    → BlocksFit blocks before → AreCurrent blocks before → due (after before.heard) b ≡ Due.serve (locates number offset) (back b)
    → (x : ReadsBlock before now blocks number offset b c result) → (block : ℕ) → kept_in blocks x.generation number ≡ Some block
    → Moves w before.heard before.number b (Did.serves [] []) c
kept_moves w before now blocks number offset b c result idle fit current is x block kept =
    let k = kept_block blocks x.generation number block kept in
    let has : HasBlock (after before.heard) before.number number block = current.are number block k.1 in
    let answer = subst (λ o. Answers offset b c o result) kept x.answers in
    subst (λ (d : Due). MovesAs w before.heard before.number b d (Did.serves [] []) c) (sym is) (record {
      appended = [];
      answer = returns (variable_at block offset);
      serves = record {
        given = [];
        gives = Gives.in_block number offset block has;
        may_end = λ reason e. absurd (let no : returns (variable_at block offset) ≡ over reason = e in cc);
        are = refl;
      };
      takes = record { is = refl; leaves = answer.1 };
    })

pub kept_turn : (w : Setting) (before now : HartView) (blocks : BlockTable) (number offset : ℕ) (b c : HartState) (result : Bool) → before.lane.offer ≡ None
    → BlocksFit blocks before → AreCurrent blocks before → due (after before.heard) b ≡ Due.serve (locates number offset) (back b)
    → (x : ReadsBlock before now blocks number offset b c result) → (block : ℕ) → kept_in blocks x.generation number ≡ Some block
    → TakesTurn w before now b c (ReadGeneration x.generation number (last_block x.generation number before.lane.taken) ∷ [])
kept_turn w before now blocks number offset b c result idle fit current is x block kept =
    let k = kept_block blocks x.generation number block kept in
    let known : IsKeptNow before blocks number block = kept_now before blocks idle fit current number block k.1 in
    let has : HasBlock (after before.heard) before.number number block = current.are number block k.1 in
    let l : Located = record { number = number; block = block } in
    let beside : (beside_of before.heard before.number b (Did.serves [] [])).located ≡ Some l =
    located_due (after before.heard) (after (before.heard ++ [])) before.number number offset b (back b) is
    ∙ ap (λ (es : List Event). block_of (after es) before.number number) (append-nil before.heard) ∙ located (after before.heard) before.number number block has in
    let item : ReadGeneration (after before.heard).generation number (Some block) ≡ ReadGeneration x.generation number (last_block x.generation number before.lane.taken) =
    let g : (after before.heard).generation ≡ x.generation = sym known.generation ∙ k.0 in
    let v : Some block ≡ last_block x.generation number before.lane.taken = sym known.answer ∙ ap (λ (n : ℕ). last_block n number before.lane.taken) k.0 in
    λ i. ReadGeneration (g i) number (v i) in
    turn_here w before now b c (ReadGeneration x.generation number (last_block x.generation number before.lane.taken) ∷ []) (Did.serves [] [])
    (ap (λ (h : HartView). h.number) x.view) (ap (λ (h : HartView). h.heard) x.view) refl
    (kept_moves w before now blocks number offset b c result idle fit current is x block kept)
    (subst (λ (i : TrailItem). Leaves before.heard b (beside_of before.heard before.number b (Did.serves [] [])) (Did.serves [] []) (i ∷ [])) item (Leaves.is_kept l beside))

-- ---- what is read before the linker is asked

-- the generation that was read is the last one in the trail
readings_end : (trail : List TrailItem) (generation number : ℕ) (block : Option ℕ) → Contains (readings_of (trail ++ ReadGeneration generation number block ∷ [])) generation
readings_end [] generation number block = here generation []
readings_end (item ∷ trail) generation number block =
    Contains-append_right (readings_by item) (readings_of (trail ++ ReadGeneration generation number block ∷ [])) generation (readings_end trail generation number block)

pub was_read : (before now : HartView) (blocks : BlockTable) (number offset : ℕ) (b c : HartState) (result : Bool) (generation : ℕ) → (x : ReadsBlock before now blocks number offset b c result)
    → NoneAbove generation (readings_of now.trail) → x.generation ≤ generation
was_read before now blocks number offset b c result generation x none =
    none x.generation (subst (λ (trail : List TrailItem). Contains (readings_of trail) x.generation) (sym (ap (λ (h : HartView). h.trail) x.view))
    (readings_end before.trail x.generation number (last_block x.generation number before.lane.taken)))

-- no block was kept of the generation that was read, nor, behind what the hart has heard, of the linker's
pub reads_none : (before now : HartView) (blocks : BlockTable) (number offset : ℕ) (b c : HartState) (result : Bool) (s : State) → before.lane.offer ≡ None
    → BlocksFit blocks before → AreCurrent blocks before → (has_finals b.frames ≡ false → HaveReached blocks.generation (known_of before.lane))
    → (after before.heard).generation ≤ s.generation
    → due s b ≡ Due.serve (locates number offset) (back b) → (x : ReadsBlock before now blocks number offset b c result) → x.generation ≤ s.generation
    → kept_in blocks x.generation number ≡ None → Reads s b (ReadGeneration x.generation number (last_block x.generation number before.lane.taken) ∷ [])
reads_none before now blocks number offset b c result s idle fit current reached rises is x early none =
    Reads.none_kept number offset x.generation (last_block x.generation number before.lane.taken) (back b) is early (record { before_finals = before_finals; of_linker = of_linker })
  where
    taken : known_of before.lane ≡ before.lane.taken
    taken = known_taken before idle

    -- of the generation that they are of none is kept
    at_theirs : blocks.generation ≡ x.generation → last_block x.generation number before.lane.taken ≡ None
    at_theirs same =
        ap (last_block x.generation number) (sym taken) ∙ ap (λ (g : ℕ). last_block g number (known_of before.lane)) (sym same) ∙ sym (fit.same number)
        ∙ ap (λ (t : Bool). cond t (block_at blocks.entries number) None) (sym (eq-eqb blocks.generation x.generation same)) ∙ none

    -- nor of a later one
    from_theirs : blocks.generation ≤ x.generation → last_block x.generation number before.lane.taken ≡ None
    from_theirs low = dite (ℕ_discrete blocks.generation x.generation)
        (λ (same : blocks.generation ≡ x.generation). at_theirs same)
        (λ (other : blocks.generation ≢ x.generation).
        let later : blocks.generation < x.generation = omega (arith, low, other) in
        ap (last_block x.generation number) (sym taken) ∙ fit.latest x.generation number later)

    without : known_of before.lane ≡ [] → last_block x.generation number before.lane.taken ≡ None
    without empty = ap (last_block x.generation number) (sym taken ∙ empty)

    before_finals : has_finals b.frames ≡ false → last_block x.generation number before.lane.taken ≡ None
    before_finals calm = ⊎_elim
        (λ (empty : known_of before.lane ≡ []). without empty)
        (λ (y : (e : Entry) × Contains (known_of before.lane) e × (e.generation ≡ blocks.generation)).
        let low : y.0.generation ≤ x.generation = x.latest y.0 y.1 in
        let same : y.0.generation ≡ blocks.generation = y.2 in
        from_theirs (omega (arith, low, same)))
        (reached calm)

    of_linker : x.generation ≡ s.generation → last_block x.generation number before.lane.taken ≡ None
    of_linker same = ⊎_elim
        (λ (theirs : blocks.generation ≡ (after before.heard).generation). from_theirs (omega (arith, theirs, rises, same)))
        (λ (empty : known_of before.lane ≡ []). without empty)
        current.current
