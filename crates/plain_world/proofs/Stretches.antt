-- Turns at a stretch, as turns one after another.
use Rattle.std.proofs.Common.{◌≡◌, ◌≢◌, ◌⊎◌, ⊎_elim, ℕ, zero, suc, ◌+◌, ◌<◌, ◌≤◌, Bool, true, false, not, cond, List, [], ◌∷◌, map, drop, length, length-set, set-set, get_or, Option, Some, None, refl, sym, ap, subst, ◌∙◌, IsTrue, true≢false, arith}
use Rattle.std.specs.Prelude.{◌&&◌, nat_lt, slice_set}
use Rattle.std.specs.List.{list_all, list_any, range_with_len, slice_get}
use Rattle.std.specs.Option.{option_map_or}
use Rattle.std.proofs.Math.Nat.{eq-or-lt_of_le}
use Rattle.std.proofs.lemmas.Bool.{and_parts, ltb-false, ltb-true}
use Rattle.std.proofs.lemmas.List.{append-nil}
use Rattle.std.proofs.lemmas.Option.{none-some, slice_get_within}
use Rattle.ld_base.specs.declared.linking.File.{File}
use Rattle.history_state.specs.Setting.{Setting}
use Rattle.link_state.specs.Table.{LinkTable}
use Rattle.rv_hart.specs.declared.doubleword.Doubleword.{Doubleword}
use Rattle.hart_seat.specs.Table.{HartTable}
use Rattle.hart_moves.specs.Harts.{HartState, is_startup_frame}
use Rattle.hart_moves.specs.Moves.{freed, settles}
use Rattle.world_answers.specs.GuestsPart.Counting.{RefusesNone}
use Rattle.world_answers.specs.GuestsPart.GuestWorlds.Coming.{HasEnd}
use Rattle.world_answers.specs.GuestsPart.GuestWorlds.Laws.{TurnsStayAt}
use Rattle.world_answers.specs.ReturnsPart.Settling.{harts_in}
use Rattle.world_answers.specs.GuestsPart.GuestWorlds.Worlds.{MayBeAt, world_of}
use Rattle.world_answers.specs.GuestsPart.Lemmas.Places.{read_at, set_same, stands, written_at}
use Rattle.world_turns.specs.Lemmas.Turning.{freed_length}
use Rattle.world_turns.specs.Run.{Constructs, Repeats, Rounds, RunEnds, RunFinishes, all_harts, has_ended, have_ended, is_starting}
use Rattle.world_turns.specs.Turn.{TakesTurn, Turn}
use Rattle.world_turns.specs.World.{World}
use Rattle.world_turns.specs.WorldEnds.Lemmas.Places.{at_set, each_passes, reason_of, runs_on, set_here}
use Rattle.plain_world.specs.Playing.{FirstRuns, InEachRun, OthersHaveEnded}
use Rattle.plain_world.specs.Table.{WorldTable, moved}
use Rattle.plain_world.specs.Stretches.{GoesRound, Instructs, RunsAlone, RunsFirst, StretchesBy, TakesInstruction, TakesNext, TakesSome, TakesStretch}
use Rattle.plain_world.proofs.Going.{idle_repeats, no_end, others_stay, some_over, some_run, turn_of}
use Rattle.plain_world.proofs.Left.{IsOverAt, left, round_less, turn_less}

-- ---- an instruction

instruction_turns : (w : Setting) (h : ℕ) (old new : World) → TakesInstruction h old new → Turn w h old new
instruction_turns w h old new x = subst (λ (v : World). Turn w h old v) (sym x.leaves) (x.instructs.turn w h old refl x.there)

-- its hart runs on
left_there : (h : ℕ) (old new : World) (x : TakesInstruction h old new) → slice_get new.harts h ≡ Some x.left
left_there h old new x = ap (λ (v : World). slice_get v.harts h) x.leaves ∙ set_here old.harts h x.before x.left x.there

still_runs : (h : ℕ) (old new : World) → TakesInstruction h old new → HasEnd new h None
still_runs h old new x = (x.left, left_there h old new x, ap (λ (b : HartState). b.«end») x.instructs.leaves ∙ x.instructs.runs)

some_runs : (world : World) (h : ℕ) → HasEnd world h None → have_ended world ≡ false
some_runs world h (b, there, runs) = by (have_ended world) refl
  where
    by : (t : Bool) → have_ended world ≡ t → have_ended world ≡ false
    by true over = absurd (true≢false (sym (each_passes has_ended world.harts h b over there) ∙ runs_on b runs))
    by false over = over

-- it runs what it ran
still_starting : (old new : World) → is_starting old ≡ true → TakesInstruction 0 old new → is_starting new ≡ true
still_starting old new starts x =
    let runs_startup : HartState → Bool = λ b. not (has_ended b) && list_any is_startup_frame b.frames in
    let found : Option HartState → Bool = λ b. option_map_or runs_startup b false in
    ap found (left_there 0 old new x) ∙ ap runs_startup x.instructs.leaves ∙ sym (ap found x.there) ∙ starts

-- ---- a stretch

stretch_more : (h count : ℕ) (old between new : World) → TakesStretch h count old between → TakesInstruction h between new → TakesStretch h (count + 1) old new
stretch_more h _ old _ new (TakesStretch.no_more _) x =
    let one : 1 ≡ 0 + 1 = omega arith in
    subst (λ (n : ℕ). TakesStretch h n old new) one (TakesStretch.one_more 0 old new new x (TakesStretch.no_more new))
stretch_more h _ old between new (TakesStretch.one_more count _ first _ y more) x =
    let next : suc (count + 1) ≡ suc count + 1 = omega arith in
    subst (λ (n : ℕ). TakesStretch h n old new) next (TakesStretch.one_more (count + 1) old first new y (stretch_more h count first between new more x))

stretch_none : (h count : ℕ) (old new : World) → count ≡ 0 → TakesStretch h count old new → new ≡ old
stretch_none h _ old _ none (TakesStretch.no_more _) = refl
stretch_none h _ old new none (TakesStretch.one_more count _ between _ x more) = absurd (omega (arith, none))

stretch_journal : (h count : ℕ) (old new : World) → TakesStretch h count old new → new.journal ≡ old.journal
stretch_journal h _ old _ (TakesStretch.no_more _) = refl
stretch_journal h _ old new (TakesStretch.one_more count _ between _ x more) =
    stretch_journal h count between new more ∙ ap (λ (v : World). v.journal) x.leaves

pub stretch_refuses : (h count : ℕ) (old new : World) → TakesStretch h count old new → RefusesNone old new
stretch_refuses h count old new x =
    record { appended = []; are = stretch_journal h count old new x ∙ sym (append-nil old.journal); none = refl }

pub stretch_stays : TurnsStayAt → (count : ℕ) (folders : List (List ℕ)) (begun : Bool) (h turns : ℕ) (old new : World) → MayBeAt count folders begun old
    → TakesStretch h turns old new → MayBeAt count folders begun new
stretch_stays law count folders begun h _ old _ at (TakesStretch.no_more _) = at
stretch_stays law count folders begun h _ old new at (TakesStretch.one_more turns _ between _ x more) =
    stretch_stays law count folders begun h turns between new
    (law count folders None begun h old between at (λ w over. TakesTurn.turn (instruction_turns w h old between x))) more

stretch_left : (w : Setting) (h count : ℕ) (old new : World) → TakesStretch h count old new → left new ≤ left old
stretch_left w h _ old _ (TakesStretch.no_more _) = omega arith
stretch_left w h _ old new (TakesStretch.one_more count _ between _ x more) =
    let first : left between < left old = turn_less w h old between (instruction_turns w h old between x) in
    let others : left new ≤ left between = stretch_left w h count between new more in
    omega (arith, first, others)

stretch_less : (w : Setting) (h count : ℕ) (old new : World) → 0 < count → TakesStretch h count old new → left new < left old
stretch_less w h _ old _ some (TakesStretch.no_more _) = absurd (omega (arith, some))
stretch_less w h _ old new some (TakesStretch.one_more count _ between _ x more) =
    let first : left between < left old = turn_less w h old between (instruction_turns w h old between x) in
    let others : left new ≤ left between = stretch_left w h count between new more in
    omega (arith, first, others)

-- ---- as whoever keeps memory and the hart has it

pub stretches_none : (words : List Doubleword) (b : HartState) → StretchesBy 0 words words b b
stretches_none words b = λ h world are there.
    subst (λ (v : World). TakesStretch h 0 world v)
    (sym (ap (λ (ws : List Doubleword). record { journal = world.journal; words = ws; harts = slice_set world.harts h b }) (sym are)
    ∙ ap (λ (hs : List HartState). record world { harts = hs }) (set_same world.harts h b there)))
    (TakesStretch.no_more world)

pub stretches_more : (count : ℕ) (words between words' : List Doubleword) (b m c : HartState) → StretchesBy count words between b m → Instructs between words' m c
    → StretchesBy (count + 1) words words' b c
stretches_more count words between words' b m c x y = λ h world are there.
    let first : World = record world { words = between; harts = slice_set world.harts h m } in
    let last : World = record world { words = words'; harts = slice_set world.harts h c } in
    stretch_more h count world first last (x h world are there) (record {
      before = m;
      left = c;
      there = set_here world.harts h b m there;
      instructs = y;
      leaves = ap (λ (hs : List HartState). record world { words = words'; harts = hs }) (sym (set-set world.harts h m c));
    })

pub stretches_in : (state : LinkTable) (words words' : List Doubleword) (harts : List HartTable) (n h count : ℕ) (d x : HartTable) → n ≡ h → h < length harts
    → StretchesBy count words words' (get_or harts n d).hart x.hart
    → TakesStretch h count (world_of state words harts) (world_of state words' (slice_set harts n x))
stretches_in state words words' harts n h count d x same lt y =
    subst (λ (hs : List HartState). TakesStretch h count (world_of state words harts) (record { journal = state.events; words = words'; harts = hs }))
    (sym (written_at harts n h x x.hart same refl)) (y h (world_of state words harts) refl (read_at harts n h d same lt))

-- ---- turns of a schedule's item

stretch_repeats : (w : Setting) (h count more : ℕ) (old between new : World) → TakesStretch h count old between → Repeats w h more between new
    → Repeats w h (count + more) old new
stretch_repeats w h _ more old _ new (TakesStretch.no_more _) rest =
    let none : more ≡ 0 + more = omega arith in subst (λ (n : ℕ). Repeats w h n old new) none rest
stretch_repeats w h _ more old between new (TakesStretch.one_more count _ first _ x others) rest =
    let next : suc (count + more) ≡ suc count + more = omega arith in
    subst (λ (n : ℕ). Repeats w h n old new) next
    (Repeats.one_more (count + more) old first new (TakesTurn.turn (instruction_turns w h old first x)) (stretch_repeats w h count more first between new others rest))

pub next_repeats : (w : Setting) (h count more : ℕ) (old between new : World) → TakesNext w h count old between → Repeats w h more between new
    → Repeats w h (count + more) old new
next_repeats w h count more old between new (TakesNext.instructions some x) rest = stretch_repeats w h count more old between new x rest
next_repeats w h count more old between new (TakesNext.turn one t) rest =
    let all : suc more ≡ count + more = omega (arith, one) in
    subst (λ (n : ℕ). Repeats w h n old new) all (Repeats.one_more more old between new t rest)
next_repeats w h count more old between new (TakesNext.over none reason ended same) rest =
    let all : more ≡ count + more = omega (arith, none) in
    subst (λ (n : ℕ). Repeats w h n old new) all (subst (λ (v : World). Repeats w h more v new) same rest)

-- a hart that takes none has ended, and takes none of those that are left
pub none_repeats : (w : Setting) (h count more : ℕ) (old new : World) → TakesNext w h count old new → count ≡ 0 → Repeats w h more old new
none_repeats w h count more old new (TakesNext.instructions some x) none = absurd (omega (arith, some, none))
none_repeats w h count more old new (TakesNext.turn one t) none = absurd (omega (arith, one, none))
none_repeats w h count more old new (TakesNext.over is reason ended same) none = idle_repeats w h more reason old new same ended

-- one at most
stretch_turn : (w : Setting) (h count : ℕ) (old new : World) → 0 < count → count ≤ 1 → TakesStretch h count old new → TakesTurn w h old new
stretch_turn w h _ old _ some few (TakesStretch.no_more _) = absurd (omega (arith, some))
stretch_turn w h _ old new some few (TakesStretch.one_more zero _ _ _ x (TakesStretch.no_more _)) = TakesTurn.turn (instruction_turns w h old new x)
stretch_turn w h _ old new some few (TakesStretch.one_more (suc n) _ between _ x more) = absurd (omega (arith, few))

pub next_turn : (w : Setting) (h count : ℕ) (old new : World) → count ≤ 1 → TakesNext w h count old new → TakesTurn w h old new
next_turn w h count old new few (TakesNext.instructions some x) = stretch_turn w h count old new some few x
next_turn w h count old new few (TakesNext.turn one t) = t
next_turn w h count old new few (TakesNext.over none reason ended same) = TakesTurn.passed_over ended.0 reason ended.1 ended.2 same

-- ---- turns of a hart that runs

next_less : (w : Setting) (h count : ℕ) (old new : World) → HasEnd old h None → TakesNext w h count old new → left new < left old
next_less w h count old new runs (TakesNext.instructions some x) = stretch_less w h count old new some x
next_less w h count old new runs (TakesNext.turn one t) = turn_less w h old new (turn_of w h old new runs t)
next_less w h count old new runs (TakesNext.over none reason ended same) = absurd (no_end old h reason runs ended)

-- startup's constructors
stretch_constructs : (w : Setting) (count : ℕ) (old between new : World) → is_starting old ≡ true → TakesStretch 0 count old between → Constructs w between new
    → Constructs w old new
stretch_constructs w _ old _ new starts (TakesStretch.no_more _) rest = rest
stretch_constructs w _ old between new starts (TakesStretch.one_more count _ first _ x more) rest =
    Constructs.one_more old first new starts (instruction_turns w 0 old first x)
    (stretch_constructs w count first between new (still_starting old first starts x) more rest)

pub next_constructs : (w : Setting) (count : ℕ) (old between new : World) → FirstRuns old → is_starting old ≡ true → TakesNext w 0 count old between
    → Constructs w between new → Constructs w old new
next_constructs w count old between new runs starts (TakesNext.instructions some x) rest = stretch_constructs w count old between new starts x rest
next_constructs w count old between new runs starts (TakesNext.turn one t) rest =
    Constructs.one_more old between new starts (turn_of w 0 old between runs t) rest
next_constructs w count old between new runs starts (TakesNext.over none reason ended same) rest = absurd (no_end old 0 reason runs ended)

-- final destructors
stretch_ends : (w : Setting) (count : ℕ) (old between new : World) → TakesStretch 0 count old between → RunEnds w between new → RunEnds w old new
stretch_ends w _ old _ new (TakesStretch.no_more _) rest = rest
stretch_ends w _ old between new (TakesStretch.one_more count _ first _ x more) rest =
    RunEnds.one_more old first new (some_runs old 0 (x.before, x.there, x.instructs.runs)) (instruction_turns w 0 old first x)
    (stretch_ends w count first between new more rest)

pub next_ends : (w : Setting) (count : ℕ) (old between new : World) → FirstRuns old → TakesNext w 0 count old between → RunEnds w between new → RunEnds w old new
next_ends w count old between new runs (TakesNext.instructions some x) rest = stretch_ends w count old between new x rest
next_ends w count old between new runs (TakesNext.turn one t) rest = RunEnds.one_more old between new (some_runs old 0 runs) (turn_of w 0 old between runs t) rest
next_ends w count old between new runs (TakesNext.over none reason ended same) rest = absurd (no_end old 0 reason runs ended)

stretch_others : (w : Setting) (count : ℕ) (old new : World) → TakesStretch 0 count old new → OthersHaveEnded old → OthersHaveEnded new
stretch_others w _ old _ (TakesStretch.no_more _) over = over
stretch_others w _ old new (TakesStretch.one_more count _ first _ x more) over =
    stretch_others w count first new more (others_stay w old first (instruction_turns w 0 old first x) over)

next_others : (w : Setting) (count : ℕ) (old new : World) → FirstRuns old → TakesNext w 0 count old new → OthersHaveEnded old → OthersHaveEnded new
next_others w count old new runs (TakesNext.instructions some x) over = stretch_others w count old new x over
next_others w count old new runs (TakesNext.turn one t) over = others_stay w old new (turn_of w 0 old new runs t) over
next_others w count old new runs (TakesNext.over none reason ended same) over = absurd (no_end old 0 reason runs ended)

-- ---- rounds of a hart alone

pub runs_alone : (world : World) (h : ℕ) → RunsAlone world.harts h → HasEnd world h None
runs_alone world h alone = (alone.hart, alone.there, alone.runs)

found_at : (harts : List HartState) (k : ℕ) → k < length harts → (b : HartState) × (slice_get harts k ≡ Some b)
found_at [] k lt = absurd (omega (arith, lt))
found_at (x ∷ rest) zero lt = (x, refl)
found_at (x ∷ rest) (suc k) lt = found_at rest k (omega (arith, lt))

freed_from : (harts : List HartState) (k : ℕ) (b : HartState) → slice_get (map freed harts) k ≡ Some b → (c : HartState) × (slice_get harts k ≡ Some c) × (b ≡ freed c)
freed_from [] k b at = absurd (none-some b at)
freed_from (x ∷ rest) zero b at = (x, refl, (let same : b ≡ freed x = cc in same))
freed_from (x ∷ rest) (suc k) b at = freed_from rest k b at

-- other harts have ended before its turn, and behind it
module _ (w : Setting) (h : ℕ) (old new : World) (alone : RunsAlone old.harts h) (t : Turn w h old new) where
  found_ended : (s : Bool) (k : ℕ) (b : HartState) → k ≢ h → slice_get (cond s (map freed old.harts) old.harts) k ≡ Some b → has_ended b ≡ true
  found_ended true k b other at = let from = freed_from old.harts k b at in ap has_ended from.2 ∙ alone.others k from.0 other from.1
  found_ended false k b other at = alone.others k b other at

  pub others_after : (k : ℕ) (b : HartState) → k ≢ h → slice_get new.harts k ≡ Some b → IsTrue (has_ended b)
  others_after k b other at = ⊎_elim
      (λ (here : (k ≡ h) × (b ≡ t.left)). absurd (other here.0))
      (λ (there : slice_get (cond (settles t.did) (map freed old.harts) old.harts) k ≡ Some b). found_ended (settles t.did) k b other there)
      (at_set (cond (settles t.did) (map freed old.harts) old.harts) h t.left k b (ap (λ (hs : List HartState). slice_get hs k) (sym t.harts) ∙ at))

  as_many : length new.harts ≡ length old.harts
  as_many = ap length t.harts ∙ length-set (cond (settles t.did) (map freed old.harts) old.harts) h t.left ∙ found_length (settles t.did)
    where
      found_length : (s : Bool) → length (cond s (map freed old.harts) old.harts) ≡ length old.harts
      found_length true = freed_length old.harts
      found_length false = refl

  before_over : (k : ℕ) → k < length old.harts → k ≢ h → IsOverAt old k
  before_over k lt other = let found = found_at old.harts k lt in (found.0, found.1, alone.others k found.0 other found.1)

  behind_over : (k : ℕ) → k < length old.harts → k ≢ h → IsOverAt new k
  behind_over k lt other =
      let found = found_at new.harts k (let many : k < length new.harts = omega (arith, lt, as_many) in many) in
      (found.0, found.1, others_after k found.0 other found.1)

pass : (w : Setting) (world : World) (k : ℕ) → IsOverAt world k → TakesTurn w k world world
pass w world k (b, there, over) = let end = reason_of b over in TakesTurn.passed_over b end.0 there end.1 refl

rounds_behind : (w : Setting) (world : World) (from count : ℕ) → ((k : ℕ) → from ≤ k → k < from + count → IsOverAt world k)
    → Rounds w (range_with_len from count) world world
rounds_behind w world from zero over = Rounds.no_more world
rounds_behind w world from (suc count) over =
    Rounds.one_more from (range_with_len (from + 1) count) world world world (pass w world from (over from (omega arith) (omega arith)))
    (rounds_behind w world (from + 1) count (λ k low high. over k (omega (arith, low)) (omega (arith, high))))

rounds_with : (w : Setting) (h : ℕ) (old new : World) (from count : ℕ) → from ≤ h → h < from + count → TakesTurn w h old new
    → ((k : ℕ) → k < from + count → k ≢ h → IsOverAt old k) → ((k : ℕ) → k < from + count → k ≢ h → IsOverAt new k)
    → Rounds w (range_with_len from count) old new
rounds_with w h old new from zero low high t before behind = absurd (omega (arith, low, high))
rounds_with w h old new from (suc count) low high t before behind = ⊎_elim
    (λ (here : from ≡ h).
    Rounds.one_more from (range_with_len (from + 1) count) old new new (subst (λ (k : ℕ). TakesTurn w k old new) (sym here) t)
    (rounds_behind w new (from + 1) count (λ k above within. behind k (omega (arith, within)) (λ same. absurd (omega (arith, same, here, above))))))
    (λ (later : from < h).
    Rounds.one_more from (range_with_len (from + 1) count) old old new (pass w old from (before from (omega arith) (λ same. absurd (omega (arith, same, later)))))
    (rounds_with w h old new (from + 1) count (omega (arith, later)) (omega (arith, high)) t (λ k within other. before k (omega (arith, within)) other)
    (λ k within other. behind k (omega (arith, within)) other)))
    (eq-or-lt_of_le low)

round_of : (w : Setting) (h : ℕ) (old new : World) → RunsAlone old.harts h → Turn w h old new → Rounds w (all_harts old) old new
round_of w h old new alone t =
    let within : h < length old.harts = slice_get_within old.harts h alone.hart alone.there in
    rounds_with w h old new 0 (length old.harts) (omega arith) (omega (arith, within)) (TakesTurn.turn t)
    (λ k lt other. before_over w h old new alone t k (omega (arith, lt)) other) (λ k lt other. behind_over w h old new alone t k (omega (arith, lt)) other)

still_alone : (w : Setting) (h : ℕ) (old new : World) → RunsAlone old.harts h → TakesInstruction h old new → RunsAlone new.harts h
still_alone w h old new alone x =
    let runs = still_runs h old new x in
    record { hart = runs.0; there = runs.1; runs = runs.2; others = others_after w h old new alone (instruction_turns w h old new x) }

stretch_rounds : (w : Setting) (h count : ℕ) (old between new : World) → RunsAlone old.harts h → TakesInstruction h old between → TakesStretch h count between new
    → GoesRound w old new
stretch_rounds w h _ old _ new alone x (TakesStretch.no_more _) =
    GoesRound.once old new (some_runs old h (runs_alone old h alone)) (round_of w h old new alone (instruction_turns w h old new x))
stretch_rounds w h _ old between new alone x (TakesStretch.one_more count _ next _ y more) =
    GoesRound.again old between new (some_runs old h (runs_alone old h alone)) (round_of w h old between alone (instruction_turns w h old between x))
    (stretch_rounds w h count between next new (still_alone w h old between alone x) y more)

some_rounds : (w : Setting) (h count : ℕ) (old new : World) → RunsAlone old.harts h → 0 < count → TakesStretch h count old new → GoesRound w old new
some_rounds w h _ old _ alone some (TakesStretch.no_more _) = absurd (omega (arith, some))
some_rounds w h _ old new alone some (TakesStretch.one_more n _ between _ x more) = stretch_rounds w h n old between new alone x more

pub next_rounds : (w : Setting) (h count : ℕ) (old new : World) → RunsAlone old.harts h → TakesNext w h count old new → GoesRound w old new
next_rounds w h count old new alone (TakesNext.instructions some x) = some_rounds w h count old new alone some x
next_rounds w h count old new alone (TakesNext.turn one t) =
    GoesRound.once old new (some_runs old h (runs_alone old h alone)) (round_of w h old new alone (turn_of w h old new (runs_alone old h alone) t))
next_rounds w h count old new alone (TakesNext.over none reason ended same) = absurd (no_end old h reason (runs_alone old h alone) ended)

-- ---- rounds

pub round_finishes : (w : Setting) (old between new : World) → GoesRound w old between → RunFinishes w between new → RunFinishes w old new
round_finishes w old between new (GoesRound.once _ _ runs round) rest = RunFinishes.one_more old between new runs round rest
round_finishes w old between new (GoesRound.again _ first _ runs round more) rest =
    RunFinishes.one_more old first new runs round (round_finishes w first between new more rest)

rounds_less : (w : Setting) (old new : World) → GoesRound w old new → left new < left old
rounds_less w old new (GoesRound.once _ _ runs round) = round_less w old new runs round
rounds_less w old new (GoesRound.again _ first _ runs round more) =
    let one : left first < left old = round_less w old first runs round in
    let others : left new < left first = rounds_less w first new more in
    omega (arith, one, others)

-- ---- in each run

pub each_some_less : (run : WorldTable) (files : Option (List File)) (h : ℕ) (old new : World) → HasEnd old h None → InEachRun run files (λ w. TakesSome w h old new)
    → left new < left old
each_some_less run files h old new runs each =
    let some = each (some_run run files) (some_over run files) in next_less (some_run run files) h some.0 old new runs some.1

pub each_some_others : (run : WorldTable) (files : Option (List File)) (old new : World) → FirstRuns old → InEachRun run files (λ w. TakesSome w 0 old new)
    → OthersHaveEnded old → OthersHaveEnded new
each_some_others run files old new runs each over =
    let some = each (some_run run files) (some_over run files) in next_others (some_run run files) some.0 old new runs some.1 over

pub each_rounds_less : (run : WorldTable) (files : Option (List File)) (old new : World) → InEachRun run files (λ w. GoesRound w old new) → left new < left old
each_rounds_less run files old new each = rounds_less (some_run run files) old new (each (some_run run files) (some_over run files))

-- where a hart takes no instruction the run stays as it is
pub none_same : (run now : WorldTable) (h count : ℕ) → count ≡ 0 → now ≡ moved run now.world → TakesStretch h count run.world now.world → now ≡ run
none_same run now h count none rest x = rest ∙ ap (λ (v : World). moved run v) (stretch_none h count run.world now.world none x)

-- ---- which hart runs alone

seen_alone : (harts : List HartState) (h : ℕ) → RunsFirst harts h → ((k : ℕ) (b : HartState) → h < k → slice_get harts k ≡ Some b → IsTrue (has_ended b)) → RunsAlone harts h
seen_alone harts h first behind = record {
  hart = first.hart;
  there = first.there;
  runs = first.runs;
  others = λ k b other at. by k b other at (nat_lt k h) refl;
}
  where
    by : (k : ℕ) (b : HartState) → k ≢ h → slice_get harts k ≡ Some b → (t : Bool) → nat_lt k h ≡ t → IsTrue (has_ended b)
    by k b other at true low = first.before k b (ltb-true k h low) at
    by k b other at false high = behind k b (omega (arith, other, ltb-false k h high)) at

pub ended_more : (harts : List HartTable) (i : ℕ) (x : HartTable) → i < length harts → x ≡ get_or harts i x → has_ended x.hart ≡ true
    → ((k : ℕ) (b : HartState) → k < i → slice_get (harts_in harts) k ≡ Some b → IsTrue (has_ended b))
    → (k : ℕ) (b : HartState) → k < i + 1 → slice_get (harts_in harts) k ≡ Some b → IsTrue (has_ended b)
ended_more harts i x within is over before k b low at = by (nat_lt k i) refl
  where
    by : (t : Bool) → nat_lt k i ≡ t → has_ended b ≡ true
    by true less = before k b (ltb-true k i less) at
    by false more =
        let here : k ≡ i = omega (arith, low, ltb-false k i more) in
        let there : slice_get (harts_in harts) k ≡ Some (get_or harts k x).hart = stands harts k x (omega (arith, within, here)) in
        let found : Some b ≡ Some (get_or harts k x).hart = sym at ∙ there in
        let same : b ≡ (get_or harts k x).hart = cc in
        ap has_ended (same ∙ ap (λ (n : ℕ). (get_or harts n x).hart) here) ∙ ap (λ (y : HartTable). has_ended y.hart) (sym is) ∙ over

behind_ends : (harts : List HartTable) (n : ℕ) → list_all (λ (x : HartTable). has_ended x.hart) (drop n harts) ≡ true → (k : ℕ) (b : HartState) → n ≤ k
    → slice_get (harts_in harts) k ≡ Some b → has_ended b ≡ true
behind_ends [] n over k b low at = absurd (none-some b at)
behind_ends (x ∷ rest) zero over zero b low at = ap has_ended (let same : b ≡ x.hart = cc in same) ∙ (and_parts (has_ended x.hart) _ over).0
behind_ends (x ∷ rest) zero over (suc k) b low at = behind_ends rest 0 (and_parts (has_ended x.hart) _ over).1 k b (omega arith) at
behind_ends (x ∷ rest) (suc n) over zero b low at = absurd (omega (arith, low))
behind_ends (x ∷ rest) (suc n) over (suc k) b low at = behind_ends rest n over k b (omega (arith, low)) at

pub alone_from : (harts : List HartTable) (h next : ℕ) → next ≡ h + 1 → RunsFirst (harts_in harts) h
    → list_all (λ (x : HartTable). has_ended x.hart) (drop next harts) ≡ true → RunsAlone (harts_in harts) h
alone_from harts h next is first over =
    seen_alone (harts_in harts) h first (λ k b high at. behind_ends harts next over k b (omega (arith, is, high)) at)
