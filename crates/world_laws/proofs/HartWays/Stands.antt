-- A hart of a run, followed from a moment on: each turn of its own is a move at its place, and what others do leaves it as it is.
use Rattle.std.proofs.Common.{◌≡◌, ◌≢◌, ◌⊎◌, inl, inr, ⊎_elim, ℕ, zero, suc, ◌+◌, ◌≤◌, Bool, true, false, cond, List, [], ◌∷◌, ◌++◌, length, map}
use Rattle.std.proofs.Common.{take, Some, refl, sym, ap, subst, ◌∙◌, ◌==◌, append_assoc, arith}
use Rattle.std.specs.Prelude.{slice_set}
use Rattle.std.specs.List.{slice_get}
use Rattle.std.proofs.lemmas.Bool.{eq-eqb, eqb-true, false≢true}
use Rattle.std.proofs.lemmas.List.{drop_at, length-append, length-set, take_all, take_at}
use Rattle.std.proofs.lemmas.List.Elements.{Contains-append_cases}
use Rattle.std.proofs.lemmas.Option.{none-some}
use Rattle.history_event.specs.declared.event.Event.{Event}
use Rattle.history_event.specs.declared.event.Event.TheVariants.{Bound, Lost}
use Rattle.history_state.specs.Setting.{Setting}
use Rattle.history_state.specs.Lemmas.Lists.{none_in, only_in}
use Rattle.history_calls.specs.Laws.{hart_of}
use Rattle.history_calls.specs.Lemmas.Unique.{both_found}
use Rattle.hart_moves.specs.Follows.{AreOthers, Follows, HasNone, Turned}
use Rattle.hart_moves.specs.Harts.{HartState, Offered, Resolving}
use Rattle.hart_moves.specs.Moves.{Did, Moves, events_of, freed, settles}
use Rattle.hart_moves.specs.Trails.{beside_of}
use Rattle.hart_moves.specs.Lemmas.Following.{follows_longer, none_longer, none_with, one_turn_more}
use Rattle.hart_moves.specs.Lemmas.Freed.{Before, freed_before, freed_twice}
use Rattle.hart_moves.specs.Lemmas.Legality.{turns_own}
use Rattle.world_turns.specs.Turn.{Turn}
use Rattle.world_turns.specs.World.{World, found_harts, found_journal, has_won, settled_by, settling, settling_event}
use Rattle.world_turns.specs.Lemmas.Turning.{freed_length}
use Rattle.world_turns.specs.WorldEnds.Lemmas.Places.{freed_here, set_here}

-- ---- events of others

pub others_both : (h : ℕ) (front back : List Event) → AreOthers h front → AreOthers h back → AreOthers h (front ++ back)
others_both h front back one other e there = ⊎_elim (one e) (other e) (Contains-append_cases front back e there)

pub others_none : (h : ℕ) → AreOthers h []
others_none h e there = absurd (none_in e there)

pub others_one : (h : ℕ) (e : Event) → hart_of e ≢ Some h → AreOthers h (e ∷ [])
others_one h e apart d there = subst (λ (x : Event). hart_of x ≢ Some h) (only_in e d there) apart

-- what is settled is no hart's
settled_no_hart : (h : ℕ) (o : Offered) (found : ℕ) → hart_of (settling_event o found) ≢ Some h
settled_no_hart h o found = by (has_won o found)
  where
    by : (t : Bool) → hart_of (cond t (Bound o.number) (Lost o.number found)) ≢ Some h
    by true is = none-some h is
    by false is = none-some h is

settled_others : (h : ℕ) (r : Resolving) → AreOthers h (settled_by r)
settled_others h Resolving.idle = others_none h
settled_others h (Resolving.to_exchange o) = others_none h
settled_others h (Resolving.to_finish o found) = others_none h
settled_others h (Resolving.to_settle o found) = others_one h (settling_event o found) (settled_no_hart h o found)

pub settling_others : (h : ℕ) (harts : List HartState) → AreOthers h (settling harts)
settling_others h [] = others_none h
settling_others h (b ∷ rest) = others_both h (settled_by b.resolving) (settling rest) (settled_others h b.resolving) (settling_others h rest)

-- ---- harts and their places

elsewhere : (harts : List HartState) (g h : ℕ) (c : HartState) → g ≢ h → slice_get (slice_set harts g c) h ≡ slice_get harts h
elsewhere [] g h c apart = refl
elsewhere (x ∷ rest) zero zero c apart = absurd (apart refl)
elsewhere (x ∷ rest) zero (suc h) c apart = refl
elsewhere (x ∷ rest) (suc g) zero c apart = refl
elsewhere (x ∷ rest) (suc g) (suc h) c apart = elsewhere rest g h c (λ same. apart (ap suc same))

-- a hart in the world, by what its own turns make of it: others may have settled its grant
abbrev pub MayBeFreed : HartState → HartState → Type 0
MayBeFreed hart own = (hart ≡ own) ⊎ (hart ≡ freed own)

freed_may : (hart own : HartState) → MayBeFreed hart own → freed hart ≡ freed own
freed_may hart own (inl same) = ap freed same
freed_may hart own (inr same) = ap freed same ∙ freed_twice own

pub freed_again : (hart own other : HartState) → MayBeFreed hart own → MayBeFreed other hart → MayBeFreed other own
freed_again hart own other may (inl same) = ⊎_elim (λ (e : hart ≡ own). inl (same ∙ e)) (λ (e : hart ≡ freed own). inr (same ∙ e)) may
freed_again hart own other may (inr same) = inr (same ∙ freed_may hart own may)

found_at : (t : Bool) (harts : List HartState) (h : ℕ) (b : HartState) → slice_get harts h ≡ Some b
    → (d : HartState) × (slice_get (cond t (map freed harts) harts) h ≡ Some d) × MayBeFreed d b
found_at true harts h b at = (freed b, freed_here harts h b at, inr refl)
found_at false harts h b at = (b, at, inl refl)

-- ---- where a hart stands

pub record Stands (w : Setting) (h from : ℕ) (begun : HartState) (world : World) : Type 0 where
  pub turns : List Turned
  pub to : ℕ
  pub own : HartState
  pub hart : HartState
  pub there : slice_get world.harts h ≡ Some hart
  pub alike : MayBeFreed hart own
  pub follows : Follows w world.journal h from begun turns to own
  pub within : to ≤ length world.journal
  pub none : HasNone world.journal h to (length world.journal)

module _ (w : Setting) (h from : ℕ) (begun : HartState) where
  -- what others append leaves it, freed or not
  pub left_alone : (old new : World) (more : List Event) (x : Stands w h from begun old) (hart : HartState) → new.journal ≡ old.journal ++ more
      → AreOthers h more
      → slice_get new.harts h ≡ Some hart → MayBeFreed hart x.hart → Stands w h from begun new
  left_alone old new more x hart grows others there alike =
      let within : x.to ≤ length old.journal = x.within in
      let longer : length (old.journal ++ more) ≡ length old.journal + length more = length-append old.journal more in
      record {
        turns = x.turns;
        to = x.to;
        own = x.own;
        hart = hart;
        there = there;
        alike = freed_again x.hart x.own hart x.alike alike;
        follows = subst (λ (j : List Event). Follows w j h from begun x.turns x.to x.own) (sym grows)
            (follows_longer w old.journal more h from x.to begun x.own x.turns x.follows);
        within = subst (λ (j : List Event). x.to ≤ length j) (sym grows) (omega (arith, within, longer));
        none = subst (λ (j : List Event). HasNone j h x.to (length j)) (sym grows)
            (none_with w old.journal more h x.to (length (old.journal ++ more)) x.none others);
      }

  -- a turn of another hart
  others_turn : (g : ℕ) (old new : World) → g ≢ h → Turn w g old new → Stands w h from begun old → Stands w h from begun new
  others_turn g old new apart turn x =
      let added : List Event = cond (settles turn.did) (settling old.harts) [] in
      let found = found_at (settles turn.did) old.harts h x.hart x.there in
      left_alone old new (added ++ events_of turn.did) x found.0 (turn.journal ∙ append_assoc old.journal added (events_of turn.did))
      (others_both h added (events_of turn.did) (settled_first (settles turn.did)) theirs)
      (ap (λ (bs : List HartState). slice_get bs h) turn.harts ∙ elsewhere (found_harts old turn.did) g h turn.left apart ∙ found.1) found.2
    where
      settled_first : (t : Bool) → AreOthers h (cond t (settling old.harts) [])
      settled_first true = settling_others h old.harts
      settled_first false = others_none h

      theirs : AreOthers h (events_of turn.did)
      theirs e there same = apart (let both : Some g ≡ Some h = sym
          (turns_own w (found_journal old turn.did) g turn.before turn.left turn.did turn.moves e there) ∙ same in cc)

  -- the move of the hart as its own turns left it
  moved : (old new : World) (turn : Turn w h old new) (x : Stands w h from begun old) → MayBeFreed x.hart x.own
      → Before turn.did turn.left (Moves w (found_journal old turn.did) h x.own turn.did)
  moved old new turn x (inl same) =
      let is : turn.before ≡ x.own = both_found (slice_get old.harts h) turn.before x.hart turn.there x.there ∙ same in
      record {
        left = turn.left;
        leaves = subst (λ (b : HartState). Moves w (found_journal old turn.did) h b turn.did turn.left) is turn.moves;
        alike = inl refl;
      }
  moved old new turn x (inr same) =
      let is : turn.before ≡ freed x.own = both_found (slice_get old.harts h) turn.before x.hart turn.there x.there ∙ same in
      freed_before w (found_journal old turn.did) h x.own turn.did turn.left
      (subst (λ (b : HartState). Moves w (found_journal old turn.did) h b turn.did turn.left) is turn.moves)

  one_more : (past appended : List Event) (did : Did) (to : ℕ) (turns : List Turned) (own left : HartState) → appended ≡ events_of did → to ≤ length past
      → Follows w past h from begun turns to own → HasNone past h to (length past) → Moves w past h own did left
      → Follows w (past ++ appended) h from begun (turns ++ record { at = length past; did = did; beside = beside_of past h own did } ∷ [])
      (length past + length (events_of did)) left
  one_more past appended did to turns own left are within follows none moves =
      let longer : length (past ++ appended) ≡ length past + length appended = length-append past appended in
      let same : length appended ≡ length (events_of did) = ap (λ (es : List Event). length es) are in
      one_turn_more w (past ++ appended) h from to begun own left turns (record { at = length past; did = did; beside = beside_of past h own did })
      (follows_longer w past appended h from to begun own turns follows) within
      (none_longer w past appended h to (length past) (omega arith) none)
      (record {
        within = omega (arith, longer, same);
        moves = subst (λ (es : List Event). Moves w es h own did left) (sym (take_at past appended (length past) refl)) moves;
        own = ap (take (length (events_of did))) (drop_at past appended (length past) refl ∙ are)
            ∙ take_all (length (events_of did)) (events_of did) (omega arith);
        beside = ap (λ (es : List Event). beside_of es h own did) (sym (take_at past appended (length past) refl));
      })

  own_turn : (old new : World) → Turn w h old new → Stands w h from begun old → Stands w h from begun new
  own_turn old new turn x =
      let added : List Event = cond (settles turn.did) (settling old.harts) [] in
      let past : List Event = found_journal old turn.did in
      let move = moved old new turn x x.alike in
      let found = found_at (settles turn.did) old.harts h x.hart x.there in
      let within : x.to ≤ length old.journal = x.within in
      let longer : length (old.journal ++ added) ≡ length old.journal + length added = length-append old.journal added in
      let whole : length (past ++ events_of turn.did) ≡ length past + length (events_of turn.did) = length-append past (events_of turn.did) in
      let follows : Follows w (past ++ events_of turn.did) h from begun
      (x.turns ++ record { at = length past; did = turn.did; beside = beside_of past h x.own turn.did } ∷ [])
      (length past + length (events_of turn.did)) move.left =
      one_more past (events_of turn.did) turn.did x.to x.turns x.own move.left refl (omega (arith, within, longer))
      (follows_longer w old.journal added h from x.to begun x.own x.turns x.follows)
      (none_with w old.journal added h x.to (length past) x.none (settled_first (settles turn.did))) move.leaves in
      record {
        turns = x.turns ++ record { at = length past; did = turn.did; beside = beside_of past h x.own turn.did } ∷ [];
        to = length past + length (events_of turn.did);
        own = move.left;
        hart = turn.left;
        there = ap (λ (bs : List HartState). slice_get bs h) turn.harts ∙ set_here (found_harts old turn.did) h found.0 turn.left found.1;
        alike = ⊎_elim (λ (e : turn.left ≡ move.left). inl e) (λ (e : (settles turn.did ≡ false) × (turn.left ≡ freed move.left)). inr e.1) move.alike;
        follows = subst (λ (j : List Event). Follows w j h from begun
            (x.turns ++ record { at = length past; did = turn.did; beside = beside_of past h x.own turn.did } ∷ [])
            (length past + length (events_of turn.did)) move.left) (sym turn.journal) follows;
        within = subst (λ (j : List Event). length past + length (events_of turn.did) ≤ length j) (sym turn.journal) (omega (arith, whole));
        none = subst (λ (j : List Event). HasNone j h (length past + length (events_of turn.did)) (length j)) (sym turn.journal)
            (λ k e low high at. absurd (omega (arith, whole, low, high)));
      }
    where
      settled_first : (t : Bool) → AreOthers h (cond t (settling old.harts) [])
      settled_first true = settling_others h old.harts
      settled_first false = others_none h

  pub turn_stands : (g : ℕ) (old new : World) → Stands w h from begun old → Turn w g old new → Stands w h from begun new
  turn_stands g old new x turn = by (g == h) refl
    where
      by : (t : Bool) → (g == h) ≡ t → Stands w h from begun new
      by true is = own_turn old new (subst (λ (n : ℕ). Turn w n old new) (eqb-true g h is) turn) x
      by false is = others_turn g old new (λ (same : g ≡ h). false≢true (sym is ∙ eq-eqb g h same)) turn x

-- ---- how many harts there are

found_length : (t : Bool) (harts : List HartState) → length (cond t (map freed harts) harts) ≡ length harts
found_length true harts = freed_length harts
found_length false harts = refl

pub turn_keeps_length : (w : Setting) (n g : ℕ) (old new : World) → length old.harts ≡ n → Turn w g old new → length new.harts ≡ n
turn_keeps_length w n g old new is turn =
    ap (λ (bs : List HartState). length bs) turn.harts ∙ length-set (found_harts old turn.did) g turn.left ∙ found_length (settles turn.did) old.harts ∙ is
