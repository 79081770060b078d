-- Behind startup's constructors no turn goes back to them.
use Rattle.std.proofs.Common.{◌≡◌, ℕ, zero, suc, Bool, true, false, List, [], ◌∷◌, map, Option, Some, None, refl, sym, ap, subst, ◌∙◌}
use Rattle.std.specs.Prelude.{not, ◌&&◌, if◌then◌else◌, slice_set}
use Rattle.std.specs.List.{slice_get}
use Rattle.std.specs.Option.{is_some, option_map_or}
use Rattle.history_event.specs.declared.hart_end.HartEnd.{HartEnd}
use Rattle.history_state.specs.Setting.{Setting}
use Rattle.hart_moves.specs.Harts.{HartState}
use Rattle.hart_moves.specs.Moves.{freed, settles}
use Rattle.hart_moves.specs.TurnEvents.Lemmas.Starting.{has_startup, moves_runs, startup_away}
use Rattle.world_turns.specs.Run.{has_ended, is_starting}
use Rattle.world_turns.specs.Turn.{TakesTurn, Turn}
use Rattle.world_turns.specs.World.{World, found_harts, found_journal}

-- the first hart of these runs them
abbrev starts : List HartState → Bool
starts harts = option_map_or (λ b. not (has_ended b) && has_startup b.frames) (slice_get harts 0) false

-- grants don't matter
freed_starts : (harts : List HartState) → starts (map freed harts) ≡ starts harts
freed_starts [] = refl
freed_starts (b ∷ rest) = refl

found_starts : (t : Bool) (harts : List HartState) → starts (if t then map freed harts else harts) ≡ starts harts
found_starts true harts = freed_starts harts
found_starts false harts = refl

none_starts : (p : Bool) (b : HartState) → has_startup b.frames ≡ false → (p && has_startup b.frames) ≡ false
none_starts true b none = none
none_starts false b none = refl

-- one that runs and doesn't start has no such frame
no_frames : (e : Option HartEnd) (q : Bool) → e ≡ None → (not (is_some e) && q) ≡ false → q ≡ false
no_frames (Some reason) q runs over = absurd (let no : Some reason ≡ None = runs in cc)
no_frames None q runs over = over

changed_starts : (harts : List HartState) (h : ℕ) (left : HartState) → starts harts ≡ false → (h ≡ zero → has_startup left.frames ≡ false) → starts (slice_set harts h left) ≡ false
changed_starts [] h left over first = refl
changed_starts (b ∷ rest) zero left over first = none_starts (not (has_ended left)) left (first refl)
changed_starts (b ∷ rest) (suc h) left over first = over

first_over : (harts : List HartState) (before : HartState) → slice_get harts zero ≡ Some before → starts harts ≡ false → before.«end» ≡ None → has_startup before.frames ≡ false
first_over harts before there over runs =
    no_frames before.«end» (has_startup before.frames) runs (sym (ap (λ (x : Option HartState). option_map_or (λ b. not (has_ended b) && has_startup b.frames) x false) there) ∙ over)

turn_begun : (w : Setting) (h : ℕ) (old new : World) → Turn w h old new → starts old.harts ≡ false → starts new.harts ≡ false
turn_begun w h old new t over =
    ap starts t.harts
    ∙ changed_starts (found_harts old t.did) h t.left (found_starts (settles t.did) old.harts ∙ over)
    (λ zeroth. startup_away w (found_journal old t.did) h t.before t.left t.did t.moves
    (first_over old.harts t.before (subst (λ (n : ℕ). slice_get old.harts n ≡ Some t.before) zeroth t.there) over (moves_runs w (found_journal old t.did) h t.before t.left t.did t.moves)))

pub stays_begun : (w : Setting) (h : ℕ) (old new : World) → TakesTurn w h old new → is_starting old ≡ false → is_starting new ≡ false
stays_begun w h old new (TakesTurn.turn t) over = turn_begun w h old new t over
stays_begun w h old new (TakesTurn.passed_over b reason at ended same) over = ap is_starting same ∙ over
