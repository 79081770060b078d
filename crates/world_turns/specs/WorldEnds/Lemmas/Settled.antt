-- What is settled leaves all of a state but its grants.
use Rattle.std.proofs.Common.{◌≡◌, ℕ, Bool, true, false, cond, List, [], ◌∷◌, ◌++◌, sym, ap, ◌∙◌, append-nil}
use Rattle.history_event.specs.declared.event.Event.{Event}
use Rattle.history_event.specs.declared.event.Event.TheVariants.{Bound, Lost}
use Rattle.history_event.specs.declared.state.Standing.{Standing}
use Rattle.history_event.specs.declared.state.Standing.TheVariants as standings
use Rattle.history_state.specs.After.{after}
use Rattle.history_state.specs.State.{State}
use Rattle.history_state.specs.Step.{settle, step}
use Rattle.history_state.specs.Lemmas.History.{after_push, one_behind}
use Rattle.hart_moves.specs.Harts.{HartState, Offered, Resolving}
use Rattle.hart_moves.specs.Moves.{Did, settles}
use Rattle.world_turns.specs.World.{World, found_journal, has_won, settled_by, settling, settling_event}

module _ (X : Type 0) (f : State → X) (keeps : (s : State) (number : ℕ) (standing : Standing) → f (settle number standing s) ≡ f s) where
  by : (s : State) (o : Offered) (found : ℕ) (won : Bool) → f (step s (cond won (Bound o.number) (Lost o.number found))) ≡ f s
  by s o found true = keeps s o.number standings.Bound
  by s o found false = keeps s o.number (standings.Lost found)

  behind : (past : List Event) (o : Offered) (found : ℕ) → f (after (past ++ settling_event o found ∷ [])) ≡ f (after past)
  behind past o found = ap f (after_push past (settling_event o found)) ∙ by (after past) o found (has_won o found)

  place : (past more : List Event) (r : Resolving) → ((journal : List Event) → f (after (journal ++ more)) ≡ f (after journal)) → f (after (past ++ (settled_by r ++ more))) ≡ f (after past)
  place past more Resolving.idle rest = rest past
  place past more (Resolving.to_exchange o) rest = rest past
  place past more (Resolving.to_finish o found) rest = rest past
  place past more (Resolving.to_settle o found) rest =
      ap (λ (es : List Event). f (after es)) (sym (one_behind past (settling_event o found) more)) ∙ rest (past ++ settling_event o found ∷ []) ∙ behind past o found

  pub settling_keeps : (past : List Event) (harts : List HartState) → f (after (past ++ settling harts)) ≡ f (after past)
  settling_keeps past [] = ap (λ (es : List Event). f (after es)) (append-nil past)
  settling_keeps past (b ∷ rest) = place past (settling rest) b.resolving (λ journal. settling_keeps journal rest)

  by_settles : (old : World) (t : Bool) → f (after (old.journal ++ cond t (settling old.harts) [])) ≡ f (after old.journal)
  by_settles old true = settling_keeps old.journal old.harts
  by_settles old false = ap (λ (es : List Event). f (after es)) (append-nil old.journal)

  -- so it is found by a turn
  pub found_keeps : (old : World) (did : Did) → f (after (found_journal old did)) ≡ f (after old.journal)
  found_keeps old did = by_settles old (settles did)
