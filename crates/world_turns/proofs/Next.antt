-- What is settled changes no hart's next turn.
use Rattle.std.proofs.Common.{◌≡◌, ℕ, Bool, true, false, cond, List, [], ◌∷◌, ◌++◌, refl, sym, ap, ◌∙◌, append-nil}
use Rattle.std.specs.List.{slice_get}
use Rattle.history_event.specs.declared.event.Event.{Event}
use Rattle.history_event.specs.declared.event.Event.TheVariants.{Bound, Lost}
use Rattle.history_state.specs.After.{after}
use Rattle.history_state.specs.State.{State}
use Rattle.history_state.specs.Step.{step}
use Rattle.history_state.specs.Lemmas.History.{after_push, one_behind}
use Rattle.history_calls.specs.Call.{caller_namespace}
use Rattle.history_calls.specs.Lemmas.Unique.{both_found}
use Rattle.hart_moves.specs.Due.{by_phase, call_of, due}
use Rattle.hart_moves.specs.Harts.{HartState, Offered, Resolving}
use Rattle.hart_moves.specs.Moves.{settles}
use Rattle.world_turns.specs.Next.{OneDue, SettlingKeepsDue}
use Rattle.world_turns.specs.World.{World, has_won, settled_by, settling, settling_event}

due_bound : (s : State) (number : ℕ) (b : HartState) → due (step s (Bound number)) b ≡ due s b
unfolding due by_phase call_of caller_namespace
due_bound s number b = refl

due_lost : (s : State) (number saw : ℕ) (b : HartState) → due (step s (Lost number saw)) b ≡ due s b
unfolding due by_phase call_of caller_namespace
due_lost s number saw b = refl

due_by : (s : State) (o : Offered) (found : ℕ) (b : HartState) (won : Bool) → due (step s (cond won (Bound o.number) (Lost o.number found))) b ≡ due s b
due_by s o found b true = due_bound s o.number b
due_by s o found b false = due_lost s o.number found b

due_behind : (past : List Event) (o : Offered) (found : ℕ) (b : HartState) → due (after (past ++ settling_event o found ∷ [])) b ≡ due (after past) b
due_behind past o found b = ap (λ (s : State). due s b) (after_push past (settling_event o found)) ∙ due_by (after past) o found b (has_won o found)

due_place : (past more : List Event) (r : Resolving) (b : HartState) → ((journal : List Event) → due (after (journal ++ more)) b ≡ due (after journal) b) → due (after (past ++ (settled_by r ++ more))) b ≡ due (after past) b
due_place past more Resolving.idle b rest = rest past
due_place past more (Resolving.to_exchange o) b rest = rest past
due_place past more (Resolving.to_finish o found) b rest = rest past
due_place past more (Resolving.to_settle o found) b rest =
    ap (λ (es : List Event). due (after es) b) (sym (one_behind past (settling_event o found) more)) ∙ rest (past ++ settling_event o found ∷ []) ∙ due_behind past o found b

pub settling_keeps : SettlingKeepsDue
settling_keeps past [] b = ap (λ (es : List Event). due (after es) b) (append-nil past)
settling_keeps past (x ∷ rest) b = due_place past (settling rest) x.resolving b (λ journal. settling_keeps journal rest b)

due_found : (old : World) (b : HartState) (t : Bool) → due (after (old.journal ++ cond t (settling old.harts) [])) b ≡ due (after old.journal) b
due_found old b true = settling_keeps old.journal old.harts b
due_found old b false = ap (λ (es : List Event). due (after es) b) (append-nil old.journal)

pub one_due : OneDue
one_due w h old new other one two =
    due_found old one.before (settles one.did)
    ∙ ap (λ (b : HartState). due (after old.journal) b) (both_found (slice_get old.harts h) one.before two.before one.there two.there)
    ∙ sym (due_found old two.before (settles two.did))
