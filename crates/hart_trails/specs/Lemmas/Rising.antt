-- The generation of a journal rises.
use Rattle.std.proofs.Common.{◌≤◌, List, [], ◌∷◌, ◌++◌, subst, sym, append-nil, arith}
use Rattle.history_event.specs.declared.event.CloseAnswer.TheVariants as closings
use Rattle.history_event.specs.declared.event.Event.{Event}
use Rattle.history_event.specs.declared.event.Event.TheVariants as events
use Rattle.history_event.specs.declared.event.OpenAnswer.TheVariants as openings
use Rattle.history_event.specs.declared.event.SymAnswer.TheVariants as symbols
use Rattle.history_state.specs.After.{after}
use Rattle.history_state.specs.State.{State}
use Rattle.history_state.specs.Step.{die, initialise, loaded, lower, step, unmap}
use Rattle.history_state.specs.Lemmas.History.{after_push, one_behind}

step_rises : (s : State) (e : Event) → s.generation ≤ (step s e).generation
unfolding loaded die lower unmap initialise
step_rises s (events.Open hart ask (openings.Done id root added ranges)) = omega arith
step_rises s (events.Open hart ask openings.Absent) = omega arith
step_rises s (events.Open hart ask (openings.Refused fault)) = omega arith
step_rises s (events.Close hart handle (closings.Done set)) = omega arith
step_rises s (events.Close hart handle (closings.Refused fault)) = omega arith
step_rises s (events.Unmapped hart set) = omega arith
step_rises s (events.Grant number hart owner slot choice value) = omega arith
step_rises s (events.Bound number) = omega arith
step_rises s (events.Lost number saw) = omega arith
step_rises s (events.Unresolved hart owner slot choice) = omega arith
step_rises s (events.Sym hart ask (symbols.Found serial index value)) = omega arith
step_rises s (events.Sym hart ask (symbols.Refused fault)) = omega arith
step_rises s (events.Tls hart owner address) = omega arith
step_rises s (events.Init hart object) = omega arith
step_rises s (events.Fini hart object) = omega arith
step_rises s (events.Wrote hart bytes) = omega arith
step_rises s (events.Told hart fault) = omega arith
step_rises s (events.Ended hart reason) = omega arith

pub generation_rises : (past more : List Event) → (after past).generation ≤ (after (past ++ more)).generation
generation_rises past [] = subst (λ (es : List Event). (after past).generation ≤ (after es).generation) (sym (append-nil past)) (omega arith)
generation_rises past (e ∷ rest) =
    let one : (after past).generation ≤ (after (past ++ e ∷ [])).generation = subst (λ (s : State). (after past).generation ≤ s.generation) (sym (after_push past e)) (step_rises (after past) e) in
    let all : (after (past ++ e ∷ [])).generation ≤ (after (past ++ e ∷ rest)).generation =
    subst (λ (es : List Event). (after (past ++ e ∷ [])).generation ≤ (after es).generation) (one_behind past e rest) (generation_rises (past ++ e ∷ []) rest) in
    omega (arith, one, all)
