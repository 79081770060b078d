-- What events tell of ends, and whose they are, one after another.
use Rattle.std.proofs.Common.{◌≡◌, List, [], ◌∷◌, ◌++◌, refl, sym, subst, append-nil}
use Rattle.history_event.specs.declared.event.CloseAnswer.TheVariants as closes
use Rattle.history_event.specs.declared.event.Event.{Event}
use Rattle.history_event.specs.declared.event.Event.TheVariants as events
use Rattle.history_event.specs.declared.event.OpenAnswer.TheVariants as opens
use Rattle.history_event.specs.declared.event.SymAnswer.TheVariants as syms
use Rattle.history_event.specs.declared.state.Ending.{Ending}
use Rattle.history_state.specs.Setting.{Setting}
use Rattle.history_state.specs.State.{State}
use Rattle.history_state.specs.Step.{die, initialise, loaded, lower, step, unmap}
use Rattle.history_state.specs.Lemmas.History.{one_behind}
use Rattle.history_calls.specs.RunJournal.{AreByHarts}

abbrev pub told_by : Event → List Ending
told_by e = elim e [ events.Ended hart reason ↦ record { hart = hart; «end» = reason } ∷ [] | _ ↦ [] ]

pub step_ends : (s : State) (e : Event) → (step s e).endings ≡ s.endings ++ told_by e
unfolding loaded die lower unmap initialise
step_ends s (events.Open hart ask (opens.Done id root added ranges)) = sym (append-nil s.endings)
step_ends s (events.Open hart ask opens.Absent) = sym (append-nil s.endings)
step_ends s (events.Open hart ask (opens.Refused fault)) = sym (append-nil s.endings)
step_ends s (events.Close hart handle (closes.Done set)) = sym (append-nil s.endings)
step_ends s (events.Close hart handle (closes.Refused fault)) = sym (append-nil s.endings)
step_ends s (events.Unmapped hart set) = sym (append-nil s.endings)
step_ends s (events.Grant number hart owner slot choice value) = sym (append-nil s.endings)
step_ends s (events.Bound number) = sym (append-nil s.endings)
step_ends s (events.Lost number saw) = sym (append-nil s.endings)
step_ends s (events.Unresolved hart owner slot choice) = sym (append-nil s.endings)
step_ends s (events.Sym hart ask (syms.Found serial index value)) = sym (append-nil s.endings)
step_ends s (events.Sym hart ask (syms.Refused fault)) = sym (append-nil s.endings)
step_ends s (events.Tls hart owner address) = sym (append-nil s.endings)
step_ends s (events.Init hart object) = sym (append-nil s.endings)
step_ends s (events.Fini hart object) = sym (append-nil s.endings)
step_ends s (events.Wrote hart bytes) = sym (append-nil s.endings)
step_ends s (events.Told hart fault) = sym (append-nil s.endings)
step_ends s (events.Ended hart reason) = refl

pub by_both : (w : Setting) (past one other : List Event) → AreByHarts w past one → AreByHarts w (past ++ one) other → AreByHarts w past (one ++ other)
by_both w past [] other a b = subst (λ (es : List Event). AreByHarts w es other) (append-nil past) b
by_both w past (e ∷ rest) other a b =
    (a.0, by_both w (past ++ e ∷ []) rest other a.1 (subst (λ (es : List Event). AreByHarts w es other) (sym (one_behind past e rest)) b))
