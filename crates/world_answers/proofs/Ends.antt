-- A hart that may end has ended less often than it may.
use Rattle.std.proofs.Common.{◌≡◌, ⊎_elim, ℕ, ◌+◌, ◌<◌, ◌≤◌, Bool, true, false, cond, eqb, List, [], ◌∷◌, ◌++◌, map, length, refl, sym, ap, subst, ◌∙◌, arith, length-append}
use Rattle.std.specs.Prelude.{if◌then◌else◌, IsTrue}
use Rattle.std.proofs.lemmas.Bool.{and_parts, eqb-true, or_parts}
use Rattle.std.proofs.lemmas.List.Sums.{sum_by-cons, sum_by_push}
use Rattle.history_event.specs.declared.event.CloseAnswer.TheVariants as closes
use Rattle.history_event.specs.declared.event.Event.{Event}
use Rattle.history_event.specs.declared.event.Event.TheVariants as events
use Rattle.history_event.specs.declared.event.OpenAnswer.TheVariants as opens
use Rattle.history_event.specs.declared.event.SymAnswer.TheVariants as syms
use Rattle.history_event.specs.declared.hart_end.HartEnd.{HartEnd}
use Rattle.history_event.specs.declared.state.Ending.{Ending}
use Rattle.history_state.specs.After.{after}
use Rattle.history_state.specs.Allowed.{AllowedIn, MayEnd}
use Rattle.history_state.specs.Legal.{Lawful}
use Rattle.history_state.specs.Objects.{has}
use Rattle.history_state.specs.Owed.{ends_at_most, times_ended}
use Rattle.history_state.specs.Setting.{Machine, Setting, are_finals, have_exited}
use Rattle.history_state.specs.State.{State}
use Rattle.history_state.specs.Step.{die, initialise, loaded, lower, step, unmap}
use Rattle.history_state.specs.Lemmas.History.{by_lawful}

-- ---- one end more

abbrev one_if : Bool → ℕ
one_if b = cond b 1 0

times_push : (hart : ℕ) (endings : List Ending) (e : Ending) → times_ended hart (endings ++ e ∷ []) ≡ times_ended hart endings + one_if (eqb e.hart hart)
times_push hart endings e = sum_by_push (λ (x : Ending). one_if (eqb x.hart hart)) endings e

none_ended : (hart : ℕ) (endings : List Ending) → has (map (λ (e : Ending). e.hart) endings) hart ≡ false → times_ended hart endings ≡ 0
none_ended hart [] none = refl
none_ended hart (x ∷ rest) none =
    let parts = or_parts (eqb x.hart hart) (has (map (λ (e : Ending). e.hart) rest) hart) none in
    let here : times_ended hart (x ∷ rest) ≡ one_if (eqb x.hart hart) + times_ended hart rest = sum_by-cons (λ (e : Ending). one_if (eqb e.hart hart)) x rest in
    let first : one_if (eqb x.hart hart) ≡ 0 = ap one_if parts.0 in
    let later = none_ended hart rest parts.1 in
    omega (arith, here, first, later)

-- while no more have ended than there are harts, each has ended once at most
abbrev Once : ℕ → List Ending → Type 0
Once harts endings = length endings ≤ harts → (hart : ℕ) → times_ended hart endings ≤ 1

module _ (m : Machine) (w : Setting) (same : w.machine ≡ m) where
  all_ended : (s : State) → IsTrue (are_finals w s) → length s.endings ≡ m.harts
  all_ended s finals =
      eqb-true (length s.endings) w.machine.harts (and_parts (eqb (length s.endings) w.machine.harts) (have_exited w s) finals).0 ∙ ap (λ (n : Machine). n.harts) same

  once_ended : (s : State) (hart : ℕ) (reason : HartEnd) → Once m.harts s.endings → MayEnd w s hart → Once m.harts (s.endings ++ record { hart = hart; «end» = reason } ∷ [])
  once_ended s hart reason once may = λ few h.
      let e : Ending = record { hart = hart; «end» = reason } in
      let long : length (s.endings ++ e ∷ []) ≡ length s.endings + 1 = length-append s.endings (e ∷ []) in
      let more = times_push h s.endings e in
      let before : times_ended h s.endings ≤ 1 = once (omega (arith, few, long)) h in
      ⊎_elim
      (λ (fresh : has (map (λ (x : Ending). x.hart) s.endings) hart ≡ false). by h (eqb hart h) refl (none_ended hart s.endings fresh) before more)
      (λ (last : (hart ≡ 0) × IsTrue (are_finals w s)). let all = all_ended s last.1 in absurd (omega (arith, few, long, all)))
      may
    where
      by : (h : ℕ) (b : Bool) → eqb hart h ≡ b → times_ended hart s.endings ≡ 0 → times_ended h s.endings ≤ 1
          → times_ended h (s.endings ++ record { hart = hart; «end» = reason } ∷ []) ≡ times_ended h s.endings + one_if (eqb hart h)
          → times_ended h (s.endings ++ record { hart = hart; «end» = reason } ∷ []) ≤ 1
      by h true e none before more =
          let own : times_ended h s.endings ≡ 0 = subst (λ (n : ℕ). times_ended n s.endings ≡ 0) (eqb-true hart h e) none in
          let one : one_if (eqb hart h) ≡ 1 = ap one_if e in
          omega (arith, own, one, more)
      by h false e none before more =
          let nothing : one_if (eqb hart h) ≡ 0 = ap one_if e in
          omega (arith, before, nothing, more)

  keeps : (past : List Event) (s : State) (e : Event) → Once m.harts s.endings → AllowedIn w past s e → Once m.harts (step s e).endings
  unfolding loaded die lower unmap initialise
  keeps past s (events.Open hart ask (opens.Done id root added ranges)) once may = once
  keeps past s (events.Open hart ask opens.Absent) once may = once
  keeps past s (events.Open hart ask (opens.Refused fault)) once may = once
  keeps past s (events.Close hart handle (closes.Done set)) once may = once
  keeps past s (events.Close hart handle (closes.Refused fault)) once may = once
  keeps past s (events.Unmapped hart set) once may = once
  keeps past s (events.Grant number hart owner slot choice value) once may = once
  keeps past s (events.Bound number) once may = once
  keeps past s (events.Lost number saw) once may = once
  keeps past s (events.Unresolved hart owner slot choice) once may = once
  keeps past s (events.Sym hart ask (syms.Found serial index value)) once may = once
  keeps past s (events.Sym hart ask (syms.Refused fault)) once may = once
  keeps past s (events.Tls hart owner address) once may = once
  keeps past s (events.Init hart object) once may = once
  keeps past s (events.Fini hart object) once may = once
  keeps past s (events.Wrote hart bytes) once may = once
  keeps past s (events.Told hart fault) once may = once
  keeps past s (events.Ended hart reason) once may = once_ended s hart reason once may

once_each : (m : Machine) (journal : List Event) → Lawful m journal → Once m.harts (after journal).endings
once_each m journal lawful =
    by_lawful m (λ (s : State). Once m.harts s.endings) (λ few hart. omega arith) (λ w past e same before once may. keeps m w same past (after past) e once may) journal lawful

-- ---- a hart that may end

one_end : (b : Bool) → 1 ≤ (if b then 2 else 1)
one_end true = omega arith
one_end false = omega arith

pub ends_few : (w : Setting) (journal : List Event) (hart : ℕ) → Lawful w.machine journal → MayEnd w (after journal) hart → times_ended hart (after journal).endings < ends_at_most hart
ends_few w journal hart lawful may = ⊎_elim
    (λ (fresh : has (map (λ (x : Ending). x.hart) (after journal).endings) hart ≡ false).
    let none = none_ended hart (after journal).endings fresh in
    let least : 1 ≤ ends_at_most hart = one_end (eqb hart 0) in
    omega (arith, none, least))
    (λ (last : (hart ≡ 0) × IsTrue (are_finals w (after journal))).
    let all = all_ended w.machine w refl (after journal) last.1 in
    let one : times_ended 0 (after journal).endings ≤ 1 = once_each w.machine journal lawful (omega (arith, all)) 0 in
    subst (λ (h : ℕ). times_ended h (after journal).endings < ends_at_most h) (sym last.0) (omega (arith, one)))
    may
