-- Events remake memory, and it holds.
use Rattle.std.proofs.Common.{◌≡◌, ℕ, List, [], ◌∷◌, ◌++◌, length, Some, None, refl, sym, ap, subst, ◌∙◌, append-nil}
use Rattle.std.specs.List.{Contains}
use Rattle.std.proofs.Math.Seq.{take-append_seam}
use Rattle.rv_hart.specs.declared.doubleword.Doubleword.{Doubleword}
use Rattle.history_event.specs.declared.event.Event.{Event}
use Rattle.history_event.specs.declared.event.Event.TheVariants as events
use Rattle.history_state.specs.Accepted.{AcceptsOnly}
use Rattle.history_state.specs.After.{after}
use Rattle.history_state.specs.Allowed.{Allowed}
use Rattle.history_state.specs.Legal.{Lawful, Legal}
use Rattle.history_state.specs.Setting.{Machine, Setting}
use Rattle.history_state.specs.State.{State}
use Rattle.history_state.specs.Step.{step}
use Rattle.history_state.specs.Lemmas.History.{after_push, lawful_push, legal_take, one_behind}
use Rattle.history_state.specs.Lemmas.Lists.{here, later}
use Rattle.history_calls.specs.Laws.{hart_of}
use Rattle.history_memory.specs.Holds.{Holds}
use Rattle.history_memory.specs.Memory.{Memory}
use Rattle.history_memory.specs.Remade.{Remade, SettlesRightly, won_after}
use Rattle.hart_moves.specs.Moves.{AreAllowed}
use Rattle.world_turns.specs.Memory.{Remakes, RemakesAll, memory_of}

pub remade : (s : State) (e : Event) (old new : List Doubleword) → Remakes s e old new → Remade s e (memory_of old) (memory_of new)
remade s e old new x = record {
  kept = λ a is untouched. (ap (λ (d : Doubleword). d.value) (x.kept a is untouched), ap (λ (d : Doubleword). d.role) (x.kept a is untouched));
  given = λ r a is there covers. (ap (λ (d : Doubleword). d.value) (x.given r a is there covers), ap (λ (d : Doubleword). d.role) (x.given r a is there covers));
  gone = λ r a is there covers. ap (λ (d : Doubleword). d.role) (x.gone r a is there covers);
}

-- ---- events of a hart settle nothing

no_hart : (h : ℕ) → None ≡ Some h → ⊥
no_hart h e = let d : None ≡ Some h = e in cc

pub same_won : (h : ℕ) (won : List ℕ) (e : Event) → hart_of e ≡ Some h → won_after e won ≡ won
same_won h won (events.Open hart ask answer) of = refl
same_won h won (events.Close hart handle answer) of = refl
same_won h won (events.Unmapped hart set) of = refl
same_won h won (events.Grant number hart owner slot choice value) of = refl
same_won h won (events.Bound number) of = absurd (no_hart h of)
same_won h won (events.Lost number saw) of = absurd (no_hart h of)
same_won h won (events.Unresolved hart owner slot choice) of = refl
same_won h won (events.Sym hart ask answer) of = refl
same_won h won (events.Tls hart owner address) of = refl
same_won h won (events.Init hart object) of = refl
same_won h won (events.Fini hart object) of = refl
same_won h won (events.Wrote hart bytes) of = refl
same_won h won (events.Told hart fault) of = refl
same_won h won (events.Ended hart reason) of = refl

pub settles_rightly : (h : ℕ) (won : List ℕ) (e : Event) → hart_of e ≡ Some h → SettlesRightly won e
settles_rightly h won (events.Open hart ask answer) of = tt
settles_rightly h won (events.Close hart handle answer) of = tt
settles_rightly h won (events.Unmapped hart set) of = tt
settles_rightly h won (events.Grant number hart owner slot choice value) of = tt
settles_rightly h won (events.Bound number) of = absurd (no_hart h of)
settles_rightly h won (events.Lost number saw) of = absurd (no_hart h of)
settles_rightly h won (events.Unresolved hart owner slot choice) of = tt
settles_rightly h won (events.Sym hart ask answer) of = tt
settles_rightly h won (events.Tls hart owner address) of = tt
settles_rightly h won (events.Init hart object) of = tt
settles_rightly h won (events.Fini hart object) of = tt
settles_rightly h won (events.Wrote hart bytes) of = tt
settles_rightly h won (events.Told hart fault) of = tt
settles_rightly h won (events.Ended hart reason) of = tt

-- ---- one event after another

abbrev pub EventsKeep : Type 0
EventsKeep = (m : Machine) (w : Setting) (past : List Event) (e : Event) (won : List ℕ) (old new : Memory) → w.machine ≡ m → AcceptsOnly m → Lawful m past → Allowed w past e → SettlesRightly won e
    → Holds (after past) won old → Remade (after past) e old new → Holds (after (past ++ e ∷ [])) (won_after e won) new

-- each event is some hart's
abbrev pub OfHarts : List Event → Type 0
OfHarts [] = Unit {0}
OfHarts (e ∷ rest) = ((h : ℕ) × (hart_of e ≡ Some h)) × OfHarts rest

pub of_hart : (h : ℕ) (added : List Event) → ((e : Event) → Contains added e → hart_of e ≡ Some h) → OfHarts added
of_hart h [] of = tt
of_hart h (e ∷ rest) of = ((h, of e (here e rest)), of_hart h rest (λ x there. of x (later e rest x there)))

-- a history that is legal with events behind it is legal
pub legal_front : (w : Setting) (past added : List Event) → Legal w (past ++ added) → Legal w past
legal_front w past added legal = subst (Legal w) (take-append_seam past added) (legal_take w (past ++ added) (length past) legal)

pub events_hold : EventsKeep → (w : Setting) → AcceptsOnly w.machine → (past : List Event) (won : List ℕ) (added : List Event) (old new : List Doubleword) → Lawful w.machine past → AreAllowed w past added → OfHarts added
    → Holds (after past) won (memory_of old) → RemakesAll (after past) added old new → Holds (after (past ++ added)) won (memory_of new)
events_hold keep w only past won [] old new lawful may of holds is =
    subst (λ (ws : List Doubleword). Holds (after (past ++ [])) won (memory_of ws)) (sym is) (subst (λ (es : List Event). Holds (after es) won (memory_of old)) (sym (append-nil past)) holds)
events_hold keep w only past won (e ∷ rest) old new lawful may of holds (between, one, more) =
    let first : Holds (after (past ++ e ∷ [])) (won_after e won) (memory_of between) = keep w.machine w past e won (memory_of old) (memory_of between) refl only lawful may.0 (settles_rightly of.0.0 won e of.0.1) holds (remade (after past) e old between one) in
    subst (λ (es : List Event). Holds (after es) won (memory_of new)) (one_behind past e rest)
    (events_hold keep w only (past ++ e ∷ []) won rest between new (lawful_push w.machine w past e refl lawful may.0) may.1 of.1
    (subst (λ (ns : List ℕ). Holds (after (past ++ e ∷ [])) ns (memory_of between)) (same_won of.0.0 won e of.0.1) first)
    (subst (λ (s : State). RemakesAll s rest between new) (sym (after_push past e)) more))

pub remakes_length : (s : State) (added : List Event) (old new : List Doubleword) → RemakesAll s added old new → length new ≡ length old
remakes_length s [] old new is = ap (λ (ws : List Doubleword). length ws) is
remakes_length s (e ∷ rest) old new (between, one, more) = remakes_length (step s e) rest between new more ∙ one.all
