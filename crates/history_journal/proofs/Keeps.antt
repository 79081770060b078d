-- What a journal keeps is kept, event by event.
use Rattle.std.proofs.Common.{◌≡◌, ℕ, ◌+◌, ◌-◌, ◌<◌, ◌≤◌, List, [], ◌∷◌, ◌++◌, Some, None, sym, subst, arith}
use Rattle.history_event.specs.declared.event.Event.{Event}
use Rattle.history_state.specs.After.{after, after_from}
use Rattle.history_state.specs.Allowed.{Allowed}
use Rattle.history_state.specs.Legal.{Lawful}
use Rattle.history_state.specs.Owed.{ends_left, owed}
use Rattle.history_state.specs.Setting.{Machine, Setting}
use Rattle.history_journal.specs.Following.{MayFollow, machine_of}
use Rattle.history_journal.specs.Keeping.{IsKept}

lawful_none : (m : Machine) → Lawful m []
unfolding Lawful
lawful_none m = λ k e at. absurd (let d : None ≡ Some e = at in cc)

owed_first : (harts : ℕ) → owed harts (after []) ≡ ends_left harts []
unfolding owed after_from
owed_first harts = omega arith

pub kept_first : (harts : ℕ) (events : List Event) (room : ℕ) → events ≡ [] → ends_left harts [] ≡ harts + 1 → room ≡ harts + 1 → IsKept harts events room
kept_first harts events room none left is = record {
  lawful = subst (Lawful (machine_of harts)) (sym none) (lawful_none (machine_of harts));
  owed = subst (λ (es : List Event). owed harts (after es) ≤ room) (sym none) (omega (arith, owed_first harts, left, is));
}

-- a law's clause: one event more is lawful
abbrev pub Pushes : Type 0
Pushes = (m : Machine) (w : Setting) (events : List Event) (e : Event) → w.machine ≡ m → Lawful m events → Allowed w events e → Lawful m (events ++ e ∷ [])

pub kept_push : Pushes → (harts : ℕ) (events new : List Event) (e : Event) (room left more : ℕ) → new ≡ events ++ e ∷ [] → IsKept harts events room → MayFollow harts events e
    → owed harts (after (events ++ e ∷ [])) ≤ owed harts (after events) + more → left + 1 ≡ room → more < room - owed harts (after events) → IsKept harts new left
kept_push pushes harts events new e room left more is kept next rises fewer enough = record {
  lawful = subst (Lawful (machine_of harts)) (sym is) (pushes (machine_of harts) next.setting events e next.machine kept.lawful next.may);
  owed = subst (λ (es : List Event). owed harts (after es) ≤ left) (sym is) (omega (arith, rises, fewer, enough, kept.owed));
}

pub kept_spend : Pushes → (harts : ℕ) (events new : List Event) (e : Event) (room left : ℕ) → new ≡ events ++ e ∷ [] → IsKept harts events room → MayFollow harts events e
    → owed harts (after (events ++ e ∷ [])) + 1 ≤ owed harts (after events) → left + 1 ≡ room → IsKept harts new left
kept_spend pushes harts events new e room left is kept next falls fewer = record {
  lawful = subst (Lawful (machine_of harts)) (sym is) (pushes (machine_of harts) next.setting events e next.machine kept.lawful next.may);
  owed = subst (λ (es : List Event). owed harts (after es) ≤ left) (sym is) (omega (arith, falls, fewer, kept.owed));
}
