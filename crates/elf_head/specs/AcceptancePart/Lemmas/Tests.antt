-- What tests that are made of others decide.
use Rattle.std.proofs.Common.{◌≡◌, ◌⊎◌, refl, ℕ, ◌≤◌, ◌||◌, ◌&&◌, Bool, true, false, not, List, Option, Some, None, arith, inl, inr}
use Rattle.std.proofs.Common.{nat_le, nat_lt}
use Rattle.std.specs.Bool.{Decides}
use Rattle.std.specs.List.{list_any, slice_get}
use Rattle.std.specs.Option.{is_some, option_map_or}
use Rattle.std.proofs.lemmas.Bool.{cases_Bool, false_from_ne_true, leb-true, le-leb}
use Rattle.std.proofs.lemmas.Bool.Decides.{nat_tests, Decides-and, Decides-like, Decides-not, Decides-or, not_from_Decides}
use Rattle.elf_head.specs.AcceptancePart.Lemmas.Finds.{any_at, same_some}

pub both : {a b : Bool} {P Q : Type 0} → Decides a P → Decides b Q → Decides (a && b) (P × Q)
both {a} {b} d e = Decides-and a b d e

pub either : {a b : Bool} {P Q : Type 0} → Decides a P → Decides b Q → Decides (a || b) (P ⊎ Q)
either {a} {b} d e = Decides-or a b d e

-- the second counts only where the first fails
pub or_then : {a b : Bool} {P Q : Type 0} → Decides a P → ((P → ⊥) → Decides b Q) → Decides (a || b) (P ⊎ Q)
or_then {a = true} d k = (λ e. inl (d.0 refl), λ why. refl)
or_then {a = false} d k = Decides-or false _ d (k (not_from_Decides false d refl))

pub contrary : {a : Bool} {P : Type 0} → Decides a P → Decides (not a) (P → ⊥)
contrary {a} d = Decides-not a d

pub means : {a : Bool} {P Q : Type 0} → Decides a P → (P → Q) → (Q → P) → Decides a Q
means {a} d to from = Decides-like a to from d

pub settle : {a : Bool} {P : Type 0} → Decides a P → P ⊎ (P → ⊥)
settle {a} d = elim (cases_Bool a) [ inl holds ↦ inl (d.0 holds) | inr fails ↦ inr (not_from_Decides a d fails) ]

pub refuted : {a : Bool} {P : Type 0} → Decides a P → (P → ⊥) → a ≡ false
refuted {a} d never = false_from_ne_true a (λ e. never (d.0 e))

-- what a test decides holds, where its contrary doesn't
pub decided : {a : Bool} {P : Type 0} → Decides a P → ((P → ⊥) → ⊥) → P
decided d never = elim (settle d) [ inl holds ↦ holds | inr fails ↦ absurd (never fails) ]

pub itself : (b : Bool) → Decides b (b ≡ true)
itself b = (λ e. e, λ e. e)

pub le_decides : (a b : ℕ) → Decides (nat_le a b) (a ≤ b)
le_decides a b = (leb-true a b, le-leb a b)

pub past_decides : (a b : ℕ) → Decides (not (nat_lt a b)) (b ≤ a)
past_decides a b = (λ e. grind (arith, nat_tests), λ past. grind (arith, nat_tests))

-- some element of a list
abbrev pub Among : {X : Type 0} → List X → (X → Type 0) → Type 0
Among {X} xs P = (k : ℕ) × (x : X) × (slice_get xs k ≡ Some x) × P x

pub among : {X : Type 0} {p : X → Bool} {P : X → Type 0} → ((x : X) → Decides (p x) (P x)) → (xs : List X) → Decides (list_any p xs) (Among xs P)
among {X} {p} {P} each xs = any_at p P each xs

-- a value that is there, and passes, or else
module _ {X : Type 0} (test : X → Bool) (P : X → Type 0) (each : (x : X) → Decides (test x) (P x)) where
  pub there_decides : (o : Option X) → Decides (option_map_or test o false) ((x : X) × (o ≡ Some x) × P x)
  there_decides None = (λ e. absurd cc, λ (x, e, p). absurd cc)
  there_decides (Some x) = means (each x) (λ p. (x, refl, p)) (λ (y, e, p). rw (← same_some e) at p)

  pub all_decides : (o : Option X) → Decides (option_map_or test o true) ((x : X) → o ≡ Some x → P x)
  all_decides None = (λ e x is. absurd cc, λ never. refl)
  all_decides (Some x) = means (each x) (λ p y e. rw (same_some e) at p) (λ all. all x refl)

pub some_decides : {X : Type 0} (o : Option X) → Decides (is_some o) ((x : X) × (o ≡ Some x))
some_decides None = (λ e. absurd cc, λ (v, e). absurd cc)
some_decides (Some v) = (λ e. (v, refl), λ found. refl)
