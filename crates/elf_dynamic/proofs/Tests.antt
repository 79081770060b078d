-- What each test that the code is proved against decides.
use Rattle.std.proofs.Common.{cond, ◌≡◌, ◌≢◌, refl, ℕ, zero, suc, ◌==◌, ◌&&◌, Bool, true, not, List, [], ◌∷◌, Some, arith, inl, inr}
use Rattle.std.specs.Prelude.{Decides, count_by, max}
use Rattle.std.specs.List.{list_any, slice_get}
use Rattle.std.proofs.lemmas.List.Sums.{sum_by-cons}
use Rattle.std.proofs.lemmas.Bool.Decides.{nat_tests, Decides-eqb}
use Rattle.ld_base.specs.declared.object.Reloc.{Reloc}
use Rattle.ld_base.specs.declared.object.Span.{Span}
use Rattle.ld_base.specs.declared.object.Symbol.{Symbol}
use Rattle.ld_base.specs.declared.parts.Header.{Header}
use Rattle.ld_base.specs.declared.parts.Tag.{Tag}
use Rattle.elf_head.specs.DynTable.Tag.{has, last_of}
use Rattle.elf_dynamic.specs.Breaks.{IsBadReloc}
use Rattle.elf_dynamic.specs.Breaks.IsBadReloc.{no_symbol, is_slot, copies_null, copies_outside, no_place}
use Rattle.elf_dynamic.specs.Memory.{holds, in_executable, in_writable, overlaps}
use Rattle.elf_dynamic.specs.Parts.{Stands}
use Rattle.elf_dynamic.specs.Ranges.{is_executable, is_writable, IsPlace, IsWritable, LiesIn, Share}
use Rattle.elf_dynamic.specs.Rules.{is_bad_place, is_bad_reloc}
use Rattle.elf_head.specs.AcceptancePart.Lemmas.Finds.{any_at, same_some}
use Rattle.elf_head.specs.AcceptancePart.Lemmas.Tests.{either, itself, means, refuted, settle, some_decides}

pub stands_decides : (tags : List Tag) (tag : ℕ) → Decides (has tags tag) (Stands tags tag)
stands_decides tags tag = some_decides (last_of tags tag)

-- ---- ranges

pub share_decides : (a b : Span) → Decides (overlaps a b) (Share a b)
share_decides a b = (
  λ e. record { byte = max a.start b.start; first = grind (arith, nat_tests); second = grind (arith, nat_tests) },
  λ s. grind (arith, nat_tests, s.first, s.second),
)

pub turn : (a b : Span) → Share a b → Share b a
turn a b s = record { byte = s.byte; first = s.second; second = s.first }

lies_decides : (headers : List Header) (kind : Header → Bool) (s : Span) → Decides (list_any (λ h. kind h && holds s h) headers) (LiesIn headers kind s)
lies_decides headers kind s =
    let any = any_at (λ h. kind h && holds s h) _ (λ h. itself (kind h && holds s h)) headers in
    means any (λ (k, h, is, inside). record {
      index = k;
      segment = h;
      is = is;
      mapped = grind arith;
      flagged = grind arith;
      low = grind (arith, nat_tests);
      high = grind (arith, nat_tests);
    })
    (λ l. (l.index, l.segment, l.is, (let flagged = l.flagged in let mapped = l.mapped in let low = l.low in let high = l.high in grind (arith, nat_tests))))

pub writable_decides : (headers : List Header) (s : Span) → Decides (in_writable headers s) (IsWritable headers s)
unfolding in_writable
writable_decides headers s = either (Decides-eqb s.size 0) (lies_decides headers is_writable s)

pub executable_decides : (headers : List Header) (address : ℕ)
    → Decides (in_executable headers address) (LiesIn headers is_executable (record { start = address; size = 1 }))
unfolding in_executable
executable_decides headers address = lies_decides headers is_executable (record { start = address; size = 1 })

pub place_decides : (headers : List Header) (place : ℕ) → Decides (is_bad_place headers place) (IsPlace headers place → ⊥)
place_decides headers place = grind (arith, nat_tests, writable_decides)

-- ---- relocations

pub reloc_decides : (headers : List Header) (symbols : List Symbol) (r : Reloc) → Decides (is_bad_reloc headers symbols r) (IsBadReloc headers symbols r)
reloc_decides headers symbols r = grind (arith, nat_tests, writable_decides, place_decides, no_symbol, is_slot, copies_null, copies_outside, no_place)

-- ---- counting

-- some are counted where one passes
pub counted : {X : Type 0} (p : X → Bool) (xs : List X) → not (count_by p xs == 0) ≡ list_any p xs
counted p [] = refl
counted p (x ∷ xs) = let more = sum_by-cons (λ z. cond (p z) 1 0) x xs in grind (arith, nat_tests, counted p xs)

module _ {X : Type 0} (p : X → Bool) (P : X → Type 0) (each : (x : X) → Decides (p x) (P x)) where
  abbrev pub Others : List X → ℕ → Type 0
  Others xs k = (j : ℕ) × (j ≢ k) × (x : X) × (slice_get xs j ≡ Some x) × P x

  -- where one passes, their number isn't 1 just where another does
  pub twice_decides : (xs : List X) (k : ℕ) (x : X) → slice_get xs k ≡ Some x → P x → Decides (not (count_by p xs == 1)) (Others xs k)
  twice_decides [] k x is h = absurd cc
  twice_decides (x ∷ xs) zero y is h =
      let here : p x ≡ true = rw (← same_some is) at ((each y).1 h) in
      let more = sum_by-cons (λ z. cond (p z) 1 0) x xs in
      let same : not (count_by p (x ∷ xs) == 1) ≡ list_any p xs = grind (arith, nat_tests, counted p xs) in
      rw same (means (any_at p P each xs) (λ (j, z, at, passes). (suc j, λ e. absurd (omega arith), z, at, passes)) (λ found. grind arith))
  twice_decides (x ∷ xs) (suc k) y is h =
      let more = sum_by-cons (λ z. cond (p z) 1 0) x xs in
      let some = (any_at p P each xs).1 (k, y, is, h) in
      elim (settle (each x)) [
        | inl passes ↦ (λ e. (0, λ same. absurd (omega arith), x, refl, passes), λ found. grind (arith, nat_tests, counted p xs, (each x).1 passes))
        | inr fails ↦
            let none = refuted (each x) fails in
            let same : count_by p (x ∷ xs) ≡ count_by p xs = grind arith in
            rw same (means (twice_decides xs k y is h) (λ (j, other, z, at, passes). (suc j, λ e. other (omega arith), z, at, passes)) (λ found. grind arith))
      ]
