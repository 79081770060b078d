-- The word that each type gives.
use Rattle.std.proofs.Common.{◌≡◌, ℕ, ◌+◌, ◌%◌, ◌^◌, Bool, true, false, List, Option, Some, None, refl, arith, ap, if◌then◌else◌}
use Rattle.std.specs.Prelude.{unwrap_or}
use Rattle.ld_base.specs.declared.object.Reloc.{Reloc}
use Rattle.relocator.specs.declared.binding.Binding.{Binding}
use Rattle.relocator.specs.declared.binding.ModulePlace.{ModulePlace}
use Rattle.relocator.specs.Relocated.{addend_of, fills_word, value_of, wrapped}
use Rattle.relocator.specs.Storage.{module_of, offset_of, storage_object, storage_value}

module _ (base serial : ℕ) (places : List ModulePlace) (r : Reloc) (b : Binding) where
  abbrev given : Option ℕ
  given = if fills_word r then Some (value_of base serial places (r, b)) else None

  pub gives_64 : (addend : ℕ) → r.kind ≡ 2 → addend ≡ addend_of r → Some ((b.value + addend) % 2 ^ 64) ≡ given
  unfolding value_of
  gives_64 addend kind is = rw (kind, is)

  pub gives_relative : (addend : ℕ) → r.kind ≡ 3 → addend ≡ addend_of r → Some ((base + addend) % 2 ^ 64) ≡ given
  unfolding value_of
  gives_relative addend kind is = rw (kind, is)

  pub gives_module : (number : ℕ) → r.kind ≡ 7 → number ≡ module_of places (storage_object serial r b) → Some number ≡ given
  unfolding value_of
  gives_module number kind is = rw (kind, is)

  wrapped_twice : (a c : ℕ) → wrapped (wrapped a + c) ≡ wrapped (a + c)
  wrapped_twice a c = omega arith

  pub gives_block_place : (value addend : ℕ) → r.kind ≡ 9 → value ≡ storage_value r b → addend ≡ addend_of r → Some (wrapped (wrapped (value + addend) + 18446744073709549568)) ≡ given
  unfolding value_of
  gives_block_place value addend kind is is_addend = rw (kind, is, is_addend) (ap Some (wrapped_twice (storage_value r b + addend_of r) 18446744073709549568))

  pub gives_static_place : (value addend offset : ℕ) → r.kind ≡ 11 → value ≡ storage_value r b → addend ≡ addend_of r → offset ≡ unwrap_or (offset_of places (storage_object serial r b)) 0
      → Some (wrapped (wrapped (value + addend) + offset)) ≡ given
  unfolding value_of
  gives_static_place value addend offset kind is is_addend is_offset =
      rw (kind, is, is_addend, is_offset) (ap Some (wrapped_twice (storage_value r b + addend_of r) (unwrap_or (offset_of places (storage_object serial r b)) 0)))

  pub fills_where_given : (word : ℕ) → Some word ≡ given → (fills_word r ≡ true) × (word ≡ value_of base serial places (r, b))
  fills_where_given word is = by_test (fills_word r) is
    where
      by_test : (t : Bool) → Some word ≡ (if t then Some (value_of base serial places (r, b)) else None) → (t ≡ true) × (word ≡ value_of base serial places (r, b))
      by_test true some = (refl, cc)
      by_test false none = absurd cc

  pub skips_where_none : given ≡ None → fills_word r ≡ false
  skips_where_none is = by_test (fills_word r) is
    where
      by_test : (t : Bool) → (if t then Some (value_of base serial places (r, b)) else None) ≡ None → t ≡ false
      by_test true some = absurd cc
      by_test false none = refl
