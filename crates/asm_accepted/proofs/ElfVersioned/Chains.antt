-- Records that are linked stand one behind the other.
use Rattle.std.proofs.Common.{◌≡◌, ◌∙◌, ap, subst, ℕ, zero, suc, ◌+◌, ◌*◌, ◌<◌, ◌==◌, Bool, List, [], ◌∷◌, arith}
use Rattle.std.specs.Prelude.{Some}
use Rattle.std.specs.List.{slice_get}
use Rattle.asm_write.specs.declared.field.Field.{Field}
use Rattle.asm_laws.specs.ElfRecords.Numbers.{AllFit}
use Rattle.elf_versions.specs.Linked.{place}
use Rattle.elf_versions.specs.Spells.{AreLinked}
use Rattle.asm_laws.specs.ElfSpelled.Lemmas.Rows.{at_index}
use Rattle.asm_accepted.specs.ElfVersioned.Linked.{EachFits}

module _ {X : Type 0} (R : Bool → ℕ → X → Type 0) (distance : ℕ → ℕ) (start size count : ℕ) (xs : List X) (linked : AreLinked R distance start count xs)
    (leads : (i : ℕ) (x : X) → i + 1 < count → R (i + 1 == count) (start + size * i) x → distance (start + size * i) ≡ size) where
  pub placed : (i : ℕ) → i < count → place distance start i ≡ start + size * i
  placed zero inside = omega arith
  placed (suc i) inside =
      let here = placed i (omega arith) in
      let (x, is) = at_index xs i (let long = linked.count in omega (arith, inside, long)) in
      let reads = subst (λ at. R (i + 1 == count) at x) here (linked.each i x is) in
      let step = leads i x (omega (arith, inside)) reads in
      ap (λ at. at + distance at) here ∙ ap (λ n. start + size * i + n) step ∙ omega arith

  -- each at its place
  pub read_at : (i : ℕ) (x : X) → slice_get xs i ≡ Some x → i < count → R (i + 1 == count) (start + size * i) x
  read_at i x is inside = subst (λ at. R (i + 1 == count) at x) (placed i inside) (linked.each i x is)

pub fits_at : {X : Type 0} (fields : X → List Field) (records : List X) → EachFits fields records → (i : ℕ) (one : X) → slice_get records i ≡ Some one → AllFit (fields one)
fits_at fields [] fit i one is = absurd cc
fits_at fields (x ∷ records) (first, fit) zero one is = let same : x ≡ one = cc in subst (λ y. AllFit (fields y)) same first
fits_at fields (x ∷ records) (first, fit) (suc i) one is = fits_at fields records fit i one is
