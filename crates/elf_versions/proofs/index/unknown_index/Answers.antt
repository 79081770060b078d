use Rattle.std.proofs.Common.{◌≡◌, ◌==◌, ◌∙◌, ap, sym, refl, ℕ, Bool, true, false, arith, List, [], ◌∷◌, length}
use Rattle.std.proofs.lemmas.Bool.{true≢false}
use Rattle.std.proofs.lemmas.Bool.Decides.{nat_tests}
use Rattle.std.specs.Prelude.{position, None}
use Rattle.ld_base.specs.declared.parts.Versions.{Versions}
use Rattle.elf_versions.specs.Index.{indexes_of, is_unknown, unknown_index}
use Rattle.elf_versions.proofs.index.unknown_index.Goals as goal

none_in : (p : ℕ → Bool) (xs : List ℕ) → (length xs == 0) ≡ true → None ≡ position p xs
none_in p [] e = refl
none_in p (x ∷ xs) e =
    let some : (length (x ∷ xs) == 0) ≡ false = grind (arith, nat_tests) in
    absurd (true≢false (sym e ∙ some))

pub returns-then-is_empty : goal.returns-then-is_empty
unfolding unknown_index
returns-then-is_empty c =
    let versions = c.args.versions.now in
    none_in (is_unknown (indexes_of versions.verdefs versions.verneeds)) versions.versym
    (sym (ap (λ (x : Versions). length x.versym == 0) c.versions.view_is) ∙ sym c.is_empty.ensures ∙ c.if-is_empty.true)
