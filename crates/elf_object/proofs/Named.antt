-- Each relocation of an object names one of its symbols.
use Rattle.std.proofs.Common.{◌≡◌, ℕ, suc, ◌<◌, true, List, [], ◌∷◌, ◌++◌, length, Some, refl, ◌∙◌}
use Rattle.std.specs.Prelude.{nat_lt}
use Rattle.std.specs.List.{list_all, slice_get}
use Rattle.std.proofs.lemmas.Bool.{and_from, lt-ltb}
use Rattle.std.proofs.lemmas.List.Folds.{list_all-append}
use Rattle.ld_base.specs.declared.object.Reloc.{Reloc}
use Rattle.ld_base.specs.declared.parts.DynParts.{DynParts}
use Rattle.ld_base.specs.declared.parts.Header.{Header}
use Rattle.elf_dynamic.specs.Keeps.{Keeps}

-- each of a list names a symbol where that of each index does
all_name : (count : ℕ) (relocs : List Reloc) → ((i : ℕ) (r : Reloc) → slice_get relocs i ≡ Some r → r.symbol < count) → list_all (λ r. nat_lt r.symbol count) relocs ≡ true
all_name count [] each = refl
all_name count (r ∷ rest) each = rw (lt-ltb r.symbol count (each 0 r refl), all_name count rest (λ i s at. each (suc i) s at)) refl

pub parts_name : (bytes : List ℕ) (headers : List Header) (parts : DynParts) → Keeps bytes headers parts → list_all (λ r. nat_lt r.symbol (length parts.symbols)) (parts.relocs ++ parts.plt_relocs) ≡ true
parts_name bytes headers parts kept =
    list_all-append (λ r. nat_lt r.symbol (length parts.symbols)) parts.relocs parts.plt_relocs
    ∙ and_from _ _ (all_name (length parts.symbols) parts.relocs (λ i r at. (kept.relocs i r at).symbol)) (all_name (length parts.symbols) parts.plt_relocs (λ i r at. (kept.slots i r at).symbol))
