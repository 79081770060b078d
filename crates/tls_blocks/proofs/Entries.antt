-- A hart's entries stay apart.
use Rattle.std.proofs.Common.{◌≡◌, Bool, true, not, eqb, List, inl, inr, get_or, refl, sym, ap, ◌∙◌}
use Rattle.std.specs.List.{filter}
use Rattle.std.specs.Prelude.{◌≢◌}
use Rattle.std.proofs.lemmas.Bool.{cases_Bool, eq-eqb, eqb-true, ne_eqb, true≢false}
use Rattle.std.proofs.lemmas.List.Elements.{filter_passes}
use Rattle.std.proofs.lemmas.List.Kept.{AllPairs-filter}
use Rattle.std.proofs.lemmas.List.Quantifiers.{all_pairs_push}
use Rattle.tls_blocks.specs.declared.entry.Entry.{Entry}
use Rattle.tls_blocks.specs.Blocks.{AreApart, BlockTable, FitsModules, compared, is_current, with_entry}
use Rattle.tls_blocks.specs.Numbers.{ModuleTable}
use Rattle.tls_blocks.proofs.Parts.{filter_all}

abbrev Apart : Entry → Entry → Type 0
Apart x y = x.number ≢ y.number

pub apart_filter : (p : Entry → Bool) (es : List Entry) → AreApart es → AreApart (filter p es)
apart_filter p es apart = AllPairs-filter Apart p es apart

pub apart_with : (es : List Entry) (e : Entry) → AreApart es → AreApart (with_entry e es)
apart_with es e apart =
    let other : Entry → Bool = λ x. not (eqb x.number e.number) in
    let others : List Entry = filter other es in
    all_pairs_push Apart others e (apart_filter other es apart)
    (λ k d within same.
    let passes : other (get_or others k d) ≡ true = filter_passes other es k d within in
    true≢false (sym passes ∙ ap not (eq-eqb (get_or others k d).number e.number same)))

-- a comparison drops all that is stale: at one generation nothing is
pub compared_fits : (modules : ModuleTable) (blocks : BlockTable) → FitsModules modules blocks
    → compared modules blocks ≡ filter (is_current modules.modules) blocks.entries
compared_fits modules blocks fits =
    elim (cases_Bool (eqb blocks.generation modules.generation)) [
      | inl same ↦ rw same (sym (filter_all (is_current modules.modules) blocks.entries (fits.current (eqb-true blocks.generation modules.generation same))))
      | inr other ↦ rw other refl
    ]

pub compared_else : (modules : ModuleTable) (blocks : BlockTable) → (blocks.generation ≡ modules.generation → ⊥)
    → compared modules blocks ≡ filter (is_current modules.modules) blocks.entries
compared_else modules blocks other = rw (ne_eqb blocks.generation modules.generation other) refl
