-- Which names another object may define, by what is looked up.
use Rattle.std.proofs.Common.{◌≡◌, ℕ, true, false, not, ◌&&◌, List, refl, ap, ◌∙◌}
use Rattle.std.specs.Prelude.{Option, position}
use Rattle.std.specs.Option.{is_some}
use Rattle.std.proofs.Math.Bool.{or-false}
use Rattle.asm_statement.specs.declared.line.Line.{Line}
use Rattle.asm_layout.specs.Labels.{defines, is_label}
use Rattle.asm_layout.specs.Names.{is_got_plt, is_exported, is_kept, is_library, kind_of, is_preemptible, is_foreign}
use Rattle.asm_layout.proofs.Firsts.{any_found}

-- a name is a label where a line is found for it
pub label_found : (lines : List Line) (name : List ℕ) (found : Option ℕ)
    → found ≡ position (defines name) lines → is_some found ≡ is_label lines name
label_found lines name found is = ap is_some is ∙ any_found (defines name) lines

pub of_label : (lines : List Line) (name : List ℕ) → is_label lines name ≡ true
    → is_preemptible lines name ≡ (is_library (kind_of lines) && is_exported lines name && not (is_kept lines name))
unfolding is_preemptible
of_label lines name known = rw known refl

pub of_foreign : (lines : List Line) (name : List ℕ) → is_label lines name ≡ false → is_preemptible lines name ≡ not (is_got_plt name)
unfolding is_preemptible
of_foreign lines name known = rw known (or-false (not (is_got_plt name)))

pub foreign_label : (lines : List Line) (name : List ℕ) → is_label lines name ≡ true → is_foreign lines name ≡ false
foreign_label lines name known = rw known refl

pub foreign_name : (lines : List Line) (name : List ℕ) → is_label lines name ≡ false → is_foreign lines name ≡ not (is_got_plt name)
foreign_name lines name known = rw known refl
