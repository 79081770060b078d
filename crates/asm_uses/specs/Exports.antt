-- The symbols that other objects may find, as they are kept and as they are lent.
use Rattle.std.specs.Prelude.{◌≡◌, ℕ, Bool, false, List, Option, Some, None, option_map}
use Rattle.asm_statement.specs.declared.line.Line.{Line}
use Rattle.asm_layout.specs.declared.uses.Exported.{Exported}
use Rattle.asm_layout.specs.Uses.{is_copy_label, needs}
use Rattle.asm_uses.specs.Lines.{AreCopiesOf, AreLabelsOf}
use Rattle.asm_uses.specs.declared.export_set.Key.{Key}
use Rattle.asm_uses.specs.declared.export_set.Lent.{Lent}
use Rattle.asm_uses.specs.declared.export_set.Source.{Source}

abbrev pub exported_as : Key → Exported
exported_as key = record {
  label = key.label.items;
  name = key.name.items;
  version = option_map (λ version. version.items) key.version;
  is_needed = key.is_needed;
  is_default = key.is_default;
}

abbrev pub export_as : Lent → Exported
export_as lent = record {
  label = lent.label.now;
  name = lent.name.now;
  version = option_map (λ version. version.now) lent.version;
  is_needed = lent.is_needed;
  is_default = lent.is_default;
}

-- the name, where there is one, is that of a copy that one of these lines makes
abbrev pub is_copied : List Line → Option (List ℕ) → Bool
is_copied before None = false
is_copied before (Some name) = is_copy_label before name

-- what is asked of a line that exports is what the lines say
pub record IsSourceOf (lines : List Line) (source : Source) : Type 0 where
  pub labels : AreLabelsOf lines source.labels.now
  pub copies : AreCopiesOf lines source.copies.now
  pub needs : source.needs.now ≡ needs lines
