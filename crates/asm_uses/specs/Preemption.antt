-- The names that lines export or keep, as they are looked up.
use Rattle.std.specs.Prelude.{◌≡◌, ℕ, List}
use Rattle.asm_statement.specs.declared.line.Line.{Line}
use Rattle.asm_layout.specs.Once.{is_among}
use Rattle.asm_layout.specs.Names.{is_exported, is_kept, is_library, kind_of}
use Rattle.asm_uses.specs.declared.preemption.Preemption.{Preemption}

-- what the lines export and keep is kept to be looked up
pub record IsPreemptionOf (lines : List Line) (preemption : Preemption) : Type 0 where
  pub kind : preemption.is_library ≡ is_library (kind_of lines)
  pub exported : (name : List ℕ) → is_among preemption.exported name ≡ is_exported lines name
  pub kept : (name : List ℕ) → is_among preemption.kept name ≡ is_kept lines name
