-- All that lines say of names.
use Rattle.std.specs.Prelude.{◌≡◌, List, []}
use Rattle.asm_statement.specs.declared.line.Line.{Line}
use Rattle.asm_layout.specs.Uses.{slots, got_uses, imports, exports, needs}
use Rattle.asm_layout.specs.Tables.{versions}
use Rattle.asm_uses.specs.declared.uses.Uses.{Uses}
use Rattle.asm_uses.specs.Got.{IsGotOf}
use Rattle.asm_uses.specs.Lines.{AreLabelsOf}
use Rattle.asm_uses.specs.Preemption.{IsPreemptionOf}

-- nothing is filled in yet
pub record IsBlank (uses : Uses) : Type 0 where
  pub labels : uses.labels ≡ []
  pub exported : uses.preemption.exported ≡ []
  pub kept : uses.preemption.kept ≡ []
  pub slots : uses.slots ≡ []
  pub got : IsGotOf [] uses.got
  pub imports : uses.imports ≡ []
  pub versions : uses.versions ≡ []

-- what is filled in is what lines say
pub record AreUsesOf (lines : List Line) (uses : Uses) : Type 0 where
  pub labels : AreLabelsOf lines uses.labels
  pub preemption : IsPreemptionOf lines uses.preemption
  pub slots : uses.slots ≡ slots lines
  pub got : IsGotOf (got_uses lines) uses.got
  pub imports : uses.imports ≡ imports lines
  pub versions : uses.versions ≡ versions lines
  pub exports : uses.exports ≡ exports lines
  pub needs : uses.needs ≡ needs lines
