-- List by list: the table, the arrays, the sections.
use Rattle.asm_laws.proofs.Ordered.{ascends}
use Rattle.asm_laws.proofs.law.fixes_ascend.Goals as goal

pub returns : goal.returns
returns c = ascends
