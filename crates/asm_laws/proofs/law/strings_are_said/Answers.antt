-- Kind by kind of names.
use Rattle.asm_laws.proofs.Strings.{strings_said}
use Rattle.asm_laws.proofs.law.strings_are_said.Goals as goal

pub returns : goal.returns
returns c = strings_said
