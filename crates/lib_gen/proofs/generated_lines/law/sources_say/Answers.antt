use Rattle.lib_gen.proofs.GeneratedLines.Sources.{library_says, program_says}
use Rattle.lib_gen.proofs.generated_lines.law.sources_say.Goals as goal

pub returns-clause-library : goal.returns-clause-library
returns-clause-library c = library_says

pub returns-clause-program : goal.returns-clause-program
returns-clause-program c = program_says
