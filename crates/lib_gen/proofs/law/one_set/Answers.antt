use Rattle.lib_gen.specs.GeneratedSources.Sources.{sources}
use Rattle.lib_gen.proofs.Sets.{same_files}
use Rattle.lib_gen.proofs.law.one_set.Goals as goal

pub returns : goal.returns
returns c = λ number first second. same_files c.one_answer.ensures.one (sources number) first second
