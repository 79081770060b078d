-- Where there is no answer, nothing is handed to the sink.
use Rattle.std.proofs.Common.{refl}
use Rattle.library_source.specs.Writing.{all}
use Rattle.ldso_cli.proofs.top.write_answer.Goals as goal

pub returns-in-Err-clause-written : goal.returns-in-Err-clause-written
returns-in-Err-clause-written g c = rw c.in-Err.is (record { end_is = c.bare.ensures; written = all; taken = refl })
