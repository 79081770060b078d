use Rattle.std.proofs.Common.{ap, ◌∙◌}
use Rattle.std.specs.Option.{is_some}
use Rattle.trace_replay.specs.Heads.{mapped_in}
use Rattle.trace_replay.proofs.Mapped.{found_is}
use Rattle.trace_replay.proofs.steps.heads.is_mapped.Goals as goal

pub returns-in-Some : goal.returns-in-Some
returns-in-Some c = ap is_some c.in-Some.ensures ∙ found_is (mapped_in c.args.namespaces.now) c.args.serial

pub returns-in-None : goal.returns-in-None
returns-in-None c = ap is_some c.in-None.ensures ∙ found_is (mapped_in c.args.namespaces.now) c.args.serial
