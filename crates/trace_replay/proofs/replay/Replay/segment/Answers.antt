use Rattle.std.proofs.Common.{ap, ◌∙◌}
use Rattle.trace_replay.specs.Inside.{lists_of}
use Rattle.trace_replay.specs.Steps.{storage_in}
use Rattle.trace_replay.proofs.Taken.{aligned_so, sized_so}
use Rattle.trace_replay.proofs.replay.Replay.segment.Goals as goal

pub returns-clause-align : goal.returns-clause-align
returns-clause-align c =
    aligned_so c.objects_are_read.ensures.mapped c.accepted_object.ensures.read (lists_of c.self.inside.tables) c.self.invariant.history c.args.serial c.storage_in.result
    (c.storage_in.ensures ∙ ap (λ nss. storage_in nss c.args.serial) c.as_slice.ensures.value)

pub returns-clause-memory : goal.returns-clause-memory
returns-clause-memory c =
    sized_so c.objects_are_read.ensures.mapped c.accepted_object.ensures.read (lists_of c.self.inside.tables) c.self.invariant.history c.args.serial c.storage_in.result
    (c.storage_in.ensures ∙ ap (λ nss. storage_in nss c.args.serial) c.as_slice.ensures.value)
