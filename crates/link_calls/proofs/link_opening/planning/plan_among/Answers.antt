use Rattle.std.proofs.Common.{refl}
use Rattle.history_journal.specs.Following.{machine_of}
use Rattle.history_state.specs.After.{after}
use Rattle.link_calls.proofs.LinkOpening.Objects.{are_objects}
use Rattle.link_calls.proofs.link_opening.planning.plan_among.Goals as goal

pub plan_named-requires : goal.plan_named-requires
plan_named-requires g c = record {
  there = are_objects (machine_of c.args.state.now.harts) (after c.args.state.now.events) c.args.ns c.args.namespace.now refl c.requires.before
      (c.objects_are_read.ensures.mapped (machine_of c.args.state.now.harts) c.args.state.now.events c.journal.ensures.lawful) c.one_object.ensures.table c.one_image.ensures.read;
}
