use Rattle.std.proofs.Common.{sym, ◌∙◌}
use Rattle.std.proofs.lemmas.Bool.{false≢true}
use Rattle.hart_moves.specs.Due.{Due}
use Rattle.history_state.specs.After.{after}
use Rattle.link_keeper.proofs.finalising.plan_turn.Goals as goal

pub unreachable-requires : goal.unreachable-requires
unreachable-requires c = false≢true (sym (c.in_default.ensures.none (after c.args.state.now.events)) ∙ c.requires.last (after c.args.state.now.events))

pub prepare-requires : goal.prepare-requires
prepare-requires c = c.requires.initialised c.in-Some.finalised.code c.in-Some.finalised.object c.in-Some.ensures.finalised

pub returns-in-Ok-clause-planned : goal.returns-in-Ok-clause-planned
returns-in-Ok-clause-planned c = c.by_events.ensures (after c.args.state.now.events) c.args.hart.now.hart c.prepare.new.hart.spare (record {
  planned = c.in-Ok.ensures.planned;
  is = λ t. c.in-Some.ensures.finalised t ∙ (λ i. Due.finalise (sym c.in-Ok.ensures.finalised.0 i) (sym c.in-Ok.ensures.finalised.1 i));
  room = c.in-Ok.ensures.room;
})
