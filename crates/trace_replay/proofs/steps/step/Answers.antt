use Rattle.std.proofs.Common.{subst}
use Rattle.history_event.specs.declared.event.Event.{Event}
use Rattle.trace_replay.specs.Inside.{lists_of}
use Rattle.trace_replay.specs.Steps.{IsReady}
use Rattle.trace_replay.proofs.steps.step.Goals as goal

pub store-requires : goal.store-requires
store-requires c = λ seg is. subst (λ (e : Event). IsReady e (lists_of c.args.tables.now)) c.in-Tls.is c.requires.ready seg is
