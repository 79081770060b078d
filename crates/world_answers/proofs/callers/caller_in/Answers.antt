use Rattle.std.proofs.Common.{◌<◌, refl, sym, arith}
use Rattle.std.specs.Prelude.{◌^◌}
use Rattle.history_journal.specs.Following.{machine_of}
use Rattle.world_answers.proofs.Holding.{caller_there, held_caller, other_caller}
use Rattle.world_answers.proofs.callers.caller_in.Goals as goal

pub returns-in-Some-clause-is : goal.returns-in-Some-clause-is
returns-in-Some-clause-is c =
    let word : c.args.address < 2 ^ 64 = omega (arith, c.ranges.address) in
    held_caller (machine_of c.args.state.now.harts) c.args.state.now.events (c.accepted_object.ensures.machine (machine_of c.args.state.now.harts) refl) c.journal.ensures.lawful c.args.address
    c.callers_are_there.ensures.holders word _ _ c.in-Some.ensures.found

pub returns-in-Some-clause-there : goal.returns-in-Some-clause-there
returns-in-Some-clause-there c =
    caller_there (machine_of c.args.state.now.harts) c.args.state.now.events (c.accepted_object.ensures.machine (machine_of c.args.state.now.harts) refl) c.journal.ensures.lawful c.args.address
    c.callers_are_there.ensures.there _ (returns-in-Some-clause-is c)

pub returns-in-None-clause-is : goal.returns-in-None-clause-is
returns-in-None-clause-is c =
    sym (other_caller (machine_of c.args.state.now.harts) c.args.state.now.events (c.accepted_object.ensures.machine (machine_of c.args.state.now.harts) refl) c.journal.ensures.lawful c.args.address
    c.callers_are_there.ensures.base c.in-None.ensures.none)

pub returns-in-None-clause-there : goal.returns-in-None-clause-there
returns-in-None-clause-there c =
    caller_there (machine_of c.args.state.now.harts) c.args.state.now.events (c.accepted_object.ensures.machine (machine_of c.args.state.now.harts) refl) c.journal.ensures.lawful c.args.address
    c.callers_are_there.ensures.there _ (returns-in-None-clause-is c)
