use Rattle.std.proofs.Common.{◌≤◌, ◌<◌, length, IfOk, subst, refl, arith}
use Rattle.history_event.specs.declared.event.SymAsk.{SymAsk}
use Rattle.history_state.specs.Lookup.{name as long_name}
use Rattle.history_calls.specs.Call.{looks_up}
use Rattle.link_calls.specs.Coming.{LooksUpIn}
use Rattle.link_calls.proofs.Looked.{asked_plain, shows_long}
use Rattle.link_calls.proofs.looking.find.Goals as goal

pub refuse_long-requires-clause-long : goal.refuse_long-requires-clause-long
refuse_long-requires-clause-long c =
    let le : 256 ≤ length c.args.name.now = omega (arith, c.if-name-ge-LONG_NAME.true) in
    long_name (shows_long c.args.name.now le) refl

pub returns-clause-served : goal.returns-clause-served
returns-clause-served c =
    let few : length c.args.name.now < 256 = omega (arith, c.if-name-ge-LONG_NAME.false) in
    subst (λ (a : SymAsk). IfOk c.look_up.result (λ came. LooksUpIn c.args.state.now c.args.hart (looks_up a) came c.look_up.new.state))
    (asked_plain c.args.caller c.args.handle c.args.name.now few) c.look_up.ensures.served
