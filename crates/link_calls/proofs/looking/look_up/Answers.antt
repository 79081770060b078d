use Rattle.std.proofs.Common.{sym, subst}
use Rattle.history_state.specs.After.{after}
use Rattle.history_state.specs.Lookup.{RefusesSymbol}
use Rattle.link_search.specs.Asking.{ask_of}
use Rattle.link_search.specs.Finding.{IsSymFault}
use Rattle.link_calls.proofs.Looked.{looked_up, may_refuse_after, not_found}
use Rattle.link_calls.proofs.Refused.{still}
use Rattle.link_calls.proofs.looking.look_up.Goals as goal

pub returns-in-Ok-clause-served : goal.returns-in-Ok-clause-served
returns-in-Ok-clause-served c =
    looked_up c.args.state.now c.sym.new.self c.args.hart (ask_of c.args.caller c.args.handle c.args.name.now c.args.want.now) c.in-Ok.value c.in-Ok.ensures.ok

pub refuse-requires : goal.refuse-requires
refuse-requires c =
    let refuses : RefusesSymbol (after c.args.state.now.events) c.args.hart (ask_of c.args.caller c.args.handle c.args.name.now c.args.want.now) c.in-Err-Refused.fault =
    subst (IsSymFault (after c.args.state.now.events) c.args.hart (ask_of c.args.caller c.args.handle c.args.name.now c.args.want.now)) c.in-Err-Refused.field-0-is c.in-Err-Refused.ensures.refused in
    may_refuse_after c.args.state.now c.sym.new.self c.args.hart (ask_of c.args.caller c.args.handle c.args.name.now c.args.want.now) c.in_ok-ask-in-Err-Refused.ask c.in-Err-Refused.fault _
    c.in-Err-Refused.ensures.err c.in_ok-ask-in-Err-Refused.ensures c.in-Err-Refused.fault-is c.requires.caller refuses

pub returns-in_ok-ask-in-Err-Refused-clause-served : goal.returns-in_ok-ask-in-Err-Refused-clause-served
returns-in_ok-ask-in-Err-Refused-clause-served c =
    let refuses : RefusesSymbol (after c.args.state.now.events) c.args.hart (ask_of c.args.caller c.args.handle c.args.name.now c.args.want.now) c.in-Err-Refused.fault =
    subst (IsSymFault (after c.args.state.now.events) c.args.hart (ask_of c.args.caller c.args.handle c.args.name.now c.args.want.now)) c.in-Err-Refused.field-0-is c.in-Err-Refused.ensures.refused in
    not_found c.refuse.result c.args.state.now c.sym.new.self c.refuse.new.state c.args.hart (ask_of c.args.caller c.args.handle c.args.name.now c.args.want.now) c.in_ok-ask-in-Err-Refused.ask
    _ c.in-Err-Refused.ensures.err c.in_ok-ask-in-Err-Refused.ensures c.requires.caller
    (subst (RefusesSymbol (after c.args.state.now.events) c.args.hart (ask_of c.args.caller c.args.handle c.args.name.now c.args.want.now)) (sym c.in-Err-Refused.fault-is) refuses) c.refuse.ensures.served c.refuse.ensures.noted

pub returns-in_ok-ask-in-Err-Refused-clause-err : goal.returns-in_ok-ask-in-Err-Refused-clause-err
returns-in_ok-ask-in-Err-Refused-clause-err c =
    still c.refuse.result c.args.state.now c.sym.new.self c.refuse.new.state c.in-Err-Refused.ensures.err c.refuse.ensures.err
