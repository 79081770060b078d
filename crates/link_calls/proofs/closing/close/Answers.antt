use Rattle.std.proofs.Common.{refl, subst}
use Rattle.history_state.specs.After.{after}
use Rattle.link_state.specs.Closing.{IsNotClosed}
use Rattle.link_calls.proofs.Closed.{may_refuse_close, not_closed}
use Rattle.link_calls.proofs.closing.close.Goals as goal

pub refuse-requires : goal.refuse-requires
refuse-requires c =
    let refused = subst (IsNotClosed (after c.args.state.now.events) c.args.handle) c.in-Err-BadHandle.field-0-is c.in-Err-BadHandle.ensures.err in
    may_refuse_close c.args.state.now c.args.hart c.args.handle refused.1

pub returns-in-Err-BadHandle-clause-served : goal.returns-in-Err-BadHandle-clause-served
returns-in-Err-BadHandle-clause-served c =
    let refused = subst (IsNotClosed (after c.args.state.now.events) c.args.handle) c.in-Err-BadHandle.field-0-is c.in-Err-BadHandle.ensures.err in
    not_closed c.refuse.result c.args.state.now c.args.state.now c.refuse.new.state c.args.hart c.args.handle refl refused.1 c.refuse.ensures.served c.refuse.ensures.noted
