use Rattle.history_calls.specs.Call.{closes}
use Rattle.link_calls.specs.Coming.{ComesIn}
use Rattle.link_calls.proofs.Closed.{unclosed}
use Rattle.link_calls.proofs.Refused.{answered}
use Rattle.link_calls.proofs.closing.dlclose.Goals as goal

pub returns-clause-served : goal.returns-clause-served
returns-clause-served c =
    answered c.close.result c.unwrap_or.result c.args.state.now c.close.new.state (λ came. ComesIn c.args.state.now c.args.hart (closes c.args.handle) came c.close.new.state)
    c.unwrap_or.ensures c.close.ensures.served c.close.ensures.err (unclosed c.args.state.now c.close.new.state c.args.hart c.args.handle)
