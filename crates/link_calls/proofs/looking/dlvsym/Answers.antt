use Rattle.history_calls.specs.Call.{dlvsym_in}
use Rattle.link_calls.specs.Coming.{LooksUpIn}
use Rattle.link_calls.proofs.Looked.{unlooked}
use Rattle.link_calls.proofs.Refused.{answered}
use Rattle.link_calls.proofs.looking.dlvsym.Goals as goal

pub returns-clause-served : goal.returns-clause-served
returns-clause-served c =
    answered c.find_version.result c.unwrap_or.result c.args.state.now c.find_version.new.state
    (λ came. LooksUpIn c.args.state.now c.args.hart (dlvsym_in c.args.caller c.args.handle c.args.name.now c.args.version.now) came c.find_version.new.state)
    c.unwrap_or.ensures c.find_version.ensures.served c.find_version.ensures.err
    (unlooked c.args.state.now c.find_version.new.state c.args.hart (dlvsym_in c.args.caller c.args.handle c.args.name.now c.args.version.now))
