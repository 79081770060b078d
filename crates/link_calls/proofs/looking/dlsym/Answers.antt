use Rattle.history_calls.specs.Call.{dlsym_in}
use Rattle.link_calls.specs.Coming.{LooksUpIn}
use Rattle.link_calls.proofs.Looked.{unlooked}
use Rattle.link_calls.proofs.Refused.{answered}
use Rattle.link_calls.proofs.looking.dlsym.Goals as goal

pub returns-clause-served : goal.returns-clause-served
returns-clause-served c =
    answered c.find.result c.unwrap_or.result c.args.state.now c.find.new.state
    (λ came. LooksUpIn c.args.state.now c.args.hart (dlsym_in c.args.caller c.args.handle c.args.name.now) came c.find.new.state)
    c.unwrap_or.ensures c.find.ensures.served c.find.ensures.err
    (unlooked c.args.state.now c.find.new.state c.args.hart (dlsym_in c.args.caller c.args.handle c.args.name.now))
