use Rattle.link_calls.proofs.Told.{tells_so}
use Rattle.link_calls.proofs.telling.dlerror.Goals as goal

pub returns-clause-told : goal.returns-clause-told
returns-clause-told c =
    tells_so c.args.state.now c.told.new.self c.args.hart c.in_ok-text.text c.in_ok-told.field-0 c.in_ok-told.ensures.fault c.in_ok-text.ensures c.in_ok-told.ensures.ok
