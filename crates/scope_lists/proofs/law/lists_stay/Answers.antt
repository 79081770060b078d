use Rattle.scope_lists.proofs.States.{stay}
use Rattle.scope_lists.proofs.law.lists_stay.Goals as goal

pub returns : goal.returns
returns c = λ s lists change alone. stay change alone s lists
