use Rattle.std.proofs.Common.{◌∙◌}
use Rattle.scope_lists.proofs.Stands.{names_there}
use Rattle.scope_lists.proofs.lists.SearchLists.names_at.Goals as goal

pub returns : goal.returns
returns c = λ s o are here. c.names_at.ensures ∙ names_there s.objects c.as_slice.result.now c.args.place o (c.as_slice.ensures.value ∙ are.names) here
