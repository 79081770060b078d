use Rattle.std.proofs.Common.{◌∙◌}
use Rattle.scope_lists.proofs.Stands.{at_first, placed}
use Rattle.scope_lists.proofs.lists.SearchLists.place.Goals as goal

pub returns : goal.returns
returns c = λ s are. placed s c.args.serial c.get.result (c.get.ensures ∙ at_first s c.args.self.now.links are.links c.args.serial)
