use Rattle.scope_lists.proofs.Stands.{kept_parts}
use Rattle.scope_lists.proofs.lists.SearchLists.scope_at.Goals as goal

pub returns : goal.returns
returns c = λ s o are has here. kept_parts s c.args.self.now c.args.place o c.get.result are has here c.get.ensures.parts (c.get.ensures.definers s.objects)
