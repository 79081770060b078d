use Rattle.std.proofs.Common.{sym, ◌∙◌}
use Rattle.scope_lists.proofs.Stands.{at_first, found_place, no_place, placed}
use Rattle.scope_lists.proofs.lists.SearchLists.scope.Goals as goal

pub returns-in-Some : goal.returns-in-Some
returns-in-Some c = λ s o are has there.
    let at = placed s c.args.owner c.get.result (c.get.ensures ∙ at_first s c.args.self.now.links are.links c.args.owner) in
    c.scope_at.ensures s o are (has c.in-Some.place (sym c.get.ensures ∙ c.in-Some.is)) (found_place s c.args.owner c.in-Some.place c.get.result o at c.in-Some.is there)

pub returns-in-None : goal.returns-in-None
returns-in-None c = λ s o are has there.
    no_place s c.args.owner c.get.result o (placed s c.args.owner c.get.result (c.get.ensures ∙ at_first s c.args.self.now.links are.links c.args.owner)) c.in-None.is there
