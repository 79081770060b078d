use Rattle.std.proofs.Common.{sym, ◌∙◌}
use Rattle.scope_lists.proofs.Stands.{at_first, linked_nowhere, linked_there}
use Rattle.scope_lists.proofs.links.Links.found_of.Goals as goal

pub returns-in-Some : goal.returns-in-Some
returns-in-Some c = λ s links.
    c.found_at.ensures
    ∙ linked_there s c.args.serial c.in-Some.place c.as_slice.result.now (sym c.eq.ensures ∙ c.if-eq.false) (sym (at_first s c.args.self.now links c.args.serial) ∙ sym c.get.ensures ∙ c.in-Some.is) (c.as_slice.ensures.value ∙ links.found)

pub returns-in-None : goal.returns-in-None
returns-in-None c = λ s links. linked_nowhere s c.args.serial (sym c.eq.ensures ∙ c.if-eq.false) (sym (at_first s c.args.self.now links c.args.serial) ∙ sym c.get.ensures ∙ c.in-None.is)
