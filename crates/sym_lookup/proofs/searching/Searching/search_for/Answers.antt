use Rattle.std.proofs.Common.{◌≡◌, ◌∙◌, subst, sym}
use Rattle.ld_base.specs.declared.linking.Choice.TheVariants.{Def}
use Rattle.scope_rule.specs.Choose.{choose_for}
use Rattle.scope_rule.specs.Seen.{seen}
use Rattle.scope_lists.specs.Searched.{in_parts, serials_in}
use Rattle.sym_lookup.specs.References.{Referring}
use Rattle.sym_lookup.proofs.Searches.{own_choice, searched_choice}
use Rattle.sym_lookup.proofs.searching.Searching.search_for.Goals as goal

pub returns-then-stays_own : goal.returns-then-stays_own
returns-then-stays_own c =
    let o = c.self.inside.owner.now in
    let P : Referring → Type 0 = λ r. Def o.serial c.args.index ≡ choose_for r.seen r.owner c.args.index c.args.symbol.now c.args.copy in
    subst P c.self.view_is (own_choice (seen c.self.inside.view) o c.args.index c.args.symbol.now c.args.copy (sym c.stays_own.ensures ∙ c.if-stays_own.true))

pub returns-else-stays_own : goal.returns-else-stays_own
returns-else-stays_own c =
    let o = c.self.inside.owner.now in
    let P : Referring → Type 0 = λ r. c.choice_of.result ≡ choose_for r.seen r.owner c.args.index c.args.symbol.now c.args.copy in
    subst P c.self.view_is
    (c.choice_of.ensures
    ∙ searched_choice (seen c.self.inside.view) o c.args.index c.args.symbol.now c.args.copy c.sought_of-sought.result.name c.sought_of-sought.result.want (serials_in (in_parts c.self.inside.parts)) c.first_in_parts-found.result
    (sym c.stays_own.ensures ∙ c.if-stays_own.false) c.sought_of-sought.ensures.name c.sought_of-sought.ensures.want c.self.invariant.3.alike c.first_in_parts-found.ensures)

pub first_in_parts-found-requires-clause-searched : goal.first_in_parts-found-requires-clause-searched
first_in_parts-found-requires-clause-searched c = c.self.invariant.3.places

pub first_in_parts-found-requires-clause-definers : goal.first_in_parts-found-requires-clause-definers
first_in_parts-found-requires-clause-definers c = c.self.invariant.3.definers
