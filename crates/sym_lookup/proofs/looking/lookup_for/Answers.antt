use Rattle.std.proofs.Common.{◌∙◌, sym}
use Rattle.scope_rule.specs.Seen.{seen}
use Rattle.scope_lists.specs.Searched.{in_parts, serials_in}
use Rattle.sym_lookup.proofs.Searches.{own_choice, searched_choice}
use Rattle.sym_lookup.proofs.looking.lookup_for.Goals as goal

pub returns-then-stays_own : goal.returns-then-stays_own
returns-then-stays_own c = own_choice (seen c.args.view.now) c.args.owner.now c.args.index c.args.symbol.now c.args.copy (sym c.stays_own.ensures ∙ c.if-stays_own.true)

pub returns-else-stays_own : goal.returns-else-stays_own
returns-else-stays_own c =
    c.choice_of.ensures
    ∙ searched_choice (seen c.args.view.now) c.args.owner.now c.args.index c.args.symbol.now c.args.copy c.sought_of-sought.result.name c.sought_of-sought.result.want (serials_in (in_parts c.args.parts)) c.first_in_parts-found.result
    (sym c.stays_own.ensures ∙ c.if-stays_own.false) c.sought_of-sought.ensures.name c.sought_of-sought.ensures.want c.requires.scope.alike c.first_in_parts-found.ensures

pub sought_of-sought-requires : goal.sought_of-sought-requires
sought_of-sought-requires c = c.owner_names-names.ensures (seen c.args.view.now) c.requires.lists c.requires.there

pub first_in_parts-found-requires-clause-searched : goal.first_in_parts-found-requires-clause-searched
first_in_parts-found-requires-clause-searched c = c.requires.scope.places

pub first_in_parts-found-requires-clause-definers : goal.first_in_parts-found-requires-clause-definers
first_in_parts-found-requires-clause-definers c = c.requires.scope.definers
