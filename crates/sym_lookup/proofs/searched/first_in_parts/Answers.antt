use Rattle.std.proofs.Common.{sym, ◌∙◌, ◌++◌}
use Rattle.scope_rule.specs.Choose.{pick_at}
use Rattle.scope_rule.specs.Seen.{seen}
use Rattle.scope_lists.specs.Lists.{IsSearched}
use Rattle.sym_lookup.specs.Looking.{outside}
use Rattle.sym_lookup.proofs.Searches.{first_placed, in_after, in_before, in_global, last_placed}
use Rattle.sym_lookup.proofs.searched.first_in_parts.Goals as goal

pub first_searched-before-requires-clause-searched : goal.first_searched-before-requires-clause-searched
first_searched-before-requires-clause-searched c =
    let p = c.args.parts in
    first_placed (IsSearched (seen c.args.view.now)) p.before.now p.global.now (first_placed (IsSearched (seen c.args.view.now)) (p.before.now ++ p.global.now) p.after.now c.requires.searched)

pub first_in_global-global-requires-clause-searched : goal.first_in_global-global-requires-clause-searched
first_in_global-global-requires-clause-searched c =
    let p = c.args.parts in
    last_placed (IsSearched (seen c.args.view.now)) p.before.now p.global.now (first_placed (IsSearched (seen c.args.view.now)) (p.before.now ++ p.global.now) p.after.now c.requires.searched)

pub first_searched-requires-clause-searched : goal.first_searched-requires-clause-searched
first_searched-requires-clause-searched c =
    let p = c.args.parts in
    last_placed (IsSearched (seen c.args.view.now)) (p.before.now ++ p.global.now) p.after.now c.requires.searched

pub returns-then-is_some : goal.returns-then-is_some
returns-then-is_some c =
    let p = c.args.parts in
    in_before (outside c.args.copy c.args.owner (pick_at (seen c.args.view.now) c.args.sought.now.name c.args.sought.now.want)) p.before.now p.global.now p.after.now c.first_searched-before.result
    (sym c.is_some.ensures ∙ c.if-is_some.true) c.first_searched-before.ensures

pub returns-then-is_some-2 : goal.returns-then-is_some-2
returns-then-is_some-2 c =
    let p = c.args.parts in
    in_global (outside c.args.copy c.args.owner (pick_at (seen c.args.view.now) c.args.sought.now.name c.args.sought.now.want)) p.before.now p.global.now p.after.now c.first_searched-before.result c.first_in_global-global.result
    (sym c.is_some.ensures ∙ c.if-is_some.false) c.first_searched-before.ensures (sym c.is_some-2.ensures ∙ c.if-is_some-2.true) c.first_in_global-global.ensures

pub returns : goal.returns
returns c =
    let p = c.args.parts in
    in_after (outside c.args.copy c.args.owner (pick_at (seen c.args.view.now) c.args.sought.now.name c.args.sought.now.want)) p.before.now p.global.now p.after.now c.first_searched-before.result c.first_in_global-global.result
    c.first_searched.result (sym c.is_some.ensures ∙ c.if-is_some.false) c.first_searched-before.ensures (sym c.is_some-2.ensures ∙ c.if-is_some-2.false) c.first_in_global-global.ensures c.first_searched.ensures
