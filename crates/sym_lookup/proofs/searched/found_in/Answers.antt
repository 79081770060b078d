use Rattle.scope_rule.specs.Seen.{seen}
use Rattle.sym_lookup.proofs.SymFind.Found.{nowhere_picks}
use Rattle.sym_lookup.proofs.searched.found_in.Goals as goal

pub returns-then-rules_out : goal.returns-then-rules_out
returns-then-rules_out c =
    nowhere_picks c.args.loaded.now.table c.args.loaded.now.object c.args.sought.now.name c.args.sought.now.want c.requires.table (c.rules_out.ensures c.if-rules_out.true)
    (c.one_pick.ensures.taken c.args.loaded.now.object c.args.sought.now.name c.args.sought.now.want)

pub pick_ordered-requires-clause-names : goal.pick_ordered-requires-clause-names
pick_ordered-requires-clause-names c = rw c.requires.there at (c.names_of-names.ensures (seen c.args.view.now) c.requires.lists)

pub pick_ordered-requires-clause-order : goal.pick_ordered-requires-clause-order
pick_ordered-requires-clause-order c = rw c.in-Some.is at (c.order_of.ensures (seen c.args.view.now) c.args.loaded.now c.requires.lists c.requires.there)

pub find_sought-requires : goal.find_sought-requires
find_sought-requires c = rw c.requires.there at (c.names_of-names.ensures (seen c.args.view.now) c.requires.lists)

pub returns-in-None : goal.returns-in-None
returns-in-None c = c.find_sought.ensures.picks c.requires.table
