use Rattle.sym_hash.specs.Reached.{Reached}
use Rattle.sym_lookup.proofs.SymFind.Found.{decided, keeps_none}
use Rattle.sym_lookup.proofs.sym_find.finding.kept_for.Goals as goal

pub returns-then-rules_out : goal.returns-then-rules_out
returns-then-rules_out c =
    rw c.new.ensures (keeps_none c.args.object.now c.args.sought.now.name c.args.sought.now.want (Reached c.args.table.now c.args.sought.now.name) (c.rules_out.ensures c.if-rules_out.true))

pub returns-then-decides : goal.returns-then-decides
returns-then-decides c =
    decided c.args.object.now c.args.sought.now.name c.args.sought.now.want (Reached c.args.table.now c.args.sought.now.name) c.kept_of_all-all.result c.kept_of_all-all.ensures
    (rw c.asked.ensures at (c.decides.ensures.first c.if-decides.true))
