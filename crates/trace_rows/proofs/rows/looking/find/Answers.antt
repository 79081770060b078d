use Rattle.std.proofs.Common.{eqb, List, subst}
use Rattle.std.specs.List.{Contains}
use Rattle.history_journal.specs.Following.{machine_of}
use Rattle.history_state.specs.Lemmas.Lists.{found_in}
use Rattle.history_state.specs.Read.{WasRead}
use Rattle.ld_base.specs.declared.linking.Loaded.{Loaded}
use Rattle.scope_rule.specs.declared.namespace.Namespace.{Namespace}
use Rattle.trace_rows.proofs.Granted.{read_in}
use Rattle.trace_rows.proofs.rows.looking.find.Goals as goal

pub find_symbol-requires-clause-tables : goal.find_symbol-requires-clause-tables
find_symbol-requires-clause-tables c = λ ns there serial o found.
    let its : Contains c.args.replay.now.namespaces ns = subst (λ (all : List Namespace). Contains all ns) c.namespaces.ensures there in
    let was : WasRead (machine_of c.args.replay.now.harts) o =
    read_in c.objects_are_read.ensures.mapped c.args.replay.now c.has_history.ensures ns o its (found_in (λ (x : Loaded). eqb x.serial serial) ns.objects o found).0 in
    c.one_object.ensures.table was.bytes was.program o.object o.table was.is
