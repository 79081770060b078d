use Rattle.std.proofs.Common.{◌≡◌, Err, true, ap, ◌∙◌}
use Rattle.std.specs.List.{AllByRecursion}
use Rattle.ld_base.specs.declared.linking.Loaded.{Loaded}
use Rattle.scope_rule.specs.Relocation.{names_symbols}
use Rattle.scope_rule.specs.Seen.{seen_in}
use Rattle.sym_hash.specs.Reached.{IsTableOf}
use Rattle.load_walk.specs.declared.ask.LoadFault.TheVariants as faults
use Rattle.ldso_cli.specs.Bind.{ask_of}
use Rattle.ldso_cli.specs.Outside.{library_at}
use Rattle.ldso_cli.proofs.Ending.{waits_for_none, refused_answers, read_has, loaded_answers}
use Rattle.ldso_cli.proofs.bind.bind.Goals as goal

pub returns-in-Err-Refused-clause-answers : goal.returns-in-Err-Refused-clause-answers
returns-in-Err-Refused-clause-answers g c =
    let before = library_at g.L.Library.files g.L.Library.faults g.L.Library.misses c.args.library.now in
    let after = library_at g.L.Library.files g.L.Library.faults g.L.Library.misses c.plan_load.new.library in
    let over = rw (c.ask_of-ask.ensures, c.nothing_loaded-ns.ensures) at (c.in-Err-Refused.ensures.refused c.in-Err-Refused.fault (ap Err c.in-Err-Refused.field-0-is)) in
    refused_answers c.args.command before after c.in-Err-Refused.fault c.refused.result c.refused.ensures.end c.refused.ensures.text over
    (λ path e. c.in-Err-Refused.ensures.read_fault path (ap Err (c.in-Err-Refused.field-0-is ∙ ap faults.Refused e)))

pub of_objects-requires-clause-names : goal.of_objects-requires-clause-names
of_objects-requires-clause-names g c =
    let over = rw (c.ask_of-ask.ensures, c.nothing_loaded-ns.ensures) at c.in-Ok.ensures.plan in
    let same = rw c.nothing_loaded-ns.ensures at c.in_ok-ns-in-Ok.ensures in
    rw same (read_has (λ o table. names_symbols o ≡ true) c.one_object.ensures.names over.files (ask_of c.args.command) c.in-Ok.plan.added over.holds.read)

pub of_objects-requires-clause-tables : goal.of_objects-requires-clause-tables
of_objects-requires-clause-tables g c =
    let over = rw (c.ask_of-ask.ensures, c.nothing_loaded-ns.ensures) at c.in-Ok.ensures.plan in
    let same = rw c.nothing_loaded-ns.ensures at c.in_ok-ns-in-Ok.ensures in
    let all : AllByRecursion (λ (o : Loaded). IsTableOf o.table o.object) c.in_ok-ns-in-Ok.ns.objects =
    rw same (read_has (λ o table. IsTableOf table o) c.one_object.ensures.table over.files (ask_of c.args.command) c.in-Ok.plan.added over.holds.read) in
    c.tables_are_there.ensures (seen_in c.in_ok-ns-in-Ok.ns) all

pub returns-clause-answers : goal.returns-clause-answers
returns-clause-answers g c =
    let before = library_at g.L.Library.files g.L.Library.faults g.L.Library.misses c.args.library.now in
    let after = library_at g.L.Library.files g.L.Library.faults g.L.Library.misses c.plan_load.new.library in
    let over = rw (c.ask_of-ask.ensures, c.nothing_loaded-ns.ensures) at c.in-Ok.ensures.plan in
    let same = rw c.nothing_loaded-ns.ensures at c.in_ok-ns-in-Ok.ensures in
    loaded_answers c.loads_breadth_first.ensures c.root_is_new.ensures c.args.command before after c.in-Ok.plan c.in_ok-ns-in-Ok.ns c.of_objects.result same over c.of_objects.ensures.end c.of_objects.ensures.text

pub unreachable-requires : goal.unreachable-requires
unreachable-requires g c =
    let over = rw (c.ask_of-ask.ensures, c.nothing_loaded-ns.ensures) at (c.in-Err-Wait.ensures.waits c.in-Err-Wait.field-0-0 (ap Err c.in-Err-Wait.field-0-is)) in
    waits_for_none c.never_waits.ensures (g.L.Library.files c.args.library.now) c.args.command c.in-Err-Wait.field-0-0 over
