use Rattle.ldso_cli.specs.Outside.{library_at}
use Rattle.ldso_cli.proofs.Threaded.{all_come, has_ends}
use Rattle.ldso_cli.proofs.threads.run_setup.Goals as goal

pub left_of-requires : goal.left_of-requires
left_of-requires g c =
    let before = library_at g.L.Library.files g.L.Library.faults g.L.Library.misses c.args.library in
    has_ends c.args.setup.now before c.run_program-ran.result.0 c.requires.few c.run_program-ran.ensures.ran

pub returns-clause-comes : goal.returns-clause-comes
returns-clause-comes g c =
    let before = library_at g.L.Library.files g.L.Library.faults g.L.Library.misses c.args.library in
    let after = library_at g.L.Library.files g.L.Library.faults g.L.Library.misses c.run_program-ran.result.1 in
    all_come c.args.setup.now before after c.run_program-ran.result.0 c.left_of.result c.run_program-ran.ensures.ran c.run_program-ran.ensures.refused c.run_program-ran.ensures.counts c.run_program-ran.ensures.shows
    c.left_of.ensures
