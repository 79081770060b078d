use Rattle.history_calls.specs.Startup.{harts_of}
use Rattle.link_open_plan.specs.Startup.{run_of}
use Rattle.ldso_cli.specs.Outside.{library_at}
use Rattle.ldso_cli.proofs.Kept.{leaves_legal}
use Rattle.ldso_cli.proofs.Schedules.{within}
use Rattle.ldso_cli.proofs.Told.{turns_come}
use Rattle.ldso_cli.proofs.turns.of_items.Goals as goal

pub play-requires-clause-within : goal.play-requires-clause-within
play-requires-clause-within g c = λ item there. within (harts_of c.args.command.now.setup) c.args.command.now.schedule c.args.items.now item c.requires.says there

pub told-requires : goal.told-requires
told-requires g c =
    let before = library_at g.L.Library.files g.L.Library.faults g.L.Library.misses c.args.library.now in
    let setup = c.args.command.now.setup in
    let left = c.in_ok-played.played.left in
    c.events_are_sayable.ensures.legal (run_of setup before.files) left.journal.events
    (leaves_legal c.served_calls_are_legal.ensures.fails c.runs_stay_sound.ensures.run c.accepted_object.ensures.machine setup c.args.items.now before.files c.in_ok-played.played.ended left c.in_ok-played.ensures.plays.is)

pub returns-clause-comes : goal.returns-clause-comes
returns-clause-comes g c =
    let before = library_at g.L.Library.files g.L.Library.faults g.L.Library.misses c.args.library.now in
    let after = library_at g.L.Library.files g.L.Library.faults g.L.Library.misses c.play.new.library in
    turns_come c.args.command.now before after c.args.items.now c.in_ok-played.played c.told.result c.requires.says c.in_ok-played.ensures.plays c.told.ensures.end c.told.ensures.text
