use Rattle.std.proofs.Common.{refl, ap, arith}
use Rattle.hart_moves.specs.Starting.{starting_registers}
use Rattle.world_turns.specs.Run.{RunEnds, Finalises}
use Rattle.plain_world.specs.Playing.{FinalisesOnce}
use Rattle.plain_world.specs.Table.{WorldTable}
use Rattle.world_answers.specs.GuestsPart.Counting.{counts_at}
use Rattle.world_turns.specs.Counts.{Counts}
use Rattle.plain_world.proofs.Counting.{more_counted, no_count}
use Rattle.plain_world.proofs.Going.{each_finalised_over, in_each_of, others_when_begun}
use Rattle.plain_world.proofs.run.finalise.Goals as goal

pub run_finals-requires : goal.run_finals-requires
run_finals-requires g c =
    others_when_begun c.args.run.now.begun (starting_registers c.args.run.now.entry) c.args.run.now.world c.begin_finals.new.self.world c.if-begin_finals.ensures.begins

pub returns-then-begin_finals-clause-finalises : goal.returns-then-begin_finals-clause-finalises
returns-then-begin_finals-clause-finalises g c = λ w over.
    let x = c.if-begin_finals.ensures.begins in
    FinalisesOnce.for_once x.before (Finalises.all_run c.begin_finals.new.self.world x.exited x.begins
    (in_each_of c.args.run.now c.begin_finals.new.self (g.L.Library.files c.args.library.now) (g.L.Library.files c.args.library.now)
    (λ v. RunEnds v c.begin_finals.new.self.world c.run_finals.new.run.world)
    (ap (λ (t : WorldTable). t.count) c.begin_finals.ensures.rest) (ap (λ (t : WorldTable). t.folders) c.begin_finals.ensures.rest) refl
    c.run_finals.ensures.ends w over))

pub returns-else-begin_finals-clause-finalises : goal.returns-else-begin_finals-clause-finalises
returns-else-begin_finals-clause-finalises g c = λ w over. c.if-begin_finals.ensures.other w over.machine

pub returns-else-begin_finals-clause-over : goal.returns-else-begin_finals-clause-over
returns-else-begin_finals-clause-over g c =
    each_finalised_over c.args.run.now (g.L.Library.files c.args.library.now) (starting_registers c.args.run.now.entry) c.args.run.now.world
    c.begin_finals.new.self.world (λ w over. c.if-begin_finals.ensures.other w over.machine) c.requires

pub returns-then-begin_finals-clause-counts : goal.returns-then-begin_finals-clause-counts
returns-then-begin_finals-clause-counts g c =
    let counts : Counts = counts_at g.L.Library.faults g.L.Library.misses c.args.library.now in
    more_counted g.L.Library.faults g.L.Library.misses c.args.run.now c.begin_finals.new.self c.run_finals.new.run.world c.args.library.now c.args.library.now
    c.run_finals.new.library (ap (λ (t : WorldTable). t.folders) c.begin_finals.ensures.rest) (omega arith) (omega arith) c.run_finals.ensures.faults
    c.run_finals.ensures.misses (no_count c.args.run.now.folders c.args.run.now.world c.begin_finals.new.self.world counts c.begin_finals.ensures.refuses)
    c.run_finals.ensures.counts

pub returns-else-begin_finals-clause-counts : goal.returns-else-begin_finals-clause-counts
returns-else-begin_finals-clause-counts g c =
    no_count c.args.run.now.folders c.args.run.now.world c.begin_finals.new.self.world
    (counts_at g.L.Library.faults g.L.Library.misses c.args.library.now) c.begin_finals.ensures.refuses
