use Rattle.std.proofs.Common.{sym, ◌∙◌, arith, refl}
use Rattle.world_turns.specs.Run.{RunFinishes}
use Rattle.plain_world.specs.Stretches.{GoesRound}
use Rattle.world_answers.specs.GuestsPart.Counting.{counts_at}
use Rattle.world_answers.specs.GuestsPart.Lemmas.Counting.{unmoved}
use Rattle.plain_world.proofs.Counting.{more_counted, no_count, same_folders}
use Rattle.plain_world.proofs.Going.{in_each, moved_more}
use Rattle.plain_world.proofs.Stretches.{each_rounds_less, round_finishes}
use Rattle.plain_world.proofs.run.finish.Goals as goal

pub loop-alloc-init : goal.loop-alloc-init
loop-alloc-init g c = record {
  rest = refl;
  goes = λ w over new more. more;
  counts = no_count c.args.run.now.folders c.args.run.now.world c.args.run.now.world (counts_at g.L.Library.faults g.L.Library.misses c.args.library.now)
      (unmoved c.args.run.now.world);
  files = refl;
  faults = omega arith;
  misses = omega arith;
}

pub loop-alloc-smaller : goal.loop-alloc-smaller
loop-alloc-smaller g c =
    each_rounds_less c.loop-alloc.run (g.L.Library.files c.loop-alloc.library) c.loop-alloc.run.world c.go_rounds.new.run.world c.go_rounds.ensures.rounds

pub loop-alloc-preserved : goal.loop-alloc-preserved
loop-alloc-preserved g c = record {
  rest = moved_more c.args.run.now c.loop-alloc.run c.go_rounds.new.run c.loop-alloc.invariant.rest c.go_rounds.ensures.rest;
  goes = λ w over new more. c.loop-alloc.invariant.goes w over new
      (round_finishes w c.loop-alloc.run.world c.go_rounds.new.run.world new
      (in_each c.args.run.now c.loop-alloc.run (g.L.Library.files c.args.library.now) (g.L.Library.files c.loop-alloc.library)
      (λ v. GoesRound v c.loop-alloc.run.world c.go_rounds.new.run.world) c.loop-alloc.invariant.rest c.loop-alloc.invariant.files c.go_rounds.ensures.rounds w over)
      more);
  counts = more_counted g.L.Library.faults g.L.Library.misses c.args.run.now c.loop-alloc.run c.go_rounds.new.run.world c.args.library.now
      c.loop-alloc.library c.go_rounds.new.library (same_folders c.args.run.now c.loop-alloc.run c.loop-alloc.invariant.rest) c.loop-alloc.invariant.faults
      c.loop-alloc.invariant.misses c.go_rounds.ensures.faults c.go_rounds.ensures.misses c.loop-alloc.invariant.counts c.go_rounds.ensures.counts;
  files = c.go_rounds.ensures.files ∙ c.loop-alloc.invariant.files;
  faults = omega arith;
  misses = omega arith;
}

pub returns-clause-finishes : goal.returns-clause-finishes
returns-clause-finishes g c = λ w over. c.loop-alloc.invariant.goes w over c.loop-alloc.run.world
    (RunFinishes.no_more c.loop-alloc.run.world (sym c.have_ended.ensures ∙ c.loop-alloc-test.false))
