use Rattle.std.proofs.Common.{◌≡◌, ℕ, ◌<◌, ◌≤◌, ◌-◌, length, refl, subst, ◌∙◌, arith}
use Rattle.std.specs.List.{range_with_len}
use Rattle.world_turns.specs.Run.{Rounds}
use Rattle.world_turns.specs.Turn.{TakesTurn}
use Rattle.plain_world.specs.Stretches.{TakesNext}
use Rattle.world_answers.specs.GuestsPart.Counting.{counts_at}
use Rattle.world_answers.specs.GuestsPart.Lemmas.Counting.{unmoved}
use Rattle.plain_world.proofs.Counting.{more_counted, no_count, same_folders}
use Rattle.plain_world.proofs.Going.{in_each, moved_more, rounds_more, rounds_over}
use Rattle.plain_world.proofs.Stretches.{next_turn}
use Rattle.plain_world.proofs.run.go_round.Goals as goal

pub loop-number-init : goal.loop-number-init
loop-number-init g c = record {
  rest = refl;
  goes = λ w over new more. subst (λ (n : ℕ). Rounds w (range_with_len 0 n) c.args.run.now.world new) (let none : length c.args.run.now.world.harts - 0 ≡ length c.args.run.now.world.harts = omega arith in none) more;
  counts = no_count c.args.run.now.folders c.args.run.now.world c.args.run.now.world (counts_at g.L.Library.faults g.L.Library.misses c.args.library.now)
      (unmoved c.args.run.now.world);
  files = refl;
  faults = omega arith;
  misses = omega arith;
}

pub loop-number-preserved : goal.loop-number-preserved
loop-number-preserved g c =
    let count = c.count-number-end.ensures.count in
    let harts = c.count-number-end.ensures.harts in
    let within : c.loop-number.number < length c.args.run.now.world.harts = omega (arith, count, harts, c.loop-number-test.true) in
    record {
      rest = moved_more c.args.run.now c.loop-number.run c.next_turns.new.self c.loop-number.invariant.rest c.next_turns.ensures.rest;
      goes = λ w over new more. c.loop-number.invariant.goes w over new
          (rounds_more w (length c.args.run.now.world.harts) c.loop-number.number c.loop-number.run.world c.next_turns.new.self.world new within
          (subst (λ (h : ℕ). TakesTurn w h c.loop-number.run.world c.next_turns.new.self.world) c.new.ensures
          (next_turn w c.new.result c.next_turns.result c.loop-number.run.world c.next_turns.new.self.world c.next_turns.ensures.most
          (in_each c.args.run.now c.loop-number.run (g.L.Library.files c.args.library.now) (g.L.Library.files c.loop-number.library)
          (λ v. TakesNext v c.new.result c.next_turns.result c.loop-number.run.world c.next_turns.new.self.world) c.loop-number.invariant.rest
          c.loop-number.invariant.files c.next_turns.ensures.takes w over))) more);
      counts = more_counted g.L.Library.faults g.L.Library.misses c.args.run.now c.loop-number.run c.next_turns.new.self.world c.args.library.now
          c.loop-number.library c.next_turns.new.library (same_folders c.args.run.now c.loop-number.run c.loop-number.invariant.rest) c.loop-number.invariant.faults
          c.loop-number.invariant.misses c.next_turns.ensures.faults c.next_turns.ensures.misses c.loop-number.invariant.counts c.next_turns.ensures.counts;
      files = c.next_turns.ensures.files ∙ c.loop-number.invariant.files;
      faults = omega arith;
      misses = omega arith;
    }

pub returns-clause-rounds : goal.returns-clause-rounds
returns-clause-rounds g c = λ w over.
    let past : length c.args.run.now.world.harts ≤ c.loop-number.number =
    omega (arith, c.count-number-end.ensures.count, c.count-number-end.ensures.harts, c.loop-number-test.false) in
    c.loop-number.invariant.goes w over c.loop-number.run.world (rounds_over w (length c.args.run.now.world.harts) c.loop-number.number c.loop-number.run.world past)
