use Rattle.std.proofs.Common.{◌≡◌, ℕ, ◌+◌, ◌-◌, refl, subst, ◌∙◌, arith}
use Rattle.world_answers.specs.GuestsPart.Counting.{counts_at}
use Rattle.world_answers.specs.GuestsPart.Lemmas.Counting.{unmoved}
use Rattle.world_turns.specs.Run.{Repeats}
use Rattle.plain_world.specs.Stretches.{TakesNext}
use Rattle.plain_world.proofs.Counting.{more_counted, no_count, same_folders}
use Rattle.plain_world.proofs.Going.{in_each, moved_more}
use Rattle.plain_world.proofs.Stretches.{next_repeats, none_repeats}
use Rattle.plain_world.proofs.run.repeat.Goals as goal

pub loop-left-init : goal.loop-left-init
loop-left-init g c = record {
  rest = refl;
  goes = λ w over new more. more;
  counts = no_count c.args.run.now.folders c.args.run.now.world c.args.run.now.world (counts_at g.L.Library.faults g.L.Library.misses c.args.library.now)
      (unmoved c.args.run.now.world);
  files = refl;
  faults = omega arith;
  misses = omega arith;
}

pub returns-then-taken-eq0-clause-repeats : goal.returns-then-taken-eq0-clause-repeats
returns-then-taken-eq0-clause-repeats g c = λ w over.
    c.loop-left.invariant.goes w over c.next_turns-taken.new.self.world
    (none_repeats w c.args.item.hart c.next_turns-taken.result c.loop-left.left c.loop-left.run.world c.next_turns-taken.new.self.world
    (in_each c.args.run.now c.loop-left.run (g.L.Library.files c.args.library.now) (g.L.Library.files c.loop-left.library)
    (λ v. TakesNext v c.args.item.hart c.next_turns-taken.result c.loop-left.run.world c.next_turns-taken.new.self.world) c.loop-left.invariant.rest
    c.loop-left.invariant.files c.next_turns-taken.ensures.takes w over) c.if-taken-eq0.true)

pub returns-then-taken-eq0-clause-counts : goal.returns-then-taken-eq0-clause-counts
returns-then-taken-eq0-clause-counts g c =
    more_counted g.L.Library.faults g.L.Library.misses c.args.run.now c.loop-left.run c.next_turns-taken.new.self.world c.args.library.now c.loop-left.library
    c.next_turns-taken.new.library (same_folders c.args.run.now c.loop-left.run c.loop-left.invariant.rest) c.loop-left.invariant.faults c.loop-left.invariant.misses
    c.next_turns-taken.ensures.faults c.next_turns-taken.ensures.misses c.loop-left.invariant.counts c.next_turns-taken.ensures.counts

pub loop-left-preserved : goal.loop-left-preserved
loop-left-preserved g c = record {
  rest = moved_more c.args.run.now c.loop-left.run c.next_turns-taken.new.self c.loop-left.invariant.rest c.next_turns-taken.ensures.rest;
  goes = λ w over new more.
      let all : c.next_turns-taken.result + (c.loop-left.left - c.next_turns-taken.result) ≡ c.loop-left.left = omega (arith, c.next_turns-taken.ensures.most) in
      c.loop-left.invariant.goes w over new
      (subst (λ (n : ℕ). Repeats w c.args.item.hart n c.loop-left.run.world new) all
      (next_repeats w c.args.item.hart c.next_turns-taken.result (c.loop-left.left - c.next_turns-taken.result) c.loop-left.run.world c.next_turns-taken.new.self.world new
      (in_each c.args.run.now c.loop-left.run (g.L.Library.files c.args.library.now) (g.L.Library.files c.loop-left.library)
      (λ v. TakesNext v c.args.item.hart c.next_turns-taken.result c.loop-left.run.world c.next_turns-taken.new.self.world) c.loop-left.invariant.rest
      c.loop-left.invariant.files c.next_turns-taken.ensures.takes w over) more));
  counts = more_counted g.L.Library.faults g.L.Library.misses c.args.run.now c.loop-left.run c.next_turns-taken.new.self.world c.args.library.now
      c.loop-left.library c.next_turns-taken.new.library (same_folders c.args.run.now c.loop-left.run c.loop-left.invariant.rest) c.loop-left.invariant.faults
      c.loop-left.invariant.misses c.next_turns-taken.ensures.faults c.next_turns-taken.ensures.misses c.loop-left.invariant.counts c.next_turns-taken.ensures.counts;
  files = c.next_turns-taken.ensures.files ∙ c.loop-left.invariant.files;
  faults = omega arith;
  misses = omega arith;
}

pub returns-clause-repeats : goal.returns-clause-repeats
returns-clause-repeats g c = λ w over.
    let none : 0 ≡ c.loop-left.left = omega (arith, c.loop-left-test.false) in
    c.loop-left.invariant.goes w over c.loop-left.run.world
    (subst (λ (n : ℕ). Repeats w c.args.item.hart n c.loop-left.run.world c.loop-left.run.world) none (Repeats.no_more c.loop-left.run.world))
