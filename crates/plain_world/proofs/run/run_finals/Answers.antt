use Rattle.std.proofs.Common.{ℕ, None, sym, subst, ◌∙◌, arith, refl}
use Rattle.world_turns.specs.Run.{RunEnds}
use Rattle.world_answers.specs.GuestsPart.GuestWorlds.Coming.{HasEnd}
use Rattle.plain_world.specs.Stretches.{TakesSome}
use Rattle.world_answers.specs.GuestsPart.Counting.{counts_at}
use Rattle.world_answers.specs.GuestsPart.Lemmas.Counting.{unmoved}
use Rattle.plain_world.proofs.Counting.{more_counted, no_count, same_folders}
use Rattle.plain_world.proofs.Going.{in_each, moved_more, runs_first}
use Rattle.plain_world.proofs.Stretches.{each_some_less, each_some_others, next_ends}
use Rattle.plain_world.proofs.run.run_finals.Goals as goal

pub loop-alloc-init : goal.loop-alloc-init
loop-alloc-init g c = record {
  rest = refl;
  goes = λ w over new more. more;
  others = c.requires;
  counts = no_count c.args.run.now.folders c.args.run.now.world c.args.run.now.world (counts_at g.L.Library.faults g.L.Library.misses c.args.library.now)
      (unmoved c.args.run.now.world);
  files = refl;
  faults = omega arith;
  misses = omega arith;
}

pub go_on-requires : goal.go_on-requires
go_on-requires g c =
    subst (λ (h : ℕ). HasEnd c.loop-alloc.run.world h None) (sym c.new.ensures)
    (runs_first c.loop-alloc.run.world (sym c.have_ended.ensures ∙ c.loop-alloc-test.true) c.loop-alloc.invariant.others)

pub loop-alloc-smaller : goal.loop-alloc-smaller
loop-alloc-smaller g c =
    each_some_less c.loop-alloc.run (g.L.Library.files c.loop-alloc.library) c.new.result c.loop-alloc.run.world c.go_on.new.run.world
    (subst (λ (h : ℕ). HasEnd c.loop-alloc.run.world h None) (sym c.new.ensures)
    (runs_first c.loop-alloc.run.world (sym c.have_ended.ensures ∙ c.loop-alloc-test.true) c.loop-alloc.invariant.others))
    c.go_on.ensures.takes

pub loop-alloc-preserved : goal.loop-alloc-preserved
loop-alloc-preserved g c = record {
  rest = moved_more c.args.run.now c.loop-alloc.run c.go_on.new.run c.loop-alloc.invariant.rest c.go_on.ensures.rest;
  goes = λ w over new more.
      let some = subst (λ (h : ℕ). TakesSome w h c.loop-alloc.run.world c.go_on.new.run.world) c.new.ensures
      (in_each c.args.run.now c.loop-alloc.run (g.L.Library.files c.args.library.now) (g.L.Library.files c.loop-alloc.library)
      (λ v. TakesSome v c.new.result c.loop-alloc.run.world c.go_on.new.run.world) c.loop-alloc.invariant.rest c.loop-alloc.invariant.files c.go_on.ensures.takes w over) in
      c.loop-alloc.invariant.goes w over new
      (next_ends w some.0 c.loop-alloc.run.world c.go_on.new.run.world new
      (runs_first c.loop-alloc.run.world (sym c.have_ended.ensures ∙ c.loop-alloc-test.true) c.loop-alloc.invariant.others) some.1 more);
  others = each_some_others c.loop-alloc.run (g.L.Library.files c.loop-alloc.library) c.loop-alloc.run.world c.go_on.new.run.world
      (runs_first c.loop-alloc.run.world (sym c.have_ended.ensures ∙ c.loop-alloc-test.true) c.loop-alloc.invariant.others)
      (λ w over. subst (λ (h : ℕ). TakesSome w h c.loop-alloc.run.world c.go_on.new.run.world) c.new.ensures (c.go_on.ensures.takes w over))
      c.loop-alloc.invariant.others;
  counts = more_counted g.L.Library.faults g.L.Library.misses c.args.run.now c.loop-alloc.run c.go_on.new.run.world c.args.library.now
      c.loop-alloc.library c.go_on.new.library (same_folders c.args.run.now c.loop-alloc.run c.loop-alloc.invariant.rest) c.loop-alloc.invariant.faults
      c.loop-alloc.invariant.misses c.go_on.ensures.faults c.go_on.ensures.misses c.loop-alloc.invariant.counts c.go_on.ensures.counts;
  files = c.go_on.ensures.files ∙ c.loop-alloc.invariant.files;
  faults = omega arith;
  misses = omega arith;
}

pub returns-clause-ends : goal.returns-clause-ends
returns-clause-ends g c = λ w over. c.loop-alloc.invariant.goes w over c.loop-alloc.run.world
    (RunEnds.no_more c.loop-alloc.run.world (sym c.have_ended.ensures ∙ c.loop-alloc-test.false))
