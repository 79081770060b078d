use Rattle.std.proofs.Common.{ℕ, ◌<◌, ◌≤◌, length, sym, ap, subst, ◌∙◌, arith, refl}
use Rattle.world_turns.specs.Run.{Repeats}
use Rattle.plain_world.specs.Table.{WorldTable}
use Rattle.world_answers.specs.GuestsPart.Counting.{counts_at}
use Rattle.world_answers.specs.GuestsPart.Lemmas.Counting.{unmoved}
use Rattle.plain_world.proofs.Counting.{more_counted, no_count, same_folders}
use Rattle.plain_world.proofs.Going.{in_each, items_more, items_over, moved_more}
use Rattle.plain_world.proofs.run.follow.Goals as goal

pub loop-item-init : goal.loop-item-init
loop-item-init g c = record {
  rest = refl;
  goes = λ w over new more. more;
  counts = no_count c.args.run.now.folders c.args.run.now.world c.args.run.now.world (counts_at g.L.Library.faults g.L.Library.misses c.args.library.now)
      (unmoved c.args.run.now.world);
  files = refl;
  faults = omega arith;
  misses = omega arith;
}

pub repeat-requires : goal.repeat-requires
repeat-requires g c =
    let within : c.loop-item.item-index < length c.args.items.now = omega (arith, c.loop-item-test.true) in
    subst (λ (n : ℕ). c.item-item.result.hart < n) (sym (ap (λ (t : WorldTable). t.count) c.loop-item.invariant.rest))
    (c.requires c.item-item.result (c.loop-item.item-index, within, sym c.item-item.is))

pub loop-item-preserved : goal.loop-item-preserved
loop-item-preserved g c = record {
  rest = moved_more c.args.run.now c.loop-item.run c.repeat.new.run c.loop-item.invariant.rest c.repeat.ensures.rest;
  goes = λ w over new more.
      let within : c.loop-item.item-index < length c.args.items.now = omega (arith, c.loop-item-test.true) in
      c.loop-item.invariant.goes w over new
      (items_more w c.args.items.now c.loop-item.item-index c.item-item.result c.loop-item.run.world c.repeat.new.run.world new within (sym c.item-item.is)
      (in_each c.args.run.now c.loop-item.run (g.L.Library.files c.args.library.now) (g.L.Library.files c.loop-item.library)
      (λ v. Repeats v c.item-item.result.hart c.item-item.result.count c.loop-item.run.world c.repeat.new.run.world) c.loop-item.invariant.rest
      c.loop-item.invariant.files c.repeat.ensures.repeats w over) more);
  counts = more_counted g.L.Library.faults g.L.Library.misses c.args.run.now c.loop-item.run c.repeat.new.run.world c.args.library.now
      c.loop-item.library c.repeat.new.library (same_folders c.args.run.now c.loop-item.run c.loop-item.invariant.rest) c.loop-item.invariant.faults
      c.loop-item.invariant.misses c.repeat.ensures.faults c.repeat.ensures.misses c.loop-item.invariant.counts c.repeat.ensures.counts;
  files = c.repeat.ensures.files ∙ c.loop-item.invariant.files;
  faults = omega arith;
  misses = omega arith;
}

pub returns-clause-follows : goal.returns-clause-follows
returns-clause-follows g c = λ w over.
    let past : length c.args.items.now ≤ c.loop-item.item-index = omega (arith, c.loop-item-test.false) in
    c.loop-item.invariant.goes w over c.loop-item.run.world (items_over w c.args.items.now c.loop-item.item-index c.loop-item.run.world past)
