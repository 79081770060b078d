use Rattle.std.proofs.Common.{◌≡◌, ◌∙◌, sym, ◌/◌, [], drop, length, refl, arith, lit≤, add-zero}
use Rattle.elf_dynamic.specs.Relr.{relr_words}
use Rattle.elf_dynamic.specs.Rules.{bad_packed}
use Rattle.std.proofs.Math.ListN.{drop_of_length-le}
use Rattle.ld_base.specs.Field.{field}
use Rattle.elf_head.specs.AcceptancePart.Lemmas.Tables.{length-table}
use Rattle.elf_dynamic.proofs.Packed.{front_end, front_more, front_stop, one_word}
use Rattle.elf_dynamic.proofs.relr.judge_packed.Goals as goal

pub returns-then-begins_odd : goal.returns-then-begins_odd
unfolding bad_packed
returns-then-begins_odd c ranges judged = rw (c.broken.ensures, ← c.begins_odd.ensures, c.if-begins_odd.true, add-zero) refl

pub loop-index-init : goal.loop-index-init
loop-index-init c = record {
  kept = λ ranges judged. ([], judged, refl);
  near = lit≤ tt;
  few = omega (arith, c.requires.count);
}

pub returns-then-not-kept : goal.returns-then-not-kept
unfolding bad_packed
returns-then-not-kept c ranges judged =
    let found = front_stop (c.loop-index.invariant.kept ranges judged) _ _
    (one_word c.args.packed.now c.loop-index.next c.loop-index.index c.field64-word.result c.loop-index-test.true c.field64-word.ensures)
    _ c.admit_word.new.self c.in_ok-kept.ensures.kept c.if-not-kept.true in
    rw (c.broken-then-not-kept.ensures, ← c.begins_odd.ensures, c.if-begins_odd.false, found) refl

pub loop-index-preserved : goal.loop-index-preserved
loop-index-preserved c = record {
  kept = λ ranges judged.
      rw c.next_after-next.ensures (front_more (c.loop-index.invariant.kept ranges judged) _ _
      (one_word c.args.packed.now c.loop-index.next c.loop-index.index c.field64-word.result c.loop-index-test.true c.field64-word.ensures)
      _ c.admit_word.new.self c.in_ok-kept.ensures.kept c.if-not-kept.false);
  near = let low = c.in_ok-kept.ensures.low c.if-not-kept.false in rw c.next_after-next.ensures (grind arith);
  few = omega (arith, c.in_ok-kept.ensures.few, c.loop-index.invariant.few);
}

pub returns : goal.returns
returns c ranges judged =
    let past : drop c.loop-index.index (relr_words c.args.packed.now)
    ≡ [] = drop_of_length-le (relr_words c.args.packed.now) (omega (arith, length-table (field 8 c.args.packed.now) 0 8 (length c.args.packed.now / 8))) in
    (sym c.begins_odd.ensures ∙ c.if-begins_odd.false, front_end (c.loop-index.invariant.kept ranges judged) (rw past refl))
