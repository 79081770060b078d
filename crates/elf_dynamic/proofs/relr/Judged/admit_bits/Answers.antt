use Rattle.std.proofs.Common.{◌≡◌, ◌+◌, ◌-◌, refl, arith}
use Rattle.elf_dynamic.specs.Relr.{bits_of}
use Rattle.elf_dynamic.proofs.Packed.{bits_from, front_end, front_more, front_stop, one_bit}
use Rattle.elf_dynamic.proofs.relr.Judged.admit_bits.Goals as goal

pub loop-bit-init : goal.loop-bit-init
unfolding bits_of
loop-bit-init c = record {
  kept = λ ranges places judged. (places, judged, refl);
  few = omega arith;
}

pub returns-then-not-kept-clause-kept : goal.returns-then-not-kept-clause-kept
returns-then-not-kept-clause-kept c ranges places judged =
    front_stop (c.loop-bit.invariant.kept ranges places judged) _ (bits_from c.args.word c.args.next (c.loop-bit.bit + 1))
    (one_bit c.args.word c.args.next c.loop-bit.bit (omega arith))
    _ c.admit_bit.new.self c.in_ok-kept.ensures.kept c.if-not-kept.true

pub loop-bit-preserved : goal.loop-bit-preserved
loop-bit-preserved c = record {
  kept = λ ranges places judged.
      front_more (c.loop-bit.invariant.kept ranges places judged) _ (bits_from c.args.word c.args.next (c.loop-bit.bit + 1))
      (one_bit c.args.word c.args.next c.loop-bit.bit (omega arith))
      _ c.admit_bit.new.self c.in_ok-kept.ensures.kept c.if-not-kept.false;
  few = omega (arith, c.in_ok-kept.ensures.few, c.loop-bit.invariant.few);
}

pub returns-clause-kept : goal.returns-clause-kept
returns-clause-kept c ranges places judged =
    let past : 64 - c.loop-bit.bit ≡ 0 = omega arith in
    front_end (c.loop-bit.invariant.kept ranges places judged) (rw past refl)
