use Rattle.std.proofs.Common.{◌≡◌, ℕ, ◌+◌, ◌<◌, Bool, true, false, List, sym, ap, subst, ◌∙◌, true≢false, arith}
use Rattle.std.specs.Bool.{OnFalse, OnTrue}
use Rattle.rv_hart.specs.declared.doubleword.Doubleword.{Doubleword}
use Rattle.hart_moves.specs.Due.{Due, due}
use Rattle.hart_moves.specs.Harts.{HartState}
use Rattle.hart_moves.specs.Moves.{spent}
use Rattle.rv_hart.specs.Registers.{Registers}
use Rattle.plain_world.specs.Stretches.{Instructs, StretchesBy}
use Rattle.plain_world.proofs.Stretches.{stretches_more, stretches_none}
use Rattle.plain_world.proofs.stretch.take_instructions.Goals as goal

unchanged : (t : Bool) (P : Type 0) → t ≡ false → OnFalse t P → P
unchanged true P is x = absurd (true≢false is)
unchanged false P is x = x

changed : (t : Bool) (P : Type 0) → t ≡ true → OnTrue t P → P
changed true P is x = x
changed false P is x = absurd (true≢false (sym is))

stays_more : (taken : ℕ) (b m c : HartState) (words words' : List Doubleword) → m ≡ record b { registers = m.registers; turns = b.turns + taken }
    → Instructs words words' m c → c ≡ record b { registers = c.registers; turns = b.turns + (taken + 1) }
stays_more taken b m c words words' same x =
    let next : (b.turns + taken) + 1 ≡ b.turns + (taken + 1) = omega arith in
    let left : c ≡ record b { registers = x.registers; turns = (b.turns + taken) + 1 } =
    x.leaves ∙ ap (λ (y : HartState). spent (record y { registers = x.registers })) same in
    left ∙ ap (λ (n : ℕ). record b { registers = x.registers; turns = n }) next
    ∙ ap (λ (r : Registers). record b { registers = r; turns = b.turns + (taken + 1) }) (sym (ap (λ (y : HartState). y.registers) left))

pub loop-taken-init : goal.loop-taken-init
loop-taken-init c = record {
  stays = let none : c.args.hart.now.hart.turns ≡ c.args.hart.now.hart.turns + 0 = omega arith in
      ap (λ (n : ℕ). record c.args.hart.now.hart { turns = n }) none;
  takes = stretches_none c.args.memory.now c.args.hart.now.hart;
}

pub take_instruction-requires : goal.take_instruction-requires
take_instruction-requires c =
    let few : c.loop-taken.taken < c.instructions_left.result = omega (arith, c.loop-taken-test.true, c.min-left.ensures) in
    record {
      due = λ s none.
          subst (λ (b : HartState). due s b ≡ Due.instruction) (sym c.loop-taken.invariant.stays)
          (c.instructions_left.ensures.instructions s c.loop-taken.hart.hart.registers c.loop-taken.taken few none);
      fuel =
          let turns : c.loop-taken.hart.hart.turns ≡ c.args.hart.now.hart.turns + c.loop-taken.taken = ap (λ (b : HartState). b.turns) c.loop-taken.invariant.stays in
          let fuel : c.loop-taken.hart.hart.fuel ≡ c.args.hart.now.hart.fuel = ap (λ (b : HartState). b.fuel) c.loop-taken.invariant.stays in
          omega (arith, few, turns, fuel, c.instructions_left.ensures.fuel);
    }

pub returns-then-not-take_instruction-clause-takes : goal.returns-then-not-take_instruction-clause-takes
returns-then-not-take_instruction-clause-takes c =
    let same = unchanged c.take_instruction.result _ c.if-not-take_instruction.true c.take_instruction.ensures.other in
    subst (λ (b : HartState). StretchesBy c.loop-taken.taken c.args.memory.now c.take_instruction.new.memory c.args.hart.now.hart b) (sym same.1)
    (subst (λ (ws : List Doubleword). StretchesBy c.loop-taken.taken c.args.memory.now ws c.args.hart.now.hart c.loop-taken.hart.hart) (sym same.0)
    c.loop-taken.invariant.takes)

pub loop-taken-preserved : goal.loop-taken-preserved
loop-taken-preserved c =
    let instructs = changed c.take_instruction.result _ c.if-not-take_instruction.false c.take_instruction.ensures.instructs in
    record {
      stays = stays_more c.loop-taken.taken c.args.hart.now.hart c.loop-taken.hart.hart c.take_instruction.new.hart.hart c.loop-taken.memory c.take_instruction.new.memory
          c.loop-taken.invariant.stays instructs;
      takes = stretches_more c.loop-taken.taken c.args.memory.now c.loop-taken.memory c.take_instruction.new.memory c.args.hart.now.hart c.loop-taken.hart.hart
          c.take_instruction.new.hart.hart c.loop-taken.invariant.takes instructs;
    }
