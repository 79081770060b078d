-- Whether an instruction has its form: the test, and the table of instructions.
use Rattle.std.proofs.Common.{◌≡◌, ℕ, ◌<◌, ◌^◌, ◌-◌, ◌==◌, ◌&&◌, true, ℤ, pos, neg_ℤ, ◌≤ℤ◌, ◌<ℤ◌, int_le, int_lt, nat_lt, Decides, refl, arith}
use Rattle.std.proofs.lemmas.Bool.Decides.{Decides-and, Decides-or, Decides-eqb, Decides-ltb}
use Rattle.std.proofs.lemmas.Int.{ints}
use Rattle.rv_isa.specs.declared.instr.Instr.{Instr}
use Rattle.rv_isa.specs.declared.instr.Instr.TheVariants as instrs
use Rattle.rv_isa.specs.Opcodes.{Upper, Number as Plain, Shift, imm_code}
use Rattle.rv_isa.specs.Word.{bits, part}
use Rattle.rv_isa.specs.Encoding.{IsWithin, IsDistance, IsUpper, FitsUpper, IsAtomicSize, HasForm}
use Rattle.asm_layout.specs.Faults.{is_within, is_distance, is_upper, fits_field, is_atomic_size, is_fence, has_form}

le_test : (a b : ℤ) → int_le a b ≡ true → a ≤ℤ b
le_test a b e = grind (arith, ints)

le_holds : (a b : ℤ) → a ≤ℤ b → int_le a b ≡ true
le_holds a b h = grind (arith, ints)

lt_test : (a b : ℤ) → int_lt a b ≡ true → a <ℤ b
lt_test a b e = grind (arith, ints)

lt_holds : (a b : ℤ) → a <ℤ b → int_lt a b ≡ true
lt_holds a b h = grind (arith, ints)

within : (width : ℕ) (number : ℤ) → Decides (is_within width number) (IsWithin width number)
within width number =
    let low = neg_ℤ (pos (2 ^ (width - 1))) in
    let high = pos (2 ^ (width - 1)) in
    Decides-and (int_le low number) (int_lt number high) (le_test low number, le_holds low number) (lt_test number high, lt_holds number high)

distance : (width : ℕ) (number : ℤ) → Decides (is_distance width number) (IsDistance width number)
distance width number = Decides-and (is_within width number) (part number 0 1 == 0) (within width number) (Decides-eqb (part number 0 1) 0)

upper : (number : ℤ) → Decides (is_upper number) (IsUpper number)
upper number = Decides-and (is_within 32 number) (part number 0 12 == 0) (within 32 number) (Decides-eqb (part number 0 12) 0)

field : (form : Upper) (number : ℤ) → Decides (fits_field form number) (FitsUpper form number)
field Plain number = within 12 number
field (Shift width constant) number =
    let high = pos (2 ^ width) in
    Decides-and (int_le (pos 0) number) (int_lt number high) (le_test (pos 0) number, le_holds (pos 0) number) (lt_test number high, lt_holds number high)

size_is : (size : ℕ) → Decides (is_atomic_size size) (IsAtomicSize size)
size_is size = Decides-or (size == 4) (size == 8) (Decides-eqb size 4) (Decides-eqb size 8)

fence : (word : ℕ) → Decides (is_fence word) ((word < 2 ^ 32) × (bits 0 7 word ≡ 0x0f) × (bits 12 3 word ≡ 0))
fence word =
    let opcode = Decides-eqb (bits 0 7 word) 0x0f in
    let function = Decides-eqb (bits 12 3 word) 0 in
    let both = Decides-and (bits 0 7 word == 0x0f) (bits 12 3 word == 0) opcode function in
    let all = Decides-and (nat_lt word (2 ^ 32)) (bits 0 7 word == 0x0f && bits 12 3 word == 0) (Decides-ltb word (2 ^ 32)) both in
    (λ e. let p = all.0 e in (p.0, p.1.0, p.1.1), λ h. all.1 (h.0, (h.1, h.2)))

always : Decides true (Unit {0})
always = (λ e. tt, λ h. refl)

pub decides : (instr : Instr) → Decides (has_form instr) (HasForm instr)
unfolding has_form
decides (instrs.Lui rd number) = upper number
decides (instrs.Auipc rd number) = upper number
decides (instrs.Jal rd offset) = distance 21 offset
decides (instrs.Jalr rd rs1 offset) = within 12 offset
decides (instrs.Branch op rs1 rs2 offset) = distance 13 offset
decides (instrs.Load op rd rs1 offset) = within 12 offset
decides (instrs.Store op rs1 rs2 offset) = within 12 offset
decides (instrs.Imm op rd rs1 number) = let code = imm_code op in field code.2 number
decides (instrs.Op op rd rs1 rs2) = always
decides (instrs.Amo op size rd rs1 rs2 aq rl) = size_is size
decides (instrs.Lr size rd rs1 aq rl) = size_is size
decides (instrs.Sc size rd rs1 rs2 aq rl) = size_is size
decides (instrs.Fence word) = fence word
decides instrs.Ecall = always
decides instrs.Ebreak = always
