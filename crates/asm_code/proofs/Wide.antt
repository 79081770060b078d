-- A number that 32 bits don't hold fits no form.
use Rattle.std.proofs.Common.{◌≡◌, ℕ, ◌^◌, ◌==◌, ◌&&◌, Bool, false, ℤ, pos, int_le, int_lt, List, [], ◌∷◌, None, refl, ap, arith}
use Rattle.std.specs.Prelude.{if◌then◌else◌, map, Some}
use Rattle.std.specs.List.{list_all}
use Rattle.std.proofs.lemmas.Int.{ints}
use Rattle.rv_isa.specs.declared.instr.Instr.{Instr}
use Rattle.rv_isa.specs.declared.instr.Instr.TheVariants as instrs
use Rattle.rv_isa.specs.declared.operation.BranchOp.{BranchOp}
use Rattle.rv_isa.specs.declared.operation.LoadOp.{LoadOp}
use Rattle.rv_isa.specs.declared.operation.StoreOp.{StoreOp}
use Rattle.rv_isa.specs.declared.operation.ImmOp.{ImmOp}
use Rattle.rv_isa.specs.declared.operation.ImmOp.TheVariants as imms
use Rattle.rv_isa.specs.Encoding.{word_of}
use Rattle.rv_isa.specs.Opcodes.{imm_code}
use Rattle.rv_isa.specs.Word.{part}
use Rattle.asm_layout.specs.Faults.{has_form, is_within, fits_field}
use Rattle.asm_code.specs.Encoded.{encoded}

wide_12 : (value : ℤ) → is_within 32 value ≡ false → is_within 12 value ≡ false
wide_12 value wide = grind (arith, ints)

wide_13 : (value : ℤ) → is_within 32 value ≡ false → is_within 13 value ≡ false
wide_13 value wide = grind (arith, ints)

wide_21 : (value : ℤ) → is_within 32 value ≡ false → is_within 21 value ≡ false
wide_21 value wide = grind (arith, ints)

wide_6 : (value : ℤ) → is_within 32 value ≡ false → (int_le (pos 0) value && int_lt value (pos (2 ^ 6))) ≡ false
wide_6 value wide = grind (arith, ints)

wide_5 : (value : ℤ) → is_within 32 value ≡ false → (int_le (pos 0) value && int_lt value (pos (2 ^ 5))) ≡ false
wide_5 value wide = grind (arith, ints)

-- an instruction without its form has no word
pub no_word : (instr : Instr) (rest : List Instr) → has_form instr ≡ false → None ≡ encoded (instr ∷ rest)
no_word instr rest none =
    let P : Bool → Type 0 = λ has. None ≡ (if has && list_all has_form rest then Some (word_of instr ∷ map word_of rest) else None) in
    let P-false : P false = refl in
    rw none P-false

pub wide_jal : (rd : ℕ) (value : ℤ) → is_within 32 value ≡ false → None ≡ encoded (instrs.Jal rd value ∷ [])
unfolding has_form
wide_jal rd value wide = no_word (instrs.Jal rd value) [] (ap (λ (b : Bool). b && (part value 0 1 == 0)) (wide_21 value wide))

pub wide_branch : (op : BranchOp) (rs1 rs2 : ℕ) (value : ℤ) → is_within 32 value ≡ false → None ≡ encoded (instrs.Branch op rs1 rs2 value ∷ [])
unfolding has_form
wide_branch op rs1 rs2 value wide = no_word (instrs.Branch op rs1 rs2 value) [] (ap (λ (b : Bool). b && (part value 0 1 == 0)) (wide_13 value wide))

pub wide_jalr : (rd rs1 : ℕ) (value : ℤ) → is_within 32 value ≡ false → None ≡ encoded (instrs.Jalr rd rs1 value ∷ [])
unfolding has_form
wide_jalr rd rs1 value wide = no_word (instrs.Jalr rd rs1 value) [] (wide_12 value wide)

pub wide_load : (op : LoadOp) (rd rs1 : ℕ) (value : ℤ) → is_within 32 value ≡ false → None ≡ encoded (instrs.Load op rd rs1 value ∷ [])
unfolding has_form
wide_load op rd rs1 value wide = no_word (instrs.Load op rd rs1 value) [] (wide_12 value wide)

pub wide_store : (op : StoreOp) (rs1 rs2 : ℕ) (value : ℤ) → is_within 32 value ≡ false → None ≡ encoded (instrs.Store op rs1 rs2 value ∷ [])
unfolding has_form
wide_store op rs1 rs2 value wide = no_word (instrs.Store op rs1 rs2 value) [] (wide_12 value wide)

wide_field : (op : ImmOp) (value : ℤ) → is_within 32 value ≡ false → fits_field (imm_code op).2 value ≡ false
wide_field imms.Addi value wide = wide_12 value wide
wide_field imms.Slti value wide = wide_12 value wide
wide_field imms.Sltiu value wide = wide_12 value wide
wide_field imms.Xori value wide = wide_12 value wide
wide_field imms.Ori value wide = wide_12 value wide
wide_field imms.Andi value wide = wide_12 value wide
wide_field imms.Slli value wide = wide_6 value wide
wide_field imms.Srli value wide = wide_6 value wide
wide_field imms.Srai value wide = wide_6 value wide
wide_field imms.Addiw value wide = wide_12 value wide
wide_field imms.Slliw value wide = wide_5 value wide
wide_field imms.Srliw value wide = wide_5 value wide
wide_field imms.Sraiw value wide = wide_5 value wide

pub wide_imm : (op : ImmOp) (rd rs1 : ℕ) (value : ℤ) → is_within 32 value ≡ false → None ≡ encoded (instrs.Imm op rd rs1 value ∷ [])
unfolding has_form
wide_imm op rd rs1 value wide = no_word (instrs.Imm op rd rs1 value) [] (wide_field op value wide)

pub wide_upper : (by : ℕ) (upper : ℤ) (last : Instr) → is_within 32 upper ≡ false → None ≡ encoded (instrs.Auipc by upper ∷ last ∷ [])
unfolding has_form
wide_upper by upper last wide = no_word (instrs.Auipc by upper) (last ∷ []) (ap (λ (b : Bool). b && (part upper 0 12 == 0)) wide)
