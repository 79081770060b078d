-- Line by line of the table.
use Rattle.std.proofs.Common.{◌≡◌, ℕ, ℤ, pos, Bool, true, false, List, length, refl}
use Rattle.asm_statement.specs.declared.instruction.AddressOp.{AddressOp}
use Rattle.asm_statement.specs.declared.instruction.AddressOp.TheVariants as addresses
use Rattle.asm_statement.specs.declared.instruction.Instruction.{Instruction}
use Rattle.asm_statement.specs.declared.instruction.Instruction.TheVariants as instructions
use Rattle.asm_layout.specs.Expansions.{expansion, li_instrs, address_expansion}
use Rattle.asm_layout.specs.Numbers.{fits_addi}
use Rattle.asm_layout.specs.Places.{words_in}
use Rattle.asm_layout.proofs.law.words_have_their_room.Goals as goal

of_li : (short : Bool) (rd : ℕ) (one other : ℤ) → length (li_instrs short rd one) ≡ length (li_instrs short rd other)
of_li true rd one other = refl
of_li false rd one other = refl

of_address : (op : AddressOp) (rd : ℕ) (name : List ℕ) (one other : ℤ)
    → length ((address_expansion op rd name).instrs one) ≡ length ((address_expansion op rd name).instrs other)
of_address addresses.La rd name one other = refl
of_address addresses.Lga rd name one other = refl
of_address addresses.LaTlsGd rd name one other = refl
of_address addresses.LaTlsIe rd name one other = refl

same_size : (instruction : Instruction) (value : ℤ) → length ((expansion instruction).instrs value) ≡ words_in instruction
unfolding expansion words_in
same_size (instructions.Plain op) value = refl
same_size (instructions.Jump name) value = refl
same_size (instructions.Call name) value = refl
same_size (instructions.Tail name) value = refl
same_size (instructions.Jal rd name) value = refl
same_size (instructions.BranchZero op rs name) value = refl
same_size (instructions.Branch op rs1 rs2 name) value = refl
same_size (instructions.Address op rd name) value = of_address op rd name value (pos 0)
same_size (instructions.Upper op rd number) value = refl
same_size (instructions.Li rd number) value = of_li (fits_addi number) rd value (pos 0)
same_size (instructions.Load op rd rs1 number) value = refl
same_size (instructions.Store op rs1 rs2 number) value = refl
same_size (instructions.Imm op rd rs1 number) value = refl
same_size (instructions.Op op rd rs1 rs2) value = refl
same_size (instructions.Amo op access rd rs1 rs2) value = refl
same_size (instructions.Lr access rd rs1) value = refl
same_size (instructions.Sc access rd rs1 rs2) value = refl
same_size (instructions.Jalr rd rs1 number) value = refl
same_size (instructions.Mv rd rs) value = refl
same_size (instructions.Jr rs) value = refl
same_size (instructions.Fence fence) value = refl

pub returns : goal.returns
returns c = same_size
