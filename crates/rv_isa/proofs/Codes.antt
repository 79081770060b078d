-- Each mnemonic is the one with its code.
use Rattle.std.proofs.Common.{◌≡◌, ℕ, ◌+◌, ◌-◌, ◌^◌, ◌<◌, Some, refl, sym, lit<}
use Rattle.std.specs.Prelude.{◌==◌}
use Rattle.rv_isa.specs.declared.operation.BranchOp.{BranchOp}
use Rattle.rv_isa.specs.declared.operation.BranchOp.TheVariants.{Beq}
use Rattle.rv_isa.specs.declared.operation.LoadOp.{LoadOp}
use Rattle.rv_isa.specs.declared.operation.LoadOp.TheVariants.{Lb}
use Rattle.rv_isa.specs.declared.operation.StoreOp.{StoreOp}
use Rattle.rv_isa.specs.declared.operation.StoreOp.TheVariants.{Sb}
use Rattle.rv_isa.specs.declared.operation.ImmOp.{ImmOp}
use Rattle.rv_isa.specs.declared.operation.ImmOp.TheVariants.{Slli, Srli, Srai, Slliw, Srliw, Sraiw}
use Rattle.rv_isa.specs.declared.operation.RegOp.{RegOp}
use Rattle.rv_isa.specs.declared.operation.RegOp.TheVariants.{Add}
use Rattle.rv_isa.specs.declared.operation.AmoOp.{AmoOp}
use Rattle.rv_isa.specs.declared.operation.AmoOp.TheVariants.{Swap}
use Rattle.rv_isa.specs.Opcodes.{Upper, Number, Shift, branch_code, load_code, store_code, imm_code, reg_code, amo_code}
use Rattle.std.proofs.lemmas.Bool.{eqb-true}
use Rattle.rv_isa.proofs.Options.{found_passes}
use Rattle.rv_isa.specs.Reading.{branch_ops, load_ops, store_ops, amo_ops, branch_of, load_of, store_of, amo_of, reg_of, imm_of}
use Rattle.rv_isa.specs.Word.{bits}

pub branch_of-code : (op : BranchOp) → branch_of (branch_code op) ≡ Some op
branch_of-code Beq = refl
branch_of-code _ = refl

pub load_of-code : (op : LoadOp) → load_of (load_code op) ≡ Some op
load_of-code Lb = refl
load_of-code _ = refl

pub store_of-code : (op : StoreOp) → store_of (store_code op) ≡ Some op
store_of-code Sb = refl
store_of-code _ = refl

pub amo_of-code : (op : AmoOp) → amo_of (amo_code op) ≡ Some op
amo_of-code Swap = refl
amo_of-code _ = refl

pub reg_of-code : (op : RegOp) → let code = reg_code op in reg_of code.0 code.1 code.2 ≡ Some op
reg_of-code Add = refl
reg_of-code _ = refl

-- the mnemonic that a code names has it
pub code-branch_of : (code : ℕ) (op : BranchOp) → branch_of code ≡ Some op → code ≡ branch_code op
code-branch_of code op found = sym (eqb-true _ _ (found_passes (λ x. branch_code x == code) branch_ops op found))

pub code-load_of : (code : ℕ) (op : LoadOp) → load_of code ≡ Some op → code ≡ load_code op
code-load_of code op found = sym (eqb-true _ _ (found_passes (λ x. load_code x == code) load_ops op found))

pub code-store_of : (code : ℕ) (op : StoreOp) → store_of code ≡ Some op → code ≡ store_code op
code-store_of code op found = sym (eqb-true _ _ (found_passes (λ x. store_code x == code) store_ops op found))

pub code-amo_of : (code : ℕ) (op : AmoOp) → amo_of code ≡ Some op → code ≡ amo_code op
code-amo_of code op found = sym (eqb-true _ _ (found_passes (λ x. amo_code x == code) amo_ops op found))

-- the codes fit their fields
pub branch_code-below : (op : BranchOp) → branch_code op < 2 ^ 3
branch_code-below Beq = lit< tt
branch_code-below _ = lit< tt

pub load_code-below : (op : LoadOp) → load_code op < 2 ^ 3
load_code-below Lb = lit< tt
load_code-below _ = lit< tt

pub store_code-below : (op : StoreOp) → store_code op < 2 ^ 3
store_code-below Sb = lit< tt
store_code-below _ = lit< tt

pub amo_code-below : (op : AmoOp) → amo_code op < 2 ^ 5
amo_code-below Swap = lit< tt
amo_code-below _ = lit< tt

pub reg_code-below : (op : RegOp) → let code = reg_code op in (code.0 < 2 ^ 7) × (code.1 < 2 ^ 7) × (code.2 < 2 ^ 3)
reg_code-below Add = (lit< tt, lit< tt, lit< tt)
reg_code-below _ = (lit< tt, lit< tt, lit< tt)

-- the upper bits of a word are of this kind
abbrev pub HasUpper : Upper → ℕ → Type 0
HasUpper Number word = Unit {0}
HasUpper (Shift width constant) word = bits (20 + width) (12 - width) word ≡ constant

pub imm_of-code : (op : ImmOp) (word : ℕ) → let code = imm_code op in bits 12 3 word ≡ code.1 → HasUpper code.2 word → imm_of code.0 (bits 12 3 word) word ≡ Some op
imm_of-code Slli word e u = rw (e, u) refl
imm_of-code Srli word e u = rw (e, u) refl
imm_of-code Srai word e u = rw (e, u) refl
imm_of-code Slliw word e u = rw (e, u) refl
imm_of-code Srliw word e u = rw (e, u) refl
imm_of-code Sraiw word e u = rw (e, u) refl
imm_of-code _ word e u = rw e refl
