-- Where static blocks stand (ELF Handling for Thread-Local Storage, variant I, as the psABI has it: tp is the start of the program's block).
use Rattle.std.specs.Prelude.{◌≡◌, ℕ, ◌+◌, ◌%◌, ◌≤◌, ◌==◌, if◌then◌else◌, Option, Some, None}
use Rattle.ld_base.specs.declared.object.TlsSeg.{TlsSeg}

-- an alignment of 0 is one of 1
abbrev pub alignment_of : TlsSeg → ℕ
alignment_of seg = if seg.align == 0 then 1 else seg.align

-- tp's distance from the start of its area, which every alignment divides: the program's segment, of object 1, sets it
abbrev pub tp_with : ℕ → TlsSeg → ℕ → ℕ
tp_with serial seg tp = if serial == 1 then seg.vaddr % alignment_of seg else tp

-- the block may stand at this offset behind tp: behind those before it, at an address of the segment's residue
pub record MayStand (tp size : ℕ) (seg : TlsSeg) (offset : ℕ) : Type 0 where
  pub behind : size ≤ offset
  pub aligned : (tp + offset) % alignment_of seg ≡ seg.vaddr % alignment_of seg

-- the least such offset
pub record IsOffset (tp size : ℕ) (seg : TlsSeg) (offset : ℕ) : Type 0 where
  pub stands : MayStand tp size seg offset
  pub least : (other : ℕ) → MayStand tp size seg other → offset ≤ other

-- where the static blocks end with one more; a late one isn't among them
abbrev pub end_with : Option ℕ → TlsSeg → ℕ → ℕ
end_with (Some offset) seg size = offset + seg.memsz
end_with None seg size = size
