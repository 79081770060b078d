-- What the table is good for: laws over all instructions and words.
use Rattle.std.specs.Prelude.{◌≡◌, ◌↔◌, ℕ, Option, Some}
use Rattle.rv_isa.specs.declared.instr.Instr.{Instr}
use Rattle.rv_isa.specs.Word.{HasFields}
use Rattle.rv_isa.specs.Encoding.{fields_of, word_of, IsInstr, Decodes}

-- the word of an instruction is the one that has each field of the instruction at its place
abbrev pub WordsHaveFields : Type 0
WordsHaveFields = (instr : Instr) (word : ℕ) → IsInstr instr → (word_of instr ≡ word) ↔ HasFields 0 (fields_of instr) word

-- an instruction's word decodes to the instruction
abbrev pub DecodingInverts : Type 0
DecodingInverts = (instr : Instr) (decoded : Option Instr) → IsInstr instr → Decodes (word_of instr) decoded → decoded ≡ Some instr

-- a word decodes to one thing
abbrev pub OneDecoding : Type 0
OneDecoding = (word : ℕ) (one other : Option Instr) → Decodes word one → Decodes word other → one ≡ other
