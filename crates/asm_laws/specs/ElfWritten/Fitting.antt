-- Bytes of sections that are as many as the sections' sizes say.
use Rattle.std.specs.Prelude.{◌≡◌, length}
use Rattle.asm_write.specs.declared.contents.Contents.{Contents}
use Rattle.asm_write.specs.declared.contents.SectionBytes.{SectionBytes}
use Rattle.asm_write.specs.declared.part.Part.{Part}
use Rattle.asm_write.specs.declared.part.Part.TheVariants as parts
use Rattle.asm_write.specs.Sizes.{plt_size}

pub record FitsSections (contents : Contents) (code : SectionBytes) : Type 0 where
  pub rodata : length code.rodata ≡ contents.sections.rodata.size
  pub plt : length code.plt ≡ plt_size (length contents.slots)
  pub text : length code.text ≡ contents.sections.text.size
  pub relro : length code.relro ≡ contents.sections.relro.size
  pub tdata : length code.tdata ≡ contents.sections.tdata.size
  pub content : length code.data ≡ contents.sections.data.size

-- a part whose size is that of its bytes: .bss has none in the file, and the packed table's size is counted by itself
abbrev pub HasOwnBytes : Part → Type 0
HasOwnBytes parts.Bss = ⊥
HasOwnBytes parts.Relr = ⊥
HasOwnBytes part = Unit {0}
