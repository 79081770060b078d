-- What the head of an accepted file keeps.
use Rattle.std.specs.Prelude.{ℕ, ◌+◌, ◌^◌, ◌<◌, ◌≤◌, List, IsTrue}
use Rattle.std.specs.List.{All}
use Rattle.ld_base.specs.declared.parts.Header.{Header}
use Rattle.elf_head.specs.Header.{is_loaded}

-- the segment's bytes are those of a file of this size, and go into its memory, which ends in the first 4 GiB of addresses
pub record Fits (size : ℕ) (h : Header) : Type 0 where
  pub memory : h.filesz ≤ h.memsz
  pub low : h.vaddr + h.memsz ≤ 2 ^ 32
  pub held : 0 < h.filesz → h.offset + h.filesz ≤ size

-- each mapped segment does
abbrev pub AllFit : ℕ → List Header → Type 0
AllFit size headers = All (λ h. IsTrue (is_loaded h) → Fits size h) headers
