-- Where parts start, and how many bytes they have.
use Rattle.std.proofs.Common.{◌≡◌, ap, refl, ◌+◌, ◌<◌, ◌≤◌, arith, slice_index, inl, inr}
use Rattle.std.proofs.lemmas.Bool.{cases_eq}
use Rattle.asm_write.specs.declared.contents.Contents.{Contents}
use Rattle.asm_write.specs.declared.part.Part.{Part}
use Rattle.asm_write.specs.declared.part.Part.TheVariants as parts
use Rattle.asm_write.specs.Parts.{number_of}
use Rattle.asm_write.specs.Starts.{starts_of, start_in, size_in, size_of}

-- the law that no part reaches into a later one
abbrev pub Apart : Type 0
Apart = (contents : Contents) (one other : Part) → number_of one < number_of other
    → start_in (starts_of contents) one + size_in (starts_of contents) one ≤ start_in (starts_of contents) other

-- no part starts before the first
pub from_head : Apart → (contents : Contents) (part : Part) → start_in (starts_of contents) parts.Head ≤ start_in (starts_of contents) part
from_head apart contents part = elim (cases_eq (number_of part) 0) as (λ _. start_in (starts_of contents) parts.Head ≤ start_in (starts_of contents) part) [
  | inl is ↦ omega (arith, ap (slice_index (starts_of contents).addresses) is)
  | inr later ↦ let above = apart contents parts.Head part (omega arith) in omega (arith, above)
]

pub told : (contents : Contents) (part : Part) → size_in (starts_of contents) part ≡ size_of contents part
unfolding starts_of
told contents parts.Head = refl
told contents parts.GnuHash = refl
told contents parts.SysvHash = refl
told contents parts.Symbols = refl
told contents parts.Strings = refl
told contents parts.Versym = refl
told contents parts.Verdef = refl
told contents parts.Verneed = refl
told contents parts.Rela = refl
told contents parts.Relr = refl
told contents parts.Jmprel = refl
told contents parts.Rodata = refl
told contents parts.Plt = refl
told contents parts.Text = refl
told contents parts.Dynamic = refl
told contents parts.Got = refl
told contents parts.PreinitArray = refl
told contents parts.InitArray = refl
told contents parts.FiniArray = refl
told contents parts.Relro = refl
told contents parts.Tdata = refl
told contents parts.Tbss = refl
told contents parts.GotPlt = refl
told contents parts.Data = refl
told contents parts.Bss = refl
