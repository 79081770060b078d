-- Each part stands where it starts.
use Rattle.std.proofs.Common.{◌≡◌, refl, ℕ, suc, ◌+◌, ◌-◌, ◌≤◌, ◌&&◌, Bool, true, nat_le, List, [], ◌∷◌, length, arith}
use Rattle.std.specs.Prelude.{Some}
use Rattle.std.specs.List.{slice_get}
use Rattle.std.proofs.lemmas.Bool.Decides.{nat_tests}
use Rattle.asm_write.specs.declared.contents.Contents.{Contents}
use Rattle.asm_write.specs.declared.contents.SectionBytes.{SectionBytes}
use Rattle.asm_write.specs.declared.part.Part.{Part}
use Rattle.asm_write.specs.declared.part.Part.TheVariants as parts
use Rattle.asm_write.specs.declared.starts.Starts.{Starts}
use Rattle.asm_write.specs.Parts.{number_of, all_parts}
use Rattle.asm_write.specs.Sizes.{plain_size}
use Rattle.asm_write.specs.Starts.{starts_of, start_in, size_in, size_of, relr_size}
use Rattle.asm_write.specs.Values.{part_bytes, relr_bytes, object_bytes}
use Rattle.asm_laws.specs.ElfWritten.Fitting.{FitsSections, HasOwnBytes}
use Rattle.asm_laws.specs.ElfWritten.Standing.{AlignsInPages, PacksBehind}
use Rattle.asm_laws.specs.ElfRecords.Standing.{StandAt}
use Rattle.asm_laws.specs.ElfSpelled.Whole.{IsWhole}
use Rattle.asm_laws.specs.ElfSpelled.Lemmas.Starting.{Apart, from_head, told}
use Rattle.asm_laws.proofs.ElfSpelled.Joined.{AreBehind, all_stand}

-- the laws that these lemmas rest on
abbrev pub Sized : Type 0
Sized = (starts : Starts) (contents : Contents) (code : SectionBytes) → FitsSections contents code → (part : Part) → HasOwnBytes part
    → length (part_bytes starts contents code part) ≡ plain_size contents part

abbrev pub Packed : Type 0
Packed = (contents : Contents) → AlignsInPages contents → PacksBehind (starts_of contents) contents.fixes
    → length (relr_bytes (starts_of contents) contents.fixes) ≡ relr_size contents

-- a part has no more bytes than its size
module _ (sized : Sized) (packed : Packed) (contents : Contents) (code : SectionBytes) (fits : FitsSections contents code) (aligns : AlignsInPages contents)
    (packs : PacksBehind (starts_of contents) contents.fixes) where
  has : (part : Part) → HasOwnBytes part → plain_size contents part ≡ size_of contents part → length (part_bytes (starts_of contents) contents code part) ≤ size_of contents part
  has part own same = let long = sized (starts_of contents) contents code fits part own in omega (arith, long, same)

  room : (part : Part) → length (part_bytes (starts_of contents) contents code part) ≤ size_of contents part
  unfolding part_bytes size_of
  room parts.Head = has parts.Head tt refl
  room parts.GnuHash = has parts.GnuHash tt refl
  room parts.SysvHash = has parts.SysvHash tt refl
  room parts.Symbols = has parts.Symbols tt refl
  room parts.Strings = has parts.Strings tt refl
  room parts.Versym = has parts.Versym tt refl
  room parts.Verdef = has parts.Verdef tt refl
  room parts.Verneed = has parts.Verneed tt refl
  room parts.Rela = has parts.Rela tt refl
  room parts.Relr = let long = packed contents aligns packs in omega (arith, long)
  room parts.Jmprel = has parts.Jmprel tt refl
  room parts.Rodata = has parts.Rodata tt refl
  room parts.Plt = has parts.Plt tt refl
  room parts.Text = has parts.Text tt refl
  room parts.Dynamic = has parts.Dynamic tt refl
  room parts.Got = has parts.Got tt refl
  room parts.PreinitArray = has parts.PreinitArray tt refl
  room parts.InitArray = has parts.InitArray tt refl
  room parts.FiniArray = has parts.FiniArray tt refl
  room parts.Relro = has parts.Relro tt refl
  room parts.Tdata = has parts.Tdata tt refl
  room parts.Tbss = has parts.Tbss tt refl
  room parts.GotPlt = has parts.GotPlt tt refl
  room parts.Data = has parts.Data tt refl
  room parts.Bss = omega arith

  abbrev offset : Part → ℕ
  offset part = start_in (starts_of contents) part - start_in (starts_of contents) parts.Head

  abbrev bytes : Part → List ℕ
  bytes part = part_bytes (starts_of contents) contents code part

  -- parts whose numbers ascend stand one behind the other
  abbrev ascend : ℕ → List Part → Bool
  ascend from [] = true
  ascend from (part ∷ rest) = nat_le from (number_of part) && ascend (suc (number_of part)) rest

  -- every part of a number or a later one stands behind an end
  abbrev Reaches : ℕ → ℕ → Type 0
  Reaches end number = (part : Part) → number ≤ number_of part → end ≤ offset part

  module _ (apart : Apart) where
    further : (part : Part) → Reaches (offset part + length (bytes part)) (suc (number_of part))
    further part other later =
        shorter (start_in (starts_of contents) parts.Head) (start_in (starts_of contents) part) (size_in (starts_of contents) part) (size_of contents part)
        (length (bytes part)) (start_in (starts_of contents) other) (from_head apart contents part) (apart contents part other (omega (arith, later))) (told contents part) (room part)
      where
        shorter : (head start size all long end : ℕ) → head ≤ start → start + size ≤ end → size ≡ all → long ≤ all → start - head + long ≤ end - head
        shorter head start size all long end behind below same fit = omega (arith, behind, below, same, fit)

    in_order : (from end : ℕ) (all : List Part) → ascend from all ≡ true → Reaches end from → AreBehind offset bytes end all
    in_order from end [] order reaches = tt
    in_order from end (part ∷ rest) order reaches =
        let here : from ≤ number_of part = grind (arith, nat_tests) in
        let later : ascend (suc (number_of part)) rest ≡ true = grind (arith, nat_tests) in
        (reaches part here, in_order (suc (number_of part)) (offset part + length (bytes part)) rest later (further part))

    first : Reaches 0 0
    first part later = omega arith

    listed : (part : Part) → slice_get all_parts (number_of part) ≡ Some part
    listed parts.Head = refl
    listed parts.GnuHash = refl
    listed parts.SysvHash = refl
    listed parts.Symbols = refl
    listed parts.Strings = refl
    listed parts.Versym = refl
    listed parts.Verdef = refl
    listed parts.Verneed = refl
    listed parts.Rela = refl
    listed parts.Relr = refl
    listed parts.Jmprel = refl
    listed parts.Rodata = refl
    listed parts.Plt = refl
    listed parts.Text = refl
    listed parts.Dynamic = refl
    listed parts.Got = refl
    listed parts.PreinitArray = refl
    listed parts.InitArray = refl
    listed parts.FiniArray = refl
    listed parts.Relro = refl
    listed parts.Tdata = refl
    listed parts.Tbss = refl
    listed parts.GotPlt = refl
    listed parts.Data = refl
    listed parts.Bss = refl

    stands : (part : Part) → StandAt (object_bytes (starts_of contents) contents code) (offset part) (bytes part)
    unfolding object_bytes
    stands part = all_stand offset bytes all_parts [] 0 (omega arith) (in_order 0 0 all_parts refl first) (number_of part) part (listed part)

pub parts_stand : Sized → Packed → Apart → (contents : Contents) (code : SectionBytes) → IsWhole contents code → (part : Part)
    → StandAt (object_bytes (starts_of contents) contents code) (start_in (starts_of contents) part - start_in (starts_of contents) parts.Head)
    (part_bytes (starts_of contents) contents code part)
parts_stand sized packed apart contents code whole part = stands sized packed contents code whole.fits whole.aligns whole.packs apart part
