-- Where the parts of a generated source's object end, and so how large it is: the sizes of all parts, and a page for each.
use Rattle.std.proofs.Common.{◌≡◌, ℕ, ◌+◌, ◌^◌, ◌≤◌, ◌==◌, true, false, if◌then◌else◌, List, [], ◌∷◌, arith}
use Rattle.std.proofs.lemmas.Bool.{le-ltb}
use Rattle.asm_write.specs.declared.contents.Contents.{Contents}
use Rattle.asm_write.specs.declared.part.Part.{Part}
use Rattle.asm_write.specs.declared.part.Part.TheVariants as parts
use Rattle.asm_write.specs.declared.starts.Starts.{Starts}
use Rattle.asm_write.specs.Parts.{all_parts}
use Rattle.asm_write.specs.Records.{end_behind, end_of, file_parts, file_size}
use Rattle.asm_write.specs.Starts.{size_in, size_of, start_in, starts_of, wrapped}
use Rattle.asm_laws.specs.ElfWritten.Standing.{AlignsInPages}
use Rattle.asm_statement.specs.declared.line.Line.{Line}
use Rattle.asm_layout.specs.Contents.{contents_of}
use Rattle.asm_layout.specs.Object.{is_too_big}
use Rattle.asm_laws.specs.AsmBounds.Lemmas.Ends.{ends_within, room}
use Rattle.lib_gen.proofs.GeneratedDenotes.Sizes.{most}

-- 8 MiB are 2^23 bytes
abbrev pub EndsLow : Starts → Type 0
EndsLow starts = (part : Part) → start_in starts part + size_in starts part ≤ 2 ^ 23

pub low_ends : (contents : Contents) → AlignsInPages contents → ((part : Part) → size_of contents part ≤ most part) → EndsLow (starts_of contents)
low_ends contents aligns small = λ part. below _ (ends_within contents aligns most small part)
  where
    below : (end : ℕ) → end ≤ 0x10000 + room most all_parts → end ≤ 2 ^ 23
    below end is = omega (arith, is)

-- The size of the file

low_part : (starts : Starts) → EndsLow starts → (end : ℕ) (part : Part) → end ≤ 2 ^ 23 → end_behind starts end part ≤ 2 ^ 23
low_part starts low end part before =
    let there = low part in
    elim (size_in starts part == 0) as (λ b. (if b then end else wrapped (start_in starts part + size_in starts part)) ≤ 2 ^ 23) [
      | true ↦ before
      | false ↦ less (start_in starts part + size_in starts part) there
    ]
  where
    less : (end : ℕ) → end ≤ 2 ^ 23 → wrapped end ≤ 2 ^ 23
    less end low = omega (arith, low)

low_file : (starts : Starts) → EndsLow starts → (end : ℕ) (xs : List Part) → end ≤ 2 ^ 23 → end_of starts end xs ≤ 2 ^ 23
low_file starts low end [] before = before
low_file starts low end (part ∷ xs) before = low_file starts low (end_behind starts end part) xs (low_part starts low end part before)

small_file : (starts : Starts) → EndsLow starts → file_size starts ≤ 2 ^ 23
unfolding file_size
small_file starts low =
    let first = low parts.Head in
    let end = low_file starts low (start_in starts parts.Head) file_parts (omega (arith, first)) in
    omega (arith, end)

pub not_too_big : (lines : List Line) → EndsLow (starts_of (contents_of lines)) → is_too_big lines ≡ false
unfolding is_too_big
not_too_big lines low = le-ltb 8_388_608 (file_size (starts_of (contents_of lines))) (small_file (starts_of (contents_of lines)) low)
