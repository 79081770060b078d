-- Where the parts of an object end: the sizes of all parts, and a page for each.
use Rattle.std.proofs.Common.{◌≡◌, ℕ, zero, suc, ◌+◌, ◌-◌, ◌*◌, ◌%◌, ◌<◌, ◌≤◌, ◌==◌, true, false, if◌then◌else◌, List, [], ◌∷◌, length, map, arith, slice_index}
use Rattle.std.proofs.Math.Nat.{le-mul_of_pos_right, mod-le, mul_comm}
use Rattle.ld_base.specs.declared.object.Kind.{Kind}
use Rattle.ld_base.specs.declared.object.Kind.TheVariants.{Exec, Dyn}
use Rattle.asm_write.specs.declared.contents.Contents.{Contents}
use Rattle.asm_write.specs.declared.contents.Extent.{Extent}
use Rattle.asm_write.specs.declared.part.Part.{Part}
use Rattle.asm_write.specs.declared.part.Part.TheVariants as parts
use Rattle.asm_write.specs.Parts.{all_parts, number_of}
use Rattle.asm_write.specs.Starts.{align_of, base_of, extent_of, padding, page, size_in, size_of, start_in, starts_from, starts_of}
use Rattle.asm_laws.specs.ElfWritten.Standing.{AlignsInPages}

-- an alignment that divides a page is no greater
low_align : (align : ℕ) → ((times : ℕ) × (page ≡ times * align)) → align ≤ 4096
low_align align (zero, none) = absurd (omega (arith, none))
low_align align (suc times, is) =
    let less : align ≤ align * suc times = le-mul_of_pos_right align (omega arith) in
    let same = mul_comm align (suc times) in
    omega (arith, is, less, same)

low_padding : (address align : ℕ) → align ≤ 4096 → padding address align ≤ 4096
low_padding address align low =
    let less = mod-le (align - address % align) align in
    elim (align == 0) as (λ b. (if b then 0 else (align - address % align) % align) ≤ 4096) [ true ↦ omega arith | false ↦ omega (arith, less, low) ]

-- the room of parts of these sizes, with a page before each
abbrev pub room : {X : Type 0} → (X → ℕ) → List X → ℕ
room size [] = 0
room size (x ∷ xs) = 4096 + size x + room size xs

more_room : {X : Type 0} (size limit : X → ℕ) → ((x : X) → size x ≤ limit x) → (xs : List X) → room size xs ≤ room limit xs
more_room size limit less [] = omega arith
more_room size limit less (x ∷ xs) = let one = less x in let rest = more_room size limit less xs in omega (arith, one, rest)

ends : {X : Type 0} (extent : X → Extent) → ((x : X) → (extent x).align ≤ 4096) → (behind : ℕ) (xs : List X) (k : ℕ) → k < length xs
    → slice_index (starts_from behind (map extent xs)) k + slice_index (map (λ x. (extent x).size) xs) k ≤ behind + room (λ x. (extent x).size) xs
ends extent low behind [] k inside = absurd (omega arith)
ends extent low behind (x ∷ xs) zero inside = let pad = low_padding behind (extent x).align (low x) in omega (arith, pad)
ends extent low behind (x ∷ xs) (suc k) inside =
    let pad = low_padding behind (extent x).align (low x) in
    let rest = ends extent low (behind + padding behind (extent x).align + (extent x).size) xs k (omega arith) in
    further behind (padding behind (extent x).align) (extent x).size (room (λ x. (extent x).size) xs) _ pad rest
  where
    further : (behind pad size rest end : ℕ) → pad ≤ 4096 → end ≤ behind + pad + size + rest → end ≤ behind + (4096 + size + rest)
    further behind pad size rest end pads is = omega (arith, pads, is)

number_below : (part : Part) → number_of part < 25
number_below parts.Head = omega arith
number_below _ = omega arith

low_base : (kind : Kind) → base_of kind ≤ 0x10000
low_base Exec = omega arith
low_base Dyn = omega arith

-- where no part has more bytes than some limit of its own
pub ends_within : (contents : Contents) → AlignsInPages contents → (limit : Part → ℕ) → ((part : Part) → size_of contents part ≤ limit part) → (part : Part)
    → start_in (starts_of contents) part + size_in (starts_of contents) part ≤ 0x10000 + room limit all_parts
unfolding starts_of
ends_within contents aligns limit small part =
    let end = ends (extent_of contents) (λ part. low_align (align_of contents part) (aligns part)) (base_of contents.kind) all_parts (number_of part) (number_below part) in
    let fewer : room (size_of contents) all_parts ≤ room limit all_parts = more_room (size_of contents) limit small all_parts in
    let base = low_base contents.kind in
    total _ _ _ _ end fewer base
  where
    total : (end base all most : ℕ) → end ≤ base + all → all ≤ most → base ≤ 0x10000 → end ≤ 0x10000 + most
    total end base all most is fewer low = omega (arith, is, fewer, low)
