-- Parts stand behind one another.
use Rattle.std.proofs.Common.{◌≡◌, ℕ, zero, suc, ◌+◌, ◌<◌, ◌≤◌, List, [], ◌∷◌, length, map, refl, arith, slice_index}
use Rattle.asm_write.specs.declared.contents.Contents.{Contents}
use Rattle.asm_write.specs.declared.contents.Extent.{Extent}
use Rattle.asm_write.specs.declared.part.Part.{Part}
use Rattle.asm_write.specs.declared.part.Part.TheVariants as parts
use Rattle.asm_write.specs.Parts.{number_of, all_parts}
use Rattle.asm_write.specs.Starts.{padding, starts_from, starts_of, start_in, size_in, size_of, extent_of, base_of}

-- no part starts before the place behind which it stands
further : (behind pad size start : ℕ) → behind + pad + size ≤ start → behind ≤ start
further behind pad size start within = omega (arith, within)

pub starts_behind : {X : Type 0} (extent : X → Extent) (behind : ℕ) (xs : List X) (k : ℕ) → k < length xs
    → behind ≤ slice_index (starts_from behind (map extent xs)) k
starts_behind extent behind [] k inside = absurd (omega arith)
starts_behind extent behind (x ∷ xs) zero inside = further behind (padding behind (extent x).align) 0 _ (omega arith)
starts_behind extent behind (x ∷ xs) (suc k) inside =
    let pad = padding behind (extent x).align in
    let rest = starts_behind extent (behind + pad + (extent x).size) xs k (omega arith) in
    further behind pad (extent x).size _ rest

pub apart : {X : Type 0} (extent : X → Extent) (behind : ℕ) (xs : List X) (i j : ℕ) → i < j → j < length xs
    → slice_index (starts_from behind (map extent xs)) i + slice_index (map (λ x. (extent x).size) xs) i ≤ slice_index (starts_from behind (map extent xs)) j
apart extent behind [] i j before inside = absurd (omega arith)
apart extent behind (x ∷ xs) i zero before inside = absurd (omega arith)
apart extent behind (x ∷ xs) zero (suc j) before inside =
    starts_behind extent (behind + padding behind (extent x).align + (extent x).size) xs j (omega arith)
apart extent behind (x ∷ xs) (suc i) (suc j) before inside =
    apart extent (behind + padding behind (extent x).align + (extent x).size) xs i j (omega arith) (omega arith)

pub number_below : (part : Part) → number_of part < 25
number_below parts.Head = omega arith
number_below parts.GnuHash = omega arith
number_below parts.SysvHash = omega arith
number_below parts.Symbols = omega arith
number_below parts.Strings = omega arith
number_below parts.Versym = omega arith
number_below parts.Verdef = omega arith
number_below parts.Verneed = omega arith
number_below parts.Rela = omega arith
number_below parts.Relr = omega arith
number_below parts.Jmprel = omega arith
number_below parts.Rodata = omega arith
number_below parts.Plt = omega arith
number_below parts.Text = omega arith
number_below parts.Dynamic = omega arith
number_below parts.Got = omega arith
number_below parts.PreinitArray = omega arith
number_below parts.InitArray = omega arith
number_below parts.FiniArray = omega arith
number_below parts.Relro = omega arith
number_below parts.Tdata = omega arith
number_below parts.Tbss = omega arith
number_below parts.GotPlt = omega arith
number_below parts.Data = omega arith
number_below parts.Bss = omega arith

pub parts_apart : (contents : Contents) (one other : Part) → number_of one < number_of other
    → start_in (starts_of contents) one + size_in (starts_of contents) one ≤ start_in (starts_of contents) other
unfolding starts_of
parts_apart contents one other before = apart (extent_of contents) (base_of contents.kind) all_parts (number_of one) (number_of other) before (number_below other)

pub size_told : (contents : Contents) (part : Part) → size_in (starts_of contents) part ≡ size_of contents part
unfolding starts_of
size_told contents parts.Head = refl
size_told contents parts.GnuHash = refl
size_told contents parts.SysvHash = refl
size_told contents parts.Symbols = refl
size_told contents parts.Strings = refl
size_told contents parts.Versym = refl
size_told contents parts.Verdef = refl
size_told contents parts.Verneed = refl
size_told contents parts.Rela = refl
size_told contents parts.Relr = refl
size_told contents parts.Jmprel = refl
size_told contents parts.Rodata = refl
size_told contents parts.Plt = refl
size_told contents parts.Text = refl
size_told contents parts.Dynamic = refl
size_told contents parts.Got = refl
size_told contents parts.PreinitArray = refl
size_told contents parts.InitArray = refl
size_told contents parts.FiniArray = refl
size_told contents parts.Relro = refl
size_told contents parts.Tdata = refl
size_told contents parts.Tbss = refl
size_told contents parts.GotPlt = refl
size_told contents parts.Data = refl
size_told contents parts.Bss = refl
