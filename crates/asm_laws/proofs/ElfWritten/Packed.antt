-- The packed table has the size that was counted before the third segment had its address.
use Rattle.std.proofs.Common.{◌≡◌, ◌∙◌, ap, sym, ℕ, zero, suc, ◌+◌, ◌-◌, ◌*◌, ◌/◌, ◌^◌, ◌<◌, ◌≤◌, Bool, true, false, if◌then◌else◌, List, [], ◌∷◌, length, map, filter, drop, refl, arith, slice_index}
use Rattle.asm_write.specs.declared.contents.Contents.{Contents}
use Rattle.asm_write.specs.declared.contents.Extent.{Extent}
use Rattle.asm_write.specs.declared.contents.Fix.{Fix}
use Rattle.asm_write.specs.declared.part.Part.{Part}
use Rattle.asm_write.specs.declared.part.Part.TheVariants as parts
use Rattle.asm_write.specs.Parts.{number_of, all_parts}
use Rattle.asm_write.specs.Relr.{relr_words}
use Rattle.asm_write.specs.Sizes.{has_packed}
use Rattle.asm_write.specs.Starts.{padding, page, starts_from, starts_of, start_in, base_of, extent_of, plain_extent, size_of, third_parts, third_starts, place_in, packed_from, relr_size, address_in, wrapped, align_of}
use Rattle.asm_write.specs.Values.{packed_places, relr_bytes}
use Rattle.asm_laws.proofs.ElfWritten.Apart.{number_below}
use Rattle.asm_laws.specs.ElfWritten.Lemmas.Lengths.{doublewords_length}
use Rattle.asm_laws.proofs.ElfWritten.Shifted.{shifted, same_table}
use Rattle.asm_laws.specs.ElfWritten.Standing.{AlignsInPages, StandsBehind, PacksBehind}

-- what is behind the first parts
behind_of : ℕ → List Extent → ℕ → ℕ
behind_of behind extents zero = behind
behind_of behind [] (suc n) = behind
behind_of behind (extent ∷ extents) (suc n) = behind_of (behind + padding behind extent.align + extent.size) extents n

-- the parts behind the first ones
rest_starts : (behind : ℕ) (extents : List Extent) (n k : ℕ) → n ≤ length extents
    → slice_index (starts_from behind extents) (n + k) ≡ slice_index (starts_from (behind_of behind extents n) (drop n extents)) k
unfolding behind_of
rest_starts behind extents zero k within =
    let same : zero + k ≡ k = omega arith in
    ap (λ m. slice_index (starts_from behind extents) m) same
rest_starts behind [] (suc n) k within = absurd (omega arith)
rest_starts behind (extent ∷ extents) (suc n) k within =
    let same : suc n + k ≡ suc (n + k) = omega arith in
    ap (λ m. slice_index (starts_from behind (extent ∷ extents)) m) same ∙ rest_starts (behind + padding behind extent.align + extent.size) extents n k (omega arith)

-- the next page behind a place
next_page : ℕ → ℕ
next_page behind = (behind + 4095) / 4096

at_page : (behind : ℕ) → behind + padding behind 4096 ≡ next_page behind * page
unfolding next_page
at_page behind = omega arith

-- parts of which the first begins on a page
third : {X : Type 0} (extent : X → Extent) → ((x : X) → (times : ℕ) × (page ≡ times * (extent x).align)) → (behind : ℕ) (x : X) (xs : List X)
    → (extent x).align ≡ page → (k : ℕ) → k < length (x ∷ xs)
    → slice_index (starts_from behind (map extent (x ∷ xs))) k ≡ next_page behind * page + slice_index (starts_from 0 (map extent (x ∷ xs))) k
third extent divides behind x xs is zero inside = rw is (at_page behind ∙ omega arith)
third extent divides behind x xs is (suc k) inside =
    let start : behind + padding behind (extent x).align + (extent x).size ≡ next_page behind * page + (extent x).size
    = ap (λ a. behind + padding behind a + (extent x).size) is ∙ ap (λ n. n + (extent x).size) (at_page behind) in
    let first : 0 + padding 0 (extent x).align + (extent x).size ≡ (extent x).size = ap (λ a. 0 + padding 0 a + (extent x).size) is ∙ omega arith in
    ap (λ n. slice_index (starts_from n (map extent xs)) k) start
    ∙ shifted extent divides (next_page behind) (extent x).size xs k (omega arith)
    ∙ ap (λ n. next_page behind * page + slice_index (starts_from n (map extent xs)) k) (sym first)

-- how many pages stand before the third segment
pub pages_before : Contents → ℕ
pages_before contents = next_page (behind_of (base_of contents.kind) (map (extent_of contents) all_parts) 14)

same_extents : (contents : Contents) → drop 14 (map (extent_of contents) all_parts) ≡ map (plain_extent contents) third_parts
unfolding size_of
same_extents contents = refl

aligned : (contents : Contents) → align_of contents parts.Dynamic ≡ page
unfolding align_of
aligned contents = refl

start_at : (contents : Contents) → AlignsInPages contents → (k : ℕ) → k < 11
    → slice_index (starts_from (base_of contents.kind) (map (extent_of contents) all_parts)) (14 + k) ≡ pages_before contents * page + slice_index (third_starts contents) k
unfolding third_starts pages_before
start_at contents aligns k inside =
    let behind = behind_of (base_of contents.kind) (map (extent_of contents) all_parts) 14 in
    rest_starts (base_of contents.kind) (map (extent_of contents) all_parts) 14 k (omega arith)
    ∙ ap (λ extents. slice_index (starts_from behind extents) k) (same_extents contents)
    ∙ third (plain_extent contents) aligns behind parts.Dynamic (drop 1 third_parts) (aligned contents) k inside

start_of_third : (contents : Contents) → AlignsInPages contents → (part : Part) → 14 ≤ number_of part
    → start_in (starts_of contents) part ≡ pages_before contents * page + slice_index (third_starts contents) (number_of part - 14)
unfolding starts_of
start_of_third contents aligns part late =
    let below = number_below part in
    let index : number_of part ≡ 14 + (number_of part - 14) = omega arith in
    ap (λ n. slice_index (starts_from (base_of contents.kind) (map (extent_of contents) all_parts)) n) index ∙ start_at contents aligns (number_of part - 14) (omega arith)

-- each packed place is as far behind the third segment's start as it was counted
pub unwrapped : (n : ℕ) → n < 2 ^ 64 → wrapped n ≡ n
unwrapped n fits = omega arith

place_shifted : (by start counted offset : ℕ) → start ≡ by + counted → start + offset < 2 ^ 64 → wrapped (start + offset) ≡ by + wrapped (counted + offset)
place_shifted by start counted offset is fits = omega arith

places_shifted : (contents : Contents) → AlignsInPages contents → (fixes : List Fix) → PacksBehind (starts_of contents) fixes
    → packed_places (starts_of contents) fixes ≡ map (λ place. pages_before contents * page + place) (packed_from (third_starts contents) fixes)
places_shifted contents aligns [] behind = refl
places_shifted contents aligns (fix ∷ fixes) (first, behind) =
    let starts = starts_of contents in
    let by = pages_before contents * page in
    let rest = places_shifted contents aligns fixes behind in
    let P : Bool → Type 0 = λ packed. (packed ≡ true → StandsBehind starts fix)
    → map (λ fix. address_in starts fix.spot) (if packed then fix ∷ filter has_packed fixes else filter has_packed fixes)
    ≡ map (λ place. by + place) (map (place_in (third_starts contents)) (if packed then fix ∷ filter has_packed fixes else filter has_packed fixes)) in
    let one : StandsBehind starts fix → address_in starts fix.spot ≡ by + place_in (third_starts contents) fix = λ stands.
    place_shifted by (start_in starts fix.spot.part) (slice_index (third_starts contents) (number_of fix.spot.part - 14)) fix.spot.offset
    (start_of_third contents aligns fix.spot.part stands.behind) stands.fits in
    let cases : (packed : Bool) → P packed = λ packed. elim packed as P [
      | true ↦ λ stands. ap (λ n. n ∷ map (λ fix. address_in starts fix.spot) (filter has_packed fixes)) (one (stands refl)) ∙ ap (λ ns. (by + place_in (third_starts contents) fix) ∷ ns) rest
      | false ↦ λ stands. rest
    ] in
    cases (has_packed fix) first

pub packed_size : (contents : Contents) → AlignsInPages contents → PacksBehind (starts_of contents) contents.fixes
    → length (relr_bytes (starts_of contents) contents.fixes) ≡ relr_size contents
unfolding relr_bytes relr_size
packed_size contents aligns behind =
    let by = pages_before contents * page in
    doublewords_length (relr_words (packed_places (starts_of contents) contents.fixes))
    ∙ ap (λ places. 8 * length (relr_words places)) (places_shifted contents aligns contents.fixes behind)
    ∙ ap (λ n. 8 * n) (same_table by (packed_from (third_starts contents) contents.fixes))
