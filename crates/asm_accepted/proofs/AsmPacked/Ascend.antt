-- The places that are packed ascend.
use Rattle.std.proofs.Common.{◌≡◌, ap, sym, subst, refl, ℕ, ◌+◌, ◌^◌, ◌<◌, ◌≤◌, Bool, true, false, if◌then◌else◌, List, [], ◌∷◌, map, filter, arith, slice_index, inl, inr}
use Rattle.asm_write.specs.declared.contents.Fix.{Fix}
use Rattle.asm_write.specs.declared.part.Part.{Part}
use Rattle.asm_write.specs.Parts.{number_of}
use Rattle.asm_write.specs.Sizes.{has_packed}
use Rattle.asm_write.specs.Starts.{address_in, size_in, start_in, starts_of, wrapped}
use Rattle.asm_write.specs.Values.{packed_places}
use Rattle.asm_laws.specs.ElfWritten.Placed.{AreAscending}
use Rattle.asm_statement.specs.declared.line.Line.{Line}
use Rattle.asm_layout.specs.Contents.{contents_of}
use Rattle.asm_laws.specs.Ascending.{AreFrom, StandsFrom, room}
use Rattle.asm_laws.specs.Lemmas.Each.{Each}
use Rattle.asm_accepted.proofs.AsmPacked.Places.{IfPacked, IsPacked}

module _ (lines : List Line) (low : (part : Part) → start_in (starts_of (contents_of lines)) part + size_in (starts_of (contents_of lines)) part < 2 ^ 62)
    (apart : (one other : Part) → number_of one < number_of other
    → start_in (starts_of (contents_of lines)) one + size_in (starts_of (contents_of lines)) one ≤ start_in (starts_of (contents_of lines)) other) where
  -- no place from this offset of this part on stands before an address, nor does a later part start before it
  record Reaches (from number offset : ℕ) : Type 0 where
    own : (part : Part) → number ≡ number_of part → from ≤ start_in (starts_of (contents_of lines)) part + offset
    later : (part : Part) → number < number_of part → from ≤ start_in (starts_of (contents_of lines)) part

  same_start : (one other : Part) → number_of one ≡ number_of other → start_in (starts_of (contents_of lines)) one ≡ start_in (starts_of (contents_of lines)) other
  same_start one other same = ap (slice_index (starts_of (contents_of lines)).addresses) same

  at_fix : (from number offset : ℕ) (fix : Fix) → Reaches from number offset → StandsFrom number offset fix → from ≤ start_in (starts_of (contents_of lines)) fix.spot.part + fix.spot.offset
  at_fix from number offset fix reaches (inl below) = let begin = reaches.later fix.spot.part below in omega (arith, begin)
  at_fix from number offset fix reaches (inr (same, more)) = let begin = reaches.own fix.spot.part same in omega (arith, begin, more)

  not_below : (number offset : ℕ) (fix : Fix) → StandsFrom number offset fix → number ≤ number_of fix.spot.part
  not_below number offset fix (inl below) = omega (arith, below)
  not_below number offset fix (inr (same, more)) = omega (arith, same)

  -- behind a place that isn't packed, and behind one that is
  passed : (from number offset : ℕ) (fix : Fix) → Reaches from number offset → StandsFrom number offset fix → Reaches from (number_of fix.spot.part) (fix.spot.offset + room fix.kind)
  passed from number offset fix reaches stands = record {
    own = λ part same. (let at = at_fix from number offset fix reaches stands in let start = same_start fix.spot.part part same in omega (arith, at, start));
    later = λ part above. (let under = not_below number offset fix stands in reaches.later part (omega (arith, under, above)));
  }

  behind : (fix : Fix) → IsPacked lines fix → Reaches (start_in (starts_of (contents_of lines)) fix.spot.part + fix.spot.offset + 1) (number_of fix.spot.part) (fix.spot.offset + room fix.kind)
  behind fix packed = record {
    own = λ part same. (let eight = ap room packed.address in let start = same_start fix.spot.part part same in omega (arith, eight, start));
    later = λ part above. (let apart_from = apart fix.spot.part part above in let inside = packed.inside in omega (arith, apart_from, inside));
  }

  ascend : (from number offset : ℕ) (fixes : List Fix) → Reaches from number offset → AreFrom number offset fixes → Each (IfPacked lines) fixes
      → AreAscending from (packed_places (starts_of (contents_of lines)) fixes)
  ascend from number offset [] reaches stands packed = tt
  ascend from number offset (fix ∷ fixes) reaches (here, stands) (first, packed) =
      let starts = starts_of (contents_of lines) in
      let place : Fix → ℕ = λ fix. address_in starts fix.spot in
      let P : Bool → Type 0 = λ b. has_packed fix ≡ b → AreAscending from (map place (if b then fix ∷ filter has_packed fixes else filter has_packed fixes)) in
      let yes : P true = λ is.
      let own = first is in
      let at = at_fix from number offset fix reaches here in
      let inside = own.inside in
      let end = low fix.spot.part in
      let even = own.even in
      let same : wrapped (start_in starts fix.spot.part + fix.spot.offset) ≡ start_in starts fix.spot.part + fix.spot.offset = omega (arith, inside, end) in
      let rest = ascend (start_in starts fix.spot.part + fix.spot.offset + 1) (number_of fix.spot.part) (fix.spot.offset + room fix.kind) fixes (behind fix own) stands packed in
      (omega (arith, at, same), (omega (arith, even, same), subst (λ n. AreAscending (n + 1) (packed_places starts fixes)) (sym same) rest)) in
      let no : P false = λ _. ascend from (number_of fix.spot.part) (fix.spot.offset + room fix.kind) fixes (passed from number offset fix reaches here) stands packed in
      let cases : (b : Bool) → P b = λ b. elim b as P [ true ↦ yes | false ↦ no ] in
      cases (has_packed fix) refl

  pub all_ascend : (fixes : List Fix) → AreFrom 0 0 fixes → Each (IfPacked lines) fixes → AreAscending 0 (packed_places (starts_of (contents_of lines)) fixes)
  all_ascend fixes stands packed = ascend 0 0 0 fixes (record { own = λ part same. omega arith; later = λ part above. omega arith }) stands packed
