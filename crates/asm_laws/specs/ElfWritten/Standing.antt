-- What has to be true of alignments and packed places so that parts may be counted before the third segment has its address.
use Rattle.std.specs.Prelude.{◌≡◌, ℕ, ◌+◌, ◌*◌, ◌^◌, ◌<◌, ◌≤◌, ⊤, true, List, [], ◌∷◌}
use Rattle.asm_write.specs.declared.contents.Contents.{Contents}
use Rattle.asm_write.specs.declared.contents.Fix.{Fix}
use Rattle.asm_write.specs.declared.part.Part.{Part}
use Rattle.asm_write.specs.declared.part.Part.TheVariants as parts
use Rattle.asm_write.specs.declared.starts.Starts.{Starts}
use Rattle.asm_write.specs.Parts.{number_of}
use Rattle.asm_write.specs.Sizes.{has_packed}
use Rattle.asm_write.specs.Starts.{align_of, page, start_in, size_in}

-- each alignment divides a page
abbrev pub AlignsInPages : Contents → Type 0
AlignsInPages contents = (part : Part) → (times : ℕ) × (page ≡ times * align_of contents part)

-- a place stands in the third segment or behind it, and its address is a number of 64 bits
pub record StandsBehind (starts : Starts) (fix : Fix) : Type 0 where
  pub behind : number_of parts.Dynamic ≤ number_of fix.spot.part
  pub fits : start_in starts fix.spot.part + fix.spot.offset < 2 ^ 64

-- so do all that are packed
abbrev pub PacksBehind : Starts → List Fix → Type 0
PacksBehind starts [] = ⊤
PacksBehind starts (fix ∷ fixes) = (has_packed fix ≡ true → StandsBehind starts fix) × PacksBehind starts fixes

-- every part ends within 64 bits
abbrev pub EndsInside : Starts → Type 0
EndsInside starts = (part : Part) → start_in starts part + size_in starts part < 2 ^ 64
