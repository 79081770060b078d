-- Places in ascending order of address, none of which reaches into the next.
use Rattle.std.specs.Prelude.{◌≡◌, ℕ, ◌+◌, ◌<◌, ◌≤◌, ◌⊎◌, ⊤, List, [], ◌∷◌}
use Rattle.asm_write.specs.declared.contents.Fix.{Fix}
use Rattle.asm_write.specs.declared.contents.FixKind.{FixKind}
use Rattle.asm_write.specs.declared.contents.FixKind.TheVariants as kinds
use Rattle.asm_write.specs.Parts.{number_of}

-- how many bytes a place has at least: a doubleword; how many a copy has is its symbol's size, which may be 0
abbrev pub room : FixKind → ℕ
room kinds.Address = 8
room kinds.Module = 8
room kinds.Offset = 8
room kinds.ThreadOffset = 8
room kinds.Copy = 0

-- a place stands in a later part than one of this number, or in that and not before an offset of it
abbrev pub StandsFrom : ℕ → ℕ → Fix → Type 0
StandsFrom number offset fix = (number < number_of fix.spot.part) ⊎ ((number ≡ number_of fix.spot.part) × (offset ≤ fix.spot.offset))

-- each place stands behind the one before
abbrev pub AreFrom : ℕ → ℕ → List Fix → Type 0
AreFrom number offset [] = ⊤
AreFrom number offset (fix ∷ fixes) = StandsFrom number offset fix × AreFrom (number_of fix.spot.part) (fix.spot.offset + room fix.kind) fixes
