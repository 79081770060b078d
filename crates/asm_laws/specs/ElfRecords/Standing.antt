-- Bytes that stand in others.
use Rattle.std.specs.Prelude.{◌≡◌, ℕ, ◌+◌, List, Some}
use Rattle.std.specs.List.{slice_get}

-- each of these bytes stands in others, as far behind a place of those as it stands behind the begin of these
abbrev pub StandAt : List ℕ → ℕ → List ℕ → Type 0
StandAt bytes at part = (k byte : ℕ) → slice_get part k ≡ Some byte → slice_get bytes (at + k) ≡ Some byte
