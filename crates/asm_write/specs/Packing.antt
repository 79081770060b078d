-- The words of a packed table while they are made: for the loop of this crate alone.
use Rattle.std.specs.Prelude.{ℕ, List, ◌++◌}
use Rattle.asm_write.specs.declared.relr.Packing.{Packing}
use Rattle.asm_write.specs.Relr.{words_within}

-- the words that are there, and those that so many steps add
abbrev pub left : ℕ → Packing → List ℕ
left most packing = packing.words.items ++ words_within most packing.base packing.places.now
