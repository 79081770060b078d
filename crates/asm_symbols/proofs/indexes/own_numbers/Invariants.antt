use Rattle.std.proofs.Common.{◌≡◌, ℕ, List, take}
use Rattle.std.specs.Prelude.{position}
use Rattle.asm_uses.specs.Numbers.{number_of}
use Rattle.asm_symbols.proofs.Owns.{named}
use Rattle.asm_symbols.proofs.indexes.own_numbers.Given as goal

-- the names are those of the symbols so far
abbrev pub invariant-loop-at : goal.invariant-loop-at
invariant-loop-at l = (name : List ℕ) → number_of l.numbers name ≡ position (named name) (take l.at l.sorted)
