use Rattle.std.proofs.Common.{◌≡◌, ℕ, List, take}
use Rattle.std.specs.Prelude.{position}
use Rattle.std.specs.Str.{bytes_eq}
use Rattle.asm_uses.specs.Numbers.{number_of}
use Rattle.asm_symbols.proofs.facts.need_numbers.Given as goal

-- the names are those of the needs so far
abbrev pub invariant-loop-at : goal.invariant-loop-at
invariant-loop-at l = (name : List ℕ) → number_of l.numbers name ≡ position (λ need. bytes_eq name need.name) (take l.at l.needs)
