use Rattle.std.proofs.Common.{◌≡◌, ℕ, List, take}
use Rattle.std.specs.List.{list_any}
use Rattle.asm_layout.specs.Once.{is_among}
use Rattle.asm_layout.specs.Symbols.{weakens}
use Rattle.asm_symbols.proofs.facts.weak_names.Given as goal

-- the names are those of the lines so far
abbrev pub invariant-loop-line : goal.invariant-loop-line
invariant-loop-line l = (name : List ℕ) → is_among l.names name ≡ list_any (λ line. weakens name line.statement) (take l.line-index l.line-items)
