use Rattle.std.proofs.Common.{◌≡◌, ℕ, List, take}
use Rattle.std.specs.Prelude.{fold}
use Rattle.asm_layout.specs.Symbols.{visibility_given}
use Rattle.asm_symbols.specs.Visibilities.{code_of, visibility_of}
use Rattle.asm_symbols.proofs.visibilities.Visibilities.of.Given as goal

-- what the lines so far give
abbrev pub invariant-loop-line : goal.invariant-loop-line
invariant-loop-line l = (name : List ℕ) →
    code_of (visibility_of l.all name) ≡ fold (λ given line. visibility_given name given line.statement) 0 (take l.line-index l.line-items)
