use Rattle.std.proofs.Common.{◌≡◌, ℕ, List, take}
use Rattle.asm_layout.specs.Names.{is_exported, is_kept}
use Rattle.asm_layout.specs.Once.{is_among}
use Rattle.asm_uses.proofs.preemption.Preemption.fill.Given as goal

-- the names are those of the lines so far
abbrev pub invariant-loop-line : goal.invariant-loop-line
invariant-loop-line l = record {
  exported : (name : List ℕ) → is_among l.self.exported name ≡ is_exported (take l.line-index l.line-items) name;
  kept : (name : List ℕ) → is_among l.self.kept name ≡ is_kept (take l.line-index l.line-items) name;
}
