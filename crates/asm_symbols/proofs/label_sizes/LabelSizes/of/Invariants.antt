use Rattle.asm_symbols.specs.Reaches.{AreEndsFrom, AreSizesFrom}
use Rattle.asm_symbols.proofs.label_sizes.LabelSizes.of.Given as goal

-- the lines from this one on
abbrev pub invariant-loop-number : goal.invariant-loop-number
invariant-loop-number l = record {
  ends : AreEndsFrom l.lines l.number l.ends;
  sizes : AreSizesFrom l.lines l.number l.sizes.items;
}
