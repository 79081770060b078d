use Rattle.std.proofs.Common.{◌≡◌, drop, length}
use Rattle.cli_text.specs.Named.{AreNamed}
use Rattle.cli_text.specs.Refusal.{first_missing}
use Rattle.cli_text.proofs.refusal.first_missing.Given as goal

-- the first refusal of the rest is that of all
abbrev pub invariant-loop-reloc : goal.invariant-loop-reloc
invariant-loop-reloc l = record {
  first : first_missing l.fn.references.seen l.owner (drop l.reloc-index l.relocs) ≡ first_missing l.fn.references.seen l.owner l.relocs;
  same : l.references ≡ l.fn.references;
  rest : AreNamed (length l.owner.object.symbols) (drop l.reloc-index l.relocs);
}
