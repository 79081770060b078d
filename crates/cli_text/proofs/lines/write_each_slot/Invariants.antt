use Rattle.std.proofs.Common.{◌≡◌, ◌++◌, ◌<◌, drop, length}
use Rattle.std.specs.List.{flat_map, enumerate_from, AllByRecursion}
use Rattle.std.specs.String.{string_bytes}
use Rattle.cli_text.specs.Lines.{numbered_line}
use Rattle.cli_text.proofs.lines.write_each_slot.Given as goal

-- the slots so far are written, and the others have their symbols
abbrev pub invariant-loop-number : goal.invariant-loop-number
invariant-loop-number l = record {
  written : string_bytes l.text ++ flat_map (numbered_line l.fn.references.seen l.owner) (enumerate_from l.number (drop l.number l.slot-items)) ≡ string_bytes l.fn.text ++ flat_map (numbered_line l.fn.references.seen l.owner) (enumerate_from 0 l.slot-items);
  same : l.references ≡ l.fn.references;
  rest : AllByRecursion (λ r. r.symbol < length l.owner.object.symbols) (drop l.number l.slot-items);
}
