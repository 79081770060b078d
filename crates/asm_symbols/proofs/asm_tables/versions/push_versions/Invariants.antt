-- The records that are still to come stand behind those that are there.
use Rattle.std.proofs.Common.{◌≡◌, ◌+◌, ◌++◌, drop, map}
use Rattle.asm_layout.specs.Versions.{version_records}
use Rattle.asm_symbols.proofs.asm_tables.versions.push_versions.Given as goal

abbrev pub invariant-loop-number : goal.invariant-loop-number
invariant-loop-number l =
    l.records.items ++ version_records (2 + l.number) l.at (map (λ name. name.items) (drop l.number l.names))
    ≡ l.initial.records.items ++ version_records 2 l.first (map (λ name. name.items) l.names)
