use Rattle.std.proofs.Common.{◌≡◌, ◌++◌, take, flat_map}
use Rattle.asm_layout.specs.Tables.{library_needed}
use Rattle.asm_symbols.specs.AsmTables.Needed.{library_bytes}
use Rattle.asm_symbols.proofs.asm_tables.strings.append_lines.Given as goal

abbrev pub invariant-loop-line : goal.invariant-loop-line
invariant-loop-line l =
    l.out ≡ l.initial.out ++ flat_map (λ line. library_bytes (library_needed line.statement)) (take l.line-index l.lines)
