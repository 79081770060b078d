-- The entries that are still to come stand behind those that are there.
use Rattle.std.proofs.Common.{◌≡◌, ◌++◌, List, drop}
use Rattle.asm_statement.specs.declared.line.Line.{Line}
use Rattle.asm_layout.specs.Symbols.{export_entries}
use Rattle.asm_symbols.specs.Facts.{IsTableOf}
use Rattle.asm_symbols.proofs.entries.SymbolTable.push_exports.Given as goal

abbrev pub invariant-loop-exported : goal.invariant-loop-exported
invariant-loop-exported l = (lines : List Line) → IsTableOf lines l.self
    → l.entries ++ export_entries lines l.at (drop l.exported-index l.exports)
    ≡ l.initial.entries ++ export_entries lines l.first (l.exports)
