-- The entries that are still to come stand behind those that are there.
use Rattle.std.proofs.Common.{◌≡◌, ◌++◌, List, drop, map}
use Rattle.asm_statement.specs.declared.line.Line.{Line}
use Rattle.asm_layout.specs.Symbols.{import_entries}
use Rattle.asm_symbols.specs.Facts.{IsTableOf}
use Rattle.asm_symbols.proofs.entries.SymbolTable.push_imports.Given as goal

abbrev pub invariant-loop-name : goal.invariant-loop-name
invariant-loop-name l = (lines : List Line) → IsTableOf lines l.self
    → l.entries ++ import_entries lines l.at (map (λ name. name.items) (drop l.name-index l.names))
    ≡ l.initial.entries ++ import_entries lines l.first (map (λ name. name.items) l.names)
