use Rattle.std.proofs.Common.{◌≡◌, ◌++◌, List, take, map}
use Rattle.asm_statement.specs.declared.line.Line.{Line}
use Rattle.asm_layout.specs.Symbols.{symbol_index}
use Rattle.asm_symbols.specs.Indexes.{AreIndexesOf}
use Rattle.asm_contents.proofs.contents.push_slots.Given as goal

-- the symbols of the names so far
abbrev pub invariant-loop-name : goal.invariant-loop-name
invariant-loop-name l = (lines : List Line) → AreIndexesOf lines l.indexes
    → l.slots ≡ l.initial.slots ++ map (symbol_index lines) (map (λ name. name.items) (take l.name-index l.names))
