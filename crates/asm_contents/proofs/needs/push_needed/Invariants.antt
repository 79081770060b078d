-- The records that are still to come stand behind those that are there.
use Rattle.std.proofs.Common.{◌≡◌, ◌++◌, ◌+◌, List, drop, take}
use Rattle.asm_statement.specs.declared.line.Line.{Line}
use Rattle.asm_layout.specs.Versions.{first_needed, needed_files, needed_records, version_count}
use Rattle.asm_places.specs.AsmNeeds.Files.{AreFilesOf}
use Rattle.asm_uses.specs.Uses.{AreUsesOf}
use Rattle.asm_contents.proofs.needs.push_needed.Given as goal

abbrev pub invariant-loop-number : goal.invariant-loop-number
invariant-loop-number l = (lines : List Line) → AreUsesOf lines l.uses → AreFilesOf lines l.needed
    → l.records ++ needed_records lines (first_needed lines + version_count lines (take l.number (needed_files lines))) l.at (drop l.number l.needed.names)
    ≡ l.initial.records ++ needed_records lines (first_needed lines) l.first l.needed.names
