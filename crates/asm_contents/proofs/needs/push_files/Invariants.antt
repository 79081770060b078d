-- The records that are still to come stand behind those that are there.
use Rattle.std.proofs.Common.{◌≡◌, ◌++◌, List, drop, take}
use Rattle.asm_statement.specs.declared.line.Line.{Line}
use Rattle.asm_layout.specs.Versions.{need_records, needed_files, version_count}
use Rattle.asm_places.specs.AsmNeeds.Files.{AreFilesOf}
use Rattle.asm_contents.proofs.needs.push_files.Given as goal

abbrev pub invariant-loop-number : goal.invariant-loop-number
invariant-loop-number l = (lines : List Line) → AreFilesOf lines l.needed
    → l.records ++ need_records lines (version_count lines (take l.number (needed_files lines))) l.at (drop l.number l.needed.names)
    ≡ l.initial.records ++ need_records lines 0 l.first l.needed.names
