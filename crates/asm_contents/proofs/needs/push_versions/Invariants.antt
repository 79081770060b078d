-- The records that are still to come stand behind those that are there.
use Rattle.std.proofs.Common.{◌≡◌, ◌++◌, ◌+◌, List, ℕ, drop}
use Rattle.asm_statement.specs.declared.line.Line.{Line}
use Rattle.asm_layout.specs.Versions.{needed_of, strings_length, word}
use Rattle.asm_places.specs.AsmNeeds.Files.{file_of}
use Rattle.asm_contents.proofs.needs.push_versions.Given as goal

abbrev pub invariant-loop-number : goal.invariant-loop-number
invariant-loop-number l = record {
  records : (lines : List Line) (name : List ℕ) → l.file ≡ file_of lines name
      → l.records ++ needed_of lines name (l.index + l.number) l.at (drop l.number l.file.versions)
      ≡ l.initial.records ++ needed_of lines name l.index l.first l.file.versions;
  small : word l.at ≡ l.at;
  offsets : word (l.at + strings_length (drop l.number l.file.versions)) ≡ word (l.first + strings_length l.file.versions);
}
