-- The numbers of the dynamic table.
use Rattle.std.proofs.Common.{ℕ, ◌+◌, ◌^◌, ◌<◌, ◌≤◌, List, [], ◌∷◌, length, arith}
use Rattle.std.specs.Prelude.{Option, Some, None, IfSome, unwrap_or}
use Rattle.asm_laws.specs.ElfSpelled.Said.{AllBelow, TellsNumbers}
use Rattle.asm_statement.specs.declared.line.Line.{Line}
use Rattle.asm_layout.specs.Contents.{contents_of, files_at, needed_at, offsets_from, soname_offset, versions_at}
use Rattle.asm_layout.specs.Tables.{needed, soname, versions}
use Rattle.asm_layout.specs.Versions.{needed_files}
use Rattle.asm_laws.specs.AsmBounds.Lemmas.Counts.{files_few, versions_few}
use Rattle.asm_laws.specs.AsmBounds.Lemmas.Records.{files_long, records_few}

offsets_low : (at : ℕ) (names : List (List ℕ)) → AllBelow (2 ^ 64) (offsets_from at names)
offsets_low at [] = tt
offsets_low at (name ∷ names) = (omega arith, offsets_low (at + length name + 1) names)

own_low : (name : Option (List ℕ)) → IfSome (soname_offset name) (λ offset. offset < 2 ^ 64)
own_low None = tt
own_low (Some name) = omega arith

pub tells : (lines : List Line) → length lines ≤ 2 ^ 20 + 1 → TellsNumbers (contents_of lines)
unfolding contents_of
tells lines few =
    let defined = versions_few lines in
    let records = records_few (unwrap_or (soname lines) []) (unwrap_or (soname_offset (soname lines)) 0) (versions_at lines) (versions lines) in
    let files = files_few lines in
    let needs = files_long lines 0 (files_at lines) (needed_files lines) in
    record {
      needed = offsets_low (needed_at lines) (needed lines);
      soname = own_low (soname lines);
      versions = omega (arith, few, defined, records);
      files = omega (arith, few, files, needs);
    }
