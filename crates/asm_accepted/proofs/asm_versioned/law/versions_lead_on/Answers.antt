-- Table by table; the versions of a file are few, since each has an index.
use Rattle.std.proofs.Common.{[], arith}
use Rattle.std.specs.Prelude.{unwrap_or}
use Rattle.asm_write.specs.declared.part.Part.TheVariants as parts
use Rattle.asm_write.specs.Sizes.{plain_size}
use Rattle.asm_layout.specs.Contents.{contents_of, exports_at, files_at, imports_at, needed_versions_at, soname_offset, versions_at}
use Rattle.asm_layout.specs.Symbols.{sorted_exports}
use Rattle.asm_layout.specs.Tables.{soname, versions}
use Rattle.asm_layout.specs.Uses.{imports}
use Rattle.asm_layout.specs.Versions.{first_needed, needed_files}
use Rattle.asm_laws.specs.AsmBounds.Lemmas.Records.{files_long}
use Rattle.asm_accepted.proofs.AsmVersioned.Files.{versions_few}
use Rattle.asm_accepted.proofs.AsmVersioned.Records.{by_file, files_fit, files_lead, indexes_low, needed_fit, records_fit, records_lead}
use Rattle.asm_accepted.proofs.asm_versioned.law.versions_lead_on.Goals as goal

pub returns : goal.returns
unfolding contents_of plain_size
returns c source bytes denotes =
    let lines = denotes.lines in
    let files = needed_files lines in
    let own = unwrap_or (soname lines) [] in
    let own_at = unwrap_or (soname_offset (soname lines)) 0 in
    let size = c.parts_are_within_the_object.ensures source bytes denotes parts.Verneed tt in
    let count = files_long lines 0 (files_at lines) files in
    record {
      indexes = indexes_low lines (imports_at lines) (exports_at lines) (imports lines) (sorted_exports lines);
      defined = records_fit own own_at (versions_at lines) (versions lines);
      defined_lead = records_lead own own_at (versions_at lines) (versions lines);
      files = files_fit lines 0 (files_at lines) files;
      files_lead = files_lead lines 0 (files_at lines) files;
      needed = needed_fit lines (first_needed lines) (needed_versions_at lines) files;
      by_file = by_file lines (versions_few lines denotes.object.faultless) 0 (first_needed lines) (files_at lines) (needed_versions_at lines) files (omega (arith, size, count));
    }
