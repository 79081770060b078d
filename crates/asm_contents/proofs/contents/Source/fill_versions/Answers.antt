use Rattle.std.proofs.Common.{◌∙◌, ◌++◌, [], List, ℕ, ap}
use Rattle.std.specs.Prelude.{unwrap_or}
use Rattle.asm_write.specs.declared.contents.NeedRecord.{NeedRecord}
use Rattle.asm_write.specs.declared.contents.NeededVersion.{NeededVersion}
use Rattle.asm_write.specs.declared.contents.VersionRecord.{VersionRecord}
use Rattle.asm_layout.specs.Contents.{files_at, needed_versions_at, soname_offset, versions_at}
use Rattle.asm_layout.specs.Tables.{soname, versions}
use Rattle.asm_layout.specs.Versions.{first_needed, need_records, needed_files, needed_records}
use Rattle.asm_layout.proofs.Offsets.{cut_files, cut_needed}
use Rattle.asm_contents.specs.Blank.{own_records}
use Rattle.asm_contents.proofs.Joined.{cut_own, on_ok}
use Rattle.asm_contents.proofs.contents.Source.fill_versions.Goals as goal

pub returns : goal.returns
returns c =
    let lines = c.args.self.statements.now in
    let old = c.args.contents.now in
    let marks = c.args.marks in
    let at = c.requires.marks in
    let source = c.requires.source in
    let names = c.args.self.needed.now.names in
    let own = c.into.ensures ∙ c.in_ok-records.ensures
    ∙ ap (λ (names : List (List ℕ)). own_records (soname lines) marks.versions names) (c.as_slice-names.ensures ∙ source.uses.versions)
    ∙ ap (λ (at : ℕ). own_records (soname lines) at (versions lines)) at.versions
    ∙ cut_own (unwrap_or (soname lines) []) (unwrap_or (soname_offset (soname lines)) 0) (versions_at lines) (versions lines) in
    let files = c.in_ok-push_files.ensures lines source.needed
    ∙ ap (λ (at : ℕ). old.files ++ need_records lines 0 at names) at.files
    ∙ ap (λ (records : List NeedRecord). old.files ++ records) (cut_files lines 0 (files_at lines) names)
    ∙ ap (λ (names : List (List ℕ)). old.files ++ need_records lines 0 (files_at lines) names) source.needed.names in
    let all_files = old.files ++ need_records lines 0 (files_at lines) (needed_files lines) in
    on_ok c.push_needed.result c.push_needed.ensures (λ told.
    ap (λ (records : List VersionRecord). record old { versions = records; files = c.push_files.new.records; needed_versions = c.push_needed.new.records }) own
    ∙ ap (λ (records : List NeedRecord). record old {
      versions = own_records (soname lines) (versions_at lines) (versions lines);
      files = records;
      needed_versions = c.push_needed.new.records;
    }) files
    ∙ ap (λ (records : List NeededVersion). record old {
      versions = own_records (soname lines) (versions_at lines) (versions lines);
      files = all_files;
      needed_versions = records;
    })
    (told lines source.uses source.needed
    ∙ ap (λ (at : ℕ). old.needed_versions ++ needed_records lines (first_needed lines) at names) at.needed_versions
    ∙ ap (λ (records : List NeededVersion). old.needed_versions ++ records) (cut_needed lines (first_needed lines) (needed_versions_at lines) names)
    ∙ ap (λ (names : List (List ℕ)). old.needed_versions ++ needed_records lines (first_needed lines) (needed_versions_at lines) names) source.needed.names))
