-- Step by step.
use Rattle.std.proofs.Common.{◌∙◌, ◌++◌, List, ap, map}
use Rattle.asm_write.specs.declared.contents.Contents.{Contents}
use Rattle.asm_layout.specs.declared.uses.Exported.{Exported}
use Rattle.asm_layout.specs.Contents.{contents_of, elf_kind, entry_name, exports_at, files_at, imports_at, needed_at, needed_versions_at, offsets_from, soname_offset, strings_of, versions_at}
use Rattle.asm_layout.specs.Fixes.{fixes_of}
use Rattle.asm_layout.specs.Spots.{label_spot, sections_of}
use Rattle.asm_layout.specs.Symbols.{export_entries, first_export, import_entries, sorted_exports, symbol_index}
use Rattle.asm_layout.specs.Tables.{flags_of, hash_of, needed, soname, versions}
use Rattle.asm_layout.specs.Uses.{imports, slots}
use Rattle.asm_layout.specs.Versions.{first_needed, has_versions, need_records, needed_files, needed_records, word}
use Rattle.asm_contents.specs.Blank.{gnu_table, own_records, sysv_table}
use Rattle.asm_contents.proofs.Joined.{on_ok}
use Rattle.asm_contents.proofs.contents.Source.fill.Goals as goal

pub returns : goal.returns
unfolding contents_of
returns c =
    let lines = c.args.self.statements.now in
    let sorted = c.as_slice-sorted.ensures ∙ c.in_ok-sorted.ensures lines (c.as_slice.ensures ∙ c.requires.source.uses.exports) in
    let words : Contents → Contents = λ all. record all {
      kind = elf_kind lines;
      entry = label_spot lines (entry_name lines);
      soname = soname_offset (soname lines);
      flags = flags_of lines;
      has_versions = has_versions lines;
      sections = sections_of lines;
    } in
    let strings : Contents → Contents = λ all. record all {
      strings = strings_of lines;
      needed = all.needed ++ offsets_from (needed_at lines) (needed lines);
    } in
    let symbols : Contents → Contents = λ all. record all {
      symbols = (all.symbols ++ import_entries lines (imports_at lines) (imports lines)) ++ export_entries lines (exports_at lines) (sorted_exports lines);
    } in
    let hashes : List Exported → Contents → Contents = λ exported all. record all {
      gnu = gnu_table (hash_of lines) (word (first_export lines)) exported;
      sysv = sysv_table (hash_of lines) (word (first_export lines)) exported;
    } in
    let records : Contents → Contents = λ all. record all {
      versions = own_records (soname lines) (versions_at lines) (versions lines);
      files = all.files ++ need_records lines 0 (files_at lines) (needed_files lines);
      needed_versions = all.needed_versions ++ needed_records lines (first_needed lines) (needed_versions_at lines) (needed_files lines);
    } in
    let places : Contents → Contents = λ all. record all {
      slots = all.slots ++ map (symbol_index lines) (slots lines);
      fixes = fixes_of lines;
    } in
    let one = c.fill_words.ensures ∙ ap words c.requires.blank in
    let two = c.in_ok-marks.ensures.contents ∙ ap strings one in
    let three = c.in_ok-fill_symbols.ensures ∙ ap symbols two in
    let four = c.in_ok-fill_hashes.ensures ∙ ap (λ (exported : List Exported). hashes exported c.fill_symbols.new.contents) sorted ∙ ap (hashes (sorted_exports lines)) three in
    let five = c.in_ok-fill_versions.ensures ∙ ap records four in
    on_ok c.fill_places.result c.fill_places.ensures (λ told. told ∙ ap places five)
