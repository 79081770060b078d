-- The strings of each kind, and their lengths.
use Rattle.std.proofs.Common.{◌≡◌, ◌∙◌, ◌++◌, ◌∷◌, [], List, ℕ, ap, flat_map, length, map, refl}
use Rattle.std.specs.Prelude.{Option, option_map, option_to_list}
use Rattle.asm_statement.specs.declared.line.Line.{Line}
use Rattle.asm_layout.specs.declared.uses.Exported.{Exported}
use Rattle.asm_layout.specs.Contents.{string_bytes, strings_of, export_names, needed_at, imports_at, exports_at, versions_at, files_at}
use Rattle.asm_layout.specs.Tables.{soname, needed, versions}
use Rattle.asm_layout.specs.Uses.{imports}
use Rattle.asm_layout.specs.Versions.{needed_files, file_versions, word}
use Rattle.asm_places.specs.declared.asm_needs.needed_file.NeededFile.{NeededFile}
use Rattle.asm_contents.proofs.Joined.{grown, joined, file_names}
use Rattle.asm_contents.proofs.strings.append_strings.Goals as goal

abbrev behind : List ℕ → List (List ℕ) → List ℕ
behind out names = out ++ flat_map string_bytes names

pub returns : goal.returns
unfolding strings_of
returns c = λ lines are.
    let own = option_to_list (soname lines) in
    let files = needed_files lines in
    let names = flat_map (file_versions lines) files in
    let zero : c.push.new.self ≡ 0 ∷ [] = c.in_ok-push.ensures.ok ∙ ap (λ (out : List ℕ). out ++ 0 ∷ []) are.empty in
    let said = c.soname.ensures ∙ ap soname are.statements in
    let one : c.append_found.new.out ≡ behind (0 ∷ []) own =
    c.in_ok-append_found.ensures ∙ ap (λ (out : List ℕ). behind out (option_to_list (option_map (λ n. n.now) c.soname.result))) zero ∙ ap (λ (found : Option (List ℕ)). behind (0 ∷ []) (option_to_list found)) said in
    let two : c.append_needed.new.out ≡ behind c.append_found.new.out (needed lines) =
    c.in_ok-append_needed.ensures ∙ ap (λ (all : List Line). behind c.append_found.new.out (needed all)) are.statements in
    let three : c.append_spelled.new.out ≡ behind c.append_needed.new.out (imports lines) =
    c.in_ok-append_spelled.ensures ∙ ap (behind c.append_needed.new.out) (c.as_slice.ensures ∙ are.uses.imports) in
    let four : c.append_exports.new.out ≡ behind c.append_spelled.new.out (export_names lines) =
    c.in_ok-append_exports.ensures ∙ ap (λ (all : List Exported). behind c.append_spelled.new.out (map (λ exported. exported.name) all)) are.sorted in
    let five : c.append_spelled-2.new.out ≡ behind c.append_exports.new.out (versions lines) =
    c.in_ok-append_spelled-2.ensures ∙ ap (behind c.append_exports.new.out) (c.as_slice-2.ensures ∙ are.uses.versions) in
    let six : c.append_spelled-3.new.out ≡ behind c.append_spelled-2.new.out files =
    c.in_ok-append_spelled-3.ensures ∙ ap (behind c.append_spelled-2.new.out) (c.as_slice-3.ensures ∙ are.needed.names) in
    let seven : c.append_versions.new.out ≡ behind c.append_spelled-3.new.out names =
    c.in_ok-append_versions.ensures
    ∙ ap (λ (all : List NeededFile). behind c.append_spelled-3.new.out (flat_map (λ (file : NeededFile). file.versions) all)) c.deref.ensures.value
    ∙ ap (behind c.append_spelled-3.new.out) (file_names lines c.args.needed.now.files.items (c.args.needed.now.all ∙ ap length are.needed.names) are.needed.each) in
    let first = grown (0 ∷ []) c.append_found.new.out 1 own refl one in
    let second = grown c.append_found.new.out c.append_needed.new.out (needed_at lines) (needed lines) first two in
    let third = grown c.append_needed.new.out c.append_spelled.new.out (imports_at lines) (imports lines) second three in
    let fourth = grown c.append_spelled.new.out c.append_exports.new.out (exports_at lines) (export_names lines) third four in
    let fifth = grown c.append_exports.new.out c.append_spelled-2.new.out (versions_at lines) (versions lines) fourth five in
    let sixth = grown c.append_spelled-2.new.out c.append_spelled-3.new.out (files_at lines) files fifth six in
    record {
      strings = seven
          ∙ ap (λ (out : List ℕ). behind out names) (six
          ∙ ap (λ (out : List ℕ). behind out files) (five
          ∙ ap (λ (out : List ℕ). behind out (versions lines)) (four
          ∙ ap (λ (out : List ℕ). behind out (export_names lines)) (three
          ∙ ap (λ (out : List ℕ). behind out (imports lines)) (two
          ∙ ap (λ (out : List ℕ). behind out (needed lines)) one)))))
          ∙ joined string_bytes (0 ∷ []) own (needed lines) (imports lines) (export_names lines) (versions lines) files names;
      needed = c.offset_of-needed_at.ensures ∙ ap word first;
      imports = c.offset_of-imports.ensures ∙ ap word second;
      exports = c.offset_of-exports.ensures ∙ ap word third;
      versions = c.offset_of-versions.ensures ∙ ap word fourth;
      files = c.offset_of-files.ensures ∙ ap word fifth;
      needed_versions = c.offset_of-needed_versions.ensures ∙ ap word sixth;
    }
