use Rattle.std.proofs.Common.{◌≡◌, ◌∙◌, ◌+◌, ◌-◌, ◌*◌, ◌<◌, ◌++◌, ◌∷◌, [], List, ℕ, ap, sym, drop, get_or, length, map, take, length-drop}
use Rattle.std.specs.Global.{Vec}
use Rattle.std.proofs.lemmas.List.{get_or-map, get_or_read, length-map}
use Rattle.std.specs.List.{drop-map}
use Rattle.asm_write.specs.declared.contents.NeedRecord.{NeedRecord}
use Rattle.asm_layout.specs.Versions.{half, word, next_need, need_records, needed_files, file_versions, version_count}
use Rattle.asm_places.specs.declared.asm_needs.needed_file.NeededFile.{NeededFile}
use Rattle.asm_places.specs.AsmNeeds.Files.{file_of}
use Rattle.asm_contents.proofs.Records.{same_default, tail_slice, from_here, count_more, file_record, files_more}
use Rattle.asm_contents.proofs.needs.push_files.Goals as goal

abbrev made : ℕ → ℕ → ℕ → ℕ → List (List ℕ) → NeedRecord
made count at left before rest = record { count = half count; name = word at; first = word (16 * left + 16 * before); next = next_need rest }

pub loop-number-preserved : goal.loop-number-preserved
loop-number-preserved c = λ lines are.
    let names = c.args.needed.now.names in
    let files = needed_files lines in
    let slice = c.as_slice-names.result.now in
    let items : Vec ℕ → List ℕ = λ name. name.items in
    let n = c.loop-number.number in
    let at = c.loop-number.at in
    let file = c.file-item.result in
    let spelled = c.index-names-number.result in
    let name = spelled.items in
    let same = c.as_slice-names.ensures in
    let counted : length c.deref-file-items.result.now ≡ length names = ap length c.deref-file-items.ensures.value ∙ c.args.needed.now.all in
    let below : n < length names = rw (← counted) c.loop-number-test.true in
    let sized : length slice ≡ length names = sym (length-map slice items) ∙ ap length same in
    let fits : n < length slice = rw sized below in
    let within : n < length files = rw (← are.names) below in
    let here : name ≡ get_or names n [] =
    ap items c.index-names-number.is ∙ sym (get_or-map items slice n spelled [] fits) ∙ ap (λ (all : List (List ℕ)). get_or all n []) same in
    let named : get_or files n [] ≡ name = ap (λ (all : List (List ℕ)). get_or all n []) (sym are.names) ∙ sym here in
    let is : name ≡ get_or names n name = here ∙ same_default names n [] name below in
    let cut : drop n names ≡ name ∷ drop (n + 1) names = from_here names n name below is in
    let kept : file ≡ file_of lines name =
    c.file-item.is ∙ ap (λ (all : List NeededFile). get_or all n file) c.deref-file-items.ensures.value ∙ are.each n file within ∙ ap (file_of lines) named in
    let before = version_count lines (take n files) in
    let room : n < length c.args.needed.now.firsts.items = rw c.args.needed.now.counted below in
    let count : c.get-before.result ≡ before =
    c.get-before.ensures.value ∙ get_or_read c.args.needed.now.firsts.items n c.index.result.now room c.index.ensures 0 ∙ are.firsts n within in
    let sliced = map items (take (length slice - (n + 1)) (drop (n + 1) slice)) in
    let rest : sliced ≡ drop (n + 1) names =
    ap (map items) (tail_slice slice (n + 1)) ∙ sym (drop-map items (n + 1) slice) ∙ ap (drop (n + 1)) same in
    let left : length slice - n ≡ length (name ∷ drop (n + 1) names) = ap (λ (m : ℕ). m - n) sized ∙ sym (length-drop n names) ∙ ap length cut in
    let one : c.file_record.result ≡ file_record lines before at name (drop (n + 1) names) =
    c.file_record.ensures
    ∙ ap (λ (f : NeededFile). made (length f.versions) at (length slice - n) c.get-before.result sliced) kept
    ∙ ap (λ (m : ℕ). made (length (file_versions lines name)) at m c.get-before.result sliced) left
    ∙ ap (λ (m : ℕ). made (length (file_versions lines name)) at (length (name ∷ drop (n + 1) names)) m sliced) count
    ∙ ap (made (length (file_versions lines name)) at (length (name ∷ drop (n + 1) names)) before) rest in
    let behind = c.offset_behind-at.ensures ∙ ap (λ (bytes : List ℕ). word (at + length bytes + 1)) c.deref.ensures.value in
    let after = count_more lines files n within ∙ ap (λ (f : List ℕ). before + length (file_versions lines f)) named in
    let whole = ap (λ (all : List (List ℕ)). c.loop-number.records ++ need_records lines before at all) (sym cut) ∙ c.loop-number.invariant lines are in
    rw c.in_ok-push.ensures.ok
    (files_more lines c.loop-number.records _ c.file_record.result before _ at c.offset_behind-at.result name (drop (n + 1) names) one behind after whole)
