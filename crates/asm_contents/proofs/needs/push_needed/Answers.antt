use Rattle.std.proofs.Common.{◌≡◌, ◌∙◌, ◌+◌, ◌<◌, ◌++◌, ◌∷◌, [], List, ℕ, ap, sym, drop, get_or, length, take, arith}
use Rattle.std.proofs.lemmas.List.{get_or_read}
use Rattle.asm_layout.specs.Versions.{first_needed, word, needed_of, needed_records, needed_files, file_versions, strings_length, version_count}
use Rattle.asm_places.specs.declared.asm_needs.needed_file.NeededFile.{NeededFile}
use Rattle.asm_places.specs.AsmNeeds.Files.{file_of}
use Rattle.asm_contents.proofs.Records.{same_default, from_here, count_more, needed_more}
use Rattle.asm_contents.proofs.needs.push_needed.Goals as goal

joined : (a b c : ℕ) → a + (b + c) ≡ (a + b) + c
joined a b c = omega arith

pub loop-number-preserved : goal.loop-number-preserved
loop-number-preserved c = λ lines said are.
    let names = c.args.needed.now.names in
    let files = needed_files lines in
    let n = c.loop-number.number in
    let at = c.loop-number.at in
    let file = c.file-item.result in
    let name = get_or names n [] in
    let rest = drop (n + 1) names in
    let counted : length c.deref-file-items.result.now ≡ length names = ap length c.deref-file-items.ensures.value ∙ c.args.needed.now.all in
    let below : n < length names = rw (← counted) c.loop-number-test.true in
    let within : n < length files = rw (← are.names) below in
    let named : get_or files n [] ≡ name = ap (λ (all : List (List ℕ)). get_or all n []) (sym are.names) in
    let cut : drop n names ≡ name ∷ rest = from_here names n name below (same_default names n [] name below) in
    let kept : file ≡ file_of lines name =
    c.file-item.is ∙ ap (λ (all : List NeededFile). get_or all n file) c.deref-file-items.ensures.value ∙ are.each n file within ∙ ap (file_of lines) named in
    let before = version_count lines (take n files) in
    let index = first_needed lines + before in
    let room : n < length c.args.needed.now.firsts.items = rw c.args.needed.now.counted below in
    let count : c.get.result ≡ before =
    c.get.ensures.value ∙ get_or_read c.args.needed.now.firsts.items n c.index.result.now room c.index.ensures 0 ∙ are.firsts n within in
    let first : c.first_needed.result + c.get.result ≡ index =
    ap (λ (m : ℕ). m + c.get.result) (c.first_needed.ensures.value lines said) ∙ ap (λ (m : ℕ). first_needed lines + m) count in
    let versions : file.versions ≡ file_versions lines name = ap (λ (f : NeededFile). f.versions) kept in
    let one = c.in_ok-at.ensures.records lines name kept
    ∙ ap (λ (m : ℕ). c.loop-number.records ++ needed_of lines name m at file.versions) first
    ∙ ap (λ (all : List (List ℕ)). c.loop-number.records ++ needed_of lines name index at all) versions in
    let behind = c.in_ok-at.ensures.next ∙ ap (λ (all : List (List ℕ)). word (at + strings_length all)) versions in
    let after = ap (λ (m : ℕ). first_needed lines + m)
    (count_more lines files n within ∙ ap (λ (f : List ℕ). before + length (file_versions lines f)) named)
    ∙ joined (first_needed lines) before (length (file_versions lines name)) in
    let whole = ap (λ (all : List (List ℕ)). c.loop-number.records ++ needed_records lines index at all) (sym cut) ∙ c.loop-number.invariant lines said are in
    needed_more lines c.loop-number.records c.push_versions.new.records _ index _ at c.in_ok-at.at name rest one behind after whole
