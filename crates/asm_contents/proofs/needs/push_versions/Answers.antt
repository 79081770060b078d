use Rattle.std.proofs.Common.{◌≡◌, ◌∙◌, ◌+◌, ◌-◌, ◌<◌, ◌++◌, ◌∷◌, [], List, ℕ, ap, sym, drop, get_or, length, map, take}
use Rattle.std.specs.Global.{Vec}
use Rattle.std.specs.List.{drop-map}
use Rattle.std.proofs.lemmas.List.{get_or-map, length-map}
use Rattle.asm_write.specs.declared.contents.NeededVersion.{NeededVersion}
use Rattle.sym_hash.specs.Hash.{sysv_hash}
use Rattle.asm_layout.specs.Versions.{half, word, next_need, needed_of, strings_length}
use Rattle.asm_layout.proofs.Offsets.{cut}
use Rattle.asm_places.specs.declared.asm_needs.needed_file.NeededFile.{NeededFile}
use Rattle.asm_contents.specs.Needs.{flags_in}
use Rattle.asm_contents.proofs.Records.{same_default, tail_slice, from_here, version_record, versions_more, offsets_more}
use Rattle.asm_contents.proofs.needs.push_versions.Goals as goal

abbrev made : NeededFile → List ℕ → ℕ → ℕ → List (List ℕ) → NeededVersion
made file version index at rest = record { hash = sysv_hash version; flags = flags_in file version; index = half index; name = word at; next = next_need rest }

pub loop-number-preserved : goal.loop-number-preserved
loop-number-preserved c =
    let versions = c.args.file.now.versions in
    let slice = c.as_slice-versions.result.now in
    let items : Vec ℕ → List ℕ = λ name. name.items in
    let n = c.loop-number.number in
    let at = c.loop-number.at in
    let index = c.args.index in
    let spelled = c.index-versions-number.result in
    let version = spelled.items in
    let rest = drop (n + 1) versions in
    let same = c.as_slice-versions.ensures in
    let sized : length slice ≡ length versions = sym (length-map slice items) ∙ ap length same in
    let fits : n < length slice = c.loop-number-test.true in
    let below : n < length versions = rw (← sized) fits in
    let here : version ≡ get_or versions n [] =
    ap items c.index-versions-number.is ∙ sym (get_or-map items slice n spelled [] fits) ∙ ap (λ (all : List (List ℕ)). get_or all n []) same in
    let is : version ≡ get_or versions n version = here ∙ same_default versions n [] version below in
    let cut_here : drop n versions ≡ version ∷ rest = from_here versions n version below is in
    let behind_here : map items (take (length slice - (n + 1)) (drop (n + 1) slice)) ≡ rest =
    ap (map items) (tail_slice slice (n + 1)) ∙ sym (drop-map items (n + 1) slice) ∙ ap (drop (n + 1)) same in
    let behind : c.offset_behind-at.result ≡ word (at + length version + 1) =
    c.offset_behind-at.ensures ∙ ap (λ (bytes : List ℕ). word (at + length bytes + 1)) c.deref-in-loop-number.ensures.value in
    record {
      records = λ lines name kept.
          let one : c.version_record.result ≡ version_record lines name (index + n) at version rest =
          c.version_record.ensures
          ∙ ap (λ (bytes : List ℕ). made c.args.file.now bytes (index + n) at (map items (take (length slice - (n + 1)) (drop (n + 1) slice)))) c.deref.ensures.value
          ∙ ap (made c.args.file.now version (index + n) at) behind_here
          ∙ ap (λ (file : NeededFile). made file version (index + n) at rest) kept in
          let whole = ap (λ (all : List (List ℕ)). c.loop-number.records ++ needed_of lines name (index + n) at all) (sym cut_here)
          ∙ c.loop-number.invariant.records lines name kept in
          rw c.in_ok-push.ensures.ok
          (versions_more lines name c.loop-number.records _ c.version_record.result index n at c.offset_behind-at.result version rest one behind whole);
      small = ap word behind ∙ cut (at + length version + 1) ∙ sym behind;
      offsets = offsets_more at c.offset_behind-at.result version rest _ behind
          (ap (λ (all : List (List ℕ)). word (at + strings_length all)) (sym cut_here) ∙ c.loop-number.invariant.offsets);
    }
