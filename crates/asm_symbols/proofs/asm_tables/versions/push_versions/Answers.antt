use Rattle.std.proofs.Common.{◌≡◌, ◌∙◌, ◌++◌, ◌+◌, ◌-◌, ◌∷◌, ap, sym, List, ℕ, drop, length, map, take, suc, add-one}
use Rattle.std.specs.Global.{Vec}
use Rattle.std.proofs.Math.Seq.{drop-cons}
use Rattle.asm_layout.specs.Versions.{word, version_records}
use Rattle.asm_symbols.proofs.AsmTables.Recorded.{record_of, tail_slice, version_more}
use Rattle.asm_symbols.proofs.asm_tables.versions.push_versions.Goals as goal

pub loop-number-preserved : goal.loop-number-preserved
loop-number-preserved c =
    let names = c.args.names.now in
    let n = c.loop-number.number in
    let name = c.index-names-number.result in
    let items : Vec ℕ → List ℕ = λ name. name.items in
    let cut : drop n names ≡ name ∷ drop (n + 1) names =
    drop-cons names n name c.loop-number-test.true
    ∙ ap (λ (x : Vec ℕ). x ∷ drop (suc n) names) (sym c.index-names-number.is) ∙ ap (λ (m : ℕ). name ∷ drop m names) (sym (add-one n)) in
    let whole = ap (λ (rest : List (Vec ℕ)). c.loop-number.records.items ++ version_records (2 + n) c.loop-number.at (map items rest)) (sym cut) ∙ c.loop-number.invariant in
    let rest = map items (drop (n + 1) names) in
    rw c.in_ok-push.ensures.items
    (version_more c.loop-number.records.items _ c.version_record.result n c.loop-number.at c.offset_behind-at.result name.items rest
    (c.version_record.ensures ∙ ap (λ (bytes : List ℕ). record_of n c.loop-number.at bytes (map items (take (length names - (n + 1)) (drop (n + 1) names)))) c.deref.ensures.value
    ∙ ap (λ (behind : List (Vec ℕ)). record_of n c.loop-number.at name.items (map items behind)) (tail_slice names (n + 1)))
    (c.offset_behind-at.ensures ∙ ap (λ (bytes : List ℕ). word (c.loop-number.at + length bytes + 1)) c.deref-in-loop-number.ensures.value)
    whole)
