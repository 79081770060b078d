use Rattle.std.proofs.Common.{◌≡◌, ◌∙◌, ◌++◌, ◌+◌, ◌∷◌, ap, sym, List, ℕ, drop, length, suc, add-one}
use Rattle.std.specs.Global.{Vec}
use Rattle.std.proofs.Math.Seq.{drop-cons}
use Rattle.asm_layout.specs.declared.uses.Exported.{Exported}
use Rattle.asm_layout.specs.Symbols.{export_entry, export_entries}
use Rattle.asm_layout.specs.Versions.{word}
use Rattle.asm_symbols.proofs.Entered.{export_more}
use Rattle.asm_symbols.proofs.entries.SymbolTable.push_exports.Goals as goal

pub loop-exported-preserved : goal.loop-exported-preserved
loop-exported-preserved c = λ lines is.
    let all = c.args.exports.now in
    let n = c.loop-exported.exported-index in
    let at = c.loop-exported.at in
    let one = c.exported-item.result in
    let items : Vec ℕ → List ℕ = λ name. name.items in
    let cut : drop n all ≡ one ∷ drop (n + 1) all =
    drop-cons all n one c.loop-exported-test.true
    ∙ ap (λ (x : Exported). x ∷ drop (suc n) all) (sym c.exported-item.is) ∙ ap (λ (m : ℕ). one ∷ drop m all) (sym (add-one n)) in
    let whole = ap (λ (rest : List Exported). c.loop-exported.entries ++ export_entries lines at (rest)) (sym cut) ∙ c.loop-exported.invariant lines is in
    rw c.in_ok-push.ensures.ok
    (export_more lines c.loop-exported.entries _ c.export_entry.result at c.offset_behind-at.result one (drop (n + 1) all)
    (c.export_entry.ensures lines is)
    (c.offset_behind-at.ensures ∙ ap (λ (bytes : List ℕ). word (at + length bytes + 1)) c.as_bytes.ensures)
    whole)
