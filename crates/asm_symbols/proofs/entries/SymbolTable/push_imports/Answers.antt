use Rattle.std.proofs.Common.{◌≡◌, ◌∙◌, ◌++◌, ◌+◌, ◌∷◌, ap, sym, List, ℕ, drop, length, map, suc, add-one}
use Rattle.std.specs.Global.{Vec}
use Rattle.std.proofs.Math.Seq.{drop-cons}
use Rattle.asm_layout.specs.Symbols.{import_entry, import_entries}
use Rattle.asm_layout.specs.Versions.{word}
use Rattle.asm_symbols.proofs.Entered.{import_more}
use Rattle.asm_symbols.proofs.entries.SymbolTable.push_imports.Goals as goal

pub loop-name-preserved : goal.loop-name-preserved
loop-name-preserved c = λ lines is.
    let all = c.args.names.now in
    let n = c.loop-name.name-index in
    let at = c.loop-name.at in
    let one = c.name-item.result in
    let items : Vec ℕ → List ℕ = λ name. name.items in
    let cut : drop n all ≡ one ∷ drop (n + 1) all =
    drop-cons all n one c.loop-name-test.true
    ∙ ap (λ (x : Vec ℕ). x ∷ drop (suc n) all) (sym c.name-item.is) ∙ ap (λ (m : ℕ). one ∷ drop m all) (sym (add-one n)) in
    let whole = ap (λ (rest : List (Vec ℕ)). c.loop-name.entries ++ import_entries lines at (map items rest)) (sym cut) ∙ c.loop-name.invariant lines is in
    rw c.in_ok-push.ensures.ok
    (import_more lines c.loop-name.entries _ c.import_entry.result at c.offset_behind-at.result one.items (map items (drop (n + 1) all))
    (c.import_entry.ensures lines is ∙ ap (import_entry lines at) c.deref.ensures.value)
    (c.offset_behind-at.ensures ∙ ap (λ (bytes : List ℕ). word (at + length bytes + 1)) c.deref-in-loop-name.ensures.value)
    whole)
