use Rattle.std.proofs.Common.{◌≡◌, ◌<◌, ◌∙◌, get_or, length, sym}
use Rattle.ld_base.specs.declared.object.Symbol.{Symbol}
use Rattle.sym_lookup.proofs.Searches.{alike_choice}
use Rattle.sym_lookup.proofs.references.kept_alike.Goals as goal

pub returns : goal.returns
returns c = λ s are.
    let symbols = c.args.owner.now.object.symbols in
    let symbol : Symbol = c.index-symbols-index.result in
    let before : Symbol = c.index-symbols-other.result in
    let few : c.args.other < length symbols = rw c.as_slice-symbols.ensures.value at c.if-other-symbols.false in
    let here : symbol ≡ get_or symbols c.args.index symbol = rw c.as_slice-symbols.ensures.value at c.index-symbols-index.is in
    let there : before ≡ get_or symbols c.args.other before = rw c.as_slice-symbols.ensures.value at c.index-symbols-other.is in
    alike_choice s c.args.owner.now c.args.copy c.args.kept.now c.args.other c.args.index symbol before c.in_ok-choice.choice c.choice_as.result c.requires few here there
    (c.is_alike.ensures.0 c.if-not-is_alike.false) (sym c.stays_own.ensures ∙ c.if-stays_own.false) (sym c.stays_own-else-stays_own.ensures ∙ c.if-stays_own-2.false) c.in_ok-choice.ensures c.choice_as.ensures are
