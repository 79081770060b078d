use Rattle.std.proofs.Common.{◌∙◌, sym}
use Rattle.sym_lookup.proofs.SymFind.Kept.{after_before, after_offer, after_other, after_past, at_place}
use Rattle.sym_lookup.proofs.sym_find.best.Search.after.Goals as goal

pub returns-then-index-self : goal.returns-then-index-self
returns-then-index-self c = after_before c.args.self.now c.args.best c.args.index c.if-index-self.true

pub returns-then-index-symbols : goal.returns-then-index-symbols
returns-then-index-symbols c = after_past c.args.self.now c.args.best c.args.index (rw c.as_slice-symbols.ensures.value at c.if-index-symbols.true)

pub returns-then-is_offer : goal.returns-then-is_offer
returns-then-is_offer c =
    c.with_offer.ensures
    ∙ after_offer c.args.self.now c.args.best c.args.index c.index-symbols-index.result c.if-index-self.false
    (at_place c.as_slice-symbols.result.now c.args.self.now.object.now.symbols c.args.index c.index-symbols-index.result c.as_slice-symbols.ensures.value c.if-index-symbols.false c.index-symbols-index.is)
    (sym c.is_offer.ensures ∙ c.if-is_offer.true)

pub returns-else-is_offer : goal.returns-else-is_offer
returns-else-is_offer c =
    after_other c.args.self.now c.args.best c.args.index c.index-symbols-index.result c.if-index-self.false
    (at_place c.as_slice-symbols.result.now c.args.self.now.object.now.symbols c.args.index c.index-symbols-index.result c.as_slice-symbols.ensures.value c.if-index-symbols.false c.index-symbols-index.is)
    (sym c.is_offer.ensures ∙ c.if-is_offer.false)
