use Rattle.std.proofs.Common.{◌≡◌, ◌∙◌, get_or, ap}
use Rattle.ld_base.specs.declared.object.Symbol.{Symbol}
use Rattle.sym_lookup.specs.References.{Referring}
use Rattle.sym_lookup.proofs.Searches.{symbol_choice}
use Rattle.sym_lookup.proofs.searching.Searching.search.Goals as goal

pub returns : goal.returns
returns c =
    let r : Referring = c.args.self.now in
    let symbol : Symbol = c.index-as_slice-index.result in
    let here : symbol ≡ get_or c.as_slice.result.now c.args.index symbol = c.index-as_slice-index.is in
    symbol_choice r.seen r.owner c.args.index symbol c.args.copy c.search_for.result c.requires
    (here ∙ ap (λ symbols. get_or symbols c.args.index symbol) (c.as_slice.ensures.value ∙ ap (λ (x : Referring). x.owner.object.symbols) c.self.view_is)) c.search_for.ensures
