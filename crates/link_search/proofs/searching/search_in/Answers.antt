use Rattle.std.proofs.Common.{◌≡◌, true, false, ℕ, eqb, List, rules, sym, ap, ◌∙◌}
use Rattle.scope_rule.specs.Searching.{in_breadth}
use Rattle.scope_rule.specs.Seen.{seen}
use Rattle.history_state.specs.Lookup.{found_default, is_opened, search as looked_up}
use Rattle.history_state.specs.State.{State}
use Rattle.link_search.proofs.Searched.{by_default, its_tables, no_handle, some_handle}
use Rattle.link_search.proofs.Standing.{if_ok}
use Rattle.link_search.proofs.searching.search_in.Goals as goal

pub returns-then-ask-eq-DEFAULT : goal.returns-then-ask-eq-DEFAULT
returns-then-ask-eq-DEFAULT c =
    let is : eqb c.args.ask.now.handle 0 ≡ true = search rules in
    if_ok c.search_default.result (λ found. (s : State) → s.namespaces ≡ c.args.namespaces.now → found ≡ found_default s c.args.ask.now)
    (λ found. (s : State) → s.namespaces ≡ c.args.namespaces.now → found ≡ looked_up s c.args.ask.now) (λ found here s are. here s are ∙ sym (by_default s c.args.ask.now is)) c.search_default.ensures

pub lookup_breadth-requires : goal.lookup_breadth-requires
lookup_breadth-requires c = record {
  tables = its_tables c.args.namespaces.now (is_opened c.args.ask.now.handle) c.in-Some.namespace.now (seen c.view-view.result) c.requires.tables c.in-Some.ensures c.view-view.ensures;
}

pub returns-in_default : goal.returns-in_default
returns-in_default c = λ s are.
    let isnt : eqb c.args.ask.now.handle 0 ≡ false = search rules in
    no_handle s c.args.namespaces.now c.args.ask.now isnt are c.in_default.ensures

pub returns : goal.returns
returns c = λ s are.
    let isnt : eqb c.args.ask.now.handle 0 ≡ false = search rules in
    some_handle s c.args.namespaces.now c.args.ask.now c.args.want.now c.in-Some.namespace.now (seen c.view-view.result) c.in_ok-lookup_breadth.field-0 isnt are c.in-Some.ensures c.requires.want
    c.view-view.ensures
    (c.in_ok-lookup_breadth.ensures ∙ ap (λ d. in_breadth (seen c.view-view.result) d c.as_bytes.result.now c.args.want.now) c.new-root.ensures
    ∙ ap (λ (name : List ℕ). in_breadth (seen c.view-view.result) c.args.ask.now.handle name c.args.want.now) c.as_bytes.ensures)
