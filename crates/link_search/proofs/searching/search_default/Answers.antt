use Rattle.scope_rule.specs.Seen.{seen}
use Rattle.history_state.specs.Objects.{has_id}
use Rattle.link_search.proofs.Searched.{its_tables}
use Rattle.link_search.proofs.searching.search_default.Goals as goal

pub lookup_global-requires : goal.lookup_global-requires
lookup_global-requires c = record {
  tables = its_tables c.args.namespaces.now (has_id c.args.ask.now.ns) c.in-Some.namespace.now (seen c.view-view.result) c.requires.tables c.in-Some.ensures c.view-view.ensures;
}
