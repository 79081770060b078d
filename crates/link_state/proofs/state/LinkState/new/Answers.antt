use Rattle.std.proofs.Common.{◌∙◌}
use Rattle.link_holds.specs.Lemmas.Held.{holds_first}
use Rattle.link_state.proofs.state.LinkState.new.Goals as goal

pub invariant_of-result : goal.invariant_of-result
invariant_of-result c =
    holds_first c.in_ok-journal.journal.events
    (record {
      kept = c.new-2.result;
      settling = c.new-3.result;
      unfinished = c.new-4.result;
      namespaces = c.new-5.result;
      reserved = c.new-6.result;
      modules = c.new-7.result;
      blocks = c.new-8.result;
      parts = c.new-9.result;
      edges = c.new-10.result;
      closings = c.new-11.result;
      loads = c.new-12.result;
    })
    c.in_ok-journal.ensures.events
    (record {
      kept = c.new-2.ensures;
      grants = c.new-3.ensures.grants;
      count = c.new-3.ensures.count;
      serials = c.new-4.ensures.serials;
      namespaces = c.new-5.ensures ∙ c.in_ok-namespaces.ensures;
      ranges = c.new-6.ensures;
      modules = c.new-7.ensures.modules;
      size = c.new-7.ensures.size;
      tp = c.new-7.ensures.tp;
      generation = c.new-7.ensures.generation;
      blocks = c.new-8.ensures;
      parts = c.new-9.ensures.parts;
      edges = c.new-10.ensures.edges;
      closings = c.new-11.ensures;
      binds = c.new-12.ensures.binds;
      next = c.new-12.ensures.next;
      startup = c.new-12.ensures.startup;
      pinned = c.new-12.ensures.pinned;
    })
