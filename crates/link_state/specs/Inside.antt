-- The lists of the linker's state.
use Rattle.link_state.specs.declared.state.LinkState.TheInside.{Inside}
use Rattle.link_holds.specs.Holding.{Lists}

abbrev pub lists_of : Inside → Lists
lists_of x = record {
  kept = x.kept;
  settling = x.settling;
  unfinished = x.unfinished;
  namespaces = x.namespaces;
  reserved = x.reserved;
  modules = x.modules;
  blocks = x.blocks;
  parts = x.parts;
  edges = x.edges;
  closings = x.closings;
  loads = x.loads;
}
