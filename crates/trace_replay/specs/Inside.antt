-- The lists of the tables.
use Rattle.trace_replay.specs.Lists.{Lists}
use Rattle.trace_replay.specs.declared.tables.Tables.{Tables}

abbrev pub lists_of : Tables → Lists
lists_of t = record {
  harts = t.harts;
  begins = t.begins;
  binds = t.binds;
  namespaces = t.namespaces.items;
  next = t.next;
  ranges = t.reserved.ranges;
  modules = t.modules.modules;
  statics = record { size = t.modules.size; tp = t.modules.tp };
  generation = t.modules.generation;
  blocks = t.blocks.blocks;
  grants = t.grants;
  startup = t.startup.items;
  chosen = t.chosen.items;
  pinned = t.pinned.items;
  closings = t.closings.items;
  unfinished = t.unfinished.items;
  kept = t.kept.kept;
  endings = t.endings.items;
  starting = t.starting.items;
  heads = t.heads.items;
}
