-- The linker's lists are those of the state after its journal.
use Rattle.std.specs.Prelude.{◌≡◌, ℕ, ◌-◌, ◌^◌, ◌≤◌, not, Bool, List, filter, length, map, Contains}
use Rattle.close_mark.specs.ClosingPlans.Plans.{IsRoomy}
use Rattle.link_lists.specs.HeldEdgesPart.Roomy.{EdgesWithRoom}
use Rattle.link_images.specs.Parts.{PartsWithRoom, part_of}
use Rattle.link_lists.specs.LateBlocksPart.Blocks.{BlockList}
use Rattle.history_event.specs.declared.event.Range.{Range}
use Rattle.history_event.specs.declared.state.Block.{Block}
use Rattle.history_event.specs.declared.state.Closing.{Closing}
use Rattle.history_event.specs.declared.state.Granting.{Granting}
use Rattle.history_event.specs.declared.state.Module.{Module}
use Rattle.history_graph.specs.declared.graph.Edge.{Edge}
use Rattle.history_journal.specs.LinkHarts.Kept.{KeptTable}
use Rattle.history_state.specs.Grants.{is_open}
use Rattle.history_state.specs.Laws.{HasAll}
use Rattle.history_state.specs.Links.{held_edges}
use Rattle.history_state.specs.Objects.{has, is_startup, mapped, serial_of, startup_serials}
use Rattle.history_state.specs.State.{Linked, State, Statics}
use Rattle.link_lists.specs.LinkPending.Pending.{GrantTable, SerialsWithRoom}
use Rattle.link_lists.specs.LoadRecordPart.Loads.{LoadTable, is_first}
use Rattle.link_spaces.specs.PendingClosingsPart.Pending.{PendingClosing, PendingList, closing_of}
use Rattle.link_spaces.specs.ReservedPagesPart.Laid.{RangeList}
use Rattle.scope_rule.specs.declared.namespace.Namespace.{Namespace}
use Rattle.tls_blocks.specs.Numbers.{ModuleTable}

-- the lists beside the journal
pub record Lists : Type 0 where
  pub kept : KeptTable
  pub settling : GrantTable
  pub unfinished : SerialsWithRoom
  pub namespaces : List Namespace
  pub reserved : RangeList
  pub modules : ModuleTable
  pub blocks : BlockList
  pub parts : PartsWithRoom
  pub edges : EdgesWithRoom
  pub closings : PendingList
  pub loads : LoadTable

-- what is kept of grants and objects, with room for each object that is still to be initialised
pub record Runs (grants : List Granting) (next : ℕ) (inits finis : List ℕ) (namespaces : List Namespace) (settling : GrantTable) (unfinished : SerialsWithRoom)
    (held : List Namespace) : Type 0 where
  pub opens : settling.grants ≡ filter is_open grants
  pub count : settling.count ≡ length grants
  pub serials : unfinished.serials ≡ filter (λ o. not (has finis o)) inits
  pub room : next - 1 - length inits ≤ unfinished.room
  pub spaces : held ≡ namespaces

-- what is kept of memory
pub record Maps (laid : List Range) (numbered : List Module) (statics : Statics) (changes : ℕ) (got : List Block) (images : List Linked) (reserved : RangeList)
    (table : ModuleTable) (late : BlockList) (read : PartsWithRoom) : Type 0 where
  pub ranges : reserved.ranges ≡ laid
  pub modules : table.modules ≡ numbered
  pub size : table.size ≡ statics.size
  pub tp : table.tp ≡ statics.tp
  pub generation : table.generation ≡ changes
  pub blocks : late.blocks ≡ got
  pub parts : read.parts ≡ map part_of images

-- what keeps objects mapped, with room for an edge of each grant that is still to be settled; and what waits to be unmapped
pub record Keeps (held : List Edge) (grants : List Granting) (serials : List ℕ) (laid : List Range)
    (waiting : List Closing) (edges : EdgesWithRoom) (pending : PendingList) : Type 0 where
  pub every : HasAll edges.edges held
  pub only : HasAll held edges.edges
  pub room : length (filter is_open grants) ≤ edges.room
  pub closings : map closing_of pending.closings ≡ waiting
  pub roomy : (p : PendingClosing) → Contains pending.closings p → IsRoomy serials laid p

-- what is kept of openings; serials are few enough to count the modules that come and go
pub record Opens (now : Bool) (number : ℕ) (first_loaded stay : List ℕ) (begins : Bool) (loads : LoadTable) : Type 0 where
  pub binds : loads.binds ≡ now
  pub next : loads.next ≡ number
  pub few : number ≤ 2 ^ 63
  pub startup : loads.startup ≡ first_loaded
  pub pinned : loads.pinned ≡ stay
  pub first : is_first loads ≡ begins

pub record HoldsAll (s : State) (l : Lists) : Type 0 where
  pub faults : l.kept.kept ≡ s.kept
  pub running : Runs s.grants s.next s.inits s.finis s.namespaces l.settling l.unfinished l.namespaces
  pub memory : Maps s.ranges s.modules s.statics s.generation s.blocks s.images l.reserved l.modules l.blocks l.parts
  pub keeping : Keeps (held_edges s) s.grants (map serial_of (mapped s)) s.ranges s.closings l.edges l.closings
  pub opening : Opens s.now s.next (startup_serials s) s.pinned (is_startup s) l.loads
