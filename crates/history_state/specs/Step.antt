-- What each event makes of the state: an equation an event.
use Rattle.std.specs.Prelude.{ℕ, ◌+◌, ◌-◌, Bool, false, not, ◌&&◌, ◌||◌, ◌==◌, if◌then◌else◌, List, [], ◌∷◌, ◌++◌, length, map, filter, find, Some, None}
use Rattle.std.specs.List.{list_any}
use Rattle.std.specs.Str.{bytes_eq}
use Rattle.std.specs.Option.{is_some, option_map_or, option_and_then}
use Rattle.ld_base.specs.declared.fault.DlFault.{DlFault}
use Rattle.ld_base.specs.declared.linking.Choice.{Choice}
use Rattle.ld_base.specs.declared.linking.Loaded.{Loaded}
use Rattle.ld_base.specs.declared.linking.State.TheVariants as states
use Rattle.ld_base.specs.declared.object.TlsSeg.{TlsSeg}
use Rattle.history_event.specs.declared.event.CloseAnswer.{CloseAnswer}
use Rattle.history_event.specs.declared.event.CloseAnswer.TheVariants as closes
use Rattle.history_event.specs.declared.event.Event.{Event}
use Rattle.history_event.specs.declared.event.Event.TheVariants as events
use Rattle.history_event.specs.declared.event.OpenAnswer.{OpenAnswer}
use Rattle.history_event.specs.declared.event.OpenAnswer.TheVariants as opens
use Rattle.history_event.specs.declared.event.OpenAsk.{OpenAsk}
use Rattle.history_event.specs.declared.event.Purpose.{Purpose}
use Rattle.history_event.specs.declared.event.Purpose.TheVariants as purposes
use Rattle.history_event.specs.declared.event.Range.{Range}
use Rattle.history_event.specs.declared.event.SymAnswer.{SymAnswer}
use Rattle.history_event.specs.declared.event.SymAnswer.TheVariants as syms
use Rattle.history_event.specs.declared.hart_end.HartEnd.{HartEnd}
use Rattle.history_event.specs.declared.state.Closing.{Closing}
use Rattle.history_event.specs.declared.state.Granting.{Granting}
use Rattle.history_event.specs.declared.state.Loading.{Loading}
use Rattle.history_event.specs.declared.state.Standing.{Standing}
use Rattle.history_event.specs.declared.state.Standing.TheVariants as standings
use Rattle.scope_rule.specs.Opening.{opened}
use Rattle.scope_rule.specs.Seen.{Seen, seen_in}
use Rattle.scope_rule.specs.declared.namespace.Namespace.{Namespace}
use Rattle.scope_rule.specs.declared.namespace.OpenRec.{OpenRec}
use Rattle.history_state.specs.State.{State, empty_namespace}
use Rattle.history_state.specs.Objects.{has, has_id, is_startup, object_at, serial_of}
use Rattle.history_state.specs.Grants.{is_open}
use Rattle.history_state.specs.Flags.{is_global, is_nodelete, is_now}
use Rattle.history_state.specs.Bound.{chosen_of, linked_with, uncopied}
use Rattle.history_state.specs.Storage.{block_pages, residue, statics_with, with_modules}

-- ---- an opening

-- the namespace with a number is changed; where there is none, a new one follows
abbrev pub changed_at : ℕ → (Namespace → Namespace) → Namespace → Namespace
changed_at id change ns = if has_id id ns then change ns else ns

abbrev pub with_namespace : ℕ → (Namespace → Namespace) → List Namespace → List Namespace
with_namespace id change all =
    if list_any (has_id id) all then map (changed_at id change) all else all ++ change (empty_namespace id) ∷ []

-- the namespace as it is before the opening, a new one being empty
abbrev pub namespace_before : State → ℕ → Namespace
namespace_before s id = elim (find (has_id id) s.namespaces) [ Some ns ↦ ns | None ↦ empty_namespace id ]

-- what searches see of it after the opening
abbrev pub seen_after : State → OpenAsk → ℕ → ℕ → List Loaded → Seen
seen_after s ask id root added = seen_in (opened (namespace_before s id) added root (is_global ask.flags))

abbrev pub loading_of : ℕ → List Loaded → List Loading
loading_of hart [] = []
loading_of hart (o ∷ rest) = record { hart = hart; serials = map serial_of (o ∷ rest) } ∷ []

-- what stays mapped from this opening on, where it doesn't already
abbrev pub pinned_by : List ℕ → ℕ → ℕ → List ℕ
pinned_by pinned flags root = if is_nodelete flags && not (has pinned root) then root ∷ [] else []

-- slots are bound at load in the whole run, where startup's opening asks for it
abbrev pub now_after : State → OpenAsk → Bool
now_after s ask = if is_startup s then is_now ask.flags else s.now

abbrev pub has_module : Loaded → Bool
has_module o = is_some o.«module»

-- the new objects stand in their namespace, with their ranges and modules
unfoldable pub loaded : State → ℕ → OpenAsk → ℕ → ℕ → List Loaded → List Range → State
loaded s hart ask id root added ranges = record s {
  now = now_after s ask;
  namespaces = with_namespace id (λ ns. opened ns added root (is_global ask.flags)) s.namespaces;
  next = s.next + length added;
  ranges = s.ranges ++ ranges;
  modules = with_modules added s.modules;
  statics = if is_startup s then statics_with added s.statics else s.statics;
  generation = s.generation + length (filter has_module added);
  loadings = s.loadings ++ loading_of hart added;
  pinned = s.pinned ++ pinned_by s.pinned ask.flags root;
}

-- slots are bound when this opening's objects are loaded
abbrev pub binds : State → OpenAsk → Bool
binds s ask = now_after s ask || is_now ask.flags

-- what the new objects choose, and their images, are made in the state with them in it
abbrev pub linked : Seen → Bool → List Loaded → State → State
linked ns now added s = record s {
  chosen = s.chosen ++ map (chosen_of s ns now) added;
  images = s.images ++ linked_with s.images (map (uncopied s ns now) added);
}

abbrev pub open_done : State → ℕ → OpenAsk → ℕ → ℕ → List Loaded → List Range → State
open_done s hart ask id root added ranges =
    linked (seen_after s ask id root added) (binds s ask) added (loaded s hart ask id root added ranges)

-- ---- a refusal that is kept, and told

abbrev pub keep : ℕ → DlFault → State → State
keep hart fault s = record s { kept = filter (λ k. not (k.hart == hart)) s.kept ++ record { hart = hart; fault = fault } ∷ [] }

abbrev pub tell : ℕ → State → State
tell hart s = record s { kept = filter (λ k. not (k.hart == hart)) s.kept }

-- ---- a closing

-- one opening less of the root; one that isn't counted any more goes
abbrev pub lowered_open : ℕ → OpenRec → OpenRec
lowered_open handle r = if r.root == handle then record r { count = r.count - 1 } else r

abbrev pub lowered_in : ℕ → Namespace → Namespace
lowered_in handle ns = record ns { opens = filter (λ r. not (r.count == 0)) (map (lowered_open handle) ns.opens) }

unfoldable pub lower : ℕ → State → State
lower handle s = record s { namespaces = map (lowered_in handle) s.namespaces }

-- objects of the set are dying by the hart, and global no more
abbrev pub dying_object : ℕ → List ℕ → Loaded → Loaded
dying_object hart set o = if has set o.serial then record o { state = states.Dying hart } else o

abbrev pub dying_in : ℕ → List ℕ → Namespace → Namespace
dying_in hart set ns = record ns {
  objects = map (dying_object hart set) ns.objects;
  global = filter (λ d. not (has set d)) ns.global;
}

-- a closing waits for its objects, where it has some
abbrev pub closing_of : ℕ → List ℕ → List Closing
closing_of hart [] = []
closing_of hart (d ∷ rest) = record { hart = hart; set = d ∷ rest } ∷ []

unfoldable pub die : ℕ → List ℕ → State → State
die hart set s = record s {
  namespaces = map (dying_in hart set) s.namespaces;
  closings = s.closings ++ closing_of hart set;
}

-- ---- an unmapping

abbrev pub gone_in : List ℕ → Namespace → Namespace
gone_in set ns = record ns { objects = filter (λ o. not (has set o.serial)) ns.objects }

-- a namespace but the base ends with its last object
abbrev pub is_left : Namespace → Bool
is_left ns = ns.id == 0 || not (length ns.objects == 0)

-- an object's pages and its blocks go with it
abbrev pub purpose_goes : List ℕ → Purpose → Bool
purpose_goes set (purposes.Object serial) = has set serial
purpose_goes set (purposes.Stack hart) = false
purpose_goes set (purposes.StaticTls hart) = false
purpose_goes set (purposes.Block hart serial) = has set serial

abbrev pub goes_with : List ℕ → Range → Bool
goes_with set r = purpose_goes set r.purpose

abbrev pub is_closing : ℕ → List ℕ → Closing → Bool
is_closing hart set c = c.hart == hart && bytes_eq c.set set

unfoldable pub unmap : ℕ → List ℕ → State → State
unmap hart set s = record s {
  namespaces = filter is_left (map (gone_in set) s.namespaces);
  ranges = filter (λ r. not (goes_with set r)) s.ranges;
  modules = filter (λ m. not (has set m.serial)) s.modules;
  generation = s.generation + length (filter (λ m. has set m.serial) s.modules);
  blocks = filter (λ b. not (has set b.serial)) s.blocks;
  chosen = filter (λ c. not (has set c.owner)) s.chosen;
  images = filter (λ m. not (has set m.serial)) s.images;
  closings = filter (λ c. not (is_closing hart set c)) s.closings;
}

-- ---- grants

abbrev pub grant : ℕ → ℕ → ℕ → ℕ → Choice → ℕ → State → State
grant number hart owner slot choice value s = record s {
  grants = s.grants ++ record { number = number; hart = hart; owner = owner; slot = slot; choice = choice; value = value; standing = standings.Open } ∷ [];
}

-- an open grant with this number is settled
abbrev pub settled_as : ℕ → Standing → Granting → Granting
settled_as number standing g = if g.number == number && is_open g then record g { standing = standing } else g

abbrev pub settle : ℕ → Standing → State → State
settle number standing s = record s { grants = map (settled_as number standing) s.grants }

-- ---- blocks, constructors, destructors, ends

-- the pages of a block that stands at an address
abbrev pub block_range : ℕ → ℕ → ℕ → TlsSeg → Range
block_range hart serial a seg = record { address = a - residue seg; pages = block_pages seg; purpose = purposes.Block hart serial }

abbrev pub block_ranges : State → ℕ → ℕ → ℕ → List Range
block_ranges s hart serial a = option_map_or (λ seg. block_range hart serial a seg ∷ []) (option_and_then (λ o. o.object.tls) (object_at s serial)) []

abbrev pub add_block : ℕ → ℕ → ℕ → State → State
add_block hart serial a s = record s {
  blocks = s.blocks ++ record { hart = hart; serial = serial; address = a } ∷ [];
  ranges = s.ranges ++ block_ranges s hart serial a;
}

-- an object that was being initialised is ready
abbrev pub ready_state : Loaded → Loaded
ready_state o = elim o.state [ states.Initialising hart ↦ record o { state = states.Ready } | other ↦ o ]

abbrev pub ready_object : ℕ → Loaded → Loaded
ready_object serial o = if o.serial == serial then ready_state o else o

abbrev pub ready_in : ℕ → Namespace → Namespace
ready_in serial ns = record ns { objects = map (ready_object serial) ns.objects }

unfoldable pub initialise : ℕ → State → State
initialise serial s = record s { namespaces = map (ready_in serial) s.namespaces; inits = s.inits ++ serial ∷ [] }

abbrev pub finalise : ℕ → State → State
finalise serial s = record s { finis = s.finis ++ serial ∷ [] }

abbrev pub end_hart : ℕ → HartEnd → State → State
end_hart hart reason s = record s { endings = s.endings ++ record { hart = hart; «end» = reason } ∷ [] }

-- ---- events

abbrev pub open_step : State → ℕ → OpenAsk → OpenAnswer → State
open_step s hart ask (opens.Done id root added ranges) = open_done s hart ask id root added ranges
open_step s hart ask opens.Absent = s
open_step s hart ask (opens.Refused fault) = keep hart fault s

abbrev pub close_step : State → ℕ → ℕ → CloseAnswer → State
close_step s hart handle (closes.Done set) = die hart set (lower handle s)
close_step s hart handle (closes.Refused fault) = keep hart fault s

abbrev pub sym_step : State → ℕ → SymAnswer → State
sym_step s hart (syms.Found serial index value) = s
sym_step s hart (syms.Refused fault) = keep hart fault s

abbrev pub step : State → Event → State
step s (events.Open hart ask answer) = open_step s hart ask answer
step s (events.Close hart handle answer) = close_step s hart handle answer
step s (events.Unmapped hart set) = unmap hart set s
step s (events.Grant number hart owner slot choice value) = grant number hart owner slot choice value s
step s (events.Bound number) = settle number standings.Bound s
step s (events.Lost number saw) = settle number (standings.Lost saw) s
step s (events.Unresolved hart owner slot choice) = s
step s (events.Sym hart ask answer) = sym_step s hart answer
step s (events.Tls hart owner address) = add_block hart owner address s
step s (events.Init hart object) = initialise object s
step s (events.Fini hart object) = finalise object s
step s (events.Wrote hart bytes) = s
step s (events.Told hart fault) = tell hart s
step s (events.Ended hart reason) = end_hart hart reason s
