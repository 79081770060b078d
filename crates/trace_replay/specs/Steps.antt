-- What an event makes of the lists.
use Rattle.std.specs.Prelude.{◌≡◌, ℕ, ◌+◌, ◌-◌, ◌^◌, ◌≤◌, Bool, false, not, ◌==◌, List, [], ◌∷◌, ◌++◌, drop, filter, length, map, if◌then◌else◌, Option, Some}
use Rattle.std.specs.List.{flat_map, slice_get}
use Rattle.std.specs.Option.{option_and_then, option_map_or}
use Rattle.address_space.specs.Pages.{AllFree}
use Rattle.history_event.specs.declared.event.CloseAnswer.{CloseAnswer}
use Rattle.history_event.specs.declared.event.CloseAnswer.TheVariants as closes
use Rattle.history_event.specs.declared.event.Event.{Event}
use Rattle.history_event.specs.declared.event.Event.TheVariants as events
use Rattle.history_event.specs.declared.event.OpenAnswer.{OpenAnswer}
use Rattle.history_event.specs.declared.event.OpenAnswer.TheVariants as opens
use Rattle.history_event.specs.declared.event.Range.{Range}
use Rattle.history_event.specs.declared.event.SymAnswer.{SymAnswer}
use Rattle.history_event.specs.declared.event.SymAnswer.TheVariants as syms
use Rattle.history_event.specs.declared.state.Granting.{Granting}
use Rattle.history_event.specs.declared.state.Kept.{Kept}
use Rattle.history_event.specs.declared.state.Loading.{Loading}
use Rattle.history_event.specs.declared.state.Standing.TheVariants.{Bound, Lost, Open}
use Rattle.history_journal.specs.LinkHarts.Kept.{is_anothers}
use Rattle.history_state.specs.Areas.{free_pages}
use Rattle.history_state.specs.Objects.{has}
use Rattle.history_state.specs.Step.{block_range, closing_of, dying_in, goes_with, gone_in, is_closing, is_left, lowered_in, ready_in, settled_as}
use Rattle.history_state.specs.Storage.{block_pages, residue}
use Rattle.ld_base.specs.declared.fault.DlFault.{DlFault}
use Rattle.ld_base.specs.declared.object.TlsSeg.{TlsSeg}
use Rattle.scope_rule.specs.Loading.{with_serial}
use Rattle.scope_rule.specs.declared.namespace.Namespace.{Namespace}
use Rattle.trace_replay.specs.Lists.{Lists}

-- ---- refusals

abbrev pub kept_of : ℕ → DlFault → List Kept → List Kept
kept_of hart fault kept = filter (is_anothers hart) kept ++ record { hart = hart; fault = fault } ∷ []

abbrev pub kept_of_open : ℕ → OpenAnswer → List Kept → List Kept
kept_of_open hart (opens.Done id root added ranges) kept = kept
kept_of_open hart opens.Absent kept = kept
kept_of_open hart (opens.Refused fault) kept = kept_of hart fault kept

abbrev pub kept_of_sym : ℕ → SymAnswer → List Kept → List Kept
kept_of_sym hart (syms.Found serial index value) kept = kept
kept_of_sym hart (syms.Refused fault) kept = kept_of hart fault kept

-- ---- closing and unmapping

abbrev pub closed : ℕ → ℕ → CloseAnswer → Lists → Lists
closed hart handle (closes.Done set) l = record l {
  namespaces = map (dying_in hart set) (map (lowered_in handle) l.namespaces);
  closings = l.closings ++ closing_of hart set;
}
closed hart handle (closes.Refused fault) l = record l { kept = kept_of hart fault l.kept }

-- without the objects of a set, and without their closing
abbrev pub unmapped : ℕ → List ℕ → Lists → Lists
unmapped hart set l = record l {
  namespaces = filter is_left (map (gone_in set) l.namespaces);
  ranges = filter (λ r. not (goes_with set r)) l.ranges;
  modules = filter (λ m. not (has set m.serial)) l.modules;
  generation = l.generation + length (filter (λ m. has set m.serial) l.modules);
  blocks = filter (λ b. not (has set b.serial)) l.blocks;
  chosen = filter (λ c. not (has set c.owner)) l.chosen;
  closings = filter (λ c. not (is_closing hart set c)) l.closings;
}

-- ---- grants

abbrev pub grants_with : Event → List Granting → List Granting
grants_with (events.Grant number hart owner slot choice value) grants =
    grants ++ record { number = number; hart = hart; owner = owner; slot = slot; choice = choice; value = value; standing = Open } ∷ []
grants_with (events.Bound number) grants = map (settled_as number Bound) grants
grants_with (events.Lost number saw) grants = map (settled_as number (Lost saw)) grants
grants_with other grants = grants

-- ---- blocks

-- the segment of thread-local storage of a mapped object
abbrev pub storage_in : List Namespace → ℕ → Option TlsSeg
storage_in namespaces serial = option_and_then (λ o. o.object.tls) (with_serial (flat_map (λ ns. ns.objects) namespaces) serial)

abbrev pub ranges_for : ℕ → ℕ → ℕ → Option TlsSeg → List Range
ranges_for hart serial a segment = option_map_or (λ seg. block_range hart serial a seg ∷ []) segment []

abbrev pub stored : ℕ → ℕ → ℕ → Lists → Lists
stored hart serial a l = record l {
  ranges = l.ranges ++ ranges_for hart serial a (storage_in l.namespaces serial);
  blocks = l.blocks ++ record { hart = hart; serial = serial; address = a } ∷ [];
}

-- ---- constructors

-- the object is the next of these
abbrev pub starts : ℕ → Loading → Bool
starts object left = option_map_or (λ d. d == object) (slice_get left.serials 0) false

abbrev pub without_first : ℕ → Loading → Loading
without_first object left = if starts object left then record left { serials = drop 1 left.serials } else left

abbrev pub has_some : Loading → Bool
has_some left = not (length left.serials == 0)

-- once an object is initialised, what is left of its loading begins behind it; a loading that has nothing left goes
abbrev pub started : ℕ → List Loading → List Loading
started object starting = filter has_some (map (without_first object) starting)

abbrev pub initialised : ℕ → Lists → Lists
initialised object l = record l {
  namespaces = map (ready_in object) l.namespaces;
  unfinished = l.unfinished ++ object ∷ [];
  starting = started object l.starting;
}

-- ---- events that bring no object

abbrev pub stepped : Event → Lists → Lists
stepped (events.Open hart ask answer) l = record l { kept = kept_of_open hart answer l.kept }
stepped (events.Close hart handle answer) l = closed hart handle answer l
stepped (events.Unmapped hart set) l = unmapped hart set l
stepped (events.Grant number hart owner slot choice value) l = record l { grants = grants_with (events.Grant number hart owner slot choice value) l.grants }
stepped (events.Bound number) l = record l { grants = grants_with (events.Bound number) l.grants }
stepped (events.Lost number saw) l = record l { grants = grants_with (events.Lost number saw) l.grants }
stepped (events.Unresolved hart owner slot choice) l = l
stepped (events.Sym hart ask answer) l = record l { kept = kept_of_sym hart answer l.kept }
stepped (events.Tls hart owner a) l = stored hart owner a l
stepped (events.Init hart object) l = initialised object l
stepped (events.Fini hart object) l = record l { unfinished = filter (λ d. not (d == object)) l.unfinished }
stepped (events.Wrote hart bytes) l = l
stepped (events.Told hart fault) l = record l { kept = filter (is_anothers hart) l.kept }
stepped (events.Ended hart reason) l = record l { endings = l.endings ++ record { hart = hart; «end» = reason } ∷ [] }

-- ---- what they ask for

-- the pages of a block are free
pub record HasPages (l : Lists) (a : ℕ) (seg : TlsSeg) : Type 0 where
  pub align : seg.align ≤ 2 ^ 20
  pub memory : seg.memsz ≤ 2 ^ 20
  pub stands : residue seg ≤ a
  pub free : AllFree (free_pages l.ranges) (a - residue seg) (block_pages seg)

abbrev pub IsNumberedNext : Event → List Granting → Type 0
IsNumberedNext (events.Grant number hart owner slot choice value) grants = number ≡ length grants + 1
IsNumberedNext other grants = Unit {0}

-- a grant has the next number, and a block its pages
abbrev pub IsReady : Event → Lists → Type 0
IsReady (events.Grant number hart owner slot choice value) l = IsNumberedNext (events.Grant number hart owner slot choice value) l.grants
IsReady (events.Tls hart owner a) l = (seg : TlsSeg) → storage_in l.namespaces owner ≡ Some seg → HasPages l a seg
IsReady other l = Unit {0}
