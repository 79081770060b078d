-- The objects of a run, and what their files name.
use Rattle.std.specs.Prelude.{ℕ, ◌==◌, List, [], flat_map, map, Option, Some, None, option_map}
use Rattle.std.specs.List.{find, slice_get}
use Rattle.ld_base.specs.declared.object.Object.{Object}
use Rattle.history_event.specs.declared.event_line.EventLine.{EventLine}
use Rattle.history_event.specs.declared.event_line.EventLine.TheVariants as lines
use Rattle.history_event.specs.declared.event_line.NewLine.{NewLine}
use Rattle.history_event.specs.declared.event_line.OpenLine.{OpenLine}
use Rattle.history_event.specs.declared.event_line.OpenLine.TheVariants as opens
use Rattle.trace_view.specs.declared.journal.Step.{Step}
use Rattle.trace_view.specs.declared.members.Member.{Member}

-- the first object of a serial
abbrev pub member_of : List Member → ℕ → Option Member
member_of members serial = find (λ m. m.serial == serial) members

-- what its file says, if it was found
abbrev pub object_in : Option Member → Option Object
object_in None = None
object_in (Some member) = member.object

abbrev pub symbol_in : Option Object → ℕ → Option (List ℕ)
symbol_in None index = None
symbol_in (Some object) index = option_map (λ s. s.name) (slice_get object.symbols index)

-- the name of symbol I of object S
unfoldable pub symbol_of : List Member → ℕ → ℕ → Option (List ℕ)
symbol_of members serial index = symbol_in (object_in (member_of members serial)) index

abbrev pub slot_symbol_in : Option Object → ℕ → Option ℕ
slot_symbol_in None slot = None
slot_symbol_in (Some object) slot = option_map (λ r. r.symbol) (slice_get object.plt_relocs slot)

-- the symbol that slot N of object S is for
unfoldable pub slot_symbol_of : List Member → ℕ → ℕ → Option ℕ
slot_symbol_of members owner slot = slot_symbol_in (object_in (member_of members owner)) slot

-- ---- which objects there are

abbrev pub member_for : ℕ → NewLine → Member
member_for ns new = record { serial = new.serial; path = new.path; base = new.base; ns = ns; object = None }

abbrev pub loaded_in : OpenLine → List Member
loaded_in (opens.Done ns root added) = map (member_for ns) added
loaded_in opens.Absent = []
loaded_in (opens.Refused fault) = []

-- the objects that an event loaded
abbrev pub loaded_by : EventLine → List Member
loaded_by (lines.Open hart ask answer) = loaded_in answer
loaded_by other = []

-- the objects that the events loaded, in order; nothing is known of their files yet
abbrev pub members_of : List Step → List Member
members_of steps = flat_map (λ step. loaded_by step.event) steps
