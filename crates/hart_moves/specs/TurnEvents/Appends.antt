-- What the events of a turn come to: they unmap objects, end the hart, or do neither.
use Rattle.std.specs.Prelude.{◌≡◌, ℕ, Bool, true, false, List, [], ◌∷◌, ◌++◌, Some, IsTrue}
use Rattle.std.specs.List.{AllByRecursion, list_any}
use Rattle.history_event.specs.declared.event.Event.{Event}
use Rattle.history_event.specs.declared.event.Event.TheVariants.{Ended, Unmapped}
use Rattle.history_event.specs.declared.hart_end.HartEnd.{HartEnd}
use Rattle.history_event.specs.declared.hart_end.HartEnd.TheVariants.{Exit}
use Rattle.history_state.specs.After.{after}
use Rattle.hart_moves.specs.Harts.{Frame, HartState, Purpose}
use Rattle.hart_moves.specs.Moves.{Did, all_finis, events_of}

-- ---- events

-- an event that takes no object away and ends no hart
abbrev pub neither_ends_nor_unmaps : Event → Bool
neither_ends_nor_unmaps e = elim e [ Unmapped hart set ↦ false | Ended hart reason ↦ false | _ ↦ true ]

abbrev pub NoneEndsOrUnmaps : List Event → Type 0
NoneEndsOrUnmaps events = AllByRecursion (λ e. neither_ends_nor_unmaps e ≡ true) events

-- ---- the final destructors

abbrev pub is_of_end : Purpose → Bool
is_of_end purpose = elim purpose [ Purpose.of_end code ↦ true | _ ↦ false ]

abbrev pub is_final_frame : Frame → Bool
is_final_frame frame = is_of_end frame.purpose

-- the linker has the hart run destructors of the run's end
abbrev pub has_finals : List Frame → Bool
has_finals frames = list_any is_final_frame frames

-- ---- a turn

-- an unmapping is alone in its turn, and an end stands last. A hart ends without an event only by the last of the final destructors
pub data Appends (past : List Event) (h : ℕ) (b : HartState) (did : Did) (c : HartState) : Type 0 where
  no_end : NoneEndsOrUnmaps (events_of did) → c.«end» ≡ b.«end» → Appends past h b did c
  unmapping : (set : List ℕ) → events_of did ≡ Unmapped h set ∷ [] → c.«end» ≡ b.«end» → Appends past h b did c
  an_end : (front : List Event) (reason : HartEnd) → NoneEndsOrUnmaps front → events_of did ≡ front ++ Ended h reason ∷ [] → c.«end» ≡ Some reason
      → Appends past h b did c
  after_finals : (code : ℕ) → NoneEndsOrUnmaps (events_of did) → IsTrue (has_finals b.frames) → c.«end» ≡ Some (Exit code)
      → all_finis (after (past ++ events_of did)) ≡ [] → Appends past h b did c
