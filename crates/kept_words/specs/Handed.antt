-- What was handed to harts, over the journal. For the keeper, which hands entries out under its lock, and for whoever ties a trail to the journal.
use Rattle.std.specs.Prelude.{◌≡◌, ◌⊎◌, ℕ, ◌+◌, ◌≤◌, ◌<◌, ◌==◌, ◌||◌, Bool, true, false, if◌then◌else◌, List, [], ◌∷◌, ◌++◌, length, map, filter, drop, Some, None, Contains}
use Rattle.std.specs.Option.{option_map_or}
use Rattle.ld_base.specs.declared.fault.Shown.{Shown}
use Rattle.ld_base.specs.declared.linking.Choice.{Choice}
use Rattle.history_event.specs.declared.event.Event.{Event}
use Rattle.history_event.specs.declared.event.Event.TheVariants as events
use Rattle.word_rule.specs.declared.entry.Entry.{Entry}
use Rattle.word_rule.specs.declared.entry.Grant.{Grant}
use Rattle.word_rule.specs.declared.view.KeeperView.{KeeperView}
use Rattle.word_rule.specs.Layout.{harts_at_most}
use Rattle.word_rule.specs.Views.{IsLong, row_of}
use Rattle.word_steps.specs.Knowing.{counted}
use Rattle.slot_bind.specs.Grants.{posted}
use Rattle.slot_bind.specs.Rows.{handed_over}
use Rattle.history_state.specs.After.{after}
use Rattle.history_state.specs.Setting.{Setting}
use Rattle.history_calls.specs.Call.{Call}
use Rattle.history_calls.specs.Laws.{hart_of}
use Rattle.history_calls.specs.Waiting.{Shows}
use Rattle.history_memory.specs.Holds.{IsSlotAt}
use Rattle.hart_moves.specs.Follows.{HasNone}
use Rattle.hart_moves.specs.Trails.{Located, block_of}
use Rattle.hart_trails.specs.Entries.{again_entry, block_entry, entry_behind}
use Rattle.hart_trails.specs.Trails.{is_granting}
use Rattle.hart_trails.specs.Waits.{IsStillShown}

-- ---- events and entries

-- the entry of a grant which stands behind these events: its slot was there
pub record IsGrantEntry (past : List Event) (h number owner slot : ℕ) (choice : Choice) (value : ℕ) (e : Entry) : Type 0 where
  pub mark : e.mark ≡ 3
  pub number_is : e.number ≡ length past + 1
  pub slot_is : IsSlotAt (after past) e.slot owner slot
  pub value_is : e.value ≡ value
  pub generation_is : e.generation ≡ (after (past ++ events.Grant number h owner slot choice value ∷ [])).generation

-- an entry says what stands in the journal at its number: an event of the hart, with what it answers, or a grant of the hart; or what held there:
-- the hart's block of a module, or why its call is to be tried again, be it shown there or to its call before, and so still
pub data IsIssued (w : Setting) (journal : List Event) (h : ℕ) (e : Entry) : Type 0 where
  of_event : (past rest : List Event) (event : Event) → journal ≡ past ++ event ∷ rest → hart_of event ≡ Some h → is_granting event ≡ false
      → e ≡ entry_behind past event → IsIssued w journal h e
  of_grant : (past rest : List Event) (number owner slot value : ℕ) (choice : Choice) → journal ≡ past ++ events.Grant number h owner slot choice value ∷ rest
      → IsGrantEntry past h number owner slot choice value e → IsIssued w journal h e
  of_block : (past rest : List Event) (l : Located) → journal ≡ past ++ rest → block_of (after past) h l.number ≡ Some l → e ≡ block_entry past l
      → IsIssued w journal h e
  of_again : (past rest : List Event) (call : Call) (for : Shown) → journal ≡ past ++ rest → Shows w (after past) h call for → e ≡ again_entry past for
      → IsIssued w journal h e
  of_wait : (past rest : List Event) (for : Shown) → journal ≡ past ++ rest → IsStillShown w past h for → e ≡ again_entry past for → IsIssued w journal h e

-- each entry that a hart was handed
abbrev pub AreIssued : Setting → KeeperView → Type 0
AreIssued w k = (h : ℕ) (e : Entry) → h < harts_at_most → Contains (row_of k h).issued e → IsIssued w k.events h e

-- ---- each hart's events are its entries, in order

-- marks 1 and 3 are of events
abbrev pub is_event_mark : ℕ → Bool
is_event_mark mark = mark == 1 || mark == 3

abbrev pub event_numbers : List Entry → List ℕ
event_numbers entries = map (λ e. e.number) (filter (λ e. is_event_mark e.mark) entries)

abbrev pub is_own : ℕ → Event → Bool
is_own h e = option_map_or (λ k. k == h) (hart_of e) false

-- the numbers of a hart's events in a list whose first one has this number
abbrev pub own_numbers : ℕ → ℕ → List Event → List ℕ
own_numbers h first [] = []
own_numbers h first (e ∷ rest) = if is_own h e then first ∷ own_numbers h (first + 1) rest else own_numbers h (first + 1) rest

-- those that came since the seats were made are the events of what the hart was handed
abbrev pub AreHanded : List Event → KeeperView → Type 0
AreHanded begun k = (h : ℕ) → h < harts_at_most → event_numbers (row_of k h).issued ≡ own_numbers h (length begun + 1) (drop (length begun) k.events)

-- ---- what leaves that so

-- an event of no hart is counted
abbrev pub CountedStays : Type 0
CountedStays = (begun : List Event) (k : KeeperView) (e : Event) → length begun ≤ length k.events → hart_of e ≡ None → AreHanded begun k
    → AreHanded begun (counted e k)

-- an event of a hart is counted, and the hart gets its entry
abbrev pub HandedStays : Type 0
HandedStays = (begun : List Event) (k : KeeperView) (h : ℕ) (e : Event) (entry : Entry) → IsLong k → h < harts_at_most → length begun ≤ length k.events
    → hart_of e ≡ Some h → entry.mark ≡ 1 → entry.number ≡ length k.events + 1 → AreHanded begun k → AreHanded begun (handed_over h entry (counted e k))

-- a grant is counted and posted
abbrev pub PostedHandedStays : Type 0
PostedHandedStays = (begun : List Event) (k : KeeperView) (h : ℕ) (e : Event) (g : Grant) → IsLong k → h < harts_at_most → length begun ≤ length k.events
    → hart_of e ≡ Some h → g.entry.mark ≡ 3 → g.entry.number ≡ length k.events + 1 → AreHanded begun k → AreHanded begun (posted h g (counted e k))

-- an answer without an event is handed over
abbrev pub AnsweredStays : Type 0
AnsweredStays = (begun : List Event) (k : KeeperView) (h : ℕ) (entry : Entry) → IsLong k → h < harts_at_most → (entry.mark ≡ 2) ⊎ (entry.mark ≡ 6)
    → AreHanded begun k → AreHanded begun (handed_over h entry k)

-- ---- what it is for

-- a hart that knows of all that it was handed has no event behind what it has heard
abbrev pub TailHasNone : Type 0
TailHasNone = (begun : List Event) (k : KeeperView) (h heard : ℕ) → h < harts_at_most → length begun ≤ heard → AreHanded begun k
    → ((e : Entry) → Contains (row_of k h).issued e → is_event_mark e.mark ≡ true → e.number ≤ heard) → HasNone k.events h heard (length k.events)

-- what an entry says stays so while the journal grows
abbrev pub IssuedStays : Type 0
IssuedStays = (w : Setting) (journal more : List Event) (h : ℕ) (e : Entry) → IsIssued w journal h e → IsIssued w (journal ++ more) h e
