-- How the keeper and a hart that calls pass entries. For the code of this crate alone.
use Rattle.std.specs.Prelude.{◌≡◌, ◌⊎◌, ℕ, ◌+◌, ◌≤◌, ◌<◌, true, false, List, [], ◌∷◌, ◌++◌, length, drop, None, Some, Contains}
use Rattle.word_rule.specs.declared.entry.Entry.{Entry}
use Rattle.word_rule.specs.declared.entry.Grant.{Grant}
use Rattle.word_rule.specs.declared.view.HartView.{HartView}
use Rattle.word_rule.specs.declared.view.KeeperView.{KeeperView}
use Rattle.word_rule.specs.declared.view.TrailItem.TheVariants.{Took}
use Rattle.word_rule.specs.Views.{BeginsWith, known_of, row_of}
use Rattle.history_event.specs.declared.event.Event.{Event}
use Rattle.slot_bind.specs.Rows.{IsWaiting, full_offer, handed_over}
use Rattle.word_steps.specs.Knowing.{counted}
use Rattle.history_state.specs.Setting.{Setting}
use Rattle.history_calls.specs.Laws.{hart_of}
use Rattle.link_state.specs.Table.{LinkTable}
use Rattle.hart_moves.specs.Moves.{AreAllowed}
use Rattle.hart_trails.specs.Entries.{entry_behind}
use Rattle.hart_trails.specs.Trails.{took_behind}
use Rattle.link_keeper.specs.Entering.{AreQuiet}
use Rattle.link_keeper.specs.Keeping.{KeepsView, WasOver}

-- what a hart knows to be issued to it is what was
abbrev pub InStep : KeeperView → HartView → Type 0
InStep k h = known_of h.lane ≡ (row_of k h.number).issued

-- the hart is known to call, since a count that isn't above the one now, and its last grant is settled
pub record MayPass (k : KeeperView) (m : ℕ) : Type 0 where
  pub waits : IsWaiting k m
  pub counted : waits.0 ≤ length k.events

-- a hart that calls, and has read nothing of its row yet
pub record IsCalling (h : HartView) : Type 0 where
  pub calling : h.lane.calling ≡ true
  pub fresh : h.lane.offer ≡ None
  pub untried : h.lane.tried ≡ None

-- the entry of the next event
pub record IsNextEntry (k : KeeperView) (e : Entry) : Type 0 where
  pub mark : e.mark ≡ 1
  pub number : e.number ≡ length k.events + 1
  pub generation : e.generation ≤ k.generation

-- an entry that is no event's
pub record IsNoEvents (k : KeeperView) (e : Entry) : Type 0 where
  pub mark : (e.mark ≡ 2) ⊎ (e.mark ≡ 6)
  pub number : e.number ≡ length k.events
  pub generation : e.generation ≤ k.generation
  pub open_rows : e.mark ≡ 6 → e.slot ≡ 3 → (j : ℕ) (g : Grant) → (row_of k j).pending ≡ Some g → (row_of k j).found_open ≡ true

-- the hart took an entry, and knows these events
abbrev pub took : Entry → List Event → HartView → HartView
took e events h = record h {
  heard = events;
  lane = record h.lane { calling = false; found = e.mark; taken = h.lane.taken ++ e ∷ []; offer = None };
  trail = h.trail ++ Took e ∷ [];
}

-- the hart has read the grant in its row, and knows these events
abbrev pub has_read : Grant → List Event → HartView → HartView
has_read g events h = record h {
  heard = events;
  lane = record h.lane { found = g.entry.mark; offer = Some (full_offer g) };
}

-- ---- the events of a turn, one after another

-- those that the journal of the state has more
abbrev pub left_of : LinkTable → KeeperView → List Event
left_of state k = drop (length k.events) state.events

-- they are the hart's, may come, and leave memory; once every hart has ended by exit, it is the first one
pub record AreLeft (w : Setting) (state : LinkTable) (k : KeeperView) (h : ℕ) : Type 0 where
  pub ahead : BeginsWith state.events k.events
  pub quiet : AreQuiet (left_of state k)
  pub of : (e : Event) → Contains (left_of state k) e → hart_of e ≡ Some h
  pub may : AreAllowed w k.events (left_of state k)
  pub alone : (front rest : List Event) (e : Event) → left_of state k ≡ front ++ e ∷ rest → WasOver w (k.events ++ front) → h ≡ 0

-- a hart has its entries so far and isn't calling, while some may be left
pub record IsPassing (w : Setting) (begun : List Event) (state : LinkTable) (k : KeeperView) (h : HartView) (id : ℕ) : Type 0 where
  pub view : KeepsView w begun k
  pub left : AreLeft w state k id
  pub low : id < w.machine.harts
  pub number : id ≡ h.number
  pub step : InStep k h
  pub heard : h.heard ≡ k.events
  pub idle : h.lane.calling ≡ false
  pub settled : (row_of k id).pending ≡ None

-- it got entries of these events: none is an answer on thread-local storage
pub record HasPassed (own : List Event) (k l : KeeperView) (h i : HartView) : Type 0 where
  pub events : l.events ≡ k.events ++ own
  pub number : i.number ≡ h.number
  pub trail : i.trail ≡ h.trail ++ took_behind k.events own
  pub tried : i.lane.tried ≡ h.lane.tried
  pub opens : l.opens ≡ k.opens
  pub pending : (m : ℕ) → (row_of l m).pending ≡ (row_of k m).pending
  pub entries : List Entry
  pub known : known_of i.lane ≡ known_of h.lane ++ entries
  pub plain : (e : Entry) → Contains entries e → (e.mark ≡ 1) × (e.slot ≡ 0) × (e.number ≤ length l.events)

-- the next event is counted, and a hart that calls got its entry
pub record PassesNext (id : ℕ) (e : Event) (k l : KeeperView) (h i : HartView) : Type 0 where
  pub keeper : l ≡ handed_over id (entry_behind k.events e) (counted e k)
  pub seat : i ≡ took (entry_behind k.events e) l.events h
  pub step : InStep l i

-- it is there, and may be passed
pub record IsNext (state : LinkTable) (k : KeeperView) (e : Event) (rest : List Event) : Type 0 where
  pub ahead : state.events ≡ k.events ++ e ∷ rest
  pub quiet : AreQuiet rest
  pub entry : IsNextEntry k (entry_behind k.events e)
