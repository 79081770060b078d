-- A hart's turn under the lock, from the moment at which it calls. For the code of this crate alone.
use Rattle.std.specs.Prelude.{◌≡◌, ℕ, ◌<◌, true, List, ◌++◌, Some, None, IsSome, Contains}
use Rattle.history_event.specs.declared.event.Event.{Event}
use Rattle.word_rule.specs.declared.entry.Entry.{Entry}
use Rattle.word_rule.specs.declared.view.HartView.{HartView}
use Rattle.word_rule.specs.declared.view.KeeperView.{KeeperView}
use Rattle.word_rule.specs.declared.view.TrailItem.{TrailItem}
use Rattle.history_state.specs.After.{after}
use Rattle.history_state.specs.Setting.{Setting}
use Rattle.history_calls.specs.Laws.{hart_of}
use Rattle.hart_fits.specs.Fits.{HartFits}
use Rattle.hart_linker.specs.Between.{IsAtRow}
use Rattle.hart_moves.specs.Due.{due}
use Rattle.hart_moves.specs.Harts.{HartState}
use Rattle.hart_moves.specs.Moves.{Did, events_of}
use Rattle.hart_moves.specs.Trails.{beside_of}
use Rattle.hart_trails.specs.Owners.{AreNobodys}
use Rattle.hart_trails.specs.Trails.{Leaves, Reads}
use Rattle.link_state.specs.Table.{LinkTable}
use Rattle.tls_blocks.specs.Numbers.{module_at}
use Rattle.world_memory.specs.declared.turn_answers.answered.MemoryChange.{MemoryChange}
use Rattle.world_answers.specs.Openings.{TurnReadsNothing}
use Rattle.link_keeper.specs.Acting.{Acts}
use Rattle.link_keeper.specs.Handing.{IsPassed, is_stored}
use Rattle.link_keeper.specs.declared.acting.Reply.{Reply}

-- a hart that fits what the keeper has counted took its turn over the state, and the keeper has counted none of it yet
pub record IsTaken (w : Setting) (state : LinkTable) (k : KeeperView) (id : ℕ) (b c : HartState) (spare : ℕ) (does : MemoryChange) (answer : Reply)
    : Type 0 where
  pub fits : HartFits w k.events id b
  pub runs : b.«end» ≡ None
  pub acts : Acts w k.events state id b c spare does answer

-- its events are counted, and the hart has what they came to: it stands where it goes on, and its trail has what the turn leaves. Where the first
-- entry is an answer on thread-local storage there is room to keep it, and its module is there
pub record IsHandedOver (w : Setting) (begun : List Event) (k l : KeeperView) (h i : HartView) (id : ℕ) (b c : HartState) (did : Did)
    (spare : ℕ) (first : Entry) : Type 0 where
  pub items : List TrailItem
  pub passed : IsPassed w begun k l h i (events_of did) items first
  pub row : IsAtRow i c.resolving
  pub leaves : (read : List TrailItem) → Reads (after k.events) b read → Leaves k.events b (beside_of k.events id b did) did (read ++ items)
  pub generation : first.generation ≡ (after l.events).generation
  pub room : is_stored first ≡ true → 0 < spare
  pub there : is_stored first ≡ true → IsSome (module_at (after l.events).modules first.slot)

-- ---- what is read for it

-- the turn by which the keeper went from one view to the other needs no file: whichever of the new events are taken as those of nobody that come first, the
-- others being the hart's own, behind them its hart waits still, or calls for no opening, or for one that needs no file
abbrev pub ServedReadsNothing : ℕ → HartState → KeeperView → KeeperView → Type 0
ServedReadsNothing h b k l = (settled own : List Event) → l.events ≡ k.events ++ (settled ++ own) → AreNobodys settled
    → ((e : Event) → Contains own e → hart_of e ≡ Some h) → TurnReadsNothing (after (k.events ++ settled)) (due (after (k.events ++ settled)) b)
