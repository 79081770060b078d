-- A run on threads that is set up: for the code of this crate alone.
use Rattle.std.specs.Prelude.{◌≡◌, ℕ, List, [], length, map, Contains}
use Rattle.history_event.specs.declared.event.Event.{Event}
use Rattle.history_event.specs.declared.handed.Function.{Function}
use Rattle.history_event.specs.declared.handed.HartEntry.{HartEntry}
use Rattle.history_state.specs.Setting.{Setting}
use Rattle.hart_moves.specs.Harts.{HartState}
use Rattle.hart_moves.specs.Starting.{starting_harts}
use Rattle.kept_words.specs.Kept.{AreKept}
use Rattle.tls_blocks.specs.Blocks.{BlockTable}
use Rattle.word_memory.specs.WordSeats.Making.{new_harts}
use Rattle.word_rule.specs.declared.view.HartView.{HartView}
use Rattle.word_rule.specs.declared.view.KeeperView.{KeeperView}
use Rattle.word_rule.specs.Views.{first_hart, no_row, row_of}

-- the keeper's view behind startup: nothing was handed to a hart, and none was asked or joined
pub record IsSetUp (w : Setting) (begun : List Event) (k : KeeperView) : Type 0 where
  pub kept : AreKept w begun k
  pub events : k.events ≡ begun
  pub rows : (m : ℕ) → row_of k m ≡ no_row
  pub none_joined : k.joined ≡ []
  pub none_open : k.opens ≡ []

-- a hart that has done nothing, and was told of these events
abbrev pub hears : List Event → HartView → HartView
hears events h = record h { heard = events }

abbrev pub told_hart : List Event → ℕ → HartView
told_hart events number = hears events (first_hart number)

-- no block is kept, of no modules
pub record KeepsNone (blocks : BlockTable) : Type 0 where
  pub entries : blocks.entries ≡ []
  pub generation : blocks.generation ≡ 0

-- each hart's seat, the hart and its blocks, in order of number: as startup sets harts off, told of these events
pub record AreSetOff (events : List Event) (fuel : ℕ) (functions : List Function) (entries : List HartEntry) (seats : List HartView) (harts : List HartState)
    (blocks : List BlockTable) : Type 0 where
  pub seats_are : seats ≡ map (hears events) (new_harts (length entries))
  pub harts_are : harts ≡ starting_harts fuel functions entries
  pub keep_none : (b : BlockTable) → Contains blocks b → KeepsNone b
