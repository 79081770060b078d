-- Events that may follow one after another in the journal of a linker that isn't told what each call was given.
use Rattle.std.specs.Prelude.{◌≡◌, ℕ, List}
use Rattle.history_event.specs.declared.event.Event.{Event}
use Rattle.history_state.specs.Setting.{Setting}
use Rattle.history_journal.specs.Following.{machine_of}
use Rattle.hart_moves.specs.Moves.{AreAllowed}

-- by some folders, names and files that the machine was given
pub record MayFollowAll (harts : ℕ) (past more : List Event) : Type 0 where
  pub setting : Setting
  pub machine : setting.machine ≡ machine_of harts
  pub may : AreAllowed setting past more
