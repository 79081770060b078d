-- Which event may come next in the journal of a linker that isn't told what each call was given.
use Rattle.std.specs.Prelude.{◌≡◌, ℕ, List}
use Rattle.elf_object.specs.Verdict.{object_verdict}
use Rattle.history_event.specs.declared.event.Event.{Event}
use Rattle.history_state.specs.Allowed.{Allowed}
use Rattle.history_state.specs.Setting.{Machine, Setting}

-- what contracts see of a journal: the number of harts, the events, and how many further ones there is room for, besides those that are owed
pub record LawfulEvents : Type 0 where
  pub harts : ℕ
  pub events : List Event
  pub spare : ℕ

-- so many harts, over objects as they are read of a file
abbrev pub machine_of : ℕ → Machine
machine_of harts = record { harts = harts; verdict = object_verdict }

-- the event may come next: by some folders, names and files that the machine was given
pub record MayFollow (harts : ℕ) (past : List Event) (e : Event) : Type 0 where
  pub setting : Setting
  pub machine : setting.machine ≡ machine_of harts
  pub may : Allowed setting past e
