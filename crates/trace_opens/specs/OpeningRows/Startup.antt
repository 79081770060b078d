-- Startup's opening behind other events. For the code of this crate alone.
use Rattle.std.specs.Prelude.{◌≡◌, ℕ, ◌↔◌, List, [], Option, IsTrue}
use Rattle.history_event.specs.declared.event.Event.{Event}
use Rattle.history_event.specs.declared.event.Event.TheVariants.{Open}
use Rattle.history_event.specs.declared.event.OpenAnswer.{OpenAnswer}
use Rattle.history_event.specs.declared.event.OpenAsk.{OpenAsk}
use Rattle.history_event.specs.declared.event_line.OpenLine.{OpenLine}
use Rattle.history_event.specs.declared.handed.Opening.{Opening}
use Rattle.history_state.specs.After.{after}
use Rattle.history_state.specs.Allowed.{Allowed}
use Rattle.history_state.specs.Legal.{Lawful}
use Rattle.history_state.specs.Objects.{is_startup}
use Rattle.history_state.specs.Setting.{Machine, Setting}
use Rattle.history_calls.specs.Startup.{harts_of, program_ask}
use Rattle.history_calls.specs.declared.link_served.startup.Setup.{Setup}
use Rattle.trace_opens.specs.OpeningRows.Expected.{IsExpectedOpening}

-- while nothing was loaded, an opening may come where it may come first
abbrev pub StartupNeedsNoPast : Type 0
StartupNeedsNoPast = (m : Machine) (w : Setting) (past : List Event) (hart : ℕ) (ask : OpenAsk) (answer : OpenAnswer) → Lawful m past
    → IsTrue (is_startup (after past)) → (Allowed w past (Open hart ask answer)) ↔ (Allowed w [] (Open hart ask answer))

-- a run of so many harts without preload names, whose startup asks so
pub record IsSetupOf (harts : ℕ) (ask : OpenAsk) (folders : List (List ℕ)) (setup : Setup) : Type 0 where
  pub harts_are : harts ≡ harts_of setup
  pub folders_are : setup.folders ≡ folders
  pub preload : setup.preload ≡ []
  pub ask_is : ask ≡ program_ask setup

-- the one first event that the line may be
abbrev pub IsExpectedFirst : Setting → OpenAsk → OpenLine → Option Opening → Type 0
IsExpectedFirst w ask line found = IsExpectedOpening w [] 0 ask line found
