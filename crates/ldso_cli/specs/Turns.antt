-- What turns comes to.
use Rattle.std.specs.Prelude.{◌≡◌, ℕ, List, ◌++◌, Result}
use Rattle.ld_base.specs.declared.fault.DlFault.{DlFault}
use Rattle.cli_words.specs.declared.command.Turns.{Turns}
use Rattle.history_calls.specs.Startup.{harts_of}
use Rattle.trace_text.specs.RunTexts.Printed.{journal_lines}
use Rattle.trace_text.specs.declared.run_texts.record.RunRecord.{RunRecord}
use Rattle.trace_text.specs.declared.run_texts.run_end.RunEnd.{RunEnd}
use Rattle.world_turns.specs.SchedulesPart.Grammar.{SaysTurns}
use Rattle.world_turns.specs.declared.schedules.schedule.TurnItem.{TurnItem}
use Rattle.ldso_cli.specs.End.{kept_end}
use Rattle.ldso_cli.specs.Outside.{LibraryAt}
use Rattle.ldso_cli.specs.Played.{IsPlayed, last_line, run_cause}
use Rattle.ldso_cli.specs.declared.outcome.End.{End}

-- the schedule says these items of so many harts as there are
abbrev pub Schedules : Turns → List TurnItem → Type 0
Schedules turns items = SaysTurns (harts_of turns.setup) turns.schedule items

-- it is one
pub record IsScheduled (turns : Turns) : Type 0 where
  pub items : List TurnItem
  pub says : Schedules turns items

-- how turns comes to its end and its text, while its library goes on from one state to another: by a run by the items of its schedule. What
-- that left is kept; what is printed is its journal, and how it ended
pub record TurnsComes (turns : Turns) (before after : LibraryAt) (end : End) (text : List ℕ) : Type 0 where
  pub items : List TurnItem
  pub says : Schedules turns items
  pub ended : Result RunEnd DlFault
  pub left : RunRecord
  pub plays : IsPlayed turns.setup items before after ended left
  pub end_is : end ≡ kept_end (run_cause ended) left
  pub text_is : text ≡ journal_lines left.journal.events ++ last_line ended
