-- What run comes to.
use Rattle.std.specs.Prelude.{◌≡◌, ℕ, ◌^◌, ◌≤◌, ◌<◌, Bool, if◌then◌else◌, List, [], ◌++◌, length, Option, Some, None, Result, Ok, Err}
use Rattle.cli_words.specs.declared.command.Run.{Run}
use Rattle.ld_base.specs.declared.fault.DlFault.{DlFault}
use Rattle.ld_base.specs.declared.linking.File.{File}
use Rattle.history_event.specs.declared.event.Event.{Event}
use Rattle.history_calls.specs.declared.link_served.startup.Setup.{Setup}
use Rattle.history_calls.specs.declared.link_served.startup.StartFault.{StartFault}
use Rattle.history_calls.specs.declared.link_served.startup.StartFault.TheVariants as starts
use Rattle.link_open_plan.specs.Startup.{run_of}
use Rattle.trace_text.specs.RunTexts.Ends.{IsRunEnd}
use Rattle.trace_text.specs.RunTexts.Printed.{guest_output, journal_lines}
use Rattle.trace_text.specs.declared.run_texts.record.RunRecord.{RunRecord}
use Rattle.trace_text.specs.declared.run_texts.run_end.RunEnd.{RunEnd}
use Rattle.word_rule.specs.declared.view.KeeperView.{KeeperView}
use Rattle.world_threads.specs.Threaded.{IsThreaded}
use Rattle.world_threads.specs.declared.run.Ran.{Ran}
use Rattle.ldso_cli.specs.End.{end_with_trails}
use Rattle.ldso_cli.specs.Outside.{LibraryAt}
use Rattle.ldso_cli.specs.Played.{ComesToEnd, LeavesRefusal, last_line, run_cause}
use Rattle.ldso_cli.specs.declared.outcome.End.{End}

-- a run on threads, over the files as the library tells them, left this record and these trails, and its harts' ends say how it ended
pub record RunsOnThreads (setup : Setup) (files : Option (List File)) (ended : Result RunEnd DlFault) (left : RunRecord) (trails : Option KeeperView)
    : Type 0 where
  pub view : KeeperView
  pub trails_are : trails ≡ Some view
  pub is : IsThreaded (run_of setup files) setup left view
  pub run_end : RunEnd
  pub ended_is : ended ≡ Ok run_end
  pub decides : IsRunEnd left.ends run_end

-- what is printed of it before the last line: its journal where that is asked for, and else what the program wrote
abbrev pub printed_of : (trace : Bool) → List Event → List ℕ
printed_of trace journal = if trace then journal_lines journal else guest_output journal

-- how such a run comes to its end, while its library goes on from one state to another; where startup was refused no hart has a trail
pub record ComesOnThreads (setup : Setup) (before after : LibraryAt) (ended : Result RunEnd DlFault) (left : RunRecord) (trails : Option KeeperView)
    : Type 0 where
  pub comes : ComesToEnd (RunsOnThreads setup before.files ended left trails) setup before after ended left
  pub no_trails : left.ends ≡ [] → trails ≡ None

-- how run comes to its end and its text: what the run left is kept, with its harts' trails if it started
pub record RunComes (command : Run) (before after : LibraryAt) (end : End) (text : List ℕ) : Type 0 where
  pub ended : Result RunEnd DlFault
  pub left : RunRecord
  pub trails : Option KeeperView
  pub run : ComesOnThreads command.setup before after ended left trails
  pub end_is : end ≡ end_with_trails (run_cause ended) left trails
  pub text_is : text ≡ printed_of command.trace left.journal.events ++ last_line ended

-- ---- for the code of this crate alone

-- what is left of a run that is over, and how it ended
pub record EndsOnThreads (ran : Ran) (ended : Result RunEnd DlFault) (left : RunRecord) (trails : Option KeeperView) : Type 0 where
  pub left_is : left ≡ ran.left
  pub trails_are : trails ≡ Some ran.trails
  pub run_end : RunEnd
  pub ended_is : ended ≡ Ok run_end
  pub decides : IsRunEnd left.ends run_end

-- or of one that doesn't start
pub record RefusesStart (fault : DlFault) (journal : List Event) (ended : Result RunEnd DlFault) (left : RunRecord) (trails : Option KeeperView) : Type 0 where
  pub leaves : LeavesRefusal fault journal ended left
  pub none : trails ≡ None

abbrev pub RunLeaves : Result Ran StartFault → Result RunEnd DlFault → RunRecord → Option KeeperView → Type 0
RunLeaves (Ok ran) ended left trails = EndsOnThreads ran ended left trails
RunLeaves (Err (starts.Refused fault journal)) ended left trails = RefusesStart fault journal.events ended left trails
RunLeaves (Err starts.Memory) ended left trails = ⊥

-- each hart of a run has an end, and they are few
pub record HasEnds (ran : Ran) : Type 0 where
  pub some : 0 < length ran.left.ends
  pub few : length ran.left.ends ≤ 2 ^ 32
