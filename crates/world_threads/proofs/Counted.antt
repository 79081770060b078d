-- What a library counts of a start that fails.
use Rattle.std.proofs.Common.{[], Err, refl}
use Rattle.history_state.specs.Setting.{Setting}
use Rattle.history_calls.specs.declared.link_served.startup.Setup.{Setup}
use Rattle.history_calls.specs.declared.link_served.startup.StartFault.{StartFault}
use Rattle.history_calls.specs.declared.link_served.startup.StartFault.TheVariants as starts
use Rattle.history_calls.specs.CallLaws.Counts.{ArePathsAtStart, ShowsInCounts}
use Rattle.link_startup.specs.Startup.{IsNotStarted, refusal_of_start}
use Rattle.world_answers.specs.GuestsPart.Counting.{Rise}
use Rattle.world_answers.specs.GuestsPart.Lemmas.Counting.{spare_counts}
use Rattle.world_answers.specs.GuestsPart.Lemmas.Starts.{failed_shows}
use Rattle.world_turns.specs.Counts.{Counts, ShowInCounts}
use Rattle.world_threads.specs.Threaded.{left_events}

pub unstarted_shows : (w : Setting) (setup : Setup) (why : StartFault) (first last : Counts) → Rise first last → IsNotStarted w setup why
    → ShowsInCounts (ArePathsAtStart setup.folders setup.program) (refusal_of_start why) first.faults last.faults first.misses last.misses
    → ShowInCounts setup.folders (left_events (Err why)) first last
unstarted_shows w setup (starts.Refused fault journal) first last rise fails shows = failed_shows w setup fault journal.events first last rise fails shows
unstarted_shows w setup starts.Memory first last rise fails shows = spare_counts setup.folders first last [] rise refl
