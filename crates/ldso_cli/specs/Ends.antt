-- How the command ends, and what its sink took.
use Rattle.std.specs.Prelude.{◌≡◌, ◌≢◌, ◌⊎◌, ℕ, Bool, false, List, [], Option, None, Result, Ok, Err, IsSomeAnd}
use Rattle.std.specs.Io.KnownBytes.{append_known}
use Rattle.std.specs.List.{list_any}
use Rattle.ld_base.specs.declared.fault.DlFault.TheVariants as dl
use Rattle.ld_base.specs.declared.linking.File.{File}
use Rattle.library_source.specs.Count.{Rises}
use Rattle.library_source.specs.Writing.{TakesFront}
use Rattle.library_source.specs.declared.sink.WriteError.{WriteError}
use Rattle.library_source.specs.declared.sink.WriteError.TheVariants as writes
use Rattle.cli_words.specs.Reads.{Reads}
use Rattle.cli_words.specs.declared.command.Command.{Command}
use Rattle.cli_words.specs.declared.command.Command.TheVariants as commands
use Rattle.history_event.specs.declared.event.Event.{Event}
use Rattle.history_event.specs.declared.event.Event.TheVariants.{Ended}
use Rattle.history_calls.specs.Laws.{is_memory}
use Rattle.ldso_cli.specs.Asked.{OfAsked}
use Rattle.ldso_cli.specs.Command.{WordsAnswer, AreTold, Misses, ReadsWell}
use Rattle.ldso_cli.specs.End.{AreOneEnd, bare, events_kept}
use Rattle.ldso_cli.specs.Outside.{LibraryAt, SinkAt}
use Rattle.ldso_cli.specs.Status.{status_of}
use Rattle.ldso_cli.specs.declared.outcome.Cause.{Cause}
use Rattle.ldso_cli.specs.declared.outcome.Cause.TheVariants as causes
use Rattle.ldso_cli.specs.declared.outcome.End.{End}

-- how a text may be handed to a sink, with the sink's answer at the end
abbrev pub Handing : Type 1
Handing = List ℕ → Result (Unit {0}) WriteError → Type 0

-- all of the text was written, and the end is the command's own
pub record IsAllWritten (handed : Handing) (own : End) (text : List ℕ) (old new : SinkAt) (end : End) : Type 0 where
  pub end_is : end ≡ own
  pub written : handed text (Ok tt)
  pub taken : new.taken ≡ append_known old.taken text

-- the sink failed, which it counts, and took a front of the text; what the command kept is still there
pub record IsCutShort (handed : Handing) (own : End) (text : List ℕ) (old new : SinkAt) (end : End) : Type 0 where
  pub end_is : end ≡ record own { cause = causes.WriteFault }
  pub written : handed text (Err writes.Failed)
  pub counted : Rises old.faults new.faults
  pub taken : TakesFront old.taken text new.taken

-- the sink itself answered that it found no memory, and took a front of the text; what the command kept is still there
pub record IsStopped (handed : Handing) (own : End) (text : List ℕ) (old new : SinkAt) (end : End) : Type 0 where
  pub end_is : end ≡ record own { cause = causes.Memory }
  pub written : handed text (Err writes.Memory)
  pub taken : TakesFront old.taken text new.taken

-- how an answer was written, and the end that this makes
abbrev pub Written : Handing → End → List ℕ → SinkAt → SinkAt → End → Type 0
Written handed own text old new end = IsAllWritten handed own text old new end ⊎ IsCutShort handed own text old new end ⊎ IsStopped handed own text old new end

-- the command's own end, the text that it prints at it, and how that was written
pub record IsAnswered (handed : Handing) (command : Option Command) (before after : LibraryAt) (old new : SinkAt) (end : End) : Type 0 where
  pub own : End
  pub text : List ℕ
  pub answers : WordsAnswer command before after own text
  pub written : Written handed own text old new end

-- the command found no memory for an answer: nothing is kept, and nothing was handed to the sink
pub record IsUnanswered (handed : Handing) (old new : SinkAt) (end : End) : Type 0 where
  pub end_is : end ≡ bare causes.Memory
  pub written : handed [] (Ok tt)
  pub taken : new.taken ≡ old.taken

-- how a command ends
abbrev pub WordsEnd : Handing → Option Command → LibraryAt → LibraryAt → SinkAt → SinkAt → End → Type 0
WordsEnd handed command before after old new end = IsAnswered handed command before after old new end ⊎ IsUnanswered handed old new end

-- each cause comes only where it is so
pub record IsCaused (command : Option Command) (before after : LibraryAt) (old new : SinkAt) (cause : Cause) : Type 0 where
  -- exactly where the words ask for no command, unless the text couldn't be written
  pub usage : cause ≡ causes.Usage → command ≡ None
  pub no_command : command ≡ None → (cause ≡ causes.Usage) ⊎ (cause ≡ causes.WriteFault) ⊎ (cause ≡ causes.Memory)
  -- only where the library failed, or missed a file, or the sink failed
  pub read_fault : (path : List ℕ) → cause ≡ causes.Refused (dl.ReadFault path) → Rises before.faults after.faults
  pub missing : (name : List ℕ) → cause ≡ causes.Refused (dl.MissingLibrary name) → IsSomeAnd command (λ c. Misses c before after name)
  pub write_fault : cause ≡ causes.WriteFault → Rises old.faults new.faults

-- one call of the command: its library and its sink before and after it, and its end
pub record RunAt : Type 0 where
  pub before : LibraryAt
  pub after : LibraryAt
  pub old : SinkAt
  pub new : SinkAt
  pub end : End

-- a hart ended for want of memory
abbrev pub is_want_of_memory : Event → Bool
is_want_of_memory e = elim e [ Ended hart reason ↦ is_memory reason | _ ↦ false ]

-- it is written which turn comes when
abbrev pub FollowsSchedule : Command → Type 0
FollowsSchedule (commands.Run run) = ⊥
FollowsSchedule other = Unit {0}

-- a call with these words over these files, which the library tells (gen reads none of it), in which neither the library nor the sink fails,
-- and memory suffices, for the harts of a run that it makes, too; and no harts run on threads
pub record IsUndisturbed (handed : Handing) (words : List (List ℕ)) (files : List File) (run : RunAt) : Type 0 where
  pub written : (command : Command) → Reads words command → FollowsSchedule command
  pub told : (command : Command) → Reads words command → AreTold command run.before files
  pub ends : OfAsked words (λ command. WordsEnd handed command run.before run.after run.old run.new run.end)
  pub reads_well : (command : Command) → Reads words command → ReadsWell command run.before run.after
  pub writes_well : run.end.cause ≢ causes.WriteFault
  pub has_memory : run.end.cause ≢ causes.Memory
  pub runs_well : list_any is_want_of_memory (events_kept run.end) ≡ false

-- two calls come to the same: one end, with its status, and one text, which was handed to both sinks, and both took it whole
pub record ComeToOne (handed handed' : Handing) (first second : RunAt) : Type 0 where
  pub end : AreOneEnd first.end second.end
  pub status : status_of first.end ≡ status_of second.end
  pub text : List ℕ
  pub first_handed : handed text (Ok tt)
  pub second_handed : handed' text (Ok tt)
  pub first_took : first.new.taken ≡ append_known first.old.taken text
  pub second_took : second.new.taken ≡ append_known second.old.taken text
