-- Why the program ends without a whole text, and what status says so.
use Rattle.std.specs.Prelude.{ℕ}
use Rattle.std.specs.declared.io.ErrorKind.{ErrorKind}
use Rattle.std.specs.declared.io.ErrorKind.TheVariants.{OutOfMemory}
use Rattle.clap.specs.declared.error.kind.ErrorKind.{ErrorKind as WordsErrorKind}
use Rattle.clap.specs.declared.error.kind.ErrorKind.TheVariants as words
use Rattle.library_source.specs.declared.sink.WriteError.{WriteError}
use Rattle.library_source.specs.declared.sink.WriteError.TheVariants as writes
use Rattle.trace_view.specs.declared.fault.ViewFault.{ViewFault}
use Rattle.trace_view.specs.declared.fault.ViewFault.TheVariants as faults
use Rattle.ldso_view.specs.declared.stop.Stop.{Stop}
use Rattle.ldso_view.specs.declared.stop.Stop.TheVariants.{Usage, Help, NoEvent, ReadFault, WriteFault, Memory}

-- the table of docs/VIEWER.md
abbrev pub status_of : Stop → ℕ
status_of Help = 0
status_of (NoEvent line) = 117
status_of Usage = 120
status_of ReadFault = 121
status_of WriteFault = 122
status_of Memory = 123

abbrev pub stop_of_write : WriteError → Stop
stop_of_write writes.Memory = Memory
stop_of_write writes.Failed = WriteFault

abbrev pub stop_of_view : ViewFault → Stop
stop_of_view (faults.NoEvent line) = NoEvent line
stop_of_view faults.Memory = Memory

-- the journal isn't read
abbrev pub stop_of_read : ErrorKind → Stop
stop_of_read OutOfMemory = Memory
stop_of_read kind = ReadFault

-- the program has no words of its own
abbrev pub stop_of_words : ErrorKind → Stop
stop_of_words OutOfMemory = Memory
stop_of_words kind = Usage

-- the words aren't taken
abbrev pub stop_of_usage : WordsErrorKind → Stop
stop_of_usage words.OutOfMemory = Memory
stop_of_usage words.DisplayHelp = Help
stop_of_usage kind = Usage
