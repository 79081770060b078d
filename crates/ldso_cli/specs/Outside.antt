-- What contracts see of the library and of the sink at one moment.
use Rattle.std.specs.Prelude.{ℕ, List, Option, Result}
use Rattle.ld_base.specs.declared.linking.File.{File}
use Rattle.library_source.specs.Writing.{Puts}
use Rattle.library_source.specs.declared.sink.WriteError.{WriteError}
use Rattle.world_turns.specs.Counts.{Counts}

-- a library: its files, where it tells them, how often it failed, and how often it had no file at a path
pub record LibraryAt : Type 0 where
  pub files : Option (List File)
  pub faults : ℕ
  pub misses : ℕ

-- a sink: the bytes that it took, where it tells them, and how often it failed
pub record SinkAt : Type 0 where
  pub taken : Option (List ℕ)
  pub faults : ℕ

-- how often it failed, and how often it had no file at a path
abbrev pub counts_in : LibraryAt → Counts
counts_in library = record { faults = library.faults; misses = library.misses }

-- what the meanings of a library, or of a sink, say of one
abbrev pub library_at : {L : Type 0} → (L → Option (List File)) → (L → ℕ) → (L → ℕ) → L → LibraryAt
library_at files faults misses library = record { files = files library; faults = faults library; misses = misses library }

abbrev pub sink_at : {K : Type 0} → (K → Option (List ℕ)) → (K → ℕ) → K → SinkAt
sink_at taken faults sink = record { taken = taken sink; faults = faults sink }

-- a text was handed to the sink, piece by piece, which takes it from one state to another, and answers this
abbrev pub handed_to : {K : Type 0} → (K → List ℕ → Result ℕ WriteError → K → Type 0) → K → K → List ℕ → Result (Unit {0}) WriteError → Type 0
handed_to writes old new text answer = Puts writes text old answer new
