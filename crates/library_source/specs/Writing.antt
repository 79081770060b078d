-- What is left of a text that wasn't written whole.
use Rattle.std.specs.Prelude.{◌≡◌, ◌⊎◌, ℕ, ◌<◌, List, [], ◌++◌, length, take, drop, MatchResult, Result, Ok, Err, Option}
use Rattle.std.specs.Io.KnownBytes.{Appends, Keeps, append_known}
use Rattle.library_source.specs.Count.{CountsIf}
use Rattle.library_source.specs.declared.sink.WriteError.{WriteError}
use Rattle.library_source.specs.declared.sink.WriteError.TheVariants.{Failed}

-- of the bytes, the front before this rest was taken
pub record TakesBefore (rest : List ℕ) (old : Option (List ℕ)) (bytes : List ℕ) (new : Option (List ℕ))
    : Type 0 where
  pub front : List ℕ
  pub whole : bytes ≡ front ++ rest
  pub taken : new ≡ append_known old front

-- a front of the bytes was taken
abbrev pub TakesFront : Option (List ℕ) → List ℕ → Option (List ℕ) → Type 0
TakesFront old bytes new = (rest : List ℕ) × TakesBefore rest old bytes new

-- how a text is written: as long as some of it is left, that is handed to the sink, and what the sink took is done; after a
-- failure, an answer that it took nothing, or want of memory, the sink isn't asked again
pub data Puts {K : Type 0} (writes : K → List ℕ → Result ℕ WriteError → K → Type 0) : List ℕ → K → Result (Unit {0}) WriteError → K → Type 0 where
  all : {sink : K} → Puts writes [] sink (Ok tt) sink
  more : {rest : List ℕ} {before next after : K} {answer : Result (Unit {0}) WriteError} (n : ℕ) → 0 < length rest → 0 < n → writes before rest (Ok n) next
      → Puts writes (drop n rest) next answer after → Puts writes rest before answer after
  stuck : {rest : List ℕ} {before after : K} → 0 < length rest → writes before rest (Ok 0) after → Puts writes rest before (Err Failed) after
  stops : {rest : List ℕ} {before after : K} (why : WriteError) → 0 < length rest → writes before rest (Err why) after → Puts writes rest before (Err why) after

-- the sink failed: it says so, or it took nothing of a piece that isn't empty
abbrev pub HasFailed : List ℕ → Result ℕ WriteError → Type 0
HasFailed piece answer = (answer ≡ Err Failed) ⊎ ((answer ≡ Ok 0) × (0 < length piece))

-- one write to a writer of the system: where it is known what the writer holds, that grows by what it took; its count of failures
-- rises where it failed and nowhere else
pub record WritesThrough (old : Option (List ℕ)) (count : ℕ) (piece : List ℕ) (answer : Result ℕ WriteError) (new : Option (List ℕ)) (count' : ℕ) : Type 0 where
  pub appends : MatchResult answer (λ n. Appends old new (take n piece)) (λ _. Keeps old new)
  pub counts : CountsIf (HasFailed piece answer) count count'

-- what is known of a sink over a writer of the system: the writer to which its bytes go, and how often it failed
pub record WriterState (W : Type 0) : Type 0 where
  pub writer : W
  pub faults : ℕ
