-- A library and a sink in memory, which fail at calls that are told them.
use Rattle.std.specs.Prelude.{◌≡◌, ℕ, List, ◌++◌, length, Contains, Result, Ok, Err}
use Rattle.ld_base.specs.declared.linking.File.{File}
use Rattle.library_source.specs.Count.{one_more}
use Rattle.library_source.specs.declared.sink.WriteError.{WriteError}
use Rattle.library_source.specs.declared.sink.WriteError.TheVariants.{Failed, Memory}

-- what a library in memory holds: its files, the numbers of the calls that fail, and how often
-- it was called, failed and missed a path
pub record LibraryState : Type 0 where
  pub files : List File
  pub fail : List ℕ
  pub calls : ℕ
  pub faults : ℕ
  pub misses : ℕ

-- what a sink in memory holds: the bytes that it took, the numbers of the calls that fail, and how
-- often it was called and failed
pub record SinkState : Type 0 where
  pub bytes : List ℕ
  pub fail : List ℕ
  pub calls : ℕ
  pub faults : ℕ

-- the next call is one of those that fail
abbrev pub IsToFail : SinkState → Type 0
IsToFail sink = Contains sink.fail (one_more sink.calls)

-- one write to a sink in memory: it fails where it is to, and else takes the whole piece or finds
-- no memory
abbrev pub WritesInMemory : SinkState → List ℕ → Result ℕ WriteError → SinkState → Type 0
WritesInMemory old piece (Ok n) new =
    ¬ (IsToFail old) × (n ≡ length piece)
    × (new ≡ record old { bytes = old.bytes ++ piece; calls = one_more old.calls })
WritesInMemory old piece (Err Failed) new =
    IsToFail old × (new ≡ record old { calls = one_more old.calls; faults = one_more old.faults })
WritesInMemory old piece (Err Memory) new =
    ¬ (IsToFail old) × (new ≡ record old { calls = one_more old.calls })
