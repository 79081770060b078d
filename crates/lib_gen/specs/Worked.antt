-- Worked summaries.
use Rattle.std.specs.Prelude.{ℕ, ◌*◌, List, [], ◌∷◌, ◌++◌, codes}
use Rattle.trace_text.specs.declared.run_texts.record.Counts.{Counts}

-- a journal with so many slots, each granted and bound
abbrev pub all_bound : ℕ → Counts
all_bound slots = record { events = 2 * slots; grants = slots; bound = slots; lost = 0 }

abbrev pub smallest_summary : List ℕ
smallest_summary = codes "gen 0 libs=8 symbols=40 slots=40 grants=40 bound=40 exit=32" ++ 10 ∷ []

abbrev pub large_summary : List ℕ
large_summary = codes "gen 3875 libs=64 symbols=4160 slots=4160 grants=4160 bound=4160 exit=4096" ++ 10 ∷ []

abbrev pub stopped_summary : List ℕ
stopped_summary = codes "gen 57 libs=8 symbols=40 slots=40 grants=3 bound=3 exit=-" ++ 10 ∷ []
