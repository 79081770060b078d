-- Tables in a file: entries of one size, one after another.
use Rattle.std.specs.Prelude.{ℕ, zero, suc, ◌+◌, ◌*◌, List, [], ◌∷◌, ◌++◌}

-- the entries of a table of so many: each is what stands at its own place, size bytes after the one before
abbrev pub table : {X : Type 0} → (ℕ → X) → ℕ → ℕ → ℕ → List X
table at start size zero = []
table at start size (suc n) = table at start size n ++ at (start + size * n) ∷ []
