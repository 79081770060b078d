-- Modules by their numbers.
use Rattle.std.specs.Prelude.{◌≡◌, ℕ, ◌+◌, ◌<◌, ◌≤◌, not, ◌==◌, nat_lt, List, ◌∷◌, ◌++◌, length, filter, find, Option, Contains, All, AllPairs, slice_index_or}
use Rattle.history_event.specs.declared.state.Module.{Module}

-- what contracts see of the modules
pub record ModuleTable : Type 0 where
  pub modules : List Module
  -- where the static blocks end, behind tp
  pub size : ℕ
  -- tp's distance from the start of its area
  pub tp : ℕ
  pub generation : ℕ
  pub spare : ℕ

abbrev pub number_of : Module → ℕ
number_of m = m.number

-- numbers count from 1, and rise
pub record AreNumbered (modules : List Module) : Type 0 where
  pub positive : All (λ m. 1 ≤ number_of m) modules
  pub rising : AllPairs (λ m n. number_of m < number_of n) modules

-- the module with a number
abbrev pub module_at : List Module → ℕ → Option Module
module_at modules number = find (λ m. m.number == number) modules

-- a module has the number
abbrev pub IsTaken : List Module → ℕ → Type 0
IsTaken modules number = (m : Module) × Contains modules m × (number_of m ≡ number)

-- the number isn't taken, and each below it from 1 on is
pub record IsLeastFree (modules : List Module) (number : ℕ) : Type 0 where
  pub positive : 1 ≤ number
  pub free : ¬ (IsTaken modules number)
  pub least : (other : ℕ) → 1 ≤ other → other < number → IsTaken modules other

-- the modules with one more, in the order of their numbers
abbrev pub with_module : Module → List Module → List Module
with_module m modules = filter (λ x. nat_lt x.number m.number) modules ++ m ∷ filter (λ x. nat_lt m.number x.number) modules

-- the other modules
abbrev pub without_module : ℕ → List Module → List Module
without_module number modules = filter (λ x. not (x.number == number)) modules

-- the modules before this place have the numbers from 1 on, and no other has the next
pub record HasGapAt (modules : List Module) (gap : ℕ) : Type 0 where
  pub within : gap ≤ length modules
  pub before : (k : ℕ) (d : Module) → k < gap → number_of (slice_index_or modules k d) ≡ k + 1
  pub behind : (k : ℕ) (d : Module) → gap ≤ k → k < length modules → gap + 1 < number_of (slice_index_or modules k d)
