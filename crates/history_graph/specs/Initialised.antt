-- In what order objects are initialised and finalised (gABI, "Initialization and Termination Functions").
use Rattle.std.specs.Prelude.{◌≡◌, ℕ, ◌<◌, Bool, not, ◌==◌, List, [], ◌∷◌, ◌++◌, Option, Some, None, Contains, filter, reverse, take}
use Rattle.std.specs.List.{slice_get, list_any}
use Rattle.history_graph.specs.declared.graph.Edge.{Edge}
use Rattle.history_graph.specs.Reached.{Reached}

-- an object leads to another, or is it
abbrev pub Reaches : List Edge → ℕ → ℕ → Type 0
Reaches edges o d = Reached edges (o ∷ []) d

-- o leads to d, which doesn't lead back: objects that lead to one another don't wait for each other
abbrev pub IsStrictDependency : List Edge → ℕ → ℕ → Type 0
IsStrictDependency edges o d = Reaches edges o d × ¬ (Reaches edges d o)

-- o isn't done, and its strict dependencies among the new objects are
pub record MayStart (edges : List Edge) (new done : List ℕ) (o : ℕ) : Type 0 where
  pub undone : ¬ (Contains done o)
  pub ready : (d : ℕ) → Contains new d → IsStrictDependency edges o d → Contains done d

-- the first of the new objects that may start is initialised next
pub record InitNext (edges : List Edge) (new done : List ℕ) (o : ℕ) : Type 0 where
  pub place : ℕ
  pub stands : slice_get new place ≡ Some o
  pub may : MayStart edges new done o
  pub first : (earlier e : ℕ) → earlier < place → slice_get new earlier ≡ Some e → ¬ (MayStart edges new done e)

-- each of the new objects is initialised, and each was the next when those before it were done
pub record InitOrder (edges : List Edge) (new order : List ℕ) : Type 0 where
  pub each : (k o : ℕ) → slice_get order k ≡ Some o → InitNext edges new (take k order) o
  pub all : (d : ℕ) → Contains new d → Contains order d

-- the new objects in the order in which they are looked at: load order, but that the program is last; since the program leads to each
-- object that is loaded with it, none of them waits for it, and it is initialised last
abbrev pub program_last : Option ℕ → List ℕ → List ℕ
program_last None new = new
program_last (Some program) new = filter (λ o. not (o == program)) new ++ filter (λ o. o == program) new

-- it is one of the list
abbrev pub is_one_of : List ℕ → ℕ → Bool
is_one_of xs x = list_any (λ y. y == x) xs

-- FiniList: those of a set that were initialised, the latest first; inits are the objects that were initialised and not finalised, in
-- the order of their initialisation
abbrev pub fini_list : List ℕ → List ℕ → List ℕ
fini_list inits set = filter (is_one_of set) (reverse inits)
