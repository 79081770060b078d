-- A walk that finds strongly connected components.
use Rattle.std.specs.Prelude.{◌≡◌, ℕ, ◌-◌, ◌<◌, ◌≤◌, Bool, List, [], ◌∷◌, ◌++◌, length, Option, All, nat_eq, slice_index_or}
use Rattle.std.specs.HashMap.{get}
use Rattle.std.specs.List.{list_any}
use Rattle.history_graph.specs.declared.graph.Edge.{Edge}
use Rattle.init_order.specs.declared.walk.Mark.{Mark}
use Rattle.init_order.specs.declared.walk.Step.{Step}
use Rattle.init_order.specs.declared.walk.Walk.{Walk}

-- where a serial stands
abbrev pub at : Walk → ℕ → Option Mark
at w q = get nat_eq w.marks q

-- it is one of the list
abbrev pub is_in : List ℕ → ℕ → Bool
is_in xs q = list_any (nat_eq q) xs

-- the step along an edge, from a place
abbrev pub step_of : ℕ → Edge → Step
step_of place e = record { place = place; target = e.target }

-- the last step, if there is one, begins before this place
abbrev pub IsCut : List Step → ℕ → Type 0
IsCut pending start = (d : Step) → 0 < length pending → (slice_index_or pending (length pending - 1) d).place < start

-- the same list without some of its last elements, which are behind a place; the last that is left isn't
pub record DropsBehind (old new : List ℕ) (place : ℕ) : Type 0 where
  pub gone : List ℕ
  pub parts : old ≡ new ++ gone
  pub behind : All (λ s. place < s) gone
  pub last : (rest : List ℕ) (s : ℕ) → new ≡ rest ++ s ∷ [] → s ≤ place
