-- Strongly connected components, in the order in which nothing waits for a later one.
use Rattle.std.specs.Prelude.{◌≡◌, ℕ, ◌<◌, ◌≤◌, List, Option, Some, None, IsSome, Contains, nat_eq}
use Rattle.std.specs.HashMap.{get}
use Rattle.history_graph.specs.declared.graph.Edge.{Edge}
use Rattle.history_graph.specs.Initialised.{Reaches}
use Rattle.init_order.specs.declared.components.Components.{Components}
use Rattle.init_order.specs.declared.walk.Mark.{Mark}
use Rattle.init_order.specs.declared.walk.Mark.TheVariants.{OnPath, Settled}

abbrev pub settled_in : Option Mark → Option ℕ
settled_in None = None
settled_in (Some (OnPath place)) = None
settled_in (Some (Settled number)) = Some number

-- the number of an object's component
abbrev pub number_of : Components → ℕ → Option ℕ
number_of components q = settled_in (get nat_eq components.marks q)

-- each root is in a component, of a number below their count; an edge leads to one, of no higher number; and what is in one leads to all of it
pub record AreComponents (edges : List Edge) (roots : List ℕ) (components : Components) : Type 0 where
  pub rooted : (q : ℕ) → Contains roots q → IsSome (number_of components q)
  pub counted : (q c : ℕ) → number_of components q ≡ Some c → c < components.count
  pub closed : (e : Edge) (c : ℕ) → Contains edges e → number_of components e.source ≡ Some c → (d : ℕ) × (number_of components e.target ≡ Some d) × (d ≤ c)
  pub joined : (u v c : ℕ) → number_of components u ≡ Some c → number_of components v ≡ Some c → Reaches edges u v
