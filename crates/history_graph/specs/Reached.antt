-- What chains of edges lead to.
use Rattle.std.specs.Prelude.{◌≡◌, ℕ, Bool, ◌==◌, List, Contains, filter, IsTrue, ◌↔◌}
use Rattle.history_graph.specs.declared.graph.Edge.{Edge}

-- the edge begins at this serial
abbrev pub leads_from : ℕ → Edge → Bool
leads_from source e = e.source == source

-- a serial is one of the roots, or a chain of edges leads to it from one
pub data Reached (edges : List Edge) (roots : List ℕ) : ℕ → Type 0 where
  root : {d : ℕ} → Contains roots d → Reached edges roots d
  on : (e : Edge) → Contains edges e → Reached edges roots e.source → Reached edges roots e.target

-- the nodes that aren't reached, in their order
pub record Unneeded (edges : List Edge) (roots nodes set : List ℕ) : Type 0 where
  pub leave : ℕ → Bool
  pub are : set ≡ filter leave nodes
  pub exactly : (d : ℕ) → Contains nodes d → IsTrue (leave d) ↔ ¬ (Reached edges roots d)
