-- What is reached depends on the members of edges and roots alone.
use Rattle.std.proofs.Common.{ℕ, List}
use Rattle.std.specs.List.{Contains}
use Rattle.history_graph.specs.declared.graph.Edge.{Edge}
use Rattle.history_graph.specs.Reached.{Reached, Unneeded}

pub more_reached : (edges more : List Edge) (roots others : List ℕ) → ((e : Edge) → Contains edges e → Contains more e) → ((d : ℕ) → Contains roots d → Contains others d)
    → (d : ℕ) → Reached edges roots d → Reached more others d
more_reached edges more roots others each from d (Reached.root h) = Reached.root (from d h)
more_reached edges more roots others each from d (Reached.on e there r) = Reached.on e (each e there) (more_reached edges more roots others each from e.source r)

pub same_unneeded : (edges more : List Edge) (roots others nodes set : List ℕ) → ((e : Edge) → Contains edges e → Contains more e) → ((e : Edge) → Contains more e → Contains edges e)
    → ((d : ℕ) → Contains roots d → Contains others d) → ((d : ℕ) → Contains others d → Contains roots d) → Unneeded edges roots nodes set → Unneeded more others nodes set
same_unneeded edges more roots others nodes set forth back from to unneeded = record {
  leave = unneeded.leave;
  are = unneeded.are;
  exactly = λ d node. (
    λ leaves reached. (unneeded.exactly d node).0 leaves (more_reached more edges others roots back to d reached),
    λ none. (unneeded.exactly d node).1 (λ reached. none (more_reached edges more roots others forth from d reached)),
  );
}
