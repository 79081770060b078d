-- How a walk stands between two of its steps.
use Rattle.std.specs.Prelude.{◌≡◌, ℕ, ◌+◌, ◌*◌, ◌<◌, ◌≤◌, ◌⊎◌, not, List, [], ◌∷◌, ◌++◌, length, count_by, Option, Some, is_some, Contains, AllPairs, ◌≢◌}
use Rattle.std.specs.Prelude.{slice_index_or}
use Rattle.history_graph.specs.declared.graph.Edge.{Edge}
use Rattle.history_graph.specs.Initialised.{Reaches}
use Rattle.init_order.specs.declared.walk.Mark.{Mark}
use Rattle.init_order.specs.declared.walk.Mark.TheVariants.{OnPath, Settled}
use Rattle.init_order.specs.declared.walk.Step.{Step}
use Rattle.init_order.specs.declared.walk.Walk.{Walk}
use Rattle.init_order.specs.Walking.{at}

-- no part of the path begins behind the first place and not behind the second
abbrev pub Together : List ℕ → ℕ → ℕ → Type 0
Together starts i j = (start : ℕ) → Contains starts start → start ≤ j → start ≤ i

-- what a followed edge from a place leads to: a component, or the path, in no earlier part
abbrev pub Onward : (ℕ → Option Mark) → List ℕ → ℕ → ℕ → Type 0
Onward marks starts i target =
    ((c : ℕ) × (marks target ≡ Some (Settled c)))
    ⊎ ((j : ℕ) × (marks target ≡ Some (OnPath j)) × ((start : ℕ) → Contains starts start → start ≤ i → start ≤ j))

pub record Walked (edges : List Edge) (marks : ℕ → Option Mark) (path starts : List ℕ) (pending : List Step) (visited : List ℕ) (count : ℕ) : Type 0 where
  pub placed : (i d : ℕ) → i < length path → marks (slice_index_or path i d) ≡ Some (OnPath i)
  pub on_path : (v i d : ℕ) → marks v ≡ Some (OnPath i) → (i < length path) × (slice_index_or path i d ≡ v)
  -- along the path each leads to those behind it, and within a part to those before it
  pub ahead : (u v i j : ℕ) → marks u ≡ Some (OnPath i) → marks v ≡ Some (OnPath j) → i ≤ j → Reaches edges u v
  pub back : (u v i j : ℕ) → marks u ≡ Some (OnPath i) → marks v ≡ Some (OnPath j) → i ≤ j → Together starts i j → Reaches edges v u
  pub settled : (u v c : ℕ) → marks u ≡ Some (Settled c) → marks v ≡ Some (Settled c) → Reaches edges u v
  pub counted : (v c : ℕ) → marks v ≡ Some (Settled c) → c < count
  pub named : (c : ℕ) → c < count → (v : ℕ) × (marks v ≡ Some (Settled c))
  pub steps : (s : Step) → Contains pending s → (u : ℕ) × (marks u ≡ Some (OnPath s.place)) × Contains edges (record { source = u; target = s.target })
  pub rising : AllPairs (λ s t. s.place ≤ t.place) pending
  pub followed : (e : Edge) (i : ℕ) → Contains edges e → marks e.source ≡ Some (OnPath i)
      → Contains pending (record { place = i; target = e.target }) ⊎ Onward marks starts i e.target
  pub closed : (e : Edge) (c : ℕ) → Contains edges e → marks e.source ≡ Some (Settled c) → (d : ℕ) × (marks e.target ≡ Some (Settled d)) × (d ≤ c)
  pub begun : (start : ℕ) → Contains starts start → start < length path
  pub ordered : AllPairs (λ a b. a < b) starts
  pub ground : 0 < length path → Contains starts 0
  pub seen : (v : ℕ) (m : Mark) → marks v ≡ Some m → Contains visited v
  pub seen_only : (v : ℕ) → Contains visited v → (m : Mark) × (marks v ≡ Some m)
  pub apart : AllPairs (λ a b. a ≢ b) visited

abbrev pub IsWalked : List Edge → Walk → Type 0
IsWalked edges w = Walked edges (at w) w.path.items w.starts.items w.pending.items w.visited.items (length w.components.items)

-- the last part begins at this place
abbrev pub IsLast : List ℕ → ℕ → Type 0
IsLast starts start = (front : List ℕ) × (starts ≡ front ++ start ∷ [])

-- what a walk has still to do: a step takes two turns, which may begin a part, and a part takes one to end
abbrev pub work : List Edge → (ℕ → Option Mark) → List ℕ → List Step → ℕ
work successors marks starts pending = 2 * (length pending + count_by (λ e. not (is_some (marks e.source))) successors) + length starts

abbrev pub work_of : List Edge → Walk → ℕ
work_of successors w = work successors (at w) w.starts.items w.pending.items

-- all that was visited still is
abbrev pub Grows : List ℕ → List ℕ → Type 0
Grows old new = (q : ℕ) → Contains old q → Contains new q
