-- The tasks of an initialisation: a component opens when all that it leads to is whole, an object starts when its component is open,
-- and a component is whole when it is open and its objects have started.
use Rattle.std.specs.Prelude.{◌≡◌, ℕ, ◌+◌, ◌*◌, ◌<◌, ◌≤◌, ◌⊎◌, ◌≢◌, Bool, true, false, AllPairs, List, length, take, Option, Some, Contains, slice_index_or}
use Rattle.std.specs.List.{slice_get}
use Rattle.history_graph.specs.declared.graph.Edge.{Edge}
use Rattle.history_graph.specs.Initialised.{InitNext, InitOrder, Reaches}

-- the numbers of tasks: two for each of so many components, and behind them one for each object
abbrev pub opens : ℕ → ℕ
opens c = 2 * c

abbrev pub whole : ℕ → ℕ
whole c = 2 * c + 1

abbrev pub starts : ℕ → ℕ → ℕ
starts count place = 2 * count + place

-- the first task needs the second
abbrev pub need : ℕ → ℕ → Edge
need a b = record { source = a; target = b }

-- a need of one of the first n objects, of one of the first n components, of an edge between two
abbrev pub IsStartNeed : (ℕ → Option ℕ) → ℕ → List ℕ → ℕ → Edge → Type 0
IsStartNeed number count line n p = (place : ℕ) × (c : ℕ) × (place < n) × ((d : ℕ) → number (slice_index_or line place d) ≡ Some c)
    × ((p ≡ need (starts count place) (opens c)) ⊎ (p ≡ need (whole c) (starts count place)))

abbrev pub IsWholeNeed : ℕ → Edge → Type 0
IsWholeNeed n p = (c : ℕ) × (c < n) × (p ≡ need (whole c) (opens c))

abbrev pub IsLedNeed : List Edge → (ℕ → Option ℕ) → Edge → Type 0
IsLedNeed edges number p =
    (e : Edge) × (a : ℕ) × (b : ℕ) × Contains edges e × (number e.source ≡ Some a) × (number e.target ≡ Some b) × (a ≡ b → ⊥) × (p ≡ need (opens a) (whole b))

-- a need is one of those that there have to be
abbrev pub IsNeed : List Edge → (ℕ → Option ℕ) → ℕ → List ℕ → Edge → Type 0
IsNeed edges number count line p = IsStartNeed number count line (length line) p ⊎ (IsWholeNeed count p ⊎ IsLedNeed edges number p)

-- these edges and no others are new
pub record Adds (old new : List Edge) (P : Edge → Type 0) : Type 0 where
  pub stay : (p : Edge) → Contains old p → Contains new p
  pub put : (p : Edge) → P p → Contains new p
  pub only : (p : Edge) → Contains new p → Contains old p ⊎ P p

-- each of the first n elements of a list, where it stands first
pub record AreFirstsTo (xs : List ℕ) (n : ℕ) (line : List ℕ) : Type 0 where
  pub apart : AllPairs (λ a b. a ≢ b) line
  pub each : (d : ℕ) → Contains (take n xs) d → Contains line d
  pub stands : (k o : ℕ) → slice_get line k ≡ Some o
      → (place : ℕ) × (slice_get xs place ≡ Some o) × ((earlier e : ℕ) → earlier < place → slice_get xs earlier ≡ Some e → Contains (take k line) e)

abbrev pub AreFirsts : List ℕ → List ℕ → Type 0
AreFirsts xs line = AreFirstsTo xs (length xs) line

-- the needs of the objects of a line, whose components are numbered so that no edge leads to a higher one
pub record IsPlan (edges : List Edge) (number : ℕ → Option ℕ) (count : ℕ) (line : List ℕ) (needs : List Edge) : Type 0 where
  pub numbered : (place d : ℕ) → place < length line → (c : ℕ) × (number (slice_index_or line place d) ≡ Some c)
  pub counted : (q c : ℕ) → number q ≡ Some c → c < count
  pub closed : (e : Edge) (c : ℕ) → Contains edges e → number e.source ≡ Some c → (d : ℕ) × (number e.target ≡ Some d) × (d ≤ c)
  pub joined : (u v c : ℕ) → number u ≡ Some c → number v ≡ Some c → Reaches edges u v
  pub all : (p : Edge) → IsNeed edges number count line p → Contains needs p
  pub only : (p : Edge) → Contains needs p → IsNeed edges number count line p

-- the objects that were started so far, each the next then, by the tasks that are left
pub record AreStarted (edges : List Edge) (xs : List ℕ) (count : ℕ) (line : List ℕ) (needs : List Edge) (left : ℕ → Bool) (order : List ℕ) : Type 0 where
  pub each : (k o : ℕ) → slice_get order k ≡ Some o → InitNext edges xs (take k order) o
  pub told : (place d : ℕ) → place < length line → left (starts count place) ≡ false → Contains order (slice_index_or line place d)
  pub kept : (place d : ℕ) → place < length line → Contains order (slice_index_or line place d) → left (starts count place) ≡ false
  pub closed : (p : Edge) → Contains needs p → left p.source ≡ false → left p.target ≡ false
  pub below : (t : ℕ) → left t ≡ true → t < 2 * count + length line

-- whatever edges these are the needs of, and whatever list these are the first of, this is the order in which the objects are initialised
abbrev pub AreInTurn : ℕ → List ℕ → List Edge → List ℕ → Type 0
AreInTurn first line needs order = (edges : List Edge) (xs : List ℕ) (number : ℕ → Option ℕ) (count : ℕ) → first ≡ 2 * count
    → IsPlan edges number count line needs → AreFirsts xs line → InitOrder edges xs order
