-- Tasks that need one another: of those that may be done the one of the least number is next.
use Rattle.std.specs.Prelude.{◌≡◌, ℕ, ◌<◌, ◌⊎◌, Bool, true, false, List, length, Contains, filter, nat_eq, slice_index_or}
use Rattle.std.specs.BTreeSet as tree
use Rattle.std.specs.HashMap as hash
use Rattle.std.specs.Option.{unwrap_or}
use Rattle.std.specs.Ordering.{nat_cmp}
use Rattle.history_graph.specs.declared.graph.Edge.{Edge}
use Rattle.history_graph.specs.Reached.{leads_from}
use Rattle.init_order.specs.declared.tasks.Tasks.{Tasks}

-- a task is to be looked at, or isn't done yet
abbrev pub is_ready : Tasks → ℕ → Bool
is_ready tasks q = tree.contains nat_cmp tasks.ready q

abbrev pub is_left : Tasks → ℕ → Bool
is_left tasks q = tree.contains nat_cmp tasks.left q

-- so many of the needs of a task, from the first on, are known to be done
abbrev pub met_of : Tasks → ℕ → ℕ
met_of tasks q = unwrap_or (hash.get nat_eq tasks.met q) 0

-- an edge the other way round
abbrev pub flip_of : Edge → Edge
flip_of e = record { source = e.target; target = e.source }

-- of these edges the first n lead to what is done
abbrev pub AreMet : (ℕ → Bool) → List Edge → ℕ → Type 0
AreMet left edges n = (j : ℕ) (d : Edge) → j < n → j < length edges → left (slice_index_or edges j d).target ≡ false

-- a task needs one that isn't done
abbrev pub Blocked : List Edge → (ℕ → Bool) → ℕ → Type 0
Blocked needs left t = (e : Edge) × Contains needs e × (e.source ≡ t) × (left e.target ≡ true)

-- each task that isn't done is to be looked at, or is blocked
pub record IsPending (needs users : List Edge) (ready left : ℕ → Bool) (met : ℕ → ℕ) : Type 0 where
  pub waits : (t : ℕ) → left t ≡ true → (ready t ≡ true) ⊎ Blocked needs left t
  pub used : (e : Edge) → Contains needs e → Contains users (flip_of e)
  pub past : (t : ℕ) → AreMet left (filter (leads_from t) needs) (met t)

abbrev pub ArePending : Tasks → Type 0
ArePending tasks = IsPending tasks.needs tasks.users (is_ready tasks) (is_left tasks) (met_of tasks)

-- the task wasn't done, all that it needs was, and each lower one that wasn't done was blocked
pub record IsNextTask (needs : List Edge) (left : ℕ → Bool) (task : ℕ) : Type 0 where
  pub fresh : left task ≡ true
  pub met : (e : Edge) → Contains needs e → e.source ≡ task → left e.target ≡ false
  pub least : (t : ℕ) → t < task → left t ≡ true → Blocked needs left t
