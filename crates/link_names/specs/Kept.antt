-- Search lists that are kept of namespaces: for the code of this crate alone.
use Rattle.std.specs.Prelude.{◌≡◌, ℕ, nat_eq, List, Option, Some, IsTrue}
use Rattle.std.specs.HashMap.{get}
use Rattle.std.specs.List.{slice_get}
use Rattle.history_state.specs.Objects.{has_object}
use Rattle.link_names.specs.declared.kept.KeptLists.{KeptLists}
use Rattle.scope_rule.specs.Seen.{seen_in}
use Rattle.scope_rule.specs.declared.namespace.Namespace.{Namespace}
use Rattle.scope_lists.specs.Lists.{AreListsOf, IsListed}
use Rattle.scope_lists.specs.declared.lists.SearchLists.{SearchLists}

-- the lists that are kept of the namespace at a place
abbrev pub kept_at : KeptLists → ℕ → Option SearchLists
kept_at kept place = get nat_eq kept.by_place place

-- what is kept of a namespace are its lists
abbrev pub AreKept : List Namespace → KeptLists → Type 0
AreKept namespaces kept = (place : ℕ) (ns : Namespace) (lists : SearchLists) → slice_get namespaces place ≡ Some ns → kept_at kept place ≡ Some lists
    → AreListsOf (seen_in ns) lists

-- lists are kept of the namespace at a place, and know the Scope of an object
pub record IsMade (kept : KeptLists) (owner place : ℕ) : Type 0 where
  pub lists : SearchLists
  pub at : kept_at kept place ≡ Some lists
  pub listed : IsListed lists owner

-- the namespace at a place has an object
pub record IsHome (namespaces : List Namespace) (owner place : ℕ) : Type 0 where
  pub namespace : Namespace
  pub at : slice_get namespaces place ≡ Some namespace
  pub has : IsTrue (has_object owner namespace)
