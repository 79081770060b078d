-- When search lists stay: for the code of this crate alone.
use Rattle.std.specs.Prelude.{◌≡◌, ℕ, ◌==◌, Bool, true, false, not, List, [], find, Some}
use Rattle.std.specs.List.{list_all, list_any}
use Rattle.ld_base.specs.declared.linking.Loaded.{Loaded}
use Rattle.history_state.specs.Objects.{has_id}
use Rattle.history_state.specs.Step.{lowered_open}
use Rattle.scope_rule.specs.declared.namespace.Namespace.{Namespace}
use Rattle.scope_rule.specs.declared.namespace.OpenRec.{OpenRec}

-- the root is open in the namespace with the number
pub record IsOpenIn (namespaces : List Namespace) (id root : ℕ) : Type 0 where
  pub namespace : Namespace
  pub found : find (has_id id) namespaces ≡ Some namespace
  pub held : list_any (λ r. r.root == root) namespace.opens ≡ true

-- a root that is open is opened again, without new objects, and becomes no global one
pub record OpensAgain (namespaces : List Namespace) (id : ℕ) (added : List Loaded) (root : ℕ) (is_global : Bool) : Type 0 where
  pub local : is_global ≡ false
  pub none : added ≡ []
  pub is_open : IsOpenIn namespaces id root

-- an opening counts still where one of the handle less does
abbrev pub counts_still : ℕ → OpenRec → Bool
counts_still handle r = not ((lowered_open handle r).count == 0)

-- nothing is taken, and no opening goes where one of the handle less counts
pub record LowersAlone (namespaces : List Namespace) (handle : ℕ) (set : List ℕ) : Type 0 where
  pub none : set ≡ []
  pub stay : list_all (λ ns. list_all (counts_still handle) ns.opens) namespaces ≡ true
