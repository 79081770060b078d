-- What was read of a mapped object, and what a state is before startup's opening.
use Rattle.std.specs.Prelude.{◌≡◌, ℕ, Bool, List, [], ◌∷◌, Ok, IsTrue}
use Rattle.ld_base.specs.declared.linking.Loaded.{Loaded}
use Rattle.scope_rule.specs.declared.namespace.Namespace.{Namespace}
use Rattle.history_state.specs.Laws.{IsIn}
use Rattle.history_state.specs.Objects.{is_startup}
use Rattle.history_state.specs.Setting.{Machine}
use Rattle.history_state.specs.State.{State, empty_namespace}

-- the machine's verdict on some bytes is the object with its hash table; the program alone was read as one
pub record WasRead (m : Machine) (o : Loaded) : Type 0 where
  pub bytes : List ℕ
  pub program : Bool
  pub is : m.verdict bytes program ≡ Ok (o.object, o.table)
  pub first : IsTrue program → o.serial ≡ 1

abbrev pub ObjectsAreRead : Machine → State → Type 0
ObjectsAreRead m s = (ns : Namespace) (o : Loaded) → IsIn s ns o → WasRead m o

-- nothing is mapped or reserved, and nothing was ever loaded, granted, closed or initialised
pub record IsUntouched (s : State) : Type 0 where
  pub namespaces : s.namespaces ≡ empty_namespace 0 ∷ []
  pub next : s.next ≡ 1
  pub ranges : s.ranges ≡ []
  pub modules : s.modules ≡ []
  pub statics : s.statics ≡ record { size = 0; tp = 0 }
  pub generation : s.generation ≡ 0
  pub blocks : s.blocks ≡ []
  pub grants : s.grants ≡ []
  pub chosen : s.chosen ≡ []
  pub images : s.images ≡ []
  pub pinned : s.pinned ≡ []
  pub closings : s.closings ≡ []
  pub inits : s.inits ≡ []
  pub finis : s.finis ≡ []

-- while nothing was loaded
abbrev pub BeginsUntouched : State → Type 0
BeginsUntouched s = IsTrue (is_startup s) → IsUntouched s
