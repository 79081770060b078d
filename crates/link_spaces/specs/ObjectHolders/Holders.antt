-- Objects in whose pages an address lies.
use Rattle.std.specs.Prelude.{◌≡◌, ℕ, false, List, Contains, IsTrue}
use Rattle.ld_base.specs.declared.linking.Loaded.{Loaded}
use Rattle.scope_rule.specs.declared.namespace.Namespace.{Namespace}
use Rattle.history_state.specs.Memory.{holds}
use Rattle.seg_image.specs.Accepted.{Accepted}

-- images can be made of all objects
abbrev pub AllAccepted : List Namespace → Type 0
AllAccepted namespaces = (ns : Namespace) (o : Loaded) → Contains namespaces ns → Contains ns.objects o → Accepted o.object

-- one of the objects, of this serial, holds the address; or none does
pub record IsAmong (objects : List Loaded) (a serial : ℕ) : Type 0 where
  pub object : Loaded
  pub inside : Contains objects object
  pub is : object.serial ≡ serial
  pub has : IsTrue (holds object a)

abbrev pub HoldsNone : List Loaded → ℕ → Type 0
HoldsNone objects a = (o : Loaded) → Contains objects o → holds o a ≡ false

-- an object of the serial, of the namespace with the number, holds the address; or none does
pub record IsFound (namespaces : List Namespace) (a id serial : ℕ) : Type 0 where
  pub namespace : Namespace
  pub there : Contains namespaces namespace
  pub numbered : namespace.id ≡ id
  pub among : IsAmong namespace.objects a serial

abbrev pub HasNone : List Namespace → ℕ → Type 0
HasNone namespaces a = (ns : Namespace) → Contains namespaces ns → HoldsNone ns.objects a
