-- The objects of a state, by serial and by namespace.
use Rattle.std.specs.Prelude.{◌≡◌, ℕ, Bool, true, false, ◌==◌, List, [], ◌∷◌, flat_map, find, Option, Contains}
use Rattle.std.specs.List.{list_any}
use Rattle.ld_base.specs.declared.linking.Loaded.{Loaded}
use Rattle.ld_base.specs.declared.linking.State.TheVariants as states
use Rattle.history_event.specs.declared.state.Loading.{Loading}
use Rattle.scope_rule.specs.Loading.{with_serial}
use Rattle.scope_rule.specs.declared.namespace.Namespace.{Namespace}
use Rattle.history_state.specs.State.{State}

-- it is one of the list
abbrev pub has : List ℕ → ℕ → Bool
has xs x = list_any (λ y. y == x) xs

abbrev pub serial_of : Loaded → ℕ
serial_of o = o.serial

-- the namespace has this number
abbrev pub has_id : ℕ → Namespace → Bool
has_id id ns = ns.id == id

abbrev pub namespace_of : State → ℕ → Option Namespace
namespace_of s id = find (has_id id) s.namespaces

abbrev pub has_namespace : State → ℕ → Bool
has_namespace s id = list_any (has_id id) s.namespaces

-- all objects that are mapped
abbrev pub mapped : State → List Loaded
mapped s = flat_map (λ ns. ns.objects) s.namespaces

-- the mapped object with a serial
abbrev pub object_at : State → ℕ → Option Loaded
object_at s serial = with_serial (mapped s) serial

-- the namespace of an object
abbrev pub has_object : ℕ → Namespace → Bool
has_object serial ns = list_any (λ o. o.serial == serial) ns.objects

abbrev pub home : State → ℕ → Option Namespace
home s serial = find (has_object serial) s.namespaces

-- an object with the serial is mapped
pub record IsMapped (s : State) (serial : ℕ) : Type 0 where
  pub namespace : Namespace
  pub object : Loaded
  pub there : Contains s.namespaces namespace
  pub inside : Contains namespace.objects object
  pub is : object.serial ≡ serial

-- what an object is doing
abbrev pub is_ready : Loaded → Bool
is_ready o = elim o.state [ states.Ready ↦ true | _ ↦ false ]

-- nothing was loaded yet: the next opening is startup's
abbrev pub is_none_loaded : List Loading → Bool
is_none_loaded [] = true
is_none_loaded (l ∷ rest) = false

abbrev pub is_startup : State → Bool
is_startup s = is_none_loaded s.loadings

-- the objects that startup loaded
abbrev pub first_serials : List Loading → List ℕ
first_serials [] = []
first_serials (l ∷ rest) = l.serials

abbrev pub startup_serials : State → List ℕ
startup_serials s = first_serials s.loadings
