-- The functions that an opening, a closing and the end of a run bring: constructors and destructors (gABI, "Initialization and Termination Functions").
use Rattle.std.specs.Prelude.{◌≡◌, ℕ, ◌+◌, ◌*◌, ◌/◌, ◌⊎◌, List, [], ◌∷◌, ◌++◌, map, reverse, take, Option, Some, None, Contains}
use Rattle.std.specs.List.{flat_map, range_with_len, slice_get}
use Rattle.ld_base.specs.declared.object.Span.{Span}
use Rattle.history_event.specs.declared.handed.Function.{Function}
use Rattle.history_event.specs.declared.state.Loading.{Loading}
use Rattle.history_graph.specs.Initialised.{InitNext, InitOrder, program_last}
use Rattle.seg_image.specs.Pages.{guest_address}
use Rattle.history_state.specs.Links.{finis_of, found_edges}
use Rattle.history_state.specs.Memory.{image_of, word_in}
use Rattle.history_state.specs.Objects.{mapped, serial_of}
use Rattle.history_state.specs.State.{Linked, State}

-- ---- of one object, by its image as it was relocated

-- the entries of an array
abbrev pub entries : Linked → Option Span → List ℕ
entries m None = []
entries m (Some array) = map (λ k. word_in m (guest_address m.base (array.start + 8 * k))) (range_with_len 0 (array.size / 8))

-- a single function
abbrev pub entry : Linked → Option ℕ → List ℕ
entry m None = []
entry m (Some v) = guest_address m.base v ∷ []

-- DT_INIT, then DT_INIT_ARRAY in order
unfoldable pub constructors : Linked → List ℕ
constructors m = entry m m.object.init ++ entries m m.object.init_array

-- DT_FINI_ARRAY backwards, then DT_FINI
unfoldable pub destructors : Linked → List ℕ
destructors m = reverse (entries m m.object.fini_array) ++ entry m m.object.fini

-- DT_PREINIT_ARRAY, of the program alone
unfoldable pub preinits : Linked → List ℕ
preinits m = entries m m.object.preinit

-- ---- of some objects, in their order

abbrev pub object_of : Function → ℕ
object_of f = f.object

-- the addresses are those of an image that is there
abbrev pub AreAddresses : (Linked → List ℕ) → List ℕ → Option Linked → Type 0
AreAddresses of addresses (Some m) = addresses ≡ of m
AreAddresses of addresses None = ⊥

abbrev pub AreOf : State → (Linked → List ℕ) → List Function → Type 0
AreOf s of functions = (f : Function) → Contains functions f → AreAddresses of f.addresses (image_of s f.object)

-- the constructors of an opening's new objects: each object is initialised when it is its turn
pub record AreConstructors (s : State) (news : List ℕ) (functions : List Function) : Type 0 where
  pub order : InitOrder (flat_map found_edges (mapped s)) (program_last (Some 1) news) (map object_of functions)
  pub addresses : AreOf s constructors functions

-- what runs before all is put in front of the first object's
abbrev pub preceded : List ℕ → List Function → List Function
preceded before [] = []
preceded before (f ∷ rest) = record f { addresses = before ++ f.addresses } ∷ rest

-- startup's constructors: the program's DT_PREINIT_ARRAY comes first
pub record AreStartConstructors (s : State) (news : List ℕ) (functions : List Function) : Type 0 where
  pub plain : List Function
  pub are : AreConstructors s news plain
  pub before : List ℕ
  pub program : AreAddresses preinits before (image_of s 1)
  pub is : functions ≡ preceded before plain

-- the destructors of a set: those that were initialised and not finalised, the latest first
pub record AreDestructors (s : State) (set : List ℕ) (functions : List Function) : Type 0 where
  pub order : map object_of functions ≡ finis_of s set
  pub addresses : AreOf s destructors functions

-- at the end of a run those of all mapped objects
abbrev pub AreFinalDestructors : State → List Function → Type 0
AreFinalDestructors s functions = AreDestructors s (map serial_of (mapped s)) functions

-- ---- one object after another

-- these objects of a loading aren't initialised yet, in the order in which they will be
pub record AreLeft (s : State) (loading : Loading) (rest : List ℕ) : Type 0 where
  pub each : (k o : ℕ) → slice_get rest k ≡ Some o
      → InitNext (flat_map found_edges (mapped s)) (program_last (Some 1) loading.serials) (s.inits ++ take k rest) o
  pub all : (d : ℕ) → Contains (program_last (Some 1) loading.serials) d → Contains s.inits d ⊎ Contains rest d

-- ---- what passes at once

-- the objects in front that have no functions get their events in the turn of the event before them
abbrev pub passed : List Function → List ℕ
passed [] = []
passed (f ∷ rest) = elim f.addresses [ [] ↦ f.object ∷ passed rest | a ∷ more ↦ [] ]

-- and these are left to run
abbrev pub left : List Function → List Function
left [] = []
left (f ∷ rest) = elim f.addresses [ [] ↦ left rest | a ∷ more ↦ f ∷ rest ]
