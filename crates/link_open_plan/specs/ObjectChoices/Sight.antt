-- What choosing looks at, and the states that have it.
use Rattle.std.specs.Prelude.{◌≡◌, ℕ, ◌<◌, ◌^◌, Bool, List, length, map, Option, Some, None, Contains, IsTrue, if◌then◌else◌}
use Rattle.std.specs.List.{AllByRecursion, slice_get}
use Rattle.ld_base.specs.declared.fault.DlFault.{DlFault}
use Rattle.ld_base.specs.declared.linking.Choice.{Choice}
use Rattle.ld_base.specs.declared.linking.Choice.TheVariants.{WeakZero}
use Rattle.ld_base.specs.declared.linking.Loaded.{Loaded}
use Rattle.ld_base.specs.declared.object.Reloc.{Reloc}
use Rattle.history_state.specs.Bound.{place_of}
use Rattle.history_state.specs.Relocating.{slot_fault_by}
use Rattle.history_state.specs.State.{State}
use Rattle.relocator.specs.declared.binding.ModulePlace.{ModulePlace}
use Rattle.scope_rule.specs.Relocation.{choice_at, names_symbols}
use Rattle.scope_rule.specs.Seen.{Seen, seen}
use Rattle.scope_lists.specs.Lists.{AreListed, AreListsOf}
use Rattle.link_finds.specs.SeenChoices.Seeing.{ShowsObjects}
use Rattle.seg_image.specs.Accepted.{Accepted}
use Rattle.sym_lookup.specs.Looking.{HaveTables}
use Rattle.link_open_plan.specs.declared.object_choices.sight.Sight.{Sight}

-- the state has each object that is seen, and its modules are at these places
pub record Shows (s : State) (ns : Seen) (places : List ModulePlace) : Type 0 where
  pub objects : ShowsObjects s ns
  pub modules : map place_of s.modules ≡ places

-- ---- for the code of this crate alone

-- the lists are those of what is seen and have the scopes of the new objects, each object has its table and may have an image,
-- and the new ones name symbols of their own
pub record CanSee (x : Sight) : Type 0 where
  pub lists : AreListsOf (seen x.view) x.lists.now
  pub listed : AreListed (seen x.view) (length x.view.objects.now) x.lists.now
  pub tables : HaveTables (seen x.view)
  pub accepted : (o : Loaded) → Contains (seen x.view).objects o → Accepted o.object
  pub named : (o : Loaded) → Contains x.view.added.now o → IsTrue (names_symbols o.object)

-- a new object, at its place in load order
pub record IsNew (x : Sight) (place : ℕ) (o : Loaded) : Type 0 where
  pub there : slice_get (seen x.view).objects place ≡ Some o
  pub added : Contains x.view.added.now o

-- each relocation names one of so many symbols, and each slot stands low
abbrev pub AreNamed : ℕ → List Reloc → Type 0
AreNamed count relocs = AllByRecursion (λ r. r.symbol < count) relocs

abbrev pub AreSlots : ℕ → List Reloc → Type 0
AreSlots count slots = AllByRecursion (λ r. (r.symbol < count) × (r.place < 2 ^ 63)) slots

-- what a slot has in the list of choices, and what it is refused for, where it is bound at load or stays lazy
abbrev pub chosen_at : Seen → Bool → Loaded → Reloc → Choice
chosen_at ns bound o r = if bound then choice_at ns o r else WeakZero

abbrev pub faults_at : State → Seen → Bool → Loaded → Reloc → Option DlFault
faults_at s ns bound o r = if bound then slot_fault_by s o r (choice_at ns o r) else None
