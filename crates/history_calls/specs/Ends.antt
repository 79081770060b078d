-- Which calls end their hart, in which state, and as what.
use Rattle.std.specs.Prelude.{◌≡◌, ℕ, ◌*◌, Bool, true, false, Some, None, IsTrue}
use Rattle.std.specs.List.{slice_get}
use Rattle.history_event.specs.declared.hart_end.HartEnd.{HartEnd}
use Rattle.history_event.specs.declared.hart_end.HartEnd.TheVariants as ends
use Rattle.history_event.specs.declared.state.Module.{Module}
use Rattle.history_state.specs.Lookup.{HasNoBlock}
use Rattle.history_state.specs.Objects.{IsMapped}
use Rattle.history_state.specs.State.{State}
use Rattle.tls_blocks.specs.Numbers.{module_at}
use Rattle.history_calls.specs.Call.{Call, resolves, opens, looks_up, closes, unmaps, asks_fault, locates, writes, stops}

-- no object of this serial is mapped; the linker's own, 0, isn't either
abbrev pub IsUnloaded : State → ℕ → Type 0
IsUnloaded s owner = ¬ (IsMapped s owner)

-- the object is mapped, and eight times the number of one of its slots isn't this
pub record LacksSlot (s : State) (owner eights : ℕ) : Type 0 where
  pub mapped : IsMapped s owner
  pub none : (slot : ℕ) → eights ≡ 8 * slot → slice_get mapped.object.object.plt_relocs slot ≡ None

-- no module has this number
abbrev pub IsBadModule : State → ℕ → Type 0
IsBadModule s number = module_at s.modules number ≡ None

-- the hart has no block of the module yet, and there are no pages for one
pub record HasNoRoom (s : State) (hart number pages : ℕ) : Type 0 where
  pub of : Module
  pub there : module_at s.modules number ≡ Some of
  pub none : HasNoBlock s hart of.serial pages

-- these calls take memory; an unmapping and an end take none
abbrev pub takes_memory : Call → Bool
takes_memory (resolves owner eights) = true
takes_memory (opens ask) = true
takes_memory (looks_up ask) = true
takes_memory (closes handle) = true
takes_memory (unmaps set) = false
takes_memory asks_fault = true
takes_memory (locates number offset) = true
takes_memory (writes bytes) = true
takes_memory (stops reason) = false

-- the ends that a hart's own turns bring, its exit, its fuel, its accesses and its instructions; the others come of calls
abbrev pub is_own_end : HartEnd → Bool
is_own_end (ends.Exit code) = true
is_own_end ends.FuelOut = true
is_own_end (ends.NotMapped pc address) = true
is_own_end (ends.SlotStore pc address) = true
is_own_end (ends.BadInstruction pc word) = true
is_own_end (ends.Misaligned pc address) = true
is_own_end (ends.Break pc) = true
is_own_end (ends.BadModule number) = false
is_own_end (ends.Unloaded owner) = false
is_own_end (ends.NoSlot owner eights) = false
is_own_end (ends.Unresolved owner slot) = false
is_own_end (ends.NotCode owner slot) = false
is_own_end (ends.AddressSpaceFull pages) = false
is_own_end ends.Memory = false

-- the call of the hart comes to this end
pub data EndsAs (s : State) (hart : ℕ) : Call → HartEnd → Type 0 where
  unloaded : (owner eights : ℕ) → IsUnloaded s owner → EndsAs s hart (resolves owner eights) (ends.Unloaded owner)
  no_slot : (owner eights : ℕ) → LacksSlot s owner eights → EndsAs s hart (resolves owner eights) (ends.NoSlot owner eights)
  bad_module : (number offset : ℕ) → IsBadModule s number → EndsAs s hart (locates number offset) (ends.BadModule number)
  no_room : (number offset pages : ℕ) → HasNoRoom s hart number pages → EndsAs s hart (locates number offset) (ends.AddressSpaceFull pages)
  no_memory : (call : Call) → IsTrue (takes_memory call) → EndsAs s hart call ends.Memory
  asked : (reason : HartEnd) → IsTrue (is_own_end reason) → EndsAs s hart (stops reason) reason
