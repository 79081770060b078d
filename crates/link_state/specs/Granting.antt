-- What a call for a slot gives, and which grant of a hart is open.
use Rattle.std.specs.Prelude.{◌≡◌, ℕ, ◌==◌, Bool, List, [], ◌∷◌, length, Contains}
use Rattle.history_journal.specs.Following.{machine_of}
use Rattle.ld_base.specs.declared.linking.Choice.{Choice}
use Rattle.history_event.specs.declared.event.Event.TheVariants.{Grant, Unresolved}
use Rattle.history_event.specs.declared.handed.Granted.{Granted}
use Rattle.history_event.specs.declared.hart_end.HartEnd.{HartEnd}
use Rattle.history_event.specs.declared.hart_end.HartEnd.TheVariants as ends
use Rattle.history_event.specs.declared.state.Granting.{Granting}
use Rattle.history_event.specs.declared.state.Standing.TheVariants.{Open}
use Rattle.history_state.specs.After.{after}
use Rattle.history_state.specs.Bound.{lazy_word}
use Rattle.history_state.specs.Setting.{Setting}
use Rattle.history_state.specs.Slots.{IsSlot}
use Rattle.history_state.specs.State.{State}
use Rattle.history_calls.specs.Answer.{Answer, granted, over}
use Rattle.history_calls.specs.Call.{Call, resolves}
use Rattle.history_calls.specs.Gives.{Gives}
use Rattle.history_event.specs.declared.event.Event.{Event}
use Rattle.seg_image.specs.Pages.{guest_address}
use Rattle.link_state.specs.Table.{LinkTable, appended}
use Rattle.link_state.specs.declared.faults.GrantFault.{GrantFault}
use Rattle.link_state.specs.declared.faults.GrantFault.TheVariants as faults

-- the call gives this, whatever a run with so many harts is given
abbrev pub GivesIn : LinkTable → ℕ → Call → List Event → Answer → Type 0
GivesIn table hart call given answer = (w : Setting) → w.machine ≡ machine_of table.harts → Gives w table.events hart call given answer

-- a grant of the slot: the number of its event, where the slot stands, and what it holds until it is bound
pub record IsGranted (table : LinkTable) (hart owner eights : ℕ) (g : Granted) (new : LinkTable) : Type 0 where
  pub slot : ℕ
  pub gives : GivesIn table hart (resolves owner eights) (Grant g.grant hart owner slot g.choice g.value ∷ [])
      (granted (record { number = g.grant; hart = hart; owner = owner; slot = slot; choice = g.choice; value = g.value; standing = Open }))
  pub is : new ≡ appended table (Grant g.grant hart owner slot g.choice g.value)
  pub event : g.event ≡ length new.events
  pub of : g.owner ≡ owner
  pub is_slot : IsSlot (after table.events) owner slot g.choice
  pub address : g.slot ≡ guest_address is_slot.object.base is_slot.reloc.place
  pub lazy : g.lazy ≡ lazy_word is_slot.object is_slot.reloc

-- nothing has changed, and the hart ends
pub record EndsUnchanged (table : LinkTable) (hart owner eights : ℕ) (reason : HartEnd) (new : LinkTable) : Type 0 where
  pub gives : GivesIn table hart (resolves owner eights) [] (over reason)
  pub is : new ≡ table

-- the slot may not be bound, which is noted, and the hart ends
pub record EndsUnresolved (table : LinkTable) (hart owner eights slot : ℕ) (reason : HartEnd) (new : LinkTable) : Type 0 where
  pub choice : Choice
  pub gives : GivesIn table hart (resolves owner eights) (Unresolved hart owner slot choice ∷ []) (over reason)
  pub is : new ≡ appended table (Unresolved hart owner slot choice)

abbrev pub IsNotGranted : LinkTable → ℕ → ℕ → ℕ → GrantFault → LinkTable → Type 0
IsNotGranted table hart owner eights (faults.Unloaded serial) new = EndsUnchanged table hart owner eights (ends.Unloaded serial) new
IsNotGranted table hart owner eights (faults.NoSlot serial at) new = EndsUnchanged table hart owner eights (ends.NoSlot serial at) new
IsNotGranted table hart owner eights (faults.Missing serial slot) new = EndsUnresolved table hart owner eights slot (ends.Unresolved serial slot) new
IsNotGranted table hart owner eights (faults.NotCode serial slot) new = EndsUnresolved table hart owner eights slot (ends.NotCode serial slot) new
IsNotGranted table hart owner eights faults.Memory new = new ≡ table

-- a grant of the hart
abbrev pub is_by : ℕ → Granting → Bool
is_by hart g = g.hart == hart

-- the hart has an open grant of this number
pub record HasOpenGrant (s : State) (hart number : ℕ) : Type 0 where
  pub grant : Granting
  pub there : Contains s.grants grant
  pub pending : grant.standing ≡ Open
  pub of : grant.hart ≡ hart
  pub numbered : grant.number ≡ number
