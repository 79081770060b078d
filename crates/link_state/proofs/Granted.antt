-- What a call for a slot gives.
use Rattle.std.proofs.Common.{◌≡◌, ℕ, ◌+◌, ◌*◌, true, false, List, [], ◌∷◌, ◌++◌, length, refl, sym, ap, subst, ◌∙◌}
use Rattle.std.proofs.lemmas.Bool.{true≢false}
use Rattle.ld_base.specs.declared.linking.Choice.{Choice}
use Rattle.ld_base.specs.declared.linking.Choice.TheVariants.{Def, WeakZero, Missing}
use Rattle.history_event.specs.declared.event.Event.{Event}
use Rattle.history_event.specs.declared.event.Event.TheVariants.{Grant, Unresolved}
use Rattle.history_event.specs.declared.hart_end.HartEnd.TheVariants as ends
use Rattle.history_event.specs.declared.state.Standing.TheVariants.{Open}
use Rattle.history_state.specs.Addresses.{leads_to_code}
use Rattle.history_state.specs.After.{after}
use Rattle.history_state.specs.Allowed.{IsUnresolved, MayGrant}
use Rattle.history_state.specs.Relocating.{is_missing}
use Rattle.history_state.specs.Slots.{HasNoGrant}
use Rattle.history_state.specs.State.{State}
use Rattle.history_calls.specs.Answer.{granted}
use Rattle.history_calls.specs.Call.{resolves}
use Rattle.history_calls.specs.Ends.{no_slot, unloaded}
use Rattle.history_calls.specs.Gives.{by_event, is_granted, is_not_code, is_unresolved, to_end}
use Rattle.link_finds.specs.SlotChoosing.Choosing.{ChoosesSlot, IsFaultOf}
use Rattle.link_finds.specs.declared.slot_choosing.choosing.SlotChoice.{SlotChoice}
use Rattle.link_finds.specs.declared.slot_choosing.choosing.SlotFault.TheVariants as slots
use Rattle.history_calls.specs.declared.link_served.installs.Installs.{Installs}
use Rattle.link_state.specs.Granting.{EndsUnresolved, GivesIn, IsNotGranted}
use Rattle.link_state.specs.Table.{LinkTable, appended}
use Rattle.link_state.specs.declared.faults.GrantFault.TheVariants as faults
use Rattle.history_state.specs.Lemmas.Standing.{weak_leads}

-- ---- what the call gives

pub may_grant : (s : State) (hart owner eights number : ℕ) (x : SlotChoice) → HasNoGrant s hart → ChoosesSlot s owner eights x → x.code ≡ true → number ≡ length s.grants + 1
    → MayGrant s number hart owner x.slot x.choice x.value
may_grant s hart owner eights number x free chosen code numbered = record {
  numbered = numbered;
  free = free;
  may = record { is_slot = chosen.is_slot; code = sym (chosen.code ∙ ap (λ w. leads_to_code s w x.choice) chosen.lazy) ∙ code };
  is = chosen.value;
}

pub gives_grant : (table : LinkTable) (hart owner eights number slot : ℕ) (choice : Choice) (value : ℕ) → eights ≡ 8 * slot → MayGrant (after table.events) number hart owner slot choice value
    → GivesIn table hart (resolves owner eights) (Grant number hart owner slot choice value ∷ [])
    (granted (record { number = number; hart = hart; owner = owner; slot = slot; choice = choice; value = value; standing = Open }))
gives_grant table hart owner eights number slot choice value numbered may w same = by_event _ _ _ (is_granted owner eights slot number choice value numbered) may

pub may_not : (s : State) (hart owner eights : ℕ) (x : SlotChoice) → HasNoGrant s hart → ChoosesSlot s owner eights x → x.code ≡ false → IsUnresolved s hart owner x.slot x.choice
may_not s hart owner eights x free chosen code = record {
  free = free;
  may_not = record { is_slot = chosen.is_slot; code = sym (chosen.code ∙ ap (λ w. leads_to_code s w x.choice) chosen.lazy) ∙ code };
}

pub not_missing : (table new : LinkTable) (hart owner eights : ℕ) (x : SlotChoice) → HasNoGrant (after table.events) hart → ChoosesSlot (after table.events) owner eights x → x.code ≡ false
    → is_missing x.choice ≡ false → new ≡ appended table (Unresolved hart owner x.slot x.choice) → IsNotGranted table hart owner eights (faults.NotCode owner x.slot) new
not_missing table new hart owner eights x free chosen code some is = by x.choice refl some
  where
    may : (c : Choice) → x.choice ≡ c → IsUnresolved (after table.events) hart owner x.slot c
    may c e = subst (IsUnresolved (after table.events) hart owner x.slot) e (may_not (after table.events) hart owner eights x free chosen code)

    by : (c : Choice) → x.choice ≡ c → is_missing c ≡ false → EndsUnresolved table hart owner eights x.slot (ends.NotCode owner x.slot) new
    by (Def serial index) e kept = record {
      choice = Def serial index;
      gives = λ w same. by_event _ _ _ (is_not_code owner eights x.slot serial index chosen.numbered) (may (Def serial index) e);
      is = is ∙ ap (λ (c : Choice). appended table (Unresolved hart owner x.slot c)) e;
    }
    by WeakZero e kept = absurd (true≢false (sym (weak_leads (after table.events) x.lazy) ∙ ap (leads_to_code (after table.events) x.lazy) (sym e) ∙ sym chosen.code ∙ code))
    by Missing e kept = absurd (true≢false kept)

pub missing : (table new : LinkTable) (hart owner eights : ℕ) (x : SlotChoice) → HasNoGrant (after table.events) hart → ChoosesSlot (after table.events) owner eights x → x.code ≡ false
    → is_missing x.choice ≡ true → new ≡ appended table (Unresolved hart owner x.slot x.choice) → IsNotGranted table hart owner eights (faults.Missing owner x.slot) new
missing table new hart owner eights x free chosen code none is = by x.choice refl none
  where
    by : (c : Choice) → x.choice ≡ c → is_missing c ≡ true → EndsUnresolved table hart owner eights x.slot (ends.Unresolved owner x.slot) new
    by (Def serial index) e kept = absurd (true≢false (sym kept))
    by WeakZero e kept = absurd (true≢false (sym kept))
    by Missing e kept = record {
      choice = Missing;
      gives = λ w same. by_event _ _ _ (is_unresolved owner eights x.slot chosen.numbered)
          (subst (IsUnresolved (after table.events) hart owner x.slot) e (may_not (after table.events) hart owner eights x free chosen code));
      is = is ∙ ap (λ (c : Choice). appended table (Unresolved hart owner x.slot c)) e;
    }

pub gives_unloaded : (table : LinkTable) (hart owner eights : ℕ) → IsFaultOf (after table.events) owner eights slots.Unloaded → IsNotGranted table hart owner eights (faults.Unloaded owner) table
gives_unloaded table hart owner eights none = record { gives = λ w same. to_end _ _ (unloaded owner eights none); is = refl }

pub gives_no_slot : (table : LinkTable) (hart owner eights : ℕ) → IsFaultOf (after table.events) owner eights slots.NoSlot → IsNotGranted table hart owner eights (faults.NoSlot owner eights) table
gives_no_slot table hart owner eights none = record { gives = λ w same. to_end _ _ (no_slot owner eights none); is = refl }

-- ---- what contracts see

pub appended_is : (t : LinkTable) (harts : ℕ) (events : List Event) (made : Installs) (e : Event) → harts ≡ t.harts → events ≡ t.events ++ e ∷ [] → made ≡ t.made
    → record { harts = harts; events = events; made = made } ≡ appended t e
appended_is t harts events made e p q r = rw (p, q, r) refl
