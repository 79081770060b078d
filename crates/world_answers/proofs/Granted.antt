-- Slots that are granted, and those that aren't.
use Rattle.std.proofs.Common.{◌≡◌, ℕ, [], ◌∷◌, Some, refl, sym, ap, subst, ◌∙◌}
use Rattle.std.specs.List.{Contains, slice_get}
use Rattle.std.proofs.lemmas.List.{append-nil}
use Rattle.hart_moves.specs.Harts.{Offered}
use Rattle.hart_moves.specs.Moves.{IsOffer}
use Rattle.hart_seat.specs.HartParts.Views.{offered_of}
use Rattle.hart_seat.specs.declared.hart_parts.due.Offered.{Offered as code_offered}
use Rattle.ld_base.specs.declared.linking.Loaded.{Loaded}
use Rattle.ld_base.specs.declared.object.Object.{Object}
use Rattle.history_event.specs.declared.event.Event.{Event}
use Rattle.history_event.specs.declared.event.Event.TheVariants.{Ended, Grant, Unresolved}
use Rattle.history_event.specs.declared.handed.Granted.{Granted}
use Rattle.history_event.specs.declared.hart_end.HartEnd.{HartEnd}
use Rattle.history_event.specs.declared.hart_end.HartEnd.TheVariants as ends
use Rattle.history_event.specs.declared.state.Granting.{Granting}
use Rattle.history_event.specs.declared.state.Standing.TheVariants.{Open}
use Rattle.history_state.specs.After.{after}
use Rattle.history_state.specs.Laws.{FindsImage, slot_address}
use Rattle.history_state.specs.Memory.{image_of}
use Rattle.history_state.specs.Objects.{mapped}
use Rattle.history_state.specs.Slots.{IsSlot}
use Rattle.history_state.specs.State.{State}
use Rattle.history_state.specs.Lemmas.History.{after_push}
use Rattle.history_state.specs.Lemmas.Lists.{in_flat}
use Rattle.history_calls.specs.Answer.{granted, over}
use Rattle.history_calls.specs.Call.{resolves}
use Rattle.history_calls.specs.Ends.{no_memory}
use Rattle.history_calls.specs.Gives.{to_end}
use Rattle.link_state.specs.Granting.{EndsUnchanged, EndsUnresolved, IsGranted, IsNotGranted}
use Rattle.link_state.specs.Table.{LinkTable, appended}
use Rattle.link_state.specs.declared.faults.GrantFault.{GrantFault}
use Rattle.link_state.specs.declared.faults.GrantFault.TheVariants as faults
use Rattle.relocator.specs.Relocated.{moved_word}
use Rattle.scope_rule.specs.declared.namespace.Namespace.{Namespace}
use Rattle.seg_image.specs.Pages.{guest_address}
use Rattle.world_memory.specs.TurnAnswers.Answered.{IsAnswered}
use Rattle.world_memory.specs.declared.turn_answers.answered.Answered.{Answered}
use Rattle.world_memory.specs.declared.turn_answers.answered.Answered.TheVariants as answered
use Rattle.world_answers.specs.Answers.{AnswersIn, MayEndIn}
use Rattle.world_answers.specs.Faults.{grant_end, offer_of}
use Rattle.world_answers.proofs.Came.{goes_on, over_in, still_may_end}

-- ---- a grant

abbrev granting : ℕ → ℕ → ℕ → Granted → Granting
granting h owner slot g = record { number = g.grant; hart = h; owner = owner; slot = slot; choice = g.choice; value = g.value; standing = Open }

abbrev offered : (number slot lazy value : ℕ) → Offered
offered number slot lazy value = record { number = number; slot = slot; lazy = lazy; value = value }

with_both : (number value slot other lazy word : ℕ) → slot ≡ other → lazy ≡ word → offered number slot lazy value ≡ offered number other word value
with_both number value slot other lazy word at is = ap (λ (n : ℕ). offered number n lazy value) at ∙ ap (λ (n : ℕ). offered number other n value) is

offers : (old new : LinkTable) (h owner eights : ℕ) (g : Granted) → ((o : Loaded) → Contains (mapped (after old.events)) o → FindsImage (after old.events) o)
    → (is : IsGranted old h owner eights g new) → IsOffer (after old.events) (granting h owner is.slot g) (offer_of g)
offers old new h owner eights g finds is =
    let s : State = after old.events in
    let at : IsSlot s owner is.slot g.choice = is.is_slot in
    let found = finds at.object (in_flat (λ (ns : Namespace). ns.objects) s.namespaces at.namespace at.object at.there at.inside) in
    let place : g.slot ≡ slot_address found.image at.reloc = is.address ∙ ap (λ (b : ℕ). guest_address b at.reloc.place) (sym found.base) in
    let lazy : g.lazy ≡ moved_word found.image.object found.image.base at.reloc.place =
    is.lazy ∙ ap (λ (o : Object). moved_word o at.object.base at.reloc.place) (sym found.object) ∙ ap (λ (b : ℕ). moved_word found.image.object b at.reloc.place) (sym found.base) in
    record {
      image = found.image;
      reloc = at.reloc;
      found = subst (λ (n : ℕ). image_of s n ≡ Some found.image) at.is found.found;
      at = subst (λ (o : Object). slice_get o.plt_relocs is.slot ≡ Some at.reloc) (sym found.object) at.at;
      is = with_both g.grant g.value g.slot (slot_address found.image at.reloc) g.lazy (moved_word found.image.object found.image.base at.reloc.place) place lazy;
    }

pub granted_in : (old new : LinkTable) (h owner eights : ℕ) (g : Granted) (offer : code_offered) (result : Answered)
    → ((o : Loaded) → Contains (mapped (after old.events)) o → FindsImage (after old.events) o) → IsGranted old h owner eights g new → offered_of offer ≡ offer_of g
    → result ≡ answered.Granted offer → AnswersIn old h (resolves owner eights) result new
granted_in old new h owner eights g offer result finds is same comes = λ w on.
    let e : Event = Grant g.grant h owner is.slot g.choice g.value in
    goes_on w old.events (e ∷ []) new.events new.made h (resolves owner eights) (granted (granting h owner is.slot g)) result (ap (λ (t : LinkTable). t.events) is.is) refl
    (λ reason d. let no : granted (granting h owner is.slot g) ≡ over reason = d in cc) (is.gives w on)
    (subst (λ (a : Answered). IsAnswered old.events (e ∷ []) h new.made (resolves owner eights) (granted (granting h owner is.slot g)) a) (sym comes)
    (IsAnswered.is_granted (granting h owner is.slot g) offer (refl, refl, tt)
    (subst (IsOffer (after old.events) (granting h owner is.slot g)) (sym same) (offers old new h owner eights g finds is))))

pub granted_harts : (old new : LinkTable) (h owner eights : ℕ) (g : Granted) → IsGranted old h owner eights g new → new.harts ≡ old.harts
granted_harts old new h owner eights g is = ap (λ (t : LinkTable). t.harts) is.is

-- ---- no grant

abbrev Keeps : LinkTable → LinkTable → Type 0
Keeps old mid = (mid.harts ≡ old.harts) × (after mid.events ≡ after old.events)

unchanged : (old mid : LinkTable) → mid ≡ old → Keeps old mid
unchanged old mid is = (ap (λ (t : LinkTable). t.harts) is, ap (λ (t : LinkTable). after t.events) is)

unresolved : (old mid : LinkTable) (h owner eights slot : ℕ) (reason : HartEnd) → EndsUnresolved old h owner eights slot reason mid → Keeps old mid
unresolved old mid h owner eights slot reason is =
    (ap (λ (t : LinkTable). t.harts) is.is, ap (λ (t : LinkTable). after t.events) is.is ∙ after_push old.events (Unresolved h owner slot is.choice))

keeps : (old mid : LinkTable) (h owner eights : ℕ) (fault : GrantFault) → IsNotGranted old h owner eights fault mid → Keeps old mid
keeps old mid h owner eights (faults.Unloaded serial) is = unchanged old mid is.is
keeps old mid h owner eights (faults.NoSlot serial at) is = unchanged old mid is.is
keeps old mid h owner eights (faults.Missing serial slot) is = unresolved old mid h owner eights slot (ends.Unresolved serial slot) is
keeps old mid h owner eights (faults.NotCode serial slot) is = unresolved old mid h owner eights slot (ends.NotCode serial slot) is
keeps old mid h owner eights faults.Memory is = unchanged old mid is

pub ungranted_harts : (old mid : LinkTable) (h owner eights : ℕ) (fault : GrantFault) → IsNotGranted old h owner eights fault mid → mid.harts ≡ old.harts
ungranted_harts old mid h owner eights fault is = (keeps old mid h owner eights fault is).0

pub ungranted_may_end : (old mid : LinkTable) (h owner eights : ℕ) (fault : GrantFault) → IsNotGranted old h owner eights fault mid → MayEndIn old h → MayEndIn mid h
ungranted_may_end old mid h owner eights fault is may = let kept = keeps old mid h owner eights fault is in still_may_end old mid h kept.0 kept.1 may

module _ (old mid new : LinkTable) (h owner eights : ℕ) (result : Answered) (may : MayEndIn old h) where
  abbrev Ends : HartEnd → Type 0
  Ends reason = result ≡ answered.Over reason → new ≡ appended mid (Ended h reason) → AnswersIn old h (resolves owner eights) result new

  by_unchanged : (reason : HartEnd) → EndsUnchanged old h owner eights reason mid → Ends reason
  by_unchanged reason is = λ comes noted w on.
      over_in old mid new h (resolves owner eights) [] reason result (ap (λ (t : LinkTable). t.events) is.is ∙ sym (append-nil old.events)) comes noted w (may w on) (is.gives w on)

  by_unresolved : (slot : ℕ) (reason : HartEnd) → EndsUnresolved old h owner eights slot reason mid → Ends reason
  by_unresolved slot reason is = λ comes noted w on.
      over_in old mid new h (resolves owner eights) (Unresolved h owner slot is.choice ∷ []) reason result (ap (λ (t : LinkTable). t.events) is.is) comes noted w (may w on) (is.gives w on)

  pub ungranted_in : (fault : GrantFault) → IsNotGranted old h owner eights fault mid → Ends (grant_end fault)
  ungranted_in (faults.Unloaded serial) is = by_unchanged (ends.Unloaded serial) is
  ungranted_in (faults.NoSlot serial at) is = by_unchanged (ends.NoSlot serial at) is
  ungranted_in (faults.Missing serial slot) is = by_unresolved slot (ends.Unresolved serial slot) is
  ungranted_in (faults.NotCode serial slot) is = by_unresolved slot (ends.NotCode serial slot) is
  ungranted_in faults.Memory is = λ comes noted w on.
      over_in old mid new h (resolves owner eights) [] ends.Memory result (ap (λ (t : LinkTable). t.events) is ∙ sym (append-nil old.events)) comes noted w (may w on)
      (to_end (resolves owner eights) ends.Memory (no_memory (resolves owner eights) refl))
