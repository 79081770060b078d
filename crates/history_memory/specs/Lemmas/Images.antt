-- Which images an event leaves and brings, and what stands at an address.
use Rattle.std.proofs.Common.{◌≡◌, ◌≢◌, ◌⊎◌, inl, inr, ℕ, ◌^◌, ◌<◌, ◌≤◌, Bool, true, false, not, ◌&&◌, List, map, Option, Some, None, refl, sym, ap, ◌∙◌, arith}
use Rattle.std.specs.Prelude.{if◌then◌else◌}
use Rattle.std.specs.List.{Contains}
use Rattle.std.proofs.lemmas.Bool.{and_parts, true≢false}
use Rattle.std.proofs.lemmas.List.Elements.{Contains-append_cases, Contains-append_left}
use Rattle.ld_base.specs.declared.linking.Loaded.{Loaded}
use Rattle.ld_base.specs.declared.linking.Role.TheVariants.{None as NoRole, Rx, Rw}
use Rattle.history_event.specs.declared.event.CloseAnswer.TheVariants as closes
use Rattle.history_event.specs.declared.event.Event.{Event}
use Rattle.history_event.specs.declared.event.Event.TheVariants as events
use Rattle.history_event.specs.declared.event.OpenAnswer.TheVariants as opens
use Rattle.history_event.specs.declared.event.OpenAsk.{OpenAsk}
use Rattle.history_event.specs.declared.event.Purpose.{Purpose}
use Rattle.history_event.specs.declared.event.Purpose.TheVariants as purposes
use Rattle.history_event.specs.declared.event.Range.{Range}
use Rattle.history_event.specs.declared.event.SymAnswer.TheVariants as syms
use Rattle.seg_image.specs.Pages.{own_address}
use Rattle.seg_image.specs.Roles.{role_of}
use Rattle.history_state.specs.State.{Linked, State}
use Rattle.history_state.specs.Addresses.{is_linkers_page}
use Rattle.history_state.specs.Allowed.{AllowedIn}
use Rattle.history_state.specs.Bound.{linked_with, uncopied}
use Rattle.history_state.specs.Changes.{StandsApart}
use Rattle.history_state.specs.Memory.{covers, data_at, image_at, is_data_purpose, is_in, role_at}
use Rattle.history_state.specs.Objects.{has}
use Rattle.history_state.specs.Opening.{Opens}
use Rattle.history_state.specs.Setting.{Setting}
use Rattle.history_state.specs.Step.{binds, die, goes_with, initialise, loaded, lower, namespace_before, purpose_goes, seen_after, step, unmap}
use Rattle.history_state.specs.Lemmas.Lists.{found_in, from_filter, in_filter}
use Rattle.history_state.specs.Lemmas.Arrived.{Arrived}
use Rattle.history_state.specs.Lemmas.Brought.{LoadLaws, arrived_by}
use Rattle.history_state.specs.Lemmas.Good.{Good, core}
use Rattle.history_state.specs.Lemmas.Lazy.{PageLaws}
use Rattle.history_state.specs.Lemmas.Map.{Mapped, made_of, no_linkers, one_cover, range_in}

-- ---- images

-- an image that is there after an event, of an object that isn't new, was there before
abbrev pub ImagesBack : State → Event → Type 0
ImagesBack s e = (i : Linked) → Contains (step s e).images i → i.serial < s.next → Contains s.images i

opened_back : LoadLaws → (w : Setting) (s : State) → Good (core s) → (hart : ℕ) (ask : OpenAsk) (id root : ℕ) (added : List Loaded) (ranges : List Range)
    → Opens w s hart ask id root added ranges → ImagesBack s (events.Open hart ask (opens.Done id root added ranges))
unfolding loaded
opened_back laws w s good hart ask id root added ranges may i there low =
    by (Contains-append_cases s.images (linked_with s.images (map (uncopied (loaded s hart ask id root added ranges) (seen_after s ask id root added) (binds s ask)) added)) i there)
  where
    came : Arrived (core s) (namespace_before s id) added root
    came = arrived_by laws w s good hart ask id root added ranges may

    by : Contains s.images i ⊎ Contains (linked_with s.images (map (uncopied (loaded s hart ask id root added ranges) (seen_after s ask id root added) (binds s ask)) added)) i → Contains s.images i
    by (inl old) = old
    by (inr new) =
        let made = made_of s hart ask id root added ranges i new in
        let fresh : s.next ≤ made.0.serial = (came.fresh made.0 made.1).0 in
        let same : made.0.serial ≡ i.serial = ap (λ (q : Linked). q.serial) made.2 in
        absurd (omega (arith, low, fresh, same))

pub images_back : LoadLaws → (w : Setting) (past : List Event) (s : State) → Good (core s) → (e : Event) → AllowedIn w past s e → ImagesBack s e
unfolding loaded die lower unmap initialise
images_back laws w past s good (events.Open hart ask (opens.Done id root added ranges)) may = opened_back laws w s good hart ask id root added ranges may
images_back laws w past s good (events.Open hart ask opens.Absent) may = λ i there low. there
images_back laws w past s good (events.Open hart ask (opens.Refused fault)) may = λ i there low. there
images_back laws w past s good (events.Close hart handle (closes.Done set)) may = λ i there low. there
images_back laws w past s good (events.Close hart handle (closes.Refused fault)) may = λ i there low. there
images_back laws w past s good (events.Unmapped hart set) may = λ i there low. (from_filter (λ (q : Linked). not (has set q.serial)) s.images i there).0
images_back laws w past s good (events.Grant number hart owner slot choice value) may = λ i there low. there
images_back laws w past s good (events.Bound number) may = λ i there low. there
images_back laws w past s good (events.Lost number saw) may = λ i there low. there
images_back laws w past s good (events.Unresolved hart owner slot choice) may = λ i there low. there
images_back laws w past s good (events.Sym hart ask (syms.Found serial index value)) may = λ i there low. there
images_back laws w past s good (events.Sym hart ask (syms.Refused fault)) may = λ i there low. there
images_back laws w past s good (events.Tls hart owner address) may = λ i there low. there
images_back laws w past s good (events.Init hart object) may = λ i there low. there
images_back laws w past s good (events.Fini hart object) may = λ i there low. there
images_back laws w past s good (events.Wrote hart bytes) may = λ i there low. there
images_back laws w past s good (events.Told hart fault) may = λ i there low. there
images_back laws w past s good (events.Ended hart reason) may = λ i there low. there

-- the image of an address that the event doesn't touch stays
abbrev pub ImagesForth : State → Event → Type 0
ImagesForth s e = (i : Linked) (a : ℕ) → Contains s.images i → a < 2 ^ 64 → is_in i a ≡ true → StandsApart s e a → Contains (step s e).images i

unmapped_forth : PageLaws → (s : State) → Mapped s → (hart : ℕ) (set : List ℕ) → ImagesForth s (events.Unmapped hart set)
unfolding unmap
unmapped_forth laws s m hart set i a there word inside untouched =
    in_filter (λ (q : Linked). not (has set q.serial)) s.images i there (stays (has set i.serial) refl)
  where
    stays : (t : Bool) → has set i.serial ≡ t → not (has set i.serial) ≡ true
    stays true e =
        let r = m.range i there in
        let goes : goes_with set r.range ≡ true = ap (purpose_goes set) r.purpose ∙ e in
        let off : covers a r.range ≡ false = untouched r.range (inr (in_filter (goes_with set) s.ranges r.range r.there goes)) in
        absurd (true≢false (sym (range_in laws s m i there a word inside) ∙ off))
    stays false e = ap not e

pub images_forth : PageLaws → (s : State) → Mapped s → (e : Event) → ImagesForth s e
unfolding loaded die lower unmap initialise
images_forth laws s m (events.Open hart ask (opens.Done id root added ranges)) = λ i a there word inside untouched. Contains-append_left s.images _ i there
images_forth laws s m (events.Open hart ask opens.Absent) = λ i a there word inside untouched. there
images_forth laws s m (events.Open hart ask (opens.Refused fault)) = λ i a there word inside untouched. there
images_forth laws s m (events.Close hart handle (closes.Done set)) = λ i a there word inside untouched. there
images_forth laws s m (events.Close hart handle (closes.Refused fault)) = λ i a there word inside untouched. there
images_forth laws s m (events.Unmapped hart set) = unmapped_forth laws s m hart set
images_forth laws s m (events.Grant number hart owner slot choice value) = λ i a there word inside untouched. there
images_forth laws s m (events.Bound number) = λ i a there word inside untouched. there
images_forth laws s m (events.Lost number saw) = λ i a there word inside untouched. there
images_forth laws s m (events.Unresolved hart owner slot choice) = λ i a there word inside untouched. there
images_forth laws s m (events.Sym hart ask (syms.Found serial index value)) = λ i a there word inside untouched. there
images_forth laws s m (events.Sym hart ask (syms.Refused fault)) = λ i a there word inside untouched. there
images_forth laws s m (events.Tls hart owner address) = λ i a there word inside untouched. there
images_forth laws s m (events.Init hart object) = λ i a there word inside untouched. there
images_forth laws s m (events.Fini hart object) = λ i a there word inside untouched. there
images_forth laws s m (events.Wrote hart bytes) = λ i a there word inside untouched. there
images_forth laws s m (events.Told hart fault) = λ i a there word inside untouched. there
images_forth laws s m (events.Ended hart reason) = λ i a there word inside untouched. there

-- ---- roles

-- where no hart may write, no stack, static area or block stands
pub no_data : PageLaws → (s : State) → Mapped s → (a : ℕ) → a < 2 ^ 64 → role_at s a ≢ Rw → data_at s a ≡ None
unfolding role_at
no_data laws s m a word shut = by (data_at s a) refl
  where
    spread : (r : Range) → data_at s a ≡ Some r → is_linkers_page a ≡ false → image_at s a ≡ None → role_at s a ≡ Rw
    spread r e linkers image =
        ap (λ (t : Bool). if t then Rx else elim (image_at s a) [ Some q ↦ role_of q.object (own_address q.base a) | None ↦ elim (data_at s a) [ Some x ↦ Rw | None ↦ NoRole ] ]) linkers
        ∙ ap (λ (found : Option Linked). elim found [ Some q ↦ role_of q.object (own_address q.base a) | None ↦ elim (data_at s a) [ Some x ↦ Rw | None ↦ NoRole ] ]) image
        ∙ ap (λ (found : Option Range). elim found [ Some x ↦ Rw | None ↦ NoRole ]) e

    object_or : (p : Purpose) (serial : ℕ) → is_data_purpose p ≡ true → p ≡ purposes.Object serial → ⊥
    object_or p serial spread_out is = true≢false (sym spread_out ∙ ap is_data_purpose is)

    imaged : (r : Range) → Contains s.ranges r → is_data_purpose r.purpose ≡ true → covers a r ≡ true → (i : Linked) → Contains s.images i → is_in i a ≡ true → ⊥
    imaged r there kind on i image inside =
        let q = m.range i image in
        let one : q.range ≡ r = one_cover s.ranges m.apart a q.range r q.there there (range_in laws s m i image a word inside) on in
        object_or r.purpose i.serial kind (sym (ap (λ (x : Range). x.purpose) one) ∙ q.purpose)

    at : (r : Range) → data_at s a ≡ Some r → (found : Option Linked) → image_at s a ≡ found → data_at s a ≡ None
    at r e (Some i) image =
        let got = found_in (λ (q : Range). is_data_purpose q.purpose && covers a q) s.ranges r e in
        let parts = and_parts (is_data_purpose r.purpose) (covers a r) got.1 in
        let there = found_in (λ (q : Linked). is_in q a) s.images i image in
        absurd (imaged r got.0 parts.0 parts.1 i there.0 there.1)
    at r e None image =
        let got = found_in (λ (q : Range). is_data_purpose q.purpose && covers a q) s.ranges r e in
        let parts = and_parts (is_data_purpose r.purpose) (covers a r) got.1 in
        absurd (shut (spread r e (no_linkers s.ranges m.apart a r got.0 parts.1) image))

    by : (found : Option Range) → data_at s a ≡ found → data_at s a ≡ None
    by None e = e
    by (Some r) e = at r e (image_at s a) refl
