-- Each TLS_TPREL64 of an image has its object's offset.
use Rattle.std.proofs.Common.{◌≡◌, ⊎_elim, ℕ, zero, suc, Bool, true, false, not, List, [], ◌∷◌, ◌++◌, map, Option, Some, None, refl, ap, subst, ◌∙◌}
use Rattle.std.specs.Prelude.{if◌then◌else◌, find}
use Rattle.std.specs.Option.{option_or}
use Rattle.std.specs.List.{Contains, slice_get}
use Rattle.std.proofs.lemmas.List.Elements.{Contains-append_cases}
use Rattle.ld_base.specs.declared.fault.DlFault.{DlFault}
use Rattle.ld_base.specs.declared.fault.DlFault.TheVariants as faults
use Rattle.ld_base.specs.declared.linking.Choice.{Choice}
use Rattle.ld_base.specs.declared.linking.Loaded.{Loaded}
use Rattle.ld_base.specs.declared.object.Object.{Object}
use Rattle.ld_base.specs.declared.object.Reloc.{Reloc}
use Rattle.history_event.specs.declared.event.CloseAnswer.TheVariants as closes
use Rattle.history_event.specs.declared.event.Event.{Event}
use Rattle.history_event.specs.declared.event.Event.TheVariants as events
use Rattle.history_event.specs.declared.event.OpenAnswer.TheVariants as opens
use Rattle.history_event.specs.declared.event.OpenAsk.{OpenAsk}
use Rattle.history_event.specs.declared.event.Range.{Range}
use Rattle.history_event.specs.declared.event.SymAnswer.TheVariants as syms
use Rattle.relocator.specs.declared.binding.Binding.{Binding}
use Rattle.relocator.specs.declared.binding.ModulePlace.{ModulePlace}
use Rattle.relocator.specs.Bindings.{is_copy, relas_of}
use Rattle.relocator.specs.Storage.{first_without_offset, lacks_offset}
use Rattle.scope_rule.specs.Relocation.{choice_at}
use Rattle.scope_rule.specs.Seen.{Seen}
use Rattle.history_state.specs.State.{Linked, State}
use Rattle.history_state.specs.After.{after}
use Rattle.history_state.specs.Allowed.{AllowedIn}
use Rattle.history_state.specs.Bound.{binding_of, copied_of, linked_with, place_of, slot_bindings, uncopied, with_copies}
use Rattle.history_state.specs.Laws.{OffsetsAreThere}
use Rattle.history_state.specs.Legal.{Lawful}
use Rattle.history_state.specs.Objects.{has}
use Rattle.history_state.specs.Opening.{Opens}
use Rattle.history_state.specs.Relocating.{is_missing, missing_symbol, object_fault, reloc_fault, reloc_fault_by, relocation_fault}
use Rattle.history_state.specs.Setting.{Machine, Setting}
use Rattle.history_state.specs.Step.{binds, die, initialise, loaded, lower, seen_after, step, unmap}
use Rattle.history_state.specs.Lemmas.History.{by_lawful}
use Rattle.history_state.specs.Lemmas.AtLoad.{first_none, opens_none}
use Rattle.history_state.proofs.FullBindings.{each_rela}
use Rattle.history_state.specs.Lemmas.Lists.{from_filter, none_in}
use Rattle.history_state.specs.Lemmas.Map.{made_of}

-- ---- of one relocation

find_nowhere : {X : Type 0} (p : X → Bool) (xs : List X) → ((k : ℕ) (x : X) → slice_get xs k ≡ Some x → p x ≡ false) → find p xs ≡ None
find_nowhere p [] each = refl
find_nowhere p (x ∷ xs) each = rw (each zero x refl) (find_nowhere p xs (λ k y at. each (suc k) y at))

-- what is copied doesn't matter
copied_lacks : (images : List Linked) (o : Object) (serial : ℕ) (places : List ModulePlace) (r : Reloc) (b : Binding) → lacks_offset serial places (r, copied_of images o r b) ≡ lacks_offset serial places (r, b)
copied_lacks images o serial places r b = by (is_copy r) refl
  where
    by : (t : Bool) → is_copy r ≡ t → lacks_offset serial places (r, copied_of images o r b) ≡ lacks_offset serial places (r, b)
    by true is = rw is refl
    by false is = rw is refl

has_offset : (s : State) (o : Loaded) (r : Reloc) (choice : Choice) → reloc_fault_by s o r choice ≡ None → lacks_offset o.serial (map place_of s.modules) (r, binding_of s r choice) ≡ false
has_offset s o r choice none = by (is_missing choice) (lacks_offset o.serial (map place_of s.modules) (r, binding_of s r choice)) none
  where
    by : (missing lacks : Bool) → (if missing then Some (missing_symbol o r) else if lacks then Some (faults.NeedsStaticTls o.path) else None) ≡ None → lacks ≡ false
    by true lacks is = absurd (let d : Some (missing_symbol o r) ≡ None = is in cc)
    by false true is = absurd (let d : Some (faults.NeedsStaticTls o.path) ≡ None = is in cc)
    by false false is = refl

-- ---- of a new image

relas_have : (s : State) (ns : Seen) (now : Bool) (added : List Loaded) → relocation_fault s ns now added ≡ None → (o : Loaded) (r : Reloc) → Contains added o → Contains o.object.relocs r
    → lacks_offset o.serial (map place_of s.modules) (r, binding_of s r (choice_at ns o r)) ≡ false
unfolding relocation_fault
relas_have s ns now added none o r new inside =
    let object : object_fault s ns now o ≡ None = first_none (object_fault s ns now) added none o new in
    has_offset s o r (choice_at ns o r) (first_none (reloc_fault s ns o) o.object.relocs (front _ _ object) r inside)
  where
    front : (f g : Option DlFault) → option_or f g ≡ None → f ≡ None
    front (Some why) g e = absurd (let d : Some why ≡ None = e in cc)
    front None g e = refl

-- none of the image's relocations lacks an offset
abbrev HasOffsets : Linked → Type 0
HasOffsets i = first_without_offset i.object i.serial i.bindings i.places ≡ None

image_offsets : (t : State) (ns : Seen) (now : Bool) (added : List Loaded) (images : List Linked) → relocation_fault t ns now added ≡ None → (o : Loaded) → Contains added o
    → HasOffsets (with_copies images (uncopied t ns now o))
unfolding first_without_offset
image_offsets t ns now added images none o new =
    rw (find_nowhere (lacks_offset o.serial (map place_of t.modules)) (relas_of o.object (with_copies images (uncopied t ns now o)).bindings) each) refl
  where
    each : (k : ℕ) (x : Reloc × Binding) → slice_get (relas_of o.object (with_copies images (uncopied t ns now o)).bindings) k ≡ Some x → lacks_offset o.serial (map place_of t.modules) x ≡ false
    each k (r, b) at =
        let from = each_rela images o.object (λ q. binding_of t q (choice_at ns o q)) o.object.relocs (slot_bindings t ns now o) k r b at in
        ap (λ (c : Binding). lacks_offset o.serial (map place_of t.modules) (r, c)) from.1
        ∙ copied_lacks images o.object o.serial (map place_of t.modules) r (binding_of t r (choice_at ns o r))
        ∙ relas_have t ns now added none o r new from.0

-- ---- each state

offsets_open : (w : Setting) (s : State) (hart : ℕ) (ask : OpenAsk) (id root : ℕ) (added : List Loaded) (ranges : List Range) → Opens w s hart ask id root added ranges
    → OffsetsAreThere s → OffsetsAreThere (step s (events.Open hart ask (opens.Done id root added ranges)))
unfolding loaded
offsets_open w s hart ask id root added ranges may have i there = ⊎_elim
    (λ (old : Contains s.images i). have i old)
    (λ (new : Contains (linked_with s.images (map (uncopied (loaded s hart ask id root added ranges) (seen_after s ask id root added) (binds s ask)) added)) i).
    let by = made_of s hart ask id root added ranges i new in
    subst HasOffsets by.2
    (image_offsets (loaded s hart ask id root added ranges) (seen_after s ask id root added) (binds s ask) added (s.images ++ map (uncopied (loaded s hart ask id root added ranges) (seen_after s ask id root added) (binds s ask)) added)
    (opens_none w s hart ask id root added ranges ask.name may.name) by.0 by.1))
    (Contains-append_cases s.images _ i there)

offsets_step : (w : Setting) (past : List Event) (s : State) (e : Event) → AllowedIn w past s e → OffsetsAreThere s → OffsetsAreThere (step s e)
unfolding die lower initialise unmap
offsets_step w past s (events.Open hart ask (opens.Done id root added ranges)) may have = offsets_open w s hart ask id root added ranges may have
offsets_step w past s (events.Open hart ask opens.Absent) may have = have
offsets_step w past s (events.Open hart ask (opens.Refused fault)) may have = have
offsets_step w past s (events.Close hart handle (closes.Done set)) may have = have
offsets_step w past s (events.Close hart handle (closes.Refused fault)) may have = have
offsets_step w past s (events.Unmapped hart set) may have = λ i there. have i (from_filter (λ (q : Linked). not (has set q.serial)) s.images i there).0
offsets_step w past s (events.Grant number hart owner slot choice value) may have = have
offsets_step w past s (events.Bound number) may have = have
offsets_step w past s (events.Lost number saw) may have = have
offsets_step w past s (events.Unresolved hart owner slot choice) may have = have
offsets_step w past s (events.Sym hart ask (syms.Found serial index value)) may have = have
offsets_step w past s (events.Sym hart ask (syms.Refused fault)) may have = have
offsets_step w past s (events.Tls hart owner address) may have = have
offsets_step w past s (events.Init hart object) may have = have
offsets_step w past s (events.Fini hart object) may have = have
offsets_step w past s (events.Wrote hart bytes) may have = have
offsets_step w past s (events.Told hart fault) may have = have
offsets_step w past s (events.Ended hart reason) may have = have

pub offsets_there : (m : Machine) (journal : List Event) → Lawful m journal → OffsetsAreThere (after journal)
offsets_there m journal lawful = by_lawful m OffsetsAreThere (λ i there. absurd (none_in i there)) (λ w past e is past_lawful have may. offsets_step w past (after past) e may have) journal lawful
