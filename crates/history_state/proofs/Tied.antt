-- The bindings of images are what their objects chose when they were loaded.
use Rattle.std.proofs.Common.{◌≡◌, ⊎_elim, ℕ, ◌<◌, ◌≤◌, Bool, true, false, not, ◌||◌, eqb, List, [], ◌∷◌, ◌++◌, map, length, drop, Option, Some, None, refl, sym, ap, subst, ◌∙◌, arith, zero, suc, ◌+◌}
use Rattle.seg_image.specs.Accepted.{symbol_size}
use Rattle.std.specs.Prelude.{if◌then◌else◌, min}
use Rattle.std.specs.List.{Contains, find, range_with_len, slice_get, zip}
use Rattle.std.specs.Option.{option_and_then, option_map, option_map_or}
use Rattle.std.proofs.lemmas.Bool.{eqb-true, eq-eqb, ne_eqb, true≢false}
use Rattle.std.proofs.lemmas.List.{drop-map, length-map, map-append}
use Rattle.std.proofs.lemmas.List.Elements.{Contains-append_cases}
use Rattle.std.proofs.Math.Seq.{drop-append_seam}
use Rattle.ld_base.specs.declared.linking.Choice.{Choice}
use Rattle.ld_base.specs.declared.linking.Loaded.{Loaded}
use Rattle.ld_base.specs.declared.object.Object.{Object}
use Rattle.ld_base.specs.declared.object.Reloc.{Reloc}
use Rattle.history_event.specs.declared.event.CloseAnswer.TheVariants as closes
use Rattle.history_event.specs.declared.event.Event.{Event}
use Rattle.history_event.specs.declared.event.Event.TheVariants as events
use Rattle.history_event.specs.declared.event.OpenAnswer.TheVariants as opens
use Rattle.history_event.specs.declared.event.OpenAsk.{OpenAsk}
use Rattle.history_event.specs.declared.event.Range.{Range}
use Rattle.history_event.specs.declared.event.SymAnswer.TheVariants as syms
use Rattle.history_event.specs.declared.state.Chosen.{Chosen}
use Rattle.relocator.specs.declared.binding.Binding.{Binding}
use Rattle.relocator.specs.Bindings.{chosen as object_of, is_copy, AreCopied}
use Rattle.scope_rule.specs.Relocation.{choice_at}
use Rattle.scope_rule.specs.Seen.{Seen}
use Rattle.history_state.specs.State.{Linked, State}
use Rattle.history_state.specs.Accepted.{AcceptsOnly, IsAccepted}
use Rattle.history_state.specs.Addresses.{address}
use Rattle.history_state.specs.After.{after}
use Rattle.history_state.specs.Allowed.{AllowedIn}
use Rattle.history_state.specs.Bound.{binding_of, chosen_of, copies_made, is_storage, linked_with, place_in_block, reloc_bindings, reloc_choices, slot_binding, slot_bindings, slot_choice, slot_choices, uncopied, with_copies, bytes_from, copied_of, settled_byte}
use Rattle.history_state.specs.Laws.{ImagesAreTied, bound_choice, bound_object, bound_value}
use Rattle.history_state.specs.Legal.{Lawful}
use Rattle.history_state.specs.Objects.{has}
use Rattle.history_state.specs.Opening.{Opens}
use Rattle.history_state.specs.Setting.{Machine, Setting}
use Rattle.history_state.specs.Step.{binds, die, initialise, loaded, lower, namespace_before, seen_after, step, unmap}
use Rattle.history_state.specs.Lemmas.History.{by_lawful}
use Rattle.history_state.specs.Lemmas.Lists.{found_in, from_filter, from_map, here, in_map, later, none_in, not_found}
use Rattle.history_state.specs.Lemmas.Accepting.{ReadLaw, opens_accepted}
use Rattle.history_state.specs.Lemmas.Arrived.{Arrived}
use Rattle.history_state.specs.Lemmas.Brought.{LoadLaws, arrived_by, length_range}
use Rattle.history_state.specs.Lemmas.Good.{core}
use Rattle.history_state.specs.Lemmas.Lookups.{find_behind, find_first, find_kept}
use Rattle.history_state.specs.Lemmas.Map.{made_of}
use Rattle.history_state.specs.Lemmas.Steps.{good_after}

-- ---- bindings

-- two lists made of one, where what is made of each is the same
map_both : {X Y Z : Type 0} (f : X → Y) (g : Y → Z) (h : X → Z) (xs : List X) → ((x : X) → Contains xs x → g (f x) ≡ h x) → map g (map f xs) ≡ map h xs
map_both f g h [] same = refl
map_both {X} {Y} {Z} f g h (x ∷ xs) same =
    ap (λ (z : Z). z ∷ map g (map f xs)) (same x (here x xs)) ∙ ap (λ (zs : List Z). h x ∷ zs) (map_both f g h xs (λ y i. same y (later x xs y i)))

-- copies change neither what was chosen nor its value
copies_same : {Y : Type 0} (f : Binding → Y) → ((b : Binding) (bytes : List ℕ) → f (record b { copied = bytes }) ≡ f b) → (images : List Linked) (o : Object) (relocs : List Reloc) (bindings : List Binding)
    → map f (copies_made images o relocs bindings) ≡ map f bindings
copies_same f same images o [] bindings = refl
copies_same f same images o (r ∷ relocs) [] = refl
copies_same {Y} f same images o (r ∷ relocs) (b ∷ bindings) =
    ap (λ (y : Y). y ∷ map f (copies_made images o relocs bindings)) (one _ (is_copy r)) ∙ ap (λ (ys : List Y). f b ∷ ys) (copies_same f same images o relocs bindings)
  where
    one : (bytes : List ℕ) (t : Bool) → f (if t then record b { copied = bytes } else b) ≡ f b
    one bytes true = same b bytes
    one bytes false = refl

-- a copy takes at most as many bytes as its symbol has
bytes_few : (images : List Linked) (from : Option ℕ) (a count : ℕ) → length (bytes_from images from a count) ≤ count
bytes_few images None a count = omega arith
bytes_few images (Some serial) a count = by (find (λ (m : Linked). eqb m.serial serial) images)
  where
    by : (found : Option Linked) → length (option_map_or (λ m. map (λ i. settled_byte m (a + i)) (range_with_len 0 count)) found []) ≤ count
    by None = omega arith
    by (Some m) = let long : length (map (λ i. settled_byte m (a + i)) (range_with_len 0 count)) ≡ count = length-map (range_with_len 0 count) (λ i. settled_byte m (a + i)) ∙ length_range 0 count in omega (arith, long)

copied_fit : (images : List Linked) (o : Object) (relocs : List Reloc) (bindings : List Binding) (k : ℕ) (r : Reloc) (b : Binding) → slice_get (zip relocs (copies_made images o relocs bindings)) k ≡ Some (r, b)
    → is_copy r ≡ true → length b.copied ≤ symbol_size o r
copied_fit images o [] bindings k r b at copy = absurd (let d : None ≡ Some (r, b) = at in cc)
copied_fit images o (q ∷ relocs) [] k r b at copy = absurd (let d : None ≡ Some (r, b) = at in cc)
copied_fit images o (q ∷ relocs) (c ∷ bindings) zero r b at copy =
    let both : (q, copied_of images o q c) ≡ (r, b) = cc in
    let reloc : q ≡ r = ap (λ (x : Reloc × Binding). x.0) both in
    let binding : copied_of images o q c ≡ b = ap (λ (x : Reloc × Binding). x.1) both in
    let made : length (copied_of images o q c).copied ≤ symbol_size o q = by (is_copy q) (ap is_copy reloc ∙ copy) in
    subst (λ (x : Reloc). length b.copied ≤ symbol_size o x) reloc (subst (λ (x : Binding). length x.copied ≤ symbol_size o q) binding made)
  where
    by : (t : Bool) → t ≡ true → length (if t then record c { copied = bytes_from images c.object c.value (min (symbol_size o q) c.size) } else c).copied ≤ symbol_size o q
    by true e =
        let few : length (bytes_from images c.object c.value (min (symbol_size o q) c.size)) ≤ min (symbol_size o q) c.size = bytes_few images c.object c.value (min (symbol_size o q) c.size) in
        omega (arith, few)
    by false e = absurd (true≢false (sym e))
copied_fit images o (q ∷ relocs) (c ∷ bindings) (suc k) r b at copy = copied_fit images o relocs bindings k r b at copy

-- what the binding of a slot says
slot_choice_is : (s : State) (r : Reloc) (choice : Option Choice) → bound_choice (slot_binding s (r, choice)) ≡ choice
slot_choice_is s r None = refl
slot_choice_is s r (Some choice) = refl

slot_value_is : (s : State) (r : Reloc) (choice : Option Choice) → is_storage r ≡ false → bound_value (slot_binding s (r, choice)) ≡ option_map (address s) choice
slot_value_is s r None plain = refl
slot_value_is s r (Some choice) plain = ap (λ (t : Bool). Some (if t then place_in_block s choice else address s choice)) plain

slot_object_is : (s : State) (r : Reloc) (choice : Option Choice) → bound_object (slot_binding s (r, choice)) ≡ option_and_then object_of choice
slot_object_is s r None = refl
slot_object_is s r (Some choice) = refl

module _ (s : State) (ns : Seen) (now : Bool) (o : Loaded) where
  choices_are : map bound_choice (reloc_bindings s ns o ++ slot_bindings s ns now o) ≡ reloc_choices ns o ++ slot_choices ns now o
  choices_are =
      map-append bound_choice (reloc_bindings s ns o) (slot_bindings s ns now o)
      ∙ ap (λ (cs : List (Option Choice)). cs ++ map bound_choice (slot_bindings s ns now o))
      (map_both (λ (r : Reloc). binding_of s r (choice_at ns o r)) bound_choice (λ r. Some (choice_at ns o r)) o.object.relocs (λ r i. refl))
      ∙ ap (λ (cs : List (Option Choice)). reloc_choices ns o ++ cs)
      (map_both (λ (r : Reloc). slot_binding s (r, slot_choice ns now o r)) bound_choice (slot_choice ns now o) o.object.plt_relocs (λ r i. slot_choice_is s r (slot_choice ns now o r)))

  objects_are : map bound_object (reloc_bindings s ns o ++ slot_bindings s ns now o) ≡ map (λ choice. option_and_then object_of choice) (reloc_choices ns o ++ slot_choices ns now o)
  objects_are =
      map-append bound_object (reloc_bindings s ns o) (slot_bindings s ns now o)
      ∙ ap (λ (cs : List (Option ℕ)). cs ++ map bound_object (slot_bindings s ns now o))
      (map_both (λ (r : Reloc). binding_of s r (choice_at ns o r)) bound_object (λ r. object_of (choice_at ns o r)) o.object.relocs (λ r i. refl))
      ∙ ap (λ (cs : List (Option ℕ)). map (λ (r : Reloc). object_of (choice_at ns o r)) o.object.relocs ++ cs)
      (map_both (λ (r : Reloc). slot_binding s (r, slot_choice ns now o r)) bound_object (λ r. option_and_then object_of (slot_choice ns now o r)) o.object.plt_relocs (λ r i. slot_object_is s r (slot_choice ns now o r)))
      ∙ sym (map-append (λ choice. option_and_then object_of choice) (reloc_choices ns o) (slot_choices ns now o)
      ∙ ap (λ (cs : List (Option ℕ)). cs ++ map (λ choice. option_and_then object_of choice) (slot_choices ns now o))
      (map_both (λ (r : Reloc). Some (choice_at ns o r)) (λ choice. option_and_then object_of choice) (λ r. object_of (choice_at ns o r)) o.object.relocs (λ r i. refl))
      ∙ ap (λ (cs : List (Option ℕ)). map (λ (r : Reloc). object_of (choice_at ns o r)) o.object.relocs ++ cs)
      (map_both (slot_choice ns now o) (λ choice. option_and_then object_of choice) (λ r. option_and_then object_of (slot_choice ns now o r)) o.object.plt_relocs (λ r i. refl)))

  values_are : ((r : Reloc) → Contains o.object.plt_relocs r → is_storage r ≡ false)
      → map bound_value (drop (length o.object.relocs) (reloc_bindings s ns o ++ slot_bindings s ns now o)) ≡ map (option_map (address s)) (slot_choices ns now o)
  values_are plain =
      ap (λ (n : ℕ). map bound_value (drop n (reloc_bindings s ns o ++ slot_bindings s ns now o))) (sym (length-map o.object.relocs (λ (r : Reloc). binding_of s r (choice_at ns o r))))
      ∙ ap (map bound_value) (drop-append_seam (reloc_bindings s ns o) (slot_bindings s ns now o))
      ∙ map_both (λ (r : Reloc). slot_binding s (r, slot_choice ns now o r)) bound_value (λ r. option_map (address s) (slot_choice ns now o r)) o.object.plt_relocs
      (λ r i. slot_value_is s r (slot_choice ns now o r) (plain r i))
      ∙ sym (map_both (slot_choice ns now o) (option_map (address s)) (λ r. option_map (address s) (slot_choice ns now o r)) o.object.plt_relocs (λ r i. refl))

-- one value a slot
count_is : (s : State) (ns : Seen) (now : Bool) (o : Loaded) → length (chosen_of s ns now o).values ≡ length o.object.plt_relocs
count_is s ns now o = length-map (slot_choices ns now o) (option_map (address s)) ∙ length-map o.object.plt_relocs (slot_choice ns now o)

-- ---- the invariant

abbrev Ties : State → Linked → Type 0
Ties s i = (c : Chosen) × (find (λ k. eqb k.owner i.serial) s.chosen ≡ Some c) × (map bound_choice i.bindings ≡ c.choices)
    × (map bound_value (drop (length i.object.relocs) i.bindings) ≡ c.values) × (map bound_object i.bindings ≡ map (λ choice. option_and_then object_of choice) c.choices)
    × (length c.values ≡ length i.object.plt_relocs) × AreCopied i.object i.bindings

-- a new image, before it is looked up
made_ties : (s : State) (ns : Seen) (now : Bool) (o : Loaded) (images : List Linked) → IsAccepted o.object
    → (map bound_choice (with_copies images (uncopied s ns now o)).bindings ≡ (chosen_of s ns now o).choices)
    × (map bound_value (drop (length o.object.relocs) (with_copies images (uncopied s ns now o)).bindings) ≡ (chosen_of s ns now o).values)
    × (map bound_object (with_copies images (uncopied s ns now o)).bindings ≡ map (λ choice. option_and_then object_of choice) (chosen_of s ns now o).choices)
made_ties s ns now o images accepted =
    let bindings : List Binding = reloc_bindings s ns o ++ slot_bindings s ns now o in
    let copied : List Binding = copies_made images o.object o.object.relocs bindings in (
      copies_same bound_choice (λ b bytes. refl) images o.object o.object.relocs bindings ∙ choices_are s ns now o,
      sym (drop-map bound_value (length o.object.relocs) copied) ∙ ap (drop (length o.object.relocs)) (copies_same bound_value (λ b bytes. refl) images o.object o.object.relocs bindings)
          ∙ drop-map bound_value (length o.object.relocs) bindings
          ∙ values_are s ns now o (λ r i. ap (λ (k : ℕ). eqb k 7 || eqb k 9 || eqb k 11) (accepted.jump r i)),
      copies_same bound_object (λ b bytes. refl) images o.object o.object.relocs bindings ∙ objects_are s ns now o,
    )

module _ (loads : LoadLaws) (read : ReadLaw) (m : Machine) (only : AcceptsOnly m) (w : Setting) (is : w.machine ≡ m) (past : List Event) (lawful : Lawful m past)
    (hart : ℕ) (ask : OpenAsk) (id root : ℕ) (added : List Loaded) (ranges : List Range) (may : Opens w (after past) hart ask id root added ranges) where
  abbrev s : State
  s = after past

  abbrev t : State
  t = loaded s hart ask id root added ranges

  abbrev seen : Seen
  seen = seen_after s ask id root added

  abbrev now : Bool
  now = binds s ask

  came : Arrived (core s) (namespace_before s id) added root
  came = arrived_by loads w s (good_after loads m past lawful) hart ask id root added ranges may

  -- a new object's choices are found by its serial
  found_new : (a : Loaded) → Contains added a → find (λ k. eqb k.owner a.serial) (s.chosen ++ map (chosen_of t seen now) added) ≡ Some (chosen_of t seen now a)
  found_new a new =
      find_behind (λ k. eqb k.owner a.serial) s.chosen (map (chosen_of t seen now) added) old
      ∙ at (find (λ k. eqb k.owner a.serial) (map (chosen_of t seen now) added)) refl
    where
      old : (k : Chosen) → Contains s.chosen k → eqb k.owner a.serial ≡ false
      old k there = ne_eqb k.owner a.serial
          (λ (same : k.owner ≡ a.serial). let low : k.owner < s.next = (good_after loads m past lawful).chosen_low k there in let high : s.next ≤ a.serial = (came.fresh a new).0 in omega (arith, low, high, same))

      at : (found : Option Chosen) → find (λ k. eqb k.owner a.serial) (map (chosen_of t seen now) added) ≡ found → find (λ k. eqb k.owner a.serial) (map (chosen_of t seen now) added) ≡ Some (chosen_of t seen now a)
      at None e = absurd (true≢false (sym (eq-eqb a.serial a.serial refl)
          ∙ not_found (λ k. eqb k.owner a.serial) (map (chosen_of t seen now) added) (chosen_of t seen now a) e (in_map (chosen_of t seen now) added a new)))
      at (Some k) e =
          let found = found_in (λ (x : Chosen). eqb x.owner a.serial) (map (chosen_of t seen now) added) k e in
          let by = from_map (chosen_of t seen now) added k found.0 in
          let serial : by.0.serial ≡ a.serial = ap (λ (x : Chosen). x.owner) by.2 ∙ eqb-true k.owner a.serial found.1 in
          let one : by.0 ≡ a = came.one by.0 a by.1 new serial in
          e ∙ ap (λ (x : Chosen). Some x) (sym by.2 ∙ ap (chosen_of t seen now) one)

  tied_open : ((i : Linked) → Contains s.images i → Ties s i) → (i : Linked) → Contains (step s (events.Open hart ask (opens.Done id root added ranges))).images i → Ties (step s (events.Open hart ask (opens.Done id root added ranges))) i
  unfolding loaded
  tied_open tied i there = ⊎_elim
      (λ (old : Contains s.images i).
      let was = tied i old in
      (was.0, find_first (λ k. eqb k.owner i.serial) s.chosen (map (chosen_of t seen now) added) was.0 was.1, was.2, was.3, was.4, was.5, was.6))
      (λ (new : Contains (linked_with s.images (map (uncopied t seen now) added)) i).
      let by = made_of s hart ask id root added ranges i new in
      let ties = made_ties t seen now by.0 (s.images ++ map (uncopied t seen now) added) (opens_accepted read m only w is s hart ask id root added ranges ask.name may.name by.0 by.1) in
      subst (Ties (step s (events.Open hart ask (opens.Done id root added ranges)))) by.2 (chosen_of t seen now by.0, found_new by.0 by.1, ties.0, ties.1, ties.2, count_is t seen now by.0, copied_fit (s.images ++ map (uncopied t seen now) added) by.0.object by.0.object.relocs _))
      (Contains-append_cases s.images (linked_with s.images (map (uncopied t seen now) added)) i there)

tied_unmap : (s : State) (hart : ℕ) (set : List ℕ) → ((i : Linked) → Contains s.images i → Ties s i) → (i : Linked) → Contains (unmap hart set s).images i → Ties (unmap hart set s) i
unfolding unmap
tied_unmap s hart set tied i there =
    let kept = from_filter (λ (q : Linked). not (has set q.serial)) s.images i there in
    let was = tied i kept.0 in
    (was.0, find_kept (λ k. eqb k.owner i.serial) (λ k. not (has set k.owner)) s.chosen (λ k at is. ap (λ (n : ℕ). not (has set n)) (eqb-true k.owner i.serial is) ∙ kept.1) ∙ was.1, was.2, was.3, was.4, was.5, was.6)

tied_step : LoadLaws → ReadLaw → (m : Machine) → AcceptsOnly m → (w : Setting) → w.machine ≡ m → (past : List Event) → Lawful m past → (e : Event) → AllowedIn w past (after past) e
    → ((i : Linked) → Contains (after past).images i → Ties (after past) i) → (i : Linked) → Contains (step (after past) e).images i → Ties (step (after past) e) i
unfolding die lower initialise
tied_step loads read m only w is past lawful (events.Open hart ask (opens.Done id root added ranges)) may tied = tied_open loads read m only w is past lawful hart ask id root added ranges may tied
tied_step loads read m only w is past lawful (events.Open hart ask opens.Absent) may tied = tied
tied_step loads read m only w is past lawful (events.Open hart ask (opens.Refused fault)) may tied = tied
tied_step loads read m only w is past lawful (events.Close hart handle (closes.Done set)) may tied = tied
tied_step loads read m only w is past lawful (events.Close hart handle (closes.Refused fault)) may tied = tied
tied_step loads read m only w is past lawful (events.Unmapped hart set) may tied = tied_unmap (after past) hart set tied
tied_step loads read m only w is past lawful (events.Grant number hart owner slot choice value) may tied = tied
tied_step loads read m only w is past lawful (events.Bound number) may tied = tied
tied_step loads read m only w is past lawful (events.Lost number saw) may tied = tied
tied_step loads read m only w is past lawful (events.Unresolved hart owner slot choice) may tied = tied
tied_step loads read m only w is past lawful (events.Sym hart ask (syms.Found serial index value)) may tied = tied
tied_step loads read m only w is past lawful (events.Sym hart ask (syms.Refused fault)) may tied = tied
tied_step loads read m only w is past lawful (events.Tls hart owner address) may tied = tied
tied_step loads read m only w is past lawful (events.Init hart object) may tied = tied
tied_step loads read m only w is past lawful (events.Fini hart object) may tied = tied
tied_step loads read m only w is past lawful (events.Wrote hart bytes) may tied = tied
tied_step loads read m only w is past lawful (events.Told hart fault) may tied = tied
tied_step loads read m only w is past lawful (events.Ended hart reason) may tied = tied

pub images_tied : LoadLaws → ReadLaw → (m : Machine) → AcceptsOnly m → (journal : List Event) → Lawful m journal → ImagesAreTied (after journal)
images_tied loads read m only journal lawful i there =
    let ties = by_lawful m (λ s. (j : Linked) → Contains s.images j → Ties s j) (λ j at. absurd (none_in j at))
    (λ w past e is past_lawful tied may. tied_step loads read m only w is past past_lawful e may tied) journal lawful i there in
    record { chosen = ties.0; found = ties.1; choices = ties.2; values = ties.3; objects = ties.4; count = ties.5; copied = ties.6 }
