-- The bindings of each image say what its relocations chose: one a relocation, with as many bytes as a copy takes.
use Rattle.std.proofs.Common.{◌≡◌, ◌≢◌, ⊎_elim, ℕ, zero, suc, ◌+◌, Bool, true, false, not, eqb, List, [], ◌∷◌, ◌++◌, map, drop, length, min, Option, Some, None, refl, sym, ap, subst, ◌∙◌, arith}
use Rattle.std.specs.Prelude.{◌==◌, if◌then◌else◌, find}
use Rattle.std.specs.Option.{option_and_then, option_map_or, option_or}
use Rattle.std.specs.List.{Contains, range_with_len, slice_get, zip}
use Rattle.std.proofs.lemmas.Bool.{eq-eqb, eqb-true, true≢false}
use Rattle.std.proofs.lemmas.List.{length-append, length-map}
use Rattle.std.proofs.lemmas.List.Elements.{Contains-append_cases, Contains-append_left, Contains-append_right}
use Rattle.ld_base.specs.declared.fault.DlFault.{DlFault}
use Rattle.ld_base.specs.declared.linking.Choice.{Choice}
use Rattle.ld_base.specs.declared.linking.Choice.TheVariants.{Def, WeakZero, Missing}
use Rattle.ld_base.specs.declared.linking.Loaded.{Loaded}
use Rattle.ld_base.specs.declared.object.Object.{Object}
use Rattle.ld_base.specs.declared.object.Reloc.{Reloc}
use Rattle.ld_base.specs.declared.object.Symbol.{Symbol}
use Rattle.history_event.specs.declared.event.CloseAnswer.TheVariants as closes
use Rattle.history_event.specs.declared.event.Event.{Event}
use Rattle.history_event.specs.declared.event.Event.TheVariants as events
use Rattle.history_event.specs.declared.event.OpenAnswer.TheVariants as opens
use Rattle.history_event.specs.declared.event.OpenAsk.{OpenAsk}
use Rattle.history_event.specs.declared.event.Range.{Range}
use Rattle.history_event.specs.declared.event.SymAnswer.TheVariants as syms
use Rattle.relocator.specs.declared.binding.Binding.{Binding}
use Rattle.relocator.specs.Bindings.{AreBindings, IsBinding, is_copy}
use Rattle.relocator.specs.Bindings.{chosen as object_of}
use Rattle.scope_rule.specs.Relocation.{choice_at}
use Rattle.scope_rule.specs.Seen.{Seen}
use Rattle.scope_rule.specs.declared.namespace.Namespace.{Namespace}
use Rattle.seg_image.specs.Accepted.{symbol_size}
use Rattle.history_state.specs.State.{Linked, State}
use Rattle.history_state.specs.Accepted.{AcceptsOnly, IsAccepted}
use Rattle.history_state.specs.Addresses.{address, chosen_symbol, leads_to_code, symbol_at}
use Rattle.history_state.specs.After.{after}
use Rattle.history_state.specs.Allowed.{AllowedIn}
use Rattle.history_state.specs.Bound.{binding_of, binds_now, bound_value, bytes_from, copied_of, copies_made, is_storage, lazy_word, linked_with, reloc_bindings, settled_byte, slot_binding, slot_bindings, slot_choice, uncopied, with_copies}
use Rattle.history_state.specs.Flags.{is_global}
use Rattle.history_state.specs.Legal.{Lawful}
use Rattle.history_state.specs.Objects.{has, mapped, object_at}
use Rattle.history_state.specs.Opening.{Opens}
use Rattle.history_state.specs.Relocating.{object_fault, missing_symbol, reloc_fault, reloc_fault_by, relocation_fault}
use Rattle.history_state.specs.Setting.{Machine, Setting}
use Rattle.history_state.specs.Step.{binds, die, initialise, loaded, lower, seen_after, step, unmap}
use Rattle.history_state.specs.Lemmas.History.{by_lawful}
use Rattle.history_state.specs.Lemmas.Lists.{found_in, from_filter, from_flat, in_map, later, none_in, not_found, here}
use Rattle.history_state.specs.Lemmas.Accepting.{ReadLaw, opens_accepted}
use Rattle.history_state.specs.Lemmas.AtLoad.{first_none, opens_none, slots_lead}
use Rattle.history_state.specs.Lemmas.Brought.{length_range}
use Rattle.history_state.specs.Lemmas.Imaged.{images_mapped, objects_open}
use Rattle.history_state.specs.Lemmas.Map.{made_of}

-- ---- what is made of each relocation

same_pair : {X Y : Type 0} (a c : X) (b d : Y) → let p : X × Y = (a, b) in let q : X × Y = (c, d) in Some p ≡ Some q → (a ≡ c) × (b ≡ d)
same_pair {X} {Y} a c b d e = let both : (let p : X × Y = (a, b) in let q : X × Y = (c, d) in p ≡ q) = cc in (ap (λ (z : X × Y). z.0) both, ap (λ (z : X × Y). z.1) both)

-- of a relocation of DT_RELA, with its copy
pub each_rela : (images : List Linked) (o : Object) (f : Reloc → Binding) (rs : List Reloc) (tail : List Binding) (k : ℕ) (r : Reloc) (b : Binding)
    → slice_get (zip rs (copies_made images o rs (map f rs ++ tail))) k ≡ Some (r, b) → Contains rs r × (b ≡ copied_of images o r (f r))
each_rela images o f [] tail k r b e = absurd (let d : None ≡ Some (r, b) = e in cc)
each_rela images o f (q ∷ rs) tail zero r b e =
    let same = same_pair q r (copied_of images o q (f q)) b e in
    (subst (Contains (q ∷ rs)) same.0 (here q rs), sym same.1 ∙ ap (λ (x : Reloc). copied_of images o x (f x)) same.0)
each_rela images o f (q ∷ rs) tail (suc k) r b e = let rest = each_rela images o f rs tail k r b e in (later q rs r rest.0, rest.1)

-- behind them the bindings are as they were
behind_relas : (images : List Linked) (o : Object) (f : Reloc → Binding) (rs : List Reloc) (tail : List Binding) → drop (length rs) (copies_made images o rs (map f rs ++ tail)) ≡ tail
behind_relas images o f [] tail = refl
behind_relas images o f (q ∷ rs) tail = behind_relas images o f rs tail

each_slot : (g : Reloc → Binding) (rs : List Reloc) (k : ℕ) (r : Reloc) (b : Binding) → slice_get (zip rs (map g rs)) k ≡ Some (r, b) → Contains rs r × (b ≡ g r)
each_slot g [] k r b e = absurd (let d : None ≡ Some (r, b) = e in cc)
each_slot g (q ∷ rs) zero r b e = let same = same_pair q r (g q) b e in (subst (Contains (q ∷ rs)) same.0 (here q rs), sym same.1 ∙ ap g same.0)
each_slot g (q ∷ rs) (suc k) r b e = let rest = each_slot g rs k r b e in (later q rs r rest.0, rest.1)

copies_length : (images : List Linked) (o : Object) (rs : List Reloc) (bs : List Binding) → length (copies_made images o rs bs) ≡ length bs
copies_length images o [] bs = refl
copies_length images o (r ∷ rs) [] = refl
copies_length images o (r ∷ rs) (b ∷ bs) = ap suc (copies_length images o rs bs)

-- ---- one binding

-- the symbol is an object's, of which there is an image
abbrev HasImages : State → List Linked → Type 0
HasImages t images = (serial : ℕ) (q : Loaded) → object_at t serial ≡ Some q → find (λ m. m.serial == serial) images ≡ None → ⊥

symbol_bytes : State → Choice → ℕ
symbol_bytes t choice = option_map_or (λ symbol. symbol.size) (chosen_symbol t choice) 0

copied_length : (t : State) (images : List Linked) → HasImages t images → (choice : Choice) (a most : ℕ)
    → length (bytes_from images (object_of choice) a (min most (option_map_or (λ symbol. symbol.size) (chosen_symbol t choice) 0))) ≡ min most (option_map_or (λ symbol. symbol.size) (chosen_symbol t choice) 0)
copied_length t images have WeakZero a most = omega arith
copied_length t images have Missing a most = omega arith
copied_length t images have (Def serial index) a most = by (find (λ m. m.serial == serial) images) refl
  where
    none : (found : Option Loaded) → object_at t serial ≡ found → find (λ m. m.serial == serial) images ≡ None
        → 0 ≡ min most (option_map_or (λ (symbol : Symbol). symbol.size) (option_and_then (λ (o : Loaded). symbol_at o.object index) found) 0)
    none None e lacks = omega arith
    none (Some q) e lacks = absurd (have serial q e lacks)

    by : (found : Option Linked) → find (λ m. m.serial == serial) images ≡ found
        → length (option_map_or (λ m. map (λ i. settled_byte m (a + i)) (range_with_len 0 (min most (option_map_or (λ symbol. symbol.size) (chosen_symbol t (Def serial index)) 0)))) found [])
        ≡ min most (option_map_or (λ symbol. symbol.size) (chosen_symbol t (Def serial index)) 0)
    by None lacks = none (object_at t serial) refl lacks
    by (Some m) there = length-map (range_with_len 0 (min most (option_map_or (λ symbol. symbol.size) (chosen_symbol t (Def serial index)) 0))) (λ i. settled_byte m (a + i)) ∙ length_range 0 _

weak_value : (t : State) (r : Reloc) (choice : Choice) → choice ≡ WeakZero → (bound_value t r choice ≡ 0) × (option_map_or (λ (symbol : Symbol). symbol.size) (chosen_symbol t choice) 0 ≡ 0)
unfolding address
weak_value t r choice weak = (
  subst (λ (c : Choice). bound_value t r c ≡ 0) (sym weak) (by (is_storage r)),
  ap (λ (c : Choice). option_map_or (λ (symbol : Symbol). symbol.size) (chosen_symbol t c) 0) weak,
)
  where
    by : (b : Bool) → let n : ℕ = if b then 0 else 0 in n ≡ 0
    by true = refl
    by false = refl

rela_binding : (t : State) (images : List Linked) → HasImages t images → (o : Object) (r : Reloc) (choice : Choice) → choice ≢ Missing → IsBinding o r (copied_of images o r (binding_of t r choice))
rela_binding t images have o r choice found = by (is_copy r) refl
  where
    bytes : List ℕ
    bytes = bytes_from images (object_of choice) (bound_value t r choice) (min (symbol_size o r) (option_map_or (λ symbol. symbol.size) (chosen_symbol t choice) 0))

    by : (b : Bool) → is_copy r ≡ b → IsBinding o r (if b then record (binding_of t r choice) { copied = bytes } else binding_of t r choice)
    by true is = record { found = found; object = refl; weak = weak_value t r choice; copied = λ copy. copied_length t images have choice (bound_value t r choice) (symbol_size o r) }
    by false is = record { found = found; object = refl; weak = weak_value t r choice; copied = λ copy. absurd (true≢false (sym copy ∙ is)) }

slot_is_binding : (t : State) (o : Object) (r : Reloc) (choice : Option Choice) → ((c : Choice) → choice ≡ Some c → c ≢ Missing) → r.kind ≡ 5 → (slot_binding t (r, choice)).bound ≡ true → IsBinding o r (slot_binding t (r, choice))
slot_is_binding t o r None found jump bound = absurd (true≢false (sym bound))
slot_is_binding t o r (Some choice) found jump bound = record {
  found = found choice refl;
  object = refl;
  weak = weak_value t r choice;
  copied = λ copy. absurd (true≢false (sym copy ∙ ap (λ (n : ℕ). eqb n 4) jump));
}

-- ---- none is missing

not_missing : (s : State) (o : Loaded) (r : Reloc) (choice : Choice) → reloc_fault_by s o r choice ≡ None → choice ≢ Missing
not_missing s o r choice none is = absurd (let d : Some (missing_symbol o r) ≡ None = subst (λ (c : Choice). reloc_fault_by s o r c ≡ None) is none in cc)

relocs_found : (s : State) (ns : Seen) (now : Bool) (added : List Loaded) → relocation_fault s ns now added ≡ None → (o : Loaded) (r : Reloc) → Contains added o → Contains o.object.relocs r → choice_at ns o r ≢ Missing
unfolding relocation_fault
relocs_found s ns now added none o r new inside =
    let object : object_fault s ns now o ≡ None = first_none (object_fault s ns now) added none o new in
    not_missing s o r (choice_at ns o r) (first_none (reloc_fault s ns o) o.object.relocs (front _ _ object) r inside)
  where
    front : (f g : Option DlFault) → option_or f g ≡ None → f ≡ None
    front (Some why) g e = absurd (let d : Some why ≡ None = e in cc)
    front None g e = refl

slots_found : (s : State) (ns : Seen) (now : Bool) (added : List Loaded) → relocation_fault s ns now added ≡ None → (o : Loaded) (r : Reloc) → Contains added o → Contains o.object.plt_relocs r
    → (c : Choice) → slot_choice ns now o r ≡ Some c → c ≢ Missing
unfolding leads_to_code
slots_found s ns now added none o r new inside c chose missing = by (binds_now now o.object) refl chose
  where
    by : (b : Bool) → binds_now now o.object ≡ b → (if b then Some (choice_at ns o r) else None) ≡ Some c → ⊥
    by false e is = let d : None ≡ Some c = is in absurd cc
    by true e is =
        let same : choice_at ns o r ≡ c = cc in
        let code : leads_to_code s (lazy_word o r) (choice_at ns o r) ≡ true = slots_lead s ns now added none o r new inside e in
        true≢false (sym code ∙ ap (leads_to_code s (lazy_word o r)) (same ∙ missing))

-- ---- a new image

image_bindings : (t : State) (ns : Seen) (now : Bool) (added : List Loaded) (images : List Linked) → HasImages t images → relocation_fault t ns now added ≡ None → (o : Loaded) → Contains added o → IsAccepted o.object
    → AreBindings o.object (with_copies images (uncopied t ns now o)).bindings
image_bindings t ns now added images have none o new accepted = record {
  count = copies_length images o.object o.object.relocs (reloc_bindings t ns o ++ slot_bindings t ns now o) ∙ length-append (reloc_bindings t ns o) (slot_bindings t ns now o)
      ∙ ap (λ (n : ℕ). n + length (slot_bindings t ns now o)) (length-map o.object.relocs (λ r. binding_of t r (choice_at ns o r)))
      ∙ ap (λ (n : ℕ). length o.object.relocs + n) (length-map o.object.plt_relocs (λ r. slot_binding t (r, slot_choice ns now o r)));
  relas = λ k r b at.
      let from = each_rela images o.object (λ q. binding_of t q (choice_at ns o q)) o.object.relocs (slot_bindings t ns now o) k r b at in
      subst (IsBinding o.object r) (sym from.1) (rela_binding t images have o.object r (choice_at ns o r) (relocs_found t ns now added none o r new from.0));
  slots = λ k r b at bound.
      let behind = behind_relas images o.object (λ q. binding_of t q (choice_at ns o q)) o.object.relocs (slot_bindings t ns now o) in
      let from = each_slot (λ q. slot_binding t (q, slot_choice ns now o q)) o.object.plt_relocs k r b (subst (λ (bs : List Binding). slice_get (zip o.object.plt_relocs bs) k ≡ Some (r, b)) behind at) in
      subst (IsBinding o.object r) (sym from.1)
      (slot_is_binding t o.object r (slot_choice ns now o r) (slots_found t ns now added none o r new from.0) (accepted.jump r from.0) (ap (λ (x : Binding). x.bound) (sym from.1) ∙ bound));
}

-- ---- each state

abbrev AllBound : State → Type 0
AllBound s = (i : Linked) → Contains s.images i → AreBindings i.object i.bindings

module _ (read : ReadLaw) (m : Machine) (only : AcceptsOnly m) (w : Setting) (is : w.machine ≡ m) (past : List Event) (lawful : Lawful m past) where
  module _ (hart : ℕ) (ask : OpenAsk) (id root : ℕ) (added : List Loaded) (ranges : List Range) where
    abbrev t : State
    t = loaded (after past) hart ask id root added ranges

    abbrev seen : Seen
    seen = seen_after (after past) ask id root added

    abbrev now : Bool
    now = binds (after past) ask

    abbrev made : List Linked
    made = map (uncopied t seen now) added

    -- each object that is mapped once the opening was made has its image then
    have_images : HasImages t ((after past).images ++ made)
    unfolding loaded
    have_images serial q at lacks =
        let found = found_in (λ (o : Loaded). eqb o.serial serial) (mapped t) q at in
        let home = from_flat (λ (ns : Namespace). ns.objects) t.namespaces q found.0 in
        ⊎_elim
        (λ (old : (ms : Namespace) × Contains (after past).namespaces ms × Contains ms.objects q).
        let image = (images_mapped m past lawful).mapped old.0 q (record { there = old.1; inside = old.2 }) in
        none image.image (Contains-append_left (after past).images made image.image image.there) (image.serial ∙ eqb-true q.serial serial found.1))
        (λ (new : Contains added q). none (uncopied t seen now q) (Contains-append_right (after past).images made _ (in_map (uncopied t seen now) added q new)) (eqb-true q.serial serial found.1))
        (objects_open id added root (is_global ask.flags) (after past).namespaces home.0 q home.1 home.2)
      where
        none : (i : Linked) → Contains ((after past).images ++ made) i → i.serial ≡ serial → ⊥
        none i there same = true≢false (sym (eq-eqb i.serial serial same) ∙ not_found (λ (x : Linked). eqb x.serial serial) ((after past).images ++ made) i lacks there)

    bound_open : Opens w (after past) hart ask id root added ranges → AllBound (after past) → AllBound (step (after past) (events.Open hart ask (opens.Done id root added ranges)))
    unfolding loaded
    bound_open may bound i there = ⊎_elim
        (λ (old : Contains (after past).images i). bound i old)
        (λ (new : Contains (linked_with (after past).images made) i).
        let by = made_of (after past) hart ask id root added ranges i new in
        subst (λ (x : Linked). AreBindings x.object x.bindings) by.2
        (image_bindings t seen now added ((after past).images ++ made) have_images (opens_none w (after past) hart ask id root added ranges ask.name may.name) by.0 by.1
        (opens_accepted read m only w is (after past) hart ask id root added ranges ask.name may.name by.0 by.1)))
        (Contains-append_cases (after past).images _ i there)

  bound_step : (e : Event) → AllowedIn w past (after past) e → AllBound (after past) → AllBound (step (after past) e)
  unfolding die lower initialise unmap
  bound_step (events.Open hart ask (opens.Done id root added ranges)) may bound = bound_open hart ask id root added ranges may bound
  bound_step (events.Open hart ask opens.Absent) may bound = bound
  bound_step (events.Open hart ask (opens.Refused fault)) may bound = bound
  bound_step (events.Close hart handle (closes.Done set)) may bound = bound
  bound_step (events.Close hart handle (closes.Refused fault)) may bound = bound
  bound_step (events.Unmapped hart set) may bound = λ i there. bound i (from_filter (λ (q : Linked). not (has set q.serial)) (after past).images i there).0
  bound_step (events.Grant number hart owner slot choice value) may bound = bound
  bound_step (events.Bound number) may bound = bound
  bound_step (events.Lost number saw) may bound = bound
  bound_step (events.Unresolved hart owner slot choice) may bound = bound
  bound_step (events.Sym hart ask (syms.Found serial index value)) may bound = bound
  bound_step (events.Sym hart ask (syms.Refused fault)) may bound = bound
  bound_step (events.Tls hart owner address) may bound = bound
  bound_step (events.Init hart object) may bound = bound
  bound_step (events.Fini hart object) may bound = bound
  bound_step (events.Wrote hart bytes) may bound = bound
  bound_step (events.Told hart fault) may bound = bound
  bound_step (events.Ended hart reason) may bound = bound

pub images_bound : ReadLaw → (m : Machine) → AcceptsOnly m → (journal : List Event) → Lawful m journal → AllBound (after journal)
images_bound read m only journal lawful = by_lawful m AllBound (λ i there. absurd (none_in i there))
    (λ w past e is past_lawful bound may. bound_step read m only w is past past_lawful e may bound) journal lawful
