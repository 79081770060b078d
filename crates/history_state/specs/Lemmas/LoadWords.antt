-- What slots got at load, and what grants give them, are words: each is an address of 64 bits.
use Rattle.std.proofs.Common.{◌≡◌, ◌∙◌, ap, sym, subst, refl, ⊎_elim, ℕ, ◌+◌, ◌%◌, ◌<◌, Bool, true, false, eqb, List, ◌++◌, map, Option, Some, None, arith}
use Rattle.std.specs.Prelude.{if◌then◌else◌, ◌^◌, nat_le, nat_lt}
use Rattle.std.specs.List.{slice_get, Contains, find}
use Rattle.std.specs.Option.{option_and_then, option_map, option_map_or}
use Rattle.std.proofs.lemmas.Bool.{and_parts, ltb-true}
use Rattle.std.proofs.lemmas.List.Elements.{Contains-append_cases, Contains-push_cases}
use Rattle.ld_base.specs.Symbol.{is_absolute}
use Rattle.ld_base.specs.declared.linking.Choice.{Choice}
use Rattle.ld_base.specs.declared.linking.Choice.TheVariants.{Def, WeakZero, Missing}
use Rattle.ld_base.specs.declared.linking.Loaded.{Loaded}
use Rattle.ld_base.specs.declared.object.Reloc.{Reloc}
use Rattle.ld_base.specs.declared.object.Symbol.{Symbol}
use Rattle.history_event.specs.declared.event.CloseAnswer.TheVariants as closes
use Rattle.history_event.specs.declared.event.Event.{Event}
use Rattle.history_event.specs.declared.event.Event.TheVariants as events
use Rattle.history_event.specs.declared.event.OpenAnswer.TheVariants as opens
use Rattle.history_event.specs.declared.event.SymAnswer.TheVariants as syms
use Rattle.history_event.specs.declared.state.Chosen.{Chosen}
use Rattle.history_event.specs.declared.state.Granting.{Granting}
use Rattle.history_event.specs.declared.state.Standing.TheVariants.{Open}
use Rattle.scope_rule.specs.Relocation.{choice_at}
use Rattle.scope_rule.specs.Seen.{Seen}
use Rattle.seg_image.specs.Pages.{guest_address}
use Rattle.history_state.specs.Addresses.{address, definition_address, is_code_of, is_linkers_page, leads_to_code, linker_function, symbol_address}
use Rattle.history_state.specs.After.{after, after_from}
use Rattle.history_state.specs.Allowed.{AllowedIn}
use Rattle.history_state.specs.Bound.{binds_now, chosen_of, lazy_word, slot_choice, slot_choices}
use Rattle.history_state.specs.Legal.{Lawful}
use Rattle.history_state.specs.Objects.{object_at}
use Rattle.history_state.specs.Relocating.{relocation_fault}
use Rattle.history_state.specs.Setting.{Machine, Setting}
use Rattle.history_state.specs.Slots.{value_at_load}
use Rattle.history_state.specs.State.{State}
use Rattle.history_state.specs.Step.{binds, die, initialise, loaded, lower, seen_after, step, unmap}
use Rattle.history_state.specs.Lemmas.AtLoad.{get_map, opens_none, slots_lead}
use Rattle.history_state.specs.Lemmas.Brought.{LoadLaws}
use Rattle.history_state.specs.Lemmas.Closed.{fewer_chosen}
use Rattle.history_state.specs.Lemmas.Good.{Core}
use Rattle.history_state.specs.Lemmas.Granted.{was_there}
use Rattle.history_state.specs.Lemmas.History.{by_lawful}
use Rattle.history_state.specs.Lemmas.Lists.{at_in, found_in, from_map, none_in}
use Rattle.history_state.specs.Lemmas.Steps.{Law, by_law}

-- ---- the value of a choice

-- the linker's own functions stand in its page
page_word : (a : ℕ) → is_linkers_page a ≡ true → a < 2 ^ 64
page_word a e = let below : a < 0x810000 = ltb-true a 0x810000 (and_parts (nat_le 0x80f000 a) (nat_lt a 0x810000) e).1 in omega (arith, below)

symbol_word : (o : Loaded) (symbol : Symbol) → symbol_address o symbol < 2 ^ 64
unfolding guest_address
symbol_word o symbol = by (is_absolute symbol)
  where
    by : (t : Bool) → (if t then symbol.value % 2 ^ 64 else (o.base + symbol.value) % 2 ^ 64) < 2 ^ 64
    by true = omega arith
    by false = omega arith

definition_word : (found : Option Loaded) (index : ℕ) → definition_address found index < 2 ^ 64
definition_word None index = omega arith
definition_word (Some o) index = by (slice_get o.object.symbols index)
  where
    by : (at : Option Symbol) → option_map_or (symbol_address o) at 0 < 2 ^ 64
    by None = omega arith
    by (Some symbol) = symbol_word o symbol

-- a choice that leads to code is a word
choice_word : (s : State) (lazy : ℕ) (choice : Choice) → leads_to_code s lazy choice ≡ true → address s choice < 2 ^ 64
unfolding leads_to_code is_code_of address
choice_word s lazy (Def serial index) code = by (eqb serial 0) _ (and_parts _ _ code).0
  where
    by : (t own : Bool) → (if t then is_linkers_page (if t then linker_function index else definition_address (object_at s serial) index) else own) ≡ true
        → (if t then linker_function index else definition_address (object_at s serial) index) < 2 ^ 64
    by true own page = page_word (linker_function index) page
    by false own code = definition_word (object_at s serial) index
choice_word s lazy WeakZero code = omega arith
choice_word s lazy Missing code = omega arith

-- ---- the invariant

-- each value that a slot got is a word
abbrev AreWords : List Chosen → Type 0
AreWords chosen = (k : Chosen) (slot value : ℕ) → Contains chosen k → slice_get k.values slot ≡ Some (Some value) → value < 2 ^ 64

-- what a new object got
new_word : (s : State) (ns : Seen) (now : Bool) (added : List Loaded) → relocation_fault s ns now added ≡ None → (o : Loaded) → Contains added o → (slot value : ℕ)
    → slice_get (chosen_of s ns now o).values slot ≡ Some (Some value) → value < 2 ^ 64
new_word s ns now added none o new slot value at =
    let got = get_map (option_map (address s)) (slot_choices ns now o) slot (Some value) at in
    let reloc = get_map (slot_choice ns now o) o.object.plt_relocs slot got.0 got.1 in
    by got.0 (binds_now now o.object) refl reloc.0 reloc.1 reloc.2 got.2
  where
    by : (found : Option Choice) (b : Bool) → binds_now now o.object ≡ b → (r : Reloc) → slice_get o.object.plt_relocs slot ≡ Some r → (if b then Some (choice_at ns o r) else None) ≡ found
        → option_map (address s) found ≡ Some value → value < 2 ^ 64
    by None b e r there chose is = absurd (let d : None ≡ Some value = is in cc)
    by (Some choice) false e r there chose is = absurd (let d : None ≡ Some choice = chose in cc)
    by (Some choice) true e r there chose is =
        let chosen_is : choice_at ns o r ≡ choice = cc in
        let value_is : address s choice ≡ value = cc in
        let code : leads_to_code s (lazy_word o r) choice ≡ true =
        subst (λ (c : Choice). leads_to_code s (lazy_word o r) c ≡ true) chosen_is (slots_lead s ns now added none o r new (at_in o.object.plt_relocs slot r there) e) in
        subst (λ (v : ℕ). v < 2 ^ 64) value_is (choice_word s (lazy_word o r) choice code)

-- what new objects got, beside what was there
opened_words : (s : State) (ns : Seen) (now : Bool) (added : List Loaded) → relocation_fault s ns now added ≡ None → (chosen : List Chosen) → AreWords chosen → AreWords (chosen ++ map (chosen_of s ns now) added)
opened_words s ns now added none chosen words k slot value there at = ⊎_elim
    (λ (old : Contains chosen k). words k slot value old at)
    (λ (new : Contains (map (chosen_of s ns now) added) k).
    let of = from_map (chosen_of s ns now) added k new in
    new_word s ns now added none of.0 of.1 slot value (subst (λ (c : Chosen). slice_get c.values slot ≡ Some (Some value)) (sym of.2) at))
    (Contains-append_cases chosen _ k there)

words_step : (w : Setting) (past : List Event) (s : State) (e : Event) → AllowedIn w past s e → AreWords s.chosen → AreWords (step s e).chosen
unfolding loaded die lower unmap initialise
words_step w past s (events.Open hart ask (opens.Done id root added ranges)) may words =
    opened_words (loaded s hart ask id root added ranges) (seen_after s ask id root added) (binds s ask) added (opens_none w s hart ask id root added ranges ask.name may.name) s.chosen words
words_step w past s (events.Open hart ask opens.Absent) may words = words
words_step w past s (events.Open hart ask (opens.Refused fault)) may words = words
words_step w past s (events.Close hart handle (closes.Done set)) may words = words
words_step w past s (events.Close hart handle (closes.Refused fault)) may words = words
words_step w past s (events.Unmapped hart set) may words = λ k slot value there at. words k slot value (fewer_chosen s.chosen set k there) at
words_step w past s (events.Grant number hart owner slot choice value) may words = words
words_step w past s (events.Bound number) may words = words
words_step w past s (events.Lost number saw) may words = words
words_step w past s (events.Unresolved hart owner slot choice) may words = words
words_step w past s (events.Sym hart ask (syms.Found serial index value)) may words = words
words_step w past s (events.Sym hart ask (syms.Refused fault)) may words = words
words_step w past s (events.Tls hart owner address) may words = words
words_step w past s (events.Init hart object) may words = words
words_step w past s (events.Fini hart object) may words = words
words_step w past s (events.Wrote hart bytes) may words = words
words_step w past s (events.Told hart fault) may words = words
words_step w past s (events.Ended hart reason) may words = words

words_after : (m : Machine) (journal : List Event) → Lawful m journal → AreWords (after journal).chosen
unfolding after_from
words_after m journal lawful = by_lawful m (λ s. AreWords s.chosen) (λ k slot value there at. absurd (none_in k there)) (λ w past e same past_lawful words may. words_step w past (after past) e may words) journal lawful

-- ---- what slots got

value_word : (chosen : List Chosen) → AreWords chosen → (owner slot value : ℕ) → option_and_then (λ c. option_and_then (λ v. v) (slice_get c.values slot)) (find (λ c. eqb c.owner owner) chosen) ≡ Some value → value < 2 ^ 64
value_word chosen words owner slot value is = by (find (λ c. eqb c.owner owner) chosen) refl is
  where
    got : (k : Chosen) → Contains chosen k → (v : Option (Option ℕ)) → slice_get k.values slot ≡ v → option_and_then (λ x. x) v ≡ Some value → value < 2 ^ 64
    got k there None at e = absurd (let d : None ≡ Some value = e in cc)
    got k there (Some v) at e = words k slot value there (at ∙ ap Some e)

    by : (found : Option Chosen) → find (λ c. eqb c.owner owner) chosen ≡ found → option_and_then (λ c. option_and_then (λ v. v) (slice_get c.values slot)) found ≡ Some value → value < 2 ^ 64
    by None at e = absurd (let d : None ≡ Some value = e in cc)
    by (Some k) at e = got k (found_in (λ c. eqb c.owner owner) chosen k at).0 (slice_get k.values slot) refl e

-- so after each lawful history
pub load_word : (m : Machine) (journal : List Event) → Lawful m journal → (owner slot value : ℕ) → value_at_load (after journal) owner slot ≡ Some value → value < 2 ^ 64
load_word m journal lawful owner slot value is = value_word (after journal).chosen (words_after m journal lawful) owner slot value is

-- ---- what grants give

abbrev GrantsAreWords : Core → Type 0
GrantsAreWords c = (g : Granting) → Contains c.grants g → g.value < 2 ^ 64

grants_law : Law GrantsAreWords
unfolding loaded die lower unmap initialise
grants_law = record {
  starts = λ g there. absurd (none_in g there);
  opens = λ w s hart ask id root added ranges good words opens came. words;
  closes = λ s hart handle set good words closes. words;
  unmaps = λ s hart set good words may. words;
  grants = λ s number hart owner slot choice value good words may g there. ⊎_elim
      (λ (old : Contains s.grants g). words g old)
      (λ (e : record { number = number; hart = hart; owner = owner; slot = slot; choice = choice; value = value; standing = Open } ≡ g).
      subst (λ (q : Granting). q.value < 2 ^ 64) e (subst (λ (v : ℕ). v < 2 ^ 64) (sym may.is) (choice_word s _ choice may.may.code)))
      (Contains-push_cases s.grants (record { number = number; hart = hart; owner = owner; slot = slot; choice = choice; value = value; standing = Open }) g there);
  settles = λ s number standing good words shut g there.
      let old = was_there number standing s.grants g there in subst (λ (v : ℕ). v < 2 ^ 64) old.2.value (words old.0 old.1);
  initialises = λ s object good words. words;
}

-- so after each lawful history
pub grant_word : LoadLaws → (m : Machine) (journal : List Event) → Lawful m journal → (g : Granting) → Contains (after journal).grants g → g.value < 2 ^ 64
grant_word laws m journal lawful = (by_law laws GrantsAreWords grants_law m journal lawful).1
