-- What a call other than an opening gives is settled by the state.
use Rattle.std.proofs.Common.{◌≡◌, ⊎_elim, ℕ, ◌+◌, ◌*◌, ◌≤◌, Bool, true, false, List, [], ◌∷◌, ◌++◌, length, map, Some, None, refl, sym, ap, subst, ◌∙◌, arith}
use Rattle.std.specs.List.{Contains, slice_get}
use Rattle.std.proofs.lemmas.Bool.{true≢false}
use Rattle.ld_base.specs.declared.fault.DlFault.{DlFault}
use Rattle.ld_base.specs.declared.fault.Shown.{Shown}
use Rattle.ld_base.specs.declared.fault.Shown.TheVariants as shown
use Rattle.ld_base.specs.declared.linking.Choice.{Choice}
use Rattle.ld_base.specs.declared.linking.Choice.TheVariants.{Def, WeakZero, Missing}
use Rattle.ld_base.specs.declared.linking.File.{File}
use Rattle.ld_base.specs.declared.linking.Loaded.{Loaded}
use Rattle.history_event.specs.declared.event.CloseAnswer.TheVariants as closings
use Rattle.history_event.specs.declared.event.Event.{Event}
use Rattle.history_event.specs.declared.event.Event.TheVariants as events
use Rattle.history_event.specs.declared.event.OpenAsk.{OpenAsk}
use Rattle.history_event.specs.declared.event.SymAnswer.TheVariants as symbols
use Rattle.history_event.specs.declared.event.SymAsk.{SymAsk}
use Rattle.history_event.specs.declared.hart_end.HartEnd.{HartEnd}
use Rattle.history_event.specs.declared.hart_end.HartEnd.TheVariants as ends
use Rattle.history_event.specs.declared.state.Module.{Module}
use Rattle.history_event.specs.declared.state.Standing.TheVariants.{Open}
use Rattle.history_state.specs.Addresses.{address, leads_to_code}
use Rattle.history_state.specs.After.{after}
use Rattle.history_state.specs.Allowed.{Allowed, Closes, IsBadHandle, IsOpened, IsUnresolved, MayUnmap, kept_for}
use Rattle.history_state.specs.Laws.{AreApart, IsIn, OpeningsStand}
use Rattle.history_state.specs.Legal.{Lawful}
use Rattle.history_state.specs.Links.{IsUnneeded, edges, roots}
use Rattle.history_state.specs.Lookup.{FindsSymbol, HasNoBlock, MayAnswer, MayHaveBlock, RefusesSymbol, is_storage_symbol, search}
use Rattle.history_state.specs.Lookup.RefusesSymbol.{name_too_long, bad_handle, missing, no_room as no_pages}
use Rattle.history_state.specs.Objects.{serial_of}
use Rattle.history_state.specs.Setting.{Machine, Setting}
use Rattle.history_state.specs.Slots.{IsSlot, lazy_of}
use Rattle.history_state.specs.State.{State}
use Rattle.history_state.specs.Step.{lower, step}
use Rattle.history_state.specs.Storage.{tls_block}
use Rattle.tls_blocks.specs.Numbers.{module_at}
use Rattle.scope_rule.specs.Loading.{is_dying}
use Rattle.scope_rule.specs.declared.namespace.Namespace.{Namespace}
use Rattle.history_state.specs.Lemmas.Alone.{apart}
use Rattle.history_state.specs.Lemmas.Brought.{LoadLaws}
use Rattle.history_state.specs.Lemmas.History.{after_push}
use Rattle.history_state.specs.Lemmas.Openings.{openings_stand}
use Rattle.scope_rule.specs.declared.namespace.OpenRec.{OpenRec}
use Rattle.history_calls.specs.Lemmas.Rooted.{FindLaw, rooted_after}
use Rattle.history_calls.specs.Answer.{Answer, returns, loading, closing, refused, granted, told, again, over}
use Rattle.history_calls.specs.Call.{Call, resolves, opens, looks_up, closes, unmaps, asks_fault, locates, writes, stops}
use Rattle.history_calls.specs.Ends.{EndsAs, HasNoRoom, IsBadModule, IsUnloaded, LacksSlot}
use Rattle.history_calls.specs.Ends.EndsAs.{unloaded, no_slot, bad_module, no_room, no_memory, asked}
use Rattle.history_calls.specs.Gives.{EventAnswers, FindsFirst, GetsBlock, Gives, HasBlock, variable_at}
use Rattle.history_calls.specs.Gives.EventAnswers.{is_loaded, is_there, is_absent, is_not_opened, dies, stays, is_not_closed, is_unmapped, is_granted, is_unresolved, is_not_code, is_found, is_not_found, is_told, is_written}
use Rattle.history_calls.specs.Gives.Gives.{by_event, by_first_block, in_new_block, in_block, to_again, to_end}
use Rattle.history_calls.specs.Laws.{IsPlain, is_chance, is_memory, is_want}
use Rattle.history_calls.specs.Waiting.{IsHeldBy, Shows}
use Rattle.history_calls.specs.Waiting.Shows.{by_load, by_grant}
use Rattle.history_calls.specs.Lemmas.Opened.{ComesTo, OutcomeLaws, from_absent, from_opens, from_refuses, from_waits, missing as missing_end, not_opened, opened, same_opening, waiting}
use Rattle.history_calls.specs.Lemmas.Unique.{block_or_none, both_found, eight_times, found_or_refused, has_found, long_or_short, no_search, not_both, not_yet, same_block, same_found, same_lack, same_refusal, same_slot, same_symbol, same_unneeded}

-- ---- a slot

abbrev slot_events : State → ℕ → ℕ → ℕ → Choice → Bool → List Event
slot_events s h owner slot choice true = events.Grant (length s.grants + 1) h owner slot choice (address s choice) ∷ []
slot_events s h owner slot choice false = events.Unresolved h owner slot choice ∷ []

abbrev lack_of : ℕ → ℕ → Choice → HartEnd
lack_of owner slot (Def serial index) = ends.NotCode owner slot
lack_of owner slot WeakZero = ends.Unresolved owner slot
lack_of owner slot Missing = ends.Unresolved owner slot

abbrev slot_answer : State → ℕ → ℕ → ℕ → Choice → Bool → Answer
slot_answer s h owner slot choice true =
    granted (record { number = length s.grants + 1; hart = h; owner = owner; slot = slot; choice = choice; value = address s choice; standing = Open })
slot_answer s h owner slot choice false = over (lack_of owner slot choice)

pub record AtSlot (s : State) (h owner eights : ℕ) (given : List Event) (answer : Answer) : Type 0 where
  pub slot : ℕ
  pub choice : Choice
  pub leads : Bool
  pub is : IsSlot s owner slot choice
  pub eight : eights ≡ 8 * slot
  pub code : leads_to_code s (lazy_of is) choice ≡ leads
  pub events_are : given ≡ slot_events s h owner slot choice leads
  pub answer_is : answer ≡ slot_answer s h owner slot choice leads

pub data Resolved (s : State) (h owner eights : ℕ) : List Event → Answer → Type 0 where
  at_slot : (given : List Event) (answer : Answer) → AtSlot s h owner eights given answer → Resolved s h owner eights given answer
  at_none : IsUnloaded s owner → Resolved s h owner eights [] (over (ends.Unloaded owner))
  lacks : LacksSlot s owner eights → Resolved s h owner eights [] (over (ends.NoSlot owner eights))

slot_mapped : (s : State) (h owner eights : ℕ) (given : List Event) (answer : Answer) → AtSlot s h owner eights given answer → IsUnloaded s owner → ⊥
slot_mapped s h owner eights given answer a none = none (record { namespace = a.is.namespace; object = a.is.object; there = a.is.there; inside = a.is.inside; is = a.is.is })

slot_there : (s : State) (h owner eights : ℕ) (given : List Event) (answer : Answer) → AreApart s → AtSlot s h owner eights given answer → LacksSlot s owner eights → ⊥
slot_there s h owner eights given answer apart a lack =
    let same = apart.records a.is.namespace lack.mapped.namespace a.is.object lack.mapped.object (record { there = a.is.there; inside = a.is.inside })
    (record { there = lack.mapped.there; inside = lack.mapped.inside }) (a.is.is ∙ sym lack.mapped.is) in
    not_both (slice_get lack.mapped.object.object.plt_relocs a.slot) a.is.reloc (lack.none a.slot a.eight) (subst (λ o. slice_get o.object.plt_relocs a.slot ≡ Some a.is.reloc) same a.is.at)

same_at_slot : (s : State) (h owner eights : ℕ) (given others : List Event) (answer other : Answer) → AreApart s → AtSlot s h owner eights given answer → AtSlot s h owner eights others other
    → (given ≡ others) × (answer ≡ other)
same_at_slot s h owner eights given others answer other apart a b = by a.slot (eight_times eights a.slot b.slot a.eight b.eight) a.is a.code a.events_are a.answer_is
  where
    by : (slot : ℕ) → slot ≡ b.slot → (is : IsSlot s owner slot a.choice) → leads_to_code s (lazy_of is) a.choice ≡ a.leads → given ≡ slot_events s h owner slot a.choice a.leads
        → answer ≡ slot_answer s h owner slot a.choice a.leads → (given ≡ others) × (answer ≡ other)
    by slot e = subst (λ (n : ℕ). (is : IsSlot s owner n a.choice) → leads_to_code s (lazy_of is) a.choice ≡ a.leads → given ≡ slot_events s h owner n a.choice a.leads
        → answer ≡ slot_answer s h owner n a.choice a.leads → (given ≡ others) × (answer ≡ other)) (sym e)
        (λ is code given_is answer_is.
        let same = same_slot s apart owner b.slot a.choice b.choice is b.is in
        let leads : a.leads ≡ b.leads = sym code ∙ ap (λ (n : ℕ). leads_to_code s n a.choice) same.lazy ∙ ap (leads_to_code s (lazy_of b.is)) same.choice ∙ b.code in (
          given_is ∙ ap (λ (c : Choice). slot_events s h owner b.slot c a.leads) same.choice ∙ ap (slot_events s h owner b.slot b.choice) leads ∙ sym b.events_are,
          answer_is ∙ ap (λ (c : Choice). slot_answer s h owner b.slot c a.leads) same.choice ∙ ap (slot_answer s h owner b.slot b.choice) leads ∙ sym b.answer_is,
        ))

same_resolved : (s : State) (h owner eights : ℕ) → AreApart s → {given others : List Event} {answer other : Answer} → Resolved s h owner eights given answer → Resolved s h owner eights others other
    → (given ≡ others) × (answer ≡ other)
same_resolved s h owner eights apart (at_slot given answer a) (at_slot others other b) = same_at_slot s h owner eights given others answer other apart a b
same_resolved s h owner eights apart (at_slot given answer a) (at_none none) = absurd (slot_mapped s h owner eights given answer a none)
same_resolved s h owner eights apart (at_slot given answer a) (lacks lack) = absurd (slot_there s h owner eights given answer apart a lack)
same_resolved s h owner eights apart (at_none none) (at_slot others other b) = absurd (slot_mapped s h owner eights others other b none)
same_resolved s h owner eights apart (at_none none) (at_none also) = (refl, refl)
same_resolved s h owner eights apart (at_none none) (lacks lack) = absurd (none lack.mapped)
same_resolved s h owner eights apart (lacks lack) (at_slot others other b) = absurd (slot_there s h owner eights others other apart b lack)
same_resolved s h owner eights apart (lacks lack) (at_none none) = absurd (none lack.mapped)
same_resolved s h owner eights apart (lacks lack) (lacks also) = (refl, refl)

-- ---- a symbol

pub data LookedUp (w : Setting) (past : List Event) (h : ℕ) (ask : SymAsk) : List Event → Answer → Type 0 where
  finds : (serial index value : ℕ) → FindsSymbol (after past) h ask serial index value → LookedUp w past h ask (events.Sym h ask (symbols.Found serial index value) ∷ []) (returns value)
  finds_first : (e f : Event) (value : ℕ) → FindsFirst w past h ask e f value → LookedUp w past h ask (e ∷ f ∷ []) (returns value)
  refuses : (fault : DlFault) → RefusesSymbol (after past) h ask fault → LookedUp w past h ask (events.Sym h ask (symbols.Refused fault) ∷ []) (refused fault)

-- a block changes no search, and no definition
pub searches_on : (s : State) (h serial block : ℕ) (ask : SymAsk) → search (step s (events.Tls h serial block)) ask ≡ search s ask
unfolding search
searches_on s h serial block ask = refl

-- a first look-up: the block and the definition
pub record First (s : State) (h : ℕ) (ask : SymAsk) (e f : Event) (value : ℕ) : Type 0 where
  pub serial : ℕ
  pub index : ℕ
  pub block : ℕ
  pub storage : is_storage_symbol s serial index ≡ true
  pub gets : e ≡ events.Tls h serial block
  pub finds : f ≡ events.Sym h ask (symbols.Found serial index value)
  pub may : MayHaveBlock s h serial block
  pub found : FindsSymbol (step s (events.Tls h serial block)) h ask serial index value

first_of : {w : Setting} {past : List Event} {h : ℕ} {ask : SymAsk} {e f : Event} {value : ℕ} → FindsFirst w past h ask e f value → First (after past) h ask e f value
first_of {w} {past} {h} {ask} {e} {f} {value} x = record {
  serial = x.serial;
  index = x.index;
  block = x.block;
  storage = x.storage;
  gets = x.gets;
  finds = x.finds;
  may = get (subst (Allowed w past) x.gets x.may_get);
  found = find (subst (λ (s : State). MayAnswer s h ask (symbols.Found x.serial x.index value)) (after_push past (events.Tls h x.serial x.block))
      (answer (subst (Allowed w (past ++ events.Tls h x.serial x.block ∷ [])) x.finds (subst (λ (d : Event). Allowed w (past ++ d ∷ []) f) x.gets x.may_find))));
}
  where
    get : Allowed w past (events.Tls h x.serial x.block) → MayHaveBlock (after past) h x.serial x.block
    get may = may

    answer : Allowed w (past ++ events.Tls h x.serial x.block ∷ []) (events.Sym h ask (symbols.Found x.serial x.index value))
        → MayAnswer (after (past ++ events.Tls h x.serial x.block ∷ [])) h ask (symbols.Found x.serial x.index value)
    answer may = may

    find : MayAnswer (step (after past) (events.Tls h x.serial x.block)) h ask (symbols.Found x.serial x.index value) → FindsSymbol (step (after past) (events.Tls h x.serial x.block)) h ask x.serial x.index value
    find may = may.1

first_found : {s : State} {h : ℕ} {ask : SymAsk} {e f : Event} {value : ℕ} (x : First s h ask e f value) → search s ask ≡ Some (Some (x.serial, x.index))
first_found {s} {h} {ask} x = sym (searches_on s h x.serial x.block ask) ∙ x.found.found

found_not_first : {s : State} {h : ℕ} {ask : SymAsk} {e f : Event} {value : ℕ} (serial index address : ℕ) → FindsSymbol s h ask serial index address → First s h ask e f value → ⊥
found_not_first {s} {h} {ask} serial index value a x = not_yet s h ask serial index value x.serial x.index a (first_found x) x.storage x.may.wants.none

first_not_refused : {s : State} {h : ℕ} {ask : SymAsk} {e f : Event} {value : ℕ} (fault : DlFault) → First s h ask e f value → RefusesSymbol s h ask fault → ⊥
first_not_refused {s} {h} {ask} {e} {f} {value} _ x (no_pages serial index pages short found storage without) =
    let same = same_symbol (search s ask) serial index x.serial x.index found (first_found x) in
    block_or_none s h x.serial x.block pages x.may (subst (λ (n : ℕ). HasNoBlock s h n pages) same.serials without)
first_not_refused {s} {h} {ask} _ x (name_too_long long) = long_or_short ask long x.found.short
first_not_refused {s} {h} {ask} _ x (bad_handle short handle none) = not_both (search s ask) (Some (x.serial, x.index)) (no_search s ask handle none) (first_found x)
first_not_refused {s} {h} {ask} _ x (missing short none) = true≢false (sym (ap has_found (first_found x)) ∙ ap has_found none)

same_first : {s : State} {h : ℕ} {ask : SymAsk} {e f d c : Event} {value other : ℕ} → First s h ask e f value → First s h ask d c other → (e ∷ f ∷ [] ≡ d ∷ c ∷ []) × (returns value ≡ returns other)
same_first {s} {h} {ask} {e} {f} {d} {c} {value} {other} x y =
    let same = same_symbol (search s ask) x.serial x.index y.serial y.index (first_found x) (first_found y) in
    let blocks : x.block ≡ y.block = same_block s h y.serial x.block y.block (subst (λ (n : ℕ). MayHaveBlock s h n x.block) same.serials x.may) y.may in
    let found : FindsSymbol (step s (events.Tls h y.serial y.block)) h ask x.serial x.index value =
    subst (λ (n : ℕ). FindsSymbol (step s (events.Tls h y.serial n)) h ask x.serial x.index value) blocks
    (subst (λ (n : ℕ). FindsSymbol (step s (events.Tls h n x.block)) h ask x.serial x.index value) same.serials x.found) in
    let one = same_found (step s (events.Tls h y.serial y.block)) h ask x.serial x.index value y.serial y.index other found y.found in
    let values : value ≡ other = one.2 in (
      ap (λ (v : Event). v ∷ f ∷ []) (x.gets ∙ ap (λ (n : ℕ). events.Tls h n x.block) same.serials ∙ ap (events.Tls h y.serial) blocks ∙ sym y.gets)
          ∙ ap (λ (v : Event). d ∷ v ∷ []) (x.finds ∙ ap (λ (n : ℕ). events.Sym h ask (symbols.Found n x.index value)) same.serials
          ∙ ap (λ (n : ℕ). events.Sym h ask (symbols.Found y.serial n value)) same.indexes ∙ ap (λ (n : ℕ). events.Sym h ask (symbols.Found y.serial y.index n)) values ∙ sym y.finds),
      ap returns values,
    )

pub same_looked_up : (w : Setting) (past : List Event) (h : ℕ) (ask : SymAsk) {given others : List Event} {answer other : Answer} → LookedUp w past h ask given answer → LookedUp w past h ask others other
    → (given ≡ others) × (answer ≡ other)
same_looked_up w past h ask (finds serial index value a) (finds other at address b) =
    let one = same_found (after past) h ask serial index value other at address a b in (
      ap (λ (n : ℕ). events.Sym h ask (symbols.Found n index value) ∷ []) one.0
          ∙ ap (λ (n : ℕ). events.Sym h ask (symbols.Found other n value) ∷ []) one.1 ∙ ap (λ (n : ℕ). events.Sym h ask (symbols.Found other at n) ∷ []) one.2,
      ap returns one.2,
    )
same_looked_up w past h ask (finds serial index value a) (finds_first e f address b) = absurd (found_not_first serial index value a (first_of b))
same_looked_up w past h ask (finds serial index value a) (refuses fault b) = absurd (found_or_refused (after past) h ask serial index value fault a b)
same_looked_up w past h ask (finds_first e f value a) (finds other at address b) = absurd (found_not_first other at address b (first_of a))
same_looked_up w past h ask (finds_first e f value a) (finds_first d c address b) = same_first (first_of a) (first_of b)
same_looked_up w past h ask (finds_first e f value a) (refuses fault b) = absurd (first_not_refused fault (first_of a) b)
same_looked_up w past h ask (refuses fault a) (finds other at address b) = absurd (found_or_refused (after past) h ask other at address fault b a)
same_looked_up w past h ask (refuses fault a) (finds_first e f value b) = absurd (first_not_refused fault (first_of b) a)
same_looked_up w past h ask (refuses fault a) (refuses other b) =
    let same = same_refusal (after past) h ask fault other a b in
    (ap (λ (x : DlFault). events.Sym h ask (symbols.Refused x) ∷ []) same, ap refused same)

-- ---- an unmapping

pub data Unmapping (s : State) (h : ℕ) (set : List ℕ) : List Event → Answer → Type 0 where
  goes : MayUnmap s h set → Unmapping s h set (events.Unmapped h set ∷ []) (returns 0)
  held : (number : ℕ) → IsHeldBy s set number → Unmapping s h set [] (again (shown.OpenGrant number))

goes_unheld : (s : State) (h : ℕ) (set : List ℕ) (number : ℕ) → MayUnmap s h set → IsHeldBy s set number → ⊥
goes_unheld s h set number may by =
    let free = may.free by.grant by.touches.0 by.is.there by.is.open_yet by.touches.1 in
    ⊎_elim free.0 free.1 by.touches.2

same_holder : (s : State) (set : List ℕ) (number other : ℕ) → IsHeldBy s set number → IsHeldBy s set other → number ≡ other
same_holder s set number other a b =
    let low : number ≤ b.grant.number = a.least b.grant b.is.there b.is.open_yet b.touches in
    let high : other ≤ a.grant.number = b.least a.grant a.is.there a.is.open_yet a.touches in
    let first : a.grant.number ≡ number = a.is.numbered in
    let second : b.grant.number ≡ other = b.is.numbered in
    omega (arith, low, high, first, second)

same_unmapping : (s : State) (h : ℕ) (set : List ℕ) {given others : List Event} {answer other : Answer} → Unmapping s h set given answer → Unmapping s h set others other → (given ≡ others) × (answer ≡ other)
same_unmapping s h set (goes may) (goes also) = (refl, refl)
same_unmapping s h set (goes may) (held number by) = absurd (goes_unheld s h set number may by)
same_unmapping s h set (held number by) (goes may) = absurd (goes_unheld s h set number may by)
same_unmapping s h set (held number by) (held other with) = (refl, ap (λ (n : ℕ). again (shown.OpenGrant n)) (same_holder s set number other by with))

-- ---- a block

pub data Located (w : Setting) (past : List Event) (h number offset : ℕ) : List Event → Answer → Type 0 where
  in_new : (block : ℕ) (e : Event) → GetsBlock w past h number block e → Located w past h number offset (e ∷ []) (returns (variable_at block offset))
  in_old : (block : ℕ) → HasBlock (after past) h number block → Located w past h number offset [] (returns (variable_at block offset))
  is_bad : IsBadModule (after past) number → Located w past h number offset [] (over (ends.BadModule number))
  is_full : (pages : ℕ) → HasNoRoom (after past) h number pages → Located w past h number offset [] (over (ends.AddressSpaceFull pages))

-- the block that the hart gets
gets_block : {w : Setting} {past : List Event} {h number block : ℕ} {e : Event} (x : GetsBlock w past h number block e) → MayHaveBlock (after past) h x.of.serial block
gets_block {w} {past} {h} {number} {block} {e} x = may (subst (Allowed w past) x.is x.may)
  where
    may : Allowed w past (events.Tls h x.of.serial block) → MayHaveBlock (after past) h x.of.serial block
    may allowed = allowed

same_module : (s : State) (number : ℕ) (m n : Module) → module_at s.modules number ≡ Some m → module_at s.modules number ≡ Some n → m.serial ≡ n.serial
same_module s number m n a b = ap (λ (x : Module). x.serial) (both_found (module_at s.modules number) m n a b)

new_not_old : {w : Setting} {past : List Event} {h number block other : ℕ} {e : Event} → GetsBlock w past h number block e → HasBlock (after past) h number other → ⊥
new_not_old {w} {past} {h} {number} {block} {other} x y =
    not_both (tls_block (after past) h y.of.serial) other
    (subst (λ (n : ℕ). tls_block (after past) h n ≡ None) (same_module (after past) number x.of y.of x.there y.there) (gets_block x).wants.none) y.is

new_not_full : {w : Setting} {past : List Event} {h number block pages : ℕ} {e : Event} → GetsBlock w past h number block e → HasNoRoom (after past) h number pages → ⊥
new_not_full {w} {past} {h} {number} {block} {pages} x y =
    block_or_none (after past) h y.of.serial block pages
    (subst (λ (n : ℕ). MayHaveBlock (after past) h n block) (same_module (after past) number x.of y.of x.there y.there) (gets_block x)) y.none

old_not_full : {s : State} {h number block pages : ℕ} → HasBlock s h number block → HasNoRoom s h number pages → ⊥
old_not_full {s} {h} {number} {block} x y =
    not_both (tls_block s h y.of.serial) block y.none.wants.none
    (subst (λ (n : ℕ). tls_block s h n ≡ Some block) (same_module s number x.of y.of x.there y.there) x.is)

same_new : {w : Setting} {past : List Event} {h number block other : ℕ} {e f : Event} → GetsBlock w past h number block e → GetsBlock w past h number other f → (e ≡ f) × (block ≡ other)
same_new {w} {past} {h} {number} {block} {other} x y =
    let serials = same_module (after past) number x.of y.of x.there y.there in
    let blocks = same_block (after past) h y.of.serial block other (subst (λ (n : ℕ). MayHaveBlock (after past) h n block) serials (gets_block x)) (gets_block y) in
    (x.is ∙ ap (λ (n : ℕ). events.Tls h n block) serials ∙ ap (events.Tls h y.of.serial) blocks ∙ sym y.is, blocks)

same_old : {s : State} {h number block other : ℕ} → HasBlock s h number block → HasBlock s h number other → block ≡ other
same_old {s} {h} {number} {block} {other} x y =
    both_found (tls_block s h y.of.serial) block other (subst (λ (n : ℕ). tls_block s h n ≡ Some block) (same_module s number x.of y.of x.there y.there) x.is) y.is

same_full : {s : State} {h number pages other : ℕ} → HasNoRoom s h number pages → HasNoRoom s h number other → pages ≡ other
same_full {s} {h} {number} {pages} {other} x y =
    same_lack s h y.of.serial pages other (subst (λ (n : ℕ). HasNoBlock s h n pages) (same_module s number x.of y.of x.there y.there) x.none) y.none

pub same_located : (w : Setting) (past : List Event) (h number offset : ℕ) {given others : List Event} {answer other : Answer} → Located w past h number offset given answer
    → Located w past h number offset others other → (given ≡ others) × (answer ≡ other)
same_located w past h number offset (in_new block e x) (in_new other f y) = let same = same_new x y in (ap (λ (v : Event). v ∷ []) same.0, ap (λ (n : ℕ). returns (variable_at n offset)) same.1)
same_located w past h number offset (in_new block e x) (in_old other y) = absurd (new_not_old x y)
same_located w past h number offset (in_new block e x) (is_bad none) = absurd (not_both _ x.of none x.there)
same_located w past h number offset (in_new block e x) (is_full pages y) = absurd (new_not_full x y)
same_located w past h number offset (in_old block x) (in_new other f y) = absurd (new_not_old y x)
same_located w past h number offset (in_old block x) (in_old other y) = (refl, ap (λ (n : ℕ). returns (variable_at n offset)) (same_old x y))
same_located w past h number offset (in_old block x) (is_bad none) = absurd (not_both _ x.of none x.there)
same_located w past h number offset (in_old block x) (is_full pages y) = absurd (old_not_full x y)
same_located w past h number offset (is_bad none) (in_new other f y) = absurd (not_both _ y.of none y.there)
same_located w past h number offset (is_bad none) (in_old other y) = absurd (not_both _ y.of none y.there)
same_located w past h number offset (is_bad none) (is_bad also) = (refl, refl)
same_located w past h number offset (is_bad none) (is_full pages y) = absurd (not_both _ y.of none y.there)
same_located w past h number offset (is_full pages x) (in_new other f y) = absurd (new_not_full y x)
same_located w past h number offset (is_full pages x) (in_old other y) = absurd (old_not_full y x)
same_located w past h number offset (is_full pages x) (is_bad none) = absurd (not_both _ x.of none x.there)
same_located w past h number offset (is_full pages x) (is_full other y) = (refl, ap (λ (n : ℕ). over (ends.AddressSpaceFull n)) (same_full x y))

-- ---- a closing

pub close_answer : List ℕ → Answer
close_answer [] = returns 0
close_answer (first ∷ rest) = closing (first ∷ rest)

pub record Gone (s : State) (h handle : ℕ) (given : List Event) (answer : Answer) : Type 0 where
  pub set : List ℕ
  pub closes : Closes s handle set
  pub events_are : given ≡ events.Close h handle (closings.Done set) ∷ []
  pub answer_is : answer ≡ close_answer set

pub data Closed (s : State) (h handle : ℕ) : List Event → Answer → Type 0 where
  gone : (given : List Event) (answer : Answer) → Gone s h handle given answer → Closed s h handle given answer
  bad : (fault : DlFault) → IsBadHandle s handle fault → Closed s h handle (events.Close h handle (closings.Refused fault) ∷ []) (refused fault)

abbrev RootsAreSome : State → Type 0
RootsAreSome s = (ns : Namespace) (r : OpenRec) → Contains s.namespaces ns → Contains ns.opens r → 1 ≤ r.root

abbrev ThereBy : State → ℕ → Namespace → Type 0
ThereBy s handle n = (o : Loaded) × IsIn s n o × (o.serial ≡ handle)

same_home : (s : State) (handle : ℕ) → AreApart s → OpeningsStand s → RootsAreSome s → (ns ms : Namespace) → IsOpened s handle ns → IsOpened s handle ms → ns ≡ ms
same_home s handle apart stand rooted ns ms a b = at ns a (in_there ns a) (in_there ms b)
  where
    in_there : (n : Namespace) → IsOpened s handle n → ThereBy s handle n
    in_there n x = ⊎_elim
        (λ (e : x.opening.root ≡ 0). absurd (let some : 1 ≤ x.opening.root = rooted n x.opening x.there x.inside in let zero_is : x.opening.root ≡ 0 = e in omega (arith, some, zero_is)))
        (λ (lives : (o : Loaded) × Contains n.objects o × (o.serial ≡ x.opening.root) × (is_dying o ≡ false)). (lives.0, record { there = x.there; inside = lives.1 }, lives.2 ∙ x.of))
        (stand.root n x.opening x.there x.inside)

    at : (n : Namespace) → IsOpened s handle n → ThereBy s handle n → ThereBy s handle ms → n ≡ ms
    at n x i j = apart.objects n ms i.0 j.0 i.1 j.1 (i.2 ∙ sym j.2)

same_dying : (s : State) (handle : ℕ) → AreApart s → OpeningsStand s → RootsAreSome s → (set other : List ℕ) → Closes s handle set → Closes s handle other → set ≡ other
same_dying s handle apart stand rooted set other a b =
    same_unneeded (edges (lower handle s)) (roots (lower handle s)) (map serial_of b.namespace.objects) set other
    (subst (λ (n : Namespace). IsUnneeded (lower handle s) (map serial_of n.objects) set) (same_home s handle apart stand rooted a.namespace b.namespace a.opened b.opened) a.exactly)
    b.exactly

same_closed : (s : State) (h handle : ℕ) → AreApart s → OpeningsStand s → RootsAreSome s → {given others : List Event} {answer other : Answer} → Closed s h handle given answer → Closed s h handle others other
    → (given ≡ others) × (answer ≡ other)
same_closed s h handle apart stand rooted (gone given answer a) (gone others other b) =
    let sets : a.set ≡ b.set = same_dying s handle apart stand rooted a.set b.set a.closes b.closes in (
      a.events_are ∙ ap (λ (x : List ℕ). events.Close h handle (closings.Done x) ∷ []) sets ∙ sym b.events_are,
      a.answer_is ∙ ap close_answer sets ∙ sym b.answer_is,
    )
same_closed s h handle apart stand rooted (gone given answer a) (bad fault b) = absurd (b.none a.closes.namespace a.closes.opened)
same_closed s h handle apart stand rooted (bad fault a) (gone others other b) = absurd (a.none b.closes.namespace b.closes.opened)
same_closed s h handle apart stand rooted (bad fault a) (bad other b) =
    let same : fault ≡ other = a.is ∙ sym b.is in
    (ap (λ (x : DlFault). events.Close h handle (closings.Refused x) ∷ []) same, ap refused same)

-- ---- each call

pub Inverts : Setting → List Event → ℕ → Call → List Event → Answer → Type 0
Inverts w past h (resolves owner eights) given answer = Resolved (after past) h owner eights given answer
Inverts w past h (opens ask) given answer = ComesTo w (after past) h ask given answer
Inverts w past h (looks_up ask) given answer = LookedUp w past h ask given answer
Inverts w past h (closes handle) given answer = Closed (after past) h handle given answer
Inverts w past h (unmaps set) given answer = Unmapping (after past) h set given answer
Inverts w past h asks_fault given answer = (given ≡ events.Told h (kept_for (after past) h) ∷ []) × (answer ≡ told (kept_for (after past) h))
Inverts w past h (locates number offset) given answer = Located w past h number offset given answer
Inverts w past h (writes bytes) given answer = (given ≡ events.Wrote h bytes ∷ []) × (answer ≡ returns (length bytes))
Inverts w past h (stops reason) given answer = (given ≡ []) × (answer ≡ over reason)

unresolved_at : (s : State) (h owner eights slot : ℕ) (choice : Choice) → eights ≡ 8 * slot → IsUnresolved s h owner slot choice
    → Resolved s h owner eights (events.Unresolved h owner slot choice ∷ []) (over (lack_of owner slot choice))
unresolved_at s h owner eights slot choice eight may = at_slot _ _ (record {
  slot = slot;
  choice = choice;
  leads = false;
  is = may.may_not.is_slot;
  eight = eight;
  code = may.may_not.code;
  events_are = refl;
  answer_is = refl;
})

dying_is : (x : ℕ) (xs : List ℕ) → closing (x ∷ xs) ≡ close_answer (x ∷ xs)
unfolding close_answer
dying_is x xs = refl

none_is : returns 0 ≡ close_answer []
unfolding close_answer
none_is = refl

invert_one : (w : Setting) (past : List Event) {h : ℕ} {call : Call} {e : Event} {answer : Answer} → EventAnswers h call e answer → Allowed w past e → Inverts w past h call (e ∷ []) answer
unfolding Inverts
invert_one w past {h} (is_loaded ask id root first rest ranges) may =
    record { end = opened id root (first ∷ rest) ranges; ends = from_opens w (after past) h ask id root (first ∷ rest) ranges may; events_are = refl; answer_is = refl }
invert_one w past {h} (is_there ask id root ranges) may =
    record { end = opened id root [] ranges; ends = from_opens w (after past) h ask id root [] ranges may; events_are = refl; answer_is = refl }
invert_one w past {h} (is_absent ask) may = record { end = missing_end; ends = from_absent w (after past) h ask may; events_are = refl; answer_is = refl }
invert_one w past {h} (is_not_opened ask fault) may =
    record { end = not_opened fault; ends = from_refuses w (after past) h ask fault may.refuses; events_are = refl; answer_is = refl }
invert_one w past (dies handle first rest) may = gone _ _ (record { set = first ∷ rest; closes = may; events_are = refl; answer_is = dying_is first rest })
invert_one w past (stays handle) may = gone _ _ (record { set = []; closes = may; events_are = refl; answer_is = none_is })
invert_one w past (is_not_closed handle fault) may = bad fault may
invert_one w past (is_unmapped set) may = goes may
invert_one w past {h} (is_granted owner eights slot number choice value eight) may = at_slot _ _ (record {
  slot = slot;
  choice = choice;
  leads = true;
  is = may.may.is_slot;
  eight = eight;
  code = may.may.code;
  events_are = ap (λ (n : ℕ). events.Grant n h owner slot choice value ∷ []) may.numbered ∙ ap (λ (n : ℕ). events.Grant (length (after past).grants + 1) h owner slot choice n ∷ []) may.is;
  answer_is = ap (λ (n : ℕ). granted (record { number = n; hart = h; owner = owner; slot = slot; choice = choice; value = value; standing = Open })) may.numbered
      ∙ ap (λ (n : ℕ). granted (record { number = length (after past).grants + 1; hart = h; owner = owner; slot = slot; choice = choice; value = n; standing = Open })) may.is;
})
invert_one w past {h} (is_unresolved owner eights slot eight) may = unresolved_at (after past) h owner eights slot Missing eight may
invert_one w past {h} (is_not_code owner eights slot serial index eight) may = unresolved_at (after past) h owner eights slot (Def serial index) eight may
invert_one w past (is_found ask serial index value) may = finds serial index value may.1
invert_one w past (is_not_found ask fault) may = refuses fault may.1
invert_one w past {h} (is_told fault) may = (ap (λ x. events.Told h x ∷ []) may, ap told may)
invert_one w past (is_written bytes) may = (refl, refl)

invert_end : (w : Setting) (past : List Event) {h : ℕ} {call : Call} {reason : HartEnd} → EndsAs (after past) h call reason → is_memory reason ≡ false → Inverts w past h call [] (over reason)
unfolding Inverts
invert_end w past (unloaded owner eights none) ample = at_none none
invert_end w past (no_slot owner eights lack) ample = lacks lack
invert_end w past (bad_module number offset none) ample = is_bad none
invert_end w past (no_room number offset pages none) ample = is_full pages none
invert_end w past (no_memory call takes) ample = absurd (true≢false ample)
invert_end w past (asked reason own) ample = (refl, refl)

invert_wait : (w : Setting) (past : List Event) {h : ℕ} {call : Call} {for : Shown} → Shows w (after past) h call for → Inverts w past h call [] (again for)
unfolding Inverts
invert_wait w past {h} (by_load ask for waits) = record { end = waiting for; ends = from_waits w (after past) h ask for waits; events_are = refl; answer_is = refl }
invert_wait w past (by_grant set number finished by) = held number by

invert : {w : Setting} {past : List Event} {h : ℕ} {call : Call} {given : List Event} {answer : Answer} → Gives w past h call given answer → is_want answer ≡ false → Inverts w past h call given answer
unfolding Inverts
invert {w} {past} (by_event call e answer answers may) ample = invert_one w past answers may
invert (by_first_block ask e f value first) ample = finds_first e f value first
invert (in_new_block number offset block e gets) ample = in_new block e gets
invert (in_block number offset block has) ample = in_old block has
invert {w} {past} (to_again call for shows) ample = invert_wait w past shows
invert {w} {past} (to_end call reason comes) ample = invert_end w past comes ample

one : (w : Setting) (past : List Event) (h : ℕ) (call : Call) (given others : List Event) (answer other : Answer) → AreApart (after past) → OpeningsStand (after past) → RootsAreSome (after past) → IsPlain call
    → Inverts w past h call given answer → Inverts w past h call others other → (given ≡ others) × (answer ≡ other)
unfolding Inverts
one w past h (resolves owner eights) given others answer other apart stand rooted plain a b = same_resolved (after past) h owner eights apart a b
one w past h (opens ask) given others answer other apart stand rooted plain a b = absurd plain
one w past h (looks_up ask) given others answer other apart stand rooted plain a b = same_looked_up w past h ask a b
one w past h (closes handle) given others answer other apart stand rooted plain a b = same_closed (after past) h handle apart stand rooted a b
one w past h (unmaps set) given others answer other apart stand rooted plain a b = same_unmapping (after past) h set a b
one w past h asks_fault given others answer other apart stand rooted plain a b = (a.0 ∙ sym b.0, a.1 ∙ sym b.1)
one w past h (locates number offset) given others answer other apart stand rooted plain a b = same_located w past h number offset a b
one w past h (writes bytes) given others answer other apart stand rooted plain a b = (a.0 ∙ sym b.0, a.1 ∙ sym b.1)
one w past h (stops reason) given others answer other apart stand rooted plain a b = (a.0 ∙ sym b.0, a.1 ∙ sym b.1)

pub ample_of : (answer : Answer) → is_chance answer ≡ false → is_want answer ≡ false
ample_of (returns value) e = refl
ample_of (loading root added) e = refl
ample_of (closing set) e = refl
ample_of (refused fault) e = refl
ample_of (granted grant) e = refl
ample_of (told fault) e = refl
ample_of (again for) e = refl
ample_of (over reason) e = e

pub one_answer : LoadLaws → FindLaw → (m : Machine) (w : Setting) (past : List Event) (h : ℕ) (call : Call) (given others : List Event) (answer other : Answer) → w.machine ≡ m → Lawful m past → IsPlain call
    → Gives w past h call given answer → Gives w past h call others other → is_chance answer ≡ false → is_chance other ≡ false → (given ≡ others) × (answer ≡ other)
one_answer laws law m w past h call given others answer other same lawful plain a b ample also =
    one w past h call given others answer other (apart laws m past lawful) (openings_stand laws m past lawful) (rooted_after laws law m past lawful) plain
    (invert a (ample_of answer ample)) (invert b (ample_of other also))

pub comes_to : {w : Setting} {past : List Event} {h : ℕ} {ask : OpenAsk} {given : List Event} {answer : Answer} → Gives w past h (opens ask) given answer → is_want answer ≡ false → ComesTo w (after past) h ask given answer
unfolding Inverts
comes_to gives ample = invert gives ample

pub looked_up : {w : Setting} {past : List Event} {h : ℕ} {ask : SymAsk} {given : List Event} {answer : Answer} → Gives w past h (looks_up ask) given answer → is_want answer ≡ false → LookedUp w past h ask given answer
unfolding Inverts
looked_up gives ample = invert gives ample

pub one_opening : OutcomeLaws → (w : Setting) (past : List Event) (h : ℕ) (ask : OpenAsk) (files : List File) (given others : List Event) (answer other : Answer) → w.files ≡ Some files
    → Gives w past h (opens ask) given answer → Gives w past h (opens ask) others other → is_chance answer ≡ false → is_chance other ≡ false → (given ≡ others) × (answer ≡ other)
one_opening laws w past h ask files given others answer other tells a b ample also =
    same_opening laws w (after past) h ask files given others answer other tells ample also (comes_to a (ample_of answer ample)) (comes_to b (ample_of other also))

pub located : {w : Setting} {past : List Event} {h number offset : ℕ} {given : List Event} {answer : Answer} → Gives w past h (locates number offset) given answer → is_want answer ≡ false → Located w past h number offset given answer
unfolding Inverts
located gives ample = invert gives ample
