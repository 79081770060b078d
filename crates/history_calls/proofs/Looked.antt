-- Each look-up of a symbol has an answer.
use Rattle.std.proofs.Common.{◌≡◌, ◌⊎◌, inl, inr, ⊎_elim, ℕ, ◌+◌, ◌≤◌, Bool, true, false, eqb, List, [], ◌∷◌, ◌++◌, length, Option, Some, None, refl, sym, ap, subst, ◌∙◌, arith, cond}
use Rattle.std.specs.Prelude.{IsSome, IsTrue, if◌then◌else◌, ◌%◌, ◌^◌, ◌&&◌}
use Rattle.std.specs.List.{find}
use Rattle.std.specs.Option.{option_map, option_map_or}
use Rattle.std.proofs.lemmas.Bool.{and_from, cases_Bool, eq-eqb, leb-true, true≢false}
use Rattle.ld_base.specs.declared.fault.DlFault.{DlFault}
use Rattle.ld_base.specs.declared.fault.DlFault.TheVariants as faults
use Rattle.history_event.specs.declared.event.Event.{Event}
use Rattle.history_event.specs.declared.event.Event.TheVariants as events
use Rattle.history_event.specs.declared.event.SymAnswer.TheVariants as symbols
use Rattle.history_event.specs.declared.event.SymAsk.{SymAsk}
use Rattle.history_event.specs.declared.state.Block.{Block}
use Rattle.history_event.specs.declared.state.Module.{Module}
use Rattle.scope_rule.specs.Searching.{in_breadth, in_global}
use Rattle.scope_rule.specs.Seen.{seen_in}
use Rattle.scope_rule.specs.declared.namespace.Namespace.{Namespace}
use Rattle.ld_base.specs.declared.linking.Choice.TheVariants.{Def}
use Rattle.history_state.specs.Addresses.{address}
use Rattle.history_state.specs.After.{after}
use Rattle.history_state.specs.Asking.{is_too_long}
use Rattle.history_state.specs.Lookup.{SymbolsAreStored, HasNoBlock, IsAddressBy, IsShort, IsTooLong, MayAnswer, MayHaveBlock, RefusesSymbol, found_default, found_on_handle, is_storage_symbol, is_version_long, opened_in, search, symbol_value, wanted_of}
use Rattle.history_state.specs.Lookup.IsTooLong.{name as long_name, version as long_version}
use Rattle.history_state.specs.Lookup.RefusesSymbol.{name_too_long, bad_handle, missing, no_room}
use Rattle.history_state.specs.Objects.{has_id, has_namespace, namespace_of}
use Rattle.history_state.specs.Setting.{Setting}
use Rattle.history_state.specs.State.{State}
use Rattle.history_state.specs.Step.{step}
use Rattle.history_state.specs.Storage.{late_block, module_of, tls_block, tp_of}
use Rattle.history_state.specs.Lemmas.History.{after_push}
use Rattle.history_state.specs.Lemmas.Lists.{any_in, not_found}
use Rattle.history_state.specs.Lemmas.Lookups.{find_behind}
use Rattle.history_calls.specs.Answer.{returns, refused}
use Rattle.history_calls.specs.Call.{looks_up}
use Rattle.history_calls.specs.Complete.{FitsSymbol, HasAnswer}
use Rattle.history_calls.specs.Gives.EventAnswers.{is_found, is_not_found}
use Rattle.history_calls.specs.Gives.Gives.{by_event, by_first_block}
use Rattle.history_calls.proofs.Answered.{block_or_full}
use Rattle.history_calls.specs.Lemmas.Told.{searches_on}

-- ---- the new block is the hart's block

find_now : (blocks : List Block) (b : Block) (p : Block → Bool) → find p blocks ≡ None → p b ≡ true → find p (blocks ++ b ∷ []) ≡ Some b
find_now blocks b p none t = find_behind p blocks (b ∷ []) (λ x there. not_found p blocks x none there) ∙ ap (λ (c : Bool). cond c (Some b) None) t

abbrev by_offset : State → ℕ → ℕ → Option ℕ → Option ℕ
by_offset s h serial offset = option_map_or (λ o. Some (tp_of s h + o)) offset (late_block s h serial)

tls_is : (s : State) (h serial : ℕ) (m : Module) → module_of s serial ≡ Some m → tls_block s h serial ≡ by_offset s h serial m.offset
unfolding tls_block
tls_is s h serial m e = ap (λ (found : Option Module). elim found [ Some k ↦ by_offset s h serial k.offset | None ↦ None ]) e

abbrev is_hers : ℕ → ℕ → Block → Bool
is_hers h serial b = eqb b.hart h && eqb b.serial serial

block_now : (s : State) (h serial block : ℕ) → (found : Option Block) → find (is_hers h serial) s.blocks ≡ found → late_block s h serial ≡ None → late_block (step s (events.Tls h serial block)) h serial ≡ Some block
block_now s h serial block None e none = ap (option_map (λ (b : Block). b.address))
    (find_now s.blocks (record { hart = h; serial = serial; address = block }) (is_hers h serial) e (and_from (eqb h h) (eqb serial serial) (eq-eqb h h refl) (eq-eqb serial serial refl)))
block_now s h serial block (Some b) e none = absurd (let d : Some b.address ≡ None = sym (ap (option_map (λ (x : Block). x.address)) e) ∙ none in cc)

with_offset : (s : State) (h serial block : ℕ) (m : Module) (offset : Option ℕ) → m.offset ≡ offset → module_of s serial ≡ Some m → tls_block s h serial ≡ None
    → tls_block (step s (events.Tls h serial block)) h serial ≡ Some block
with_offset s h serial block m (Some o) e at none = absurd (let d : Some (tp_of s h + o) ≡ None = sym (tls_is s h serial m at ∙ ap (by_offset s h serial) e) ∙ none in cc)
with_offset s h serial block m None e at none =
    tls_is (step s (events.Tls h serial block)) h serial m at ∙ ap (by_offset (step s (events.Tls h serial block)) h serial) e
    ∙ block_now s h serial block (find (is_hers h serial) s.blocks) refl (sym (tls_is s h serial m at ∙ ap (by_offset s h serial) e) ∙ none)

new_block : (s : State) (h serial block : ℕ) (found : Option Module) → module_of s serial ≡ found → IsSome (module_of s serial) → tls_block s h serial ≡ None
    → tls_block (step s (events.Tls h serial block)) h serial ≡ Some block
new_block s h serial block (Some m) e some none = with_offset s h serial block m m.offset refl e none
new_block s h serial block None e some none = absurd (true≢false (sym (subst (λ (f : Option Module). IsSome f) e some)))

-- ---- names

too_long : (ask : SymAsk) (s : State) → FitsSymbol s ask → IsTooLong ask ⊎ IsShort ask
too_long ask s fits = ⊎_elim
    (λ (t : is_too_long ask.name ≡ true).
    let least : 256 ≤ length ask.name = leb-true 256 (length ask.name) t in
    let most : length ask.name ≤ 256 = fits.name in
    inl (long_name (omega (arith, least, most)) (fits.alone t)))
    (λ (f : is_too_long ask.name ≡ false). by f ask.version refl)
    (cases_Bool (is_too_long ask.name))
  where
    by : is_too_long ask.name ≡ false → (version : Option (List ℕ)) → ask.version ≡ version → IsTooLong ask ⊎ IsShort ask
    by f None e = inr (record { name = f; version = ap is_version_long e })
    by f (Some text) e = ⊎_elim
        (λ (t : is_too_long text ≡ true).
        let least : 256 ≤ length text = leb-true 256 (length text) t in
        let most : length text ≤ 256 = fits.version text e in
        inl (long_version f text e (omega (arith, least, most))))
        (λ (g : is_too_long text ≡ false). inr (record { name = f; version = ap is_version_long e ∙ g }))
        (cases_Bool (is_too_long text))

-- ---- a search

-- where nothing is searched the handle isn't open
unsearched : (s : State) (ask : SymAsk) → IsTrue (has_namespace s ask.ns) → search s ask ≡ None → (eqb ask.handle 0 ≡ false) × (opened_in s ask.handle ≡ None)
unfolding search
unsearched s ask there none = ⊎_elim
    (λ (t : eqb ask.handle 0 ≡ true). absurd (no_default (namespace_of s ask.ns) refl (sym (ap (λ (b : Bool). if b then found_default s ask else found_on_handle s ask) t) ∙ none)))
    (λ (f : eqb ask.handle 0 ≡ false). (f, no_handle (opened_in s ask.handle) refl (sym (ap (λ (b : Bool). if b then found_default s ask else found_on_handle s ask) f) ∙ none)))
    (cases_Bool (eqb ask.handle 0))
  where
    no_default : (found : Option Namespace) → namespace_of s ask.ns ≡ found → found_default s ask ≡ None → ⊥
    no_default (Some ns) e h = let d : Some (in_global (seen_in ns) ask.name (wanted_of ask.version)) ≡ None =
        sym (ap (option_map (λ (n : Namespace). in_global (seen_in n) ask.name (wanted_of ask.version))) e) ∙ h in cc
    no_default None e h =
        let at = any_in (has_id ask.ns) s.namespaces there in
        true≢false (sym at.2 ∙ not_found (has_id ask.ns) s.namespaces at.0 e at.1)

    no_handle : (found : Option Namespace) → opened_in s ask.handle ≡ found → found_on_handle s ask ≡ None → opened_in s ask.handle ≡ None
    no_handle None e h = e
    no_handle (Some ns) e h = absurd (let d : Some (in_breadth (seen_in ns) ask.handle ask.name (wanted_of ask.version)) ≡ None =
        sym (ap (option_map (λ (n : Namespace). in_breadth (seen_in n) ask.handle ask.name (wanted_of ask.version))) e) ∙ h in cc)

-- ---- the answer

refusing : (w : Setting) (past : List Event) (h : ℕ) (ask : SymAsk) (fault : DlFault) → IsTrue (has_namespace (after past) ask.ns) → RefusesSymbol (after past) h ask fault → HasAnswer w past h (looks_up ask)
refusing w past h ask fault there stands = record {
  given = events.Sym h ask (symbols.Refused fault) ∷ [];
  answer = refused fault;
  gives = by_event _ _ _ (is_not_found ask fault) (there, stands);
  ample = refl;
}

finding : (w : Setting) (past : List Event) (h : ℕ) (ask : SymAsk) (serial index value : ℕ) → IsTrue (has_namespace (after past) ask.ns) → IsShort ask → search (after past) ask ≡ Some (Some (serial, index))
    → IsAddressBy (is_storage_symbol (after past) serial index) (after past) h serial index value → HasAnswer w past h (looks_up ask)
finding w past h ask serial index value there short found is = record {
  given = events.Sym h ask (symbols.Found serial index value) ∷ [];
  answer = returns value;
  gives = by_event _ _ _ (is_found ask serial index value) (there, record { short = short; found = found; is = is });
  ample = refl;
}

-- a variable of which the hart has no block yet
first_use : (w : Setting) (past : List Event) (h : ℕ) (ask : SymAsk) (serial index block : ℕ) → IsTrue (has_namespace (after past) ask.ns) → IsShort ask → search (after past) ask ≡ Some (Some (serial, index))
    → is_storage_symbol (after past) serial index ≡ true → IsSome (module_of (after past) serial) → tls_block (after past) h serial ≡ None → MayHaveBlock (after past) h serial block
    → HasAnswer w past h (looks_up ask)
first_use w past h ask serial index block there short found storage some none may = record {
  given = events.Tls h serial block ∷ events.Sym h ask (symbols.Found serial index value) ∷ [];
  answer = returns value;
  gives = by_first_block ask (events.Tls h serial block) (events.Sym h ask (symbols.Found serial index value)) value (record {
    serial = serial;
    index = index;
    block = block;
    storage = storage;
    gets = refl;
    finds = refl;
    may_get = may;
    may_find = subst (λ (s : State). MayAnswer s h ask (symbols.Found serial index value)) (sym (after_push past (events.Tls h serial block))) (
      there,
      record {
        short = short;
        found = searches_on (after past) h serial block ask ∙ found;
        is = subst (λ (b : Bool). IsAddressBy b (step (after past) (events.Tls h serial block)) h serial index value) (sym storage)
            (block, new_block (after past) h serial block (module_of (after past) serial) refl some none, refl);
      },
    );
  });
  ample = refl;
}
  where
    value : ℕ
    value = (block + symbol_value (after past) serial index) % 2 ^ 64

pub looks_up_answered : (w : Setting) (past : List Event) (h : ℕ) (ask : SymAsk) → SymbolsAreStored (after past) → FitsSymbol (after past) ask → HasAnswer w past h (looks_up ask)
looks_up_answered w past h ask symbols fits = ⊎_elim
    (λ (long : IsTooLong ask). refusing w past h ask faults.NameTooLong fits.namespace (name_too_long long))
    (λ (short : IsShort ask). by short (search (after past) ask) refl)
    (too_long ask (after past) fits)
  where
    stored : IsShort ask → (serial index : ℕ) → search (after past) ask ≡ Some (Some (serial, index)) → is_storage_symbol (after past) serial index ≡ true → (found : Option ℕ)
        → tls_block (after past) h serial ≡ found → HasAnswer w past h (looks_up ask)
    stored short serial index at t (Some block) e = finding w past h ask serial index _ fits.namespace short at
        (subst (λ (b : Bool). IsAddressBy b (after past) h serial index ((block + symbol_value (after past) serial index) % 2 ^ 64)) (sym t) (block, e, refl))
    stored short serial index at t None e = ⊎_elim
        (λ (x : (block : ℕ) × MayHaveBlock (after past) h serial block).
        first_use w past h ask serial index x.0 fits.namespace short at t (symbols ask serial index at t).has_module e x.1)
        (λ (x : (pages : ℕ) × HasNoBlock (after past) h serial pages). refusing w past h ask (faults.AddressSpaceFull x.0) fits.namespace (no_room serial index x.0 short at t x.1))
        (block_or_full (after past) h serial (symbols ask serial index at t) e)

    found_at : IsShort ask → (serial index : ℕ) → search (after past) ask ≡ Some (Some (serial, index)) → HasAnswer w past h (looks_up ask)
    found_at short serial index at = ⊎_elim
        (λ (t : is_storage_symbol (after past) serial index ≡ true). stored short serial index at t (tls_block (after past) h serial) refl)
        (λ (f : is_storage_symbol (after past) serial index ≡ false).
        finding w past h ask serial index (address (after past) (Def serial index)) fits.namespace short at
        (subst (λ (b : Bool). IsAddressBy b (after past) h serial index (address (after past) (Def serial index))) (sym f) refl))
        (cases_Bool (is_storage_symbol (after past) serial index))

    by : IsShort ask → (found : Option (Option (ℕ × ℕ))) → search (after past) ask ≡ found → HasAnswer w past h (looks_up ask)
    by short None none =
        let why = unsearched (after past) ask fits.namespace none in
        refusing w past h ask (faults.BadHandle ask.handle) fits.namespace (bad_handle short why.0 why.1)
    by short (Some None) none = refusing w past h ask _ fits.namespace (missing short none)
    by short (Some (Some x)) at = found_at short x.0 x.1 at
