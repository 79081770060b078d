-- What a look-up finds is a definition; and a variable of thread-local storage is one of an object that has some.
use Rattle.std.proofs.Common.{◌≡◌, inl, inr, ⊎_elim, ℕ, zero, suc, ◌+◌, ◌≤◌, ◌&&◌, Bool, true, false, not, List, [], ◌∷◌, drop, get_or, Option, Some, None, refl, sym, ap, subst, ◌∙◌, arith}
use Rattle.std.specs.Prelude.{◌⊎◌, ◌==◌, if◌then◌else◌, IsSome, count_by, position}
use Rattle.std.specs.Option.{is_some, option_and_then, option_map, option_map_or, option_or}
use Rattle.std.specs.List.{Contains, slice_get}
use Rattle.std.specs.Str.{bytes_eq}
use Rattle.std.proofs.lemmas.Bool.{and_parts, eq-eqb, eqb-true, true≢false}
use Rattle.std.proofs.lemmas.List.Quantifiers.{position-Some}
use Rattle.std.proofs.lemmas.Option.{slice_get-get_or}
use Rattle.ld_base.specs.Pick.{exported, first_exported, is_offer, is_wanted, names_no_version, only_exported, pick_by_version, pick_of}
use Rattle.ld_base.specs.Symbol.{is_defined, is_hidden_version, is_tls, is_visible_definition}
use Rattle.ld_base.specs.declared.linking.Loaded.{Loaded}
use Rattle.ld_base.specs.declared.linking.TlsPlace.{TlsPlace}
use Rattle.ld_base.specs.declared.linking.Want.{Want}
use Rattle.ld_base.specs.declared.object.Object.{Object}
use Rattle.ld_base.specs.declared.object.Symbol.{Symbol}
use Rattle.ld_base.specs.declared.object.TlsSeg.{TlsSeg}
use Rattle.history_event.specs.declared.event.Event.{Event}
use Rattle.history_event.specs.declared.event.SymAsk.{SymAsk}
use Rattle.history_event.specs.declared.state.Module.{Module}
use Rattle.scope_rule.specs.Choose.{first_with, pick_at}
use Rattle.scope_rule.specs.Loading.{object_of}
use Rattle.scope_rule.specs.Linker.{linker_symbol}
use Rattle.scope_rule.specs.Searching.{in_breadth, in_global}
use Rattle.scope_rule.specs.Seen.{seen_in}
use Rattle.scope_rule.specs.declared.namespace.Namespace.{Namespace}
use Rattle.history_state.specs.State.{State}
use Rattle.history_state.specs.Accepted.{AcceptsOnly, IsAccepted}
use Rattle.history_state.specs.Addresses.{symbol_at}
use Rattle.history_state.specs.After.{after}
use Rattle.history_state.specs.Laws.{IsIn, ModulesAreTidy}
use Rattle.history_state.specs.Legal.{Lawful}
use Rattle.history_state.specs.Lookup.{HasStorage, found_default, found_on_handle, is_opened, is_storage_symbol, opened_in, search, wanted_of}
use Rattle.history_state.specs.Objects.{has_id, mapped, namespace_of, object_at}
use Rattle.history_state.specs.Setting.{Machine}
use Rattle.history_state.specs.Storage.{module_of, module_of_place}
use Rattle.history_state.specs.Lemmas.Lists.{found_in, from_flat, not_found}
use Rattle.history_state.specs.Lemmas.Accepting.{ReadLaw, accepted_after}
use Rattle.history_state.specs.Lemmas.Alone.{apart}
use Rattle.history_state.specs.Lemmas.Brought.{LoadLaws}
use Rattle.history_state.specs.Lemmas.Imaged.{images_mapped}
use Rattle.history_state.specs.Lemmas.Moduled.{NumberLaws}
use Rattle.history_state.specs.Lemmas.Offsets.{modules_tidy}
use Rattle.history_state.specs.Lemmas.Serials.{serials_in_order}

-- ---- what an object has for a name

-- the symbol of an index is a definition that other objects can see
abbrev IsPicked : Object → ℕ → Type 0
IsPicked o index = (symbol : Symbol) × (slice_get o.symbols index ≡ Some symbol) × (is_visible_definition symbol ≡ true)

behind : {X : Type 0} (n : ℕ) (xs : List X) (k : ℕ) (x : X) → slice_get (drop n xs) k ≡ Some x → slice_get xs (k + n) ≡ Some x
behind {X} zero xs k x e = let same : k ≡ k + 0 = omega arith in subst (λ (i : ℕ). slice_get xs i ≡ Some x) same e
behind {X} (suc n) [] k x e = absurd (let d : None ≡ Some x = e in cc)
behind {X} (suc n) (y ∷ xs) k x e = let same : suc (k + n) ≡ k + suc n = omega arith in subst (λ (i : ℕ). slice_get (y ∷ xs) i ≡ Some x) same (behind n xs k x e)

no_symbol : Symbol
no_symbol = record { name = []; info = 0; other = 0; shndx = 0; value = 0; size = 0; version = 0 }

first_picked : (o : Object) (test : Symbol → Bool) → ((s : Symbol) → test s ≡ true → is_visible_definition s ≡ true) → (index : ℕ) → first_exported o test ≡ Some index → IsPicked o index
first_picked o test offers index e = by (position test (exported o)) refl e
  where
    by : (place : Option ℕ) → position test (exported o) ≡ place → option_map (λ k. k + o.first_exported) place ≡ Some index → IsPicked o index
    by None is e = absurd (let d : None ≡ Some index = e in cc)
    by (Some k) is e =
        let there = position-Some test (exported o) k no_symbol is in
        let symbol = get_or (exported o) k no_symbol in
        let at : slice_get o.symbols (k + o.first_exported) ≡ Some symbol = behind o.first_exported o.symbols k symbol (slice_get-get_or (exported o) k no_symbol there.0) in
        let same : k + o.first_exported ≡ index = cc in
        (symbol, subst (λ (i : ℕ). slice_get o.symbols i ≡ Some symbol) same at, offers symbol there.1)

offered : (o : Object) (name : List ℕ) (s : Symbol) → is_offer o name s ≡ true → is_visible_definition s ≡ true
offered o name s e = (and_parts (is_visible_definition s) (bytes_eq s.name name) (and_parts (is_visible_definition s && bytes_eq s.name name) _ e).0).0

pub picked : (o : Object) (name : List ℕ) (want : Want) (index : ℕ) → pick_of o name want ≡ Some index → IsPicked o index
picked o name want index e = by o.has_versym e
  where
    only : (t : Bool) → (if t then first_exported o (λ s. is_offer o name s && not (is_hidden_version s)) else None) ≡ Some index → IsPicked o index
    only true e = first_picked o (λ s. is_offer o name s && not (is_hidden_version s)) (λ s test. offered o name s (and_parts (is_offer o name s) _ test).0) index e
    only false e = absurd (let d : None ≡ Some index = e in cc)

    alone : (t : Bool) → (if t then only_exported o (λ s. is_offer o name s && not (is_hidden_version s)) else None) ≡ Some index → IsPicked o index
    alone true e = only (count_by (λ s. is_offer o name s && not (is_hidden_version s)) (exported o) == 1) e
    alone false e = absurd (let d : None ≡ Some index = e in cc)

    either : (a : Option ℕ) → first_exported o (λ s. is_offer o name s && is_wanted o want s) ≡ a
        → option_or a (if names_no_version want then only_exported o (λ s. is_offer o name s && not (is_hidden_version s)) else None) ≡ Some index → IsPicked o index
    either (Some k) is e = first_picked o (λ s. is_offer o name s && is_wanted o want s) (λ s test. offered o name s (and_parts (is_offer o name s) _ test).0) index (is ∙ e)
    either None is e = alone (names_no_version want) e

    by : (t : Bool) → (if t then pick_by_version o name want else first_exported o (is_offer o name)) ≡ Some index → IsPicked o index
    by true e = either (first_exported o (λ s. is_offer o name s && is_wanted o want s)) refl e
    by false e = first_picked o (is_offer o name) (offered o name) index e

-- ---- what a search finds

first_found : (pick : ℕ → Option ℕ) (list : List ℕ) (serial index : ℕ) → let found : ℕ × ℕ = (serial, index) in first_with pick list ≡ Some found → pick serial ≡ Some index
first_found pick [] serial index e = absurd cc
first_found pick (s ∷ rest) serial index e = by (pick s) refl e (λ more. first_found pick rest serial index more)
  where
    by : (found : Option ℕ) → pick s ≡ found → let both : ℕ × ℕ = (serial, index) in (elim found [ Some i ↦ (let one : ℕ × ℕ = (s, i) in Some one) | None ↦ first_with pick rest ]) ≡ Some both
        → (first_with pick rest ≡ Some both → pick serial ≡ Some index) → pick serial ≡ Some index
    by (Some i) is e again =
        let same : (let one : ℕ × ℕ = (s, i) in let two : ℕ × ℕ = (serial, index) in one ≡ two) = cc in
        let first : s ≡ serial = ap (λ (p : ℕ × ℕ). p.0) same in
        let second : i ≡ index = ap (λ (p : ℕ × ℕ). p.1) same in
        subst (λ (n : ℕ). pick n ≡ Some index) first (is ∙ ap (λ (n : ℕ). Some n) second)
    by None is e again = again e

-- of a namespace that is there, an object has it
abbrev IsFoundIn : State → ℕ → ℕ → Type 0
IsFoundIn s serial index = (ns : Namespace) × (o : Loaded) × IsIn s ns o × (o.serial ≡ serial) × IsPicked o.object index

picked_in : (s : State) (ns : Namespace) → Contains s.namespaces ns → (name : List ℕ) (want : Want) (serial index : ℕ) → pick_at (seen_in ns) name want serial ≡ Some index → (serial ≡ 0) ⊎ IsFoundIn s serial index
unfolding pick_at
picked_in s ns there name want serial index e = by (serial == 0) refl e
  where
    named : (found : Option Loaded) → object_of (seen_in ns) serial ≡ found → (elim found [ Some o ↦ pick_of o.object name want | None ↦ None ]) ≡ Some index → IsFoundIn s serial index
    named None is e = absurd (let d : None ≡ Some index = e in cc)
    named (Some o) is e =
        let at = found_in (λ (q : Loaded). q.serial == serial) ns.objects o is in
        (ns, o, record { there = there; inside = at.0 }, eqb-true o.serial serial at.1, picked o.object name want index e)

    by : (t : Bool) → (serial == 0) ≡ t → (if t then linker_symbol name else elim (object_of (seen_in ns) serial) [ Some o ↦ pick_of o.object name want | None ↦ None ]) ≡ Some index → (serial ≡ 0) ⊎ IsFoundIn s serial index
    by true is e = inl (eqb-true serial 0 is)
    by false is e = inr (named (object_of (seen_in ns) serial) refl e)

pub searched : (s : State) (ask : SymAsk) (serial index : ℕ) → let found : ℕ × ℕ = (serial, index) in search s ask ≡ Some (Some found) → (serial ≡ 0) ⊎ IsFoundIn s serial index
unfolding search in_breadth in_global
searched s ask serial index e = by (ask.handle == 0) e
  where
    default : (found : Option Namespace) → namespace_of s ask.ns ≡ found → let both : ℕ × ℕ = (serial, index) in option_map (λ ns. in_global (seen_in ns) ask.name (wanted_of ask.version)) found ≡ Some (Some both)
        → (serial ≡ 0) ⊎ IsFoundIn s serial index
    default None is e = absurd cc
    default (Some ns) is e =
        let both : ℕ × ℕ = (serial, index) in
        let inner : in_global (seen_in ns) ask.name (wanted_of ask.version) ≡ Some both = cc in
        picked_in s ns (found_in (has_id ask.ns) s.namespaces ns is).0 ask.name (wanted_of ask.version) serial index (first_found (pick_at (seen_in ns) ask.name (wanted_of ask.version)) _ serial index inner)

    on_handle : (found : Option Namespace) → opened_in s ask.handle ≡ found → let both : ℕ × ℕ = (serial, index) in option_map (λ ns. in_breadth (seen_in ns) ask.handle ask.name (wanted_of ask.version)) found ≡ Some (Some both)
        → (serial ≡ 0) ⊎ IsFoundIn s serial index
    on_handle None is e = absurd cc
    on_handle (Some ns) is e =
        let both : ℕ × ℕ = (serial, index) in
        let inner : in_breadth (seen_in ns) ask.handle ask.name (wanted_of ask.version) ≡ Some both = cc in
        picked_in s ns (found_in (is_opened ask.handle) s.namespaces ns is).0 ask.name (wanted_of ask.version) serial index (first_found (pick_at (seen_in ns) ask.name (wanted_of ask.version)) _ serial index inner)

    by : (t : Bool) → let both : ℕ × ℕ = (serial, index) in (if t then found_default s ask else found_on_handle s ask) ≡ Some (Some both) → (serial ≡ 0) ⊎ IsFoundIn s serial index
    by true e = default (namespace_of s ask.ns) refl e
    by false e = on_handle (opened_in s ask.handle) refl e

-- ---- a variable's object has storage

abbrev IsStored : State → ℕ → ℕ → Type 0
IsStored s serial index = (o : Loaded) × (symbol : Symbol) × (object_at s serial ≡ Some o) × (slice_get o.object.symbols index ≡ Some symbol) × (is_tls symbol ≡ true)

storage_symbol : (s : State) (serial index : ℕ) → is_storage_symbol s serial index ≡ true → IsStored s serial index
storage_symbol s serial index e = by (object_at s serial) refl e
  where
    at : (o : Loaded) → object_at s serial ≡ Some o → (found : Option Symbol) → symbol_at o.object index ≡ found → option_map_or (λ symbol. is_tls symbol) found false ≡ true → IsStored s serial index
    at o is None there e = absurd (true≢false (sym e))
    at o is (Some symbol) there e = (o, symbol, is, there, e)

    by : (found : Option Loaded) → object_at s serial ≡ found → option_map_or (λ symbol. is_tls symbol) (option_and_then (λ o. symbol_at o.object index) found) false ≡ true → IsStored s serial index
    by None is e = absurd (true≢false (sym e))
    by (Some o) is e = at o is (symbol_at o.object index) refl e

mapped_one : (s : State) (serial : ℕ) (o : Loaded) → object_at s serial ≡ Some o → (ns : Namespace) × IsIn s ns o × (o.serial ≡ serial)
mapped_one s serial o e =
    let found = found_in (λ (q : Loaded). q.serial == serial) (mapped s) o e in
    let home = from_flat (λ (ns : Namespace). ns.objects) s.namespaces o found.0 in
    (home.0, record { there = home.1; inside = home.2 }, eqb-true o.serial serial found.1)

-- an object with a segment of storage has a module
has_its_module : (s : State) → ModulesAreTidy s → (ns : Namespace) (o : Loaded) → IsIn s ns o → is_some o.object.tls ≡ true → IsSome (module_of s o.serial)
has_its_module s tidy ns o inside some = by o.«module» refl (tidy.some ns o inside ∙ some)
  where
    there : (place : TlsPlace) → Contains s.modules (module_of_place o.serial place) → (found : Option Module) → module_of s o.serial ≡ found → is_some found ≡ true
    there place h None e = absurd (true≢false (sym (eq-eqb o.serial o.serial refl) ∙ not_found (λ (m : Module). m.serial == o.serial) s.modules (module_of_place o.serial place) e h))
    there place h (Some m) e = refl

    by : (place : Option TlsPlace) → o.«module» ≡ place → is_some place ≡ true → IsSome (module_of s o.serial)
    by None is e = absurd (true≢false (sym e))
    by (Some place) is e = there place (tidy.there ns o place inside is) (module_of s o.serial) refl

stored_of : (s : State) (ns : Namespace) (o : Loaded) → IsIn s ns o → object_at s o.serial ≡ Some o → ModulesAreTidy s → IsSome o.object.tls → HasStorage s o.serial
stored_of s ns o inside at tidy some = by o.object.tls refl some
  where
    by : (seg : Option TlsSeg) → o.object.tls ≡ seg → is_some seg ≡ true → HasStorage s o.serial
    by None is e = absurd (true≢false (sym e))
    by (Some seg) is e = record { object = o; mapped = at; seg = seg; storage = is; has_module = has_its_module s tidy ns o inside (ap is_some is) }

accepted_mapped : ReadLaw → (m : Machine) → AcceptsOnly m → (journal : List Event) → Lawful m journal → (ns : Namespace) (o : Loaded) → IsIn (after journal) ns o → IsAccepted o.object
accepted_mapped read m only journal lawful ns o inside =
    let image = (images_mapped m journal lawful).mapped ns o inside in
    subst IsAccepted image.object (accepted_after read m only journal lawful image.image image.there)

pub symbols_stored : NumberLaws → LoadLaws → ReadLaw → (m : Machine) → AcceptsOnly m → (journal : List Event) → Lawful m journal → (ask : SymAsk) (serial index : ℕ)
    → let found : ℕ × ℕ = (serial, index) in search (after journal) ask ≡ Some (Some found) → is_storage_symbol (after journal) serial index ≡ true → HasStorage (after journal) serial
symbols_stored numbers loads read m only journal lawful ask serial index e test = ⊎_elim
    (λ (zero_is : serial ≡ 0).
    let low : 1 ≤ variable.0.serial = (serials_in_order loads m journal lawful).from home.0 variable.0 home.1 in
    let same : variable.0.serial ≡ serial = home.2 in
    absurd (omega (arith, zero_is, low, same)))
    (λ (found : IsFoundIn (after journal) serial index).
    let one : found.1 ≡ variable.0 = (apart loads m journal lawful).records found.0 home.0 found.1 variable.0 found.2 home.1 (found.3 ∙ sym home.2) in
    let at : slice_get variable.0.object.symbols index ≡ Some found.4.0 = subst (λ (o : Loaded). slice_get o.object.symbols index ≡ Some found.4.0) one found.4.1 in
    let symbols : Some found.4.0 ≡ Some variable.1 = sym at ∙ variable.3 in
    let same : found.4.0 ≡ variable.1 = cc in
    let defined : is_defined variable.1 ≡ true = subst (λ (x : Symbol). is_defined x ≡ true) same (visible found.4.0 found.4.2) in
    let accepted = accepted_mapped read m only journal lawful home.0 variable.0 home.1 in
    subst (HasStorage (after journal)) home.2
    (stored_of (after journal) home.0 variable.0 home.1 (subst (λ (n : ℕ). object_at (after journal) n ≡ Some variable.0) (sym home.2) variable.2) (modules_tidy numbers loads m journal lawful)
    (accepted.stored index variable.1 variable.3 defined variable.4)))
    (searched (after journal) ask serial index e)
  where
    variable : IsStored (after journal) serial index
    variable = storage_symbol (after journal) serial index test

    home : (ns : Namespace) × IsIn (after journal) ns variable.0 × (variable.0.serial ≡ serial)
    home = mapped_one (after journal) serial variable.0 variable.2

    visible : (s : Symbol) → is_visible_definition s ≡ true → is_defined s ≡ true
    visible s v = first (is_defined s) _ _ _ _ _ v
      where
        first : (a b c d e f : Bool) → (a && b && c && d && e && f) ≡ true → a ≡ true
        first true b c d e f is = refl
        first false b c d e f is = absurd cc
