-- What a state settles: the slot that is asked for, what a closing takes, a block's address, a symbol's fault.
use Rattle.std.proofs.Common.{◌≡◌, ℕ, ◌+◌, ◌*◌, ◌≤◌, Bool, true, false, eqb, List, length, Option, Some, None, refl, sym, ap, subst, ◌∙◌, arith}
use Rattle.std.specs.List.{Contains, slice_get}
use Rattle.std.specs.Option.{option_map}
use Rattle.std.specs.Prelude.{◌%◌, ◌^◌, if◌then◌else◌}
use Rattle.std.proofs.lemmas.Bool.{le-leb, true≢false}
use Rattle.ld_base.specs.declared.fault.DlFault.{DlFault}
use Rattle.ld_base.specs.declared.fault.DlFault.TheVariants as faults
use Rattle.ld_base.specs.declared.linking.Choice.{Choice}
use Rattle.ld_base.specs.declared.linking.Loaded.{Loaded}
use Rattle.ld_base.specs.declared.object.TlsSeg.{TlsSeg}
use Rattle.address_space.specs.Pages.{Fits, IsFirstFit}
use Rattle.history_event.specs.declared.event.SymAsk.{SymAsk}
use Rattle.history_graph.specs.declared.graph.Edge.{Edge}
use Rattle.history_graph.specs.Reached.{Unneeded}
use Rattle.scope_rule.specs.Relocation.{choice_at}
use Rattle.scope_rule.specs.Searching.{in_breadth}
use Rattle.scope_rule.specs.Seen.{seen_in}
use Rattle.scope_rule.specs.declared.namespace.Namespace.{Namespace}
use Rattle.history_state.specs.Areas.{free_pages}
use Rattle.history_state.specs.Bound.{lazy_word}
use Rattle.history_state.specs.Asking.{is_too_long}
use Rattle.history_state.specs.Laws.{AreApart}
use Rattle.history_state.specs.Lookup.{FindsSymbol, HasNoBlock, IsAddress, IsAddressBy, IsShort, IsTooLong, MayHaveBlock, RefusesSymbol, WantsBlock, found_default, found_on_handle, is_storage_symbol, is_version_long, opened_in, search, symbol_value, wanted_of}
use Rattle.history_state.specs.Lookup.IsTooLong.{name as long_name, version as long_version}
use Rattle.history_state.specs.Lookup.RefusesSymbol.{name_too_long, bad_handle, missing, no_room}
use Rattle.history_state.specs.Objects.{object_at}
use Rattle.history_state.specs.Slots.{IsSlot, lazy_of}
use Rattle.history_state.specs.State.{State}
use Rattle.history_state.specs.Storage.{block_align, block_pages, residue, tls_block}
use Rattle.history_state.specs.Lemmas.Lists.{filter_alike}

some_is : {X : Type 0} (x y : X) → Some x ≡ Some y → x ≡ y
some_is x y e = cc

none_some : {X : Type 0} (x : X) → None ≡ Some x → ⊥
none_some x e = let d : None ≡ Some x = e in cc

pub both_found : {X : Type 0} (found : Option X) (x y : X) → found ≡ Some x → found ≡ Some y → x ≡ y
both_found found x y a b = some_is x y (sym a ∙ b)

pub not_both : {X : Type 0} (found : Option X) (x : X) → found ≡ None → found ≡ Some x → ⊥
not_both found x a b = none_some x (sym a ∙ b)

pub eight_times : (eights n k : ℕ) → eights ≡ 8 * n → eights ≡ 8 * k → n ≡ k
eight_times eights n k a b = omega (arith, a, b)

-- ---- slots

-- what a slot chooses, and what it holds until it is bound
pub record SameSlot (s : State) (owner slot : ℕ) (c d : Choice) (a : IsSlot s owner slot c) (b : IsSlot s owner slot d) : Type 0 where
  pub choice : c ≡ d
  pub lazy : lazy_of a ≡ lazy_of b

pub same_slot : (s : State) → AreApart s → (owner slot : ℕ) (c d : Choice) (a : IsSlot s owner slot c) (b : IsSlot s owner slot d) → SameSlot s owner slot c d a b
same_slot s apart owner slot c d a b =
    let serials : a.object.serial ≡ b.object.serial = a.is ∙ sym b.is in
    let homes : a.namespace ≡ b.namespace = apart.objects a.namespace b.namespace a.object b.object (record { there = a.there; inside = a.inside }) (record { there = b.there; inside = b.inside }) serials in
    let objects : a.object ≡ b.object = apart.records a.namespace b.namespace a.object b.object (record { there = a.there; inside = a.inside }) (record { there = b.there; inside = b.inside }) serials in
    let relocs : a.reloc ≡ b.reloc = both_found (slice_get b.object.object.plt_relocs slot) a.reloc b.reloc (subst (λ (o : Loaded). slice_get o.object.plt_relocs slot ≡ Some a.reloc) objects a.at) b.at in
    record {
      choice = a.chooses ∙ ap (λ (n : Namespace). choice_at (seen_in n) a.object a.reloc) homes ∙ ap (λ (o : Loaded). choice_at (seen_in b.namespace) o a.reloc) objects
          ∙ ap (choice_at (seen_in b.namespace) b.object) relocs ∙ sym b.chooses;
      lazy = ap (λ (o : Loaded). lazy_word o a.reloc) objects ∙ ap (lazy_word b.object) relocs;
    }

-- ---- closings

same_truth : (a b : Bool) → (a ≡ true → b ≡ true) → (b ≡ true → a ≡ true) → a ≡ b
same_truth true b to from = sym (to refl)
same_truth false true to from = from refl
same_truth false false to from = refl

pub same_unneeded : (edges : List Edge) (roots nodes set other : List ℕ) → Unneeded edges roots nodes set → Unneeded edges roots nodes other → set ≡ other
same_unneeded edges roots nodes set other a b = a.are ∙ filter_alike a.leave b.leave nodes alike ∙ sym b.are
  where
    alike : (d : ℕ) → Contains nodes d → a.leave d ≡ b.leave d
    alike d there = same_truth (a.leave d) (b.leave d)
        (λ t. (b.exactly d there).1 ((a.exactly d there).0 t))
        (λ t. (a.exactly d there).1 ((b.exactly d there).0 t))

-- ---- blocks

pub same_fit : (free : List ℕ) (pages align a b : ℕ) → IsFirstFit free pages align a → IsFirstFit free pages align b → a ≡ b
same_fit free pages align a b x y = let le : a ≤ b = x.least b y.fits in let ge : b ≤ a = y.least a x.fits in omega (arith, le, ge)

same_segment : (s : State) (hart serial : ℕ) (seg other : TlsSeg) → WantsBlock s hart serial seg → WantsBlock s hart serial other → seg ≡ other
same_segment s hart serial seg other a b =
    let objects : a.object ≡ b.object = both_found (object_at s serial) a.object b.object a.mapped b.mapped in
    both_found b.object.object.tls seg other (subst (λ (o : Loaded). o.object.tls ≡ Some seg) objects a.storage) b.storage

pub same_block : (s : State) (hart serial block other : ℕ) → MayHaveBlock s hart serial block → MayHaveBlock s hart serial other → block ≡ other
same_block s hart serial block other a b =
    let segs : a.seg ≡ b.seg = same_segment s hart serial a.seg b.seg a.wants b.wants in
    let pages : a.pages ≡ b.pages = same_fit (free_pages s.ranges) (block_pages b.seg) (block_align b.seg) a.pages b.pages
    (subst (λ (g : TlsSeg). IsFirstFit (free_pages s.ranges) (block_pages g) (block_align g) a.pages) segs a.first) b.first in
    a.is ∙ ap (λ (n : ℕ). n + residue a.seg) pages ∙ ap (λ (g : TlsSeg). b.pages + residue g) segs ∙ sym b.is

pub block_or_none : (s : State) (hart serial block count : ℕ) → MayHaveBlock s hart serial block → HasNoBlock s hart serial count → ⊥
block_or_none s hart serial block count a b =
    let segs : a.seg ≡ b.seg = same_segment s hart serial a.seg b.seg a.wants b.wants in
    b.none a.pages (subst (λ (g : TlsSeg). Fits (free_pages s.ranges) (block_pages g) (block_align g) a.pages) segs a.first.fits)

pub same_lack : (s : State) (hart serial count other : ℕ) → HasNoBlock s hart serial count → HasNoBlock s hart serial other → count ≡ other
same_lack s hart serial count other a b = a.is ∙ ap block_pages (same_segment s hart serial a.seg b.seg a.wants b.wants) ∙ sym b.is

-- ---- symbols

pub long_or_short : (ask : SymAsk) → IsTooLong ask → IsShort ask → ⊥
long_or_short ask (long_name is none) short = true≢false (sym (le-leb 256 (length ask.name) (let e : length ask.name ≡ 256 = is in omega (arith, e))) ∙ short.name)
long_or_short ask (long_version name text is long) short =
    let brief : is_too_long text ≡ false = subst (λ (v : Option (List ℕ)). is_version_long v ≡ false) is short.version in
    true≢false (sym (le-leb 256 (length text) (let e : length text ≡ 256 = long in omega (arith, e))) ∙ brief)

-- nothing is searched on a handle that isn't open
pub no_search : (s : State) (ask : SymAsk) → eqb ask.handle 0 ≡ false → opened_in s ask.handle ≡ None → search s ask ≡ None
unfolding search
no_search s ask handle none =
    ap (λ (b : Bool). if b then found_default s ask else found_on_handle s ask) handle
    ∙ ap (option_map (λ ns. in_breadth (seen_in ns) ask.handle ask.name (wanted_of ask.version))) none

same_address_by : (b : Bool) (s : State) (hart serial index value other : ℕ) → IsAddressBy b s hart serial index value → IsAddressBy b s hart serial index other → value ≡ other
same_address_by false s hart serial index value other a b = a ∙ sym b
same_address_by true s hart serial index value other a b =
    a.2 ∙ ap (λ (n : ℕ). (n + symbol_value s serial index) % 2 ^ 64) (both_found (tls_block s hart serial) a.0 b.0 a.1 b.1) ∙ sym b.2

-- what a search found
abbrev found_serial : Option (Option (ℕ × ℕ)) → ℕ
found_serial None = 0
found_serial (Some None) = 0
found_serial (Some (Some x)) = x.0

abbrev found_index : Option (Option (ℕ × ℕ)) → ℕ
found_index None = 0
found_index (Some None) = 0
found_index (Some (Some x)) = x.1

abbrev pub has_found : Option (Option (ℕ × ℕ)) → Bool
has_found None = false
has_found (Some None) = false
has_found (Some (Some x)) = true

pub record SameSymbol (serial index other at : ℕ) : Type 0 where
  pub serials : serial ≡ other
  pub indexes : index ≡ at

pub same_symbol : (found : Option (Option (ℕ × ℕ))) (serial index other at : ℕ) → found ≡ Some (Some (serial, index)) → found ≡ Some (Some (other, at)) → SameSymbol serial index other at
same_symbol found serial index other at a b = record {
  serials = sym (ap found_serial a) ∙ ap found_serial b;
  indexes = sym (ap found_index a) ∙ ap found_index b;
}

-- the definition that is found has no address without its block
storage_has_block : (s : State) (hart serial index value : ℕ) (b : Bool) → b ≡ true → IsAddressBy b s hart serial index value → tls_block s hart serial ≡ None → ⊥
storage_has_block s hart serial index value true e a none = not_both (tls_block s hart serial) a.0 none a.1
storage_has_block s hart serial index value false e a none = true≢false (sym e)

-- it isn't found by an event of its own while the hart has no block of it
pub not_yet : (s : State) (hart : ℕ) (ask : SymAsk) (serial index value other at : ℕ) → FindsSymbol s hart ask serial index value → search s ask ≡ Some (Some (other, at))
    → is_storage_symbol s other at ≡ true → tls_block s hart other ≡ None → ⊥
not_yet s hart ask serial index value other at finds found storage none =
    let same = same_symbol (search s ask) serial index other at finds.found found in
    storage_has_block s hart other at value (is_storage_symbol s other at) storage
    (subst (λ (i : ℕ). IsAddress s hart other i value) same.indexes (subst (λ (n : ℕ). IsAddress s hart n index value) same.serials finds.is)) none

pub found_or_refused : (s : State) (hart : ℕ) (ask : SymAsk) (serial index value : ℕ) (fault : DlFault) → FindsSymbol s hart ask serial index value → RefusesSymbol s hart ask fault → ⊥
found_or_refused s hart ask serial index value _ finds (name_too_long long) = long_or_short ask long finds.short
found_or_refused s hart ask serial index value _ finds (bad_handle short handle none) = not_both (search s ask) (Some (serial, index)) (no_search s ask handle none) finds.found
found_or_refused s hart ask serial index value _ finds (missing short none) = true≢false (sym (ap has_found finds.found) ∙ ap has_found none)
found_or_refused s hart ask serial index value _ finds (no_room other at pages short found storage none) =
    not_yet s hart ask serial index value other at finds found storage none.wants.none

pub same_found : (s : State) (hart : ℕ) (ask : SymAsk) (serial index value other at address : ℕ) → FindsSymbol s hart ask serial index value → FindsSymbol s hart ask other at address
    → (serial ≡ other) × (index ≡ at) × (value ≡ address)
same_found s hart ask serial index value other at address a b =
    let same = same_symbol (search s ask) serial index other at a.found b.found in (
      same.serials,
      same.indexes,
      same_address_by (is_storage_symbol s other at) s hart other at value address
          (subst (λ (i : ℕ). IsAddress s hart other i value) same.indexes (subst (λ (n : ℕ). IsAddress s hart n index value) same.serials a.is)) b.is,
    )

pub same_refusal : (s : State) (hart : ℕ) (ask : SymAsk) (fault other : DlFault) → RefusesSymbol s hart ask fault → RefusesSymbol s hart ask other → fault ≡ other
same_refusal s hart ask _ _ (name_too_long long) (name_too_long also) = refl
same_refusal s hart ask _ _ (name_too_long long) (bad_handle short handle none) = absurd (long_or_short ask long short)
same_refusal s hart ask _ _ (name_too_long long) (missing short none) = absurd (long_or_short ask long short)
same_refusal s hart ask _ _ (name_too_long long) (no_room serial index pages short found storage none) = absurd (long_or_short ask long short)
same_refusal s hart ask _ _ (bad_handle short handle none) (name_too_long long) = absurd (long_or_short ask long short)
same_refusal s hart ask _ _ (bad_handle short handle none) (bad_handle also by without) = refl
same_refusal s hart ask _ _ (bad_handle short handle none) (missing also nothing) = absurd (not_both (search s ask) None (no_search s ask handle none) nothing)
same_refusal s hart ask _ _ (bad_handle short handle none) (no_room serial index pages also found storage without) =
    absurd (not_both (search s ask) (Some (serial, index)) (no_search s ask handle none) found)
same_refusal s hart ask _ _ (missing short nothing) (name_too_long long) = absurd (long_or_short ask long short)
same_refusal s hart ask _ _ (missing short nothing) (bad_handle also handle none) = absurd (not_both (search s ask) None (no_search s ask handle none) nothing)
same_refusal s hart ask _ _ (missing short nothing) (missing also neither) = refl
same_refusal s hart ask _ _ (missing short nothing) (no_room serial index pages also found storage without) = absurd (true≢false (sym (ap has_found found) ∙ ap has_found nothing))
same_refusal s hart ask _ _ (no_room serial index pages short found storage without) (name_too_long long) = absurd (long_or_short ask long short)
same_refusal s hart ask _ _ (no_room serial index pages short found storage without) (bad_handle also handle none) =
    absurd (not_both (search s ask) (Some (serial, index)) (no_search s ask handle none) found)
same_refusal s hart ask _ _ (no_room serial index pages short found storage without) (missing also nothing) = absurd (true≢false (sym (ap has_found found) ∙ ap has_found nothing))
same_refusal s hart ask _ _ (no_room serial index pages short found storage without) (no_room other at count also finds stored lacks) =
    let same = same_symbol (search s ask) serial index other at found finds in
    ap faults.AddressSpaceFull (same_lack s hart other pages count (subst (λ (n : ℕ). HasNoBlock s hart n pages) same.serials without) lacks)
