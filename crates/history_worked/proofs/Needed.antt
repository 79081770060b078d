-- What an event needs, by tests that compute: a history whose test is false isn't legal.
use Rattle.std.proofs.Common.{◌≡◌, ◌≢◌, ◌⊎◌, inl, inr, ℕ, zero, suc, ◌+◌, ◌≤◌, Bool, true, false, not, ◌&&◌, ◌||◌, eqb, List, [], ◌∷◌, map}
use Rattle.std.proofs.Common.{take, length, Option, Some, None}
use Rattle.std.proofs.Common.{refl, sym, ap, subst, ◌∙◌, arith}
use Rattle.std.specs.Prelude.{if◌then◌else◌}
use Rattle.std.specs.List.{Contains, flat_map, list_any, slice_get}
use Rattle.std.specs.Option.{option_map_or}
use Rattle.std.proofs.Math.Seq.{take-append_seam}
use Rattle.std.proofs.lemmas.Bool.{and_from, and_parts, eq-eqb, eqb-true, false≢true, or_left, or_right, true≢false}
use Rattle.std.proofs.lemmas.List.{length-append}
use Rattle.ld_base.specs.declared.linking.Choice.{Choice}
use Rattle.ld_base.specs.declared.linking.Choice.TheVariants.{Def, WeakZero, Missing}
use Rattle.ld_base.specs.declared.linking.Loaded.{Loaded}
use Rattle.ld_base.specs.declared.object.Reloc.{Reloc}
use Rattle.history_event.specs.declared.event.Event.{Event}
use Rattle.history_event.specs.declared.state.Closing.{Closing}
use Rattle.history_event.specs.declared.state.Granting.{Granting}
use Rattle.history_event.specs.declared.state.Standing.{Standing}
use Rattle.history_event.specs.declared.state.Standing.TheVariants.{Open, Bound, Lost}
use Rattle.scope_rule.specs.Relocation.{choice_at}
use Rattle.scope_rule.specs.Seen.{seen_in}
use Rattle.scope_rule.specs.declared.namespace.Namespace.{Namespace}
use Rattle.history_state.specs.Addresses.{leads_to_code}
use Rattle.history_state.specs.After.{after}
use Rattle.history_state.specs.Allowed.{AtTheEnd, ByClosing, IsUnresolved, MayEnd, MayGrant, WasNext}
use Rattle.history_state.specs.Bound.{lazy_word}
use Rattle.history_state.specs.Grants.{is_bound, is_bound_standing, is_of, is_open}
use Rattle.history_state.specs.Links.{finis_of}
use Rattle.history_state.specs.Objects.{has, mapped, serial_of}
use Rattle.history_state.specs.Setting.{Setting, are_finals, have_exited}
use Rattle.history_state.specs.Slots.{IsOthers, IsSlot, MayBind, MayLose, value_at_load}
use Rattle.history_state.specs.State.{State}
use Rattle.history_state.specs.Lemmas.Lists.{any_in, at_in, here, in_any, in_flat, only_in}
use Rattle.history_state.specs.Lemmas.Played.{no_grant}

-- ---- settlings

differ : (a b : ℕ) → a ≢ b → not (eqb a b) ≡ true
differ a b apart = by (eqb a b) refl
  where
    by : (t : Bool) → eqb a b ≡ t → not t ≡ true
    by true same = absurd (apart (eqb-true a b same))
    by false same = refl

-- the word is the slot's at load, or the value of another grant of it
abbrev sees : State → ℕ → Granting → Bool
sees s saw g =
    option_map_or (λ v. eqb v saw) (value_at_load s g.owner g.slot) false
    || list_any (λ x. is_of g.owner g.slot x && (not (eqb x.number g.number) && eqb saw x.value)) s.grants

abbrev pub may_see : State → ℕ → ℕ → Bool
may_see s number saw = list_any (λ g. eqb g.number number && sees s saw g) s.grants

pub lost_sees : (s : State) (number saw : ℕ) → MayLose s number saw → may_see s number saw ≡ true
lost_sees s number saw may =
    in_any (λ g. eqb g.number number && sees s saw g) s.grants may.grant may.is.there
    (and_from (eqb may.grant.number number) (sees s saw may.grant) (eq-eqb may.grant.number number may.is.numbered) (by may.found))
  where
    at_load : Bool
    at_load = option_map_or (λ v. eqb v saw) (value_at_load s may.grant.owner may.grant.slot) false

    others : Bool
    others = list_any (λ x. is_of may.grant.owner may.grant.slot x && (not (eqb x.number may.grant.number) && eqb saw x.value)) s.grants

    by : (value_at_load s may.grant.owner may.grant.slot ≡ Some saw) ⊎ IsOthers s may.grant saw → sees s saw may.grant ≡ true
    by (inl is) = or_left at_load others (ap (λ (v : Option ℕ). option_map_or (λ n. eqb n saw) v false) is ∙ eq-eqb saw saw refl)
    by (inr x) = or_right at_load others
        (in_any (λ y. is_of may.grant.owner may.grant.slot y && (not (eqb y.number may.grant.number) && eqb saw y.value)) s.grants x.other x.there
        (and_from (is_of may.grant.owner may.grant.slot x.other) (not (eqb x.other.number may.grant.number) && eqb saw x.other.value) x.of
        (and_from (not (eqb x.other.number may.grant.number)) (eqb saw x.other.value) (differ x.other.number may.grant.number x.differs)
        (eq-eqb saw x.other.value x.value))))

-- an open grant is lost to the one of its slot that is bound
pub lost_to_bound : {g other : Granting} (s : State) (number saw k j : ℕ) → slice_get s.grants k ≡ Some g → g.number ≡ number → g.standing ≡ Open
    → slice_get s.grants j ≡ Some other → is_of g.owner g.slot other ≡ true → eqb other.number g.number ≡ false → other.standing ≡ Bound → saw ≡ other.value
    → MayLose s number saw
lost_to_bound {g} {other} s number saw k j at is open_yet there of differs bound value = record {
  grant = g;
  is = record { there = at_in s.grants k g at; numbered = is; open_yet = open_yet };
  found = inr (record {
    other = other;
    there = at_in s.grants j other there;
    of = of;
    differs = λ e. true≢false (sym (eq-eqb other.number g.number e) ∙ differs);
    kept = λ word e. let d : Bound ≡ Lost word = sym bound ∙ e in cc;
    value = value;
  });
}

bound_is : (standing : Standing) → is_bound_standing standing ≡ true → standing ≡ Bound
bound_is Open is = absurd (false≢true is)
bound_is Bound is = refl
bound_is (Lost saw) is = absurd (false≢true is)

-- no grant of its slot is bound
abbrev is_first : State → Granting → Bool
is_first s g = not (list_any (λ x. is_of g.owner g.slot x && is_bound x) s.grants)

abbrev pub may_bind : State → ℕ → Bool
may_bind s number = list_any (λ g. eqb g.number number && is_first s g) s.grants

pub bound_first : (s : State) (number : ℕ) → MayBind s number → may_bind s number ≡ true
bound_first s number may =
    in_any (λ g. eqb g.number number && is_first s g) s.grants may.grant may.is.there
    (and_from (eqb may.grant.number number) (is_first s may.grant) (eq-eqb may.grant.number number may.is.numbered)
    (by (list_any (λ x. is_of may.grant.owner may.grant.slot x && is_bound x) s.grants) refl))
  where
    by : (t : Bool) → list_any (λ x. is_of may.grant.owner may.grant.slot x && is_bound x) s.grants ≡ t → not t ≡ true
    by false none = refl
    by true some =
        let found = any_in (λ x. is_of may.grant.owner may.grant.slot x && is_bound x) s.grants some in
        let parts = and_parts (is_of may.grant.owner may.grant.slot found.0) (is_bound found.0) found.2 in
        absurd (may.first (record { grant = found.0; there = found.1; of = parts.0; bound = bound_is found.0.standing parts.1 }))

-- ---- final destructors

abbrev is_head : List ℕ → ℕ → Bool
is_head finis object = option_map_or (λ d. eqb d object) (slice_get finis 0) false

-- after some events all harts had ended by exit, and the object came next
abbrev came_next : Setting → ℕ → List Event → Bool
came_next w object before = have_exited w (after before) && is_head (finis_of (after before) (map serial_of (mapped (after before)))) object

abbrev pub ever : (List Event → Bool) → List Event → ℕ → Bool
ever test past zero = test (take zero past)
ever test past (suc n) = test (take (suc n) past) || ever test past n

some_by : (test : List Event → Bool) (past : List Event) (k n : ℕ) → (k ≤ n → ever test past n ≡ true) → k ≤ suc n → test (take k past) ≡ true
    → (t : Bool) → eqb k (suc n) ≡ t
    → ever test past (suc n) ≡ true
some_by test past k n before few is true same =
    or_left (test (take (suc n) past)) (ever test past n) (subst (λ (j : ℕ). test (take j past) ≡ true) (eqb-true k (suc n) same) is)
some_by test past k n before few is false same =
    let differs : k ≢ suc n = λ e. true≢false (sym (eq-eqb k (suc n) e) ∙ same) in
    or_right (test (take (suc n) past)) (ever test past n) (before (omega (arith, few, differs)))

at_some : (test : List Event → Bool) (past : List Event) (k n : ℕ) → k ≤ n → test (take k past) ≡ true → ever test past n ≡ true
at_some test past k zero few is = let same : k ≡ 0 = omega (arith, few) in subst (λ (j : ℕ). test (take j past) ≡ true) same is
at_some test past k (suc n) few is = some_by test past k n (λ less. at_some test past k n less is) few is (eqb k (suc n)) refl

abbrev pub was_next : Setting → List Event → ℕ → Bool
was_next w past object = ever (came_next w object) past (length past)

next_came : (w : Setting) (past : List Event) (object : ℕ) → WasNext w past object → was_next w past object ≡ true
next_came w past object was =
    at_some (came_next w object) past (length was.before) (length past) few (subst (λ (es : List Event). came_next w object es ≡ true) (sym front) now)
  where
    long : length past ≡ length was.before + length was.since
    long = ap (λ (es : List Event). length es) was.are ∙ length-append was.before was.since

    few : length was.before ≤ length past
    few = omega (arith, long)

    front : take (length was.before) past ≡ was.before
    front = ap (λ (es : List Event). take (length was.before) es) was.are ∙ take-append_seam was.before was.since

    head : (finis : List ℕ) → slice_get finis 0 ≡ Some object → is_head finis object ≡ true
    head finis first = ap (λ (d : Option ℕ). option_map_or (λ n. eqb n object) d false) first ∙ eq-eqb object object refl

    now : came_next w object was.before ≡ true
    now = and_from (have_exited w (after was.before)) (is_head (finis_of (after was.before) (map serial_of (mapped (after was.before)))) object) was.over
        (head (finis_of (after was.before) (map serial_of (mapped (after was.before)))) was.next)

-- while nothing closes
pub not_finalised : (w : Setting) (past : List Event) (s : State) (hart object : ℕ) → list_any (λ (c : Closing). true) s.closings ≡ false
    → was_next w past object ≡ false
    → ByClosing s hart object ⊎ AtTheEnd w past s hart object → ⊥
not_finalised w past s hart object none never_next (inl closing) =
    true≢false (sym (in_any (λ (c : Closing). true) s.closings closing.closing closing.there refl) ∙ none)
not_finalised w past s hart object none never_next (inr final) = true≢false (sym (next_came w past object final.was) ∙ never_next)

-- ---- ends

pub not_ended : (w : Setting) (s : State) (hart : ℕ) → has (map (λ e. e.hart) s.endings) hart ≡ true → (eqb hart 0 && are_finals w s) ≡ false
    → MayEnd w s hart → ⊥
not_ended w s hart over finals (inl none) = true≢false (sym over ∙ none)
not_ended w s hart over finals (inr both) = true≢false (sym (and_from (eqb hart 0) (are_finals w s) (eq-eqb hart 0 both.0) both.1) ∙ finals)

-- ---- what a slot chooses

abbrev entry_of : Namespace → Loaded → Option Reloc → List Choice
entry_of ns o None = []
entry_of ns o (Some r) = choice_at (seen_in ns) o r ∷ []

abbrev chosen_in : ℕ → ℕ → Namespace → Loaded → List Choice
chosen_in owner slot ns o = if eqb o.serial owner then entry_of ns o (slice_get o.object.plt_relocs slot) else []

abbrev pub choices_of : State → ℕ → ℕ → List Choice
choices_of s owner slot = flat_map (λ ns. flat_map (chosen_in owner slot ns) ns.objects) s.namespaces

slot_chooses : {s : State} {owner slot : ℕ} {choice : Choice} → IsSlot s owner slot choice → Contains (choices_of s owner slot) choice
slot_chooses {s} {owner} {slot} {choice} is =
    in_flat (λ (ns : Namespace). flat_map (chosen_in owner slot ns) ns.objects) s.namespaces is.namespace choice is.there
    (in_flat (chosen_in owner slot is.namespace) is.namespace.objects is.object choice is.inside (by (eqb is.object.serial owner)
    (eq-eqb is.object.serial owner is.is)))
  where
    chosen : Contains (entry_of is.namespace is.object (slice_get is.object.object.plt_relocs slot)) choice
    chosen = subst (λ found. Contains (entry_of is.namespace is.object found) choice) (sym is.at) (subst (λ x. Contains (x ∷ []) choice) is.chooses
        (here choice []))

    by : (b : Bool) → b ≡ true → Contains (if b then entry_of is.namespace is.object (slice_get is.object.object.plt_relocs slot) else []) choice
    by true e = chosen
    by false e = absurd (true≢false (sym e))

-- a slot that chooses this chooses nothing else
pub is_chosen : {s : State} {owner slot : ℕ} {choice : Choice} (only : Choice) → choices_of s owner slot ≡ only ∷ [] → IsSlot s owner slot choice
    → only ≡ choice
is_chosen {s} {owner} {slot} {choice} only are is = only_in only choice (subst (λ all. Contains all choice) are (slot_chooses is))

abbrev serial_of_choice : Choice → ℕ
serial_of_choice (Def serial index) = serial
serial_of_choice WeakZero = 0
serial_of_choice Missing = 0

-- it isn't bound to another object's definition
pub not_of : {s : State} {number hart owner slot serial index value : ℕ} (other at : ℕ) → choices_of s owner slot ≡ Def other at ∷ [] → eqb other serial ≡ false
    → MayGrant s number hart owner slot (Def serial index) value → ⊥
not_of {s} {number} {hart} {owner} {slot} {serial} {index} other at are differs may =
    let same : other ≡ serial = ap serial_of_choice (is_chosen (Def other at) are may.may.is_slot) in
    true≢false (sym (eq-eqb other serial same) ∙ differs)

-- a slot may not be bound
pub is_unresolved : {ns : Namespace} {o : Loaded} {r : Reloc} {choice : Choice} (s : State) (hart owner slot n k : ℕ)
    → list_any (λ g. is_open g && eqb g.hart hart) s.grants ≡ false
    → slice_get s.namespaces n ≡ Some ns → slice_get ns.objects k ≡ Some o → o.serial ≡ owner → slice_get o.object.plt_relocs slot ≡ Some r
    → choice ≡ choice_at (seen_in ns) o r → leads_to_code s (lazy_word o r) choice ≡ false → IsUnresolved s hart owner slot choice
is_unresolved {ns} {o} {r} {choice} s hart owner slot n k free there inside is at chooses code = record {
  free = no_grant s hart free;
  may_not = record {
    is_slot = record {
      namespace = ns;
      object = o;
      there = at_in s.namespaces n ns there;
      inside = at_in ns.objects k o inside;
      is = is;
      reloc = r;
      at = at;
      chooses = chooses;
    };
    code = code;
  };
}
