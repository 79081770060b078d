-- The values of slots, and grants that are settled.
use Rattle.std.proofs.Common.{◌≡◌, ◌≢◌, ◌⊎◌, inl, inr, ⊎_elim, ℕ, ◌&&◌, ◌||◌, Bool, true, false, not, eqb, List, Option, Some, None, refl, sym, ap, subst, ◌∙◌}
use Rattle.std.specs.Bool.{Decides}
use Rattle.std.specs.List.{Contains, filter, find, list_any}
use Rattle.std.specs.Option.{is_some}
use Rattle.std.proofs.lemmas.Bool.{and_from, and_parts, eq-eqb, eqb-true, ne_eqb, not-true, true≢false}
use Rattle.std.proofs.lemmas.Bool.Decides.{Decides-like, Decides-or}
use Rattle.history_calls.specs.Lemmas.Unique.{both_found, not_both}
use Rattle.history_event.specs.declared.state.Granting.{Granting}
use Rattle.history_event.specs.declared.state.Standing.{Standing}
use Rattle.history_event.specs.declared.state.Standing.TheVariants as standings
use Rattle.history_state.specs.Grants.{is_of, is_open, is_open_standing}
use Rattle.history_state.specs.Laws.{GrantsAreTidy}
use Rattle.history_state.specs.Legal.{Settled}
use Rattle.history_state.specs.Lemmas.Lists.{any_in, found_in, from_filter, in_any, in_filter, not_found}
use Rattle.history_state.specs.Lemmas.Tidy.{Tidy, one_number}
use Rattle.history_state.specs.Slots.{HasBound, IsOpenGrant, IsOthers, MayBind, MayLose, value_at_load}
use Rattle.history_state.specs.State.{State}
use Rattle.trace_replay.specs.Granted.{is_numbered}
use Rattle.trace_replay.specs.Lists.{Lists}
use Rattle.trace_replay.specs.Shown.{IsShown}
use Rattle.trace_rows.specs.Grants.{HasValue, IsBound, IsValueOf, is_other}

-- ---- one slot

record OfSlot (owner slot : ℕ) (g : Granting) : Type 0 where
  owner_is : g.owner ≡ owner
  slot_is : g.slot ≡ slot

of_slot : (owner slot : ℕ) (g : Granting) → is_of owner slot g ≡ true → OfSlot owner slot g
of_slot owner slot g is =
    let both = and_parts (eqb g.owner owner) (eqb g.slot slot) is in
    record { owner_is = eqb-true g.owner owner both.0; slot_is = eqb-true g.slot slot both.1 }

tidy_of : (s : State) → GrantsAreTidy s → Tidy s.grants
tidy_of s tidy = record { numbered = tidy.numbered; one_bound = tidy.one_bound; one_open = tidy.one_open }

same_bound : (s : State) → GrantsAreTidy s → (owner slot : ℕ) (g h : Granting) → Contains s.grants g → Contains s.grants h → is_of owner slot g ≡ true → is_of owner slot h ≡ true
    → g.standing ≡ standings.Bound → h.standing ≡ standings.Bound → g.number ≡ h.number
same_bound s tidy owner slot g h there also of is bound held =
    let a : OfSlot owner slot g = of_slot owner slot g of in
    let b : OfSlot owner slot h = of_slot owner slot h is in
    tidy.one_bound g h there also bound held (a.owner_is ∙ sym b.owner_is) (a.slot_is ∙ sym b.slot_is)

not_at_load : (s : State) → GrantsAreTidy s → (owner slot value other : ℕ) → value_at_load s owner slot ≡ Some value → IsBound s owner slot other → ⊥
not_at_load s tidy owner slot value other is b =
    let of : OfSlot owner slot b.grant = of_slot owner slot b.grant b.of in
    let none : value_at_load s b.grant.owner b.grant.slot ≡ None = tidy.unbound b.grant b.there b.bound in
    not_both (value_at_load s owner slot) value (subst (λ n. value_at_load s owner n ≡ None) of.slot_is (subst (λ n. value_at_load s n b.grant.slot ≡ None) of.owner_is none)) is

one_value : (s : State) → GrantsAreTidy s → (owner slot a b : ℕ) → HasValue s owner slot a → HasValue s owner slot b → a ≡ b
one_value s tidy owner slot a b (inl is) (inl also) = both_found (value_at_load s owner slot) a b is also
one_value s tidy owner slot a b (inl is) (inr held) = absurd (not_at_load s tidy owner slot a b is held)
one_value s tidy owner slot a b (inr held) (inl is) = absurd (not_at_load s tidy owner slot b a is held)
one_value s tidy owner slot a b (inr x) (inr y) =
    let number : x.grant.number ≡ y.grant.number = same_bound s tidy owner slot x.grant y.grant x.there y.there x.of y.of x.bound y.bound in
    x.is ∙ ap (λ (g : Granting). g.value) (one_number s.grants (tidy_of s tidy) x.grant y.grant x.there y.there number) ∙ sym y.is

-- what is found is the slot's value
pub value_some : (s : State) → GrantsAreTidy s → (owner slot v : ℕ) (value : Option ℕ) → IsValueOf s owner slot value → HasValue s owner slot v → value ≡ Some v
value_some s tidy owner slot v (Some u) is has = ap (λ (n : ℕ). Some n) (one_value s tidy owner slot u v is has)
value_some s tidy owner slot v None none (inl is) = absurd (not_both (value_at_load s owner slot) v none.at_load is)
value_some s tidy owner slot v None none (inr b) = absurd (none.unbound (record { grant = b.grant; there = b.there; of = b.of; bound = b.bound }))

value_none : (s : State) (owner slot : ℕ) (value : Option ℕ) → IsValueOf s owner slot value → value_at_load s owner slot ≡ None → ¬ (HasBound s owner slot) → value ≡ None
value_none s owner slot (Some u) (inl is) lazy first = absurd (not_both (value_at_load s owner slot) u lazy is)
value_none s owner slot (Some u) (inr b) lazy first = absurd (first (record { grant = b.grant; there = b.there; of = b.of; bound = b.bound }))
value_none s owner slot None none lazy first = refl

-- ---- an open grant

pub open_is : (x : Standing) → is_open_standing x ≡ true → x ≡ standings.Open
open_is standings.Open e = refl
open_is standings.Bound e = absurd (true≢false (sym e))
open_is (standings.Lost saw) e = absurd (true≢false (sym e))

abbrev pub FindsOpen : Lists → ℕ → Option Granting → Type 0
FindsOpen l number found = found ≡ find (is_numbered number) (filter is_open l.grants)

found_open : (s : State) (l : Lists) (number : ℕ) (g : Granting) → IsShown s l → FindsOpen l number (Some g) → IsOpenGrant s number g
found_open s l number g x found =
    let at = found_in (is_numbered number) (filter is_open l.grants) g (sym found) in
    let was = from_filter is_open l.grants g at.0 in
    record { there = subst (λ (gs : List Granting). Contains gs g) x.grants was.0; numbered = eqb-true g.number number at.1; open_yet = open_is g.standing was.1 }

none_open : (s : State) (l : Lists) (number : ℕ) (g : Granting) → IsShown s l → FindsOpen l number None → IsOpenGrant s number g → ⊥
none_open s l number g x found is =
    let there : Contains (filter is_open l.grants) g = in_filter is_open l.grants g (subst (λ (gs : List Granting). Contains gs g) (sym x.grants) is.there) (ap is_open_standing is.open_yet) in
    true≢false (sym (eq-eqb g.number number is.numbered) ∙ not_found (is_numbered number) (filter is_open l.grants) g (sym found) there)

same_open : (s : State) → GrantsAreTidy s → (number : ℕ) (g h : Granting) → IsOpenGrant s number g → IsOpenGrant s number h → g ≡ h
same_open s tidy number g h a b = one_number s.grants (tidy_of s tidy) g h a.there b.there (a.numbered ∙ sym b.numbered)

-- ---- it may be settled

pub not_bound : (s : State) (l : Lists) (number : ℕ) → IsShown s l → FindsOpen l number None → Decides false (MayBind s number)
not_bound s l number x found = ((λ e. absurd (true≢false (sym e))), (λ may. absurd (none_open s l number may.grant x found may.is)))

pub bound_so : (s : State) (l : Lists) (number : ℕ) (g : Granting) (value : Option ℕ) (none : Bool) → GrantsAreTidy s → IsShown s l → FindsOpen l number (Some g)
    → IsValueOf s g.owner g.slot value → is_some value ≡ not none → Decides none (MayBind s number)
bound_so s l number g (Some v) none tidy x found is some = (
  (λ e. absurd (true≢false (some ∙ ap not e))),
  (λ may.
      let same : may.grant ≡ g = same_open s tidy number may.grant g may.is (found_open s l number g x found) in
      let gone : Some v ≡ None = value_none s g.owner g.slot (Some v) is
      (subst (λ (h : Granting). value_at_load s h.owner h.slot ≡ None) same may.lazy) (subst (λ (h : Granting). ¬ (HasBound s h.owner h.slot)) same may.first) in
      absurd (cc)),
)
bound_so s l number g None none tidy x found is some = (
  (λ e. record { grant = g; is = found_open s l number g x found; lazy = is.at_load; first = is.unbound }),
  (λ may. not_false none some),
)
  where
    not_false : (b : Bool) → false ≡ not b → b ≡ true
    not_false true e = refl
    not_false false e = absurd (true≢false (sym e))

pub not_lost : (s : State) (l : Lists) (number saw : ℕ) → IsShown s l → FindsOpen l number None → Decides false (MayLose s number saw)
not_lost s l number saw x found = ((λ e. absurd (true≢false (sym e))), (λ may. absurd (none_open s l number may.grant x found may.is)))

-- what is another open grant of the slot
record IsAnother (g other : Granting) (value : ℕ) : Type 0 where
  of : is_of g.owner g.slot other ≡ true
  differs : other.number ≢ g.number
  value_is : value ≡ other.value

another : (g : Granting) (value : ℕ) (other : Granting) → is_other g value other ≡ true → IsAnother g other value
another g value other is =
    let last = and_parts (is_of g.owner g.slot other && not (eqb other.number g.number)) (eqb other.value value) is in
    let first = and_parts (is_of g.owner g.slot other) (not (eqb other.number g.number)) last.0 in
    record {
      of = first.0;
      differs = λ e. true≢false (sym (eq-eqb other.number g.number e) ∙ not-true (eqb other.number g.number) first.1);
      value_is = sym (eqb-true other.value value last.1);
    }

is_another : (g other : Granting) (value : ℕ) → is_of g.owner g.slot other ≡ true → other.number ≢ g.number → value ≡ other.value → is_other g value other ≡ true
is_another g other value of differs is =
    and_from (is_of g.owner g.slot other && not (eqb other.number g.number)) (eqb other.value value)
    (and_from (is_of g.owner g.slot other) (not (eqb other.number g.number)) of (ap not (ne_eqb other.number g.number differs))) (eq-eqb other.value value (sym is))

abbrev pub OtherOpen : Lists → Granting → ℕ → Bool → Type 0
OtherOpen l g saw b = b ≡ list_any (is_other g saw) (filter is_open l.grants)

lost_at : (s : State) (number saw : ℕ) (g : Granting) → GrantsAreTidy s → IsOpenGrant s number g → HasValue s g.owner g.slot saw → MayLose s number saw
lost_at s number saw g tidy is (inl at) = record { grant = g; is = is; found = inl at }
lost_at s number saw g tidy is (inr b) = record {
  grant = g;
  is = is;
  found = inr (record {
    other = b.grant;
    there = b.there;
    of = b.of;
    differs = λ same.
        let one : b.grant ≡ g = one_number s.grants (tidy_of s tidy) b.grant g b.there is.there same in
        let both : standings.Bound ≡ standings.Open = sym b.bound ∙ ap (λ (h : Granting). h.standing) one ∙ is.open_yet in
        absurd (cc);
    kept = λ word lost. let both : standings.Bound ≡ standings.Lost word = sym b.bound ∙ lost in absurd (cc);
    value = b.is;
  });
}

lost_to : (s : State) (l : Lists) (number saw : ℕ) (g : Granting) → IsShown s l → IsOpenGrant s number g → list_any (is_other g saw) (filter is_open l.grants) ≡ true → MayLose s number saw
lost_to s l number saw g x is some =
    let at = any_in (is_other g saw) (filter is_open l.grants) some in
    let was = from_filter is_open l.grants at.0 at.1 in
    let other : IsAnother g at.0 saw = another g saw at.0 at.2 in
    let waits : at.0.standing ≡ standings.Open = open_is at.0.standing was.1 in
    record {
      grant = g;
      is = is;
      found = inr (record {
        other = at.0;
        there = subst (λ (gs : List Granting). Contains gs at.0) x.grants was.0;
        of = other.of;
        differs = other.differs;
        kept = λ word lost. let both : standings.Open ≡ standings.Lost word = sym waits ∙ lost in absurd (cc);
        value = other.value_is;
      });
    }

-- another grant that isn't lost is bound, or open
others : (s : State) (l : Lists) (saw : ℕ) (g : Granting) → IsShown s l → (o : IsOthers s g saw) → (x : Standing) → o.other.standing ≡ x
    → HasValue s g.owner g.slot saw ⊎ (list_any (is_other g saw) (filter is_open l.grants) ≡ true)
others s l saw g x o standings.Open is =
    inr (in_any (is_other g saw) (filter is_open l.grants) o.other
    (in_filter is_open l.grants o.other (subst (λ (gs : List Granting). Contains gs o.other) (sym x.grants) o.there) (ap is_open_standing is)) (is_another g o.other saw o.of o.differs o.value))
others s l saw g x o standings.Bound is = inl (inr (record { grant = o.other; there = o.there; of = o.of; bound = is; is = o.value }))
others s l saw g x o (standings.Lost word) is = absurd (o.kept word is)

lost_from : (s : State) (l : Lists) (number saw : ℕ) (g : Granting) → GrantsAreTidy s → IsShown s l → IsOpenGrant s number g → MayLose s number saw
    → HasValue s g.owner g.slot saw ⊎ (list_any (is_other g saw) (filter is_open l.grants) ≡ true)
lost_from s l number saw g tidy x is may =
    by (subst (λ (h : Granting). (value_at_load s h.owner h.slot ≡ Some saw) ⊎ IsOthers s h saw) (same_open s tidy number may.grant g may.is is) may.found)
  where
    by : (value_at_load s g.owner g.slot ≡ Some saw) ⊎ IsOthers s g saw → HasValue s g.owner g.slot saw ⊎ (list_any (is_other g saw) (filter is_open l.grants) ≡ true)
    by (inl at) = inl (inl at)
    by (inr o) = others s l saw g x o o.other.standing refl

pub lost_so : (s : State) (l : Lists) (number saw : ℕ) (g : Granting) (value : Option ℕ) (held other : Bool) → GrantsAreTidy s → IsShown s l → FindsOpen l number (Some g)
    → IsValueOf s g.owner g.slot value → Decides held (value ≡ Some saw) → OtherOpen l g saw other → Decides (held || other) (MayLose s number saw)
lost_so s l number saw g value held other tidy x found is has some =
    let open_grant : IsOpenGrant s number g = found_open s l number g x found in
    Decides-like (held || other)
    (λ (e : (value ≡ Some saw) ⊎ (list_any (is_other g saw) (filter is_open l.grants) ≡ true)). ⊎_elim
    (λ (at : value ≡ Some saw). lost_at s number saw g tidy open_grant (subst (IsValueOf s g.owner g.slot) at is))
    (λ (at : list_any (is_other g saw) (filter is_open l.grants) ≡ true). lost_to s l number saw g x open_grant at) e)
    (λ (may : MayLose s number saw). ⊎_elim
    (λ (v : HasValue s g.owner g.slot saw). inl (value_some s tidy g.owner g.slot saw value is v))
    (λ (at : list_any (is_other g saw) (filter is_open l.grants) ≡ true). inr at)
    (lost_from s l number saw g tidy x open_grant may))
    (Decides-or held other has ((λ e. sym some ∙ e), (λ e. some ∙ e)))

-- ---- what a lost grant saw

pub settled_by : (s : State) (g : Granting) (saw : ℕ) → GrantsAreTidy s → HasValue s g.owner g.slot saw → Settled s g saw
settled_by s g saw tidy (inl at) = inl at
settled_by s g saw tidy (inr b) = inr (record {
  grant = b.grant;
  there = b.there;
  of = b.of;
  bound = b.bound;
  holds = sym b.is;
  only = λ other there of bound. same_bound s tidy g.owner g.slot other b.grant there b.there of b.of bound b.bound;
})

pub settled_has : (s : State) (g : Granting) (saw : ℕ) → Settled s g saw → HasValue s g.owner g.slot saw
settled_has s g saw (inl at) = inl at
settled_has s g saw (inr b) = inr (record { grant = b.grant; there = b.there; of = b.of; bound = b.bound; is = sym b.holds })
