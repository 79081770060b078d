-- The pages for data that an opening is given.
use Rattle.std.proofs.Common.{◌≡◌, ◌⊎◌, inl, inr, ⊎_elim, ℕ, zero, suc, ◌+◌, ◌<◌, ◌≤◌, Bool, true, false, cond, List, [], ◌∷◌, ◌++◌, map, Option, Some, None, refl, sym, ap, subst, ◌∙◌, arith}
use Rattle.std.specs.List.{Contains, filter, find, range_with_len}
use Rattle.std.proofs.lemmas.Bool.{eq-eqb, eqb-true, ne_eqb, true≢false}
use Rattle.std.proofs.lemmas.List.Elements.{Contains-append_cases}
use Rattle.address_space.specs.Pages.{without}
use Rattle.ld_base.specs.declared.linking.Loaded.{Loaded}
use Rattle.history_event.specs.declared.event.OpenAsk.{OpenAsk}
use Rattle.history_event.specs.declared.event.Purpose.TheVariants as purposes
use Rattle.history_event.specs.declared.event.Range.{Range}
use Rattle.history_state.specs.Areas.{Area, AreGiven, areas, free_pages, has_storage, object_area, other_areas, stack_area, static_area, static_areas}
use Rattle.history_state.specs.Memory.{is_data_purpose}
use Rattle.history_state.specs.Objects.{is_startup}
use Rattle.history_state.specs.Opening.{OpensName, wanted}
use Rattle.history_state.specs.Setting.{Setting}
use Rattle.history_state.specs.State.{State, Statics}
use Rattle.history_state.specs.Storage.{is_static_area, statics_with}
use Rattle.history_state.specs.Lemmas.Lists.{first_or_later, from_map, here, later, none_in}
use Rattle.history_calls.specs.Served.{is_area}
use Rattle.history_state.specs.Lemmas.StaticAreas.{given_area}

-- ---- of a later opening there are none

only_objects : (free : List ℕ) (added : List Loaded) (ranges : List Range) (left : List ℕ) → AreGiven free (map object_area added ++ []) ranges left → filter is_area ranges ≡ []
only_objects free [] [] left g = refl
only_objects free [] (r ∷ ranges) left g = absurd g
only_objects free (o ∷ added) [] left g = absurd g
only_objects free (o ∷ added) (r ∷ ranges) left g =
    ap (λ (b : Bool). cond b (r ∷ filter is_area ranges) (filter is_area ranges)) (ap is_data_purpose g.0.purpose) ∙ only_objects (without free r.address r.pages) added ranges left g.1

pub none_later : (w : Setting) (s : State) (hart : ℕ) (ask : OpenAsk) (id root : ℕ) (added : List Loaded) (ranges : List Range) (name : Option (List ℕ)) → is_startup s ≡ false
    → OpensName w s hart ask name id root added ranges → filter is_area ranges ≡ []
none_later w s hart ask id root added ranges (Some name) later_one opens =
    only_objects (free_pages s.ranges) added ranges opens.placed.left
    (subst (λ (b : Bool). AreGiven (free_pages s.ranges) (areas b (statics_with added s.statics) w.machine.harts added) ranges opens.placed.left) later_one opens.placed.given)
none_later w s hart ask id root added ranges None later_one opens = ap (filter is_area) opens.no_pages

-- ---- pages for data are some

from_row : (n count x : ℕ) → Contains (range_with_len n count) x → n ≤ x
from_row n zero x h = absurd (none_in x h)
from_row n (suc count) x h = ⊎_elim
    (λ (e : n ≡ x). omega (arith, e))
    (λ (i : Contains (range_with_len (n + 1) count) x). omega (arith, from_row (n + 1) count x i))
    (first_or_later n (range_with_len (n + 1) count) x h)

some_others : (startup : Bool) (st : Statics) (harts : ℕ) (added : List Loaded) (a : Area) → Contains (other_areas startup st harts added) a → 0 < a.pages
some_others false st harts added a h = absurd (none_in a h)
some_others true st harts added a h = ⊎_elim
    (λ (i : Contains (map stack_area (range_with_len 0 harts)) a). let at = from_map stack_area (range_with_len 0 harts) a i in subst (λ (x : Area). 0 < x.pages) at.2 (omega arith))
    (λ (i : Contains (static_areas st harts added) a). by (has_storage added) i)
    (Contains-append_cases (map stack_area (range_with_len 0 harts)) (static_areas st harts added) a h)
  where
    by : (b : Bool) → Contains (cond b (map (static_area st added) (range_with_len 0 harts)) []) a → 0 < a.pages
    by true i = let at = from_map (static_area st added) (range_with_len 0 harts) a i in subst (λ (x : Area). 0 < x.pages) at.2 (omega arith)
    by false i = absurd (none_in a i)

some_area : (startup : Bool) (st : Statics) (harts : ℕ) (added : List Loaded) (a : Area) → Contains (areas startup st harts added) a → is_data_purpose a.purpose ≡ true → 0 < a.pages
some_area startup st harts added a h holds_data = ⊎_elim
    (λ (i : Contains (map object_area added) a). let at = from_map object_area added a i in absurd (true≢false (sym holds_data ∙ ap (λ (x : Area). is_data_purpose x.purpose) (sym at.2))))
    (λ (i : Contains (other_areas startup st harts added) a). some_others startup st harts added a i)
    (Contains-append_cases (map object_area added) (other_areas startup st harts added) a h)

pub some_pages : (w : Setting) (s : State) (hart : ℕ) (ask : OpenAsk) (id root : ℕ) (added : List Loaded) (ranges : List Range) (name : Option (List ℕ))
    → OpensName w s hart ask name id root added ranges → (r : Range) → Contains ranges r → is_area r ≡ true → 0 < r.pages
some_pages w s hart ask id root added ranges (Some name) opens r inside holds_data =
    let a = given_area (free_pages s.ranges) (wanted w s added) ranges opens.placed.left opens.placed.given r inside in
    subst (λ (n : ℕ). 0 < n) (sym a.2.0)
    (some_area (is_startup s) (statics_with added s.statics) w.machine.harts added a.0 a.1 (ap is_data_purpose (sym a.2.1) ∙ holds_data))
some_pages w s hart ask id root added ranges None opens r inside holds_data = absurd (none_in r (subst (λ (rs : List Range). Contains rs r) opens.no_pages inside))

-- ---- a hart has one static area

abbrev Once : ℕ → List Area → Type 0
Once hart [] = Unit {0}
Once hart (a ∷ rest) = (is_static_area hart a.purpose ≡ true → (b : Area) → Contains rest b → is_static_area hart b.purpose ≡ false) × Once hart rest

once_behind : (hart : ℕ) (front rest : List Area) → ((a : Area) → Contains front a → is_static_area hart a.purpose ≡ false) → Once hart rest → Once hart (front ++ rest)
once_behind hart [] rest none once = once
once_behind hart (a ∷ front) rest none once =
    (λ is. absurd (true≢false (sym is ∙ none a (here a front))), once_behind hart front rest (λ b inside. none b (later a front b inside)) once)

once_row : (hart : ℕ) (st : Statics) (added : List Loaded) (n count : ℕ) → Once hart (map (static_area st added) (range_with_len n count))
once_row hart st added n zero = tt
once_row hart st added n (suc count) = (λ is b inside. others (eqb-true n hart is) b inside, once_row hart st added (n + 1) count)
  where
    others : n ≡ hart → (b : Area) → Contains (map (static_area st added) (range_with_len (n + 1) count)) b → is_static_area hart b.purpose ≡ false
    others e b inside =
        let at = from_map (static_area st added) (range_with_len (n + 1) count) b inside in
        let above : n + 1 ≤ at.0 = from_row (n + 1) count at.0 at.1 in
        ap (λ (x : Area). is_static_area hart x.purpose) (sym at.2) ∙ ne_eqb at.0 hart (λ same. apart at.0 above same)
      where
        apart : (x : ℕ) → n + 1 ≤ x → x ≡ hart → ⊥
        apart x above same = omega (arith, e, above, same)

once_wanted : (hart : ℕ) (st : Statics) (harts : ℕ) (added : List Loaded) → Once hart (areas true st harts added)
once_wanted hart st harts added =
    once_behind hart (map object_area added) (other_areas true st harts added) (λ a inside. let at = from_map object_area added a inside in ap (λ (x : Area). is_static_area hart x.purpose) (sym at.2))
    (once_behind hart (map stack_area (range_with_len 0 harts)) (static_areas st harts added)
    (λ a inside. let at = from_map stack_area (range_with_len 0 harts) a inside in ap (λ (x : Area). is_static_area hart x.purpose) (sym at.2)) (by (has_storage added)))
  where
    by : (b : Bool) → Once hart (cond b (map (static_area st added) (range_with_len 0 harts)) [])
    by true = once_row hart st added 0 harts
    by false = tt

is_of : (hart : ℕ) (r : Range) → r.purpose ≡ purposes.StaticTls hart → is_static_area hart r.purpose ≡ true
is_of hart r is = ap (is_static_area hart) is ∙ eq-eqb hart hart refl

found_area : (hart : ℕ) (free : List ℕ) (wants : List Area) (ranges : List Range) (left : List ℕ) → AreGiven free wants ranges left → Once hart wants → (r : Range) → Contains ranges r
    → r.purpose ≡ purposes.StaticTls hart → find (λ (q : Range). is_static_area hart q.purpose) ranges ≡ Some r
found_area hart free wants [] left g once r inside is = absurd (none_in r inside)
found_area hart free [] (q ∷ ranges) left g once r inside is = absurd g
found_area hart free (a ∷ wants) (q ∷ ranges) left g once r inside is =
    by (is_static_area hart q.purpose) refl (first_or_later q ranges r inside) (λ there. found_area hart (without free q.address q.pages) wants ranges left g.1 once.1 r there is)
  where
    by : (b : Bool) → is_static_area hart q.purpose ≡ b → (q ≡ r) ⊎ Contains ranges r → (Contains ranges r → find (λ (x : Range). is_static_area hart x.purpose) ranges ≡ Some r) → cond b (Some q) (find (λ (x : Range). is_static_area hart x.purpose) ranges) ≡ Some r
    by true e (inl same) again = ap (λ (x : Range). Some x) same
    by true e (inr there) again =
        let area = given_area (without free q.address q.pages) wants ranges left g.1 r there in
        absurd (true≢false (sym (is_of hart r is) ∙ ap (is_static_area hart) area.2.1 ∙ once.0 (ap (is_static_area hart) (sym g.0.purpose) ∙ e) area.0 area.1))
    by false e (inl same) again = absurd (true≢false (sym (is_of hart r is) ∙ ap (λ (x : Range). is_static_area hart x.purpose) (sym same) ∙ e))
    by false e (inr there) again = again there

pub static_found : (w : Setting) (s : State) (hart : ℕ) (ask : OpenAsk) (id root : ℕ) (added : List Loaded) (ranges : List Range) (name : Option (List ℕ)) (h : ℕ) → is_startup s ≡ true
    → OpensName w s hart ask name id root added ranges → (r : Range) → Contains ranges r → r.purpose ≡ purposes.StaticTls h
    → find (λ (q : Range). is_static_area h q.purpose) ranges ≡ Some r
static_found w s hart ask id root added ranges (Some name) h startup opens r inside is =
    found_area h (free_pages s.ranges) (areas true (statics_with added s.statics) w.machine.harts added) ranges opens.placed.left
    (subst (λ (b : Bool). AreGiven (free_pages s.ranges) (areas b (statics_with added s.statics) w.machine.harts added) ranges opens.placed.left) startup opens.placed.given)
    (once_wanted h (statics_with added s.statics) w.machine.harts added) r inside is
static_found w s hart ask id root added ranges None h startup opens r inside is = absurd (none_in r (subst (λ (rs : List Range). Contains rs r) opens.no_pages inside))
