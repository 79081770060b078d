-- Objects that are unmapped.
use Rattle.std.proofs.Common.{◌≡◌, ◌≢◌, ◌⊎◌, ⊎_elim, inl, inr, ℕ, ◌&&◌, Bool, true, false, not, eqb, List, [], ◌∷◌, reverse, length, Option, Some, None, cond, refl, sym, ap, subst, ◌∙◌, arith}
use Rattle.std.specs.Bool.{Decides}
use Rattle.std.specs.List.{Contains, filter, find, list_any}
use Rattle.std.specs.Option.{is_some, option_map}
use Rattle.std.specs.Str.{bytes_eq}
use Rattle.std.proofs.lemmas.Bool.{and_from, and_parts, eq-eqb, eqb-true, ne_eqb, not-true, true≢false}
use Rattle.std.proofs.lemmas.Bool.Decides.{Decides-and, Decides-like, Decides-or}
use Rattle.std.proofs.lemmas.Slice.Eq.{bytes_eq-Decides}
use Rattle.history_event.specs.declared.state.Closing.{Closing}
use Rattle.history_event.specs.declared.state.Granting.{Granting}
use Rattle.history_graph.specs.Initialised.{is_one_of}
use Rattle.history_state.specs.Allowed.{IsUngranted, MayUnmap}
use Rattle.history_state.specs.Grants.{is_open, target_of}
use Rattle.history_state.specs.Lemmas.Lists.{any_in, found_in, from_filter, has_in, in_any}
use Rattle.history_state.specs.Links.{finis_of, unfinished}
use Rattle.history_state.specs.Objects.{has}
use Rattle.history_state.specs.State.{State}
use Rattle.history_state.specs.Step.{is_closing}
use Rattle.close_mark.specs.UnmapSteps.Touched.{is_touching}
use Rattle.trace_replay.specs.Lists.{Lists}
use Rattle.trace_replay.specs.Shown.{IsShown}
use Rattle.trace_rows.proofs.Valued.{open_is}

-- ---- the first that passes a test

pub none_pass : {X : Type 0} (p : X → Bool) (xs : List X) → find p xs ≡ None → filter p xs ≡ []
none_pass p [] e = refl
none_pass {X} p (x ∷ xs) e = at (λ f. none_pass p xs f) (p x) e
  where
    at : (find p xs ≡ None → filter p xs ≡ []) → (b : Bool) → cond b (Some x) (find p xs) ≡ None → cond b (x ∷ filter p xs) (filter p xs) ≡ []
    at again true f = absurd (let d : Some x ≡ None = f in cc)
    at again false f = again f

pub none_found : {X : Type 0} (p : X → Bool) (xs : List X) → filter p xs ≡ [] → find p xs ≡ None
none_found p [] e = refl
none_found {X} p (x ∷ xs) e = at (λ f. none_found p xs f) (p x) e
  where
    at : (filter p xs ≡ [] → find p xs ≡ None) → (b : Bool) → cond b (x ∷ filter p xs) (filter p xs) ≡ [] → cond b (Some x) (find p xs) ≡ None
    at again true f = absurd (let d : x ∷ filter p xs ≡ [] = f in cc)
    at again false f = again f

-- a test of what an option lacks
pub lacks_so : {X : Type 0} (found : Option X) (lacks : Bool) → is_some found ≡ not lacks → Decides lacks (found ≡ None)
lacks_so {X} None true e = ((λ t. refl), (λ n. refl))
lacks_so {X} None false e = absurd (true≢false (sym e))
lacks_so {X} (Some x) true e = absurd (true≢false e)
lacks_so {X} (Some x) false e = ((λ t. absurd (true≢false (sym t))), (λ n. absurd (let d : Some x ≡ None = n in cc)))

-- ---- closings

closing_there : (s : State) (l : Lists) (hart : ℕ) (set : List ℕ) → IsShown s l
    → Decides (list_any (is_closing hart set) l.closings) ((c : Closing) × Contains s.closings c × (c.hart ≡ hart) × (c.set ≡ set))
closing_there s l hart set x = (
  (λ e.
      let at = any_in (is_closing hart set) l.closings e in
      let both = and_parts (eqb at.0.hart hart) (bytes_eq at.0.set set) at.2 in
      (at.0, subst (λ (cs : List Closing). Contains cs at.0) x.closings at.1, eqb-true at.0.hart hart both.0, (bytes_eq-Decides at.0.set set).0 both.1)),
  (λ c. in_any (is_closing hart set) l.closings c.0 (subst (λ (cs : List Closing). Contains cs c.0) (sym x.closings) c.1)
      (and_from (eqb c.0.hart hart) (bytes_eq c.0.set set) (eq-eqb c.0.hart hart c.2) ((bytes_eq-Decides c.0.set set).1 c.3))),
)

-- ---- destructors

finished_so : (s : State) (l : Lists) (set : List ℕ) (next : Option ℕ) (none : Bool) → IsShown s l → next ≡ find (is_one_of set) (reverse l.unfinished) → is_some next ≡ not none
    → Decides none (finis_of s set ≡ [])
finished_so s l set next none x is lacks =
    let found : next ≡ find (is_one_of set) (reverse (unfinished s)) = is ∙ ap (λ (ds : List ℕ). find (is_one_of set) (reverse ds)) x.unfinished in
    Decides-like none
    (λ (e : next ≡ None). none_pass (is_one_of set) (reverse (unfinished s)) (sym found ∙ e))
    (λ (e : finis_of s set ≡ []). found ∙ none_found (is_one_of set) (reverse (unfinished s)) e)
    (lacks_so next none lacks)

-- ---- open grants

touches : (set : List ℕ) (g : Granting) → is_touching set g ≡ true → (d : ℕ) × Contains set d × ((g.owner ≡ d) ⊎ Contains (target_of g.choice) d)
touches set g e = ⊎_elim
    (λ (own : has set g.owner ≡ true). (g.owner, has_in set g.owner own, inl refl))
    (λ (some : list_any (has set) (target_of g.choice) ≡ true). let at = any_in (has set) (target_of g.choice) some in (at.0, has_in set at.0 at.2, inr at.1))
    ((Decides-or (has set g.owner) (list_any (has set) (target_of g.choice)) ((λ t. t), (λ t. t)) ((λ t. t), (λ t. t))).0 e)

free_so : (s : State) (l : Lists) (set : List ℕ) (holder : Option ℕ) (none : Bool) → IsShown s l → (find (is_touching set) (filter is_open s.grants) ≡ None → IsUngranted s set)
    → holder ≡ option_map (λ (g : Granting). g.number) (find (is_touching set) (filter is_open l.grants)) → is_some holder ≡ not none → Decides none (IsUngranted s set)
free_so s l set holder none x law is lacks =
    let at : holder ≡ option_map (λ (g : Granting). g.number) (find (is_touching set) (filter is_open s.grants)) =
    is ∙ ap (λ (gs : List Granting). option_map (λ (g : Granting). g.number) (find (is_touching set) (filter is_open gs))) x.grants in
    Decides-like none
    (λ (e : holder ≡ None). law (unmapped_none (find (is_touching set) (filter is_open s.grants)) (sym at ∙ e)))
    (λ (free : IsUngranted s set). at ∙ no_holder free (find (is_touching set) (filter is_open s.grants)) refl)
    (lacks_so holder none lacks)
  where
    unmapped_none : (found : Option Granting) → option_map (λ (g : Granting). g.number) found ≡ None → found ≡ None
    unmapped_none None e = refl
    unmapped_none (Some g) e = absurd (let d : Some g.number ≡ None = e in cc)

    no_holder : IsUngranted s set → (found : Option Granting) → find (is_touching set) (filter is_open s.grants) ≡ found → option_map (λ (g : Granting). g.number) found ≡ None
    no_holder free None e = refl
    no_holder free (Some g) e =
        let here = found_in (is_touching set) (filter is_open s.grants) g e in
        let was = from_filter is_open s.grants g here.0 in
        let touch = touches set g here.1 in
        let none = free g touch.0 was.0 (open_is g.standing was.1) touch.1 in
        absurd (⊎_elim (λ (own : g.owner ≡ touch.0). none.0 own) (λ (inside : Contains (target_of g.choice) touch.0). none.1 inside) touch.2)

-- ---- an unmapping

pub unmaps_so : (s : State) (l : Lists) (hart : ℕ) (set : List ℕ) (empty closing finished free : Bool) (next holder : Option ℕ) → IsShown s l
    → (find (is_touching set) (filter is_open s.grants) ≡ None → IsUngranted s set) → empty ≡ eqb (length set) 0 → closing ≡ list_any (is_closing hart set) l.closings
    → next ≡ find (is_one_of set) (reverse l.unfinished) → is_some next ≡ not finished
    → holder ≡ option_map (λ (g : Granting). g.number) (find (is_touching set) (filter is_open l.grants)) → is_some holder ≡ not free
    → Decides (((not empty && closing) && finished) && free) (MayUnmap s hart set)
unmaps_so s l hart set empty closing finished free next holder x law is_empty is_closing_so is_next lacks is_holder none =
    Decides-like (((not empty && closing) && finished) && free) to from
    (Decides-and ((not empty && closing) && finished) free
    (Decides-and (not empty && closing) finished
    (Decides-and (not empty) closing (some_so set empty is_empty)
    (subst (λ (b : Bool). Decides b ((c : Closing) × Contains s.closings c × (c.hart ≡ hart) × (c.set ≡ set))) (sym is_closing_so) (closing_there s l hart set x)))
    (finished_so s l set next finished x is_next lacks))
    (free_so s l set holder free x law is_holder none))
  where
    some_so : (xs : List ℕ) (b : Bool) → b ≡ eqb (length xs) 0 → Decides (not b) (xs ≢ [])
    some_so [] b e = ((λ t. absurd (true≢false (sym e ∙ not-true b t))), (λ n. absurd (n refl)))
    some_so (d ∷ ds) b e = ((λ t n. let m : d ∷ ds ≡ [] = n in absurd (cc)), (λ n. ap not (e ∙ ne_eqb (length (d ∷ ds)) 0 (λ z. none_long d ds z))))
      where
        none_long : (y : ℕ) (ys : List ℕ) → length (y ∷ ys) ≡ 0 → ⊥
        none_long y ys z = omega (arith, z)

    to : (((set ≢ []) × ((c : Closing) × Contains s.closings c × (c.hart ≡ hart) × (c.set ≡ set))) × (finis_of s set ≡ [])) × IsUngranted s set → MayUnmap s hart set
    to p = record { some = p.0.0.0; closing = p.0.0.1.0; there = p.0.0.1.1; by = p.0.0.1.2; whole = p.0.0.1.3; done = p.0.1; free = p.1 }

    from : MayUnmap s hart set → (((set ≢ []) × ((c : Closing) × Contains s.closings c × (c.hart ≡ hart) × (c.set ≡ set))) × (finis_of s set ≡ [])) × IsUngranted s set
    from m = (((m.some, (m.closing, m.there, m.by, m.whole)), m.done), m.free)
