-- The grants with one that is settled, and what is kept to find them.
use Rattle.std.proofs.Common.{◌≡◌, ◌≢◌, ◌⊎◌, ⊎_elim, ℕ, zero, suc, ◌+◌, ◌-◌, ◌<◌, ◌≤◌, ◌&&◌, Bool, true, false, not, cond, eqb, List, [], ◌∷◌, ◌++◌, drop, length, map, take, Option, Some, None, refl, sym, ap, subst, subst₂, ◌∙◌, arith}
use Rattle.std.specs.Prelude.{slice_set, IsSome}
use Rattle.std.specs.List.{Contains, filter, find, slice_get}
use Rattle.std.proofs.lemmas.Bool.{and_parts, eq-eqb, eqb-true, true≢false}
use Rattle.std.proofs.lemmas.List.Elements.{Contains-push_cases, filter-append}
use Rattle.std.proofs.lemmas.List.{length-map, with_items_is}
use Rattle.std.proofs.lemmas.Option.{slice_get_within}
use Rattle.std.specs.Global.{Vec}
use Rattle.history_event.specs.declared.state.Granting.{Granting}
use Rattle.history_event.specs.declared.state.Standing.{Standing}
use Rattle.history_event.specs.declared.state.Standing.TheVariants as standings
use Rattle.history_state.specs.Grants.{is_bound_standing, is_open, is_open_standing}
use Rattle.history_state.specs.Lemmas.Lists.{found_in, from_filter}
use Rattle.history_state.specs.Lemmas.Tidy.{get_push, in_at, was_settled}
use Rattle.history_state.specs.Step.{settled_as}
use Rattle.trace_replay.specs.Granted.{HasNoBound, is_another, is_numbered}
use Rattle.trace_replay.specs.Indexed.{IsIndexed, StandsAt, place_of, same_slot}

-- numbers count from one on
abbrev From : ℕ → List Granting → Type 0
From n all = (k : ℕ) (g : Granting) → slice_get all k ≡ Some g → g.number ≡ n + k

tail_from : (n : ℕ) (g : Granting) (rest : List Granting) → From n (g ∷ rest) → From (n + 1) rest
tail_from n g rest from k h at = let e : h.number ≡ n + suc k = from (suc k) h at in omega (arith, e)

by_test : (number : ℕ) (standing : Standing) (g : Granting) → (eqb g.number number && is_open g) ≡ false → settled_as number standing g ≡ g
by_test number standing g e = ap (λ (t : Bool). cond t (record g { standing = standing }) g) e

another : (a b : ℕ) → a ≢ b → eqb a b ≡ false
another a b differ = at (eqb a b) refl
  where
    at : (t : Bool) → eqb a b ≡ t → t ≡ false
    at true e = absurd (differ (eqb-true a b e))
    at false e = refl

stays_and : (a b : Bool) → a ≡ false → (a && b) ≡ false
stays_and a b e = ap (λ (t : Bool). t && b) e

-- none of greater numbers is settled
none_settled : (number : ℕ) (standing : Standing) (n : ℕ) (all : List Granting) → From n all → number < n → map (settled_as number standing) all ≡ all
none_settled number standing n [] from less = refl
none_settled number standing n (g ∷ rest) from less =
    let first : g.number ≡ n + 0 = from 0 g refl in
    let differ : g.number ≢ number = λ e. absurd (omega (arith, e, first, less)) in
    let more : number < n + 1 = omega (arith, less) in
    ap (λ (x : Granting). x ∷ map (settled_as number standing) rest) (by_test number standing g (stays_and (eqb g.number number) (is_open g) (another g.number number differ)))
    ∙ ap (λ (xs : List Granting). g ∷ xs) (none_settled number standing (n + 1) rest (tail_from n g rest from) more)

settled_from : (number : ℕ) (standing : Standing) (n k : ℕ) (all : List Granting) (g : Granting) → From n all → number ≡ n + k → slice_get all k ≡ Some g → is_open g ≡ true
    → map (settled_as number standing) all ≡ slice_set all k (record g { standing = standing })
settled_from number standing n k [] g from is at waits = absurd (let d : None ≡ Some g = at in cc)
settled_from number standing n zero (h ∷ rest) g from is at waits =
    let same : h ≡ g = cc in
    let first : h.number ≡ n + 0 = from 0 h refl in
    let numbered : eqb h.number number ≡ true = eq-eqb h.number number (first ∙ sym is) in
    let pending : is_open h ≡ true = ap is_open same ∙ waits in
    let next : number < n + 1 = omega (arith, is) in
    ap (λ (x : Granting). x ∷ map (settled_as number standing) rest)
    (ap (λ (t : Bool). cond (t && is_open h) (record h { standing = standing }) h) numbered ∙ ap (λ (t : Bool). cond t (record h { standing = standing }) h) pending ∙ ap (λ (x : Granting). record x { standing = standing }) same)
    ∙ ap (λ (xs : List Granting). record g { standing = standing } ∷ xs) (none_settled number standing (n + 1) rest (tail_from n h rest from) next)
settled_from number standing n (suc k) (h ∷ rest) g from is at waits =
    let first : h.number ≡ n + 0 = from 0 h refl in
    let differ : h.number ≢ number = λ e. absurd (omega (arith, e, first, is)) in
    let next : number ≡ (n + 1) + k = omega (arith, is) in
    ap (λ (x : Granting). x ∷ map (settled_as number standing) rest) (by_test number standing h (stays_and (eqb h.number number) (is_open h) (another h.number number differ)))
    ∙ ap (λ (xs : List Granting). h ∷ xs) (settled_from number standing (n + 1) k rest g (tail_from n h rest from) next at waits)

-- ---- the grant that is found

pub record IsPlaced (all : List Granting) (number : ℕ) (g : Granting) : Type 0 where
  pub at : slice_get all (number - 1) ≡ Some g
  pub positive : 1 ≤ number
  pub within : number - 1 < length all
  pub waits : is_open g ≡ true
  pub is : g.number ≡ number

pub placed : (all pending : List Granting) (entries : List ((ℕ × ℕ) × ℕ)) (number : ℕ) (g : Granting) → IsIndexed all pending entries → find (is_numbered number) pending ≡ Some g
    → IsPlaced all number g
placed all pending entries number g indexed found =
    let listed = found_in (is_numbered number) pending g found in
    let was = from_filter is_open all g (subst (λ (gs : List Granting). Contains gs g) indexed.pending_are listed.0) in
    let numbered : g.number ≡ number = eqb-true g.number number listed.1 in
    let place = in_at all g was.0 in
    let is : g.number ≡ place.0 + 1 = indexed.numbered place.0 g place.1 in
    let here : place.0 ≡ number - 1 = omega (arith, is, numbered) in
    let at : slice_get all (number - 1) ≡ Some g = subst (λ k. slice_get all k ≡ Some g) here place.1 in
    record { at = at; positive = omega (arith, is, numbered); within = slice_get_within all (number - 1) g at; waits = was.1; is = numbered }

pub settled_there : (all pending : List Granting) (entries : List ((ℕ × ℕ) × ℕ)) (number : ℕ) (standing : Standing) (g : Granting) → IsIndexed all pending entries → IsPlaced all number g
    → slice_set all (number - 1) (record g { standing = standing }) ≡ map (settled_as number standing) all
settled_there all pending entries number standing g indexed place =
    let from : From 1 all = λ k h at. let e : h.number ≡ k + 1 = indexed.numbered k h at in omega (arith, e) in
    let is : number ≡ 1 + (number - 1) = (let p : 1 ≤ number = place.positive in omega (arith, p)) in
    sym (settled_from number standing 1 (number - 1) all g from is place.at place.waits)

-- where no open grant has the number none is settled
pub none_found : (number : ℕ) (standing : Standing) (all : List Granting) → find (is_numbered number) (filter is_open all) ≡ None → map (settled_as number standing) all ≡ all
none_found number standing [] none = refl
none_found number standing (g ∷ rest) none = at (eqb g.number number) (is_open g) refl refl none (none_found number standing rest)
  where
    after_if : (b : Bool) → is_open g ≡ b → find (is_numbered number) (cond b (g ∷ filter is_open rest) (filter is_open rest)) ≡ find (is_numbered number) (cond (is_open g) (g ∷ filter is_open rest) (filter is_open rest))
    after_if b e = ap (λ (t : Bool). find (is_numbered number) (cond t (g ∷ filter is_open rest) (filter is_open rest))) (sym e)

    at : (a b : Bool) → eqb g.number number ≡ a → is_open g ≡ b → find (is_numbered number) (cond (is_open g) (g ∷ filter is_open rest) (filter is_open rest)) ≡ None
        → (find (is_numbered number) (filter is_open rest) ≡ None → map (settled_as number standing) rest ≡ rest) → map (settled_as number standing) (g ∷ rest) ≡ g ∷ rest
    at true true e f n again = absurd
        (let d : Some g ≡ None = sym (ap (λ (t : Bool). cond t (Some g) (find (is_numbered number) (filter is_open rest))) e) ∙ after_if true f ∙ n in cc)
    at true false e f n again =
        ap (λ (x : Granting). x ∷ map (settled_as number standing) rest) (by_test number standing g (ap (λ (t : Bool). eqb g.number number && t) f ∙ ap (λ (t : Bool). t && false) e))
        ∙ ap (λ (xs : List Granting). g ∷ xs) (again (after_if false f ∙ n))
    at false true e f n again =
        ap (λ (x : Granting). x ∷ map (settled_as number standing) rest) (by_test number standing g (stays_and (eqb g.number number) (is_open g) e))
        ∙ ap (λ (xs : List Granting). g ∷ xs) (again (sym (ap (λ (t : Bool). cond t (Some g) (find (is_numbered number) (filter is_open rest))) e) ∙ after_if true f ∙ n))
    at false false e f n again =
        ap (λ (x : Granting). x ∷ map (settled_as number standing) rest) (by_test number standing g (stays_and (eqb g.number number) (is_open g) e))
        ∙ ap (λ (xs : List Granting). g ∷ xs) (again (after_if false f ∙ n))

-- ---- the open ones

others_if : (number : ℕ) (b : Bool) (g : Granting) (rest : List Granting)
    → filter (is_another number) (cond b (g ∷ rest) rest) ≡ cond b (cond (not (eqb g.number number)) (g ∷ filter (is_another number) rest) (filter (is_another number) rest)) (filter (is_another number) rest)
others_if number true g rest = refl
others_if number false g rest = refl

-- settling takes the grant off those that are open
pub settled_opens : (number : ℕ) (standing : Standing) → is_open_standing standing ≡ false → (grants : List Granting)
    → filter is_open (map (settled_as number standing) grants) ≡ filter (is_another number) (filter is_open grants)
settled_opens number standing shut [] = refl
settled_opens number standing shut (g ∷ grants) =
    by (eqb g.number number) (is_open g) refl (settled_opens number standing shut grants) ∙ sym (others_if number (is_open g) g (filter is_open grants))
  where
    by : (a b : Bool) → is_open g ≡ b → filter is_open (map (settled_as number standing) grants) ≡ filter (is_another number) (filter is_open grants)
        → filter is_open ((cond (a && b) (record g { standing = standing }) g) ∷ map (settled_as number standing) grants)
        ≡ cond b (cond (not a) (g ∷ filter (is_another number) (filter is_open grants)) (filter (is_another number) (filter is_open grants))) (filter (is_another number) (filter is_open grants))
    by true true e rest = ap (λ (t : Bool). cond t (record g { standing = standing } ∷ filter is_open (map (settled_as number standing) grants)) (filter is_open (map (settled_as number standing) grants))) shut ∙ rest
    by true false e rest = ap (λ (t : Bool). cond t (g ∷ filter is_open (map (settled_as number standing) grants)) (filter is_open (map (settled_as number standing) grants))) e ∙ rest
    by false true e rest =
        ap (λ (t : Bool). cond t (g ∷ filter is_open (map (settled_as number standing) grants)) (filter is_open (map (settled_as number standing) grants))) e ∙ ap (λ (gs : List Granting). g ∷ gs) rest
    by false false e rest = ap (λ (t : Bool). cond t (g ∷ filter is_open (map (settled_as number standing) grants)) (filter is_open (map (settled_as number standing) grants))) e ∙ rest

-- ---- the index

-- the entries with the place of the slot's grant, where it is bound
abbrev pub Notes : List ((ℕ × ℕ) × ℕ) → Standing → ℕ → ℕ → ℕ → List ((ℕ × ℕ) × ℕ) → Type 0
Notes old standing owner slot place new =
    (o s : ℕ) → place_of new o s ≡ cond (is_bound_standing standing && same_slot (owner, slot) (o, s)) (Some place) (place_of old o s)

bound_is : (standing : Standing) → is_bound_standing standing ≡ true → standing ≡ standings.Bound
bound_is standings.Open e = absurd (true≢false (sym e))
bound_is standings.Bound e = refl
bound_is (standings.Lost saw) e = absurd (true≢false (sym e))

get_map : {X : Type 0} (f : X → X) (xs : List X) (k : ℕ) (x : X) → slice_get xs k ≡ Some x → slice_get (map f xs) k ≡ Some (f x)
get_map {X} f [] k x e = absurd (let d : None ≡ Some x = e in cc)
get_map {X} f (y ∷ xs) zero x e = let same : y ≡ x = cc in ap (λ (z : X). Some (f z)) same
get_map f (y ∷ xs) (suc k) x e = get_map f xs k x e

is_settled : (number : ℕ) (standing : Standing) (g : Granting) → g.number ≡ number → is_open g ≡ true → settled_as number standing g ≡ record g { standing = standing }
is_settled number standing g is waits =
    ap (λ (t : Bool). cond (t && is_open g) (record g { standing = standing }) g) (eq-eqb g.number number is) ∙ ap (λ (t : Bool). cond t (record g { standing = standing }) g) waits

bound_shut : (g : Granting) → g.standing ≡ standings.Bound → is_open g ≡ false
bound_shut g e = ap is_open_standing e

and_false : (a : Bool) → (a && false) ≡ false
and_false true = refl
and_false false = refl

module _ (all pending : List Granting) (old new : List ((ℕ × ℕ) × ℕ)) (number : ℕ) (standing : Standing) (g : Granting) (indexed : IsIndexed all pending old) (place : IsPlaced all number g)
    (notes : Notes old standing g.owner g.slot (number - 1) new) where
  stood : (o s k : ℕ) → StandsAt all o s k → StandsAt (map (settled_as number standing) all) o s k
  stood o s k stands =
      let same : settled_as number standing stands.grant ≡ stands.grant =
      by_test number standing stands.grant (ap (λ (t : Bool). eqb stands.grant.number number && t) (bound_shut stands.grant stands.bound) ∙ and_false (eqb stands.grant.number number)) in
      record {
        grant = stands.grant;
        at = get_map (settled_as number standing) all k stands.grant stands.at ∙ ap (λ (h : Granting). Some h) same;
        of = stands.of;
        bound = stands.bound;
      }

  stand_now : (o s k : ℕ) → place_of new o s ≡ Some k → StandsAt (map (settled_as number standing) all) o s k
  stand_now o s k at = by (is_bound_standing standing && same_slot (g.owner, g.slot) (o, s)) refl (sym (notes o s) ∙ at)
    where
      by : (t : Bool) → (is_bound_standing standing && same_slot (g.owner, g.slot) (o, s)) ≡ t → cond t (Some (number - 1)) (place_of old o s) ≡ Some k → StandsAt (map (settled_as number standing) all) o s k
      by true e f =
          let parts = and_parts (is_bound_standing standing) (same_slot (g.owner, g.slot) (o, s)) e in
          let here : number - 1 ≡ k = cc in
          record {
            grant = record g { standing = standing };
            at = subst (λ n. slice_get (map (settled_as number standing) all) n ≡ Some (record g { standing = standing })) here
                (get_map (settled_as number standing) all (number - 1) g place.at ∙ ap (λ (h : Granting). Some h) (is_settled number standing g place.is place.waits));
            of = parts.1;
            bound = bound_is standing parts.0;
          }
      by false e f = stood o s k (indexed.stands o s k f)

  found_more : (o s : ℕ) → IsSome (place_of old o s) → IsSome (place_of new o s)
  found_more o s some = subst (λ (p : Option ℕ). IsSome p) (sym (notes o s)) (by (is_bound_standing standing && same_slot (g.owner, g.slot) (o, s)))
    where
      by : (t : Bool) → IsSome (cond t (Some (number - 1)) (place_of old o s))
      by true = refl
      by false = some

  -- the grant of the number is this one
  same_grant : (was : Granting) → Contains all was → was.number ≡ number → was ≡ g
  same_grant was inside is =
      let at = in_at all was inside in
      let numbered : was.number ≡ at.0 + 1 = indexed.numbered at.0 was at.1 in
      let here : at.0 ≡ number - 1 = omega (arith, numbered, is) in
      let both : Some was ≡ Some g = sym at.1 ∙ ap (slice_get all) here ∙ place.at in
      cc

  now_there : (was : Granting) → Contains all was → was.number ≡ number → standing ≡ standings.Bound → IsSome (place_of new was.owner was.slot)
  now_there was inside is bound =
      subst (λ (x : Granting). IsSome (place_of new x.owner x.slot)) (sym (same_grant was inside is))
      (subst (λ (p : Option ℕ). IsSome p) (sym (notes g.owner g.slot ∙ ap (λ (t : Bool). cond t (Some (number - 1)) (place_of old g.owner g.slot)) own)) refl)
    where
      own : (is_bound_standing standing && same_slot (g.owner, g.slot) (g.owner, g.slot)) ≡ true
      own = ap (λ (x : Standing). is_bound_standing x && same_slot (g.owner, g.slot) (g.owner, g.slot)) bound
          ∙ ap (λ (t : Bool). t && eqb g.slot g.slot) (eq-eqb g.owner g.owner refl) ∙ eq-eqb g.slot g.slot refl

  get_from : (gs : List Granting) (k : ℕ) (h : Granting) → slice_get (map (settled_as number standing) gs) k ≡ Some h → (x : Granting) × (slice_get gs k ≡ Some x) × (settled_as number standing x ≡ h)
  get_from [] k h e = absurd (let d : None ≡ Some h = e in cc)
  get_from (x ∷ gs) zero h e = (x, refl, let same : settled_as number standing x ≡ h = cc in same)
  get_from (x ∷ gs) (suc k) h e = get_from gs k h e

  number_kept : (x h : Granting) → settled_as number standing x ≡ h → h.number ≡ x.number
  number_kept x h e = ap (λ (y : Granting). y.number) (sym e) ∙ by (eqb x.number number && is_open x)
    where
      by : (t : Bool) → (cond t (record x { standing = standing }) x).number ≡ x.number
      by true = refl
      by false = refl

  found_of : (was h : Granting) → Contains all was → h.standing ≡ standings.Bound → (h.standing ≡ was.standing) ⊎ ((was.number ≡ number) × (is_open was ≡ true) × (h.standing ≡ standing))
      → IsSome (place_of new was.owner was.slot)
  found_of was h inside bound how = ⊎_elim
      (λ (same : h.standing ≡ was.standing). found_more was.owner was.slot (indexed.found was inside (sym same ∙ bound)))
      (λ (new : (was.number ≡ number) × (is_open was ≡ true) × (h.standing ≡ standing)). now_there was inside new.0 (sym new.2 ∙ bound))
      how

  pub indexed_settled : (left : List Granting) → left ≡ filter (is_another number) pending → is_open_standing standing ≡ false → IsIndexed (map (settled_as number standing) all) left new
  indexed_settled left is shut = record {
    numbered = λ k h at.
        let was = get_from all k h at in
        number_kept was.0 h was.2 ∙ indexed.numbered k was.0 was.1;
    pending_are = is ∙ ap (filter (is_another number)) indexed.pending_are ∙ sym (settled_opens number standing shut all);
    stands = stand_now;
    found = λ h inside bound.
        let was = was_settled number standing all h inside in
        subst₂ (λ o s. IsSome (place_of new o s)) was.2.owner was.2.slot (found_of was.0 h was.1 bound was.2.how);
  }

-- ---- one grant more

pub indexed_pushed : (all pending left : List Granting) (entries : List ((ℕ × ℕ) × ℕ)) (g : Granting) → IsIndexed all pending entries → g.number ≡ length all + 1 → g.standing ≡ standings.Open
    → left ≡ pending ++ g ∷ [] → IsIndexed (all ++ g ∷ []) left entries
indexed_pushed all pending left entries g indexed number waits is = record {
  numbered = λ k h at. ⊎_elim
      (λ (old : slice_get all k ≡ Some h). indexed.numbered k h old)
      (λ (new : (k ≡ length all) × (g ≡ h)). subst (λ (x : Granting). x.number ≡ k + 1) new.1 (number ∙ ap (λ n. n + 1) (sym new.0)))
      (get_push all g k h at);
  pending_are = is ∙ ap (λ (gs : List Granting). gs ++ g ∷ []) indexed.pending_are ∙ sym (filter-append is_open all (g ∷ [])
      ∙ ap (λ (t : Bool). filter is_open all ++ cond t (g ∷ []) []) (ap is_open_standing waits));
  stands = λ o s k at.
      let was = indexed.stands o s k at in
      record { grant = was.grant; at = get_front all (g ∷ []) k was.grant was.at; of = was.of; bound = was.bound };
  found = λ h inside bound. ⊎_elim
      (λ (old : Contains all h). indexed.found h old bound)
      (λ (new : g ≡ h). absurd (let d : standings.Open ≡ standings.Bound = sym waits ∙ ap (λ (x : Granting). x.standing) new ∙ bound in cc))
      (Contains-push_cases all g h inside);
}
  where
    get_front : (xs ys : List Granting) (k : ℕ) (x : Granting) → slice_get xs k ≡ Some x → slice_get (xs ++ ys) k ≡ Some x
    get_front [] ys k x e = absurd (let d : None ≡ Some x = e in cc)
    get_front (z ∷ xs) ys zero x e = e
    get_front (z ∷ xs) ys (suc k) x e = get_front xs ys k x e

-- ---- a slot that no entry has

pub none_bound : (all pending : List Granting) (entries : List ((ℕ × ℕ) × ℕ)) (owner slot : ℕ) → IsIndexed all pending entries → place_of entries owner slot ≡ None → HasNoBound all owner slot
none_bound all pending entries owner slot indexed none g inside of bound =
    let parts = and_parts (eqb g.owner owner) (eqb g.slot slot) of in
    let same : place_of entries g.owner g.slot ≡ place_of entries owner slot = ap (λ o. place_of entries o g.slot) (eqb-true g.owner owner parts.0) ∙ ap (λ s. place_of entries owner s) (eqb-true g.slot slot parts.1) in
    absurd (subst (λ (p : Option ℕ). IsSome p → ⊥) (sym (same ∙ none)) (λ some. true≢false (sym some)) (indexed.found g inside bound))

-- ---- the vector with the settled grant

pub settled_so : (all : Vec Granting) (new was pending : List Granting) (entries : List ((ℕ × ℕ) × ℕ)) (number place : ℕ) (standing : Standing) (g : Granting) → IsIndexed all.items pending entries
    → IsPlaced all.items number g → place ≡ number → was ≡ all.items
    → ((h : Granting) → slice_get was (place - 1) ≡ Some h → new ≡ slice_set was (place - 1) (record h { standing = standing }))
    → take all.len (new ++ drop (length new) all.items) ≡ map (settled_as number standing) all.items
settled_so all new was pending entries number place standing g indexed at same lent so =
    let there : slice_get was (place - 1) ≡ Some g = ap (λ (gs : List Granting). slice_get gs (place - 1)) lent ∙ ap (λ n. slice_get all.items (n - 1)) same ∙ at.at in
    let is : new ≡ slice_set all.items (number - 1) (record g { standing = standing }) =
    so g there ∙ ap (λ (gs : List Granting). slice_set gs (place - 1) (record g { standing = standing })) lent ∙ ap (λ n. slice_set all.items (n - 1) (record g { standing = standing })) same in
    let after : new ≡ map (settled_as number standing) all.items = is ∙ settled_there all.items pending entries number standing g indexed at in
    let long : length new ≡ all.len = ap (λ (gs : List Granting). length gs) after ∙ length-map all.items (settled_as number standing) ∙ sym all.ok.0 in
    with_items_is all new long ∙ after
