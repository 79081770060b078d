-- The grants that took their slots stay so through an event: a bound one had won.
use Rattle.std.proofs.Common.{◌≡◌, ◌≢◌, ◌⊎◌, inl, inr, ℕ, ◌+◌, ◌<◌, Bool, true, false, not, ◌&&◌, eqb, List, [], ◌∷◌, ◌++◌, map, length, refl, sym, ap, subst, ◌∙◌, arith}
use Rattle.std.specs.Prelude.{if◌then◌else◌}
use Rattle.std.specs.List.{Contains, filter}
use Rattle.std.proofs.lemmas.Bool.{and_from, and_parts, eq-eqb, eqb-true, true≢false}
use Rattle.std.proofs.lemmas.Option.{slice_get_within}
use Rattle.std.proofs.lemmas.List.Elements.{Contains-append_left, Contains-push_cases}
use Rattle.history_event.specs.declared.event.CloseAnswer.TheVariants as closes
use Rattle.history_event.specs.declared.event.Event.{Event}
use Rattle.history_event.specs.declared.event.Event.TheVariants as events
use Rattle.history_event.specs.declared.event.OpenAnswer.TheVariants as opens
use Rattle.history_event.specs.declared.event.SymAnswer.TheVariants as syms
use Rattle.history_event.specs.declared.state.Granting.{Granting}
use Rattle.history_event.specs.declared.state.Standing.{Standing}
use Rattle.history_event.specs.declared.state.Standing.TheVariants as standings
use Rattle.history_state.specs.State.{State}
use Rattle.history_state.specs.Allowed.{AllowedIn}
use Rattle.history_state.specs.Grants.{is_open}
use Rattle.history_state.specs.Setting.{Setting}
use Rattle.history_state.specs.Step.{die, initialise, loaded, lower, settled_as, step, unmap}
use Rattle.history_state.specs.Lemmas.Lists.{from_filter, from_map, in_filter, in_map}
use Rattle.history_state.specs.Lemmas.Tidy.{Tidy, in_at}
use Rattle.history_memory.specs.Holds.{Took}
use Rattle.history_memory.specs.Remade.{SettlesRightly, won_after}
use Rattle.history_state.specs.Lemmas.Standing.{is_open_of, open_is}

-- the same grant, whatever became of it
pub record IsSameGrant (g h : Granting) : Type 0 where
  pub number : h.number ≡ g.number
  pub owner : h.owner ≡ g.owner
  pub slot : h.slot ≡ g.slot
  pub value : h.value ≡ g.value

abbrev pub TookAlike : List Granting → List ℕ → Granting → Type 0
TookAlike grants won g = (h : Granting) × Contains grants h × Took won h × IsSameGrant g h

-- the same grants took their slots, and those that have won and aren't settled are open
pub record Taking (won more : List ℕ) (old new : List Granting) : Type 0 where
  pub forth : (g : Granting) → Contains old g → Took won g → TookAlike new more g
  pub back : (h : Granting) → Contains new h → Took more h → TookAlike old won h
  pub unsettled : (n : ℕ) → Contains more n → (g : Granting) × Contains new g × (g.number ≡ n) × (g.standing ≡ standings.Open)

abbrev pub AreOpen : List ℕ → List Granting → Type 0
AreOpen won grants = (n : ℕ) → Contains won n → (g : Granting) × Contains grants g × (g.number ≡ n) × (g.standing ≡ standings.Open)

itself : (g : Granting) → IsSameGrant g g
itself g = record { number = refl; owner = refl; slot = refl; value = refl }

taking_same : (won : List ℕ) (grants : List Granting) → AreOpen won grants → Taking won won grants grants
taking_same won grants open_yet = record { forth = λ g there took. (g, there, took, itself g); back = λ g there took. (g, there, took, itself g); unsettled = open_yet }

-- a new grant hasn't won
taking_more : (won : List ℕ) (grants : List Granting) (new : Granting) → Tidy grants → AreOpen won grants → new.number ≡ length grants + 1 → new.standing ≡ standings.Open
    → Taking won won grants (grants ++ new ∷ [])
taking_more won grants new tidy open_yet number standing = record {
  forth = λ g there took. (g, Contains-append_left grants (new ∷ []) g there, took, itself g);
  back = λ h there took. back h took (Contains-push_cases grants new h there);
  unsettled = λ n h. let g = open_yet n h in (g.0, Contains-append_left grants (new ∷ []) g.0 g.1, g.2, g.3);
}
  where
    unwon : Contains won new.number → ⊥
    unwon h =
        let g = open_yet new.number h in
        let at = in_at grants g.0 g.1 in
        let few : at.0 < length grants = slice_get_within grants at.0 g.0 at.1 in
        let is : g.0.number ≡ at.0 + 1 = tidy.numbered at.0 g.0 at.1 in
        let same : g.0.number ≡ new.number = g.2 in
        let next : new.number ≡ length grants + 1 = number in
        omega (arith, few, is, same, next)

    back : (h : Granting) → Took won h → Contains grants h ⊎ (new ≡ h) → TookAlike grants won h
    back h took (inl old) = (h, old, took, itself h)
    back h (inl bound) (inr e) = absurd (let no : standings.Bound ≡ standings.Open = sym bound ∙ ap (λ (q : Granting). q.standing) (sym e) ∙ standing in cc)
    back h (inr won_it) (inr e) = absurd (unwon (subst (λ (q : Granting). Contains won q.number) (sym e) won_it.1))

-- ---- a settled grant

-- what became of a grant: it was settled, or it stays as it was
data Became (number : ℕ) (standing : Standing) (g q : Granting) : Type 0 where
  settled : g.number ≡ number → g.standing ≡ standings.Open → IsSameGrant g q → q.standing ≡ standing → Became number standing g q
  stayed : (g.standing ≡ standings.Open → g.number ≢ number) → q ≡ g → Became number standing g q

became : (number : ℕ) (standing : Standing) (g : Granting) → Became number standing g (settled_as number standing g)
became number standing g = at (eqb g.number number && is_open g) refl
  where
    at : (t : Bool) → (eqb g.number number && is_open g) ≡ t → Became number standing g (if t then record g { standing = standing } else g)
    at true e =
        let parts = and_parts (eqb g.number number) (is_open g) e in
        settled (eqb-true g.number number parts.0) (open_is g.standing parts.1) (record { number = refl; owner = refl; slot = refl; value = refl }) refl
    at false e = stayed (λ on is. true≢false (sym (and_from (eqb g.number number) (is_open g) (eq-eqb g.number number is) (is_open_of g.standing on)) ∙ e)) refl

module _ (won : List ℕ) (grants : List Granting) (open_yet : AreOpen won grants) (number : ℕ) where
  abbrev others : List ℕ
  others = filter (λ n. not (eqb n number)) won

  in_others : (n : ℕ) → Contains won n → n ≢ number → Contains others n
  in_others n h differs = in_filter (λ n. not (eqb n number)) won n h (at (eqb n number) refl)
    where
      at : (t : Bool) → eqb n number ≡ t → not (eqb n number) ≡ true
      at true e = absurd (differs (eqb-true n number e))
      at false e = ap not e

  not_others : (n : ℕ) → Contains others n → Contains won n × (n ≢ number)
  not_others n h =
      let from = from_filter (λ n. not (eqb n number)) won n h in
      (from.0, λ is. true≢false (sym from.1 ∙ ap not (eq-eqb n number is)))

  -- a grant that won is bound
  taking_bound : Contains won number → Taking won others grants (map (settled_as number standings.Bound) grants)
  taking_bound won_it = record {
    forth = λ g there took. let at = forth g took (became number standings.Bound g) in (settled_as number standings.Bound g, in_map (settled_as number standings.Bound) grants g there, at.0, at.1);
    back = λ h there took. let from = from_map (settled_as number standings.Bound) grants h there in back h took from.0 from.1 from.2 (became number standings.Bound from.0);
    unsettled = λ n h.
        let out = not_others n h in
        let g = open_yet n out.0 in
        let at = still n out.1 g.0 g.2 g.3 (became number standings.Bound g.0) in
        (settled_as number standings.Bound g.0, in_map (settled_as number standings.Bound) grants g.0 g.1, at.0, at.1);
  }
    where
      forth : (g : Granting) → Took won g → Became number standings.Bound g (settled_as number standings.Bound g) → Took others (settled_as number standings.Bound g) × IsSameGrant g (settled_as number standings.Bound g)
      forth g took (settled is on same now) = (inl now, same)
      forth g (inl bound) (stayed differs is) = (inl (ap (λ (q : Granting). q.standing) is ∙ bound), subst (IsSameGrant g) (sym is) (itself g))
      forth g (inr both) (stayed differs is) = (subst (Took others) (sym is) (inr (both.0, in_others g.number both.1 (differs both.0))), subst (IsSameGrant g) (sym is) (itself g))

      turned : (g h : Granting) → IsSameGrant g h → IsSameGrant h g
      turned g h same = record { number = sym same.number; owner = sym same.owner; slot = sym same.slot; value = sym same.value }

      back : (h : Granting) → Took others h → (g : Granting) → Contains grants g → settled_as number standings.Bound g ≡ h → Became number standings.Bound g (settled_as number standings.Bound g) → TookAlike grants won h
      back h took g there e (settled is on same now) = (g, there, inr (on, subst (Contains won) (sym is) won_it), turned g h (subst (IsSameGrant g) e same))
      back h (inl bound) g there e (stayed differs is) =
          let same : h ≡ g = sym e ∙ is in
          (g, there, inl (sym (ap (λ (q : Granting). q.standing) same) ∙ bound), subst (IsSameGrant h) same (itself h))
      back h (inr both) g there e (stayed differs is) =
          let same : h ≡ g = sym e ∙ is in
          (g, there, subst (Took won) same (inr (both.0, (not_others h.number both.1).0)), subst (IsSameGrant h) same (itself h))

      still : (n : ℕ) → n ≢ number → (g : Granting) → g.number ≡ n → g.standing ≡ standings.Open → Became number standings.Bound g (settled_as number standings.Bound g)
          → ((settled_as number standings.Bound g).number ≡ n) × ((settled_as number standings.Bound g).standing ≡ standings.Open)
      still n differs g is on (settled at was same now) = absurd (differs (sym is ∙ at))
      still n differs g is on (stayed out e) = (ap (λ (q : Granting). q.number) e ∙ is, ap (λ (q : Granting). q.standing) e ∙ on)

  -- a grant that is lost didn't win
  taking_lost : (Contains won number → ⊥) → (saw : ℕ) → Taking won won grants (map (settled_as number (standings.Lost saw)) grants)
  taking_lost unwon saw = record {
    forth = λ g there took. let at = stays g took (became number (standings.Lost saw) g) in
        (settled_as number (standings.Lost saw) g, in_map (settled_as number (standings.Lost saw)) grants g there, subst (Took won) (sym at) took, subst (IsSameGrant g) (sym at) (itself g));
    back = λ h there took. let from = from_map (settled_as number (standings.Lost saw)) grants h there in back h took from.0 from.1 from.2 (became number (standings.Lost saw) from.0);
    unsettled = λ n h.
        let g = open_yet n h in
        let at = stays g.0 (inr (g.3, subst (Contains won) (sym g.2) h)) (became number (standings.Lost saw) g.0) in
        (settled_as number (standings.Lost saw) g.0, in_map (settled_as number (standings.Lost saw)) grants g.0 g.1, ap (λ (q : Granting). q.number) at ∙ g.2, ap (λ (q : Granting). q.standing) at ∙ g.3);
  }
    where
      stays : (g : Granting) → Took won g → Became number (standings.Lost saw) g (settled_as number (standings.Lost saw) g) → settled_as number (standings.Lost saw) g ≡ g
      stays g took (stayed differs is) = is
      stays g (inl bound) (settled is on same now) = absurd (let no : standings.Bound ≡ standings.Open = sym bound ∙ on in cc)
      stays g (inr both) (settled is on same now) = absurd (unwon (subst (Contains won) is both.1))

      back : (h : Granting) → Took won h → (g : Granting) → Contains grants g → settled_as number (standings.Lost saw) g ≡ h → Became number (standings.Lost saw) g (settled_as number (standings.Lost saw) g) → TookAlike grants won h
      back h took g there e (stayed differs is) =
          let same : h ≡ g = sym e ∙ is in
          (g, there, subst (Took won) same took, subst (IsSameGrant h) same (itself h))
      back h (inl bound) g there e (settled is on same now) =
          absurd (let no : standings.Bound ≡ standings.Lost saw = sym bound ∙ ap (λ (q : Granting). q.standing) (sym e) ∙ now in cc)
      back h (inr both) g there e (settled is on same now) =
          absurd (let no : standings.Open ≡ standings.Lost saw = sym both.0 ∙ ap (λ (q : Granting). q.standing) (sym e) ∙ now in cc)

-- ---- events

pub taking_after : (w : Setting) (past : List Event) (s : State) → Tidy s.grants → (won : List ℕ) → AreOpen won s.grants → (e : Event) → AllowedIn w past s e → SettlesRightly won e
    → Taking won (won_after e won) s.grants (step s e).grants
unfolding loaded die lower unmap initialise
taking_after w past s tidy won open_yet (events.Open hart ask (opens.Done id root added ranges)) may rightly = taking_same won s.grants open_yet
taking_after w past s tidy won open_yet (events.Open hart ask opens.Absent) may rightly = taking_same won s.grants open_yet
taking_after w past s tidy won open_yet (events.Open hart ask (opens.Refused fault)) may rightly = taking_same won s.grants open_yet
taking_after w past s tidy won open_yet (events.Close hart handle (closes.Done set)) may rightly = taking_same won s.grants open_yet
taking_after w past s tidy won open_yet (events.Close hart handle (closes.Refused fault)) may rightly = taking_same won s.grants open_yet
taking_after w past s tidy won open_yet (events.Unmapped hart set) may rightly = taking_same won s.grants open_yet
taking_after w past s tidy won open_yet (events.Grant number hart owner slot choice value) may rightly =
    taking_more won s.grants (record { number = number; hart = hart; owner = owner; slot = slot; choice = choice; value = value; standing = standings.Open }) tidy open_yet may.numbered refl
taking_after w past s tidy won open_yet (events.Bound number) may rightly = taking_bound won s.grants open_yet number rightly
taking_after w past s tidy won open_yet (events.Lost number saw) may rightly = taking_lost won s.grants open_yet number rightly saw
taking_after w past s tidy won open_yet (events.Unresolved hart owner slot choice) may rightly = taking_same won s.grants open_yet
taking_after w past s tidy won open_yet (events.Sym hart ask (syms.Found serial index value)) may rightly = taking_same won s.grants open_yet
taking_after w past s tidy won open_yet (events.Sym hart ask (syms.Refused fault)) may rightly = taking_same won s.grants open_yet
taking_after w past s tidy won open_yet (events.Tls hart owner address) may rightly = taking_same won s.grants open_yet
taking_after w past s tidy won open_yet (events.Init hart object) may rightly = taking_same won s.grants open_yet
taking_after w past s tidy won open_yet (events.Fini hart object) may rightly = taking_same won s.grants open_yet
taking_after w past s tidy won open_yet (events.Wrote hart bytes) may rightly = taking_same won s.grants open_yet
taking_after w past s tidy won open_yet (events.Told hart fault) may rightly = taking_same won s.grants open_yet
taking_after w past s tidy won open_yet (events.Ended hart reason) may rightly = taking_same won s.grants open_yet
