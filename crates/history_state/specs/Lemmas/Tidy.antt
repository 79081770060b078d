-- Grants have the numbers from 1 on, and of a slot at most one is bound.
use Rattle.std.proofs.Common.{◌≡◌, ◌≢◌, ◌⊎◌, inl, inr, ⊎_elim, ℕ, zero, suc, ◌+◌, Bool, true, false, ◌&&◌, eqb, List, [], ◌∷◌, ◌++◌, map, length, Some, None, refl, sym, ap, subst, ◌∙◌, arith}
use Rattle.std.specs.Prelude.{if◌then◌else◌}
use Rattle.std.specs.List.{Contains, slice_get}
use Rattle.std.proofs.lemmas.Bool.{and_from, and_parts, eq-eqb, eqb-true}
use Rattle.std.proofs.lemmas.List.Elements.{Contains-push_cases}
use Rattle.history_event.specs.declared.event.CloseAnswer.{CloseAnswer}
use Rattle.history_event.specs.declared.event.CloseAnswer.TheVariants as closes
use Rattle.history_event.specs.declared.event.Event.{Event}
use Rattle.history_event.specs.declared.event.Event.TheVariants as events
use Rattle.history_event.specs.declared.event.OpenAnswer.{OpenAnswer}
use Rattle.history_event.specs.declared.event.OpenAnswer.TheVariants as opens
use Rattle.history_event.specs.declared.event.OpenAsk.{OpenAsk}
use Rattle.history_event.specs.declared.event.SymAnswer.{SymAnswer}
use Rattle.history_event.specs.declared.event.SymAnswer.TheVariants as syms
use Rattle.history_event.specs.declared.event.SymAsk.{SymAsk}
use Rattle.history_event.specs.declared.state.Granting.{Granting}
use Rattle.history_event.specs.declared.state.Standing.{Standing}
use Rattle.history_event.specs.declared.state.Standing.TheVariants as standings
use Rattle.history_state.specs.State.{State}
use Rattle.history_state.specs.After.{after}
use Rattle.history_state.specs.Allowed.{AllowedIn}
use Rattle.history_state.specs.Grants.{is_open}
use Rattle.history_state.specs.Legal.{Lawful}
use Rattle.history_state.specs.Setting.{Machine, Setting}
use Rattle.history_state.specs.Slots.{MayBind}
use Rattle.history_state.specs.Step.{die, initialise, loaded, lower, settled_as, step, unmap}
use Rattle.history_state.specs.Lemmas.History.{by_lawful}
use Rattle.history_state.specs.Lemmas.Lists.{first_or_later, from_map, none_in}

-- ---- places

pub in_at : {X : Type 0} (xs : List X) (x : X) → Contains xs x → (k : ℕ) × (slice_get xs k ≡ Some x)
in_at [] x h = absurd (none_in x h)
in_at {X} (y ∷ xs) x h = ⊎_elim
    (λ (e : y ≡ x). (0, ap (λ (z : X). Some z) e))
    (λ (i : Contains xs x). let at = in_at xs x i in (suc at.0, at.1))
    (first_or_later y xs x h)

get_map : {X : Type 0} (f : X → X) (xs : List X) (k : ℕ) (y : X) → slice_get (map f xs) k ≡ Some y → (x : X) × (slice_get xs k ≡ Some x) × (f x ≡ y)
get_map {X} f [] k y e = absurd (let d : None ≡ Some y = e in cc)
get_map {X} f (x ∷ xs) zero y e = let same : f x ≡ y = cc in (x, refl, same)
get_map f (x ∷ xs) (suc k) y e = get_map f xs k y e

pub get_push : {X : Type 0} (xs : List X) (y : X) (k : ℕ) (x : X) → slice_get (xs ++ y ∷ []) k ≡ Some x → (slice_get xs k ≡ Some x) ⊎ ((k ≡ length xs) × (y ≡ x))
get_push {X} [] y zero x e = let same : y ≡ x = cc in inr (refl, same)
get_push {X} [] y (suc k) x e = absurd (let d : None ≡ Some x = e in cc)
get_push (z ∷ xs) y zero x e = inl e
get_push {X} (z ∷ xs) y (suc k) x e = ⊎_elim
    (λ (h : slice_get xs k ≡ Some x). inl h)
    (λ (h : (k ≡ length xs) × (y ≡ x)). inr (ap suc h.0, h.1))
    (get_push xs y k x e)

-- ---- the invariant

pub record Tidy (grants : List Granting) : Type 0 where
  pub numbered : (k : ℕ) (g : Granting) → slice_get grants k ≡ Some g → g.number ≡ k + 1
  pub one_bound : (g h : Granting) → Contains grants g → Contains grants h → g.standing ≡ standings.Bound → h.standing ≡ standings.Bound
      → g.owner ≡ h.owner → g.slot ≡ h.slot → g.number ≡ h.number
  pub one_open : (g h : Granting) → Contains grants g → Contains grants h → g.standing ≡ standings.Open → h.standing ≡ standings.Open → g.hart ≡ h.hart → g.number ≡ h.number

-- a number is one grant's
pub one_number : (grants : List Granting) → Tidy grants → (g h : Granting) → Contains grants g → Contains grants h → g.number ≡ h.number → g ≡ h
one_number grants tidy g h first second same =
    let a = in_at grants g first in
    let b = in_at grants h second in
    let ka : g.number ≡ a.0 + 1 = tidy.numbered a.0 g a.1 in
    let kb : h.number ≡ b.0 + 1 = tidy.numbered b.0 h b.1 in
    let k : a.0 ≡ b.0 = places a.0 b.0 g.number h.number ka kb same in
    let there : slice_get grants b.0 ≡ Some g = subst (λ (n : ℕ). slice_get grants n ≡ Some g) k a.1 in
    let both : Some g ≡ Some h = sym there ∙ b.1 in
    cc
  where
    places : (x y m n : ℕ) → m ≡ x + 1 → n ≡ y + 1 → m ≡ n → x ≡ y
    places x y m n p q e = omega (arith, p, q, e)

-- ---- a new grant, and a settled one

tidy_push : (grants : List Granting) (g : Granting) → Tidy grants → g.number ≡ length grants + 1 → g.standing ≡ standings.Open
    → ((h : Granting) → Contains grants h → h.standing ≡ standings.Open → h.hart ≢ g.hart) → Tidy (grants ++ g ∷ [])
tidy_push grants g tidy number posted free = record {
  numbered = λ k h at. ⊎_elim
      (λ (old : slice_get grants k ≡ Some h). tidy.numbered k h old)
      (λ (new : (k ≡ length grants) × (g ≡ h)). subst (λ (q : Granting). q.number ≡ k + 1) new.1 (number ∙ ap (λ (n : ℕ). n + 1) (sym new.0)))
      (get_push grants g k h at);
  one_bound = λ a b first second bound bound' owner slot. ⊎_elim
      (λ (old : Contains grants a). ⊎_elim
      (λ (old' : Contains grants b). tidy.one_bound a b old old' bound bound' owner slot)
      (λ (e : g ≡ b). absurd (unbound b e bound'))
      (Contains-push_cases grants g b second))
      (λ (e : g ≡ a). absurd (unbound a e bound))
      (Contains-push_cases grants g a first);
  one_open = λ a b first second on on' hart. ⊎_elim
      (λ (old : Contains grants a). ⊎_elim
      (λ (old' : Contains grants b). tidy.one_open a b old old' on on' hart)
      (λ (e : g ≡ b). absurd (free a old on (hart ∙ sym (ap (λ (q : Granting). q.hart) e))))
      (Contains-push_cases grants g b second))
      (λ (e : g ≡ a). ⊎_elim
      (λ (old' : Contains grants b). absurd (free b old' on' (sym hart ∙ sym (ap (λ (q : Granting). q.hart) e))))
      (λ (e' : g ≡ b). ap (λ (q : Granting). q.number) (sym e ∙ e'))
      (Contains-push_cases grants g b second))
      (Contains-push_cases grants g a first);
}
  where
    unbound : (h : Granting) → g ≡ h → h.standing ≡ standings.Bound → ⊥
    unbound h e bound =
        let both : standings.Open ≡ standings.Bound = sym posted ∙ ap (λ (q : Granting). q.standing) e ∙ bound in cc

-- what a settled grant was
pub record Settled (number : ℕ) (standing : Standing) (g q : Granting) : Type 0 where
  pub number_is : g.number ≡ q.number
  pub hart : g.hart ≡ q.hart
  pub owner : g.owner ≡ q.owner
  pub slot : g.slot ≡ q.slot
  pub how : (q.standing ≡ g.standing) ⊎ ((g.number ≡ number) × (is_open g ≡ true) × (q.standing ≡ standing))

settled_by : (number : ℕ) (standing : Standing) (g : Granting) (t : Bool) → (eqb g.number number && is_open g) ≡ t → Settled number standing g (if t then record g { standing = standing } else g)
settled_by number standing g true e =
    let parts = and_parts (eqb g.number number) (is_open g) e in
    record { number_is = refl; hart = refl; owner = refl; slot = refl; how = inr (eqb-true g.number number parts.0, parts.1, refl) }
settled_by number standing g false e = record { number_is = refl; hart = refl; owner = refl; slot = refl; how = inl refl }

pub was_settled : (number : ℕ) (standing : Standing) (grants : List Granting) (q : Granting) → Contains (map (settled_as number standing) grants) q
    → (g : Granting) × Contains grants g × Settled number standing g q
was_settled number standing grants q h =
    let at = from_map (settled_as number standing) grants q h in
    (at.0, at.1, subst (Settled number standing at.0) at.2 (settled_by number standing at.0 (eqb at.0.number number && is_open at.0) refl))

settled_numbered : (number : ℕ) (standing : Standing) (grants : List Granting) → Tidy grants → (k : ℕ) (q : Granting) → slice_get (map (settled_as number standing) grants) k ≡ Some q → q.number ≡ k + 1
settled_numbered number standing grants tidy k q at =
    let was = get_map (settled_as number standing) grants k q at in
    let same : Settled number standing was.0 q = subst (Settled number standing was.0) was.2 (settled_by number standing was.0 (eqb was.0.number number && is_open was.0) refl) in
    sym same.number_is ∙ tidy.numbered k was.0 was.1

-- a settled grant that is open was open
open_before : (number : ℕ) (standing : Standing) → standing ≢ standings.Open → (grants : List Granting) → Tidy grants → (a b : Granting) → Contains (map (settled_as number standing) grants) a → Contains (map (settled_as number standing) grants) b
    → a.standing ≡ standings.Open → b.standing ≡ standings.Open → a.hart ≡ b.hart → a.number ≡ b.number
open_before number standing shut grants tidy a b first second on on' hart =
    let x = was_settled number standing grants a first in
    let y = was_settled number standing grants b second in
    sym x.2.number_is ∙ tidy.one_open x.0 y.0 x.1 y.1 (before x.0 a x.2 on) (before y.0 b y.2 on') (x.2.hart ∙ hart ∙ sym y.2.hart) ∙ y.2.number_is
  where
    before : (g q : Granting) → Settled number standing g q → q.standing ≡ standings.Open → g.standing ≡ standings.Open
    before g q settled e = ⊎_elim
        (λ (same : q.standing ≡ g.standing). sym same ∙ e)
        (λ (h : (g.number ≡ number) × (is_open g ≡ true) × (q.standing ≡ standing)). absurd (shut (sym h.2 ∙ e)))
        settled.how

tidy_lost : (number saw : ℕ) (grants : List Granting) → Tidy grants → Tidy (map (settled_as number (standings.Lost saw)) grants)
tidy_lost number saw grants tidy = record {
  numbered = settled_numbered number (standings.Lost saw) grants tidy;
  one_bound = λ a b first second bound bound' owner slot.
      let x = was_settled number (standings.Lost saw) grants a first in
      let y = was_settled number (standings.Lost saw) grants b second in
      sym x.2.number_is ∙ tidy.one_bound x.0 y.0 x.1 y.1 (bound_before x.0 a x.2 bound) (bound_before y.0 b y.2 bound') (x.2.owner ∙ owner ∙ sym y.2.owner) (x.2.slot ∙ slot ∙ sym y.2.slot) ∙ y.2.number_is;
  one_open = open_before number (standings.Lost saw) (λ (e : standings.Lost saw ≡ standings.Open). cc) grants tidy;
}
  where
    bound_before : (g q : Granting) → Settled number (standings.Lost saw) g q → q.standing ≡ standings.Bound → g.standing ≡ standings.Bound
    bound_before g q settled bound = ⊎_elim
        (λ (same : q.standing ≡ g.standing). sym same ∙ bound)
        (λ (h : (g.number ≡ number) × (is_open g ≡ true) × (q.standing ≡ standings.Lost saw)). absurd (let d : standings.Lost saw ≡ standings.Bound = sym h.2 ∙ bound in cc))
        settled.how

tidy_bound : (s : State) (number : ℕ) → MayBind s number → Tidy s.grants → Tidy (map (settled_as number standings.Bound) s.grants)
tidy_bound s number may tidy = record {
  numbered = settled_numbered number standings.Bound s.grants tidy;
  one_bound = λ a b first second bound bound' owner slot.
      let x = was_settled number standings.Bound s.grants a first in
      let y = was_settled number standings.Bound s.grants b second in
      sym x.2.number_is ∙ old x.0 a y.0 b x.1 y.1 x.2 y.2 bound bound' (x.2.owner ∙ owner ∙ sym y.2.owner) (x.2.slot ∙ slot ∙ sym y.2.slot) ∙ y.2.number_is;
  one_open = open_before number standings.Bound (λ (e : standings.Bound ≡ standings.Open). cc) s.grants tidy;
}
  where
    -- no grant of the slot of the one that is bound now was bound
    none_before : (g h : Granting) → Contains s.grants g → Contains s.grants h → g.number ≡ number → h.standing ≡ standings.Bound → g.owner ≡ h.owner → g.slot ≡ h.slot → ⊥
    none_before g h first second is bound owner slot =
        let same : g ≡ may.grant = one_number s.grants tidy g may.grant first may.is.there (is ∙ sym may.is.numbered) in
        may.first (record {
          grant = h;
          there = second;
          of = and_from (eqb h.owner may.grant.owner) (eqb h.slot may.grant.slot)
              (eq-eqb h.owner may.grant.owner (sym owner ∙ ap (λ (q : Granting). q.owner) same))
              (eq-eqb h.slot may.grant.slot (sym slot ∙ ap (λ (q : Granting). q.slot) same));
          bound = bound;
        })

    old : (g a h b : Granting) → Contains s.grants g → Contains s.grants h → Settled number standings.Bound g a → Settled number standings.Bound h b
        → a.standing ≡ standings.Bound → b.standing ≡ standings.Bound → g.owner ≡ h.owner → g.slot ≡ h.slot → g.number ≡ h.number
    old g a h b first second x y bound bound' owner slot = ⊎_elim
        (λ (same : a.standing ≡ g.standing). ⊎_elim
        (λ (same' : b.standing ≡ h.standing). tidy.one_bound g h first second (sym same ∙ bound) (sym same' ∙ bound') owner slot)
        (λ (now : (h.number ≡ number) × (is_open h ≡ true) × (b.standing ≡ standings.Bound)). absurd (none_before h g second first now.0 (sym same ∙ bound) (sym owner) (sym slot)))
        y.how)
        (λ (now : (g.number ≡ number) × (is_open g ≡ true) × (a.standing ≡ standings.Bound)). ⊎_elim
        (λ (same' : b.standing ≡ h.standing). absurd (none_before g h first second now.0 (sym same' ∙ bound') owner slot))
        (λ (now' : (h.number ≡ number) × (is_open h ≡ true) × (b.standing ≡ standings.Bound)). now.0 ∙ sym now'.0)
        y.how)
        x.how

-- ---- each event

open_tidy : (s : State) (hart : ℕ) (ask : OpenAsk) (answer : OpenAnswer) → Tidy s.grants → Tidy (step s (events.Open hart ask answer)).grants
unfolding loaded
open_tidy s hart ask (opens.Done id root added ranges) tidy = tidy
open_tidy s hart ask opens.Absent tidy = tidy
open_tidy s hart ask (opens.Refused fault) tidy = tidy

close_tidy : (s : State) (hart handle : ℕ) (answer : CloseAnswer) → Tidy s.grants → Tidy (step s (events.Close hart handle answer)).grants
unfolding die lower
close_tidy s hart handle (closes.Done set) tidy = tidy
close_tidy s hart handle (closes.Refused fault) tidy = tidy

sym_tidy : (s : State) (hart : ℕ) (ask : SymAsk) (answer : SymAnswer) → Tidy s.grants → Tidy (step s (events.Sym hart ask answer)).grants
sym_tidy s hart ask (syms.Found serial index value) tidy = tidy
sym_tidy s hart ask (syms.Refused fault) tidy = tidy

tidy_step : (w : Setting) (past : List Event) (s : State) (e : Event) → AllowedIn w past s e → Tidy s.grants → Tidy (step s e).grants
unfolding unmap initialise
tidy_step w past s (events.Open hart ask answer) may tidy = open_tidy s hart ask answer tidy
tidy_step w past s (events.Close hart handle answer) may tidy = close_tidy s hart handle answer tidy
tidy_step w past s (events.Unmapped hart set) may tidy = tidy
tidy_step w past s (events.Grant number hart owner slot choice value) may tidy =
    tidy_push s.grants (record { number = number; hart = hart; owner = owner; slot = slot; choice = choice; value = value; standing = standings.Open }) tidy may.numbered refl may.free
tidy_step w past s (events.Bound number) may tidy = tidy_bound s number may tidy
tidy_step w past s (events.Lost number saw) may tidy = tidy_lost number saw s.grants tidy
tidy_step w past s (events.Unresolved hart owner slot choice) may tidy = tidy
tidy_step w past s (events.Sym hart ask answer) may tidy = sym_tidy s hart ask answer tidy
tidy_step w past s (events.Tls hart owner address) may tidy = tidy
tidy_step w past s (events.Init hart object) may tidy = tidy
tidy_step w past s (events.Fini hart object) may tidy = tidy
tidy_step w past s (events.Wrote hart bytes) may tidy = tidy
tidy_step w past s (events.Told hart fault) may tidy = tidy
tidy_step w past s (events.Ended hart reason) may tidy = tidy

pub tidy_after : (m : Machine) (journal : List Event) → Lawful m journal → Tidy (after journal).grants
tidy_after m journal lawful =
    by_lawful m (λ s. Tidy s.grants)
    (record { numbered = λ k g at. absurd (let d : None ≡ Some g = at in cc); one_bound = λ g h first. absurd (none_in g first); one_open = λ g h first. absurd (none_in g first) })
    (λ w past e same past_lawful tidy may. tidy_step w past (after past) e may tidy) journal lawful
