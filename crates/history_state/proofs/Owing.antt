-- How many events are owed: each of them takes one from the number, and no event brings more than it says.
use Rattle.std.proofs.Common.{◌≡◌, ⊎_elim, ℕ, ◌+◌, ◌-◌, ◌<◌, ◌≤◌, ◌&&◌, Bool, true, false, not, cond, eqb, List, [], ◌∷◌, ◌++◌, map, length, refl, sym, ap, subst, ◌∙◌, arith}
use Rattle.std.specs.Prelude.{if◌then◌else◌}
use Rattle.std.specs.List.{Contains, filter, range_with_len, sum_by}
use Rattle.std.specs.Str.{bytes_eq}
use Rattle.std.proofs.lemmas.Bool.{and_from, eq-eqb}
use Rattle.std.proofs.lemmas.List.Sums.{sum_by-cons, sum_by_push}
use Rattle.std.proofs.lemmas.Slice.Eq.{bytes_eq-Decides}
use Rattle.history_event.specs.declared.event.CloseAnswer.{CloseAnswer}
use Rattle.history_event.specs.declared.event.CloseAnswer.TheVariants as closes
use Rattle.history_event.specs.declared.event.Event.{Event}
use Rattle.history_event.specs.declared.event.Event.TheVariants as events
use Rattle.history_event.specs.declared.event.OpenAnswer.TheVariants as opens
use Rattle.history_event.specs.declared.event.SymAnswer.TheVariants as syms
use Rattle.history_event.specs.declared.hart_end.HartEnd.{HartEnd}
use Rattle.history_event.specs.declared.state.Closing.{Closing}
use Rattle.history_event.specs.declared.state.Ending.{Ending}
use Rattle.history_event.specs.declared.state.Granting.{Granting}
use Rattle.history_event.specs.declared.state.Standing.{Standing}
use Rattle.history_event.specs.declared.state.Standing.TheVariants as standings
use Rattle.history_state.specs.State.{State}
use Rattle.history_state.specs.After.{after}
use Rattle.history_state.specs.Allowed.{AllowedIn, MayUnmap}
use Rattle.history_state.specs.Grants.{is_open, is_open_standing}
use Rattle.history_state.specs.Legal.{Lawful}
use Rattle.history_state.specs.Owed.{IsOwed, brings, ends_at_most, ends_left, owed, times_ended}
use Rattle.history_state.specs.Setting.{Machine, Setting}
use Rattle.history_state.specs.Slots.{IsOpenGrant}
use Rattle.history_state.specs.Step.{closing_of, die, initialise, is_closing, loaded, lower, settled_as, step, unmap}
use Rattle.history_state.specs.Lemmas.Brought.{LoadLaws}
use Rattle.history_state.specs.Lemmas.Finalised.{finished_now}
use Rattle.history_state.specs.Lemmas.Lists.{first_or_later, none_in}
use Rattle.history_state.specs.Lemmas.Pages.{range_has}
use Rattle.history_state.specs.Lemmas.Positive.{fewer_finis, fewer_inits}

-- ---- counts

length_push : {X : Type 0} (xs ys : List X) → length (xs ++ ys) ≡ length xs + length ys
length_push [] ys = omega arith
length_push (x ∷ xs) ys = let rest : length (xs ++ ys) ≡ length xs + length ys = length_push xs ys in omega (arith, rest)

module _ {X : Type 0} (p : X → Bool) where
  counted_push : (xs ys : List X) → length (filter p (xs ++ ys)) ≡ length (filter p xs) + length (filter p ys)
  counted_push [] ys = omega arith
  counted_push (x ∷ xs) ys = by (p x) (counted_push xs ys)
    where
      by : (t : Bool) → length (filter p (xs ++ ys)) ≡ length (filter p xs) + length (filter p ys)
          → length (if t then x ∷ filter p (xs ++ ys) else filter p (xs ++ ys)) ≡ length (if t then x ∷ filter p xs else filter p xs) + length (filter p ys)
      by true e = omega (arith, e)
      by false e = e

  counted_most : (xs : List X) → length (filter p xs) ≤ length xs
  counted_most [] = omega arith
  counted_most (x ∷ xs) = by (p x) (counted_most xs)
    where
      by : (t : Bool) → length (filter p xs) ≤ length xs → length (if t then x ∷ filter p xs else filter p xs) ≤ length (x ∷ xs)
      by true e = omega (arith, e)
      by false e = omega (arith, e)

  -- an element that doesn't pass is one less
  counted_less : (xs : List X) (x : X) → Contains xs x → p x ≡ false → length (filter p xs) + 1 ≤ length xs
  counted_less [] x h e = absurd (none_in x h)
  counted_less (y ∷ xs) x h e = ⊎_elim
      (λ (same : y ≡ x). here_less (p y) (ap p same ∙ e) (counted_most xs))
      (λ (i : Contains xs x). later_less (p y) (counted_less xs x i e))
      (first_or_later y xs x h)
    where
      here_less : (t : Bool) → t ≡ false → length (filter p xs) ≤ length xs → length (if t then y ∷ filter p xs else filter p xs) + 1 ≤ length (y ∷ xs)
      here_less true e most = absurd cc
      here_less false e most = omega (arith, most)

      later_less : (t : Bool) → length (filter p xs) + 1 ≤ length xs → length (if t then y ∷ filter p xs else filter p xs) + 1 ≤ length (y ∷ xs)
      later_less true less = omega (arith, less)
      later_less false less = omega (arith, less)

-- ---- grants

abbrev open_count : List Granting → ℕ
open_count grants = length (filter is_open grants)

module _ (number : ℕ) (standing : Standing) (shut : is_open_standing standing ≡ false) where
  one_settled : (g : Granting) (rest more : List Granting) → open_count rest ≤ open_count more → open_count (settled_as number standing g ∷ rest) ≤ open_count (g ∷ more)
  one_settled g rest more fewer = by (eqb g.number number) (is_open g) refl
    where
      by : (a b : Bool) → is_open g ≡ b → open_count ((if a && b then record g { standing = standing } else g) ∷ rest) ≤ open_count (g ∷ more)
      by true true e = rw (shut, e) (omega (arith, fewer))
      by true false e = rw e fewer
      by false b e = at (is_open g)
        where
          at : (t : Bool) → length (if t then g ∷ filter is_open rest else filter is_open rest) ≤ length (if t then g ∷ filter is_open more else filter is_open more)
          at true = omega (arith, fewer)
          at false = fewer

  settled_most : (grants : List Granting) → open_count (map (settled_as number standing) grants) ≤ open_count grants
  settled_most [] = omega arith
  settled_most (g ∷ grants) = one_settled g (map (settled_as number standing) grants) grants (settled_most grants)

  settled_less : (grants : List Granting) (g : Granting) → Contains grants g → g.number ≡ number → g.standing ≡ standings.Open
      → open_count (map (settled_as number standing) grants) + 1 ≤ open_count grants
  settled_less [] g h is on = absurd (none_in g h)
  settled_less (x ∷ grants) g h is on = ⊎_elim
      (λ (same : x ≡ g). here_less x (eq-eqb x.number number (ap (λ (q : Granting). q.number) same ∙ is)) (ap (λ (q : Granting). is_open q) same ∙ ap (λ (q : Standing). is_open_standing q) on) (settled_most grants))
      (λ (i : Contains grants g). later_less (settled_less grants g i is on))
      (first_or_later x grants g h)
    where
      here_less : (x : Granting) → eqb x.number number ≡ true → is_open x ≡ true → open_count (map (settled_as number standing) grants) ≤ open_count grants
          → open_count (settled_as number standing x ∷ map (settled_as number standing) grants) + 1 ≤ open_count (x ∷ grants)
      here_less x same on most = rw (same, on, shut) (omega (arith, most))

      later_less : open_count (map (settled_as number standing) grants) + 1 ≤ open_count grants
          → open_count (settled_as number standing x ∷ map (settled_as number standing) grants) + 1 ≤ open_count (x ∷ grants)
      later_less less = by (eqb x.number number) (is_open x) refl
        where
          by : (a b : Bool) → is_open x ≡ b → open_count ((if a && b then record x { standing = standing } else x) ∷ map (settled_as number standing) grants) + 1 ≤ open_count (x ∷ grants)
          by true true e = rw (shut, e) (omega (arith, less))
          by true false e = rw e less
          by false b e = at (is_open x)
            where
              at : (t : Bool) → length (if t then x ∷ filter is_open (map (settled_as number standing) grants) else filter is_open (map (settled_as number standing) grants)) + 1
                  ≤ length (if t then x ∷ filter is_open grants else filter is_open grants)
              at true = omega (arith, less)
              at false = less

-- ---- ends

most_sum : (f g : ℕ → ℕ) → ((k : ℕ) → g k ≤ f k) → (xs : List ℕ) → sum_by g xs ≤ sum_by f xs
most_sum f g most [] = omega arith
most_sum f g most (x ∷ xs) =
    let rest : sum_by g xs ≤ sum_by f xs = most_sum f g most xs in
    let first : g x ≤ f x = most x in
    omega (arith, rest, first, sum_by-cons g x xs, sum_by-cons f x xs)

less_sum : (f g : ℕ → ℕ) → ((k : ℕ) → g k ≤ f k) → (at : ℕ) → g at + 1 ≤ f at → (xs : List ℕ) → Contains xs at → sum_by g xs + 1 ≤ sum_by f xs
less_sum f g most at less [] h = absurd (none_in at h)
less_sum f g most at less (x ∷ xs) h = ⊎_elim
    (λ (e : x ≡ at).
    let rest : sum_by g xs ≤ sum_by f xs = most_sum f g most xs in
    let first : g x + 1 ≤ f x = subst (λ (n : ℕ). g n + 1 ≤ f n) (sym e) less in
    omega (arith, rest, first, sum_by-cons g x xs, sum_by-cons f x xs))
    (λ (i : Contains xs at).
    let rest : sum_by g xs + 1 ≤ sum_by f xs = less_sum f g most at less xs i in
    let first : g x ≤ f x = most x in
    omega (arith, rest, first, sum_by-cons g x xs, sum_by-cons f x xs))
    (first_or_later x xs at h)

times_push : (hart : ℕ) (endings : List Ending) (e : Ending) → times_ended hart (endings ++ e ∷ []) ≡ times_ended hart endings + cond (eqb e.hart hart) 1 0
times_push hart endings e = sum_by_push (λ (x : Ending). cond (eqb x.hart hart) 1 0) endings e

fewer_ends : (endings : List Ending) (e : Ending) (hart : ℕ) → ends_at_most hart - times_ended hart (endings ++ e ∷ []) ≤ ends_at_most hart - times_ended hart endings
fewer_ends endings e hart = let more = times_push hart endings e in omega (arith, more)

ends_most : (harts : ℕ) (endings : List Ending) (e : Ending) → ends_left harts (endings ++ e ∷ []) ≤ ends_left harts endings
ends_most harts endings e =
    most_sum (λ hart. ends_at_most hart - times_ended hart endings) (λ hart. ends_at_most hart - times_ended hart (endings ++ e ∷ [])) (fewer_ends endings e) (range_with_len 0 harts)

ends_less : (harts : ℕ) (endings : List Ending) (e : Ending) → e.hart < harts → times_ended e.hart endings < ends_at_most e.hart → ends_left harts (endings ++ e ∷ []) + 1 ≤ ends_left harts endings
ends_less harts endings e low may =
    less_sum (λ hart. ends_at_most hart - times_ended hart endings) (λ hart. ends_at_most hart - times_ended hart (endings ++ e ∷ [])) (fewer_ends endings e) e.hart own
    (range_with_len 0 harts) (range_has 0 harts e.hart (omega arith) (omega (arith, low)))
  where
    lower : (all before behind : ℕ) → behind ≡ before + 1 → before < all → (all - behind) + 1 ≤ all - before
    lower all before behind more below = omega (arith, more, below)

    own : (ends_at_most e.hart - times_ended e.hart (endings ++ e ∷ [])) + 1 ≤ ends_at_most e.hart - times_ended e.hart endings
    own = lower (ends_at_most e.hart) (times_ended e.hart endings) (times_ended e.hart (endings ++ e ∷ []))
        (times_push e.hart endings e ∙ ap (λ (b : Bool). times_ended e.hart endings + cond b 1 0) (eq-eqb e.hart e.hart refl)) may

-- ---- each event

module _ (harts : ℕ) where
  unmapped_less : (s : State) (hart : ℕ) (set : List ℕ) → MayUnmap s hart set → owed harts (unmap hart set s) + 1 ≤ owed harts s
  unfolding owed unmap
  unmapped_less s hart set may =
      let closing : is_closing hart set may.closing ≡ true = and_from (eqb may.closing.hart hart) (bytes_eq may.closing.set set) (eq-eqb may.closing.hart hart may.by) ((bytes_eq-Decides may.closing.set set).1 may.whole) in
      let fewer = counted_less (λ (c : Closing). not (is_closing hart set c)) s.closings may.closing may.there (ap not closing) in
      omega (arith, fewer)

  settled_owed : (s : State) (number : ℕ) (standing : Standing) → is_open_standing standing ≡ false → (g : Granting) → IsOpenGrant s number g
      → owed harts (record s { grants = map (settled_as number standing) s.grants }) + 1 ≤ owed harts s
  unfolding owed
  settled_owed s number standing shut g is =
      let fewer = settled_less number standing shut s.grants g is.there is.numbered is.open_yet in
      omega (arith, fewer)

  initialised_owed : (s : State) (object : ℕ) → length s.inits + 1 ≤ s.next - 1 → owed harts (initialise object s) + 1 ≤ owed harts s
  unfolding owed initialise
  initialised_owed s object fewer = let pushed = length_push s.inits (object ∷ []) in omega (arith, fewer, pushed)

  finalised_owed : (s : State) (object : ℕ) → length s.finis + 1 ≤ s.next - 1 → owed harts (record s { finis = s.finis ++ object ∷ [] }) + 1 ≤ owed harts s
  unfolding owed
  finalised_owed s object fewer = let pushed = length_push s.finis (object ∷ []) in omega (arith, fewer, pushed)

  ended_owed : (s : State) (hart : ℕ) (reason : HartEnd) → hart < harts → times_ended hart s.endings < ends_at_most hart
      → owed harts (record s { endings = s.endings ++ record { hart = hart; «end» = reason } ∷ [] }) + 1 ≤ owed harts s
  unfolding owed
  ended_owed s hart reason low may = let fewer = ends_less harts s.endings (record { hart = hart; «end» = reason }) low may in omega (arith, fewer)

  pub spends : LoadLaws → (m : Machine) (w : Setting) (past : List Event) (e : Event) → Lawful m past → AllowedIn w past (after past) e → IsOwed harts (after past) e
      → owed harts (step (after past) e) + 1 ≤ owed harts (after past)
  spends laws m w past (events.Open hart ask answer) lawful may owes = absurd owes
  spends laws m w past (events.Close hart handle answer) lawful may owes = absurd owes
  spends laws m w past (events.Unmapped hart set) lawful may owes = unmapped_less (after past) hart set may
  spends laws m w past (events.Grant number hart owner slot choice value) lawful may owes = absurd owes
  spends laws m w past (events.Bound number) lawful may owes = settled_owed (after past) number standings.Bound refl may.grant may.is
  spends laws m w past (events.Lost number saw) lawful may owes = settled_owed (after past) number (standings.Lost saw) refl may.grant may.is
  spends laws m w past (events.Unresolved hart owner slot choice) lawful may owes = absurd owes
  spends laws m w past (events.Sym hart ask answer) lawful may owes = absurd owes
  spends laws m w past (events.Tls hart owner address) lawful may owes = absurd owes
  spends laws m w past (events.Init hart object) lawful may owes = initialised_owed (after past) object (fewer_inits laws m past lawful hart object may)
  spends laws m w past (events.Fini hart object) lawful may owes = finalised_owed (after past) object (fewer_finis laws m past lawful object (finished_now w past (after past) hart object may))
  spends laws m w past (events.Wrote hart bytes) lawful may owes = absurd owes
  spends laws m w past (events.Told hart fault) lawful may owes = absurd owes
  spends laws m w past (events.Ended hart reason) lawful may owes = ended_owed (after past) hart reason owes.0 owes.1

  -- ---- what an event brings

  rises_close : (s : State) (hart handle : ℕ) (answer : CloseAnswer) → owed harts (step s (events.Close hart handle answer)) ≤ owed harts s + brings (events.Close hart handle answer)
  unfolding owed die lower
  rises_close s hart handle (closes.Done []) = let pushed = length_push s.closings [] in omega (arith, pushed)
  rises_close s hart handle (closes.Done (d ∷ rest)) = let pushed = length_push s.closings (closing_of hart (d ∷ rest)) in omega (arith, pushed)
  rises_close s hart handle (closes.Refused fault) = omega arith

  pub rises : (s : State) (e : Event) → owed harts (step s e) ≤ owed harts s + brings e
  unfolding owed loaded unmap initialise
  rises s (events.Open hart ask (opens.Done id root added ranges)) = omega arith
  rises s (events.Open hart ask opens.Absent) = omega arith
  rises s (events.Open hart ask (opens.Refused fault)) = omega arith
  rises s (events.Close hart handle answer) = rises_close s hart handle answer
  rises s (events.Unmapped hart set) = let most = counted_most (λ (c : Closing). not (is_closing hart set c)) s.closings in omega (arith, most)
  rises s (events.Grant number hart owner slot choice value) =
      let pushed = counted_push is_open s.grants (record { number = number; hart = hart; owner = owner; slot = slot; choice = choice; value = value; standing = standings.Open } ∷ []) in omega (arith, pushed)
  rises s (events.Bound number) = let most = settled_most number standings.Bound refl s.grants in omega (arith, most)
  rises s (events.Lost number saw) = let most = settled_most number (standings.Lost saw) refl s.grants in omega (arith, most)
  rises s (events.Unresolved hart owner slot choice) = omega arith
  rises s (events.Sym hart ask (syms.Found serial index value)) = omega arith
  rises s (events.Sym hart ask (syms.Refused fault)) = omega arith
  rises s (events.Tls hart owner address) = omega arith
  rises s (events.Init hart object) = let pushed = length_push s.inits (object ∷ []) in omega (arith, pushed)
  rises s (events.Fini hart object) = let pushed = length_push s.finis (object ∷ []) in omega (arith, pushed)
  rises s (events.Wrote hart bytes) = omega arith
  rises s (events.Told hart fault) = omega arith
  rises s (events.Ended hart reason) = let most = ends_most harts s.endings (record { hart = hart; «end» = reason }) in omega (arith, most)
