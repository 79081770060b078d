-- The end that counts for a hart is the last one that the journal has of it.
use Rattle.std.proofs.Common.{◌≡◌, ℕ, zero, suc, ◌+◌, ◌-◌, ◌<◌, cond, eq-eqb, ne_eqb, Bool, true, false, List, [], ◌∷◌, ◌++◌, filter, length, length-append, map, Some, refl, sym, ap, ◌∙◌, append-nil, arith}
use Rattle.std.specs.List.{slice_get}
use Rattle.std.proofs.lemmas.Option.{none-some}
use Rattle.history_event.specs.declared.event.Event.{Event}
use Rattle.history_event.specs.declared.event.Event.TheVariants as events
use Rattle.history_event.specs.declared.hart_end.HartEnd.{HartEnd}
use Rattle.history_event.specs.declared.state.Ending.{Ending}
use Rattle.history_calls.specs.Lemmas.Ends.{step_ends, told_by}
use Rattle.history_state.specs.After.{after}
use Rattle.history_state.specs.Lemmas.History.{after_push, one_behind}
use Rattle.history_state.specs.Owed.{is_end_of}
use Rattle.history_state.specs.State.{State}
use Rattle.hart_trails.specs.Ends.{IsLastEnd}
use Rattle.trace_text.specs.RunTexts.Ends.{ends_of, last_end}

-- of a list of ends, by hart
abbrev ends_by : Bool → HartEnd → List HartEnd → List HartEnd
ends_by own reason rest = cond own (reason ∷ rest) rest

ends_next : (h : ℕ) (e : Ending) (rest : List Ending) (t : Bool) → is_end_of h e ≡ t → ends_of h (e ∷ rest) ≡ ends_by t e.«end» (ends_of h rest)
ends_next h e rest true is = ap (λ (t : Bool). map (λ (x : Ending). x.«end») (cond t (e ∷ filter (is_end_of h) rest) (filter (is_end_of h) rest))) is
ends_next h e rest false is = ap (λ (t : Bool). map (λ (x : Ending). x.«end») (cond t (e ∷ filter (is_end_of h) rest) (filter (is_end_of h) rest))) is

by_both : (t : Bool) (reason : HartEnd) (one other : List HartEnd) → ends_by t reason (one ++ other) ≡ ends_by t reason one ++ other
by_both true reason one other = refl
by_both false reason one other = refl

parts : (h : ℕ) (one other : List Ending) → ends_of h (one ++ other) ≡ ends_of h one ++ ends_of h other
parts h [] other = refl
parts h (e ∷ rest) other =
    ends_next h e (rest ++ other) (is_end_of h e) refl ∙ ap (ends_by (is_end_of h e) e.«end») (parts h rest other)
    ∙ by_both (is_end_of h e) e.«end» (ends_of h rest) (ends_of h other) ∙ ap (λ (rs : List HartEnd). rs ++ ends_of h other) (sym (ends_next h e rest (is_end_of h e) refl))

own_end : (h : ℕ) (reason : HartEnd) → ends_of h (record { hart = h; «end» = reason } ∷ []) ≡ reason ∷ []
own_end h reason = ap (λ (t : Bool). map (λ (x : Ending). x.«end») (cond t (record { hart = h; «end» = reason } ∷ []) [])) (eq-eqb h h refl)

none_told : (h : ℕ) (e : Event) → ((reason : HartEnd) → e ≡ events.Ended h reason → ⊥) → ends_of h (told_by e) ≡ []
none_told h (events.Ended hart reason) other =
    ap (λ (t : Bool). map (λ (x : Ending). x.«end») (cond t (record { hart = hart; «end» = reason } ∷ []) [])) (ne_eqb hart h (λ same. other reason (ap (λ (n : ℕ). events.Ended n reason) same)))
none_told h _ other = refl

-- events behind some
behind_push : (h : ℕ) (past : List Event) (e : Event) → ends_of h (after (past ++ e ∷ [])).endings ≡ ends_of h (after past).endings ++ ends_of h (told_by e)
behind_push h past e = ap (ends_of h) (ap (λ (s : State). s.endings) (after_push past e) ∙ step_ends (after past) e) ∙ parts h (after past).endings (told_by e)

none_behind : (h : ℕ) (past more : List Event) → ((k : ℕ) (reason : HartEnd) → slice_get more k ≡ Some (events.Ended h reason) → ⊥) → ends_of h (after (past ++ more)).endings ≡ ends_of h (after past).endings
none_behind h past [] none = ap (λ (es : List Event). ends_of h (after es).endings) (append-nil past)
none_behind h past (e ∷ rest) none =
    ap (λ (es : List Event). ends_of h (after es).endings) (sym (one_behind past e rest))
    ∙ none_behind h (past ++ e ∷ []) rest (λ k reason at. none (suc k) reason at)
    ∙ behind_push h past e
    ∙ ap (λ (rs : List HartEnd). ends_of h (after past).endings ++ rs) (none_told h e (λ reason is. none 0 reason (ap (λ (x : Event). Some x) is)))
    ∙ append-nil (ends_of h (after past).endings)

-- ---- a journal cut at an event

record Cut (journal : List Event) (at : ℕ) (e : Event) : Type 0 where
  front : List Event
  rest : List Event
  are : journal ≡ front ++ e ∷ rest
  long : length front ≡ at

cut : (journal : List Event) (at : ℕ) (e : Event) → slice_get journal at ≡ Some e → Cut journal at e
cut [] at e got = absurd (none-some e got)
cut (x ∷ rest) zero e got = let same : x ≡ e = cc in record { front = []; rest = rest; are = ap (λ (y : Event). y ∷ rest) same; long = refl }
cut (x ∷ rest) (suc at) e got =
    let c = cut rest at e got in
    record { front = x ∷ c.front; rest = c.rest; are = ap (λ (es : List Event). x ∷ es) c.are; long = ap suc c.long }

got_after : (front : List Event) (e : Event) (rest : List Event) (k : ℕ) → slice_get (front ++ e ∷ rest) (suc (length front + k)) ≡ slice_get rest k
got_after [] e rest k = ap (slice_get rest) (let same : 0 + k ≡ k = omega arith in same)
got_after (x ∷ front) e rest k =
    ap (slice_get (front ++ e ∷ rest)) (let same : suc (length front) + k ≡ suc (length front + k) = omega arith in same) ∙ got_after front e rest k

last_of : (rs : List HartEnd) (reason : HartEnd) → slice_get (rs ++ reason ∷ []) (length (rs ++ reason ∷ []) - 1) ≡ Some reason
last_of rs reason =
    let long : length (rs ++ reason ∷ []) - 1 ≡ length rs = (let count : length (rs ++ reason ∷ []) ≡ length rs + 1 = length-append rs (reason ∷ []) in omega (arith, count)) in
    ap (slice_get (rs ++ reason ∷ [])) long ∙ seam rs
  where
    seam : (xs : List HartEnd) → slice_get (xs ++ reason ∷ []) (length xs) ≡ Some reason
    seam [] = refl
    seam (x ∷ xs) = seam xs

pub last_end_is : (journal : List Event) (h from : ℕ) (reason : HartEnd) → IsLastEnd journal h from reason → last_end h (after journal).endings ≡ Some reason
last_end_is journal h from reason x =
    ap (λ (rs : List HartEnd). slice_get rs (length rs - 1)) are ∙ last_of (ends_of h (after c.front).endings) reason
  where
    c : Cut journal x.at (events.Ended h reason)
    c = cut journal x.at (events.Ended h reason) x.there

    none : (k : ℕ) (other : HartEnd) → slice_get c.rest k ≡ Some (events.Ended h other) → ⊥
    none k other got =
        let place : x.at < suc (length c.front + k) = (let long = c.long in omega (arith, long)) in
        x.last (suc (length c.front + k)) other place (ap (λ (es : List Event). slice_get es (suc (length c.front + k))) c.are ∙ got_after c.front (events.Ended h reason) c.rest k ∙ got)

    are : ends_of h (after journal).endings ≡ ends_of h (after c.front).endings ++ reason ∷ []
    are = ap (λ (es : List Event). ends_of h (after es).endings) (c.are ∙ sym (one_behind c.front (events.Ended h reason) c.rest))
        ∙ none_behind h (c.front ++ events.Ended h reason ∷ []) c.rest none
        ∙ behind_push h c.front (events.Ended h reason)
        ∙ ap (λ (rs : List HartEnd). ends_of h (after c.front).endings ++ rs) (own_end h reason)
