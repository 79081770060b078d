-- What was next of all mapped objects at a moment since every hart exited.
use Rattle.std.proofs.Common.{◌≡◌, ◌⊎◌, inl, inr, ⊎_elim, ℕ, Bool, true, false, cond, List, [], ◌∷◌, ◌++◌, map, reverse, Option, Some, None, refl, sym, ap, subst, ◌∙◌}
use Rattle.std.specs.Prelude.{IsTrue}
use Rattle.std.specs.List.{Contains, find, slice_get}
use Rattle.std.proofs.lemmas.Bool.{true≢false}
use Rattle.std.proofs.lemmas.List.{append-nil}
use Rattle.std.proofs.lemmas.List.Elements.{Contains-append_left, Contains-push, Contains-push_cases}
use Rattle.history_event.specs.declared.event.Event.{Event}
use Rattle.history_graph.specs.Initialised.{is_one_of}
use Rattle.history_state.specs.After.{after}
use Rattle.history_state.specs.Allowed.{IsFirst, WasNext}
use Rattle.history_state.specs.Lemmas.Lists.{has_in}
use Rattle.history_state.specs.Links.{finis_of, unfinished}
use Rattle.history_state.specs.Objects.{mapped, serial_of}
use Rattle.history_state.specs.Setting.{Setting, have_exited}
use Rattle.history_state.specs.State.{State}
use Rattle.trace_replay.specs.Heads.{exits_by, head_in, noted, serials_in, with_head}
use Rattle.trace_replay.specs.Lemmas.Ended.{exits_are, first_found}
use Rattle.trace_replay.specs.Lists.{Lists}
use Rattle.trace_replay.specs.Shown.{AreHeads, IsShown}

-- ---- one event more

-- where a history is cut: behind its last event, or before it
abbrev Cut : (past before since : List Event) → Event → Type 0
Cut past before since e = ((since ≡ []) × (before ≡ past ++ e ∷ [])) ⊎ ((rest : List Event) × (past ≡ before ++ rest))

no_rest : (bs since : List Event) → [] ≡ bs ++ since → (bs ≡ []) × (since ≡ [])
no_rest [] since is = (refl, sym is)
no_rest (b ∷ bs) since is = absurd cc

cut : (past before since : List Event) (e : Event) → past ++ e ∷ [] ≡ before ++ since → Cut past before since e
cut [] [] since e is = inr ([], refl)
cut [] (b ∷ bs) since e is =
    let first : e ≡ b = cc in
    let none : [] ≡ bs ++ since = cc in
    let both : (bs ≡ []) × (since ≡ []) = no_rest bs since none in
    inl (both.1, ap (λ x. x ∷ bs) (sym first) ∙ ap (λ xs. e ∷ xs) both.0)
cut (x ∷ xs) [] since e is = inr (x ∷ xs, refl)
cut (x ∷ xs) (b ∷ bs) since e is =
    let first : x ≡ b = cc in
    let behind : xs ++ e ∷ [] ≡ bs ++ since = cc in
    ⊎_elim
    (λ (y : (since ≡ []) × (bs ≡ xs ++ e ∷ [])). inl (y.0, ap (λ c. c ∷ bs) (sym first) ∙ ap (λ cs. x ∷ cs) y.1))
    (λ (y : (rest : List Event) × (xs ≡ bs ++ rest)). inr (y.0, ap (λ c. c ∷ xs) first ∙ ap (λ cs. b ∷ cs) y.1))
    (cut xs bs since e behind)

-- every hart has exited, and the object is the next of all that are mapped
record IsHead (w : Setting) (s : State) (object : ℕ) : Type 0 where
  pub over : IsTrue (have_exited w s)
  pub next : IsFirst (finis_of s (map serial_of (mapped s))) object

older : (w : Setting) (past : List Event) (e : Event) (object : ℕ) → WasNext w (past ++ e ∷ []) object → WasNext w past object ⊎ IsHead w (after (past ++ e ∷ [])) object
older w past e object x = ⊎_elim
    (λ (y : (x.since ≡ []) × (x.before ≡ past ++ e ∷ [])). inr (subst (λ b. IsHead w (after b) object) y.1 (record { over = x.over; next = x.next })))
    (λ (y : (rest : List Event) × (past ≡ x.before ++ rest)). inl (record { before = x.before; since = y.0; are = y.1; over = x.over; next = x.next }))
    (cut past x.before x.since e x.are)

append_more : (before since : List Event) (e : Event) → (before ++ since) ++ e ∷ [] ≡ before ++ (since ++ e ∷ [])
append_more [] since e = refl
append_more (b ∷ bs) since e = ap (λ cs. b ∷ cs) (append_more bs since e)

newer_old : (w : Setting) (past : List Event) (e : Event) (object : ℕ) → WasNext w past object → WasNext w (past ++ e ∷ []) object
newer_old w past e object x =
    record { before = x.before; since = x.since ++ e ∷ []; are = ap (λ es. es ++ e ∷ []) x.are ∙ append_more x.before x.since e; over = x.over; next = x.next }

newer_head : (w : Setting) (past : List Event) (object : ℕ) → IsHead w (after past) object → WasNext w past object
newer_head w past object x = record { before = past; since = []; are = sym (append-nil past); over = x.over; next = x.next }

-- ---- the head of the lists

-- the head of the lists is the first of all mapped objects' destructors
head_is : (s : State) (l : Lists) → IsShown s l → slice_get (finis_of s (map serial_of (mapped s))) 0 ≡ head_in l.unfinished l.namespaces
head_is s l x =
    first_found (is_one_of (map serial_of (mapped s))) (reverse (unfinished s)) (head_in (unfinished s) s.namespaces) refl
    ∙ ap (head_in (unfinished s)) (sym x.namespaces)
    ∙ ap (λ (ds : List ℕ). find (is_one_of (serials_in l.namespaces)) (reverse ds)) (sym x.unfinished)

noted_each : (found : Option ℕ) (heads : List ℕ) (object : ℕ) → Contains (noted found heads) object → Contains heads object ⊎ (found ≡ Some object)
noted_each None heads object inside = inl inside
noted_each (Some head) heads object inside = at (is_one_of heads head) inside
  where
    at : (b : Bool) → Contains (cond b heads (heads ++ head ∷ [])) object → Contains heads object ⊎ (Some head ≡ Some object)
    at true i = inl i
    at false i = ⊎_elim (λ (old : Contains heads object). inl old) (λ (new : head ≡ object). inr (ap (λ (n : ℕ). Some n) new)) (Contains-push_cases heads head object i)

noted_old : (found : Option ℕ) (heads : List ℕ) (object : ℕ) → Contains heads object → Contains (noted found heads) object
noted_old None heads object inside = inside
noted_old (Some head) heads object inside = at (is_one_of heads head)
  where
    at : (b : Bool) → Contains (cond b heads (heads ++ head ∷ [])) object
    at true = inside
    at false = Contains-append_left heads (head ∷ []) object inside

noted_new : (found : Option ℕ) (heads : List ℕ) (object : ℕ) → found ≡ Some object → Contains (noted found heads) object
noted_new None heads object e = absurd (let d : None ≡ Some object = e in cc)
noted_new (Some head) heads object e = let same : head ≡ object = cc in subst (Contains (noted (Some head) heads)) same (at (is_one_of heads head) refl)
  where
    at : (b : Bool) → is_one_of heads head ≡ b → Contains (cond b heads (heads ++ head ∷ [])) head
    at true f = has_in heads head f
    at false f = Contains-push heads head

-- ---- the heads after an event

pub heads_on : (past : List Event) (e : Event) (l : Lists) → IsShown (after (past ++ e ∷ [])) l → AreHeads past l.harts l.heads → AreHeads (past ++ e ∷ []) l.harts (with_head l).heads
heads_on past e l x heads = by (exits_by l.harts l.endings) refl
  where
    by : (b : Bool) → exits_by l.harts l.endings ≡ b → AreHeads (past ++ e ∷ []) l.harts (cond b (record l { heads = noted (head_in l.unfinished l.namespaces) l.heads }) l).heads
    by true over = record {
      each = λ w object same inside. ⊎_elim
          (λ (old : Contains l.heads object). newer_old w past e object (heads.each w object same old))
          (λ (new : head_in l.unfinished l.namespaces ≡ Some object). newer_head w (past ++ e ∷ []) object
          (record { over = exits_are w (after (past ++ e ∷ [])) l same x ∙ over; next = head_is (after (past ++ e ∷ [])) l x ∙ new }))
          (noted_each (head_in l.unfinished l.namespaces) l.heads object inside);
      every = λ w object same was. ⊎_elim
          (λ (old : WasNext w past object). noted_old (head_in l.unfinished l.namespaces) l.heads object (heads.every w object same old))
          (λ (new : IsHead w (after (past ++ e ∷ [])) object). noted_new (head_in l.unfinished l.namespaces) l.heads object (sym (head_is (after (past ++ e ∷ [])) l x) ∙ new.next))
          (older w past e object was);
    }
    by false over = record {
      each = λ w object same inside. newer_old w past e object (heads.each w object same inside);
      every = λ w object same was. ⊎_elim
          (λ (old : WasNext w past object). heads.every w object same old)
          (λ (new : IsHead w (after (past ++ e ∷ [])) object). absurd (true≢false (sym new.over ∙ exits_are w (after (past ++ e ∷ [])) l same x ∙ over)))
          (older w past e object was);
    }
