-- Every hart has ended by exit, and none of them twice.
use Rattle.std.proofs.Common.{◌≡◌, ⊎_elim, ℕ, ◌+◌, ◌<◌, ◌≤◌, ◌&&◌, ◌==◌, cond, ne_eqb, eq-eqb, nat_le, Bool, List, [], ◌∷◌, ◌++◌, length, length-append, take, None, Some, IsTrue, refl, sym, ap, subst, ◌∙◌, append-nil, append_assoc, arith, lt_of_not-le}
use mathlib.Core.Logic.{dite}
use native.Mathlib.Decide.{dec_le}
use Rattle.std.specs.List.{Contains, list_all}
use Rattle.std.proofs.Math.Seq.{take-append_seam}
use Rattle.std.proofs.lemmas.Bool.{and_from, and_parts, le-leb}
use Rattle.std.proofs.lemmas.List.{take-append-le}
use Rattle.std.proofs.lemmas.List.Elements.{Contains-append_left}
use Rattle.std.proofs.lemmas.List.Sums.{sum_by-append}
use Rattle.history_event.specs.declared.event.CloseAnswer.TheVariants as closes
use Rattle.history_event.specs.declared.event.Event.{Event}
use Rattle.history_event.specs.declared.event.Event.TheVariants as events
use Rattle.history_event.specs.declared.event.OpenAnswer.TheVariants as opens
use Rattle.history_event.specs.declared.event.SymAnswer.TheVariants as syms
use Rattle.history_event.specs.declared.hart_end.HartEnd.{HartEnd}
use Rattle.history_event.specs.declared.state.Ending.{Ending}
use Rattle.history_state.specs.After.{after, after_from}
use Rattle.history_state.specs.Legal.{Lawful}
use Rattle.history_state.specs.Lemmas.History.{after_push, lawful_take, one_behind}
use Rattle.history_state.specs.Lemmas.Lists.{first_or_later, from_map, here, later, none_in}
use Rattle.history_state.specs.Owed.{is_end_of, times_ended}
use Rattle.history_state.specs.Setting.{Setting, are_finals, exited, have_exited}
use Rattle.history_state.specs.State.{State}
use Rattle.history_state.specs.Step.{die, initialise, loaded, lower, step, unmap}
use Rattle.history_calls.specs.Laws.{hart_of}
use Rattle.hart_moves.specs.Follows.{AreOthers}
use Rattle.hart_fits.specs.Finals.{EndsOnce}
use Rattle.hart_fits.specs.Lemmas.Ending.{Ends, ends}
use Rattle.hart_fits.specs.Over.{EndsWithin, RunningIsNotOver, RunsYet}
use Rattle.link_keeper.specs.Beginning.{ending_by, ends_in, first_exited}
use Rattle.link_keeper.specs.Keeping.{FirstGoesOn}

-- ---- the ends of a journal

step_ends : (s : State) (e : Event) → (step s e).endings ≡ s.endings ++ ending_by e
unfolding loaded die lower unmap initialise
step_ends s (events.Open hart ask (opens.Done id root added ranges)) = sym (append-nil s.endings)
step_ends s (events.Open hart ask opens.Absent) = sym (append-nil s.endings)
step_ends s (events.Open hart ask (opens.Refused fault)) = sym (append-nil s.endings)
step_ends s (events.Close hart handle (closes.Done set)) = sym (append-nil s.endings)
step_ends s (events.Close hart handle (closes.Refused fault)) = sym (append-nil s.endings)
step_ends s (events.Sym hart ask (syms.Found serial index value)) = sym (append-nil s.endings)
step_ends s (events.Sym hart ask (syms.Refused fault)) = sym (append-nil s.endings)
step_ends s (events.Ended hart reason) = refl
step_ends s _ = sym (append-nil s.endings)

pub ends_behind : (past more : List Event) → (after (past ++ more)).endings ≡ (after past).endings ++ ends_in more
ends_behind past [] = ap (λ (es : List Event). (after es).endings) (append-nil past) ∙ sym (append-nil (after past).endings)
ends_behind past (e ∷ rest) =
    ap (λ (es : List Event). (after es).endings) (sym (one_behind past e rest)) ∙ ends_behind (past ++ e ∷ []) rest
    ∙ ap (λ (es : List Ending). es ++ ends_in rest) (ap (λ (s : State). s.endings) (after_push past e) ∙ step_ends (after past) e) ∙ append_assoc (after past).endings (ending_by e) (ends_in rest)

-- every hart has ended by exit, as it is read off the journal
pub exits_are : (w : Setting) (journal : List Event) → have_exited w (after journal) ≡ first_exited w.machine.harts (ends_in journal)
unfolding after_from
exits_are w journal = ap (first_exited w.machine.harts) (ends_behind [] journal)

-- ---- how often a hart has ended

-- one that an end is, or isn't
abbrev one_if : ℕ → Ending → ℕ
one_if h e = cond (is_end_of h e) 1 0

counted : (h : ℕ) (one other : List Ending) → times_ended h (one ++ other) ≡ times_ended h one + times_ended h other
counted h one other = sum_by-append (one_if h) one other

none_of : (h : ℕ) (e : Event) → (hart_of e ≡ Some h → ⊥) → times_ended h (ending_by e) ≡ 0
none_of h (events.Ended hart reason) other =
    let first : one_if h (record { hart = hart; «end» = reason }) ≡ 0 = ap (λ (b : Bool). cond {A = ℕ} b 1 0) (ne_eqb hart h (λ same. other (ap (λ (n : ℕ). Some n) same))) in
    let whole : times_ended h (record { hart = hart; «end» = reason } ∷ []) ≡ 0 + one_if h (record { hart = hart; «end» = reason }) = refl in
    omega (arith, first, whole)
none_of h _ other = refl

none_in_all : (h : ℕ) (more : List Event) → AreOthers h more → times_ended h (ends_in more) ≡ 0
none_in_all h [] others = refl
none_in_all h (e ∷ rest) others =
    let first : times_ended h (ending_by e) ≡ 0 = none_of h e (others e (here e rest)) in
    let all : times_ended h (ends_in rest) ≡ 0 = none_in_all h rest (λ d there. others d (later e rest d there)) in
    let whole : times_ended h (ending_by e ++ ends_in rest) ≡ times_ended h (ending_by e) + times_ended h (ends_in rest) = counted h (ending_by e) (ends_in rest) in
    omega (arith, first, all, whole)

-- events of others don't end it
pub once_on : (h : ℕ) (past more : List Event) → AreOthers h more → times_ended h (after past).endings ≤ 1 → times_ended h (after (past ++ more)).endings ≤ 1
once_on h past more others once =
    let whole : times_ended h (after (past ++ more)).endings ≡ times_ended h (after past).endings + times_ended h (ends_in more) =
    ap (times_ended h) (ends_behind past more) ∙ counted h (after past).endings (ends_in more) in
    let none : times_ended h (ends_in more) ≡ 0 = none_in_all h more others in
    omega (arith, whole, none, once)

-- a hart that ended there has ended once at least
some_counted : (h : ℕ) (es : List Ending) (x : Ending) → Contains es x → x.hart ≡ h → 1 ≤ times_ended h es
some_counted h [] x there is = absurd (none_in x there)
some_counted h (e ∷ rest) x there is = ⊎_elim
    (λ (same : e ≡ x).
    let first : one_if h e ≡ 1 = ap (λ (b : Bool). cond {A = ℕ} b 1 0) (eq-eqb e.hart h (ap (λ (y : Ending). y.hart) same ∙ is)) in
    let whole : times_ended h (e ∷ rest) ≡ (0 + one_if h e) + times_ended h rest = counted h (e ∷ []) rest in
    omega (arith, first, whole))
    (λ (more : Contains rest x).
    let all : 1 ≤ times_ended h rest = some_counted h rest x more is in
    let whole : times_ended h (e ∷ rest) ≡ (0 + one_if h e) + times_ended h rest = counted h (e ∷ []) rest in
    omega (arith, all, whole))
    (first_or_later e rest x there)

-- nobody's events end no hart
nobodys_ends : (more : List Event) → ((e : Event) → Contains more e → hart_of e ≡ None) → ends_in more ≡ []
nobodys_ends [] nobodys = refl
nobodys_ends (e ∷ rest) nobodys = ap (λ (es : List Ending). es ++ ends_in rest) (none_by e (nobodys e (here e rest))) ∙ nobodys_ends rest (λ d there. nobodys d (later e rest d there))
  where
    none_by : (d : Event) → hart_of d ≡ None → ending_by d ≡ []
    none_by (events.Ended hart reason) none = absurd (let no : Some hart ≡ None = none in cc)
    none_by _ none = refl

pub nobodys_finals : (w : Setting) (past now more : List Event) → now ≡ past ++ more → ((e : Event) → Contains more e → hart_of e ≡ None) → IsTrue (are_finals w (after past)) → IsTrue (are_finals w (after now))
nobodys_finals w past now more are nobodys over =
    subst (λ (es : List Ending). IsTrue (length es == w.machine.harts && first_exited w.machine.harts es))
    (sym (ap (λ (es : List Event). (after es).endings) are ∙ ends_behind past more ∙ ap (λ (es : List Ending). (after past).endings ++ es) (nobodys_ends more nobodys) ∙ append-nil (after past).endings))
    over

-- ---- no hart ends behind a moment at which all had ended by exit

module _ (running : RunningIsNotOver) (w : Setting) (journal : List Event) (lawful : Lawful w.machine journal) (within : EndsWithin w journal) (some : 0 < w.machine.harts)
    (once : times_ended 0 (after journal).endings ≤ 1) (last : FirstGoesOn w journal) where
  front_lawful : (past more : List Event) → journal ≡ past ++ more → Lawful w.machine past
  front_lawful past more are = subst (Lawful w.machine) (ap (take (length past)) are ∙ take-append_seam past more) (lawful_take w.machine journal (length past) lawful)

  front_within : (past more : List Event) → journal ≡ past ++ more → EndsWithin w past
  front_within past more are e there =
      within e (subst (λ (es : List Ending). Contains es e) (sym (ap (λ (es : List Event). (after es).endings) are ∙ ends_behind past more))
      (Contains-append_left (after past).endings (ends_in more) e there))

  none_behind : (past rest : List Event) (h : ℕ) (reason : HartEnd) → journal ≡ past ++ events.Ended h reason ∷ rest → IsTrue (have_exited w (after past)) → ⊥
  none_behind past rest h reason are over =
      running w past 0 (front_lawful past (events.Ended h reason ∷ rest) are) some (front_within past (events.Ended h reason ∷ rest) are) yet past [] (sym (append-nil past)) over
    where
      first : h ≡ 0
      first = ⊎_elim
          (λ (own : Some h ≡ Some 0). cc)
          (λ (none : Some h ≡ None). absurd cc)
          (last past (events.Ended h reason) rest are (past, [], sym (append-nil past), over))

      yet : RunsYet 0 past
      yet there =
          let x = from_map (λ (e : Ending). e.hart) (after past).endings 0 there in
          let before : 1 ≤ times_ended 0 (after past).endings = some_counted 0 (after past).endings x.0 x.1 x.2 in
          let ending : Ending = record { hart = h; «end» = reason } in
          let its : 1 ≤ times_ended 0 (ending ∷ ends_in rest) = some_counted 0 (ending ∷ ends_in rest) ending (here ending (ends_in rest)) first in
          let whole : times_ended 0 (after journal).endings ≡ times_ended 0 (after past).endings + times_ended 0 (ending ∷ ends_in rest) =
          ap (λ (es : List Event). times_ended 0 (after es).endings) are ∙ ap (times_ended 0) (ends_behind past (events.Ended h reason ∷ rest)) ∙ counted 0 (after past).endings (ending ∷ ends_in rest) in
          let most : times_ended 0 (after journal).endings ≤ 1 = once in
          omega (arith, before, its, whole, most)

  -- so there are no more ends than harts
  abbrev AreFew : List Ending → Type 0
  AreFew es = IsTrue (first_exited w.machine.harts es) → length es ≤ w.machine.harts

  few_next : (past : List Event) (e : Event) (rest : List Event) → journal ≡ past ++ e ∷ rest → AreFew (after past).endings → AreFew (after (past ++ e ∷ [])).endings
  few_next past e rest are few = by (ends (after past) e)
    where
      n : ℕ
      n = w.machine.harts

      by : Ends (after past) e → AreFew (after (past ++ e ∷ [])).endings
      by (Ends.none same) = subst AreFew (sym (ap (λ (s : State). s.endings) (after_push past e) ∙ same)) few
      by (Ends.one h reason is) = subst AreFew (sym now) (λ over. dite (dec_le w.machine.harts (length (after past).endings))
          (λ (within_all : w.machine.harts ≤ length (after past).endings). absurd (none_behind past rest h reason (are ∙ ap (λ (d : Event). past ++ d ∷ rest) is) (before within_all over)))
          (λ (short : w.machine.harts ≤ length (after past).endings → ⊥).
          let low : length (after past).endings < w.machine.harts = lt_of_not-le short in
          let long : length ((after past).endings ++ x ∷ []) ≡ length (after past).endings + 1 = length-append (after past).endings (x ∷ []) in
          omega (arith, low, long)))
        where
          x : Ending
          x = record { hart = h; «end» = reason }

          now : (after (past ++ e ∷ [])).endings ≡ (after past).endings ++ record { hart = h; «end» = reason } ∷ []
          now = ap (λ (s : State). s.endings) (after_push past e) ∙ ap (λ (d : Event). (step (after past) d).endings) is

          before : w.machine.harts ≤ length (after past).endings → IsTrue (first_exited w.machine.harts ((after past).endings ++ record { hart = h; «end» = reason } ∷ []))
              → IsTrue (have_exited w (after past))
          before within_all over =
              let both = and_parts (nat_le w.machine.harts (length ((after past).endings ++ record { hart = h; «end» = reason } ∷ [])))
              (list_all exited (take w.machine.harts ((after past).endings ++ record { hart = h; «end» = reason } ∷ []))) over in
              and_from (nat_le w.machine.harts (length (after past).endings)) (list_all exited (take w.machine.harts (after past).endings))
              (le-leb w.machine.harts (length (after past).endings) within_all)
              (ap (list_all exited) (sym (take-append-le w.machine.harts (after past).endings (record { hart = h; «end» = reason } ∷ []) within_all)) ∙ both.1)

  few_from : (past more : List Event) → journal ≡ past ++ more → AreFew (after past).endings → AreFew (after journal).endings
  few_from past [] are few = subst (λ (es : List Event). AreFew (after es).endings) (sym (are ∙ append-nil past)) few
  few_from past (e ∷ rest) are few = few_from (past ++ e ∷ []) rest (are ∙ sym (one_behind past e rest)) (few_next past e rest are few)

  pub ends_once : IsTrue (have_exited w (after journal)) → EndsOnce w journal
  unfolding after_from
  ends_once over = few_from [] journal refl (λ none. omega arith) over
