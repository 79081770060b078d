-- What other harts leave of a hart that is told of their events.
use Rattle.std.proofs.Common.{◌≡◌, ⊎_elim, inl, inr, ℕ, zero, suc, ◌+◌, ◌-◌, ◌==◌, ◌<◌, ◌≤◌, List, [], ◌∷◌, ◌++◌, length, length-append, None, Some, IsTrue, refl, sym, ap, subst, ◌∙◌, append_assoc, arith, lt_of_not-le}
use mathlib.Core.Logic.{dite}
use native.Mathlib.Decide.{dec_le}
use Rattle.std.proofs.Math.Seq.{take-append_seam}
use Rattle.std.specs.List.{Contains, slice_get}
use Rattle.std.proofs.lemmas.Bool.{and_parts}
use Rattle.std.proofs.lemmas.Option.{slice_get_within}
use Rattle.history_event.specs.declared.event.Event.{Event}
use Rattle.word_rule.specs.declared.view.KeeperView.{KeeperView}
use Rattle.history_state.specs.After.{after}
use Rattle.history_state.specs.Allowed.{Allowed}
use Rattle.history_state.specs.Legal.{Legal}
use Rattle.history_state.specs.Lemmas.History.{legal_is_lawful, one_behind}
use Rattle.history_state.specs.Lemmas.Lists.{at_in, first_or_later, none_in}
use Rattle.history_state.specs.Lemmas.Tidy.{in_at}
use Rattle.history_state.specs.Setting.{Setting, are_finals, have_exited}
use Rattle.history_state.specs.State.{State}
use Rattle.history_calls.specs.Laws.{hart_of}
use Rattle.hart_moves.specs.Follows.{AreOthers, HasNone}
use Rattle.hart_moves.specs.Harts.{HartState}
use Rattle.hart_moves.specs.Moves.{AreAllowed}
use Rattle.hart_fits.specs.Fits.{HartFits, IsBefore, IsInFinals, OthersLeaveHart}
use Rattle.hart_fits.specs.Lemmas.Owners.{owners_end}
use Rattle.hart_fits.specs.Lemmas.Settling.{all_settled}
use Rattle.hart_fits.specs.Lemmas.Waits.{others_leave_waits}
use Rattle.hart_fits.specs.Over.{EndsWithin}
use Rattle.hart_fits.specs.Waits.{HartWaits}
use Rattle.link_keeper.specs.Keeping.{KeepsView, WasOver}

-- ---- a legal history, from a moment on

unfolding_legal : (w : Setting) (past : List Event) (e : Event) (rest : List Event) → Legal w (past ++ e ∷ rest) → Allowed w past e
unfolding Legal
unfolding_legal w past e rest legal = subst (λ (es : List Event). Allowed w es e) (take-append_seam past (e ∷ rest)) (legal (length past) e (at_seam past e rest))
  where
    at_seam : (past : List Event) (e : Event) (rest : List Event) → slice_get (past ++ e ∷ rest) (length past) ≡ Some e
    at_seam [] e rest = refl
    at_seam (x ∷ past) e rest = at_seam past e rest

pub allowed_from : (w : Setting) (past more : List Event) → Legal w (past ++ more) → AreAllowed w past more
allowed_from w past [] legal = tt
allowed_from w past (e ∷ rest) legal =
    (unfolding_legal w past e rest legal, allowed_from w (past ++ e ∷ []) rest (subst (Legal w) (sym (one_behind past e rest)) legal))

-- ---- none of a hart's own

-- in what comes behind some events
behind_get : {X : Type 0} (past more : List X) (k : ℕ) → slice_get (past ++ more) (length past + k) ≡ slice_get more k
behind_get {X} [] more k = let same : 0 + k ≡ k = omega arith in ap (slice_get more) same
behind_get {X} (x ∷ past) more k = let same : length (x ∷ past) + k ≡ suc (length past + k) = omega arith in ap (slice_get (x ∷ (past ++ more))) same ∙ behind_get past more k

pub others_behind : (h : ℕ) (past more : List Event) → HasNone (past ++ more) h (length past) (length (past ++ more)) → AreOthers h more
others_behind h past more none e there =
    let at = in_at more e there in
    let low : at.0 < length more = slice_get_within more at.0 e at.1 in
    let long : length (past ++ more) ≡ length past + length more = length-append past more in
    none (length past + at.0) e (omega arith) (omega (arith, low, long)) (behind_get past more at.0 ∙ at.1)

-- and of more behind those of nobody
pub none_more : (h from : ℕ) (past more : List Event) → HasNone past h from (length past) → ((e : Event) → Contains more e → hart_of e ≡ None) → HasNone (past ++ more) h from (length (past ++ more))
none_more h from past more none nobodys k e above below at = dite (dec_le (length past) k)
    (λ (behind : length past ≤ k).
    let place : length past + (k - length past) ≡ k = omega (arith, behind) in
    let there : Contains more e = at_in more (k - length past) e (sym (behind_get past more (k - length past)) ∙ ap (slice_get (past ++ more)) place ∙ at) in
    λ own. let no : None ≡ Some h = sym (nobodys e there) ∙ own in absurd cc)
    (λ (front : length past ≤ k → ⊥).
    let low : k < length past = lt_of_not-le front in
    none k e above low (sym (front_same past more k low) ∙ at))
  where
    front_same : {X : Type 0} (xs ys : List X) (n : ℕ) → n < length xs → slice_get (xs ++ ys) n ≡ slice_get xs n
    front_same {X} [] ys n low = absurd (omega (arith, low))
    front_same {X} (z ∷ xs) ys zero low = refl
    front_same {X} (z ∷ xs) ys (suc n) low = front_same xs ys n (omega (arith, low))

-- ---- what a hart fits

exits : (w : Setting) (s : State) → IsTrue (are_finals w s) → IsTrue (have_exited w s)
exits w s over = (and_parts (length s.endings == w.machine.harts) (have_exited w s) over).1

pub fits_on : OthersLeaveHart → (w : Setting) (begun past more : List Event) (k : KeeperView) (h : ℕ) (b : HartState) → Legal w past → KeepsView w begun k → k.events ≡ past ++ more
    → HasNone k.events h (length past) (length k.events) → b.«end» ≡ None → HartFits w past h b → HartFits w k.events h b
fits_on others w begun past more k h b legal view are none runs fits = record {
  within = fits.within;
  writes = fits.writes;
  waits = subst (λ (es : List Event). HartWaits w es h b) (sym are) (others_leave_waits w past more h b apart fits.waits);
  place = ⊎_elim
      (λ (before : IsBefore past h b). inl (subst (λ (es : List Event). IsBefore es h b) (sym are)
      (others w past more h b (legal_is_lawful w past legal) (legal_is_lawful w (past ++ more) whole) (allowed_from w past more whole) apart
      (subst (EndsWithin w) are (owners_end w k.events view.kept.own)) fits.within runs before)))
      (λ (last : IsInFinals w past h b). inr (subst (λ (es : List Event). IsInFinals w es h b) (sym are) (all_settled w past more h b (nobodys last) last)))
      fits.place;
}
  where
    whole : Legal w (past ++ more)
    whole = subst (Legal w) are view.kept.legal

    apart : AreOthers h more
    apart = others_behind h past more (subst (λ (es : List Event). HasNone es h (length past) (length es)) are none)

    cut : (es : List Event) (e : Event) → Contains es e → (front : List Event) × (rest : List Event) × (es ≡ front ++ e ∷ rest)
    cut [] e there = absurd (none_in e there)
    cut (x ∷ rest) e there = ⊎_elim
        (λ (same : x ≡ e). ([], rest, (λ i. same i ∷ rest)))
        (λ (more : Contains rest e). let at = cut rest e more in (x ∷ at.0, at.1, ap (λ (es : List Event). x ∷ es) at.2))
        (first_or_later x rest e there)

    -- since every hart has ended by exit, only the first one's events come
    nobodys : IsInFinals w past h b → (e : Event) → Contains more e → hart_of e ≡ None
    nobodys last e there =
        let at = cut more e there in
        let over : WasOver w (past ++ at.0) = (past, at.0, refl, exits w (after past) last.over) in
        let split : k.events ≡ (past ++ at.0) ++ e ∷ at.1 = are ∙ ap (λ (es : List Event). past ++ es) at.2 ∙ sym (append_assoc past at.0 (e ∷ at.1)) in
        ⊎_elim
        (λ (own : hart_of e ≡ Some 0). absurd (apart e there (own ∙ ap (λ (n : ℕ). Some n) (sym last.first))))
        (λ (none : hart_of e ≡ None). none)
        (view.last (past ++ at.0) e at.1 split over)
