-- An answer that is no event is passed to its hart, and what it keeps of an answer.
use Rattle.std.proofs.Common.{◌≡◌, ◌⊎◌, ⊎_elim, ℕ, zero, suc, ◌<◌, ◌≤◌, ◌==◌, ◌&&◌, Bool, true, false, if◌then◌else◌, get_or, List, [], ◌∷◌, ◌++◌, length, Option, None, Some, refl, sym, ap, subst, ◌∙◌, append-nil, arith, lt_of_not-le}
use mathlib.Core.Logic.{dite}
use native.Mathlib.Decide.{dec_le}
use Rattle.std.proofs.Math.Bool.{and-true}
use Rattle.std.proofs.lemmas.Bool.{eqb-true}
use Rattle.word_rule.specs.declared.entry.Entry.{Entry}
use Rattle.word_rule.specs.declared.view.HartView.{HartView}
use Rattle.word_rule.specs.declared.view.KeeperView.{KeeperView}
use Rattle.word_rule.specs.declared.view.Row.{Row}
use Rattle.word_rule.specs.declared.view.TrailItem.TheVariants.{Took}
use Rattle.word_rule.specs.KeeperSteps.{handed}
use Rattle.word_rule.specs.Layout.{harts_at_most}
use Rattle.word_rule.specs.Views.{known_of, no_row, row_of}
use Rattle.slot_bind.specs.Rows.{handed_over, row_with}
use Rattle.history_event.specs.declared.event.Event.{Event}
use Rattle.history_event.specs.declared.state.Module.{Module}
use Rattle.history_state.specs.Lemmas.Lists.{found_in, none_in}
use Rattle.history_state.specs.Setting.{Setting}
use Rattle.tls_blocks.specs.declared.entry.Entry.{Entry as BlockEntry}
use Rattle.tls_blocks.specs.Blocks.{BlockTable, block_at}
use Rattle.tls_blocks.specs.Numbers.{module_at}
use Rattle.kept_words.specs.Handed.{IsIssued, is_event_mark}
use Rattle.kept_words.specs.Keeping.{AnsweredKept}
use Rattle.link_keeper.specs.Handing.{IsPassed, KeepsAnswer, MayHandOver, is_stored}
use Rattle.link_keeper.specs.Keeping.{KeepsView}
use Rattle.link_keeper.specs.Passing.{InStep, IsNoEvents, took}
use Rattle.link_keeper.proofs.Kept.{inside, row_field}

beyond : (rows : List Row) (j : ℕ) (d : Row) → length rows ≤ j → get_or rows j d ≡ d
beyond [] j d long = refl
beyond (r ∷ rest) zero d long = absurd (omega (arith, long))
beyond (r ∷ rest) (suc j) d long = beyond rest j d (omega (arith, long))

module _ (w : Setting) (begun : List Event) (k : KeeperView) (h : HartView) (id : ℕ) (entry : Entry) (hand : MayHandOver w begun k h id) (mark : (entry.mark ≡ 2) ⊎ (entry.mark ≡ 6))
    (number : entry.number ≡ length k.events) where
  pub no_events : entry.generation ≡ k.generation → IsNoEvents k entry
  no_events generation = record {
    mark = mark;
    number = number;
    generation = omega (arith, generation);
    open_rows = λ six three j g waits. dite (dec_le harts_at_most j)
        (λ (far : harts_at_most ≤ j).
        let long : length k.rows ≡ harts_at_most = hand.view.kept.long.1 in
        let none_there : row_of k j ≡ no_row = beyond k.rows j no_row (omega (arith, far, long)) in
        absurd (let bad : None ≡ Some g = sym (ap (λ (r : Row). r.pending) none_there) ∙ waits in cc))
        (λ (near : harts_at_most ≤ j → ⊥). (hand.found j (lt_of_not-le near) g waits).0);
  }

  few : id < harts_at_most
  few = let all : w.machine.harts ≤ harts_at_most = hand.view.kept.few in let low : id < w.machine.harts = hand.low in omega (arith, all, low)

  no_event_mark : is_event_mark entry.mark ≡ false
  no_event_mark = ⊎_elim (λ (two : entry.mark ≡ 2). ap is_event_mark two) (λ (six : entry.mark ≡ 6). ap is_event_mark six) mark

  pub answer_passed : AnsweredKept → IsIssued w k.events id entry → (l : KeeperView) (i : HartView) → l ≡ handed_over id entry k → i ≡ took entry l.events h → InStep l i
      → IsPassed w begun k l h i [] (Took entry ∷ []) entry
  answer_passed answered issued l i hands takes step =
      let events_are : l.events ≡ k.events = ap (λ (y : KeeperView). y.events) hands in
      let pending : (m : ℕ) → (row_of (handed_over id entry k) m).pending ≡ (row_of k m).pending =
      row_field (λ (y : Row). y.pending) k id (handed entry.mark (row_with entry (row_of k id))) (inside k id hand.view.kept.long few) refl in
      record {
        view = subst (KeepsView w begun) (sym hands) (record {
          kept = answered w begun k id entry hand.view.kept hand.low mark issued;
          pending = λ m g low waits. hand.view.pending m g low (sym (pending m) ∙ waits);
          last = hand.view.last;
        });
        events = events_are ∙ sym (append-nil k.events);
        number = ap (λ (y : HartView). y.number) takes;
        heard = ap (λ (y : HartView). y.heard) takes;
        step = step;
        trail = ap (λ (y : HartView). y.trail) takes;
        more = [];
        known = ap (λ (y : HartView). known_of y.lane) takes ∙ append-nil (h.lane.taken ++ entry ∷ []);
        low = λ event. absurd (let bad : false ≡ true = sym no_event_mark ∙ event in cc);
        plain = λ e there. absurd (none_in e there);
        opens = ap (λ (y : KeeperView). y.opens) hands;
        pending = λ m apart. ap (λ (y : KeeperView). (row_of y m).pending) hands ∙ pending m;
      }

-- ---- what the hart keeps

pub keeps_one : (generation : ℕ) (e : Entry) (d mid now : BlockTable) (modules : List Module) (m : Module) → module_at modules e.slot ≡ Some m → is_stored e ≡ true
    → mid.entries ≡ (if d.generation == generation then d.entries else []) → mid.generation ≡ generation
    → ((number : ℕ) → block_at now.entries number ≡ (if m.number == number then Some e.value else block_at mid.entries number)) → now.generation ≡ mid.generation → KeepsAnswer generation e d now
keeps_one generation e d mid now modules m at stored entries set blocks same = record {
  generation_is = same ∙ set;
  blocks = λ number.
      blocks number
      ∙ ap (λ (n : ℕ). if n == number then Some e.value else block_at mid.entries number) (eqb-true m.number e.slot (found_in (λ (x : Module). x.number == e.slot) modules m at).1)
      ∙ ap (λ (t : Bool). if t then Some e.value else block_at mid.entries number) (sym (and-true (e.slot == number)) ∙ ap (λ (t : Bool). (e.slot == number) && t) (sym stored))
      ∙ ap (λ (o : Option ℕ). if (e.slot == number) && is_stored e then Some e.value else o) (ap (λ es. block_at es number) entries ∙ by (d.generation == generation) number);
}
  where
    by : (t : Bool) (number : ℕ) → block_at (if t then d.entries else []) number ≡ (if t then block_at d.entries number else None)
    by true number = refl
    by false number = refl

pub at_generation : (d : BlockTable) {entries : List BlockEntry} {found generation : ℕ} → found ≡ generation → entries ≡ (if d.generation == found then d.entries else [])
    → entries ≡ (if d.generation == generation then d.entries else [])
at_generation d same are = are ∙ ap (λ (n : ℕ). if d.generation == n then d.entries else []) same
