-- A hart is told of all events and calls, and grants are settled.
use Rattle.std.proofs.Common.{◌≡◌, ℕ, ◌+◌, ◌<◌, ◌≤◌, true, List, ◌++◌, length, length-append, Option, None, Some, refl, sym, ap, subst, ◌∙◌, append_assoc, arith}
use Rattle.std.specs.List.{Contains}
use Rattle.history_event.specs.declared.event.Event.{Event}
use Rattle.word_rule.specs.declared.entry.Entry.{Entry}
use Rattle.word_rule.specs.declared.entry.Grant.{Grant}
use Rattle.word_rule.specs.declared.view.HartView.{HartView}
use Rattle.word_rule.specs.declared.view.KeeperView.{KeeperView}
use Rattle.word_rule.specs.declared.view.Row.{Row}
use Rattle.word_rule.specs.KeeperSteps.{awaited_if, not_found}
use Rattle.word_rule.specs.Layout.{harts_at_most}
use Rattle.word_rule.specs.Views.{BeginsWith, IsLong, NoneAbove, known_of, readings_of, row_of}
use Rattle.slot_bind.specs.Rows.{begun}
use Rattle.history_state.specs.After.{after}
use Rattle.history_state.specs.Setting.{Setting}
use Rattle.history_state.specs.Slots.{HasNoGrant}
use Rattle.hart_moves.specs.Follows.{HasNone}
use Rattle.hart_trails.specs.Lemmas.Rising.{generation_rises}
use Rattle.link_state.specs.Table.{LinkTable}
use Rattle.kept_words.specs.Handed.{TailHasNone}
use Rattle.kept_words.specs.Keeping.{AlikeKept, AwaitedIsAlike, IsAlike}
use Rattle.link_keeper.specs.Attending.{Attends, NobodysCame}
use Rattle.hart_linker.specs.Between.{HasHeard}
use Rattle.link_keeper.specs.Keeping.{KeepsState, KeepsView}
use Rattle.link_keeper.specs.Passing.{InStep, IsCalling}
use Rattle.link_keeper.specs.Settling.{HasSettled}
use Rattle.link_keeper.proofs.Fitting.{none_more}
use Rattle.link_keeper.proofs.Passed.{here_awaited}

-- a hart is found calling: what is kept stays
pub awaited_view : AlikeKept → AwaitedIsAlike → (w : Setting) (begun : List Event) (k : KeeperView) (id : ℕ) → id < harts_at_most → KeepsView w begun k → KeepsView w begun (awaited_if id true k)
awaited_view alike awaits w begun k id low view =
    let is : IsAlike k (awaited_if id true k) = awaits k id view.kept.long low in
    record {
      kept = alike w begun k (awaited_if id true k) is view.kept;
      pending = λ m g few waits. view.pending m g few (sym (is.pending m) ∙ waits);
      last = view.last;
    }

pub awaited_state : AlikeKept → AwaitedIsAlike → (w : Setting) (begun : List Event) (state : LinkTable) (k k1 : KeeperView) (id : ℕ) → id < harts_at_most → KeepsState w begun state k
    → k1 ≡ awaited_if id true k → KeepsState w begun state k1
awaited_state alike awaits w begun state k k1 id low keeps is = record {
  view = subst (KeepsView w begun) (sym is) (awaited_view alike awaits w begun k id low keeps.view);
  machine = keeps.machine;
  same = ap (λ (x : KeeperView). x.events) is ∙ keeps.same;
}

module _ (tail : TailHasNone) (w : Setting) (given : List Event) (k0 k1 k2 : KeeperView) (before h1 h2 : HartView) (id : ℕ) (view : KeepsView w given k0) (heard : HasHeard w given before)
    (idle : before.lane.offer ≡ None) (same : id ≡ before.number) (low : id < harts_at_most) (found : k1 ≡ awaited_if id true k0) (told : h1 ≡ record before { heard = k0.events })
    (begins : BeginsWith k0.events before.heard) (issued : known_of before.lane ≡ (row_of k0 before.number).issued) (calls : h2 ≡ begun h2.lane.seen h1) (calling : IsCalling h2) (step : InStep k1 h2)
    (settled : HasSettled 16 k1 k2) (readings : NoneAbove k0.generation (readings_of before.trail)) where
  long : IsLong k0
  long = view.kept.long

  row : row_of k1 id ≡ record (not_found (row_of k0 id)) { since = Some (length k0.events) }
  row = ap (λ (x : KeeperView). row_of x id) found ∙ here_awaited k0 id long low

  since : (row_of k2 id).since ≡ Some (length k0.events)
  since = settled.since id ∙ ap (λ (r : Row). r.since) row

  is_settled : (p : Option Grant) → (row_of k2 id).pending ≡ p → p ≡ None
  is_settled None is = refl
  is_settled (Some g) is = absurd (let no : Some (length k0.events) ≡ None = sym since ∙ (settled.found id low g is).1 in cc)

  number_is : h2.number ≡ before.number
  number_is = ap (λ (x : HartView). x.number) calls ∙ ap (λ (x : HartView). x.number) told

  events_are : k2.events ≡ k0.events ++ settled.more
  events_are = settled.events ∙ ap (λ (x : KeeperView). x.events ++ settled.more) found

  begun_low : length given ≤ length before.heard
  begun_low = let whole : length before.heard ≡ length given + length heard.begins.0 = ap length heard.begins.1 ∙ length-append given heard.begins.0 in omega (arith, whole)

  none_yet : HasNone k0.events id (length before.heard) (length k0.events)
  none_yet = tail given k0 id (length before.heard) low begun_low view.kept.handed
      (λ e there event. heard.entries e (subst (λ (es : List Entry). Contains es e) (ap (λ (n : ℕ). (row_of k0 n).issued) same ∙ sym issued) there) event)

  pub attends : ((row_of k2 id).pending ≡ None → HasNoGrant (after k2.events) id) → Attends k2 before h2 id
  attends free = record {
    calling = calling;
    step = step ∙ sym (settled.issued h2.number);
    may = record {
      waits = (length k0.events, (low, since, is_settled (row_of k2 id).pending refl));
      counted = let whole : length k2.events ≡ length k0.events + length settled.more = ap length events_are ∙ length-append k0.events settled.more in omega (arith, whole);
    };
    number = number_is;
    trail = ap (λ (x : HartView). x.trail) calls ∙ ap (λ (x : HartView). x.trail) told;
    taken = ap (λ (x : HartView). x.lane.taken) calls ∙ ap (λ (x : HartView). x.lane.taken) told;
    longer = (begins.0 ++ settled.more, events_are ∙ ap (λ (es : List Event). es ++ settled.more) begins.1 ∙ append_assoc before.heard begins.0 settled.more);
    none = subst (λ (es : List Event). HasNone es id (length before.heard) (length es)) (sym events_are) (none_more id (length before.heard) k0.events settled.more none_yet settled.nobodys);
    free = free (is_settled (row_of k2 id).pending refl);
    found = settled.found;
    read = λ n there.
        let low : n ≤ k0.generation = readings n there in
        let is : k0.generation ≡ (after k0.events).generation = view.kept.generation in
        let rises : (after k0.events).generation ≤ (after k2.events).generation =
        subst (λ (es : List Event). (after k0.events).generation ≤ (after es).generation) (sym events_are) (generation_rises k0.events settled.more) in
        omega (arith, low, is, rises);
  }

pub nobodys_came : (k0 k1 k2 : KeeperView) (id : ℕ) → k1 ≡ awaited_if id true k0 → HasSettled 16 k1 k2 → NobodysCame k0.events k2.events
nobodys_came k0 k1 k2 id found settled = record { more = settled.more; are = settled.events ∙ ap (λ (x : KeeperView). x.events ++ settled.more) found; nobodys = settled.nobodys }
