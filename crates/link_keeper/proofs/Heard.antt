-- A hart is told of events.
use Rattle.std.proofs.Common.{◌≡◌, ◌+◌, ◌<◌, ◌≤◌, List, length, length-append, sym, ap, subst, ◌∙◌, arith}
use Rattle.std.specs.List.{Contains}
use Rattle.history_event.specs.declared.event.Event.{Event}
use Rattle.word_rule.specs.declared.entry.Entry.{Entry}
use Rattle.word_rule.specs.declared.view.HartView.{HartView}
use Rattle.word_rule.specs.declared.view.KeeperView.{KeeperView}
use Rattle.word_rule.specs.Layout.{harts_at_most}
use Rattle.word_rule.specs.Views.{BeginsWith, known_of, row_of}
use Rattle.history_state.specs.Legal.{Legal}
use Rattle.history_state.specs.Setting.{Setting}
use Rattle.hart_moves.specs.Follows.{HasNone}
use Rattle.hart_trails.specs.Owners.{AreOfHarts}
use Rattle.hart_linker.specs.Between.{HasHeard, Hears}
use Rattle.kept_words.specs.Handed.{TailHasNone}
use Rattle.link_keeper.specs.Keeping.{KeepsView}

pub hears_of : TailHasNone → (w : Setting) (begun : List Event) (k : KeeperView) (before now : HartView) → KeepsView w begun k → HasHeard w begun before → before.number < harts_at_most
    → now ≡ record before { heard = k.events } → BeginsWith k.events before.heard → known_of before.lane ≡ (row_of k before.number).issued → Hears w begun before now
hears_of tail w begun k before now view heard low told begins issued = record {
  told = told ∙ ap (λ (es : List Event). record before { heard = es }) (sym all);
  longer = (begins.0, all ∙ begins.1);
  none = subst (λ (es : List Event). HasNone es before.number (length before.heard) (length es)) (sym all)
      (tail begun k before.number (length before.heard) low
      (let whole : length before.heard ≡ length begun + length heard.begins.0 = ap length heard.begins.1 ∙ length-append begun heard.begins.0 in omega (arith, whole))
      view.kept.handed
      (λ e there event. heard.entries e (subst (λ (es : List Entry). Contains es e) (sym issued) there) event));
  heard = record {
    legal = subst (Legal w) (sym all) view.kept.legal;
    begins = (view.kept.begins.0, all ∙ view.kept.begins.1);
    own = subst (AreOfHarts w) (sym all) view.kept.own;
    entries = λ e there event.
        let had : e.number ≤ length before.heard = heard.entries e (subst (λ (es : List Entry). Contains es e) (ap (λ (h : HartView). known_of h.lane) told) there) event in
        let count : length now.heard ≡ length before.heard + length begins.0 = ap length (all ∙ begins.1) ∙ length-append before.heard begins.0 in
        omega (arith, had, count);
  };
}
  where
    all : now.heard ≡ k.events
    all = ap (λ (h : HartView). h.heard) told
