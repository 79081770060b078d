-- A turn under the lock is a round: what it settles first, and what comes behind.
use Rattle.std.proofs.Common.{◌≡◌, ⊎_elim, inl, inr, ℕ, ◌<◌, true, List, [], ◌∷◌, ◌++◌, Option, None, Some, refl, sym, ap, subst, ◌∙◌, append_assoc}
use Rattle.std.specs.Prelude.{◌⊎◌}
use Rattle.history_event.specs.declared.event.Event.{Event}
use Rattle.history_event.specs.declared.event.Event.TheVariants.{Ended}
use Rattle.history_event.specs.declared.hart_end.HartEnd.{HartEnd}
use Rattle.word_rule.specs.declared.entry.Grant.{Grant}
use Rattle.word_rule.specs.declared.view.HartView.{HartView}
use Rattle.word_rule.specs.declared.view.KeeperView.{KeeperView}
use Rattle.word_rule.specs.declared.view.OpenRow.{OpenRow}
use Rattle.word_rule.specs.KeeperSteps.{awaited_if}
use Rattle.word_rule.specs.Layout.{harts_at_most}
use Rattle.word_rule.specs.Views.{row_of}
use Rattle.history_state.specs.After.{after}
use Rattle.history_state.specs.Allowed.{MayEnd}
use Rattle.history_state.specs.Setting.{Setting}
use Rattle.history_state.specs.Slots.{HasNoGrant}
use Rattle.link_keeper.specs.Finishing.{SettledUpTo}
use Rattle.link_keeper.specs.Joining.{SettlesEnded}
use Rattle.link_keeper.specs.Passing.{PassesNext}
use Rattle.link_keeper.specs.Rounds.{AreAllRounds, AreRounds, IsSettling, IsTurnOf, WasFoundOpen}
use Rattle.link_keeper.specs.Settling.{HasSettled, SettlesAll, SettlesFirst, SettlesOrRests}

-- once all rows were asked
pub all_settled : (k l : KeeperView) → HasSettled harts_at_most k l → ((m : ℕ) → (row_of l m).pending ≡ None → HasNoGrant (after l.events) m) → SettlesAll k l
all_settled k l all free = record {
  settled = all.more;
  events = all.events;
  asked = all.opens;
  opened = all.opened;
  settling = record {
    in_order = subst (λ (es : List Event). SettledUpTo es harts_at_most all.more) all.events all.in_order;
    meanwhile = all.meanwhile;
    left_open = λ m low. by m low (row_of l m).pending refl;
  };
}
  where
    by : (m : ℕ) → m < harts_at_most → (g : Option Grant) → (row_of l m).pending ≡ g → HasNoGrant (after (k.events ++ all.more)) m ⊎ WasFoundOpen m all.opens
    by m low None none = inl (subst (λ (es : List Event). HasNoGrant (after es) m) all.events (free m none))
    by m low (Some g) waits = inr (all.left_open m g low waits)

-- the hart itself was awaited before
pub settled_first : (h : ℕ) (k0 k l : KeeperView) → k ≡ awaited_if h true k0 → HasSettled harts_at_most k l → ((m : ℕ) → (row_of l m).pending ≡ None → HasNoGrant (after l.events) m)
    → SettlesAll k0 l
settled_first h k0 k l awaited all free =
    let x : SettlesAll k l = all_settled k l all free in
    record {
      settled = x.settled;
      events = x.events ∙ ap (λ (v : KeeperView). v.events ++ x.settled) awaited;
      asked = x.asked;
      opened = x.opened ∙ ap (λ (v : KeeperView). v.opens ++ x.asked) awaited;
      settling = subst (λ (es : List Event). IsSettling es x.settled x.asked) (ap (λ (v : KeeperView). v.events) awaited) x.settling;
    }

-- and then the events of the turn came
pub own_behind_settled : (w : Setting) (h : ℕ) (k0 k l : KeeperView) (own : List Event) → SettlesAll k0 k → HasNoGrant (after k.events) h → l.events ≡ k.events ++ own → IsTurnOf w k.events h own → l.opens ≡ k.opens
    → SettlesFirst w h k0 l
own_behind_settled w h k0 k l own first free are turn opens = record {
  settled = first.settled;
  own = own;
  events = are ∙ ap (λ (es : List Event). es ++ own) first.events ∙ append_assoc k0.events first.settled own;
  asked = first.asked;
  opened = opens ∙ first.opened;
  round = record {
    first = first.settling;
    free = subst (λ (es : List Event). HasNoGrant (after es) h) first.events free;
    turn = subst (λ (es : List Event). IsTurnOf w es h own) first.events turn;
  };
}

-- and so did the end of the hart
pub end_behind_settled : (w : Setting) (h : ℕ) (k0 k l : KeeperView) (before i : HartView) (id : ℕ) (reason : HartEnd) → id ≡ h → SettlesAll k0 k → HasNoGrant (after k.events) id → MayEnd w (after k.events) id
    → PassesNext id (Ended id reason) k l before i → SettlesFirst w h k0 l
end_behind_settled w h k0 k l before i id reason same first free may next = subst (λ (n : ℕ). SettlesFirst w n k0 l) same
    (own_behind_settled w id k0 k l (Ended id reason ∷ []) first free (ap (λ (x : KeeperView). x.events) next.keeper) (IsTurnOf.by_end reason may) (ap (λ (x : KeeperView). x.opens) next.keeper))

-- ---- the rounds so far

pub one_round_more : (w : Setting) (begun : List Event) (h : ℕ) (k l : KeeperView) → AreRounds w begun k.events k.opens → SettlesFirst w h k l → AreRounds w begun l.events l.opens
one_round_more w begun h k l before x = subst (λ (p : List Event × List OpenRow). AreRounds w begun p.0 p.1) (λ i. (sym x.events i, sym x.opened i))
    (AreRounds.one_more k.events x.settled x.own h k.opens x.asked before x.round)

pub one_or_none_more : (w : Setting) (begun : List Event) (h : ℕ) (k l : KeeperView) → AreRounds w begun k.events k.opens → SettlesOrRests w h k l → AreRounds w begun l.events l.opens
one_or_none_more w begun h k l before x = ⊎_elim
    (λ (same : l ≡ k). subst (λ (v : KeeperView). AreRounds w begun v.events v.opens) (sym same) before)
    (λ (more : SettlesFirst w h k l). one_round_more w begun h k l before more)
    x

-- the last grants were settled, and none was found open
pub all_rounds : (w : Setting) (begun : List Event) (k l : KeeperView) → AreRounds w begun k.events k.opens → SettlesEnded harts_at_most k l
    → ((m : ℕ) → (row_of l m).pending ≡ None → HasNoGrant (after l.events) m) → AreAllRounds w begun l.events l.opens
all_rounds w begun k l before ended free = record {
  past = k.events;
  rounds = subst (AreRounds w begun k.events) (sym ended.unasked) before;
  settled = ended.settled.more;
  events_are = ended.settled.events;
  in_order = ended.settled.in_order;
  free = λ m low. free m (ended.none m low);
}
