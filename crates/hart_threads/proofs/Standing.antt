-- A hart stays between two turns: with the same row where only its trail grows, and once it has given a grant's row back.
use Rattle.std.proofs.Common.{◌≡◌, inl, inr, ⊎_elim, ℕ, ◌≤◌, Bool, true, false, List, [], ◌∷◌, ◌++◌, length, Some, None, refl, sym, ap, subst, ◌∙◌, append-nil}
use Rattle.std.proofs.lemmas.Bool.{false≢true}
use Rattle.std.specs.List.{Contains}
use Rattle.history_event.specs.declared.event.Event.{Event}
use Rattle.word_rule.specs.declared.entry.Entry.{Entry}
use Rattle.word_rule.specs.declared.entry.Exchange.{Exchange}
use Rattle.word_rule.specs.declared.view.HartView.{HartView}
use Rattle.word_rule.specs.declared.view.TrailItem.{TrailItem}
use Rattle.word_rule.specs.Views.{known_of, last_block, read_of}
use Rattle.word_access.specs.Accesses.{with_items}
use Rattle.slot_bind.specs.Grants.{exchanged as exchanged_view, given_back}
use Rattle.slot_bind.specs.Rows.{full_offer}
use Rattle.history_state.specs.After.{after}
use Rattle.history_state.specs.Legal.{Legal}
use Rattle.history_state.specs.Setting.{Setting}
use Rattle.history_state.specs.State.{State}
use Rattle.history_state.specs.Lemmas.History.{legal_is_lawful}
use Rattle.history_calls.specs.Gives.{HasBlock}
use Rattle.tls_blocks.specs.Blocks.{BlockTable}
use Rattle.hart_moves.specs.Due.{Due, due}
use Rattle.hart_moves.specs.Harts.{HartState, Offered, Resolving}
use Rattle.hart_moves.specs.Moves.{Did, Moves, events_of, settled_resolving}
use Rattle.hart_moves.specs.TurnEvents.Appends.{has_finals}
use Rattle.hart_moves.specs.TurnEvents.Laws.{FinalsStay}
use Rattle.hart_fits.specs.Finals.{OwnMovesFit}
use Rattle.hart_fits.specs.Fits.{HartFits}
use Rattle.hart_trails.specs.Owners.{AreOfHarts}
use Rattle.hart_linker.specs.Between.{AreCurrent, BlocksFit, HasHeard, HaveReached, IsAtRow, IsBetweenTurns}

-- ---- what a hart knows

pub blocks_stay : (d : BlockTable) (before now : HartView) → known_of now.lane ≡ known_of before.lane → BlocksFit d before → BlocksFit d now
blocks_stay d before now known fit = record {
  same = λ number. fit.same number ∙ ap (last_block d.generation number) (sym known);
  latest = λ generation number later. ap (last_block generation number) known ∙ fit.latest generation number later;
}

-- with the same events and entries
pub record SameKnown (before now : HartView) : Type 0 where
  pub number : now.number ≡ before.number
  pub heard : now.heard ≡ before.heard
  pub known : known_of now.lane ≡ known_of before.lane

pub heard_stays : (w : Setting) (begun : List Event) (before now : HartView) → SameKnown before now → HasHeard w begun before → HasHeard w begun now
heard_stays w begun before now same x = record {
  legal = subst (Legal w) (sym same.heard) x.legal;
  begins = (x.begins.0, same.heard ∙ x.begins.1);
  own = subst (AreOfHarts w) (sym same.heard) x.own;
  entries = λ e there mark. subst (λ (es : List Event). e.number ≤ length es) (sym same.heard) (x.entries e (subst (λ (es : List Entry). Contains es e) same.known there) mark);
}

pub current_stays : (d : BlockTable) (before now : HartView) → SameKnown before now → AreCurrent d before → AreCurrent d now
current_stays d before now same x = record {
  current = ⊎_elim
      (λ (y : d.generation ≡ (after before.heard).generation). inl (y ∙ ap (λ (es : List Event). (after es).generation) (sym same.heard)))
      (λ (y : known_of before.lane ≡ []). inr (same.known ∙ y))
      x.current;
  are = λ number block at. subst (λ (p : List Event × ℕ). HasBlock (after p.0) p.1 number block) (λ i. (sym same.heard i, sym same.number i)) (x.are number block at);
}

-- what a hart knows has come before its final destructors where no turn begins them since
pub reached_stays : (d : BlockTable) (before now : HartView) → known_of now.lane ≡ known_of before.lane → HaveReached d.generation (known_of before.lane) → HaveReached d.generation (known_of now.lane)
reached_stays d before now known = subst (HaveReached d.generation) (sym known)

pub none_before : FinalsStay → (w : Setting) (past : List Event) (h : ℕ) (b c : HartState) (did : Did) → Moves w past h b did c → c.«end» ≡ None → has_finals c.frames ≡ false → has_finals b.frames ≡ false
none_before stay w past h b c did moves on none = by (has_finals b.frames) refl
  where
    by : (t : Bool) → has_finals b.frames ≡ t → has_finals b.frames ≡ false
    by false is = is
    by true is = absurd (false≢true (sym none ∙ stay w past h b c did moves is on))

-- ---- rows

pub row_stays : (items : List TrailItem) (h : HartView) (r : Resolving) → IsAtRow h r → IsAtRow (with_items items h) r
row_stays items h Resolving.idle x = x
row_stays items h (Resolving.to_exchange o) x = record { grant = x.grant; read = x.read; untried = x.untried; is = x.is }
row_stays items h (Resolving.to_finish o found) x = x
row_stays items h (Resolving.to_settle o found) x = x

pub row_settles : (h : HartView) (r : Resolving) → IsAtRow h r → IsAtRow h (settled_resolving r)
row_settles h Resolving.idle x = x
row_settles h (Resolving.to_exchange o) x = x
row_settles h (Resolving.to_finish o found) x = x
row_settles h (Resolving.to_settle o found) x = x

-- a hart that isn't at an exchange isn't calling
pub due_there : (s : State) (b : HartState) (o : Offered) → b.«end» ≡ None → b.resolving ≡ Resolving.to_exchange o → due s b ≡ Due.exchange o
unfolding due
due_there s b o runs is = cc

pub at_rest : (s : State) (h : HartView) (b : HartState) → b.«end» ≡ None → IsAtRow h b.resolving → ((o : Offered) → due s b ≡ Due.exchange o → ⊥) → h.lane.calling ≡ false
at_rest s h b runs row none = by b.resolving refl row
  where
    by : (r : Resolving) → b.resolving ≡ r → IsAtRow h r → h.lane.calling ≡ false
    by Resolving.idle is x = x
    by (Resolving.to_exchange o) is x = absurd (none o (due_there s b o runs is))
    by (Resolving.to_finish o found) is x = absurd x
    by (Resolving.to_settle o found) is x = x

-- ---- between two turns again

-- more stands in its trail, behind a move without events
pub stands_on : OwnMovesFit → FinalsStay → (w : Setting) (begun : List Event) (before : HartView) (items : List TrailItem) (b c : HartState) (d : BlockTable) (did : Did)
    → IsBetweenTurns w begun before b d → b.«end» ≡ None → Moves w before.heard before.number b did c → events_of did ≡ [] → IsAtRow before c.resolving
    → IsBetweenTurns w begun (with_items items before) c d
stands_on fit stay w begun before items b c d did x runs moves none row =
    let same : SameKnown before (with_items items before) = record { number = refl; heard = refl; known = refl } in
    record {
      heard = heard_stays w begun before (with_items items before) same x.heard;
      fits = λ on. subst (λ (es : List Event). HartFits w es before.number c) (ap (λ (es : List Event). before.heard ++ es) none ∙ append-nil before.heard)
          (fit w before.heard before.number b c did (legal_is_lawful w before.heard x.heard.legal) moves runs on (x.fits runs));
      row = row_stays items before c.resolving row;
      blocks = blocks_stay d before (with_items items before) refl x.blocks;
      early = x.early;
      current = λ on. current_stays d before (with_items items before) same (x.current runs);
      reached = λ on calm. reached_stays d before (with_items items before) refl (x.reached runs (none_before stay w before.heard before.number b c did moves on calm));
    }

-- only its trail is longer
pub stands_still : (w : Setting) (begun : List Event) (before : HartView) (items : List TrailItem) (b : HartState) (d : BlockTable)
    → IsBetweenTurns w begun before b d → IsBetweenTurns w begun (with_items items before) b d
stands_still w begun before items b d x =
    let same : SameKnown before (with_items items before) = record { number = refl; heard = refl; known = refl } in
    record {
      heard = heard_stays w begun before (with_items items before) same x.heard;
      fits = x.fits;
      row = row_stays items before b.resolving x.row;
      blocks = blocks_stay d before (with_items items before) refl x.blocks;
      early = x.early;
      current = λ on. current_stays d before (with_items items before) same (x.current on);
      reached = x.reached;
    }

-- ---- a grant's row is given back

-- what it knew of its row it has taken
pub known_back : (x : Exchange) (h : HartView) → h.lane.offer ≡ Some (full_offer x.grant) → x.grant.entry.mark ≡ 3
    → known_of (given_back x (exchanged_view x h)).lane ≡ known_of h.lane
known_back x h read mark =
    append-nil (h.lane.taken ++ x.grant.entry ∷ []) ∙ ap (λ o. h.lane.taken ++ read_of o) (sym read)
