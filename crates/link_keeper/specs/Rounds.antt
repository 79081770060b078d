-- A run on threads goes round after round, each a turn under the keeper's lock. For whoever makes and closes a keeper, and for whoever reads what a run
-- promises.
use Rattle.std.specs.Prelude.{◌≡◌, ◌⊎◌, ℕ, ◌≤◌, ◌<◌, List, [], ◌∷◌, ◌++◌, length, Contains}
use Rattle.history_event.specs.declared.event.Event.{Event}
use Rattle.history_event.specs.declared.event.Event.TheVariants.{Ended}
use Rattle.history_event.specs.declared.hart_end.HartEnd.{HartEnd}
use Rattle.word_rule.specs.declared.view.OpenRow.{OpenRow}
use Rattle.word_rule.specs.Layout.{harts_at_most}
use Rattle.history_state.specs.After.{after}
use Rattle.history_state.specs.Allowed.{MayEnd}
use Rattle.history_state.specs.Setting.{Setting}
use Rattle.history_state.specs.Slots.{HasNoGrant}
use Rattle.hart_fits.specs.Fits.{HartFits}
use Rattle.hart_moves.specs.Harts.{HartState}
use Rattle.hart_moves.specs.Moves.{Did, Moves, events_of}
use Rattle.link_keeper.specs.Finishing.{SettledUpTo}

-- its row was found open, once among these times
abbrev pub WasFoundOpen : ℕ → List OpenRow → Type 0
WasFoundOpen m asked = (x : OpenRow) × Contains asked x × (x.hart ≡ m)

-- at each of these times there were no fewer events than before, and no more than with all that were new
abbrev pub CameAmong : (past new : List Event) → List OpenRow → Type 0
CameAmong past new asked = (x : OpenRow) → Contains asked x → (length past ≤ x.number) × (x.number ≤ length (past ++ new))

-- behind these events grants are settled, in the order of their harts. Each hart whose grant is open still was asked for it meanwhile, and wasn't done with it
pub record IsSettling (past settled : List Event) (asked : List OpenRow) : Type 0 where
  pub in_order : SettledUpTo (past ++ settled) harts_at_most settled
  pub meanwhile : CameAmong past settled asked
  pub left_open : (m : ℕ) → m < harts_at_most → HasNoGrant (after (past ++ settled)) m ⊎ WasFoundOpen m asked

-- these are the events of one turn of a hart: those of a move of one that fits what stood before; or its end, which it may have by the rule of ends. What
-- it ended for isn't said here: the hart's trail says it
pub data IsTurnOf (w : Setting) (past : List Event) (h : ℕ) : List Event → Type 0 where
  by_move : (b c : HartState) (did : Did) → HartFits w past h b → Moves w past h b did c → IsTurnOf w past h (events_of did)
  by_end : (reason : HartEnd) → MayEnd w (after past) h → IsTurnOf w past h (Ended h reason ∷ [])

-- a hart's turn under the lock, behind these events: first grants are settled, so that the hart's own isn't open, and then come the events of the turn
pub record IsRound (w : Setting) (past settled own : List Event) (h : ℕ) (asked : List OpenRow) : Type 0 where
  pub first : IsSettling past settled asked
  pub free : HasNoGrant (after (past ++ settled)) h
  pub turn : IsTurnOf w (past ++ settled) h own

-- behind these events others came round after round; and so did the times at which a hart was asked and wasn't done
pub data AreRounds (w : Setting) (begun : List Event) : List Event → List OpenRow → Type 0 where
  none_yet : AreRounds w begun begun []
  one_more : (past settled own : List Event) (h : ℕ) (before asked : List OpenRow) → AreRounds w begun past before → IsRound w past settled own h asked
      → AreRounds w begun (past ++ (settled ++ own)) (before ++ asked)

-- and behind the rounds the last grants were settled, so that none is open
pub record AreAllRounds (w : Setting) (begun events : List Event) (asked : List OpenRow) : Type 0 where
  pub past : List Event
  pub rounds : AreRounds w begun past asked
  pub settled : List Event
  pub events_are : events ≡ past ++ settled
  pub in_order : SettledUpTo events harts_at_most settled
  pub free : (m : ℕ) → m < harts_at_most → HasNoGrant (after events) m
