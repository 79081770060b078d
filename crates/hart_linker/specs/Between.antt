-- A hart between two turns, as it goes on whatever other harts do. For the keeper, which serves it, and for the loop of a hart.
use Rattle.std.specs.Prelude.{◌≡◌, ◌⊎◌, ℕ, ◌≤◌, ◌<◌, Bool, ◌==◌, ◌||◌, true, false, List, [], length, None, Some, Contains}
use Rattle.history_event.specs.declared.event.Event.{Event}
use Rattle.word_rule.specs.declared.entry.Entry.{Entry}
use Rattle.word_rule.specs.declared.entry.Grant.{Grant}
use Rattle.word_rule.specs.declared.view.HartView.{HartView}
use Rattle.word_rule.specs.Views.{BeginsWith, known_of, last_block}
use Rattle.slot_bind.specs.Rows.{full_offer}
use Rattle.history_state.specs.After.{after}
use Rattle.history_state.specs.Legal.{Legal}
use Rattle.history_state.specs.Setting.{Setting}
use Rattle.tls_blocks.specs.Blocks.{BlockTable, block_at}
use Rattle.history_calls.specs.Gives.{HasBlock}
use Rattle.hart_moves.specs.Follows.{HasNone}
use Rattle.hart_moves.specs.Harts.{HartState, Offered, Resolving}
use Rattle.hart_moves.specs.Trails.{event_from}
use Rattle.hart_moves.specs.TurnEvents.Appends.{has_finals}
use Rattle.hart_trails.specs.Entries.{IsExchange}
use Rattle.hart_trails.specs.Owners.{AreOfHarts}
use Rattle.hart_fits.specs.Fits.{HartFits}

abbrev is_event_mark : ℕ → Bool
is_event_mark mark = mark == 1 || mark == 3

-- it has heard a legal history, of each event of which it has an entry too
pub record HasHeard (w : Setting) (begun : List Event) (h : HartView) : Type 0 where
  pub legal : Legal w h.heard
  pub begins : BeginsWith h.heard begun
  -- each of them is that of a hart of the machine, or nobody's
  pub own : AreOfHarts w h.heard
  pub entries : (e : Entry) → Contains (known_of h.lane) e → is_event_mark e.mark ≡ true → e.number ≤ length h.heard

-- it was told of events of which none is its own, and nothing else of it has changed
pub record Hears (w : Setting) (begun : List Event) (before now : HartView) : Type 0 where
  pub told : now ≡ record before { heard = now.heard }
  pub longer : BeginsWith now.heard before.heard
  pub none : HasNone now.heard before.number (length before.heard) (length now.heard)
  pub heard : HasHeard w begun now

-- an entry of this generation is among these, or there is none at all
abbrev pub HaveReached : ℕ → List Entry → Type 0
HaveReached generation entries = (entries ≡ []) ⊎ ((e : Entry) × Contains entries e × (e.generation ≡ generation))

-- of each module it keeps the block of the last answer at the generation that it kept them at, and no answer of a later one came
pub record BlocksFit (d : BlockTable) (h : HartView) : Type 0 where
  pub same : (number : ℕ) → block_at d.entries number ≡ last_block d.generation number (known_of h.lane)
  pub latest : (generation number : ℕ) → d.generation < generation → last_block generation number (known_of h.lane) ≡ None

-- that is the generation of what it has heard, unless nothing was answered yet; and each is the hart's block of its module there
pub record AreCurrent (d : BlockTable) (h : HartView) : Type 0 where
  pub current : (d.generation ≡ (after h.heard).generation) ⊎ (known_of h.lane ≡ [])
  pub are : (number block : ℕ) → block_at d.entries number ≡ Some block → HasBlock (after h.heard) h.number number block

-- the grant in its row, which it has read in full, is the one that it is to exchange
pub record HasGrant (h : HartView) (o : Offered) : Type 0 where
  pub grant : Grant
  pub read : h.lane.offer ≡ Some (full_offer grant)
  pub untried : h.lane.tried ≡ None
  pub is : (found : ℕ) → IsExchange h.heard (event_from 1 h.heard o.number) o found (record { grant = grant; found = found })

-- where its calls stand, by how far it is with a slot
abbrev pub IsAtRow : HartView → Resolving → Type 0
IsAtRow h Resolving.idle = h.lane.calling ≡ false
IsAtRow h (Resolving.to_exchange o) = HasGrant h o
IsAtRow h (Resolving.to_finish o found) = ⊥
IsAtRow h (Resolving.to_settle o found) = h.lane.calling ≡ false

-- while it runs it fits what it has heard, and so do its blocks
pub record IsBetweenTurns (w : Setting) (begun : List Event) (h : HartView) (b : HartState) (d : BlockTable) : Type 0 where
  pub heard : HasHeard w begun h
  pub fits : b.«end» ≡ None → HartFits w h.heard h.number b
  pub row : IsAtRow h b.resolving
  pub blocks : BlocksFit d h
  -- they aren't of a later generation than what it has heard
  pub early : d.generation ≤ (after h.heard).generation
  pub current : b.«end» ≡ None → AreCurrent d h
  -- before the final destructors an entry of that generation came: so it reads no earlier one
  pub reached : b.«end» ≡ None → has_finals b.frames ≡ false → HaveReached d.generation (known_of h.lane)
