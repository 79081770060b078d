-- What holds of a run at each moment.
use Rattle.std.specs.Prelude.{◌≡◌, ℕ, List, length, Some}
use Rattle.std.specs.List.{slice_get}
use Rattle.history_event.specs.declared.hart_end.HartEnd.{HartEnd}
use Rattle.history_event.specs.declared.state.Granting.{Granting}
use Rattle.rv_hart.specs.declared.doubleword.Doubleword.{Doubleword}
use Rattle.history_state.specs.After.{after}
use Rattle.history_state.specs.Legal.{Legal}
use Rattle.history_state.specs.Setting.{Setting}
use Rattle.history_state.specs.Slots.{HasNoGrant, IsOpenGrant}
use Rattle.history_state.specs.State.{State}
use Rattle.history_memory.specs.Holds.{Holds}
use Rattle.hart_moves.specs.Harts.{HartState, Offered, Resolving}
use Rattle.hart_moves.specs.Moves.{IsOffer, settled_resolving, word_left}
use Rattle.world_turns.specs.Memory.{doubleword, memory_of, word_count}
use Rattle.world_turns.specs.World.{World, winners}

-- the offer is that of the hart's open grant
pub record HasOffer (s : State) (h : ℕ) (o : Offered) : Type 0 where
  pub grant : Granting
  pub is : IsOpenGrant s o.number grant
  pub of : grant.hart ≡ h
  pub offer : IsOffer s grant o

-- and the slot holds what the exchange left there
pub record HasExchanged (s : State) (words : List Doubleword) (h : ℕ) (o : Offered) (found : ℕ) : Type 0 where
  pub offers : HasOffer s h o
  pub holds : (doubleword words o.slot).value ≡ word_left o found

-- how far a hart is with a slot fits the grants of the state: a hart that isn't at one has no open grant
abbrev pub Fits : State → List Doubleword → ℕ → Resolving → Type 0
Fits s words h Resolving.idle = HasNoGrant s h
Fits s words h (Resolving.to_exchange o) = HasOffer s h o
Fits s words h (Resolving.to_finish o found) = HasExchanged s words h o found
Fits s words h (Resolving.to_settle o found) = HasExchanged s words h o found

-- the journal is legal, memory is as it says, and so are the harts' places
pub record Sound (w : Setting) (world : World) : Type 0 where
  pub legal : Legal w world.journal
  pub harts : length world.harts ≡ w.machine.harts
  pub words : length world.words ≡ word_count
  pub holds : Holds (after world.journal) (winners world.harts) (memory_of world.words)
  -- a hart that has ended is at no slot, but that a grant of its may be left to settle
  pub rests : (h : ℕ) (b : HartState) (reason : HartEnd) → slice_get world.harts h ≡ Some b → b.«end» ≡ Some reason
      → settled_resolving b.resolving ≡ Resolving.idle
  pub fits : (h : ℕ) (b : HartState) → slice_get world.harts h ≡ Some b → Fits (after world.journal) world.words h b.resolving
