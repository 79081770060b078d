-- Turns that a hart and memory take alone, whatever came before.
use Rattle.std.specs.Prelude.{◌≡◌, ℕ, true, false, List, [], ◌∷◌, Option, Some, None}
use Rattle.history_event.specs.declared.event.Event.{Event}
use Rattle.history_event.specs.declared.event.Event.TheVariants.{Ended}
use Rattle.history_event.specs.declared.hart_end.HartEnd.{HartEnd}
use Rattle.history_state.specs.After.{after}
use Rattle.history_state.specs.Allowed.{MayEnd}
use Rattle.history_state.specs.Setting.{Setting}
use Rattle.rv_hart.specs.Doublewords.{DoesIn}
use Rattle.rv_hart.specs.Trail.{Chain}
use Rattle.rv_hart.specs.declared.bus.Item.{Item}
use Rattle.rv_hart.specs.declared.doubleword.Doubleword.{Doubleword}
use Rattle.hart_moves.specs.Due.{Due}
use Rattle.hart_moves.specs.Harts.{HartState}
use Rattle.hart_moves.specs.Moves.{Did, MovesAs, ended, settles}
use Rattle.world_answers.specs.Answers.{is_service}
use Rattle.hart_turns.specs.declared.turned.Turned.{Turned}
use Rattle.hart_turns.specs.declared.turned.Turned.TheVariants.{Over, Again, Ends}
use Rattle.world_turns.specs.Memory.{Does, lowest}
use Rattle.world_answers.specs.GuestsPart.Asking.{needs_linker}

-- a hart whose next turn this is took it, and runs on
pub record GoesOn (words words' : List Doubleword) (d : Due) (b c : HartState) : Type 0 where
  pub did : Did
  pub quiet : settles did ≡ false
  pub moves : (w : Setting) (past : List Event) (h : ℕ) → MovesAs w past h b d did c
  pub does : (past : List Event) → Does past words did words'
  pub runs : c.«end» ≡ None
  pub no_call : is_service d ≡ false

-- or took it but for its end, which is to be noted. It is as far with its slot as it was
pub record IsToEnd (words words' : List Doubleword) (d : Due) (b c : HartState) (reason : HartEnd) : Type 0 where
  pub items : List Item
  pub chain : Chain (DoesIn lowest) words items words'
  pub moves : (w : Setting) (past : List Event) (h : ℕ) → MayEnd w (after past) h
      → MovesAs w past h b d (Did.serves items (Ended h reason ∷ [])) (ended reason c)
  pub place : c.resolving ≡ b.resolving
  pub no_call : is_service d ≡ false

-- by what came of it; else the turn asks the linker, and nothing was done
abbrev pub TakesAlone : List Doubleword → List Doubleword → Due → HartState → HartState → Option Turned → Type 0
TakesAlone words words' d b c (Some Over) = GoesOn words words' d b c
TakesAlone words words' d b c (Some (Again shown)) = GoesOn words words' d b c
TakesAlone words words' d b c (Some (Ends reason)) = IsToEnd words words' d b c reason
TakesAlone words words' d b c None = (needs_linker d ≡ true) × (words' ≡ words) × (c ≡ b)
