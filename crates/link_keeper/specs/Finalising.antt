-- The turn in which the final destructors of an object have run. For the code of this crate alone.
use Rattle.std.specs.Prelude.{◌≡◌, ℕ, ◌<◌, true, List, [], None, Option, IfSome}
use Rattle.history_event.specs.declared.event.Event.{Event}
use Rattle.history_journal.specs.Following.{machine_of}
use Rattle.history_state.specs.After.{after}
use Rattle.history_state.specs.Legal.{Legal}
use Rattle.history_state.specs.Setting.{Setting}
use Rattle.history_state.specs.State.{State}
use Rattle.hart_fits.specs.Fits.{HartFits}
use Rattle.hart_moves.specs.Due.{Due, due, is_finalising}
use Rattle.hart_moves.specs.Harts.{HartState, Resolving}
use Rattle.hart_moves.specs.Moves.{did_by, settled_resolving, settles}
use Rattle.world_answers.specs.ReturnsPart.FinalTurns.Planned.{FinalsMayFollow, IsPlanned}
use Rattle.world_answers.specs.ReturnsPart.FinalTurns.Table.{FinalPlan, plan_events}
use Rattle.link_keeper.specs.declared.finalising.LastTurn.{LastTurn}
use Rattle.link_keeper.specs.declared.finalising.LastTurn.TheVariants as turns

-- it is planned in a state, and its hart has room for the functions
pub record HasPlan (s : State) (b : HartState) (spare : ℕ) (plan : FinalPlan) : Type 0 where
  pub planned : IsPlanned s plan
  pub is : (t : State) → due t b ≡ Due.finalise plan.code plan.object
  pub room : 0 < spare

abbrev pub PlansEvents : FinalPlan → Type 0
PlansEvents plan = (h : ℕ) → settles (did_by (plan_events h plan)) ≡ true

-- a plan with events, if there is one
abbrev pub IsPlannedOr : State → HartState → ℕ → Option FinalPlan → Type 0
IsPlannedOr s b spare plan = IfSome plan (λ p. HasPlan s b spare p × PlansEvents p)

abbrev pub IsPlannedTurn : State → HartState → ℕ → LastTurn → Type 0
IsPlannedTurn s b spare (turns.Quiet plan) = HasPlan s b spare plan × ((h : ℕ) → plan_events h plan ≡ [])
IsPlannedTurn s b spare (turns.Asks plan) = IsPlannedOr s b spare plan

-- a hart whose turn it is may take it behind these events
pub record MayFinalise (w : Setting) (harts : ℕ) (past : List Event) (h : ℕ) (b : HartState) : Type 0 where
  pub machine : w.machine ≡ machine_of harts
  pub legal : Legal w past
  pub fits : HartFits w past h b
  pub runs : b.«end» ≡ None
  pub rests : settled_resolving b.resolving ≡ Resolving.idle
  pub fuel : b.turns < b.fuel
  pub asks : is_finalising (due (after past) b) ≡ true
  pub may : (code object : ℕ) → ((s : State) → due s b ≡ Due.finalise code object) → FinalsMayFollow w past h object
