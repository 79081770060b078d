-- What contracts see of a turn in which the destructors of an object have run.
use Rattle.std.specs.Prelude.{ℕ, List, map}
use Rattle.history_event.specs.declared.event.Event.{Event}
use Rattle.history_event.specs.declared.event.Event.TheVariants.{Fini}
use Rattle.history_event.specs.declared.handed.Function.{Function}

pub record FinalPlan : Type 0 where
  -- with which the run has ended
  pub code : ℕ
  -- whose destructors have run
  pub object : ℕ
  -- the objects that get their events, one after another
  pub finalised : List ℕ
  -- the object whose destructors run next, if there is one
  pub next : List Function

-- the events of some objects
abbrev pub finis : ℕ → List ℕ → List Event
finis h objects = map (Fini h) objects

-- those of the turn
abbrev pub plan_events : ℕ → FinalPlan → List Event
plan_events h plan = finis h plan.finalised
