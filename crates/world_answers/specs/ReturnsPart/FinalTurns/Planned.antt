-- What a turn comes to in which the destructors of an object have run (gABI, "Initialization and Termination Functions").
use Rattle.std.specs.Prelude.{◌≡◌, ℕ, ◌==◌, not, Bool, List, ◌∷◌, ◌++◌, filter, map, take}
use Rattle.history_event.specs.declared.event.Event.{Event}
use Rattle.history_event.specs.declared.event.Event.TheVariants.{Fini}
use Rattle.history_event.specs.declared.handed.Function.{Function}
use Rattle.history_state.specs.After.{after}
use Rattle.history_state.specs.Allowed.{Allowed}
use Rattle.history_state.specs.Setting.{Setting}
use Rattle.history_state.specs.State.{State}
use Rattle.history_calls.specs.Functions.{AreOf, destructors, left, object_of, passed}
use Rattle.history_journal.specs.Following.{machine_of}
use Rattle.hart_moves.specs.Moves.{AreAllowed, all_finis, own_fini}
use Rattle.world_answers.specs.ReturnsPart.FinalTurns.Table.{FinalPlan, finis, plan_events}

abbrev pub is_other : ℕ → ℕ → Bool
is_other object d = not (object == d)

-- in a state: the object is finalised, if it is still to be; then, of the others that are left, the latest first, those in front that have no
-- functions; and the next one's run. Nothing is asked of the state but which objects are mapped, their images, and which of them were initialised
-- and finalised
pub record IsPlanned (s : State) (plan : FinalPlan) : Type 0 where
  pub others : List Function
  pub order : map object_of others ≡ filter (is_other plan.object) (all_finis s)
  pub addresses : AreOf s destructors others
  pub events : (h : ℕ) → plan_events h plan ≡ own_fini s h plan.object ++ finis h (passed others)
  pub next : plan.next ≡ take 1 (left others)

-- the object may be finalised, if it is still to be, and whenever some have been, the one that is next of all
pub record FinalsMayFollow (w : Setting) (past : List Event) (h object : ℕ) : Type 0 where
  pub own : AreAllowed w past (own_fini (after past) h object)
  pub next : (before : List ℕ) (d : ℕ) (rest : List ℕ) → all_finis (after (past ++ finis h before)) ≡ d ∷ rest → Allowed w (past ++ finis h before) (Fini h d)

-- by some folders, names and files that the machine was given
pub record FinalsMayFollowIn (harts : ℕ) (past : List Event) (h object : ℕ) : Type 0 where
  pub setting : Setting
  pub machine : setting.machine ≡ machine_of harts
  pub may : FinalsMayFollow setting past h object
