-- The worked turns of a hart that waits for another's object.
use Rattle.std.proofs.Common.{◌≡◌, List, [], refl}
use Rattle.ld_base.specs.declared.fault.Shown.TheVariants.{Initialising}
use Rattle.history_event.specs.declared.event.Event.{Event}
use Rattle.history_state.specs.After.{after_from}
use Rattle.history_state.specs.Setting.{Setting}
use Rattle.history_state.specs.Step.{initialise, loaded}
use Rattle.history_calls.specs.Answer.{again, over}
use Rattle.history_calls.specs.Gives.Gives.{to_again}
use Rattle.hart_moves.specs.Due.{by_phase, due}
use Rattle.hart_moves.specs.Moves.{Did}
use Rattle.hart_moves.specs.WorkedWaits.{AsksAgain, AsksNothing, BeginsToWait, WaitsOn}

pub begins_to_wait : (w : Setting) (past : List Event) → BeginsToWait w past
unfolding due by_phase
begins_to_wait w past shows = record {
  appended = [];
  answer = again (Initialising 2);
  serves = record { given = []; gives = to_again _ (Initialising 2) shows; may_end = λ reason e. absurd (let no : again (Initialising 2) ≡ over reason = e in cc); are = refl };
  takes = record { is = refl; leaves = refl };
}

pub waits_on : WaitsOn
unfolding due by_phase after_from initialise loaded
waits_on = record { is = refl; leaves = refl }

pub asks_nothing : AsksNothing
unfolding due by_phase after_from initialise loaded
asks_nothing items events c x = let no : Did.serves items events ≡ Did.waits (Initialising 2) = x.is in cc

pub asks_again : AsksAgain
unfolding due by_phase after_from initialise loaded
asks_again = refl
