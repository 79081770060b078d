use Rattle.std.proofs.Common.{◌≡◌, ◌++◌, drop, map, take}
use Rattle.history_state.specs.Relocating.{first_fault, object_fault}
use Rattle.history_state.specs.State.{State}
use Rattle.scope_rule.specs.Seen.{seen}
use Rattle.history_calls.specs.LoadChoices.Choices.{choices_of}
use Rattle.link_open_plan.specs.ObjectChoices.Sight.{Shows}
use Rattle.link_open_plan.proofs.object_choices.choosing.choose_all.Given as goal

-- the first refusal of the rest is that of all, and those in front are chosen
abbrev pub invariant-loop-index : goal.invariant-loop-index
invariant-loop-index l = record {
  first : (s : State) → Shows s (seen l.sight.view) l.sight.places.now
      → first_fault (object_fault s (seen l.sight.view) l.now) (drop l.index l.sight.view.added.now) ≡ first_fault (object_fault s (seen l.sight.view) l.now) l.sight.view.added.now;
  chosen : l.all ≡ l.initial.all ++ map (choices_of (seen l.sight.view) l.now) (take l.index l.sight.view.added.now);
}
