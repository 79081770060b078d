use Rattle.std.proofs.Common.{◌≡◌, ◌++◌, drop, length, map, take}
use Rattle.history_state.specs.Relocating.{first_fault}
use Rattle.history_state.specs.State.{State}
use Rattle.scope_rule.specs.Seen.{seen}
use Rattle.link_open_plan.specs.ObjectChoices.Sight.{AreSlots, Shows, chosen_at, faults_at}
use Rattle.link_open_plan.proofs.object_choices.choosing.choose_slots.Given as goal

-- the first refusal of the rest is that of all, and those in front are chosen
abbrev pub invariant-loop-slot : goal.invariant-loop-slot
invariant-loop-slot l = record {
  first : (s : State) → Shows s (seen l.sight.view) l.sight.places.now
      → first_fault (faults_at s (seen l.sight.view) l.bound l.owner) (drop l.slot-index l.slots) ≡ first_fault (faults_at s (seen l.sight.view) l.bound l.owner) l.slots;
  same : l.references ≡ l.fn.references;
  rest : AreSlots (length l.owner.object.symbols) (drop l.slot-index l.slots);
  chosen : l.choices ≡ l.initial.choices ++ map (chosen_at (seen l.sight.view) l.bound l.owner) (take l.slot-index l.slots);
}
