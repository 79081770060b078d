-- The hart that is to run the destructors of the first of all objects that are left.
use Rattle.std.proofs.Common.{◌≡◌, ℕ, Bool, false, eqb, List, [], ◌∷◌, length, map, take, None, sym, ap, ◌∙◌}
use Rattle.std.proofs.lemmas.Bool.{true≢false}
use Rattle.history_event.specs.declared.handed.Function.{Function}
use Rattle.history_event.specs.declared.handed.HartEntry.{HartEntry}
use Rattle.history_state.specs.State.{State}
use Rattle.history_state.specs.Lemmas.Lists.{here}
use Rattle.history_calls.specs.Functions.{AreFinalDestructors, object_of}
use Rattle.hart_moves.specs.Harts.{HartState, Phase, Purpose}
use Rattle.hart_moves.specs.Moves.{runs}
use Rattle.hart_moves.specs.Starting.{starting_registers}
use Rattle.world_answers.specs.ReturnsPart.FinalTurns.Begins.{StartsFinals}

-- with its starting registers
abbrev pub restarted : HartEntry → HartState → HartState
restarted entry b = record b { registers = starting_registers entry; phase = Phase.at_pc; frames = []; «end» = None }

pub begins : (s : State) (entry : HartEntry) (code : ℕ) (functions first : List Function) (none : Bool) (b c : HartState) → AreFinalDestructors s functions
    → none ≡ eqb (length functions) 0 → none ≡ false → first ≡ take 1 functions → c ≡ runs (Purpose.of_end code) first [] (restarted entry b) → StartsFinals s entry code b c
begins s entry code [] first none b c are is some alone begun = absurd (true≢false (sym is ∙ some))
begins s entry code (f ∷ rest) first none b c are is some alone begun = record {
  object = f.object;
  rest = map object_of rest;
  next = sym are.order;
  addresses = f.addresses;
  are = are.addresses f (here f rest);
  begun = begun ∙ ap (λ (fs : List Function). runs (Purpose.of_end code) fs [] (restarted entry b)) alone;
}
