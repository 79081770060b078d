-- How the final destructors begin.
use Rattle.std.specs.Prelude.{◌≡◌, ℕ, List, ◌∷◌}
use Rattle.history_event.specs.declared.handed.HartEntry.{HartEntry}
use Rattle.history_state.specs.Memory.{image_of}
use Rattle.history_state.specs.State.{State}
use Rattle.history_calls.specs.Functions.{AreAddresses, destructors}
use Rattle.hart_moves.specs.Harts.{HartState}
use Rattle.hart_moves.specs.Moves.{all_finis}
use Rattle.hart_moves.specs.Starting.{finalising_hart, starting_registers}

-- a hart, which has exited with the code, is to run the destructors of the object that comes first of all that are left
pub record StartsFinals (s : State) (entry : HartEntry) (code : ℕ) (b c : HartState) : Type 0 where
  pub object : ℕ
  pub rest : List ℕ
  pub next : all_finis s ≡ object ∷ rest
  pub addresses : List ℕ
  pub are : AreAddresses destructors addresses (image_of s object)
  pub begun : c ≡ finalising_hart (starting_registers entry) code (record { object = object; addresses = addresses }) b
