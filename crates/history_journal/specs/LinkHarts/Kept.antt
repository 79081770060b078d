-- The refusals that are kept for harts.
use Rattle.std.specs.Prelude.{ℕ, Bool, not, ◌==◌, List, find, Option}
use Rattle.std.specs.Option.{option_map}
use Rattle.ld_base.specs.declared.fault.DlFault.{DlFault}
use Rattle.history_event.specs.declared.state.Kept.{Kept}

-- what contracts see
pub record KeptTable : Type 0 where
  pub kept : List Kept
  -- how many more there is room for
  pub spare : ℕ

abbrev pub is_of : ℕ → Kept → Bool
is_of hart k = k.hart == hart

abbrev pub is_anothers : ℕ → Kept → Bool
is_anothers hart k = not (k.hart == hart)

-- the refusal that is kept for a hart
abbrev pub fault_of : ℕ → List Kept → Option DlFault
fault_of hart kept = option_map (λ k. k.fault) (find (is_of hart) kept)
