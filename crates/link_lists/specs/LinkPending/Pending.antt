-- What contracts see of grants and objects of which something is still to come.
use Rattle.std.specs.Prelude.{ℕ, Bool, not, ◌==◌, List}
use Rattle.history_event.specs.declared.state.Granting.{Granting}

pub record SerialsWithRoom : Type 0 where
  pub serials : List ℕ
  -- how many more there is room for
  pub room : ℕ

pub record GrantTable : Type 0 where
  -- those that aren't settled yet
  pub grants : List Granting
  -- how many were ever made
  pub count : ℕ
  -- how many more there is room for
  pub spare : ℕ

-- the grant has this number, or another one
abbrev pub has_number : ℕ → Granting → Bool
has_number number g = g.number == number

abbrev pub is_another : ℕ → Granting → Bool
is_another number g = not (g.number == number)
