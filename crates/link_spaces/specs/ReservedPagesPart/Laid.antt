-- Ranges of reserved pages.
use Rattle.std.specs.Prelude.{ℕ, List, [], ◌∷◌, ◌++◌}
use Rattle.address_space.specs.Pages.{AllFree}
use Rattle.history_event.specs.declared.event.Range.{Range}
use Rattle.history_state.specs.Areas.{free_pages}

pub record RangeList : Type 0 where
  pub ranges : List Range
  -- how many more there is room for
  pub spare : ℕ

-- behind some ranges, each takes pages that none before it has
abbrev pub AreLaid : List Range → List Range → Type 0
AreLaid before [] = Unit {0}
AreLaid before (r ∷ rest) = AllFree (free_pages before) r.address r.pages × AreLaid (before ++ r ∷ []) rest
