-- Where pages may stand.
use Rattle.std.specs.Prelude.{ℕ, ◌<◌}
use Rattle.history_state.specs.Areas.{Where, anywhere, only}
use Rattle.link_open_plan.specs.declared.object_places.wanted.Spot.{Spot}
use Rattle.link_open_plan.specs.declared.object_places.wanted.Spot.TheVariants as spots

abbrev pub where_of : Spot → Where
where_of (spots.Anywhere align) = anywhere align
where_of (spots.Only address) = only address

-- some pages, at multiples of something
abbrev pub IsSound : ℕ → Spot → Type 0
IsSound pages (spots.Anywhere align) = (0 < pages) × (0 < align)
IsSound pages (spots.Only address) = Unit {0}
