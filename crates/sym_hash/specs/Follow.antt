-- Following many links of a System V chain at once, and counting them: for the code of this crate alone.
use Rattle.std.specs.Prelude.{◌≡◌, ◌<◌, Some, unwrap_or, ℕ, zero, suc, ◌+◌, ◌-◌, ◌/◌, ◌%◌, ◌^◌, ◌==◌, ◌&&◌, Bool, not, nat_lt, min, if◌then◌else◌}
use Rattle.std.specs.Prelude.{List, length, slice_index}
use Rattle.std.specs.List.{slice_get}
use Rattle.std.specs.Option.{option_map_or}
use Rattle.sym_hash.specs.declared.follow.Start.{Start}
use Rattle.sym_hash.specs.declared.follow.Trip.{Trip}
use Rattle.sym_hash.specs.declared.follow.Walk.{Walk}

-- a link leads on from a symbol other than 0 that has a chain word
abbrev pub leads_on : List ℕ → ℕ → Bool
leads_on chain at = not (at == 0) && nat_lt at (length chain)

-- one link on, if there is one
abbrev pub step : List ℕ → ℕ → ℕ
step chain at = if leads_on chain at then slice_index chain at else at

-- so many links on
abbrev pub follow : List ℕ → ℕ → ℕ → ℕ
follow chain zero at = at
follow chain (suc links) at = follow chain links (step chain at)

-- how many of them there are
abbrev pub followed : List ℕ → ℕ → ℕ → ℕ
followed chain zero at = 0
followed chain (suc links) at = (if leads_on chain at then 1 else 0) + followed chain links (step chain at)

-- the trip of so many links from a symbol
abbrev pub trip : List ℕ → ℕ → ℕ → Trip
trip chain links at = record { end = follow chain links at; links = followed chain links at }

-- a trip, and then the one of these that begins where it ends
abbrev pub then_trip : List Trip → Trip → Trip
then_trip trips t = option_map_or (λ (next : Trip). record {
  end = next.end;
  links = min (t.links + next.links) 0xffff_ffff_ffff_ffff;
}) (slice_get trips t.end) t

-- a walk goes on by these trips where the number of its steps has this bit
abbrev pub carried : List Trip → ℕ → Walk → Walk
carried trips bit w = if w.steps / 2 ^ bit % 2 == 1 then record { trip = then_trip trips w.trip; steps = w.steps } else w

-- a walk at its beginning
abbrev pub begun : Start → Walk
begun s = record { trip = record { end = s.from; links = 0 }; steps = s.steps }

-- these are the trips of so many links from each symbol
pub record AreTrips (chain : List ℕ) (m : ℕ) (trips : List Trip) : Type 0 where
  pub len : length trips ≡ length chain
  pub each : (at : ℕ) → at < length chain → slice_get trips at ≡ Some (trip chain m at)

-- the trip from a symbol; there is none from where no chain word is
abbrev pub trip_from : List Trip → ℕ → Trip
trip_from trips at = unwrap_or (slice_get trips at) (record { end = at; links = 0 })

-- the walk from a bucket that comes to a symbol, if any does: the symbol's own way to the end is as much shorter
abbrev pub start_to : List Trip → ℕ → ℕ → Start
start_to trips bucket i = record { from = bucket; steps = (trip_from trips bucket).links - (trip_from trips i).links }

-- the walk to the symbol has come to it
abbrev pub arrives : List Trip → ℕ → Bool
arrives arrived i = not (i == 0) && (trip_from arrived i).end == i
