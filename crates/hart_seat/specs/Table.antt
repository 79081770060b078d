-- What contracts see of a hart that runs with its linker.
use Rattle.std.specs.Prelude.{ℕ, Option, Some, None}
use Rattle.hart_moves.specs.Harts.{HartState, Offered, Purpose, Resolving}
use Rattle.hart_seat.specs.HartParts.Views.{offered_of}
use Rattle.hart_seat.specs.declared.hart_parts.due.Offered.{Offered as code_offered}

pub record HartTable : Type 0 where
  pub hart : HartState
  -- how many frames more there is room for
  pub spare : ℕ

-- the slot that a hart is done with, whose grant isn't settled, and what it found there
abbrev pub done_with : Resolving → Option (Offered × ℕ)
done_with Resolving.idle = None
done_with (Resolving.to_exchange o) = None
done_with (Resolving.to_finish o found) = None
done_with (Resolving.to_settle o found) = Some (o, found)

abbrev pub done_of : code_offered × ℕ → Offered × ℕ
done_of done = (offered_of done.0, done.1)

-- where a closing returns to
abbrev pub closing_return : Purpose → Option ℕ
closing_return (Purpose.of_startup registers) = None
closing_return (Purpose.of_opening to root) = None
closing_return (Purpose.of_closing to set) = Some to
closing_return (Purpose.of_end code) = None
