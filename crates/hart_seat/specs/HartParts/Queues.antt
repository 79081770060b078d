-- Functions that are to run, of one object after another.
use Rattle.std.specs.Prelude.{ℕ, List, [], ◌∷◌, drop, Option, Some, None}
use Rattle.history_event.specs.declared.handed.Function.{Function}
use Rattle.hart_moves.specs.Harts.{Frame}
use Rattle.hart_moves.specs.Registers.{next_function}

-- so many functions of the first object were entered
abbrev pub without_first : ℕ → List Function → List Function
without_first entered [] = []
without_first entered (f ∷ rest) = record f { addresses = drop entered f.addresses } ∷ rest

-- where the first of some functions leads; an object without functions leads to where they return to
abbrev pub entry_of : List ℕ → ℕ
entry_of [] = next_function
entry_of (function ∷ more) = function

abbrev pub first_entry : List Function → Option ℕ
first_entry [] = None
first_entry (f ∷ rest) = Some (entry_of f.addresses)

-- the frames below the innermost
abbrev pub below : List Frame → List Frame
below [] = []
below (frame ∷ rest) = rest

-- the next function of the innermost frame is entered
abbrev pub entered_frames : List Frame → List Frame
entered_frames [] = []
entered_frames (frame ∷ rest) = record frame { queue = without_first 1 frame.queue } ∷ rest
