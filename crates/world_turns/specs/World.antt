-- A run on one thread at a moment: its journal, its memory, and its harts.
use Rattle.std.specs.Prelude.{ℕ, ◌==◌, Bool, if◌then◌else◌, List, [], ◌∷◌, ◌++◌, flat_map, map}
use Rattle.history_event.specs.declared.event.Event.{Event}
use Rattle.history_event.specs.declared.event.Event.TheVariants.{Bound, Lost}
use Rattle.rv_hart.specs.declared.doubleword.Doubleword.{Doubleword}
use Rattle.hart_moves.specs.Harts.{HartState, Offered, Resolving}
use Rattle.hart_moves.specs.Moves.{Did, freed, settles}

-- the linker's state is the one after the journal; the doublewords of guest memory stand side by side from its lowest address on
pub record World : Type 0 where
  pub journal : List Event
  pub words : List Doubleword
  pub harts : List HartState

-- ---- what is settled

-- an exchange that found the lazy word won its slot
abbrev pub has_won : Offered → ℕ → Bool
has_won o found = found == o.lazy

abbrev pub settling_event : Offered → ℕ → Event
settling_event o found = if has_won o found then Bound o.number else Lost o.number found

abbrev pub settled_by : Resolving → List Event
settled_by Resolving.idle = []
settled_by (Resolving.to_exchange o) = []
settled_by (Resolving.to_finish o found) = []
settled_by (Resolving.to_settle o found) = settling_event o found ∷ []

-- the grants that harts are done with, in the order of the harts
abbrev pub settling : List HartState → List Event
settling harts = flat_map (λ b. settled_by b.resolving) harts

-- the journal that a turn finds, and the harts: a service settles first
abbrev pub found_journal : World → Did → List Event
found_journal world did = world.journal ++ (if settles did then settling world.harts else [])

abbrev pub found_harts : World → Did → List HartState
found_harts world did = if settles did then map freed world.harts else world.harts

-- ---- who has won

-- the grants that won their slots and aren't settled yet
abbrev pub won_by : Resolving → List ℕ
won_by Resolving.idle = []
won_by (Resolving.to_exchange o) = []
won_by (Resolving.to_finish o found) = if has_won o found then o.number ∷ [] else []
won_by (Resolving.to_settle o found) = if has_won o found then o.number ∷ [] else []

abbrev pub winners : List HartState → List ℕ
winners harts = flat_map (λ b. won_by b.resolving) harts
