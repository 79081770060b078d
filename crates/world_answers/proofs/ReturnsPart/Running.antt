-- Where the functions of an object have run the hart goes on with those behind them, and has a turn.
use Rattle.std.proofs.Common.{◌≡◌, ℕ, ◌<◌, List, [], ◌∷◌, drop, ap, ◌∙◌}
use Rattle.history_event.specs.declared.handed.Function.{Function}
use Rattle.link_state.specs.Table.{LinkTable}
use Rattle.hart_moves.specs.Harts.{Frame, HartState, Purpose}
use Rattle.hart_moves.specs.Moves.{after_all, freed, runs, with_first}
use Rattle.world_answers.specs.ReturnsPart.Steps.{PassesFirst}

abbrev pub HasTurn : HartState → Type 0
HasTurn b = b.turns < b.fuel

all_has : (purpose : Purpose) (below : List Frame) (b : HartState) → HasTurn b → HasTurn (after_all purpose below b)
all_has (Purpose.of_startup registers) below b has = has
all_has (Purpose.of_opening to root) below b has = has
all_has (Purpose.of_closing to set) below b has = has
all_has (Purpose.of_end code) below b has = has

first_has : (purpose : Purpose) (object : ℕ) (addresses : List ℕ) (rest : List Function) (below : List Frame) (b : HartState)
    → HasTurn b → HasTurn (with_first purpose object addresses rest below b)
first_has purpose object [] rest below b has = has
first_has purpose object (function ∷ more) rest below b has = has

pub runs_has : (purpose : Purpose) (functions : List Function) (below : List Frame) (b : HartState) → HasTurn b → HasTurn (runs purpose functions below b)
runs_has purpose [] below b has = all_has purpose below b has
runs_has purpose (f ∷ rest) below b has = first_has purpose f.object f.addresses rest below b has

pub goes_on : (old new : LinkTable) (h count : ℕ) (b settled now : HartState) (first : PassesFirst old new h b count) → settled ≡ freed b
    → ((purpose : Purpose) (f : Function) (rest : List Function) (below : List Frame) → settled.frames ≡ record { purpose = purpose; queue = f ∷ rest } ∷ below
    → now ≡ runs purpose (drop count rest) below settled)
    → now ≡ runs first.purpose (drop count first.rest) first.below (freed b)
goes_on old new h count b settled now first is moves =
    moves first.purpose (record { object = first.object; addresses = [] }) first.rest first.below (ap (λ (x : HartState). x.frames) is ∙ first.frames)
    ∙ ap (λ (x : HartState). runs first.purpose (drop count first.rest) first.below x) is
