-- Each hart of a run has copied of a write what it may have.
use Rattle.std.proofs.Common.{◌≡◌, ℕ, zero, suc, Bool, true, false, cond, List, [], ◌∷◌, map, Some, None, refl, sym, subst}
use Rattle.std.specs.Prelude.{slice_set}
use Rattle.std.specs.List.{slice_get}
use Rattle.std.proofs.lemmas.Option.{none-some}
use Rattle.history_event.specs.declared.handed.Function.{Function}
use Rattle.history_event.specs.declared.handed.HartEntry.{HartEntry}
use Rattle.history_event.specs.declared.hart_end.HartEnd.TheVariants as reasons
use Rattle.rv_hart.specs.Registers.{Registers}
use Rattle.hart_moves.specs.Harts.{HartState, Phase, Purpose}
use Rattle.hart_moves.specs.Moves.{ended, freed, runs, settles}
use Rattle.hart_moves.specs.Starting.{finalising_hart, starting_hart, starting_harts, starting_registers}
use Rattle.world_turns.specs.World.{World, found_harts, found_journal}
use Rattle.world_turns.specs.Lemmas.Turning.{freed_at}
use Rattle.world_turns.specs.TurnWrites.Laws.{FinalsBeginWriting, FinalsLackWriting, SettlingKeepsWriting, StartWrites, WorldsKeepWrites}
use Rattle.world_turns.specs.TurnWrites.Writing.{HartWrites, WorldWrites}
use Rattle.world_turns.proofs.TurnWrites.Turning.{runs_writes, turns_keep_writes, writes_none}

abbrev AllWrite : List HartState → Type 0
AllWrite harts = (h : ℕ) (b : HartState) → slice_get harts h ≡ Some b → HartWrites b

-- ---- lists of harts

none_write : AllWrite []
none_write h b at = absurd (none-some b at)

put_first : (b : HartState) (rest : List HartState) → HartWrites b → AllWrite rest → AllWrite (b ∷ rest)
put_first b rest one others zero c at = let same : b ≡ c = cc in subst (λ (x : HartState). HartWrites x) same one
put_first b rest one others (suc h) c at = others h c at

put_at : (harts : List HartState) (h : ℕ) (b : HartState) → HartWrites b → AllWrite harts → AllWrite (slice_set harts h b)
put_at [] h b one all = all
put_at (x ∷ rest) zero b one all = put_first b rest one (λ k c at. all (suc k) c at)
put_at (x ∷ rest) (suc h) b one all = put_first x (slice_set rest h b) (all zero x refl) (put_at rest h b one (λ k c at. all (suc k) c at))

freed_write : (harts : List HartState) → AllWrite harts → AllWrite (map freed harts)
freed_write harts all h b at = let x = freed_at harts h b at in subst (λ (y : HartState). HartWrites y) x.2 (all h x.0 x.1)

found_write : (harts : List HartState) (t : Bool) → AllWrite harts → AllWrite (cond t (map freed harts) harts)
found_write harts true all = freed_write harts all
found_write harts false all = all

others_write : (first : HartState) (others : List HartState) (world : World) → world.harts ≡ first ∷ others → WorldWrites world → AllWrite others
others_write first others world are all h b at = (subst AllWrite are all) (suc h) b at

-- ---- the start

entries_write : (fuel : ℕ) (entries : List HartEntry) → AllWrite (map (starting_hart fuel) entries)
entries_write fuel [] = none_write
entries_write fuel (entry ∷ rest) = put_first (starting_hart fuel entry) (map (starting_hart fuel) rest) (writes_none (starting_hart fuel entry) refl) (entries_write fuel rest)

starting_write : (fuel : ℕ) (functions : List Function) (entries : List HartEntry) → AllWrite (starting_harts fuel functions entries)
starting_write fuel functions [] = none_write
starting_write fuel functions (entry ∷ rest) =
    put_first (runs (Purpose.of_startup (starting_registers entry)) functions [] (starting_hart fuel entry)) (map (starting_hart fuel) rest)
    (runs_writes (Purpose.of_startup (starting_registers entry)) functions [] (starting_hart fuel entry) (writes_none (starting_hart fuel entry) refl))
    (entries_write fuel rest)

pub start_writes : StartWrites
start_writes w setup world is = subst AllWrite (sym is.harts) (starting_write setup.fuel is.started.functions is.started.entries)

-- ---- turns

pub worlds_keep_writes : WorldsKeepWrites
worlds_keep_writes w h old new turn all =
    subst AllWrite (sym turn.harts) (put_at (found_harts old turn.did) h turn.left
    (turns_keep_writes w (found_journal old turn.did) h turn.before turn.left turn.did turn.moves (all h turn.before turn.there))
    (found_write old.harts (settles turn.did) all))

-- ---- the final destructors, and the end

finalising_writes : (registers : Registers) (code : ℕ) (function : Function) (b : HartState) → HartWrites (finalising_hart registers code function b)
finalising_writes registers code function b =
    let begun : HartState = record b { registers = registers; phase = Phase.at_pc; frames = []; «end» = None } in
    runs_writes (Purpose.of_end code) (function ∷ []) [] begun (writes_none begun refl)

pub begins_writing : FinalsBeginWriting
begins_writing registers old new begins all =
    let function : Function = record { object = begins.object; addresses = begins.addresses } in
    subst (λ (x : World). WorldWrites x) (sym begins.begun)
    (put_first (finalising_hart registers begins.code function begins.first) begins.others (finalising_writes registers begins.code function begins.first)
    (others_write begins.first begins.others old begins.harts all))

pub lacks_writing : FinalsLackWriting
lacks_writing w old new lacks all =
    subst (λ (x : World). WorldWrites x) (sym lacks.leaves)
    (put_first (ended reasons.Memory lacks.first) (map freed lacks.others) ((subst AllWrite lacks.harts all) zero lacks.first refl)
    (freed_write lacks.others (others_write lacks.first lacks.others old lacks.harts all)))

pub settling_keeps : SettlingKeepsWriting
settling_keeps world all = freed_write world.harts all
