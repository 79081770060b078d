-- Each grant of a run is of one of its harts, and none is left open.
use Rattle.std.proofs.Common.{◌≡◌, ⊎_elim, ℕ, zero, suc, ◌<◌, Bool, true, false, cond, List, [], ◌∷◌, ◌++◌, length, map, Some, refl, sym, ap, subst, ◌∙◌, append-nil, arith}
use Rattle.std.specs.Prelude.{◌==◌, ◌&&◌}
use Rattle.std.specs.List.{Contains, slice_get}
use Rattle.std.proofs.lemmas.List.{length-set}
use Rattle.std.proofs.lemmas.Option.{none-some}
use Rattle.history_event.specs.declared.event.Event.{Event}
use Rattle.history_event.specs.declared.event.Event.TheVariants as events
use Rattle.history_event.specs.declared.hart_end.HartEnd.TheVariants as ends
use Rattle.history_event.specs.declared.state.Granting.{Granting}
use Rattle.history_event.specs.declared.state.Standing.{Standing}
use Rattle.history_event.specs.declared.state.Standing.TheVariants as standings
use Rattle.history_calls.specs.declared.link_served.startup.Setup.{Setup}
use Rattle.rv_hart.specs.Registers.{Registers}
use Rattle.history_state.specs.After.{after}
use Rattle.history_state.specs.Setting.{Setting}
use Rattle.history_state.specs.Grants.{is_open}
use Rattle.history_state.specs.State.{State}
use Rattle.history_state.specs.Step.{settle, settled_as, step}
use Rattle.history_state.specs.Lemmas.History.{after_push, one_behind}
use Rattle.history_state.specs.Lemmas.Lists.{from_map, here, later, none_in, only_in}
use Rattle.history_calls.specs.Laws.{hart_of}
use Rattle.history_calls.specs.Lemmas.Unique.{both_found}
use Rattle.hart_moves.specs.Harts.{HartState, Offered, Resolving}
use Rattle.hart_moves.specs.Moves.{events_of, freed, settles}
use Rattle.hart_moves.specs.Starting.{starting_registers}
use Rattle.hart_moves.specs.Lemmas.Legality.{turns_own}
use Rattle.world_turns.specs.Run.{RunBegins, IsStarted, LacksMemory, settled}
use Rattle.world_turns.specs.Throughout.{GrantsAreOfHarts, RunsGrantHarts, RunsLeaveNoGrant, RunsAreSound, RunsSettle}
use Rattle.world_turns.specs.Turn.{Turn}
use Rattle.world_turns.specs.World.{World, found_harts, found_journal, has_won, settled_by, settling, settling_event}
use Rattle.world_turns.specs.Lemmas.Offers.{granted_to, grants}
use Rattle.world_turns.specs.Lemmas.Running.{constructs, finals, finishes, items_keep}
use Rattle.world_turns.specs.Lemmas.Starting.{start_grants}
use Rattle.world_turns.specs.Lemmas.Turning.{freed_length}

-- ---- one event

granted_own : (e : Event) (h k : ℕ) → hart_of e ≡ Some h → granted_to e ≡ Some k → h ≡ k
granted_own (events.Open hart ask answer) h k of to = absurd (none-some k to)
granted_own (events.Close hart handle answer) h k of to = absurd (none-some k to)
granted_own (events.Unmapped hart set) h k of to = absurd (none-some k to)
granted_own (events.Grant number hart owner slot choice value) h k of to = both_found (Some hart) h k of to
granted_own (events.Bound number) h k of to = absurd (none-some k to)
granted_own (events.Lost number saw) h k of to = absurd (none-some k to)
granted_own (events.Unresolved hart owner slot choice) h k of to = absurd (none-some k to)
granted_own (events.Sym hart ask answer) h k of to = absurd (none-some k to)
granted_own (events.Tls hart owner address) h k of to = absurd (none-some k to)
granted_own (events.Init hart object) h k of to = absurd (none-some k to)
granted_own (events.Fini hart object) h k of to = absurd (none-some k to)
granted_own (events.Wrote hart bytes) h k of to = absurd (none-some k to)
granted_own (events.Told hart fault) h k of to = absurd (none-some k to)
granted_own (events.Ended hart reason) h k of to = absurd (none-some k to)

-- the harts of a state's grants are below a number
abbrev AllBelow : ℕ → State → Type 0
AllBelow n s = (g : Granting) → Contains s.grants g → g.hart < n

by_hart : (n : ℕ) (s : State) (e : Event) (h : ℕ) → hart_of e ≡ Some h → h < n → AllBelow n s → AllBelow n (step s e)
by_hart n s e h of less all g there = ⊎_elim
    (λ (old : Contains s.grants g). all g old)
    (λ (new : granted_to e ≡ Some g.hart). subst (λ (k : ℕ). k < n) (granted_own e h g.hart of new) less)
    ((grants s e h of).new g there)

settled_hart : (number : ℕ) (standing : Standing) (g : Granting) → (settled_as number standing g).hart ≡ g.hart
settled_hart number standing g = by (g.number == number && is_open g)
  where
    by : (t : Bool) → (cond t (record g { standing = standing }) g).hart ≡ g.hart
    by true = refl
    by false = refl

by_settling : (n : ℕ) (s : State) (number : ℕ) (standing : Standing) → AllBelow n s → AllBelow n (settle number standing s)
by_settling n s number standing all g there =
    let x = from_map (settled_as number standing) s.grants g there in
    subst (λ (k : ℕ). k < n) (sym (settled_hart number standing x.0) ∙ ap (λ (q : Granting). q.hart) x.2) (all x.0 x.1)

-- ---- one event after another

abbrev Below : ℕ → List Event → Type 0
Below n past = AllBelow n (after past)

events_below : (n : ℕ) (past added : List Event) (h : ℕ) → ((e : Event) → Contains added e → hart_of e ≡ Some h) → h < n → Below n past → Below n (past ++ added)
events_below n past [] h of less all = subst (Below n) (sym (append-nil past)) all
events_below n past (e ∷ rest) h of less all =
    subst (Below n) (one_behind past e rest)
    (events_below n (past ++ e ∷ []) rest h (λ d there. of d (later e rest d there)) less
    (subst (AllBelow n) (sym (after_push past e)) (by_hart n (after past) e h (of e (here e rest)) less all)))

one_settled : (n : ℕ) (past : List Event) (o : Offered) (found : ℕ) → Below n past → Below n (past ++ settling_event o found ∷ [])
one_settled n past o found all = subst (AllBelow n) (sym (after_push past (settling_event o found))) (by (has_won o found))
  where
    by : (won : Bool) → AllBelow n (step (after past) (cond won (events.Bound o.number) (events.Lost o.number found)))
    by true = by_settling n (after past) o.number standings.Bound all
    by false = by_settling n (after past) o.number (standings.Lost found) all

place_settled : (n : ℕ) (past more : List Event) (r : Resolving) → ((journal : List Event) → Below n journal → Below n (journal ++ more)) → Below n past → Below n (past ++ (settled_by r ++ more))
place_settled n past more Resolving.idle rest all = rest past all
place_settled n past more (Resolving.to_exchange o) rest all = rest past all
place_settled n past more (Resolving.to_finish o found) rest all = rest past all
place_settled n past more (Resolving.to_settle o found) rest all =
    subst (Below n) (one_behind past (settling_event o found) more) (rest (past ++ settling_event o found ∷ []) (one_settled n past o found all))

all_settled : (n : ℕ) (past : List Event) (harts : List HartState) → Below n past → Below n (past ++ settling harts)
all_settled n past [] all = subst (Below n) (sym (append-nil past)) all
all_settled n past (b ∷ rest) all = place_settled n past (settling rest) b.resolving (λ journal below. all_settled n journal rest below) all

-- ---- a turn

at_less : (harts : List HartState) (h : ℕ) (b : HartState) → slice_get harts h ≡ Some b → h < length harts
at_less [] h b at = absurd (none-some b at)
at_less (c ∷ rest) zero b at = omega arith
at_less (c ∷ rest) (suc h) b at = let less = at_less rest h b at in omega (arith, less)

turn_below : (w : Setting) (h : ℕ) (old new : World) → GrantsAreOfHarts old → Turn w h old new → GrantsAreOfHarts new
turn_below w h old new all turn =
    subst (λ (es : List Event). Below (length new.harts) es) (sym turn.journal)
    (subst (λ (n : ℕ). Below n (found_journal old turn.did ++ events_of turn.did)) (sym same)
    (events_below (length old.harts) (found_journal old turn.did) (events_of turn.did) h (turns_own w (found_journal old turn.did) h turn.before turn.left turn.did turn.moves)
    (at_less old.harts h turn.before turn.there) (found (settles turn.did))))
  where
    found : (t : Bool) → Below (length old.harts) (old.journal ++ cond t (settling old.harts) [])
    found true = all_settled (length old.harts) old.journal old.harts all
    found false = subst (Below (length old.harts)) (sym (append-nil old.journal)) all

    found_length : (t : Bool) → length (cond t (map freed old.harts) old.harts) ≡ length old.harts
    found_length true = freed_length old.harts
    found_length false = refl

    same : length new.harts ≡ length old.harts
    same = ap (λ (bs : List HartState). length bs) turn.harts ∙ length-set (found_harts old turn.did) h turn.left ∙ found_length (settles turn.did)

-- ---- a run

start_below : (w : Setting) (setup : Setup) (world : World) → IsStarted w setup world → GrantsAreOfHarts world
start_below w setup world is g there = absurd (none_in g (subst (λ (gs : List Granting). Contains gs g) (start_grants w setup world is) there))

begins_below : (registers : Registers) (old begun : World) → GrantsAreOfHarts old → RunBegins registers old begun → GrantsAreOfHarts begun
begins_below registers old begun all x =
    subst GrantsAreOfHarts (sym x.begun) (subst (λ (n : ℕ). Below n old.journal) (ap (λ (bs : List HartState). length bs) x.harts) all)

lacks_below : (w : Setting) (old new : World) → GrantsAreOfHarts old → LacksMemory w old new → GrantsAreOfHarts new
lacks_below w old new all x =
    let past : List Event = old.journal ++ settling old.harts in
    let n : ℕ = suc (length x.others) in
    let same : length old.harts ≡ n = ap (λ (bs : List HartState). length bs) x.harts in
    let before : Below n past = all_settled n old.journal old.harts (subst (λ (k : ℕ). Below k old.journal) same all) in
    let last : Below n (past ++ events.Ended 0 ends.Memory ∷ []) =
    events_below n past (events.Ended 0 ends.Memory ∷ []) 0 (λ e there. ap hart_of (sym (only_in (events.Ended 0 ends.Memory) e there))) (omega arith) before in
    subst GrantsAreOfHarts (sym x.leaves) (subst (λ (k : ℕ). Below k (past ++ events.Ended 0 ends.Memory ∷ [])) (ap suc (sym (freed_length x.others))) last)

settled_below : (world : World) → GrantsAreOfHarts world → GrantsAreOfHarts (settled world)
settled_below world all =
    subst (λ (n : ℕ). Below n (world.journal ++ settling world.harts)) (sym (freed_length world.harts)) (all_settled (length world.harts) world.journal world.harts all)

pub runs_grant : RunsGrantHarts
runs_grant w setup items world run =
    let turns : (h : ℕ) (old new : World) → GrantsAreOfHarts old → Turn w h old new → GrantsAreOfHarts new = turn_below w in
    let constructed : GrantsAreOfHarts run.constructed = constructs w GrantsAreOfHarts turns run.started run.constructed run.constructs (start_below w setup run.started run.starts) in
    let finished : GrantsAreOfHarts run.finished = finishes w GrantsAreOfHarts turns run.scheduled run.finished run.finishes (items_keep w GrantsAreOfHarts turns items run.constructed run.scheduled run.follows constructed) in
    subst GrantsAreOfHarts (sym run.ends)
    (settled_below run.finalised
    (finals w GrantsAreOfHarts turns (starting_registers run.entry) run.finished run.finalised (λ begun x. begins_below (starting_registers run.entry) run.finished begun finished x)
    (λ x. lacks_below w run.finished run.finalised finished x) run.finalises finished))

pub runs_settle : RunsAreSound → RunsLeaveNoGrant → RunsSettle
runs_settle sound none w setup items world run only g there open_yet =
    let less : g.hart < w.machine.harts = subst (λ (n : ℕ). g.hart < n) (sound w setup items world run only).ended.harts (runs_grant w setup items world run g there) in
    none w setup items world run only g.hart less g there open_yet refl
