-- Each hart of a run follows to its end.
use Rattle.std.proofs.Common.{◌≡◌, ◌≢◌, inl, inr, ℕ, zero, suc, ◌+◌, ◌≤◌, ◌<◌, Bool, false, cond, IsTrue, List, [], ◌∷◌, ◌++◌, length, map, take}
use Rattle.std.proofs.Common.{Option, Some, None, refl, sym, ap, subst, ◌∙◌, append-nil, append_assoc, arith}
use Rattle.std.specs.List.{slice_get}
use Rattle.std.proofs.lemmas.List.{length-append, take_at}
use Rattle.std.proofs.lemmas.Option.{none-some, slice_get_within}
use Rattle.history_event.specs.declared.event.Event.{Event}
use Rattle.history_event.specs.declared.event.Event.TheVariants.{Ended}
use Rattle.history_event.specs.declared.handed.Function.{Function}
use Rattle.history_event.specs.declared.handed.HartEntry.{HartEntry}
use Rattle.history_event.specs.declared.hart_end.HartEnd.{HartEnd}
use Rattle.history_event.specs.declared.hart_end.HartEnd.TheVariants as ends
use Rattle.history_calls.specs.declared.link_served.startup.Setup.{Setup}
use Rattle.rv_hart.specs.Registers.{Registers}
use Rattle.history_state.specs.After.{after}
use Rattle.history_state.specs.Memory.{image_of}
use Rattle.history_state.specs.Setting.{Setting, have_exited}
use Rattle.history_state.specs.Lemmas.Lists.{none_in}
use Rattle.history_calls.specs.Functions.{AreAddresses, destructors}
use Rattle.history_calls.specs.Lemmas.Unique.{both_found}
use Rattle.hart_moves.specs.Follows.{BeginsFinals, EndsBehind, Follows, FollowsToItsEnd, HasNone, LacksList}
use Rattle.hart_moves.specs.Harts.{HartState, Phase, Purpose}
use Rattle.hart_moves.specs.Moves.{all_finis, ended, events_of, freed, settles}
use Rattle.hart_moves.specs.Starting.{HartStart, IsStartOf, finalising_hart, starting_hart, starting_harts, starting_registers}
use Rattle.hart_moves.specs.Lemmas.Following.{follows_longer, none_longer, none_with}
use Rattle.hart_moves.specs.Lemmas.Freed.{runs_freed}
use Rattle.world_turns.specs.declared.schedules.schedule.TurnItem.{TurnItem}
use Rattle.world_turns.specs.Lemmas.Running.{constructs, ends_keep, finals, finishes, items_keep, rounds_end}
use Rattle.world_turns.specs.Lemmas.Turning.{freed_length}
use Rattle.world_turns.specs.Run.{Finalises, LacksMemory, Run, RunBegins, RunEnds, exit_code, harts_have_exited, settled}
use Rattle.world_turns.specs.Turn.{Turn}
use Rattle.world_turns.specs.World.{World, found_journal, settling}
use Rattle.world_turns.specs.WorldEnds.Ends.{BeforeFinals}
use Rattle.world_turns.specs.WorldEnds.Laws.{ExitsAreTold, RunsFit}
use Rattle.world_turns.specs.WorldEnds.Lemmas.Places.{freed_here}
use Rattle.world_turns.specs.WorldEnds.Lemmas.Settled.{settling_keeps}
use Rattle.world_laws.specs.HartWays.Laws.{RunsFollow}
use Rattle.world_laws.proofs.HartWays.Stands.{MayBeFreed, Stands, left_alone, others_both, others_one, settling_others, turn_keeps_length, turn_stands}

-- ---- places

there_is : {X : Type 0} (xs : List X) (h : ℕ) → h < length xs → (x : X) × (slice_get xs h ≡ Some x)
there_is [] h less = absurd (omega (arith, less))
there_is (x ∷ rest) zero less = (x, refl)
there_is (x ∷ rest) (suc h) less = there_is rest h (omega (arith, less))

-- where each hart's end is told, a hart has the one at its place
end_at : (harts : List HartState) (reasons : List HartEnd) → map (λ b. b.«end») harts ≡ map Some reasons → (h : ℕ) (reason : HartEnd)
    → slice_get reasons h ≡ Some reason
    → (b : HartState) × (slice_get harts h ≡ Some b) × (b.«end» ≡ Some reason)
end_at [] [] are h reason at = absurd (none-some reason at)
end_at [] (r ∷ rest) are h reason at = absurd (let no : [] ≡ Some r ∷ map Some rest = are in cc)
end_at (b ∷ harts) [] are h reason at = absurd (none-some reason at)
end_at (b ∷ harts) (r ∷ rest) are zero reason at =
    let same : r ≡ reason = cc in
    let first : b.«end» ≡ Some r = (let whole : b.«end» ∷ map (λ c. c.«end») harts ≡ Some r ∷ map Some rest = are in cc) in
    (b, refl, first ∙ ap Some same)
end_at (b ∷ harts) (r ∷ rest) are (suc h) reason at =
    let others : map (λ c. c.«end») harts ≡ map Some rest = (let whole : b.«end» ∷ map (λ c. c.«end») harts ≡ Some r ∷ map Some rest = are in cc) in
    end_at harts rest others h reason at

ends_length : (harts : List HartState) (reasons : List HartEnd) → map (λ b. b.«end») harts ≡ map Some reasons → length reasons ≡ length harts
ends_length [] [] are = refl
ends_length [] (r ∷ rest) are = absurd (let no : [] ≡ Some r ∷ map Some rest = are in cc)
ends_length (b ∷ harts) [] are = absurd (let no : b.«end» ∷ map (λ c. c.«end») harts ≡ [] = are in cc)
ends_length (b ∷ harts) (r ∷ rest) are = ap suc (ends_length harts rest (let whole : b.«end» ∷ map (λ c. c.«end») harts ≡ Some r ∷ map Some rest = are in cc))

-- a hart that starts has been given registers
entry_of_other : (fuel : ℕ) (entries : List HartEntry) (h : ℕ) (b : HartState) → slice_get (map (starting_hart fuel) entries) h ≡ Some b
    → (entry : HartEntry) × (slice_get entries h ≡ Some entry)
entry_of_other fuel [] h b at = absurd (none-some b at)
entry_of_other fuel (entry ∷ rest) zero b at = (entry, refl)
entry_of_other fuel (entry ∷ rest) (suc h) b at = entry_of_other fuel rest h b at

entry_of : (fuel : ℕ) (functions : List Function) (entries : List HartEntry) (h : ℕ) (b : HartState)
    → slice_get (starting_harts fuel functions entries) h ≡ Some b
    → (entry : HartEntry) × (slice_get entries h ≡ Some entry)
entry_of fuel functions [] h b at = absurd (none-some b at)
entry_of fuel functions (entry ∷ rest) zero b at = (entry, refl)
entry_of fuel functions (entry ∷ rest) (suc h) b at = entry_of_other fuel rest h b at

-- ---- ends

-- the code of an exit is one of an end
exit_is : (b : HartState) (code : ℕ) → exit_code b ≡ Some code → b.«end» ≡ Some (ends.Exit code)
exit_is b code is = by b.«end» is
  where
    reason_is : (reason : HartEnd) → elim reason [ ends.Exit n ↦ Some n | _ ↦ None ] ≡ Some code → reason ≡ ends.Exit code
    reason_is (ends.Exit n) same = let one : Some n ≡ Some code = same in cc
    reason_is ends.FuelOut none = absurd (none-some code none)
    reason_is (ends.NotMapped pc address) none = absurd (none-some code none)
    reason_is (ends.SlotStore pc address) none = absurd (none-some code none)
    reason_is (ends.BadInstruction pc word) none = absurd (none-some code none)
    reason_is (ends.Misaligned pc address) none = absurd (none-some code none)
    reason_is (ends.Break pc) none = absurd (none-some code none)
    reason_is (ends.BadModule number) none = absurd (none-some code none)
    reason_is (ends.Unloaded owner) none = absurd (none-some code none)
    reason_is (ends.NoSlot owner eights) none = absurd (none-some code none)
    reason_is (ends.Unresolved owner slot) none = absurd (none-some code none)
    reason_is (ends.NotCode owner slot) none = absurd (none-some code none)
    reason_is (ends.AddressSpaceFull pages) none = absurd (none-some code none)
    reason_is ends.Memory none = absurd (none-some code none)

    by : (e : Option HartEnd) → elim e [ Some reason ↦ elim reason [ ends.Exit n ↦ Some n | _ ↦ None ] | None ↦ None ] ≡ Some code → e ≡ Some (ends.Exit code)
    by None none = absurd (none-some code none)
    by (Some reason) some = ap Some (reason_is reason some)

-- a grant is nothing to an end
own_end : (hart own : HartState) → MayBeFreed hart own → own.«end» ≡ hart.«end»
own_end hart own (inl same) = ap (λ (b : HartState). b.«end») (sym same)
own_end hart own (inr same) = ap (λ (b : HartState). b.«end») (sym same)

-- ---- what is left is settled

module _ (w : Setting) (h from : ℕ) (begun : HartState) where
  settled_stands : (world : World) → Stands w h from begun world → Stands w h from begun (settled world)
  settled_stands world x = left_alone w h from begun world (settled world) (settling world.harts) x (freed x.hart) refl (settling_others h world.harts)
      (freed_here world.harts h x.hart x.there) (inr refl)

-- ---- harts but the first

module _ (w : Setting) (k from : ℕ) (begun : HartState) where
  begins_stands : (registers : Registers) (old new : World) → RunBegins registers old new → Stands w (suc k) from begun old → Stands w (suc k) from begun new
  begins_stands registers old new begins x = left_alone w (suc k) from begun old new [] x x.hart
      (ap (λ (y : World). y.journal) begins.begun ∙ sym (append-nil old.journal)) (λ e there. absurd (none_in e there))
      (ap (λ (y : World). slice_get y.harts (suc k)) begins.begun ∙ ap (λ (bs : List HartState). slice_get bs (suc k)) (sym begins.harts) ∙ x.there) (inl refl)

  lacks_stands : (old new : World) → LacksMemory w old new → Stands w (suc k) from begun old → Stands w (suc k) from begun new
  lacks_stands old new lacks x = left_alone w (suc k) from begun old new (settling old.harts ++ Ended 0 ends.Memory ∷ []) x (freed x.hart)
      (ap (λ (y : World). y.journal) lacks.leaves ∙ append_assoc old.journal (settling old.harts) (Ended 0 ends.Memory ∷ []))
      (others_both (suc k) (settling old.harts) (Ended 0 ends.Memory ∷ []) (settling_others (suc k) old.harts)
      (others_one (suc k) (Ended 0 ends.Memory) first_is))
      (ap (λ (y : World). slice_get y.harts (suc k)) lacks.leaves ∙ freed_here lacks.others k x.hart
      (ap (λ (bs : List HartState). slice_get bs (suc k)) (sym lacks.harts) ∙ x.there)) (inr refl)
    where
      first_is : Some 0 ≢ Some (suc k)
      first_is same = let one : 0 ≡ suc k = cc in omega (arith, one)

-- ---- a run

module _ (w : Setting) (setup : Setup) (items : List TurnItem) (world : World) (run : Run w setup items world) where
  abbrev from : ℕ
  from = length run.started.journal

  started_stands : (h : ℕ) (b : HartState) → slice_get run.started.harts h ≡ Some b → Stands w h from b run.started
  started_stands h b at = record {
    turns = [];
    to = from;
    own = b;
    hart = b;
    there = at;
    alike = inl refl;
    follows = Follows.no_more from b;
    within = omega arith;
    none = λ k e low high is. absurd (omega (arith, low, high));
  }

  -- when all have ended
  finished_stands : (h : ℕ) (b : HartState) → slice_get run.started.harts h ≡ Some b → Stands w h from b run.finished
  finished_stands h b at =
      finishes w (Stands w h from b) (turn_stands w h from b) run.scheduled run.finished run.finishes
      (items_keep w (Stands w h from b) (turn_stands w h from b) items run.constructed run.scheduled run.follows
      (constructs w (Stands w h from b) (turn_stands w h from b) run.started run.constructed run.constructs (started_stands h b at)))

  -- harts but the first
  other_stands : (k : ℕ) (b : HartState) → slice_get run.started.harts (suc k) ≡ Some b → Stands w (suc k) from b world
  other_stands k b at =
      let finished : Stands w (suc k) from b run.finished = finished_stands (suc k) b at in
      subst (Stands w (suc k) from b) (sym run.ends)
      (settled_stands w (suc k) from b run.finalised
      (finals w (Stands w (suc k) from b) (turn_stands w (suc k) from b) (starting_registers run.entry) run.finished run.finalised
      (λ begun begins. begins_stands w k from b (starting_registers run.entry) run.finished begun begins finished)
      (λ lacks. lacks_stands w k from b run.finished run.finalised lacks finished) run.finalises finished))

-- a hart whose turns all come before its first end
stays : (w : Setting) (h : ℕ) (start : HartStart) (reason : HartEnd) (world : World) (b : HartState) → slice_get world.harts h ≡ Some b → b.«end» ≡ Some reason
    → (x : Stands w h start.from start.hart world)
    → ((first : HartEnd) → HasNone world.journal h x.to (length world.journal) → EndsBehind w world.journal h start.registers x.to x.own first first)
    → FollowsToItsEnd w world.journal start h reason
stays w h start reason world b at over x behind = record {
  turns = x.turns;
  to = x.to;
  ended = x.own;
  follows = x.follows;
  first = reason;
  ends = own_end x.hart x.own x.alike ∙ ap (λ (c : HartState). c.«end») (both_found (slice_get world.harts h) x.hart b x.there at) ∙ over;
  behind = behind reason x.none;
}

-- ---- the first hart

-- a journal with more behind another
record IsMore (past journal : List Event) : Type 0 where
  pub more : List Event
  pub is : journal ≡ past ++ more

more_behind : (past journal added : List Event) → IsMore past journal → IsMore past (journal ++ added)
more_behind past journal added x = record { more = x.more ++ added; is = ap (λ (es : List Event). es ++ added) x.is ∙ append_assoc past x.more added }

turn_more : (w : Setting) (past : List Event) (g : ℕ) (old new : World) → IsMore past old.journal → Turn w g old new → IsMore past new.journal
turn_more w past g old new x turn =
    subst (IsMore past) (sym turn.journal) (more_behind past (found_journal old turn.did) (events_of turn.did)
    (more_behind past old.journal (cond (settles turn.did) (settling old.harts) []) x))

last_here : (past : List Event) (e : Event) (rest : List Event) → slice_get (past ++ e ∷ rest) (length past) ≡ Some e
last_here [] e rest = refl
last_here (d ∷ past) e rest = last_here past e rest

-- one that begins the final destructors
final_freed : (registers : Registers) (code : ℕ) (f : Function) (b : HartState)
    → finalising_hart registers code f (freed b) ≡ freed (finalising_hart registers code f b)
final_freed registers code f b = runs_freed (Purpose.of_end code) (f ∷ []) []
    (record b { registers = registers; phase = Phase.at_pc; frames = []; «end» = None })

final_may : (registers : Registers) (code : ℕ) (f : Function) (hart own : HartState) → MayBeFreed hart own
    → MayBeFreed (finalising_hart registers code f hart) (finalising_hart registers code f own)
final_may registers code f hart own (inl same) = inl (ap (finalising_hart registers code f) same)
final_may registers code f hart own (inr same) = inr (ap (finalising_hart registers code f) same ∙ final_freed registers code f own)

-- what is settled changes neither who has exited nor what is left
exited_stays : (w : Setting) (past : List Event) (harts : List HartState) → have_exited w (after (past ++ settling harts)) ≡ have_exited w (after past)
exited_stays w = settling_keeps Bool (have_exited w) (λ s number standing. refl)

finis_stay : (past : List Event) (harts : List HartState) → all_finis (after (past ++ settling harts)) ≡ all_finis (after past)
finis_stay = settling_keeps (List ℕ) all_finis (λ s number standing. refl)

module _ (w : Setting) (start : HartStart) (old new : World) (x : Stands w 0 start.from start.hart old)
    (told : have_exited w (after old.journal) ≡ harts_have_exited old) where
  abbrev Ends : World → HartEnd → Type 0
  Ends world reason = (b : HartState) → slice_get world.harts 0 ≡ Some b → b.«end» ≡ Some reason → FollowsToItsEnd w world.journal start 0 reason

  own_exit : (first : HartState) (others : List HartState) (code : ℕ) → old.harts ≡ first ∷ others → exit_code first ≡ Some code
      → x.own.«end» ≡ Some (ends.Exit code)
  own_exit first others code harts exited =
      let same : x.hart ≡ first = both_found (slice_get old.harts 0) x.hart first x.there (ap (λ (bs : List HartState). slice_get bs 0) harts) in
      own_end x.hart x.own x.alike ∙ ap (λ (b : HartState). b.«end») same ∙ exit_is first code exited

  -- nothing comes behind
  none_runs : (reason : HartEnd) → harts_have_exited old ≡ false → Ends (settled old) reason
  none_runs reason exited b at over =
      stays w 0 start reason (settled old) b at over (settled_stands w 0 start.from start.hart old x)
      (λ first none. EndsBehind.none_runs refl none (exited_stays w old.journal old.harts ∙ told ∙ exited))

  none_is_left : (reason : HartEnd) → all_finis (after old.journal) ≡ [] → Ends (settled old) reason
  none_is_left reason none_left b at over =
      stays w 0 start reason (settled old) b at over (settled_stands w 0 start.from start.hart old x)
      (λ first none. EndsBehind.none_is_left refl none (finis_stay old.journal old.harts ∙ none_left))

  -- its second end
  module _ (exited : IsTrue (harts_have_exited old)) (lacks : LacksMemory w old new) where
    abbrev past : List Event
    past = old.journal ++ settling old.harts

    abbrev last : Event
    last = Ended 0 ends.Memory

    abbrev journal : List Event
    journal = new.journal ++ settling new.harts

    journal_is : journal ≡ past ++ last ∷ settling new.harts
    journal_is = ap (λ (y : World). y.journal ++ settling new.harts) lacks.leaves ∙ append_assoc past (last ∷ []) (settling new.harts)

    lacks_list : LacksList w journal x.to x.own (length past)
    lacks_list =
        let within : x.to ≤ length old.journal = x.within in
        let longer : length past ≡ length old.journal + length (settling old.harts) = length-append old.journal (settling old.harts) in
        record {
          code = lacks.code;
          exited = own_exit lacks.first lacks.others lacks.code lacks.harts lacks.exited;
          since = omega (arith, within, longer);
          none = subst (λ (j : List Event). HasNone j 0 x.to (length past)) (sym journal_is)
              (none_longer w past (last ∷ settling new.harts) 0 x.to (length past) (omega arith)
              (none_with w old.journal (settling old.harts) 0 x.to (length past) x.none (settling_others 0 old.harts)));
          over = ap (λ (es : List Event). have_exited w (after es))
              (ap (take (length past)) journal_is ∙ take_at past (last ∷ settling new.harts) (length past) refl)
              ∙ exited_stays w old.journal old.harts ∙ told ∙ exited;
          ends = ap (λ (j : List Event). slice_get j (length past)) journal_is ∙ last_here past last (settling new.harts);
        }

    none_after : HasNone journal 0 (length past + 1) (length journal)
    none_after =
        let longer : length (past ++ last ∷ []) ≡ length past + 1 = length-append past (last ∷ []) in
        subst (λ (es : List Event). HasNone (es ++ settling new.harts) 0 (length past + 1) (length (es ++ settling new.harts)))
        (sym (ap (λ (y : World). y.journal) lacks.leaves))
        (none_with w (past ++ last ∷ []) (settling new.harts) 0 (length past + 1) (length ((past ++ last ∷ []) ++ settling new.harts))
        (λ k e low high at. absurd (omega (arith, longer, low, high))) (settling_others 0 new.harts))

    no_memory : (reason : HartEnd) → Ends (settled new) reason
    no_memory reason b at over =
        let same : freed (ended ends.Memory lacks.first) ≡ b =
        both_found (slice_get (settled new).harts 0) (freed (ended ends.Memory lacks.first)) b
        (ap (λ (y : World). slice_get (map freed y.harts) 0) lacks.leaves) at in
        let memory : Some ends.Memory ≡ Some reason = ap (λ (c : HartState). c.«end») same ∙ over in
        subst (FollowsToItsEnd w journal start 0) (let one : ends.Memory ≡ reason = cc in one) (record {
          turns = x.turns;
          to = x.to;
          ended = x.own;
          follows = subst (λ (j : List Event). Follows w j 0 start.from start.hart x.turns x.to x.own) (sym journal_is)
              (follows_longer w past (last ∷ settling new.harts) 0 start.from x.to start.hart x.own x.turns
              (follows_longer w old.journal (settling old.harts) 0 start.from x.to start.hart x.own x.turns x.follows));
          first = ends.Exit lacks.code;
          ends = own_exit lacks.first lacks.others lacks.code lacks.harts lacks.exited;
          behind = EndsBehind.no_memory refl (length past) lacks_list none_after;
        })

  -- the final destructors
  module _ (exited : IsTrue (harts_have_exited old)) (begun : World) (begins : RunBegins start.registers old begun) where
    abbrev function : Function
    function = record { object = begins.object; addresses = begins.addresses }

    abbrev again : HartState
    again = finalising_hart start.registers begins.code function x.own

    abbrev Goes : World → Type 0
    Goes world = Stands w 0 (length old.journal) again world × IsMore old.journal world.journal

    goes_first : Goes begun
    goes_first = subst Goes (sym begins.begun) (
      record {
        turns = [];
        to = length old.journal;
        own = again;
        hart = finalising_hart start.registers begins.code function begins.first;
        there = refl;
        alike = final_may start.registers begins.code function begins.first x.own
            (subst (λ (b : HartState). MayBeFreed b x.own) (both_found (slice_get old.harts 0) x.hart begins.first x.there
            (ap (λ (bs : List HartState). slice_get bs 0) begins.harts)) x.alike);
        follows = Follows.no_more (length old.journal) again;
        within = omega arith;
        none = λ k e low high at. absurd (omega (arith, low, high));
      },
      record { more = []; is = sym (append-nil old.journal) },
    )

    one_on : (g : ℕ) (one two : World) → Goes one → Turn w g one two → Goes two
    one_on g one two z turn = (turn_stands w 0 (length old.journal) again g one two z.0 turn, turn_more w old.journal g one two z.1 turn)

    goes_on : RunEnds w begun new → Goes (settled new)
    goes_on ends_so =
        let y = ends_keep w Goes one_on begun new ends_so goes_first in
        (settled_stands w 0 (length old.journal) again new y.0, more_behind old.journal new.journal (settling new.harts) y.1)

    begins_finals : (journal : List Event) → IsMore old.journal journal → BeginsFinals w journal start.registers x.to x.own (length old.journal) again
    begins_finals journal y =
        let taken : take (length old.journal) journal ≡ old.journal = ap (take (length old.journal)) y.is
        ∙ take_at old.journal y.more (length old.journal) refl in
        let longer : length (old.journal ++ y.more) ≡ length old.journal + length y.more = length-append old.journal y.more in
        record {
          code = begins.code;
          exited = own_exit begins.first begins.others begins.code begins.harts begins.exited;
          since = x.within;
          within = subst (λ (j : List Event). length old.journal ≤ length j) (sym y.is) (omega (arith, longer));
          none = subst (λ (j : List Event). HasNone j 0 x.to (length old.journal)) (sym y.is)
              (none_longer w old.journal y.more 0 x.to (length old.journal) (omega arith) x.none);
          over = ap (λ (es : List Event). have_exited w (after es)) taken ∙ told ∙ exited;
          object = begins.object;
          rest = begins.rest;
          next = ap (λ (es : List Event). all_finis (after es)) taken ∙ begins.next;
          addresses = begins.addresses;
          are = subst (λ (es : List Event). AreAddresses destructors begins.addresses (image_of (after es) begins.object)) (sym taken) begins.are;
          is = refl;
        }

    all_run : (reason : HartEnd) → RunEnds w begun new → Ends (settled new) reason
    all_run reason ends_so b at over =
        let y = goes_on ends_so in
        record {
          turns = x.turns;
          to = x.to;
          ended = x.own;
          follows = subst (λ (j : List Event). Follows w j 0 start.from start.hart x.turns x.to x.own) (sym y.1.is)
              (follows_longer w old.journal y.1.more 0 start.from x.to start.hart x.own x.turns x.follows);
          first = ends.Exit begins.code;
          ends = own_exit begins.first begins.others begins.code begins.harts begins.exited;
          behind = EndsBehind.all_run refl (length old.journal) y.0.to again y.0.own y.0.turns reason (begins_finals (settled new).journal y.1) y.0.follows
              (own_end y.0.hart y.0.own y.0.alike ∙ ap (λ (c : HartState). c.«end») (both_found (slice_get (settled new).harts 0) y.0.hart b y.0.there at)
              ∙ over) y.0.none;
        }

  first_ends : (reason : HartEnd) → Finalises w start.registers old new → Ends (settled new) reason
  first_ends reason (Finalises.none_runs exited same) = subst (λ (y : World). Ends (settled y) reason) (sym same) (none_runs reason exited)
  first_ends reason (Finalises.none_is_left none same) = subst (λ (y : World). Ends (settled y) reason) (sym same) (none_is_left reason none)
  first_ends reason (Finalises.no_memory exited lacks) = no_memory exited lacks reason
  first_ends reason (Finalises.all_run begun exited begins ends_so) = all_run exited begun begins reason ends_so

-- ---- all harts

module _ (told : ExitsAreTold) (fit : RunsFit) (w : Setting) (setup : Setup) (items : List TurnItem) (world : World) (run : Run w setup items world) where
  -- how many harts there are is settled at the start
  length_is : length world.harts ≡ w.machine.harts
  length_is =
      let n : ℕ = w.machine.harts in
      let finished : length run.finished.harts ≡ w.machine.harts = (fit w setup items world run).finished.harts in
      ap (λ (y : World). length y.harts) run.ends ∙ freed_length run.finalised.harts
      ∙ finals w (λ (y : World). length y.harts ≡ w.machine.harts) (λ g one two. turn_keeps_length w w.machine.harts g one two)
      (starting_registers run.entry) run.finished run.finalised
      (λ begun begins. begun_length begun begins finished) (λ lacks. lacking_length lacks finished) run.finalises finished
    where
      begun_length : (begun : World) → RunBegins (starting_registers run.entry) run.finished begun → length run.finished.harts ≡ w.machine.harts
          → length begun.harts ≡ w.machine.harts
      begun_length begun begins is = ap (λ (y : World). length y.harts) begins.begun ∙ ap (λ (bs : List HartState). length bs) (sym begins.harts) ∙ is

      lacking_length : LacksMemory w run.finished run.finalised → length run.finished.harts ≡ w.machine.harts → length run.finalised.harts ≡ w.machine.harts
      lacking_length lacks is = ap (λ (y : World). length y.harts) lacks.leaves ∙ ap suc (freed_length lacks.others)
          ∙ ap (λ (bs : List HartState). length bs) (sym lacks.harts) ∙ is

  -- each has started
  start_at : (h : ℕ) (b : HartState) → slice_get world.harts h ≡ Some b → (start : HartState) × (slice_get run.started.harts h ≡ Some start)
  start_at h b at =
      let less : h < length world.harts = slice_get_within world.harts h b at in
      let same : length world.harts ≡ w.machine.harts = length_is in
      let begun : length run.started.harts ≡ w.machine.harts = (fit w setup items world run).started.harts in
      there_is run.started.harts h (omega (arith, less, same, begun))

  -- where startup sets a hart off
  is_start : (h : ℕ) (b : HartState) (entry : HartEntry) → slice_get run.started.harts h ≡ Some b → slice_get run.starts.started.entries h ≡ Some entry
      → IsStartOf setup.fuel run.started.journal run.starts.started h
      (record { from = length run.started.journal; registers = starting_registers entry; hart = b })
  is_start h b entry at given = record {
    from = refl;
    entry = entry;
    given = given;
    registers = refl;
    hart = ap (λ (bs : List HartState). slice_get bs h) (sym run.starts.harts) ∙ at;
  }

  follows_at : (h : ℕ) (reason : HartEnd) (b : HartState) → slice_get world.harts h ≡ Some b → b.«end» ≡ Some reason
      → (start : HartStart) × IsStartOf setup.fuel run.started.journal run.starts.started h start × FollowsToItsEnd w world.journal start h reason
  follows_at zero reason b at over =
      let begun = start_at 0 b at in
      let start : HartStart = record { from = length run.started.journal; registers = starting_registers run.entry; hart = begun.0 } in
      let finished : BeforeFinals w run.finished = (fit w setup items world run).finished in (
        start,
        is_start 0 begun.0 run.entry begun.1 run.first,
        subst (λ (y : World). slice_get y.harts 0 ≡ Some b → FollowsToItsEnd w y.journal start 0 reason) (sym run.ends)
            (λ there. first_ends w start run.finished run.finalised (finished_stands w setup items world run 0 begun.0 begun.1)
            (told w run.finished finished (rounds_end w run.scheduled run.finished run.finishes)) reason run.finalises b there over) at,
      )
  follows_at (suc k) reason b at over =
      let begun = start_at (suc k) b at in
      let entry = entry_of setup.fuel run.starts.started.functions run.starts.started.entries (suc k) begun.0
      (ap (λ (bs : List HartState). slice_get bs (suc k)) (sym run.starts.harts) ∙ begun.1) in
      let start : HartStart = record { from = length run.started.journal; registers = starting_registers entry.0; hart = begun.0 } in (
        start,
        is_start (suc k) begun.0 entry.0 begun.1 entry.1,
        stays w (suc k) start reason world b at over (other_stands w setup items world run k begun.0 begun.1)
            (λ first none. EndsBehind.is_another (λ same. suc-zero k same) none),
      )
    where
      suc-zero : (k : ℕ) → suc k ≡ 0 → ⊥
      suc-zero k same = omega (arith, same)

  begins_with : IsMore run.started.journal world.journal
  begins_with =
      let kept : (g : ℕ) (one two : World) → IsMore run.started.journal one.journal → Turn w g one two → IsMore run.started.journal two.journal =
      λ g one two x turn. turn_more w run.started.journal g one two x turn in
      let finished : IsMore run.started.journal run.finished.journal =
      finishes w (λ (y : World). IsMore run.started.journal y.journal) kept run.scheduled run.finished run.finishes
      (items_keep w (λ (y : World). IsMore run.started.journal y.journal) kept items run.constructed run.scheduled run.follows
      (constructs w (λ (y : World). IsMore run.started.journal y.journal) kept run.started run.constructed run.constructs
      (record { more = []; is = sym (append-nil run.started.journal) }))) in
      subst (λ (y : World). IsMore run.started.journal y.journal) (sym run.ends)
      (more_behind run.started.journal run.finalised.journal (settling run.finalised.harts)
      (finals w (λ (y : World). IsMore run.started.journal y.journal) kept (starting_registers run.entry) run.finished run.finalised
      (λ begun begins. subst (λ (y : World). IsMore run.started.journal y.journal) (sym begins.begun) finished)
      (λ lacks. subst (λ (y : World). IsMore run.started.journal y.journal) (sym lacks.leaves)
      (more_behind run.started.journal (run.finished.journal ++ settling run.finished.harts) (Ended 0 ends.Memory ∷ [])
      (more_behind run.started.journal run.finished.journal (settling run.finished.harts) finished))) run.finalises finished))

pub runs_follow : ExitsAreTold → RunsFit → RunsFollow
runs_follow told fit w setup items world reasons run are = record {
  past = run.started.journal;
  started = run.starts.started;
  starts = run.starts.starts;
  more = (begins_with told fit w setup items world run).more;
  begins = (begins_with told fit w setup items world run).is;
  all = ends_length world.harts reasons are ∙ length_is told fit w setup items world run;
  each = λ h reason at. let b = end_at world.harts reasons are h reason at in follows_at told fit w setup items world run h reason b.0 b.1 b.2;
}
