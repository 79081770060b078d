-- What a turn makes of how far its hart is with a slot.
use Rattle.std.proofs.Common.{◌≡◌, inl, inr, ⊎_elim, ℕ, ◌+◌, ◌*◌, Bool, true, false, cond, List, [], ◌∷◌, ◌++◌, length, map, Option, Some, None, Result, Ok, Err, refl, sym, ap, subst, ◌∙◌, ◌==◌}
use Rattle.std.specs.Prelude.{nat_lt, not, ◌&&◌, ◌%◌}
use Rattle.std.specs.List.{Contains}
use Rattle.std.specs.Option.{is_some}
use Rattle.std.proofs.lemmas.List.Elements.{Contains-append_cases}
use Rattle.ld_base.specs.declared.fault.DlFault.{DlFault}
use Rattle.ld_base.specs.declared.fault.Shown.{Shown}
use Rattle.history_event.specs.declared.event.Event.{Event}
use Rattle.history_event.specs.declared.event.Event.TheVariants as events
use Rattle.history_event.specs.declared.handed.Function.{Function}
use Rattle.history_event.specs.declared.hart_end.HartEnd.{HartEnd}
use Rattle.history_event.specs.declared.hart_end.HartEnd.TheVariants as ends
use Rattle.history_event.specs.declared.state.Granting.{Granting}
use Rattle.history_event.specs.declared.state.Standing.TheVariants as standings
use Rattle.rv_hart.specs.declared.bus.BusFault.{BusFault}
use Rattle.rv_hart.specs.declared.bus.BusFault.TheVariants.{Role as RoleFault, Misaligned, Again}
use Rattle.rv_hart.specs.declared.bus.Item.{Item}
use Rattle.rv_hart.specs.declared.bus.Item.TheVariants.{Write}
use Rattle.rv_hart.specs.declared.stepping.Stop.{Stop}
use Rattle.rv_hart.specs.declared.stepping.Stop.TheVariants as stop
use Rattle.rv_hart.specs.Trail.{Place, Ready, Accessing, Stopped}
use Rattle.history_state.specs.After.{after}
use Rattle.history_state.specs.Objects.{has, object_at}
use Rattle.history_state.specs.Setting.{Setting}
use Rattle.history_state.specs.State.{State}
use Rattle.history_state.specs.Lemmas.Lists.{from_map, none_in, only_in}
use Rattle.history_calls.specs.Answer.{Answer, returns, loading, closing, refused, granted, told, again, over}
use Rattle.history_calls.specs.Call.{Call}
use Rattle.history_calls.specs.Call as call
use Rattle.history_calls.specs.Functions.{left, passed}
use Rattle.history_calls.specs.Gives.{EventAnswers, Gives, Serves, ending}
use Rattle.history_calls.specs.Served.{answer_text}
use Rattle.hart_moves.specs.Copying.{Copy, number_in, text_words}
use Rattle.hart_moves.specs.Due.{Due, Return, all_done, at_service, back, behind, by_frames, by_name, by_phase, by_queue, by_resolving, call_of, done, due, within_fuel, write_count}
use Rattle.hart_moves.specs.Harts.{Frame, HartState, Naming, Offered, Phase, Purpose, Resolving}
use Rattle.hart_moves.specs.Moves.{Did, spent, freed, freed_by, did_by, TurnEnds, Goes, Traps, Trap, trap_of, TurnRefuses, TurnStops, Comes, Unread, CopiesBy, copied_item, StoresBy, stored_to, passing, Passes, runs, own_fini, Finals, final_functions, IsOffer, Takes, TellsOf, telling, MovesAs, Moves, settled_resolving}
use Rattle.hart_moves.specs.Registers.{a0, a1, a2, ra}
use Rattle.hart_moves.specs.Services.{Service, service_at}
use Rattle.hart_moves.specs.Waiting.{is_still}
use Rattle.world_turns.specs.Lemmas.Offers.{granted_to}
use Rattle.world_turns.specs.Lemmas.Starting.{runs_idle}

-- ---- turns that are neither an exchange nor the end of an offer

abbrev is_plain : Due → Bool
is_plain Due.nothing = true
is_plain (Due.exchange o) = false
is_plain (Due.finish o found) = false
is_plain Due.fuel_out = true
is_plain Due.instruction = true
is_plain (Due.copy copy start bytes) = true
is_plain (Due.serve call back) = true
is_plain (Due.wait for) = true
is_plain (Due.store text stored word more) = true
is_plain (Due.enter function frames) = true
is_plain (Due.complete purpose object rest below) = true
is_plain (Due.finalise code object) = true

abbrev IsPlain : Due → Type 0
IsPlain d = is_plain d ≡ true

either_plain : (t : Bool) (x y : Due) → IsPlain x → IsPlain y → IsPlain (cond t x y)
either_plain true x y a b = a
either_plain false x y a b = b

name_plain : (s : State) (b : HartState) (n : Naming) → IsPlain (by_name s b n)
name_plain s b Naming.dlopen =
    either_plain (a0 b.registers == 0) (Due.serve (call.dlopen s (ra b.registers) None (a1 b.registers)) (back b)) (Due.copy (Copy.of_name Naming.dlopen) (a0 b.registers) []) refl refl
name_plain s b Naming.dlmopen =
    either_plain (a1 b.registers == 0) (Due.serve (call.dlmopen (a0 b.registers) None (a2 b.registers)) (back b)) (Due.copy (Copy.of_name Naming.dlmopen) (a1 b.registers) []) refl refl
name_plain s b Naming.dlsym = refl
name_plain s b Naming.dlvsym = refl

done_plain : (purpose : Purpose) (object : ℕ) (rest : List Function) (below : List Frame) → IsPlain (done purpose object rest below)
done_plain (Purpose.of_startup registers) object rest below = refl
done_plain (Purpose.of_opening to root) object rest below = refl
done_plain (Purpose.of_closing to set) object rest below = refl
done_plain (Purpose.of_end code) object rest below = refl

all_plain : (b : HartState) (purpose : Purpose) (below : List Frame) → IsPlain (all_done b purpose below)
all_plain b (Purpose.of_startup registers) below = refl
all_plain b (Purpose.of_opening to root) below = refl
all_plain b (Purpose.of_closing to set) below = refl
all_plain b (Purpose.of_end code) below = refl

addresses_plain : (purpose : Purpose) (f : Function) (rest : List Function) (below : List Frame) (addresses : List ℕ)
    → IsPlain (elim addresses [ [] ↦ done purpose f.object rest below | function ∷ more ↦ Due.enter function (record { purpose = purpose; queue = record f { addresses = more } ∷ rest } ∷ below) ])
addresses_plain purpose f rest below [] = done_plain purpose f.object rest below
addresses_plain purpose f rest below (function ∷ more) = refl

queue_plain : (b : HartState) (purpose : Purpose) (queue : List Function) (below : List Frame) → IsPlain (by_queue b purpose queue below)
queue_plain b purpose [] below = all_plain b purpose below
queue_plain b purpose (f ∷ rest) below = addresses_plain purpose f rest below f.addresses

frames_plain : (b : HartState) (frames : List Frame) → IsPlain (by_frames b frames)
frames_plain b [] = refl
frames_plain b (frame ∷ below) = queue_plain b frame.purpose frame.queue below

service_plain : (s : State) (b : HartState) (service : Service) → IsPlain (at_service s b service)
service_plain s b Service.resolve = refl
service_plain s b (Service.of_name n) = name_plain s b n
service_plain s b Service.dlclose = refl
service_plain s b Service.dlerror = refl
service_plain s b Service.tls_get_addr =
    either_plain (a0 b.registers % 8 == 0) (Due.copy Copy.of_pair (a0 b.registers) []) (Due.serve (call.stops (ends.Misaligned b.registers.pc (a0 b.registers))) (back b)) refl refl
service_plain s b Service.next_function = frames_plain b b.frames
service_plain s b Service.exit = refl

pc_plain : (s : State) (b : HartState) (found : Option Service) → IsPlain (elim found [ Some service ↦ at_service s b service | None ↦ Due.instruction ])
pc_plain s b (Some service) = service_plain s b service
pc_plain s b None = refl

phase_plain : (s : State) (b : HartState) (phase : Phase) → IsPlain (by_phase s b phase)
unfolding by_phase
phase_plain s b Phase.at_pc = pc_plain s b (service_at b.registers.pc)
phase_plain s b (Phase.naming n bytes) = refl
phase_plain s b (Phase.versioning name bytes) = refl
phase_plain s b (Phase.named n name version) = refl
phase_plain s b (Phase.waiting n name version for) =
    either_plain (is_still s for) (Due.wait for) (Due.serve (call_of s b.registers n name version) (back b)) refl refl
phase_plain s b (Phase.pairing bytes) =
    either_plain (nat_lt (length bytes) 16) (Due.copy Copy.of_pair (a0 b.registers) bytes) (Due.serve (call.locates (number_in bytes 0) (number_in bytes 8)) (back b)) refl refl
phase_plain s b (Phase.writing bytes) =
    either_plain (nat_lt (length bytes) (write_count b.registers)) (Due.copy (Copy.of_text (write_count b.registers)) (a1 b.registers) bytes) (Due.serve (call.writes bytes) (behind b)) refl refl
phase_plain s b (Phase.storing text stored word more) = refl

within_plain : (s : State) (b : HartState) → IsPlain (within_fuel b (by_phase s b b.phase))
within_plain s b = either_plain (nat_lt b.turns b.fuel) (by_phase s b b.phase) Due.fuel_out (phase_plain s b b.phase) refl

-- ---- events that grant nothing

abbrev pub GrantNothing : List Event → Type 0
GrantNothing added = (e : Event) → Contains added e → granted_to e ≡ None

nothing_in : GrantNothing []
nothing_in e there = absurd (none_in e there)

one_of : (x : Event) → granted_to x ≡ None → GrantNothing (x ∷ [])
one_of x is e there = ap granted_to (sym (only_in x e there)) ∙ is

both_of : (one other : List Event) → GrantNothing one → GrantNothing other → GrantNothing (one ++ other)
both_of one other a b e there = ⊎_elim (λ (x : Contains one e). a e x) (λ (y : Contains other e). b e y) (Contains-append_cases one other e there)

passing_nothing : (purpose : Purpose) (h o : ℕ) → granted_to (passing purpose h o) ≡ None
passing_nothing (Purpose.of_startup registers) h o = refl
passing_nothing (Purpose.of_opening to root) h o = refl
passing_nothing (Purpose.of_closing to set) h o = refl
passing_nothing (Purpose.of_end code) h o = refl

passings_nothing : (purpose : Purpose) (h : ℕ) (objects : List ℕ) → GrantNothing (map (passing purpose h) objects)
passings_nothing purpose h objects e there = let q = from_map (passing purpose h) objects e there in ap granted_to (sym q.2) ∙ passing_nothing purpose h q.0

finals_nothing : (w : Setting) (h : ℕ) (past added : List Event) (next : Option Function) → Finals w h past added next → GrantNothing added
finals_nothing w h past added next (Finals.no_more _ none) = nothing_in
finals_nothing w h past added next (Finals.one_runs _ object function rest more finis addresses) = nothing_in
finals_nothing w h past added next (Finals.one_passes _ object rest behind last finis addresses may finals) =
    both_of (events.Fini h object ∷ []) behind (one_of (events.Fini h object) refl) (finals_nothing w h (past ++ events.Fini h object ∷ []) behind next finals)

own_nothing : (s : State) (h object : ℕ) → GrantNothing (own_fini s h object)
own_nothing s h object = by (is_some (object_at s object) && not (has s.finis object))
  where
    by : (t : Bool) → GrantNothing (cond t (events.Fini h object ∷ []) [])
    by true = one_of (events.Fini h object) refl
    by false = nothing_in

-- ---- what a call appends

-- a grant is told by its event alone, and nothing else grants
abbrev GrantsAs : ℕ → List Event → Answer → Type 0
GrantsAs h given (returns value) = GrantNothing given
GrantsAs h given (loading root added) = GrantNothing given
GrantsAs h given (closing set) = GrantNothing given
GrantsAs h given (refused fault) = GrantNothing given
GrantsAs h given (granted g) = (given ≡ events.Grant g.number h g.owner g.slot g.choice g.value ∷ []) × (g.hart ≡ h) × (g.standing ≡ standings.Open)
GrantsAs h given (told fault) = GrantNothing given
GrantsAs h given (again for) = GrantNothing given
GrantsAs h given (over reason) = GrantNothing given

answer_grants : (h : ℕ) (call : Call) (e : Event) (answer : Answer) → EventAnswers h call e answer → GrantsAs h (e ∷ ending h answer) answer
answer_grants h call e answer (EventAnswers.is_loaded ask id root first rest ranges) = one_of e refl
answer_grants h call e answer (EventAnswers.is_there ask id root ranges) = one_of e refl
answer_grants h call e answer (EventAnswers.is_absent ask) = one_of e refl
answer_grants h call e answer (EventAnswers.is_not_opened ask fault) = one_of e refl
answer_grants h call e answer (EventAnswers.dies handle first rest) = one_of e refl
answer_grants h call e answer (EventAnswers.stays handle) = one_of e refl
answer_grants h call e answer (EventAnswers.is_not_closed handle fault) = one_of e refl
answer_grants h call e answer (EventAnswers.is_unmapped set) = one_of e refl
answer_grants h call e answer (EventAnswers.is_granted owner eights slot number choice value is) = (refl, refl, refl)
answer_grants h call e answer (EventAnswers.is_unresolved owner eights slot is) = both_of (e ∷ []) (events.Ended h (ends.Unresolved owner slot) ∷ []) (one_of e refl) (one_of (events.Ended h (ends.Unresolved owner slot)) refl)
answer_grants h call e answer (EventAnswers.is_not_code owner eights slot serial index is) = both_of (e ∷ []) (events.Ended h (ends.NotCode owner slot) ∷ []) (one_of e refl) (one_of (events.Ended h (ends.NotCode owner slot)) refl)
answer_grants h call e answer (EventAnswers.is_found ask serial index value) = one_of e refl
answer_grants h call e answer (EventAnswers.is_not_found ask fault) = one_of e refl
answer_grants h call e answer (EventAnswers.is_told fault) = one_of e refl
answer_grants h call e answer (EventAnswers.is_written bytes) = one_of e refl

given_grants : (w : Setting) (past : List Event) (h : ℕ) (call : Call) (given : List Event) (answer : Answer) → Gives w past h call given answer → GrantsAs h (given ++ ending h answer) answer
given_grants w past h call given answer (Gives.by_event _ e _ answers may) = answer_grants h call e answer answers
given_grants w past h call given answer (Gives.by_first_block ask e f value finds) = both_of (e ∷ []) (f ∷ []) (one_of e (ap granted_to finds.gets)) (one_of f (ap granted_to finds.finds))
given_grants w past h call given answer (Gives.in_new_block number offset block e gets) = one_of e (ap granted_to gets.is)
given_grants w past h call given answer (Gives.in_block number offset block has) = nothing_in
given_grants w past h call given answer (Gives.to_again _ for shows) = nothing_in
given_grants w past h call given answer (Gives.to_end _ reason ends) = one_of (events.Ended h reason) refl

serves_grant : (w : Setting) (past : List Event) (h : ℕ) (call : Call) (appended : List Event) (answer : Answer) → Serves w past h call appended answer → GrantsAs h appended answer
serves_grant w past h call appended answer serves =
    subst (λ (es : List Event). GrantsAs h es answer) (sym serves.are) (given_grants w past h call serves.given answer serves.gives)

-- ---- what a turn makes of its hart's place

pub data Resolution (past : List Event) (h : ℕ) (b : HartState) (did : Did) (c : HartState) : Type 0 where
  quietly : (items : List Item) → did ≡ Did.quiet items → c.resolving ≡ b.resolving → Resolution past h b did c
  serving : (items : List Item) (added : List Event) → did ≡ Did.serves items added → c.resolving ≡ settled_resolving b.resolving → GrantNothing added → Resolution past h b did c
  granting : (g : Granting) (o : Offered) → did ≡ Did.serves [] (events.Grant g.number h g.owner g.slot g.choice g.value ∷ []) → g.hart ≡ h → g.standing ≡ standings.Open → c.resolving ≡ Resolving.to_exchange o → IsOffer (after past) g o
      → settled_resolving b.resolving ≡ Resolving.idle → c.«end» ≡ b.«end» → Resolution past h b did c
  waiting : (for : Shown) → did ≡ Did.waits for → c.resolving ≡ settled_resolving b.resolving → Resolution past h b did c
  exchanging : (o : Offered) (found : ℕ) → did ≡ Did.exchanges o found → b.resolving ≡ Resolving.to_exchange o → c.resolving ≡ Resolving.to_finish o found → Resolution past h b did c
  finishing : (o : Offered) (found : ℕ) → did ≡ Did.finishes → b.resolving ≡ Resolving.to_finish o found → c.resolving ≡ Resolving.to_settle o found → Resolution past h b did c

module _ (w : Setting) (past : List Event) (h : ℕ) (b : HartState) where
  goes : (x : HartState) (items : List Item) (did : Did) (c : HartState) → x.resolving ≡ b.resolving → Goes items x did c → Resolution past h b did c
  goes x items did c same y = Resolution.quietly items y.is (ap (λ (z : HartState). z.resolving) y.leaves ∙ same)

  stops_here : (x : HartState) (items : List Item) (reason : HartEnd) (did : Did) (c : HartState) → x.resolving ≡ b.resolving → TurnEnds w past h x items reason did c → Resolution past h b did c
  stops_here x items reason did c same y =
      Resolution.serving items (events.Ended h reason ∷ []) y.is (ap (λ (z : HartState). z.resolving) y.leaves ∙ ap settled_resolving same) (one_of (events.Ended h reason) refl)

  by_trap : (items : List Item) (trap : Trap) (did : Did) (c : HartState) → Traps w past h b items trap did c → Resolution past h b did c
  by_trap items (Trap.exits code) did c x = stops_here (spent b) items _ did c refl x
  by_trap items (Trap.gives value) did c x = goes _ items did c refl x
  by_trap items Trap.writes did c x = goes _ items did c refl x

  by_refusal : (items : List Item) (address : ℕ) (fault : BusFault) (did : Did) (c : HartState) → TurnRefuses w past h b items address fault did c → Resolution past h b did c
  by_refusal items address (RoleFault role) did c x = stops_here (spent b) items _ did c refl x
  by_refusal items address Misaligned did c x = stops_here (spent b) items _ did c refl x
  by_refusal items address (Again shown) did c x = goes b items did c refl x

  by_stop : (items : List Item) (s : Stop) (did : Did) (c : HartState) → TurnStops w past h b items s did c → Resolution past h b did c
  by_stop items stop.Ecall did c x = by_trap items (trap_of b.registers) did c x
  by_stop items stop.Break did c x = stops_here (spent b) items _ did c refl x
  by_stop items (stop.Bad word) did c x = stops_here (spent b) items _ did c refl x
  by_stop items (stop.Misaligned address) did c x = stops_here (spent b) items _ did c refl x
  by_stop items (stop.Refused address fault) did c x = by_refusal items address fault did c x

  by_place : (items : List Item) (place : Place) (did : Did) (c : HartState) → Comes w past h b items place did c → Resolution past h b did c
  by_place items (Ready r) did c x = goes _ items did c refl x
  by_place items (Accessing r decoded) did c x = absurd x
  by_place items (Stopped r s) did c x = by_stop items s did c x

  by_unread : (items : List Item) (copy : Copy) (address : ℕ) (did : Did) (c : HartState) → Unread w past h b items copy address did c → Resolution past h b did c
  by_unread items (Copy.of_name n) address did c x = stops_here (spent b) items _ did c refl x
  by_unread items (Copy.of_version name) address did c x = stops_here (spent b) items _ did c refl x
  by_unread items Copy.of_pair address did c x = stops_here (spent b) items _ did c refl x
  by_unread items (Copy.of_text count) address did c x = goes _ items did c refl x

  by_copy : (items : List Item) (copy : Copy) (start : ℕ) (bytes : List ℕ) (answer : Result ℕ BusFault) (did : Did) (c : HartState) → CopiesBy w past h b items copy start bytes answer did c → Resolution past h b did c
  by_copy items copy start bytes (Ok word) did c x = goes _ items did c refl x
  by_copy items copy start bytes (Err (RoleFault role)) did c x = by_unread items copy _ did c x
  by_copy items copy start bytes (Err Misaligned) did c x = absurd x
  by_copy items copy start bytes (Err (Again shown)) did c x = goes b items did c refl x

  stored_same : (text stored : ℕ) (more : List ℕ) → (stored_to text stored more b).resolving ≡ b.resolving
  stored_same text stored [] = refl
  stored_same text stored (word ∷ more) = refl

  by_store : (items : List Item) (text stored : ℕ) (more : List ℕ) (answer : Result Unit BusFault) (did : Did) (c : HartState) → StoresBy w past h b items text stored more answer did c → Resolution past h b did c
  by_store items text stored more (Ok done) did c x = goes (stored_to text stored more b) items did c (stored_same text stored more) x
  by_store items text stored more (Err (RoleFault role)) did c x = stops_here (spent b) items _ did c refl x
  by_store items text stored more (Err Misaligned) did c x = absurd x
  by_store items text stored more (Err (Again shown)) did c x = goes b items did c refl x

  by_passing : (purpose : Purpose) (before : List Event) (functions : List Function) (below : List Frame) (did : Did) (c : HartState) → GrantNothing before → Passes w past h b purpose before functions below did c → Resolution past h b did c
  by_passing purpose before functions below did c none x =
      Resolution.serving [] (before ++ map (passing purpose h) (passed functions)) x.is
      (ap (λ (z : HartState). z.resolving) x.leaves ∙ runs_idle purpose (left functions) below (freed b))
      (both_of before (map (passing purpose h) (passed functions)) none (passings_nothing purpose h (passed functions)))

  by_events : (x : HartState) (added : List Event) (did : Did) (c : HartState) → x.resolving ≡ settled_resolving b.resolving → GrantNothing added → did ≡ Did.serves [] added → c ≡ x → Resolution past h b did c
  by_events x added did c same none is leaves = Resolution.serving [] added is (ap (λ (z : HartState). z.resolving) leaves ∙ same) none

  telling_same : (text : ℕ) (words : List ℕ) (x : HartState) → (telling text words x).resolving ≡ x.resolving
  telling_same text [] x = refl
  telling_same text (word ∷ more) x = refl

  by_telling : (text : ℕ) (to : Return) (fault : Option DlFault) (appended : List Event) (did : Did) (c : HartState) → GrantNothing appended → TellsOf text b to fault appended did c → Resolution past h b did c
  by_telling text to (Some fault) appended did c none x = by_events _ appended did c (telling_same text (text_words (answer_text fault)) (freed b)) none x.is x.leaves
  by_telling text to None appended did c none x = by_events _ appended did c refl none x.is x.leaves

  by_answer : (asked : Call) (to : Return) (answer : Answer) (appended : List Event) (did : Did) (c : HartState) → settled_resolving b.resolving ≡ Resolving.idle → GrantsAs h appended answer → Takes w past h b asked to answer appended did c
      → Resolution past h b did c
  by_answer asked to (returns value) appended did c idle none x = by_events _ appended did c refl none x.is x.leaves
  by_answer asked to (loading root added) appended did c idle none x = by_passing _ appended x.functions to.frames did c none x.passes
  by_answer asked to (closing set) appended did c idle none x = by_passing _ appended x.functions to.frames did c none x.passes
  by_answer asked to (refused fault) appended did c idle none x = by_events _ appended did c refl none x.is x.leaves
  by_answer asked to (granted g) appended did c idle grants x =
      Resolution.granting g x.offered (x.is ∙ ap (λ (es : List Event). Did.serves [] es) grants.0) grants.1 grants.2 (ap (λ (z : HartState). z.resolving) x.leaves) x.offer idle (ap (λ (z : HartState). z.«end») x.leaves)
  by_answer asked to (told fault) appended did c idle none x = by_telling _ to fault appended did c none x
  by_answer asked to (again for) appended did c idle none x = Resolution.waiting for x.is (ap (λ (z : HartState). z.resolving) x.leaves)
  by_answer asked to (over reason) appended did c idle none x = by_events _ appended did c refl none x.is x.leaves

  by_finals : (code : ℕ) (added : List Event) (next : Option Function) (did : Did) (c : HartState) → GrantNothing added → did ≡ did_by added → c ≡ spent (runs (Purpose.of_end code) (final_functions next) [] (freed_by added b)) → Resolution past h b did c
  by_finals code [] next did c none is leaves = Resolution.quietly [] is (ap (λ (z : HartState). z.resolving) leaves ∙ runs_idle (Purpose.of_end code) (final_functions next) [] b)
  by_finals code (e ∷ rest) next did c none is leaves =
      Resolution.serving [] (e ∷ rest) is (ap (λ (z : HartState). z.resolving) leaves ∙ runs_idle (Purpose.of_end code) (final_functions next) [] (freed b)) none

  by_due : (d : Due) (did : Did) (c : HartState) → IsPlain d → settled_resolving b.resolving ≡ Resolving.idle → MovesAs w past h b d did c → Resolution past h b did c
  by_due Due.nothing did c plain idle x = absurd x
  by_due (Due.exchange o) did c plain idle x = absurd (let no : false ≡ true = plain in cc)
  by_due (Due.finish o found) did c plain idle x = absurd (let no : false ≡ true = plain in cc)
  by_due Due.fuel_out did c plain idle x = stops_here b [] _ did c refl x
  by_due Due.instruction did c plain idle x = by_place x.items x.place did c x.comes
  by_due (Due.copy copy start bytes) did c plain idle x = by_copy (copied_item start bytes x.answer ∷ []) copy start bytes x.answer did c x.comes
  by_due (Due.serve asked to) did c plain idle x = by_answer asked to x.answer x.appended did c idle (serves_grant w past h asked x.appended x.answer x.serves) x.takes
  by_due (Due.wait for) did c plain idle x = Resolution.waiting for x.is (ap (λ (z : HartState). z.resolving) x.leaves)
  by_due (Due.store text stored word more) did c plain idle x = by_store (Write (text + 8 * stored) 8 word x.answer ∷ []) text stored more x.answer did c x.comes
  by_due (Due.enter function frames) did c plain idle x = Resolution.quietly [] x.is (ap (λ (z : HartState). z.resolving) x.leaves)
  by_due (Due.complete purpose object rest below) did c plain idle x = by_passing purpose (passing purpose h object ∷ []) rest below did c (one_of (passing purpose h object) (passing_nothing purpose h object)) x.passes
  by_due (Due.finalise code object) did c plain idle (inl x) =
      by_finals code (own_fini (after past) h object ++ x.events) x.next did c
      (both_of (own_fini (after past) h object) x.events (own_nothing (after past) h object) (finals_nothing w h (past ++ own_fini (after past) h object) x.events x.next x.finals)) x.is x.leaves
  by_due (Due.finalise code object) did c plain idle (inr x) = stops_here (spent b) [] _ did c refl x

  by_state : (e : Option HartEnd) (r : Resolving) (did : Did) (c : HartState) → b.resolving ≡ r → MovesAs w past h b (elim e [ Some reason ↦ Due.nothing | None ↦ by_resolving (after past) b r ]) did c → Resolution past h b did c
  by_state (Some reason) r did c is x = absurd x
  by_state None Resolving.idle did c is x = by_due (within_fuel b (by_phase (after past) b b.phase)) did c (within_plain (after past) b) (ap settled_resolving is) x
  by_state None (Resolving.to_exchange o) did c is x = Resolution.exchanging o x.found x.is is (ap (λ (z : HartState). z.resolving) x.leaves)
  by_state None (Resolving.to_finish o found) did c is x = Resolution.finishing o found x.is is (ap (λ (z : HartState). z.resolving) x.leaves)
  by_state None (Resolving.to_settle o found) did c is x = by_due (within_fuel b (by_phase (after past) b b.phase)) did c (within_plain (after past) b) (ap settled_resolving is) x

  pub resolution : (did : Did) (c : HartState) → Moves w past h b did c → Resolution past h b did c
  unfolding due
  resolution did c moves = by_state b.«end» b.resolving did c refl moves

  -- ---- an end leaves its hart at no slot

  no_place : (r : Resolving) → b.resolving ≡ r → settled_resolving r ≡ r → settled_resolving b.resolving ≡ Resolving.idle → r ≡ Resolving.idle
  no_place r was stays idle = sym stays ∙ sym (ap settled_resolving was) ∙ idle

  no_end : (c : HartState) (reason : HartEnd) → c.«end» ≡ b.«end» → b.«end» ≡ None → c.«end» ≡ Some reason → ⊥
  no_end c reason same none ends_so = let no : None ≡ Some reason = sym none ∙ sym same ∙ ends_so in cc

  plain_rests : (did : Did) (c : HartState) → settled_resolving b.resolving ≡ Resolving.idle → b.«end» ≡ None → Resolution past h b did c → (reason : HartEnd) → c.«end» ≡ Some reason → settled_resolving c.resolving ≡ Resolving.idle
  plain_rests did c idle none (Resolution.quietly items is same) reason ends_so = ap settled_resolving same ∙ idle
  plain_rests did c idle none (Resolution.serving items added is same nothing) reason ends_so = ap settled_resolving (same ∙ idle)
  plain_rests did c idle none (Resolution.granting g o is hart open_yet same offer was stays) reason ends_so = absurd (no_end c reason stays none ends_so)
  plain_rests did c idle none (Resolution.waiting for is same) reason ends_so = ap settled_resolving (same ∙ idle)
  plain_rests did c idle none (Resolution.exchanging o found is was same) reason ends_so = absurd (let no : Resolving.to_exchange o ≡ Resolving.idle = no_place (Resolving.to_exchange o) was refl idle in cc)
  plain_rests did c idle none (Resolution.finishing o found is was same) reason ends_so = absurd (let no : Resolving.to_finish o found ≡ Resolving.idle = no_place (Resolving.to_finish o found) was refl idle in cc)

  state_rests : (e : Option HartEnd) (r : Resolving) (did : Did) (c : HartState) → b.«end» ≡ e → b.resolving ≡ r → MovesAs w past h b (elim e [ Some reason ↦ Due.nothing | None ↦ by_resolving (after past) b r ]) did c
      → (reason : HartEnd) → c.«end» ≡ Some reason → settled_resolving c.resolving ≡ Resolving.idle
  state_rests (Some ended_as) r did c none is x reason ends_so = absurd x
  state_rests None Resolving.idle did c none is x reason ends_so = plain_rests did c (ap settled_resolving is) none (by_state None Resolving.idle did c is x) reason ends_so
  state_rests None (Resolving.to_exchange o) did c none is x reason ends_so = absurd (no_end c reason (ap (λ (z : HartState). z.«end») x.leaves) none ends_so)
  state_rests None (Resolving.to_finish o found) did c none is x reason ends_so = absurd (no_end c reason (ap (λ (z : HartState). z.«end») x.leaves) none ends_so)
  state_rests None (Resolving.to_settle o found) did c none is x reason ends_so = plain_rests did c (ap settled_resolving is) none (by_state None (Resolving.to_settle o found) did c is x) reason ends_so

  pub rests_after : (did : Did) (c : HartState) → Moves w past h b did c → (reason : HartEnd) → c.«end» ≡ Some reason → settled_resolving c.resolving ≡ Resolving.idle
  unfolding due
  rests_after did c moves reason ends_so = state_rests b.«end» b.resolving did c refl refl moves reason ends_so
