-- What leaves a hart that waits knowing what for.
use Rattle.std.proofs.Common.{◌≡◌, inl, inr, ⊎_elim, ℕ, Bool, true, false, cond, List, [], ◌∷◌, ◌++◌, length, Option, Some, None, Result, Ok, Err, refl, sym, ap, subst, ◌∙◌, ◌==◌, append-nil, append_assoc}
use Rattle.std.specs.Prelude.{nat_lt, ◌%◌, ◌+◌, ◌*◌}
use Rattle.std.specs.List.{Contains}
use Rattle.std.proofs.lemmas.Bool.{false≢true}
use Rattle.std.proofs.lemmas.List.Elements.{Contains-append_cases}
use Rattle.ld_base.specs.declared.fault.DlFault.{DlFault}
use Rattle.ld_base.specs.declared.fault.Shown.{Shown}
use Rattle.history_event.specs.declared.event.Event.{Event}
use Rattle.history_event.specs.declared.handed.Function.{Function}
use Rattle.history_event.specs.declared.hart_end.HartEnd.{HartEnd}
use Rattle.history_event.specs.declared.hart_end.HartEnd.TheVariants as ends
use Rattle.rv_hart.specs.declared.bus.BusFault.{BusFault}
use Rattle.rv_hart.specs.declared.bus.BusFault.TheVariants.{Role as RoleFault, Misaligned, Again}
use Rattle.rv_hart.specs.declared.bus.Item.{Item}
use Rattle.rv_hart.specs.declared.bus.Item.TheVariants.{Write}
use Rattle.rv_hart.specs.declared.stepping.Stop.{Stop}
use Rattle.rv_hart.specs.declared.stepping.Stop.TheVariants as stop
use Rattle.rv_hart.specs.Trail.{Place, Ready, Accessing, Stopped}
use Rattle.history_state.specs.After.{after}
use Rattle.history_state.specs.Asking.{is_too_long}
use Rattle.history_state.specs.Lemmas.Lists.{none_in}
use Rattle.history_state.specs.Setting.{Setting}
use Rattle.history_state.specs.State.{State}
use Rattle.history_calls.specs.Answer.{Answer, returns, loading, closing, refused, granted, told, again, over}
use Rattle.history_calls.specs.Call.{Call, opens, looks_up, locates, writes, stops}
use Rattle.history_calls.specs.Call as call
use Rattle.history_calls.specs.Functions.{left}
use Rattle.history_calls.specs.Gives.{EventAnswers, Gives, Serves}
use Rattle.history_calls.specs.Served.{answer_text}
use Rattle.history_calls.specs.Waiting.{Shows}
use Rattle.hart_moves.specs.Copying.{Copy, after_name, before_end, grown, is_copied, number_in, text_words, with_bytes}
use Rattle.hart_moves.specs.Due.{Due, Return, all_done, at_service, back, behind, by_frames, by_name, by_phase, by_queue, by_resolving, call_of, done, due, within_fuel, write_count}
use Rattle.hart_moves.specs.Harts.{Frame, HartState, Naming, Phase, Purpose, Resolving}
use Rattle.hart_moves.specs.Moves.{Comes, CopiesBy, Did, EndsObject, Goes, MovesAs, Passes, StoresBy, Takes, TellsOf, Trap, Traps, TurnEnds, TurnRefuses, TurnStops, TurnWaits, Unread, copied_item, events_of, final_functions, freed, freed_by, own_fini, runs, settled_resolving, spent, stack_start, stored_to, telling, trap_of, with_first}
use Rattle.hart_moves.specs.Registers.{a0, a1, a2, ra}
use Rattle.hart_moves.specs.Services.{Service, service_at}
use Rattle.hart_moves.specs.Waiting.{awaiting, awaiting_phase, is_still}
use Rattle.hart_fits.specs.Waits.{HartWaits, HasAsked, OthersLeaveWaits, OwnMovesLeaveWaits, WaitsAreShown}

-- ---- other harts' events

pub others_leave_waits : OthersLeaveWaits
others_leave_waits w past more h b others waits n name version for is =
    let x : HasAsked w past h b n name version for = waits n name version for is in
    record {
      free = x.free;
      shown = record {
        asked = x.shown.asked;
        since = x.shown.since ++ more;
        are = ap (λ (es : List Event). es ++ more) x.shown.are ∙ append_assoc x.shown.asked x.shown.since more;
        others = λ e there. ⊎_elim
            (λ (old : Contains x.shown.since e). x.shown.others e old)
            (λ (new : Contains more e). others e new)
            (Contains-append_cases x.shown.since more e there);
        shows = x.shown.shows;
      };
    }

-- ---- phases

-- names are passed: their call is next, or waits
abbrev is_passing : Phase → Bool
is_passing phase = elim phase [ Phase.named n name version ↦ true | Phase.waiting n name version for ↦ true | _ ↦ false ]

abbrev pub is_waiting : Phase → Bool
is_waiting phase = elim phase [ Phase.waiting n name version for ↦ true | _ ↦ false ]

not_waiting : (p : Phase) → is_passing p ≡ false → is_waiting p ≡ false
not_waiting Phase.at_pc none = refl
not_waiting (Phase.naming n bytes) none = refl
not_waiting (Phase.versioning name bytes) none = refl
not_waiting (Phase.named n name version) none = refl
not_waiting (Phase.waiting n name version for) none = none
not_waiting (Phase.pairing bytes) none = refl
not_waiting (Phase.writing bytes) none = refl
not_waiting (Phase.storing text stored word more) none = refl

-- a hart that waits for nothing
pub waits_none : (w : Setting) (events : List Event) (h : ℕ) (c : HartState) → is_waiting c.phase ≡ false → HartWaits w events h c
waits_none w events h c none n name version for is = absurd (false≢true (sym none ∙ ap is_waiting is))

-- one that waits for this
waits_these : (w : Setting) (events : List Event) (h : ℕ) (c : HartState) (n : Naming) (name version : List ℕ) (for : Shown) → c.phase ≡ Phase.waiting n name version for
    → HasAsked w events h c n name version for → HartWaits w events h c
waits_these w events h c n name version for is asked m other more shown also =
    let both : Phase.waiting n name version for ≡ Phase.waiting m other more shown = sym is ∙ also in
    let n_is : n ≡ m = cc in
    let name_is : name ≡ other = cc in
    let version_is : version ≡ more = cc in
    let for_is : for ≡ shown = cc in
    subst (λ (p : Naming × (List ℕ × (List ℕ × Shown))). HasAsked w events h c p.0 p.1.0 p.1.1.0 p.1.1.1) (λ i. (n_is i, (name_is i, (version_is i, for_is i)))) asked

-- ---- where a due turn comes from

-- it is the call of names that were passed, of an opening that waited, or of neither
data AskedFrom (s : State) (b : HartState) (asked : Call) : Type 0 where
  by_names : (n : Naming) (name version : List ℕ) → b.phase ≡ Phase.named n name version → asked ≡ call_of s b.registers n name version → AskedFrom s b asked
  once_more : (n : Naming) (name version : List ℕ) (for : Shown) → b.phase ≡ Phase.waiting n name version for → asked ≡ call_of s b.registers n name version
      → AskedFrom s b asked
  otherwise : is_passing b.phase ≡ false → AskedFrom s b asked

record WaitsFor (s : State) (b : HartState) (for : Shown) : Type 0 where
  pub n : Naming
  pub name : List ℕ
  pub version : List ℕ
  pub phase : b.phase ≡ Phase.waiting n name version for
  pub still : is_still s for ≡ true

abbrev IsFree : HartState → Type 0
IsFree b = settled_resolving b.resolving ≡ Resolving.idle

abbrev IsFrom : State → HartState → Due → Type 0
IsFrom s b Due.nothing = Unit {0}
IsFrom s b (Due.exchange o) = b.resolving ≡ Resolving.to_exchange o
IsFrom s b (Due.finish o found) = b.resolving ≡ Resolving.to_finish o found
IsFrom s b Due.fuel_out = Unit {0}
IsFrom s b Due.instruction = is_passing b.phase ≡ false
IsFrom s b (Due.copy copy start bytes) = is_passing b.phase ≡ false
IsFrom s b (Due.serve asked to) = IsFree b × AskedFrom s b asked
IsFrom s b (Due.wait for) = IsFree b × WaitsFor s b for
IsFrom s b (Due.store text stored word more) = is_passing b.phase ≡ false
IsFrom s b (Due.enter function frames) = is_passing b.phase ≡ false
IsFrom s b (Due.complete purpose object rest below) = is_passing b.phase ≡ false
IsFrom s b (Due.finalise code object) = is_passing b.phase ≡ false

-- a turn of a hart that passes no names is no exchange, and doesn't wait
abbrev is_plain : Due → Bool
is_plain d = elim d [ Due.exchange o ↦ false | Due.finish o found ↦ false | Due.wait for ↦ false | _ ↦ true ]

plain_from : (s : State) (b : HartState) (d : Due) → is_passing b.phase ≡ false → IsFree b → is_plain d ≡ true → IsFrom s b d
plain_from s b Due.nothing none free plain = tt
plain_from s b (Due.exchange o) none free plain = absurd (false≢true plain)
plain_from s b (Due.finish o found) none free plain = absurd (false≢true plain)
plain_from s b Due.fuel_out none free plain = tt
plain_from s b Due.instruction none free plain = none
plain_from s b (Due.copy copy start bytes) none free plain = none
plain_from s b (Due.serve asked to) none free plain = (free, AskedFrom.otherwise none)
plain_from s b (Due.wait for) none free plain = absurd (false≢true plain)
plain_from s b (Due.store text stored word more) none free plain = none
plain_from s b (Due.enter function frames) none free plain = none
plain_from s b (Due.complete purpose object rest below) none free plain = none
plain_from s b (Due.finalise code object) none free plain = none

either_plain : (t : Bool) (x y : Due) → is_plain x ≡ true → is_plain y ≡ true → is_plain (cond t x y) ≡ true
either_plain true x y one other = one
either_plain false x y one other = other

name_plain : (s : State) (b : HartState) (n : Naming) → is_plain (by_name s b n) ≡ true
name_plain s b Naming.dlopen =
    either_plain (a0 b.registers == 0) (Due.serve (call.dlopen s (ra b.registers) None (a1 b.registers)) (back b)) (Due.copy (Copy.of_name Naming.dlopen) (a0 b.registers) []) refl refl
name_plain s b Naming.dlmopen =
    either_plain (a1 b.registers == 0) (Due.serve (call.dlmopen (a0 b.registers) None (a2 b.registers)) (back b)) (Due.copy (Copy.of_name Naming.dlmopen) (a1 b.registers) []) refl refl
name_plain s b Naming.dlsym = refl
name_plain s b Naming.dlvsym = refl

done_plain : (purpose : Purpose) (object : ℕ) (rest : List Function) (below : List Frame) → is_plain (done purpose object rest below) ≡ true
done_plain (Purpose.of_startup registers) object rest below = refl
done_plain (Purpose.of_opening to root) object rest below = refl
done_plain (Purpose.of_closing to set) object rest below = refl
done_plain (Purpose.of_end code) object rest below = refl

all_plain : (b : HartState) (purpose : Purpose) (below : List Frame) → is_plain (all_done b purpose below) ≡ true
all_plain b (Purpose.of_startup registers) below = refl
all_plain b (Purpose.of_opening to root) below = refl
all_plain b (Purpose.of_closing to set) below = refl
all_plain b (Purpose.of_end code) below = refl

first_plain : (purpose : Purpose) (f : Function) (rest : List Function) (below : List Frame) (addresses : List ℕ)
    → is_plain (elim addresses [ [] ↦ done purpose f.object rest below | function ∷ more ↦ Due.enter function (record { purpose = purpose; queue = record f { addresses = more } ∷ rest } ∷ below) ]) ≡ true
first_plain purpose f rest below [] = done_plain purpose f.object rest below
first_plain purpose f rest below (function ∷ more) = refl

queue_plain : (b : HartState) (purpose : Purpose) (queue : List Function) (below : List Frame) → is_plain (by_queue b purpose queue below) ≡ true
queue_plain b purpose [] below = all_plain b purpose below
queue_plain b purpose (f ∷ rest) below = first_plain purpose f rest below f.addresses

frames_plain : (b : HartState) (frames : List Frame) → is_plain (by_frames b frames) ≡ true
frames_plain b [] = refl
frames_plain b (frame ∷ below) = queue_plain b frame.purpose frame.queue below

service_plain : (s : State) (b : HartState) (service : Service) → is_plain (at_service s b service) ≡ true
service_plain s b Service.resolve = refl
service_plain s b (Service.of_name n) = name_plain s b n
service_plain s b Service.dlclose = refl
service_plain s b Service.dlerror = refl
service_plain s b Service.tls_get_addr =
    either_plain (a0 b.registers % 8 == 0) (Due.copy Copy.of_pair (a0 b.registers) []) (Due.serve (call.stops (ends.Misaligned b.registers.pc (a0 b.registers))) (back b)) refl refl
service_plain s b Service.next_function = frames_plain b b.frames
service_plain s b Service.exit = refl

pc_plain : (s : State) (b : HartState) (found : Option Service) → is_plain (elim found [ Some service ↦ at_service s b service | None ↦ Due.instruction ]) ≡ true
pc_plain s b (Some service) = service_plain s b service
pc_plain s b None = refl

phase_from : (s : State) (b : HartState) (phase : Phase) → b.phase ≡ phase → IsFree b → IsFrom s b (by_phase s b phase)
unfolding by_phase
phase_from s b Phase.at_pc is free =
    plain_from s b (elim (service_at b.registers.pc) [ Some service ↦ at_service s b service | None ↦ Due.instruction ]) (ap is_passing is) free (pc_plain s b (service_at b.registers.pc))
phase_from s b (Phase.naming n bytes) is free = ap is_passing is
phase_from s b (Phase.versioning name bytes) is free = ap is_passing is
phase_from s b (Phase.named n name version) is free = (free, AskedFrom.by_names n name version is refl)
phase_from s b (Phase.waiting n name version for) is free = by (is_still s for) refl
  where
    by : (t : Bool) → is_still s for ≡ t → IsFrom s b (cond t (Due.wait for) (Due.serve (call_of s b.registers n name version) (back b)))
    by true still = (free, record { n = n; name = name; version = version; phase = is; still = still })
    by false still = (free, AskedFrom.once_more n name version for is refl)
phase_from s b (Phase.pairing bytes) is free =
    plain_from s b (cond (nat_lt (length bytes) 16) (Due.copy Copy.of_pair (a0 b.registers) bytes) (Due.serve (call.locates (number_in bytes 0) (number_in bytes 8)) (back b))) (ap is_passing is) free
    (either_plain (nat_lt (length bytes) 16) (Due.copy Copy.of_pair (a0 b.registers) bytes) (Due.serve (call.locates (number_in bytes 0) (number_in bytes 8)) (back b)) refl refl)
phase_from s b (Phase.writing bytes) is free =
    plain_from s b (cond (nat_lt (length bytes) (write_count b.registers)) (Due.copy (Copy.of_text (write_count b.registers)) (a1 b.registers) bytes) (Due.serve (call.writes bytes) (behind b))) (ap is_passing is) free
    (either_plain (nat_lt (length bytes) (write_count b.registers)) (Due.copy (Copy.of_text (write_count b.registers)) (a1 b.registers) bytes) (Due.serve (call.writes bytes) (behind b)) refl refl)
phase_from s b (Phase.storing text stored word more) is free = ap is_passing is

within_from : (s : State) (b : HartState) → IsFree b → IsFrom s b (within_fuel b (by_phase s b b.phase))
within_from s b free = by (nat_lt b.turns b.fuel)
  where
    by : (t : Bool) → IsFrom s b (cond t (by_phase s b b.phase) Due.fuel_out)
    by true = phase_from s b b.phase refl free
    by false = tt

due_from : (s : State) (b : HartState) → IsFrom s b (due s b)
unfolding due
due_from s b = by b.«end»
  where
    by_grant : (r : Resolving) → b.resolving ≡ r → IsFrom s b (by_resolving s b r)
    by_grant Resolving.idle is = within_from s b (ap settled_resolving is)
    by_grant (Resolving.to_exchange o) is = is
    by_grant (Resolving.to_finish o found) is = is
    by_grant (Resolving.to_settle o found) is = within_from s b (ap settled_resolving is)

    by : (o : Option HartEnd) → IsFrom s b (elim o [ Some reason ↦ Due.nothing | None ↦ by_resolving s b b.resolving ])
    by (Some reason) = tt
    by None = by_grant b.resolving refl

-- ---- what it is for

pub waits_are_shown : WaitsAreShown
waits_are_shown w past h b for waits is =
    let from : IsFree b × WaitsFor (after past) b for = subst (λ (d : Due). IsFrom (after past) b d) is (due_from (after past) b) in
    record {
      call = λ s. call_of s b.registers from.1.n from.1.name from.1.version;
      shown = (waits from.1.n from.1.name from.1.version for from.1.phase).shown;
      still = from.1.still;
    }

-- ---- calls and their answers

abbrev is_of_names : Call → Bool
is_of_names asked = elim asked [ opens ask ↦ true | looks_up ask ↦ true | _ ↦ false ]

names_call : (s : State) (b : HartState) (n : Naming) (name version : List ℕ) → is_of_names (call_of s b.registers n name version) ≡ true
unfolding call_of
names_call s b Naming.dlopen name version = refl
names_call s b Naming.dlmopen name version = refl
names_call s b Naming.dlsym name version = refl
names_call s b Naming.dlvsym name version = refl

-- an answer behind which the hart's place inside its call may stay
abbrev leaves_place : Answer → Bool
leaves_place answer = elim answer [ granted g ↦ true | told fault ↦ true | _ ↦ false ]

event_leaves : (h : ℕ) (asked : Call) (e : Event) (answer : Answer) → EventAnswers h asked e answer → leaves_place answer ≡ true → is_of_names asked ≡ false
event_leaves h asked e answer (EventAnswers.is_granted owner eights slot number choice value is) leaves = refl
event_leaves h asked e answer (EventAnswers.is_told fault) leaves = refl
event_leaves h asked e answer _ leaves = absurd (false≢true leaves)

gives_leaves : (w : Setting) (past : List Event) (h : ℕ) (asked : Call) (given : List Event) (answer : Answer) → Gives w past h asked given answer → leaves_place answer ≡ true → is_of_names asked ≡ false
gives_leaves w past h asked given answer (Gives.by_event _ e _ answers may) leaves = event_leaves h asked e answer answers leaves
gives_leaves w past h asked given answer _ leaves = absurd (false≢true leaves)

-- so it came of no names
placed_from : (w : Setting) (past : List Event) (h : ℕ) (b : HartState) (asked : Call) (appended : List Event) (answer : Answer) → Serves w past h asked appended answer → leaves_place answer ≡ true
    → AskedFrom (after past) b asked → is_waiting b.phase ≡ false
placed_from w past h b asked appended answer serves leaves (AskedFrom.by_names n name version at is) = ap is_waiting at
placed_from w past h b asked appended answer serves leaves (AskedFrom.once_more n name version for at is) =
    absurd (false≢true (sym (gives_leaves w past h asked serves.given answer serves.gives leaves) ∙ ap is_of_names is ∙ names_call (after past) b n name version))
placed_from w past h b asked appended answer serves leaves (AskedFrom.otherwise none) = not_waiting b.phase none

-- what an answer that a call is to be tried again shows
abbrev ShowsIt : Setting → List Event → ℕ → Call → Answer → Type 0
ShowsIt w past h asked answer = elim answer [ again for ↦ Shows w (after past) h asked for | _ ↦ Unit {0} ]

event_shows : (w : Setting) (past : List Event) (h : ℕ) (asked : Call) (e : Event) (answer : Answer) → EventAnswers h asked e answer → ShowsIt w past h asked answer
event_shows w past h asked e answer (EventAnswers.is_loaded ask id root first rest ranges) = tt
event_shows w past h asked e answer (EventAnswers.is_there ask id root ranges) = tt
event_shows w past h asked e answer (EventAnswers.is_absent ask) = tt
event_shows w past h asked e answer (EventAnswers.is_not_opened ask fault) = tt
event_shows w past h asked e answer (EventAnswers.dies handle first rest) = tt
event_shows w past h asked e answer (EventAnswers.stays handle) = tt
event_shows w past h asked e answer (EventAnswers.is_not_closed handle fault) = tt
event_shows w past h asked e answer (EventAnswers.is_unmapped set) = tt
event_shows w past h asked e answer (EventAnswers.is_granted owner eights slot number choice value is) = tt
event_shows w past h asked e answer (EventAnswers.is_unresolved owner eights slot is) = tt
event_shows w past h asked e answer (EventAnswers.is_not_code owner eights slot serial index is) = tt
event_shows w past h asked e answer (EventAnswers.is_found ask serial index value) = tt
event_shows w past h asked e answer (EventAnswers.is_not_found ask fault) = tt
event_shows w past h asked e answer (EventAnswers.is_told fault) = tt
event_shows w past h asked e answer (EventAnswers.is_written bytes) = tt

gives_shows : (w : Setting) (past : List Event) (h : ℕ) (asked : Call) (given : List Event) (answer : Answer) → Gives w past h asked given answer → ShowsIt w past h asked answer
gives_shows w past h asked given answer (Gives.by_event _ e _ answers may) = event_shows w past h asked e answer answers
gives_shows w past h asked given answer (Gives.by_first_block ask e f value finds) = tt
gives_shows w past h asked given answer (Gives.in_new_block number offset block e gets) = tt
gives_shows w past h asked given answer (Gives.in_block number offset block has) = tt
gives_shows w past h asked given answer (Gives.to_again _ for shows) = shows
gives_shows w past h asked given answer (Gives.to_end _ reason ends_it) = tt

-- ---- where a turn leaves a hart

after_name_none : (n : Naming) (name : List ℕ) → is_waiting (after_name n name) ≡ false
after_name_none Naming.dlopen name = refl
after_name_none Naming.dlmopen name = refl
after_name_none Naming.dlsym name = refl
after_name_none Naming.dlvsym name = by (is_too_long name)
  where
    by : (t : Bool) → is_waiting (cond t (Phase.named Naming.dlvsym name []) (Phase.versioning name [])) ≡ false
    by true = refl
    by false = refl

either_none : (t : Bool) (p q : Phase) → is_waiting p ≡ false → is_waiting q ≡ false → is_waiting (cond t p q) ≡ false
either_none true p q one other = one
either_none false p q one other = other

copied_none : (copy : Copy) (bytes : List ℕ) → is_waiting (with_bytes copy bytes) ≡ false
unfolding with_bytes
copied_none (Copy.of_name n) bytes = either_none (is_copied bytes) (after_name n (before_end bytes)) (Phase.naming n bytes) (after_name_none n (before_end bytes)) refl
copied_none (Copy.of_version name) bytes = either_none (is_copied bytes) (Phase.named Naming.dlvsym name (before_end bytes)) (Phase.versioning name bytes) refl refl
copied_none Copy.of_pair bytes = refl
copied_none (Copy.of_text count) bytes = refl

first_none : (purpose : Purpose) (object : ℕ) (addresses : List ℕ) (rest : List Function) (below : List Frame) (b : HartState) → is_waiting (with_first purpose object addresses rest below b).phase ≡ false
first_none purpose object [] rest below b = refl
first_none purpose object (function ∷ more) rest below b = refl

-- the hart goes on with a function, or behind them all; but with the last of the final destructors it ends
runs_none : (purpose : Purpose) (functions : List Function) (below : List Frame) (b : HartState) → (runs purpose functions below b).«end» ≡ None → is_waiting (runs purpose functions below b).phase ≡ false
runs_none (Purpose.of_startup registers) [] below b on = refl
runs_none (Purpose.of_opening to root) [] below b on = refl
runs_none (Purpose.of_closing to set) [] below b on = refl
runs_none (Purpose.of_end code) [] below b on = absurd (let no : Some (ends.Exit code) ≡ None = on in cc)
runs_none purpose (f ∷ rest) below b on = first_none purpose f.object f.addresses rest below b

stored_none : (text stored : ℕ) (more : List ℕ) (b : HartState) → is_waiting (stored_to text stored more b).phase ≡ false
stored_none text stored [] b = refl
stored_none text stored (word ∷ more) b = refl

telling_none : (text : ℕ) (words : List ℕ) (b : HartState) → is_waiting b.phase ≡ false → is_waiting (telling text words b).phase ≡ false
telling_none text [] b none = none
telling_none text (word ∷ more) b none = refl

module _ (w : Setting) (past : List Event) (h : ℕ) (b : HartState) (waits : HartWaits w past h b) where
  left_none : (x : HartState) (did : Did) (c : HartState) → c ≡ x → is_waiting x.phase ≡ false → HartWaits w (past ++ events_of did) h c
  left_none x did c leaves none = waits_none w (past ++ events_of did) h c (ap (λ (y : HartState). is_waiting y.phase) leaves ∙ none)

  by_goes : (x : HartState) (items : List Item) (did : Did) (c : HartState) → is_waiting x.phase ≡ false → Goes items x did c → HartWaits w (past ++ events_of did) h c
  by_goes x items did c none y = left_none (spent x) did c y.leaves none

  by_ends : (x : HartState) (items : List Item) (reason : HartEnd) (did : Did) (c : HartState) → c.«end» ≡ None → TurnEnds w past h x items reason did c → HartWaits w (past ++ events_of did) h c
  by_ends x items reason did c on y = absurd (let no : Some reason ≡ None = sym (ap (λ (z : HartState). z.«end») y.leaves) ∙ on in cc)

  by_trap : (items : List Item) (trap : Trap) (did : Did) (c : HartState) → c.«end» ≡ None → Traps w past h b items trap did c → HartWaits w (past ++ events_of did) h c
  by_trap items (Trap.exits code) did c on x = by_ends (spent b) items _ did c on x
  by_trap items (Trap.gives value) did c on x = left_none _ did c x.leaves refl
  by_trap items Trap.writes did c on x = left_none _ did c x.leaves refl

  by_refusal : (items : List Item) (address : ℕ) (fault : BusFault) (did : Did) (c : HartState) → is_waiting b.phase ≡ false → c.«end» ≡ None → TurnRefuses w past h b items address fault did c
      → HartWaits w (past ++ events_of did) h c
  by_refusal items address (RoleFault role) did c none on x = by_ends (spent b) items _ did c on x
  by_refusal items address Misaligned did c none on x = by_ends (spent b) items _ did c on x
  by_refusal items address (Again shown) did c none on x = by_goes b items did c none x

  by_stop : (items : List Item) (s : Stop) (did : Did) (c : HartState) → is_waiting b.phase ≡ false → c.«end» ≡ None → TurnStops w past h b items s did c → HartWaits w (past ++ events_of did) h c
  by_stop items stop.Ecall did c none on x = by_trap items (trap_of b.registers) did c on x
  by_stop items stop.Break did c none on x = by_ends (spent b) items _ did c on x
  by_stop items (stop.Bad word) did c none on x = by_ends (spent b) items _ did c on x
  by_stop items (stop.Misaligned address) did c none on x = by_ends (spent b) items _ did c on x
  by_stop items (stop.Refused address fault) did c none on x = by_refusal items address fault did c none on x

  by_place : (items : List Item) (place : Place) (did : Did) (c : HartState) → is_waiting b.phase ≡ false → c.«end» ≡ None → Comes w past h b items place did c → HartWaits w (past ++ events_of did) h c
  by_place items (Ready r) did c none on x = by_goes (record b { registers = r }) items did c none x
  by_place items (Accessing r decoded) did c none on x = absurd x
  by_place items (Stopped r s) did c none on x = by_stop items s did c none on x

  by_unread : (items : List Item) (copy : Copy) (address : ℕ) (did : Did) (c : HartState) → c.«end» ≡ None → Unread w past h b items copy address did c → HartWaits w (past ++ events_of did) h c
  by_unread items (Copy.of_name n) address did c on x = by_ends (spent b) items _ did c on x
  by_unread items (Copy.of_version name) address did c on x = by_ends (spent b) items _ did c on x
  by_unread items Copy.of_pair address did c on x = by_ends (spent b) items _ did c on x
  by_unread items (Copy.of_text count) address did c on x = left_none _ did c x.leaves refl

  by_copy : (items : List Item) (copy : Copy) (start : ℕ) (bytes : List ℕ) (answer : Result ℕ BusFault) (did : Did) (c : HartState) → is_waiting b.phase ≡ false → c.«end» ≡ None
      → CopiesBy w past h b items copy start bytes answer did c → HartWaits w (past ++ events_of did) h c
  by_copy items copy start bytes (Ok word) did c none on x = by_goes (record b { phase = with_bytes copy (grown copy start bytes word) }) items did c (copied_none copy (grown copy start bytes word)) x
  by_copy items copy start bytes (Err (RoleFault role)) did c none on x = by_unread items copy _ did c on x
  by_copy items copy start bytes (Err Misaligned) did c none on x = absurd x
  by_copy items copy start bytes (Err (Again shown)) did c none on x = by_goes b items did c none x

  by_store : (items : List Item) (text stored : ℕ) (more : List ℕ) (answer : Result Unit BusFault) (did : Did) (c : HartState) → is_waiting b.phase ≡ false → c.«end» ≡ None
      → StoresBy w past h b items text stored more answer did c → HartWaits w (past ++ events_of did) h c
  by_store items text stored more (Ok done) did c none on x = by_goes (stored_to text stored more b) items did c (stored_none text stored more b) x
  by_store items text stored more (Err (RoleFault role)) did c none on x = by_ends (spent b) items _ did c on x
  by_store items text stored more (Err Misaligned) did c none on x = absurd x
  by_store items text stored more (Err (Again shown)) did c none on x = by_goes b items did c none x

  by_passing : (purpose : Purpose) (before : List Event) (functions : List Function) (below : List Frame) (did : Did) (c : HartState) → c.«end» ≡ None
      → Passes w past h b purpose before functions below did c → HartWaits w (past ++ events_of did) h c
  by_passing purpose before functions below did c on x =
      left_none (spent (runs purpose (left functions) below (freed b))) did c x.leaves
      (runs_none purpose (left functions) below (freed b) (sym (ap (λ (y : HartState). y.«end») x.leaves) ∙ on))

  by_telling : (text : ℕ) (to : Return) (fault : Option DlFault) (appended : List Event) (did : Did) (c : HartState) → is_waiting b.phase ≡ false
      → TellsOf text b to fault appended did c → HartWaits w (past ++ events_of did) h c
  by_telling text to (Some fault) appended did c none x =
      left_none (spent (telling text (text_words (answer_text fault)) (freed b))) did c x.leaves (telling_none text (text_words (answer_text fault)) (freed b) none)
  by_telling text to None appended did c none x = left_none _ did c x.leaves refl

  -- the hart waits for what its call was shown at some moment behind which none of its events stands
  by_waiting : (n : Naming) (name version : List ℕ) (for : Shown) (did : Did) (c : HartState) → IsFree b → awaiting_phase for b.phase ≡ Phase.waiting n name version for
      → HasAsked w past h b n name version for → TurnWaits b for did c → HartWaits w (past ++ events_of did) h c
  by_waiting n name version for did c free phase asked x =
      subst (λ (y : HartState). HartWaits w (past ++ events_of did) h y) (sym x.leaves)
      (subst (λ (es : List Event). HartWaits w es h (spent (awaiting for (freed b)))) (sym (ap (λ (d : Did). past ++ events_of d) x.is ∙ append-nil past))
      (waits_these w past h (spent (awaiting for (freed b))) n name version for phase (record { free = ap settled_resolving free; shown = asked.shown })))

  by_asking : (asked : Call) (for : Shown) (did : Did) (c : HartState) → IsFree b → AskedFrom (after past) b asked → Shows w (after past) h asked for → TurnWaits b for did c
      → HartWaits w (past ++ events_of did) h c
  by_asking asked for did c free (AskedFrom.by_names n name version at is) shows x = by_waiting n name version for did c free (ap (awaiting_phase for) at) (now n name version is) x
    where
      now : (n : Naming) (name version : List ℕ) → asked ≡ call_of (after past) b.registers n name version → HasAsked w past h b n name version for
      now n name version is = record {
        free = free;
        shown = record { asked = past; since = []; are = sym (append-nil past); others = λ e there. absurd (none_in e there); shows = subst (λ (a : Call). Shows w (after past) h a for) is shows };
      }
  by_asking asked for did c free (AskedFrom.once_more n name version before at is) shows x = by_waiting n name version for did c free (ap (awaiting_phase for) at) (now n name version is) x
    where
      now : (n : Naming) (name version : List ℕ) → asked ≡ call_of (after past) b.registers n name version → HasAsked w past h b n name version for
      now n name version is = record {
        free = free;
        shown = record { asked = past; since = []; are = sym (append-nil past); others = λ e there. absurd (none_in e there); shows = subst (λ (a : Call). Shows w (after past) h a for) is shows };
      }
  by_asking asked for did c free (AskedFrom.otherwise none) shows x = left_none (spent (awaiting for (freed b))) did c x.leaves (by b.phase none)
    where
      by : (p : Phase) → is_passing p ≡ false → is_waiting (awaiting_phase for p) ≡ false
      by Phase.at_pc other = refl
      by (Phase.naming n bytes) other = refl
      by (Phase.versioning name bytes) other = refl
      by (Phase.named n name version) other = absurd (false≢true (sym other))
      by (Phase.waiting n name version before) other = absurd (false≢true (sym other))
      by (Phase.pairing bytes) other = refl
      by (Phase.writing bytes) other = refl
      by (Phase.storing text stored word more) other = refl

  by_answer : (asked : Call) (to : Return) (answer : Answer) (appended : List Event) (did : Did) (c : HartState) → IsFree b → AskedFrom (after past) b asked → c.«end» ≡ None
      → Serves w past h asked appended answer → Takes w past h b asked to answer appended did c → HartWaits w (past ++ events_of did) h c
  by_answer asked to (returns value) appended did c free from on serves x = left_none _ did c x.leaves refl
  by_answer asked to (loading root added) appended did c free from on serves x = by_passing (Purpose.of_opening to.to root) appended x.functions to.frames did c on x.passes
  by_answer asked to (closing set) appended did c free from on serves x = by_passing (Purpose.of_closing to.to set) appended x.functions to.frames did c on x.passes
  by_answer asked to (refused fault) appended did c free from on serves x = left_none _ did c x.leaves refl
  by_answer asked to (granted g) appended did c free from on serves x = left_none _ did c x.leaves (placed_from w past h b asked appended (granted g) serves refl from)
  by_answer asked to (told fault) appended did c free from on serves x =
      by_telling (stack_start (after past) h) to fault appended did c (placed_from w past h b asked appended (told fault) serves refl from) x
  by_answer asked to (again for) appended did c free from on serves x = by_asking asked for did c free from (gives_shows w past h asked serves.given (again for) serves.gives) x
  by_answer asked to (over reason) appended did c free from on serves x = absurd (let no : Some reason ≡ None = sym (ap (λ (z : HartState). z.«end») x.leaves) ∙ on in cc)

  by_finals : (code object : ℕ) (did : Did) (c : HartState) → c.«end» ≡ None → EndsObject w past h b code object did c → HartWaits w (past ++ events_of did) h c
  by_finals code object did c on (inl x) =
      left_none _ did c x.leaves
      (runs_none (Purpose.of_end code) (final_functions x.next) [] (freed_by (own_fini (after past) h object ++ x.events) b) (sym (ap (λ (y : HartState). y.«end») x.leaves) ∙ on))
  by_finals code object did c on (inr x) = by_ends (spent b) [] ends.Memory did c on x

  -- no exchange is due to a hart that waits
  in_exchange : (r : Resolving) (events : List Event) (c : HartState) → b.resolving ≡ r → c.phase ≡ b.phase → (settled_resolving r ≡ Resolving.idle → ⊥) → HartWaits w events h c
  in_exchange r events c is same busy n name version for at =
      absurd (busy (sym (ap settled_resolving is) ∙ (waits n name version for (sym same ∙ at)).free))

  by_due : (d : Due) (did : Did) (c : HartState) → IsFrom (after past) b d → c.«end» ≡ None → MovesAs w past h b d did c → HartWaits w (past ++ events_of did) h c
  by_due Due.nothing did c from on x = absurd x
  by_due (Due.exchange o) did c from on x =
      in_exchange (Resolving.to_exchange o) (past ++ events_of did) c from (ap (λ (y : HartState). y.phase) x.leaves) (λ e. let no : Resolving.to_exchange o ≡ Resolving.idle = e in cc)
  by_due (Due.finish o found) did c from on x =
      in_exchange (Resolving.to_finish o found) (past ++ events_of did) c from (ap (λ (y : HartState). y.phase) x.leaves) (λ e. let no : Resolving.to_finish o found ≡ Resolving.idle = e in cc)
  by_due Due.fuel_out did c from on x = by_ends b [] ends.FuelOut did c on x
  by_due Due.instruction did c from on x = by_place x.items x.place did c (not_waiting b.phase from) on x.comes
  by_due (Due.copy copy start bytes) did c from on x = by_copy (copied_item start bytes x.answer ∷ []) copy start bytes x.answer did c (not_waiting b.phase from) on x.comes
  by_due (Due.serve asked to) did c from on x = by_answer asked to x.answer x.appended did c from.0 from.1 on x.serves x.takes
  by_due (Due.wait for) did c from on x =
      by_waiting from.1.n from.1.name from.1.version for did c from.0 (ap (awaiting_phase for) from.1.phase) (waits from.1.n from.1.name from.1.version for from.1.phase) x
  by_due (Due.store text stored word more) did c from on x = by_store (Write (text + 8 * stored) 8 word x.answer ∷ []) text stored more x.answer did c (not_waiting b.phase from) on x.comes
  by_due (Due.enter function frames) did c from on x = left_none _ did c x.leaves refl
  by_due (Due.complete purpose object rest below) did c from on x = by_passing purpose _ rest below did c on x.passes
  by_due (Due.finalise code object) did c from on x = by_finals code object did c on x

pub own_moves_leave_waits : OwnMovesLeaveWaits
own_moves_leave_waits w past h b c did moves on waits = by_due w past h b waits (due (after past) b) did c (due_from (after past) b) on moves
