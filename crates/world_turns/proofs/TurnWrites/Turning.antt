-- Each turn leaves what its hart has copied of a write as it may be.
use Rattle.std.proofs.Common.{◌≡◌, ◌≢◌, inl, inr, ℕ, zero, suc, ◌+◌, ◌-◌, ◌*◌, ◌^◌, ◌≤◌, min, not, ◌||◌, Bool, true, false, true≢false, cond, List, [], ◌∷◌, ◌++◌, length, take, Option, Some, None, Result, Ok, Err, refl, sym, ap, subst, ◌∙◌, ◌==◌, arith}
use Rattle.std.proofs.Math.Nat.{le-min, min-le_left, min-le_right}
use Rattle.std.proofs.lemmas.Bool.{eqb-false}
use Rattle.std.proofs.lemmas.List.{length-take}
use Rattle.ld_base.specs.declared.fault.DlFault.{DlFault}
use Rattle.ld_base.specs.declared.fault.Shown.{Shown}
use Rattle.history_event.specs.declared.event.Event.{Event}
use Rattle.history_event.specs.declared.handed.Function.{Function}
use Rattle.history_event.specs.declared.hart_end.HartEnd.{HartEnd}
use Rattle.history_event.specs.declared.hart_end.HartEnd.TheVariants as reasons
use Rattle.rv_hart.specs.declared.bus.BusFault.{BusFault}
use Rattle.rv_hart.specs.declared.bus.BusFault.TheVariants.{Role as RoleFault, Misaligned, Again}
use Rattle.rv_hart.specs.declared.bus.Item.{Item}
use Rattle.rv_hart.specs.declared.bus.Item.TheVariants.{Write}
use Rattle.rv_hart.specs.declared.stepping.Stop.{Stop}
use Rattle.rv_hart.specs.declared.stepping.Stop.TheVariants as stop
use Rattle.rv_hart.specs.Registers.{Registers}
use Rattle.rv_hart.specs.Trail.{Place, Ready, Accessing, Stopped}
use Rattle.history_state.specs.After.{after}
use Rattle.history_state.specs.Asking.{is_too_long}
use Rattle.history_state.specs.Setting.{Setting}
use Rattle.history_calls.specs.Answer.{Answer, returns, loading, closing, refused, granted, told, again, over}
use Rattle.history_calls.specs.Call.{Call}
use Rattle.history_calls.specs.Functions.{left}
use Rattle.history_calls.specs.Served.{answer_text}
use Rattle.hart_moves.specs.Copying.{Copy, after_name, before_end, bytes_from, first_left, grown, is_copied, text_words, with_bytes}
use Rattle.hart_moves.specs.Due.{Due, Return, due, write_count}
use Rattle.hart_moves.specs.Harts.{Frame, HartState, Naming, Phase, Purpose}
use Rattle.hart_moves.specs.Moves.{Comes, CopiesBy, Did, TurnEnds, EndsObject, Goes, MovesAs, Passes, TurnRefuses, TurnStops, StoresBy, Takes, TellsOf, Trap, Traps, Unread, after_all, copied_item, final_functions, freed, freed_by, own_fini, runs, spent, stack_start, stored_to, telling, trap_of, with_first, write_trap}
use Rattle.hart_moves.specs.Registers.{a0, a2, a7}
use Rattle.hart_moves.specs.Waiting.{awaiting, awaiting_phase}
use Rattle.world_turns.specs.TurnWrites.Laws.{ServedMayBeWritten, TurnsKeepWrites}
use Rattle.world_turns.specs.TurnWrites.Writing.{HartWrites, IsWriting}
use Rattle.world_turns.proofs.TurnWrites.Dues.{CopiesFrom, IsCopied, IsFrom, due_from}

-- ---- phases

abbrev pub is_writing : Phase → Bool
is_writing Phase.at_pc = false
is_writing (Phase.naming n bytes) = false
is_writing (Phase.versioning name bytes) = false
is_writing (Phase.named n name version) = false
is_writing (Phase.waiting n name version for) = false
is_writing (Phase.pairing bytes) = false
is_writing (Phase.writing bytes) = true
is_writing (Phase.storing text stored word more) = false

-- a hart that writes nothing
pub writes_none : (c : HartState) → is_writing c.phase ≡ false → HartWrites c
writes_none c none bytes is = absurd (true≢false (sym (ap is_writing is) ∙ none))

-- one that has copied these bytes
writes_these : (c : HartState) (bytes : List ℕ) → c.phase ≡ Phase.writing bytes → IsWriting c.registers bytes → HartWrites c
writes_these c bytes is holds other also =
    let both : Phase.writing bytes ≡ Phase.writing other = sym is ∙ also in
    let same : bytes ≡ other = cc in
    subst (λ (xs : List ℕ). IsWriting c.registers xs) same holds

-- ---- an ecall

no_value : (value : ℕ) → Trap.gives value ≡ Trap.writes → ⊥
no_value value e = let no : Trap.gives value ≡ Trap.writes = e in cc

no_exit : (code : ℕ) → Trap.exits code ≡ Trap.writes → ⊥
no_exit code e = let no : Trap.exits code ≡ Trap.writes = e in cc

by_length : (r : Registers) (t : Bool) → (a2 r == 0) ≡ t → cond t (Trap.gives 0) Trap.writes ≡ Trap.writes → a2 r ≢ 0
by_length r true is e = absurd (no_value 0 e)
by_length r false is e = eqb-false (a2 r) 0 is

by_file : (r : Registers) (t : Bool) → cond t (Trap.gives (2 ^ 64 - 9)) (cond (a2 r == 0) (Trap.gives 0) Trap.writes) ≡ Trap.writes → a2 r ≢ 0
by_file r true e = absurd (no_value (2 ^ 64 - 9) e)
by_file r false e = by_length r (a2 r == 0) refl e

by_number : (r : Registers) (t : Bool) → cond t (write_trap r) (Trap.gives (2 ^ 64 - 38)) ≡ Trap.writes → a2 r ≢ 0
by_number r true e = by_file r (not (a0 r == 1 || a0 r == 2)) e
by_number r false e = absurd (no_value (2 ^ 64 - 38) e)

by_exit : (r : Registers) (t : Bool) → cond t (Trap.exits (a0 r)) (cond (a7 r == 64) (write_trap r) (Trap.gives (2 ^ 64 - 38))) ≡ Trap.writes → a2 r ≢ 0
by_exit r true e = absurd (no_exit (a0 r) e)
by_exit r false e = by_number r (a7 r == 64) e

-- a write begins only of some bytes
begins_some : (r : Registers) → trap_of r ≡ Trap.writes → a2 r ≢ 0
begins_some r e = by_exit r (a7 r == 93) e

-- ---- copied bytes

after_none : (n : Naming) (name : List ℕ) → is_writing (after_name n name) ≡ false
after_none Naming.dlopen name = refl
after_none Naming.dlmopen name = refl
after_none Naming.dlsym name = refl
after_none Naming.dlvsym name = by (is_too_long name)
  where
    by : (t : Bool) → is_writing (cond t (Phase.named Naming.dlvsym name []) (Phase.versioning name [])) ≡ false
    by true = refl
    by false = refl

name_none : (n : Naming) (bytes : List ℕ) (t : Bool) → is_writing (cond t (after_name n (before_end bytes)) (Phase.naming n bytes)) ≡ false
name_none n bytes true = after_none n (before_end bytes)
name_none n bytes false = refl

version_none : (name bytes : List ℕ) (t : Bool) → is_writing (cond t (Phase.named Naming.dlvsym name (before_end bytes)) (Phase.versioning name bytes)) ≡ false
version_none name bytes true = refl
version_none name bytes false = refl

-- no more than are taken
grown_few : (r : Registers) (count start : ℕ) (bytes : List ℕ) (word : ℕ) → count ≡ write_count r → length (grown (Copy.of_text count) start bytes word) ≤ 256
unfolding grown
grown_few r count start bytes word taken =
    let all : List ℕ = bytes ++ bytes_from (first_left start bytes) word in
    let long : length (take count all) ≡ min count (length all) = length-take count all in
    let least : min count (length all) ≤ count = min-le_left count (length all) in
    let most : write_count r ≤ 256 = min-le_right (a2 r) 256 in
    omega (arith, long, least, most, taken)

copied_writes : (b : HartState) (copy : Copy) (start : ℕ) (bytes : List ℕ) (word : ℕ) → HartWrites b → CopiesFrom b bytes copy → HartWrites (record b { phase = with_bytes copy (grown copy start bytes word) })
unfolding with_bytes
copied_writes b (Copy.of_name n) start bytes word holds from =
    writes_none (record b { phase = with_bytes (Copy.of_name n) (grown (Copy.of_name n) start bytes word) })
    (name_none n (grown (Copy.of_name n) start bytes word) (is_copied (grown (Copy.of_name n) start bytes word)))
copied_writes b (Copy.of_version name) start bytes word holds from =
    writes_none (record b { phase = with_bytes (Copy.of_version name) (grown (Copy.of_version name) start bytes word) })
    (version_none name (grown (Copy.of_version name) start bytes word) (is_copied (grown (Copy.of_version name) start bytes word)))
copied_writes b Copy.of_pair start bytes word holds from = writes_none (record b { phase = with_bytes Copy.of_pair (grown Copy.of_pair start bytes word) }) refl
copied_writes b (Copy.of_text count) start bytes word holds from =
    writes_these (record b { phase = with_bytes (Copy.of_text count) (grown (Copy.of_text count) start bytes word) }) (grown (Copy.of_text count) start bytes word) refl (record {
      some = (holds bytes from.phase).some;
      few = grown_few b.registers count start bytes word from.taken;
    })

-- ---- functions that the linker has run

all_writes : (purpose : Purpose) (below : List Frame) (b : HartState) → HartWrites b → HartWrites (after_all purpose below b)
all_writes (Purpose.of_startup registers) below b holds = writes_none (after_all (Purpose.of_startup registers) below b) refl
all_writes (Purpose.of_opening to root) below b holds = writes_none (after_all (Purpose.of_opening to root) below b) refl
all_writes (Purpose.of_closing to set) below b holds = writes_none (after_all (Purpose.of_closing to set) below b) refl
all_writes (Purpose.of_end code) below b holds = holds

first_writes : (purpose : Purpose) (object : ℕ) (addresses : List ℕ) (rest : List Function) (below : List Frame) (b : HartState) → HartWrites (with_first purpose object addresses rest below b)
first_writes purpose object [] rest below b = writes_none (with_first purpose object [] rest below b) refl
first_writes purpose object (function ∷ more) rest below b = writes_none (with_first purpose object (function ∷ more) rest below b) refl

pub runs_writes : (purpose : Purpose) (functions : List Function) (below : List Frame) (b : HartState) → HartWrites b → HartWrites (runs purpose functions below b)
runs_writes purpose [] below b holds = all_writes purpose below b holds
runs_writes purpose (f ∷ rest) below b holds = first_writes purpose f.object f.addresses rest below b

freed_writes : (events : List Event) (b : HartState) → HartWrites b → HartWrites (freed_by events b)
freed_writes [] b holds = holds
freed_writes (e ∷ rest) b holds = holds

-- ---- a hart that waits

awaiting_back : (for : Shown) (p : Phase) (bytes : List ℕ) → awaiting_phase for p ≡ Phase.writing bytes → p ≡ Phase.writing bytes
awaiting_back for (Phase.named n name version) bytes is = absurd (let no : Phase.waiting n name version for ≡ Phase.writing bytes = is in cc)
awaiting_back for (Phase.waiting n name version before) bytes is = absurd (let no : Phase.waiting n name version for ≡ Phase.writing bytes = is in cc)
awaiting_back for Phase.at_pc bytes is = is
awaiting_back for (Phase.naming n some) bytes is = is
awaiting_back for (Phase.versioning name some) bytes is = is
awaiting_back for (Phase.pairing some) bytes is = is
awaiting_back for (Phase.writing some) bytes is = is
awaiting_back for (Phase.storing text stored word more) bytes is = is

awaiting_writes : (for : Shown) (b : HartState) → HartWrites b → HartWrites (awaiting for b)
awaiting_writes for b holds = λ bytes is. record { some = (holds bytes (awaiting_back for b.phase bytes is)).some; few = (holds bytes (awaiting_back for b.phase bytes is)).few }

-- ---- a turn

stored_writes : (text stored : ℕ) (more : List ℕ) (b : HartState) → HartWrites (stored_to text stored more b)
stored_writes text stored [] b = writes_none (stored_to text stored [] b) refl
stored_writes text stored (word ∷ more) b = writes_none (stored_to text stored (word ∷ more) b) refl

telling_writes : (text : ℕ) (words : List ℕ) (b : HartState) → HartWrites b → HartWrites (telling text words b)
telling_writes text [] b holds = holds
telling_writes text (word ∷ more) b holds = writes_none (telling text (word ∷ more) b) refl

module _ (w : Setting) (past : List Event) (h : ℕ) (b : HartState) (holds : HartWrites b) where
  left_as : (x : HartState) (c : HartState) → c ≡ x → HartWrites x → HartWrites c
  left_as x c leaves so = subst (λ (y : HartState). HartWrites y) (sym leaves) so

  left_none : (x : HartState) (c : HartState) → c ≡ x → is_writing x.phase ≡ false → HartWrites c
  left_none x c leaves none = left_as x c leaves (writes_none x none)

  by_goes : (x : HartState) (items : List Item) (did : Did) (c : HartState) → HartWrites x → Goes items x did c → HartWrites c
  by_goes x items did c so y = left_as (spent x) c y.leaves so

  by_ends : (x : HartState) (items : List Item) (reason : HartEnd) (did : Did) (c : HartState) → HartWrites x → TurnEnds w past h x items reason did c → HartWrites c
  by_ends x items reason did c so y = left_as _ c y.leaves so

  by_trap : (items : List Item) (trap : Trap) (did : Did) (c : HartState) → trap_of b.registers ≡ trap → Traps w past h b items trap did c → HartWrites c
  by_trap items (Trap.exits code) did c is x = by_ends (spent b) items _ did c holds x
  by_trap items (Trap.gives value) did c is x = left_none _ c x.leaves refl
  by_trap items Trap.writes did c is x =
      by_goes (record b { phase = Phase.writing [] }) items did c
      (writes_these (record b { phase = Phase.writing [] }) [] refl (record { some = begins_some b.registers is; few = omega arith })) x

  by_refusal : (items : List Item) (address : ℕ) (fault : BusFault) (did : Did) (c : HartState) → TurnRefuses w past h b items address fault did c → HartWrites c
  by_refusal items address (RoleFault role) did c x = by_ends (spent b) items _ did c holds x
  by_refusal items address Misaligned did c x = by_ends (spent b) items _ did c holds x
  by_refusal items address (Again shown) did c x = by_goes b items did c holds x

  by_stop : (items : List Item) (s : Stop) (did : Did) (c : HartState) → TurnStops w past h b items s did c → HartWrites c
  by_stop items stop.Ecall did c x = by_trap items (trap_of b.registers) did c refl x
  by_stop items stop.Break did c x = by_ends (spent b) items _ did c holds x
  by_stop items (stop.Bad word) did c x = by_ends (spent b) items _ did c holds x
  by_stop items (stop.Misaligned address) did c x = by_ends (spent b) items _ did c holds x
  by_stop items (stop.Refused address fault) did c x = by_refusal items address fault did c x

  -- an instruction changes registers, while the hart writes nothing
  by_place : (items : List Item) (place : Place) (did : Did) (c : HartState) → b.phase ≡ Phase.at_pc → Comes w past h b items place did c → HartWrites c
  by_place items (Ready r) did c at x = by_goes (record b { registers = r }) items did c (writes_none (record b { registers = r }) (ap is_writing at)) x
  by_place items (Accessing r decoded) did c at x = absurd x
  by_place items (Stopped r s) did c at x = by_stop items s did c x

  by_unread : (items : List Item) (copy : Copy) (address : ℕ) (did : Did) (c : HartState) → Unread w past h b items copy address did c → HartWrites c
  by_unread items (Copy.of_name n) address did c x = by_ends (spent b) items _ did c holds x
  by_unread items (Copy.of_version name) address did c x = by_ends (spent b) items _ did c holds x
  by_unread items Copy.of_pair address did c x = by_ends (spent b) items _ did c holds x
  by_unread items (Copy.of_text count) address did c x = left_none _ c x.leaves refl

  by_copy : (items : List Item) (copy : Copy) (start : ℕ) (bytes : List ℕ) (answer : Result ℕ BusFault) (did : Did) (c : HartState) → CopiesFrom b bytes copy → CopiesBy w past h b items copy start bytes answer did c → HartWrites c
  by_copy items copy start bytes (Ok word) did c from x = by_goes _ items did c (copied_writes b copy start bytes word holds from) x
  by_copy items copy start bytes (Err (RoleFault role)) did c from x = by_unread items copy _ did c x
  by_copy items copy start bytes (Err Misaligned) did c from x = absurd x
  by_copy items copy start bytes (Err (Again shown)) did c from x = by_goes b items did c holds x

  by_store : (items : List Item) (text stored : ℕ) (more : List ℕ) (answer : Result Unit BusFault) (did : Did) (c : HartState) → StoresBy w past h b items text stored more answer did c → HartWrites c
  by_store items text stored more (Ok done) did c x = by_goes (stored_to text stored more b) items did c (stored_writes text stored more b) x
  by_store items text stored more (Err (RoleFault role)) did c x = by_ends (spent b) items _ did c holds x
  by_store items text stored more (Err Misaligned) did c x = absurd x
  by_store items text stored more (Err (Again shown)) did c x = by_goes b items did c holds x

  by_passing : (purpose : Purpose) (before : List Event) (functions : List Function) (below : List Frame) (did : Did) (c : HartState) → Passes w past h b purpose before functions below did c → HartWrites c
  by_passing purpose before functions below did c x = left_as _ c x.leaves (runs_writes purpose (left functions) below (freed b) holds)

  by_telling : (text : ℕ) (to : Return) (fault : Option DlFault) (appended : List Event) (did : Did) (c : HartState) → TellsOf text b to fault appended did c → HartWrites c
  by_telling text to (Some fault) appended did c x = left_as _ c x.leaves (telling_writes text (text_words (answer_text fault)) (freed b) holds)
  by_telling text to None appended did c x = left_none _ c x.leaves refl

  by_answer : (asked : Call) (to : Return) (answer : Answer) (appended : List Event) (did : Did) (c : HartState) → Takes w past h b asked to answer appended did c → HartWrites c
  by_answer asked to (returns value) appended did c x = left_none _ c x.leaves refl
  by_answer asked to (loading root added) appended did c x = by_passing (Purpose.of_opening to.to root) appended x.functions to.frames did c x.passes
  by_answer asked to (closing set) appended did c x = by_passing (Purpose.of_closing to.to set) appended x.functions to.frames did c x.passes
  by_answer asked to (refused fault) appended did c x = left_none _ c x.leaves refl
  by_answer asked to (granted g) appended did c x = left_as _ c x.leaves holds
  by_answer asked to (told fault) appended did c x = by_telling (stack_start (after past) h) to fault appended did c x
  by_answer asked to (again for) appended did c x = left_as _ c x.leaves (awaiting_writes for b holds)
  by_answer asked to (over reason) appended did c x = left_as _ c x.leaves holds

  by_finals : (code object : ℕ) (did : Did) (c : HartState) → EndsObject w past h b code object did c → HartWrites c
  by_finals code object did c (inl x) =
      left_as _ c x.leaves
      (runs_writes (Purpose.of_end code) (final_functions x.next) [] (freed_by (own_fini (after past) h object ++ x.events) b) (freed_writes (own_fini (after past) h object ++ x.events) b holds))
  by_finals code object did c (inr x) = by_ends (spent b) [] reasons.Memory did c holds x

  by_due : (d : Due) (did : Did) (c : HartState) → IsFrom b d → MovesAs w past h b d did c → HartWrites c
  by_due Due.nothing did c from x = absurd x
  by_due (Due.exchange o) did c from x = left_as _ c x.leaves holds
  by_due (Due.finish o found) did c from x = left_as _ c x.leaves (λ bytes is. record { some = (holds bytes is).some; few = (holds bytes is).few })
  by_due Due.fuel_out did c from x = by_ends b [] reasons.FuelOut did c holds x
  by_due Due.instruction did c from x = by_place x.items x.place did c from x.comes
  by_due (Due.copy copy start bytes) did c from x = by_copy (copied_item start bytes x.answer ∷ []) copy start bytes x.answer did c from x.comes
  by_due (Due.serve asked to) did c from x = by_answer asked to x.answer x.appended did c x.takes
  by_due (Due.wait for) did c from x = left_as _ c x.leaves (awaiting_writes for b holds)
  by_due (Due.store text stored word more) did c from x = by_store (Write (text + 8 * stored) 8 word x.answer ∷ []) text stored more x.answer did c x.comes
  by_due (Due.enter function frames) did c from x = left_none _ c x.leaves refl
  by_due (Due.complete purpose object rest below) did c from x = by_passing purpose _ rest below did c x.passes
  by_due (Due.finalise code object) did c from x = by_finals code object did c x

pub turns_keep_writes : TurnsKeepWrites
turns_keep_writes w past h b c did moves holds = by_due w past h b holds (due (after past) b) did c (due_from (after past) b) moves

-- ---- a write that is served

some_are_one : (n : ℕ) → n ≢ 0 → 1 ≤ n
some_are_one zero some = absurd (some refl)
some_are_one (suc n) some = omega arith

pub served_may : ServedMayBeWritten
served_may s b bytes to holds is =
    let copied : IsCopied b bytes = subst (λ (d : Due). IsFrom b d) is (due_from s b) in
    let writing : IsWriting b.registers bytes = holds bytes copied.phase in
    let one : 1 ≤ write_count b.registers = le-min (some_are_one (a2 b.registers) writing.some) (omega arith) in
    let all : write_count b.registers ≤ length bytes = copied.all in
    record { some = omega (arith, one, all); few = writing.few }
