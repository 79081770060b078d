-- What a hart did, where the calls of the bus are known.
use Rattle.std.proofs.Common.{◌≡◌, ℕ, ◌+◌, ◌*◌, List, [], ◌∷◌, Result, Ok, Err, refl}
use Rattle.history_event.specs.declared.event.Event.{Event}
use Rattle.history_event.specs.declared.event.Event.TheVariants.{Ended}
use Rattle.history_event.specs.declared.hart_end.HartEnd.{HartEnd}
use Rattle.history_event.specs.declared.hart_end.HartEnd.TheVariants as ends
use Rattle.history_state.specs.Setting.{Setting}
use Rattle.rv_hart.specs.declared.bus.BusFault.{BusFault}
use Rattle.rv_hart.specs.declared.bus.BusFault.TheVariants.{Role as RoleFault, Misaligned, Again}
use Rattle.rv_hart.specs.declared.bus.Item.{Item}
use Rattle.rv_hart.specs.declared.stepping.Stop.{Stop}
use Rattle.rv_hart.specs.declared.stepping.Stop.TheVariants as stop
use Rattle.rv_hart.specs.Trail.{Place, Ready, Accessing, Stopped}
use Rattle.hart_moves.specs.Copying.{Copy, first_left}
use Rattle.hart_moves.specs.Harts.{HartState}
use Rattle.hart_moves.specs.Moves.{Comes, CopiesBy, Did, TurnRefuses, StoresBy, TurnStops, Trap, Traps, Unread, role_end, trap_of}

abbrev ended_by : ℕ → List Item → HartEnd → Did
ended_by h items reason = Did.serves items (Ended h reason ∷ [])

-- the same calls, and an end of the hart or none
abbrev did_trap : ℕ → List Item → Trap → Did
did_trap h items (Trap.exits code) = ended_by h items (ends.Exit code)
did_trap h items (Trap.gives value) = Did.quiet items
did_trap h items Trap.writes = Did.quiet items

abbrev did_refusal : ℕ → HartState → List Item → ℕ → BusFault → Did
did_refusal h b items address (RoleFault role) = ended_by h items (role_end b.registers.pc address items role)
did_refusal h b items address Misaligned = ended_by h items (ends.Misaligned b.registers.pc address)
did_refusal h b items address (Again shown) = Did.quiet items

abbrev did_stop : ℕ → HartState → List Item → Stop → Did
did_stop h b items stop.Ecall = did_trap h items (trap_of b.registers)
did_stop h b items stop.Break = ended_by h items (ends.Break b.registers.pc)
did_stop h b items (stop.Bad word) = ended_by h items (ends.BadInstruction b.registers.pc word)
did_stop h b items (stop.Misaligned address) = ended_by h items (ends.Misaligned b.registers.pc address)
did_stop h b items (stop.Refused address fault) = did_refusal h b items address fault

abbrev pub did_place : ℕ → HartState → List Item → Place → Did
did_place h b items (Ready r) = Did.quiet items
did_place h b items (Accessing r decoded) = Did.quiet items
did_place h b items (Stopped r s) = did_stop h b items s

abbrev did_unread : ℕ → HartState → List Item → Copy → ℕ → Did
did_unread h b items (Copy.of_name n) address = ended_by h items (ends.NotMapped b.registers.pc address)
did_unread h b items (Copy.of_version name) address = ended_by h items (ends.NotMapped b.registers.pc address)
did_unread h b items Copy.of_pair address = ended_by h items (ends.NotMapped b.registers.pc address)
did_unread h b items (Copy.of_text count) address = Did.quiet items

abbrev pub did_copy : ℕ → HartState → List Item → Copy → ℕ → List ℕ → Result ℕ BusFault → Did
did_copy h b items copy start bytes (Ok word) = Did.quiet items
did_copy h b items copy start bytes (Err (RoleFault role)) = did_unread h b items copy (first_left start bytes)
did_copy h b items copy start bytes (Err Misaligned) = Did.quiet items
did_copy h b items copy start bytes (Err (Again shown)) = Did.quiet items

abbrev pub did_store : ℕ → HartState → List Item → ℕ → ℕ → Result Unit BusFault → Did
did_store h b items text stored (Ok _) = Did.quiet items
did_store h b items text stored (Err (RoleFault role)) = ended_by h items (role_end b.registers.pc (text + 8 * stored) items role)
did_store h b items text stored (Err Misaligned) = Did.quiet items
did_store h b items text stored (Err (Again shown)) = Did.quiet items

module _ (w : Setting) (past : List Event) (h : ℕ) (b : HartState) where
  trap_is : (items : List Item) (trap : Trap) (did : Did) (c : HartState) → Traps w past h b items trap did c → did ≡ did_trap h items trap
  trap_is items (Trap.exits code) did c x = x.is
  trap_is items (Trap.gives value) did c x = x.is
  trap_is items Trap.writes did c x = x.is

  refusal_is : (items : List Item) (address : ℕ) (fault : BusFault) (did : Did) (c : HartState) → TurnRefuses w past h b items address fault did c → did ≡ did_refusal h b items address fault
  refusal_is items address (RoleFault role) did c x = x.is
  refusal_is items address Misaligned did c x = x.is
  refusal_is items address (Again shown) did c x = x.is

  stop_is : (items : List Item) (s : Stop) (did : Did) (c : HartState) → TurnStops w past h b items s did c → did ≡ did_stop h b items s
  stop_is items stop.Ecall did c x = trap_is items (trap_of b.registers) did c x
  stop_is items stop.Break did c x = x.is
  stop_is items (stop.Bad word) did c x = x.is
  stop_is items (stop.Misaligned address) did c x = x.is
  stop_is items (stop.Refused address fault) did c x = refusal_is items address fault did c x

  pub place_is : (items : List Item) (place : Place) (did : Did) (c : HartState) → Comes w past h b items place did c → did ≡ did_place h b items place
  place_is items (Ready r) did c x = x.is
  place_is items (Accessing r decoded) did c x = absurd x
  place_is items (Stopped r s) did c x = stop_is items s did c x

  unread_is : (items : List Item) (copy : Copy) (address : ℕ) (did : Did) (c : HartState) → Unread w past h b items copy address did c → did ≡ did_unread h b items copy address
  unread_is items (Copy.of_name n) address did c x = x.is
  unread_is items (Copy.of_version name) address did c x = x.is
  unread_is items Copy.of_pair address did c x = x.is
  unread_is items (Copy.of_text count) address did c x = x.is

  pub copy_is : (items : List Item) (copy : Copy) (start : ℕ) (bytes : List ℕ) (answer : Result ℕ BusFault) (did : Did) (c : HartState) → CopiesBy w past h b items copy start bytes answer did c → did ≡ did_copy h b items copy start bytes answer
  copy_is items copy start bytes (Ok word) did c x = x.is
  copy_is items copy start bytes (Err (RoleFault role)) did c x = unread_is items copy (first_left start bytes) did c x
  copy_is items copy start bytes (Err Misaligned) did c x = absurd x
  copy_is items copy start bytes (Err (Again shown)) did c x = x.is

  pub store_is : (items : List Item) (text stored : ℕ) (more : List ℕ) (answer : Result Unit BusFault) (did : Did) (c : HartState) → StoresBy w past h b items text stored more answer did c → did ≡ did_store h b items text stored answer
  store_is items text stored more (Ok done) did c x = x.is
  store_is items text stored more (Err (RoleFault role)) did c x = x.is
  store_is items text stored more (Err Misaligned) did c x = absurd x
  store_is items text stored more (Err (Again shown)) did c x = x.is

-- ---- the calls of what was done

abbrev pub calls_of : Did → List Item
calls_of (Did.quiet items) = items
calls_of (Did.serves items appended) = items
calls_of (Did.waits for) = []
calls_of (Did.exchanges o found) = []
calls_of Did.finishes = []

trap_calls : (h : ℕ) (items : List Item) (trap : Trap) → calls_of (did_trap h items trap) ≡ items
trap_calls h items (Trap.exits code) = refl
trap_calls h items (Trap.gives value) = refl
trap_calls h items Trap.writes = refl

refusal_calls : (h : ℕ) (b : HartState) (items : List Item) (address : ℕ) (fault : BusFault) → calls_of (did_refusal h b items address fault) ≡ items
refusal_calls h b items address (RoleFault role) = refl
refusal_calls h b items address Misaligned = refl
refusal_calls h b items address (Again shown) = refl

stop_calls : (h : ℕ) (b : HartState) (items : List Item) (s : Stop) → calls_of (did_stop h b items s) ≡ items
stop_calls h b items stop.Ecall = trap_calls h items (trap_of b.registers)
stop_calls h b items stop.Break = refl
stop_calls h b items (stop.Bad word) = refl
stop_calls h b items (stop.Misaligned address) = refl
stop_calls h b items (stop.Refused address fault) = refusal_calls h b items address fault

pub place_calls : (h : ℕ) (b : HartState) (items : List Item) (place : Place) → calls_of (did_place h b items place) ≡ items
place_calls h b items (Ready r) = refl
place_calls h b items (Accessing r decoded) = refl
place_calls h b items (Stopped r s) = stop_calls h b items s

unread_calls : (h : ℕ) (b : HartState) (items : List Item) (copy : Copy) (address : ℕ) → calls_of (did_unread h b items copy address) ≡ items
unread_calls h b items (Copy.of_name n) address = refl
unread_calls h b items (Copy.of_version name) address = refl
unread_calls h b items Copy.of_pair address = refl
unread_calls h b items (Copy.of_text count) address = refl

pub copy_calls : (h : ℕ) (b : HartState) (items : List Item) (copy : Copy) (start : ℕ) (bytes : List ℕ) (answer : Result ℕ BusFault) → calls_of (did_copy h b items copy start bytes answer) ≡ items
copy_calls h b items copy start bytes (Ok word) = refl
copy_calls h b items copy start bytes (Err (RoleFault role)) = unread_calls h b items copy (first_left start bytes)
copy_calls h b items copy start bytes (Err Misaligned) = refl
copy_calls h b items copy start bytes (Err (Again shown)) = refl

pub store_calls : (h : ℕ) (b : HartState) (items : List Item) (text stored : ℕ) (answer : Result Unit BusFault) → calls_of (did_store h b items text stored answer) ≡ items
store_calls h b items text stored (Ok done) = refl
store_calls h b items text stored (Err (RoleFault role)) = refl
store_calls h b items text stored (Err Misaligned) = refl
store_calls h b items text stored (Err (Again shown)) = refl
