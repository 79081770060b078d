-- Worked turns, each with a neighbour that is none.
use Rattle.std.specs.Prelude.{◌≡◌, ℕ, ◌-◌, ◌^◌, List, [], ◌∷◌, replicate, slice_set, None, Ok, Err, codes}
use Rattle.ld_base.specs.declared.linking.Choice.TheVariants.{Def}
use Rattle.ld_base.specs.declared.linking.Role.TheVariants.{None as NoRole, Slot}
use Rattle.history_event.specs.declared.event.Event.{Event}
use Rattle.history_event.specs.declared.event.Event.TheVariants.{Ended, Grant, Init}
use Rattle.history_event.specs.declared.hart_end.HartEnd.TheVariants.{Break, Exit, NotMapped, SlotStore}
use Rattle.rv_hart.specs.declared.bus.BusFault.TheVariants.{Role as RoleFault}
use Rattle.rv_hart.specs.declared.bus.Item.{Item}
use Rattle.rv_hart.specs.declared.bus.Item.TheVariants.{Fetch, Read, Write}
use Rattle.history_state.specs.FirstMatch as first_match
use Rattle.history_state.specs.Race as race
use Rattle.history_state.specs.Setting.{Setting}
use Rattle.hart_moves.specs.Copying.{text_words}
use Rattle.hart_moves.specs.Harts.{HartState, Naming, Offered, Phase, Purpose, Resolving}
use Rattle.hart_moves.specs.Moves.{Did, Moves, Trap, ended, role_end, runs, spent, trap_of}

-- ---- harts

-- a hart at an address, with some registers, that may take a hundred turns
abbrev pub hart_at : ℕ → List ℕ → HartState
hart_at pc x = record {
  registers = record { pc = pc; x = x; held = None };
  phase = Phase.at_pc;
  resolving = Resolving.idle;
  frames = [];
  fuel = 100;
  turns = 0;
  «end» = None;
}

-- all registers are 0, but for one, or two
abbrev pub with_one : ℕ → ℕ → List ℕ
with_one register value = slice_set (replicate 32 0) register value

abbrev pub with_two : ℕ → ℕ → ℕ → ℕ → List ℕ
with_two register value other more = slice_set (with_one register value) other more

-- ---- two harts at one slot

-- the slot of libo.so in the race stands at 0x37010, and holds 0x34000 until it is bound
abbrev pub race_offer : ℕ → ℕ → Offered
race_offer number value = record { number = number; slot = 0x37010; lazy = 0x34000; value = value }

-- hart 1 calls through it: t0 is the object, t1 eight times the slot
abbrev pub caller : HartState
caller = hart_at 0x80f000 (with_two 5 2 6 0)

-- and is granted the global library's function, though hart 0 has an open grant of another
abbrev pub grants : ℕ → ℕ → Did
grants serial value = Did.serves [] (Grant 4 1 2 0 (Def serial 1) value ∷ [])

abbrev pub is_granted : ℕ → HartState
is_granted value = spent (record caller { resolving = Resolving.to_exchange (race_offer 4 value) })

abbrev pub GrantsGlobal : Type 0
GrantsGlobal = Moves race.setting race.before 1 caller (grants 4 0x3c000) (is_granted 0x3c000)

-- not what hart 0 was granted
abbrev pub GrantsTheFirst : Type 0
GrantsTheFirst = (c : HartState) → Moves race.setting race.before 1 caller (grants 3 0x39000) c → ⊥

-- its exchange finds the lazy word, and it goes on at the function
abbrev pub exchanging : ℕ → ℕ → HartState
exchanging number value = record caller { resolving = Resolving.to_exchange (race_offer number value) }

abbrev pub exchanged : ℕ → ℕ → ℕ → HartState
exchanged number value found = record caller { resolving = Resolving.to_finish (race_offer number value) found }

abbrev pub gone_on : ℕ → ℕ → ℕ → ℕ → HartState
gone_on number value found pc = spent (record (hart_at pc (with_two 5 2 6 0)) { resolving = Resolving.to_settle (race_offer number value) found })

abbrev pub Exchanges : (w : Setting) → List Event → Type 0
Exchanges w past = Moves w past 1 (exchanging 4 0x3c000) (Did.exchanges (race_offer 4 0x3c000) 0x34000) (spent (exchanged 4 0x3c000 0x34000))

abbrev pub GoesOn : (w : Setting) → List Event → Type 0
GoesOn w past = Moves w past 1 (exchanged 4 0x3c000 0x34000) Did.finishes (gone_on 4 0x3c000 0x34000 0x3c000)

-- hart 0's finds that address there, and it goes on at the winner's function too, not at its own
abbrev pub FollowsWinner : (w : Setting) → List Event → Type 0
FollowsWinner w past = Moves w past 0 (exchanged 3 0x39000 0x3c000) Did.finishes (gone_on 3 0x39000 0x3c000 0x3c000)

abbrev pub FollowsItself : (w : Setting) → List Event → Type 0
FollowsItself w past = Moves w past 0 (exchanged 3 0x39000 0x3c000) Did.finishes (gone_on 3 0x39000 0x3c000 0x39000)

-- between a grant and the end of its offer the fuel isn't asked for; before the next instruction it is
abbrev pub without_fuel : HartState → HartState
without_fuel b = record b { turns = 100 }

abbrev pub GoesOnWithoutFuel : (w : Setting) → List Event → Type 0
GoesOnWithoutFuel w past =
    Moves w past 1 (without_fuel (exchanging 4 0x3c000)) (Did.exchanges (race_offer 4 0x3c000) 0x34000) (spent (without_fuel (exchanged 4 0x3c000 0x34000)))

abbrev pub RunsWithoutFuel : (w : Setting) → List Event → Type 0
RunsWithoutFuel w past = (items : List Item) (c : HartState) → Moves w past 1 (without_fuel (hart_at 0x3c000 (replicate 32 0))) (Did.quiet items) c → ⊥

-- ---- a name

-- dlopen's name stands at 0x20000: "libg.so" and a zero byte in one doubleword
abbrev pub opener : HartState
opener = hart_at 0x80f010 (with_two 10 0x20000 11 0x101)

abbrev pub name_word : ℕ
name_word = 0x006f732e6762696c

abbrev pub CopiesName : (w : Setting) → List Event → Type 0
CopiesName w past =
    Moves w past 1 opener (Did.quiet (Read 0x20000 8 (Ok name_word) ∷ [])) (spent (record opener { phase = Phase.named Naming.dlopen (codes "libg.so") [] }))

-- that turn isn't the service as well
abbrev pub ServesAtOnce : (w : Setting) → List Event → Type 0
ServesAtOnce w past = (events : List Event) (c : HartState) → Moves w past 1 opener (Did.serves [] events) c → ⊥

-- a name that begins inside a doubleword takes a turn more
abbrev pub inside : HartState
inside = hart_at 0x80f010 (with_two 10 0x20004 11 0x101)

abbrev pub CopiesInside : (w : Setting) → List Event → Type 0
CopiesInside w past =
    Moves w past 1 inside (Did.quiet (Read 0x20000 8 (Ok 0x6762696c00000000) ∷ []))
    (spent (record inside { phase = Phase.naming Naming.dlopen (codes "libg") }))

-- where nothing is mapped the hart ends, at the service's address and the first byte that isn't copied
abbrev pub FindsNoName : Type 0
FindsNoName = Moves race.setting race.before 1 inside (Did.serves (Read 0x20000 8 (Err (RoleFault NoRole)) ∷ []) (Ended 1 (NotMapped 0x80f010 0x20004) ∷ []))
    (ended (NotMapped 0x80f010 0x20004) (spent inside))

-- ---- constructors

-- the program's constructors, the last, have run: it is initialised, and the hart starts
abbrev pub starter : HartState
starter = record (hart_at 0x80f080 (replicate 32 7)) {
  frames = record { purpose = Purpose.of_startup (hart_at 0x11000 (replicate 32 0)).registers; queue = record { object = 1; addresses = [] } ∷ [] } ∷ [];
}

-- the libraries are, in first_match
abbrev pub libraries_ready : List Event
libraries_ready = first_match.startup ∷ Init 0 2 ∷ Init 0 3 ∷ []

abbrev pub Starts : Type 0
Starts = Moves first_match.setting libraries_ready 0 starter (Did.serves [] (Init 0 1 ∷ [])) (spent (hart_at 0x11000 (replicate 32 0)))

-- not while the libraries' haven't
abbrev pub StartsEarly : Type 0
StartsEarly = (did : Did) (c : HartState) → Moves first_match.setting (first_match.startup ∷ []) 0 starter did c → ⊥

-- a hart that runs no function for the linker ends where those return to
abbrev pub HasNoFunction : Type 0
HasNoFunction = Moves race.setting race.before 1 (hart_at 0x80f080 (replicate 32 0)) (Did.serves [] (Ended 1 (Break 0x80f080) ∷ []))
    (ended (Break 0x80f080) (spent (hart_at 0x80f080 (replicate 32 0))))

-- of an opening the first object has no functions and passes at once, the second's first function is entered with ra there and arguments of 0
abbrev pub EntersSecond : Type 0
EntersSecond =
    runs (Purpose.of_opening 0x11100 2) (record { object = 2; addresses = 0x35000 ∷ 0x35010 ∷ [] } ∷ []) [] (hart_at 0x80f010 (with_two 10 0x20000 1 0x11100))
    ≡ record (hart_at 0x35000 (with_one 1 0x80f080)) {
      frames = record { purpose = Purpose.of_opening 0x11100 2; queue = record { object = 2; addresses = 0x35010 ∷ [] } ∷ [] } ∷ [];
    }

-- ---- ecalls

-- exit, by the function that a hart returns to
abbrev pub leaver : HartState
leaver = hart_at 0x80f090 (with_one 10 7)

abbrev pub Exits : Type 0
Exits = Moves race.setting race.before 1 leaver (Did.serves [] (Ended 1 (Exit 7) ∷ [])) (ended (Exit 7) (spent leaver))

-- a write to 3, one of no bytes, another ecall, and a write that copies
abbrev pub trap_with : ℕ → ℕ → ℕ → Trap
trap_with number file count = trap_of (hart_at 0x11000 (slice_set (with_two 17 number 10 file) 12 count)).registers

abbrev pub Traps : Type 0
Traps = (trap_with 64 3 8 ≡ Trap.gives (2 ^ 64 - 9)) × (trap_with 64 1 0 ≡ Trap.gives 0) × (trap_with 1 1 8 ≡ Trap.gives (2 ^ 64 - 38))
    × (trap_with 64 2 300 ≡ Trap.writes) × (trap_with 93 5 0 ≡ Trap.exits 5)

-- ---- ends and texts

-- a store to a slot ends its hart as that, and a fetch from one as from nothing mapped
abbrev pub EndsAtRole : Type 0
EndsAtRole = (role_end 0x11000 0x13010 (Fetch 0x11000 (Ok 0) ∷ Write 0x13010 8 0 (Err (RoleFault Slot)) ∷ []) Slot ≡ SlotStore 0x11000 0x13010)
    × (role_end 0x13010 0x13010 (Fetch 0x13010 (Err (RoleFault Slot)) ∷ []) Slot ≡ NotMapped 0x13010 0x13010)

-- "bad-flags" fills a doubleword; its last byte, the zero behind it and six zeros more are the second
abbrev pub TextWords : Type 0
TextWords = text_words (codes "bad-flags") ≡ 0x67616c662d646162 ∷ 0x73 ∷ []
