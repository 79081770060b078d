-- A hart between two turns: its registers, how far it is with what it asked the linker for, and the functions that the linker has it run.
use Rattle.std.specs.Prelude.{ℕ, Bool, true, false, List, Option}
use Rattle.ld_base.specs.declared.fault.Shown.{Shown}
use Rattle.history_event.specs.declared.handed.Function.{Function}
use Rattle.history_event.specs.declared.hart_end.HartEnd.{HartEnd}
use Rattle.rv_hart.specs.Registers.{Registers}

-- ---- a slot

-- a granted slot as its hart gets it: the number of the grant, the address of the slot, what the slot holds until it is bound, and the value
-- that is to be put there
pub record Offered : Type 0 where
  pub number : ℕ
  pub slot : ℕ
  pub lazy : ℕ
  pub value : ℕ

-- how far the hart is with a slot
pub data Resolving : Type 0 where
  idle : Resolving
  -- it was granted, and the exchange is next
  to_exchange : Offered → Resolving
  -- the exchange found this word, and the hart gives the offer back next
  to_finish : Offered → (found : ℕ) → Resolving
  -- the hart runs on, and the next service of any hart settles its grant
  to_settle : Offered → (found : ℕ) → Resolving

-- ---- a service

-- the functions that take names
pub data Naming : Type 0 where
  dlopen : Naming
  dlmopen : Naming
  dlsym : Naming
  dlvsym : Naming

-- what a hart has of what it passes to the linker. No register changes until the call returns, so the registers say the rest.
pub data Phase : Type 0 where
  -- nothing: an instruction is next, or the first turn of a service
  at_pc : Phase
  -- the first bytes of a name
  naming : Naming → (bytes : List ℕ) → Phase
  -- dlvsym's name, and the first bytes of the version
  versioning : (name bytes : List ℕ) → Phase
  -- the name, and dlvsym's version: the service is next
  named : Naming → (name version : List ℕ) → Phase
  -- the same, of an opening that has to wait for this: the service comes again once it is over
  waiting : Naming → (name version : List ℕ) → Shown → Phase
  -- the first bytes of the module's number and the offset that __tls_get_addr is passed
  pairing : (bytes : List ℕ) → Phase
  -- the first bytes of what is to be written
  writing : (bytes : List ℕ) → Phase
  -- dlerror's text is put at an address: so many doublewords stand there, this one is next, and these follow
  storing : (text stored word : ℕ) → (more : List ℕ) → Phase

-- ---- functions that the linker has the hart run

-- what for
pub data Purpose : Type 0 where
  -- the constructors of startup; then the hart starts with these registers
  of_startup : Registers → Purpose
  -- those of an opening, which then returns to ra with the handle of its root
  of_opening : (ra root : ℕ) → Purpose
  -- the destructors of a closing, whose objects are then unmapped; it returns to ra
  of_closing : (ra : ℕ) → (set : List ℕ) → Purpose
  -- the final destructors, one object at a time; the hart has ended by exit with this code
  of_end : (code : ℕ) → Purpose

-- the objects whose functions are to run, with those that weren't entered yet. The first object is the one whose function runs
pub record Frame : Type 0 where
  pub purpose : Purpose
  pub queue : List Function

-- startup's constructors
abbrev pub is_startup_frame : Frame → Bool
is_startup_frame frame = elim frame.purpose [ Purpose.of_startup registers ↦ true | _ ↦ false ]

-- ---- a hart

pub record HartState : Type 0 where
  pub registers : Registers
  pub phase : Phase
  pub resolving : Resolving
  -- the innermost first
  pub frames : List Frame
  -- how many turns the hart may take, and how many it took
  pub fuel : ℕ
  pub turns : ℕ
  pub «end» : Option HartEnd
