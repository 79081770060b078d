-- Worked histories of openings and closings (dlopen(3), dlmopen(3); gABI, DF_1_NODELETE; Drepper, "ELF Symbol Versioning").
use Rattle.std.specs.Prelude.{ℕ, true, false, List, [], ◌∷◌, ◌++◌, Some, None, codes, take}
use Rattle.ld_base.specs.declared.fault.DlFault.TheVariants.{AddressSpaceFull, ClosingHere, MissingVersion}
use Rattle.ld_base.specs.declared.object.Segment.{Segment}
use Rattle.history_event.specs.declared.event.CloseAnswer.TheVariants as closes
use Rattle.history_event.specs.declared.event.Event.{Event}
use Rattle.history_event.specs.declared.event.Event.TheVariants.{Open, Close, Unmapped, Init, Fini}
use Rattle.history_event.specs.declared.event.OpenAnswer.{OpenAnswer}
use Rattle.history_event.specs.declared.event.OpenAnswer.TheVariants.{Done, Refused}
use Rattle.history_state.specs.Late.{late}
use Rattle.history_state.specs.Namespaces as apart
use Rattle.history_state.specs.Parts.{Held, code, given, object, pages_at, placed, stack_at}
use Rattle.history_state.specs.Setting.{Setting}

-- ---- the objects

abbrev pub prog : Held
prog = record { path = codes "prog"; object = object [] (code ∷ []) [] [] }

-- it stays mapped (DF_1_NODELETE)
abbrev pub libk : Held
libk = record {
  path = codes "lib/libk.so";
  object = record (object [] (code ∷ []) [] []) { flags = record { symbolic = false; bind_now = false; nodelete = true } };
}

abbrev pub libp : Held
libp = record { path = codes "lib/libp.so"; object = object [] (code ∷ []) [] [] }

-- it is in the second folder alone
abbrev pub libm : Held
libm = record { path = codes "more/libm.so"; object = object [] (code ∷ []) [] [] }

-- it defines V1
abbrev pub libv : Held
libv = record {
  path = codes "lib/libv.so";
  object = record (object [] (code ∷ []) [] []) {
    verdefs = record { index = 1; flags = 1; name = codes "libv.so" } ∷ record { index = 2; flags = 0; name = codes "V1" } ∷ [];
  };
}

-- more pages than there are
abbrev pub too_much : Segment
too_much = record { vaddr = 0; memsz = 0x900000; flags = 6; align = 4096; bytes = [] }

-- it needs V2 of libv, and 0x900 pages
abbrev pub libq : Held
libq = record {
  path = codes "lib/libq.so";
  object = record (object (codes "libv.so" ∷ []) (too_much ∷ []) [] []) {
    verneeds = record { index = 3; flags = 0; file = codes "libv.so"; name = codes "V2" } ∷ [];
  };
}

abbrev pub files : List Held
files = prog ∷ libk ∷ libp ∷ libm ∷ libv ∷ libq ∷ []

abbrev pub setting : Setting
setting = record (given 1 files) { folders = codes "lib" ∷ codes "more" ∷ [] }

abbrev pub startup : Event
startup = Open 0 (record { ns = Some 0; name = Some (codes "prog"); flags = 0x101 })
    (Done 0 1 (placed 0 1 prog 0x10000 [] ∷ []) (pages_at 1 0x10000 3 ∷ stack_at 0 0x13000 ∷ []))

abbrev pub opens : List ℕ → ℕ → OpenAnswer → Event
opens name flags answer = Open 0 (record { ns = Some 0; name = Some name; flags = flags }) answer

-- a library that needs nothing, behind the stack
abbrev pub alone : Held → OpenAnswer
alone held = Done 0 2 (placed 0 2 held 0x23000 [] ∷ []) (pages_at 2 0x23000 3 ∷ [])

-- ---- NODELETE: of the object, or of its opening (RTLD_NODELETE is 0x1000)

abbrev pub opened : Held → List ℕ → ℕ → List Event
opened held name flags = startup ∷ Init 0 1 ∷ opens name flags (alone held) ∷ Init 0 2 ∷ []

abbrev pub closed : List ℕ → Event
closed dying = Close 0 2 (closes.Done dying)

abbrev pub object_stays : List Event
object_stays = opened libk (codes "libk.so") 1 ++ closed [] ∷ []

abbrev pub object_dies : List Event
object_dies = opened libk (codes "libk.so") 1 ++ closed (2 ∷ []) ∷ []

abbrev pub opening_stays : List Event
opening_stays = opened libp (codes "libp.so") 0x1001 ++ closed [] ∷ []

abbrev pub opening_dies : List Event
opening_dies = opened libp (codes "libp.so") 0x1001 ++ closed (2 ∷ []) ∷ []

-- without either it dies
abbrev pub other_dies : List Event
other_dies = opened libp (codes "libp.so") 1 ++ closed (2 ∷ []) ∷ []

-- ---- the second candidate

abbrev pub found_in_second : List Event
found_in_second = startup ∷ opens (codes "libm.so") 1 (alone libm) ∷ []

-- the same, but that the path is that of the first candidate
abbrev pub named_by_first : List Event
named_by_first = startup ∷ opens (codes "libm.so") 1 (alone (record libm { path = codes "lib/libm.so" })) ∷ []

-- ---- versions come before room

abbrev pub lacks_version : List Event
lacks_version = startup ∷ opens (codes "libq.so") 1 (Refused (MissingVersion (codes "lib/libq.so") (codes "libv.so") (codes "V2"))) ∷ []

abbrev pub lacks_room : List Event
lacks_room = startup ∷ opens (codes "libq.so") 1 (Refused (AddressSpaceFull 0x900)) ∷ []

-- ---- what closes can't be opened by the hart that closes it

abbrev pub closing : List Event
closing = take 9 late

abbrev pub opens_closing : OpenAnswer → List Event
opens_closing answer = closing ++ opens (codes "libt.so") 1 answer ∷ []

abbrev pub closing_refused : List Event
closing_refused = opens_closing (Refused (ClosingHere (codes "lib/libt.so")))

abbrev pub closing_opened : List Event
closing_opened = opens_closing (Done 0 2 [] [])

-- ---- a namespace's number: the least that is free, and free again once its last object is gone

abbrev pub in_new : ℕ → ℕ → Event
in_new id serial = Open 0 (apart.libn_in None) (Done id serial (placed 0 serial apart.libn 0x27000 [] ∷ []) (pages_at serial 0x27000 3 ∷ []))

abbrev pub in_another : List Event
in_another = take 4 apart.namespaces ++ in_new 2 3 ∷ []

abbrev pub new_closed : List Event
new_closed = apart.before ++ Close 0 3 (closes.Done (3 ∷ [])) ∷ Fini 0 3 ∷ Unmapped 0 (3 ∷ []) ∷ []

abbrev pub opened_again : List Event
opened_again = new_closed ++ in_new 1 4 ∷ []

abbrev pub opened_elsewhere : List Event
opened_elsewhere = new_closed ++ in_new 2 4 ∷ []
