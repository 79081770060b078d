-- What is printed of worked runs.
use Rattle.std.specs.Prelude.{ℕ, List, [], ◌∷◌, ◌++◌, codes, flat_map}
use Rattle.history_event.specs.declared.event.Event.{Event}
use Rattle.history_event.specs.declared.event.Event.TheVariants.{Wrote, Bound, Ended}
use Rattle.history_event.specs.declared.hart_end.HartEnd.TheVariants.{Exit, Break}
use Rattle.history_event.specs.declared.state.Ending.{Ending}
use Rattle.trace_text.specs.declared.run_texts.record.Counts.{Counts}

-- a text of lines, each with its line feed
abbrev pub lines : List (List ℕ) → List ℕ
lines texts = flat_map (λ text. text ++ 10 ∷ []) texts

-- ---- journals

abbrev pub first_match_text : List ℕ
first_match_text = lines (
    codes "open h=0 ns=0 name=prog flags=0x101 ok in=0 root=1 new=1:prog@0x10000,2:lib/liba.so@0x14000,3:lib/libb.so@0x17000"
    ∷ codes "init h=0 o=2"
    ∷ codes "init h=0 o=3"
    ∷ codes "init h=0 o=1"
    ∷ codes "grant g=1 h=0 o=1 slot=0 -> 2.1 0x15000"
    ∷ codes "bound g=1"
    ∷ codes "ended h=0 exit 1"
    ∷ codes "fini h=0 o=1"
    ∷ codes "fini h=0 o=3"
    ∷ codes "fini h=0 o=2"
    ∷ codes "end 1 exit"
    ∷ [])

abbrev pub race_text : List ℕ
race_text = lines (
    codes "open h=0 ns=0 name=prog flags=0x101 ok in=0 root=1 new=1:prog@0x10000"
    ∷ codes "sym h=1 ns=0 handle=0x0 name=h1 ver=- ok 1.3 0x11058"
    ∷ codes "grant g=1 h=0 o=1 slot=0 -> 0.1 0x80f010"
    ∷ codes "bound g=1"
    ∷ codes "open h=0 ns=0 name=libo.so flags=0x1 ok in=0 root=2 new=2:lib/libo.so@0x34000,3:lib/libf.so@0x38000"
    ∷ codes "init h=0 o=3"
    ∷ codes "init h=0 o=2"
    ∷ codes "grant g=2 h=0 o=1 slot=1 -> 0.3 0x80f030"
    ∷ codes "bound g=2"
    ∷ codes "sym h=0 ns=0 handle=0x2 name=go ver=- ok 2.2 0x35030"
    ∷ codes "init h=0 o=1"
    ∷ codes "grant g=3 h=0 o=2 slot=0 -> 3.1 0x39000"
    ∷ codes "open h=1 ns=0 name=libg.so flags=0x101 ok in=0 root=4 new=4:lib/libg.so@0x3b000"
    ∷ codes "init h=1 o=4"
    ∷ codes "grant g=4 h=1 o=2 slot=0 -> 4.1 0x3c000"
    ∷ codes "lost g=3 saw=0x3c000"
    ∷ codes "bound g=4"
    ∷ codes "ended h=0 exit 7"
    ∷ codes "ended h=1 exit 7"
    ∷ codes "fini h=0 o=4"
    ∷ codes "fini h=0 o=1"
    ∷ codes "fini h=0 o=2"
    ∷ codes "fini h=0 o=3"
    ∷ codes "end 7 exit"
    ∷ [])

abbrev pub race_counts : Counts
race_counts = record { events = 23; grants = 4; bound = 3; lost = 1 }

-- ---- what guests wrote

-- two constructors write a digit each
abbrev pub written : List Event
written = Wrote 0 (codes "4") ∷ Wrote 0 (codes "3") ∷ Bound 1 ∷ Ended 0 (Exit 40) ∷ []

abbrev pub written_text : List ℕ
written_text = lines (codes "43" ∷ codes "end 40 exit" ∷ [])

-- the guest ends its line itself
abbrev pub written_line : List Event
written_line = Wrote 1 (codes "hi" ++ 10 ∷ []) ∷ []

abbrev pub hi_line : List ℕ
hi_line = lines (codes "hi" ∷ [])

-- ---- last lines

abbrev pub fuel_line : List ℕ
fuel_line = lines (codes "end 124 hart 0 fuel" ∷ [])

abbrev pub slot_store_line : List ℕ
slot_store_line = lines (codes "end 125 hart 0 slot-store 0x11038 0x13010" ∷ [])

-- hart 0 ends by exit, hart 1 does, and then hart 0 meets an ebreak in a final destructor
abbrev pub ended_twice : List Ending
ended_twice =
    record { hart = 0; «end» = Exit 0 }
    ∷ record { hart = 1; «end» = Exit 5 }
    ∷ record { hart = 0; «end» = Break 0x80f080 }
    ∷ []
