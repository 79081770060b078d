-- How a run ended, with which status, and how that is written.
use Rattle.std.specs.Prelude.{◌≡◌, ℕ, ◌-◌, ◌%◌, false, List, [], ◌∷◌, ◌++◌, length, filter, map, take, codes, Option, Some}
use Rattle.std.specs.Fmt.{decimal}
use Rattle.std.specs.List.{AllPass, slice_get}
use Rattle.history_event.specs.declared.hart_end.HartEnd.{HartEnd}
use Rattle.history_event.specs.declared.hart_end.HartEnd.TheVariants as ends
use Rattle.history_event.specs.declared.state.Ending.{Ending}
use Rattle.history_state.specs.Owed.{is_end_of}
use Rattle.history_state.specs.Setting.{is_exit}
use Rattle.trace_text.specs.Ends.{end_text}
use Rattle.trace_text.specs.Said.{said}
use Rattle.trace_text.specs.declared.run_texts.run_end.RunEnd.{RunEnd}
use Rattle.trace_text.specs.declared.run_texts.run_end.RunEnd.TheVariants.{Exited, Ended}

-- ---- the ends of harts

-- the last end of a hart among those of a state, which stand in the order in which they came
abbrev pub ends_of : ℕ → List Ending → List HartEnd
ends_of hart endings = map (λ e. e.«end») (filter (is_end_of hart) endings)

abbrev pub last_end : ℕ → List Ending → Option HartEnd
last_end hart endings = slice_get (ends_of hart endings) (length (ends_of hart endings) - 1)

-- the last ends of so many harts, in order of hart number
pub record AreLastEnds (harts : ℕ) (endings : List Ending) (last : List HartEnd) : Type 0 where
  pub all : length last ≡ harts
  pub each : (hart : ℕ) (reason : HartEnd) → slice_get last hart ≡ Some reason → last_end hart endings ≡ Some reason

-- ---- the end of the run

-- each hart ended by exit, hart 0 with this code
pub record AllExited (last : List HartEnd) (code : ℕ) : Type 0 where
  pub first : slice_get last 0 ≡ Some (ends.Exit code)
  pub each : AllPass is_exit last

-- the hart ended otherwise, and none with a lower number did
pub record Decides (last : List HartEnd) (hart : ℕ) (reason : HartEnd) : Type 0 where
  pub there : slice_get last hart ≡ Some reason
  pub otherwise : is_exit reason ≡ false
  pub lowest : AllPass is_exit (take hart last)

-- how a run ended whose harts' last ends are these
abbrev pub IsRunEnd : List HartEnd → RunEnd → Type 0
IsRunEnd last (Exited code) = AllExited last code
IsRunEnd last (Ended hart reason) = Decides last hart reason

-- ---- the status

-- 124: its turns are used up; 125: it did what may not be done; 127: what it called isn't defined; 118: that isn't code, or there is no room; 123: there
-- is no memory
abbrev pub end_status : HartEnd → ℕ
end_status (ends.Exit code) = code % 256
end_status ends.FuelOut = 124
end_status (ends.NotMapped pc address) = 125
end_status (ends.SlotStore pc address) = 125
end_status (ends.BadInstruction pc word) = 125
end_status (ends.Misaligned pc address) = 125
end_status (ends.Break pc) = 125
end_status (ends.BadModule number) = 125
end_status (ends.Unloaded serial) = 125
end_status (ends.NoSlot serial eights) = 125
end_status (ends.Unresolved serial slot) = 127
end_status (ends.NotCode serial slot) = 118
end_status (ends.AddressSpaceFull pages) = 118
end_status ends.Memory = 123

-- where each hart ended by exit, hart 0's code says it
abbrev pub run_status : RunEnd → ℕ
run_status (Exited code) = code % 256
run_status (Ended hart reason) = end_status reason

-- ---- the last line

abbrev pub end_words : RunEnd → List ℕ
end_words (Exited code) = codes "exit"
end_words (Ended hart reason) = said (codes "hart" ∷ decimal hart ∷ []) (end_text reason)

unfoldable pub end_line : RunEnd → List ℕ
end_line run_end = said (codes "end" ∷ decimal (run_status run_end) ∷ []) (end_words run_end) ++ 10 ∷ []
