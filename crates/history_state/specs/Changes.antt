-- What an event changes of guest memory.
use Rattle.std.specs.Prelude.{◌≡◌, ℕ, ◌^◌, ◌<◌, ◌⊎◌, false, List, [], filter, None, Contains, IsTrue}
use Rattle.ld_base.specs.declared.linking.Role.TheVariants.{None as NoRole}
use Rattle.history_event.specs.declared.event.Event.{Event}
use Rattle.history_event.specs.declared.event.Event.TheVariants as events
use Rattle.history_event.specs.declared.event.OpenAnswer.{OpenAnswer}
use Rattle.history_event.specs.declared.event.OpenAnswer.TheVariants as opens
use Rattle.history_event.specs.declared.event.Range.{Range}
use Rattle.history_state.specs.State.{State}
use Rattle.history_state.specs.Memory.{covers, data_at, role_at, first_word_at}
use Rattle.history_state.specs.Step.{block_ranges, goes_with, step}

-- the ranges that an event reserves: an opening's, and a block's
abbrev pub opening_reserves : OpenAnswer → List Range
opening_reserves (opens.Done id root added ranges) = ranges
opening_reserves opens.Absent = []
opening_reserves (opens.Refused fault) = []

abbrev pub reserved : State → Event → List Range
reserved s (events.Open hart ask answer) = opening_reserves answer
reserved s (events.Tls hart owner address) = block_ranges s hart owner address
reserved s other = []

-- and those that it takes away: an unmapping's
abbrev pub taken : State → Event → List Range
taken s (events.Unmapped hart set) = filter (goes_with set) s.ranges
taken s other = []

-- no range that comes or goes has the address
abbrev pub StandsApart : State → Event → ℕ → Type 0
StandsApart s e a = (r : Range) → Contains (reserved s e) r ⊎ Contains (taken s e) r → covers a r ≡ false

-- an address that is in no range which comes or goes keeps its role, and its word, but in stacks, static areas and blocks, where harts write;
-- what is reserved had no role, and what is taken away has none
pub record ChangesMemory (s : State) (e : Event) : Type 0 where
  pub role : (a : ℕ) → a < 2 ^ 64 → StandsApart s e a → role_at (step s e) a ≡ role_at s a
  pub word : (a : ℕ) → a < 2 ^ 64 → StandsApart s e a → data_at s a ≡ None → first_word_at (step s e) a ≡ first_word_at s a
  pub reserved_before : (r : Range) (a : ℕ) → Contains (reserved s e) r → IsTrue (covers a r) → role_at s a ≡ NoRole
  pub taken_after : (r : Range) (a : ℕ) → Contains (taken s e) r → IsTrue (covers a r) → role_at (step s e) a ≡ NoRole
