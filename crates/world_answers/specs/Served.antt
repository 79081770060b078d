-- What a hart gets of what came of its call of a dl function.
use Rattle.std.specs.Prelude.{ℕ, List, Option, Some, None}
use Rattle.history_event.specs.declared.event.Event.TheVariants.{Ended}
use Rattle.history_event.specs.declared.hart_end.HartEnd.TheVariants as ends
use Rattle.history_calls.specs.declared.link_served.served.Served.{Served}
use Rattle.history_calls.specs.declared.link_served.served.Served.TheVariants as served
use Rattle.link_state.specs.Table.{LinkTable, appended}
use Rattle.world_memory.specs.declared.turn_answers.answered.Answered.{Answered}
use Rattle.world_memory.specs.declared.turn_answers.answered.Answered.TheVariants as answered
use Rattle.world_memory.specs.declared.turn_answers.answered.MemoryChange.{MemoryChange}
use Rattle.world_memory.specs.declared.turn_answers.answered.MemoryChange.TheVariants as change

-- where the call returns with a value, memory gets this change; where it is refused it returns with this value
abbrev pub answer_with : MemoryChange → ℕ → Served → Answered
answer_with does refused (served.Done value) = answered.Returns value does
answer_with does refused (served.Opened root installs functions) = answered.Loading root installs functions
answer_with does refused (served.Closing dying functions) = answered.Closing dying functions
answer_with does refused (served.Refused fault) = answered.Returns refused change.Nothing
answer_with does refused (served.Again for) = answered.Again for
answer_with does refused served.Memory = answered.Over ends.Memory

-- for want of memory the hart has ended; all else is in the journal already
abbrev pub noted : LinkTable → ℕ → Served → LinkTable
noted table h (served.Done value) = table
noted table h (served.Opened root installs functions) = table
noted table h (served.Closing dying functions) = table
noted table h (served.Refused fault) = table
noted table h (served.Again for) = table
noted table h served.Memory = appended table (Ended h ends.Memory)

-- a text is to stand at an address; with none the call returns with 0
abbrev pub told_at : ℕ → Option (List ℕ) → Answered
told_at start (Some text) = answered.Told start text
told_at start None = answered.Returns 0 change.Nothing
