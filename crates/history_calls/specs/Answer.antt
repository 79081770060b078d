-- What the linker answers a call.
use Rattle.std.specs.Prelude.{ℕ, ◌-◌, ◌^◌, List, Option}
use Rattle.ld_base.specs.declared.fault.DlFault.{DlFault}
use Rattle.ld_base.specs.declared.fault.Shown.{Shown}
use Rattle.ld_base.specs.declared.linking.Loaded.{Loaded}
use Rattle.history_event.specs.declared.hart_end.HartEnd.{HartEnd}
use Rattle.history_event.specs.declared.state.Granting.{Granting}
use Rattle.history_calls.specs.Call.{Call, resolves, opens, looks_up, closes, unmaps, asks_fault, locates, writes, stops}

pub data Answer : Type 0 where
  -- the call returns with this value
  returns : ℕ → Answer
  -- it returns with the handle once the constructors of these new objects have run
  loading : (root : ℕ) → List Loaded → Answer
  -- these objects are unmapped once their destructors have run
  closing : List ℕ → Answer
  -- it is refused, and returns
  refused : DlFault → Answer
  -- the hart has this grant: it is to put the value into the slot
  granted : Granting → Answer
  -- the refusal that the hart is told, if one is kept for it
  told : Option DlFault → Answer
  -- nothing has come of it yet, and the hart tries again
  again : Shown → Answer
  -- the hart runs no further
  over : HartEnd → Answer

-- what a call that is refused returns with: -1 of dlclose, and else 0
abbrev pub refused_value : Call → ℕ
refused_value (resolves owner eights) = 0
refused_value (opens ask) = 0
refused_value (looks_up ask) = 0
refused_value (closes handle) = 2 ^ 64 - 1
refused_value (unmaps set) = 0
refused_value asks_fault = 0
refused_value (locates number offset) = 0
refused_value (writes bytes) = 0
refused_value (stops reason) = 0
