-- The next turn of a hart whose opening has come to another hart's object: it waits, or its call is made.
use Rattle.std.proofs.Common.{◌≡◌, Bool, true, false, true≢false, cond, sym, ap}
use Rattle.ld_base.specs.declared.fault.Shown.{Shown}
use Rattle.history_calls.specs.Call.{Call}
use Rattle.hart_moves.specs.Due.{Due, Return}
use Rattle.world_answers.specs.Answers.{is_service, is_wait}

module _ (t : Bool) (for : Shown) (call : Call) (back : Return) (d : Due) where
  abbrev Is : Bool → Type 0
  Is still = cond still (Due.wait for) (Due.serve call back) ≡ d

  waiting_by : (u : Bool) → Is u → u ≡ true → Due.wait for ≡ d
  waiting_by true is still = is
  waiting_by false is still = absurd (true≢false (sym still))

  calling_by : (u : Bool) → Is u → u ≡ false → Due.serve call back ≡ d
  calling_by true is still = absurd (true≢false still)
  calling_by false is still = is

  pub waits_then : Is t → t ≡ true → d ≡ Due.wait for
  waits_then is still = sym (waiting_by t is still)

  pub waits_not : Is t → t ≡ false → is_wait d ≡ false
  waits_not is still = ap is_wait (sym (calling_by t is still))

  pub asks_not : Is t → t ≡ true → is_service d ≡ false
  asks_not is still = ap is_service (waits_then is still)

  pub asks_then : Is t → t ≡ false → Due.serve call back ≡ d
  asks_then is still = calling_by t is still
