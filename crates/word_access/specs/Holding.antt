-- The views of a hart in the middle of an access.
use Rattle.std.specs.Prelude.{◌≡◌, ℕ, ◌*◌, ◌^◌, ◌<◌, Bool, true, false, Option, Some, None, Result, Ok, Err}
use Rattle.rv_isa.specs.Encoding.{IsAtomicSize}
use Rattle.rv_hart.specs.Buses.{IsSize}
use Rattle.rv_hart.specs.declared.bus.BusFault.{BusFault}
use Rattle.rv_hart.specs.declared.bus.BusFault.TheVariants.{Role as RoleFault, Misaligned, Again}
use Rattle.word_rule.specs.declared.kind.Ask.{Ask}
use Rattle.word_rule.specs.declared.kind.Ask.TheVariants.{Load as AsksLoad, Store as AsksStore}
use Rattle.word_rule.specs.declared.kind.LoadAsk.{LoadAsk}
use Rattle.word_rule.specs.declared.kind.StoreAsk.{StoreAsk}
use Rattle.word_rule.specs.declared.kind.StoreAsk.TheVariants.{Write, Amo, Conditional}
use Rattle.word_rule.specs.declared.view.HartView.{HartView}
use Rattle.word_rule.specs.declared.view.TrailItem.TheVariants.{Call}
use Rattle.word_rule.specs.Layout.{role_in, lock_bit}
use Rattle.word_steps.specs.Showing.{IsShown}
use Rattle.word_rule.specs.HartSteps.{ask_is_fresh, ask_place, entered, failed, is_fresh, load_refused, loaded, permits, refused, stored, store_place}
use Rattle.word_rule.specs.HartSteps.{store_refused, with_access}

-- only a conditional store may come too late
abbrev pub IsConditional : StoreAsk → Type 0
IsConditional (Conditional a size v version) = Unit {0}
IsConditional (Write a size v) = ⊥
IsConditional (Amo a size op v) = ⊥

-- the control word of the doubleword was found, and the access goes on
abbrev pub found_control : ℕ → ℕ → HartView → HartView
found_control at control h = with_access (record { locked = None; held = None; last = Some (at, control) }) h

-- the doubleword is locked, from this control word
abbrev pub has_locked : ℕ → ℕ → Option ℕ → HartView → HartView
has_locked at control held h = with_access (record { locked = Some at; held = held; last = Some (at, control) }) h

-- the doubleword of a store is locked, as its control word allows
pub record IsLocking (ask : StoreAsk) (h : HartView) : Type 0 where
  pub control : ℕ
  pub access : h.access ≡ record { locked = Some (store_place ask); held = None; last = Some (store_place ask, control) }
  pub fresh : is_fresh ask control ≡ true
  pub note : h.note ≡ None

-- what the caller of a bus shows of a store's operands
abbrev pub HasOperands : StoreAsk → Type 0
HasOperands (Write a size v) = IsSize size × (v < 2 ^ (8 * size))
HasOperands (Amo a size op v) = IsAtomicSize size × (v < 2 ^ (8 * size))
HasOperands (Conditional a size v version) = IsAtomicSize size × (v < 2 ^ (8 * size))

-- what memory may refuse, by the role or the lock that was found
abbrev pub Refuses : Ask → BusFault → Type 0
Refuses ask (RoleFault role) = permits ask role ≡ false
Refuses ask (Again shown) = IsShown shown
Refuses ask Misaligned = ⊥

-- a control word was found that permits the access, unless it is a conditional store that comes too late
abbrev pub after_glance : Ask → ℕ → Bool → HartView → HartView
after_glance ask control true h = found_control (ask_place ask) control h
after_glance ask control false h = entered (Call (failed ask)) h

-- the access may go on, or ended with why it may not
abbrev pub Glances : Ask → HartView → Result ℕ BusFault → HartView → Type 0
Glances ask before (Ok control) now = (now ≡ after_glance ask control (ask_is_fresh ask control) before) × (lock_bit control ≡ 0)
    × (permits ask (role_in control) ≡ true)
Glances ask before (Err fault) now = (now ≡ entered (Call (refused ask fault)) before) × Refuses ask fault

-- a load found the control word and the value, or was refused
abbrev pub Loads : LoadAsk → HartView → Result (ℕ × ℕ) BusFault → HartView → Type 0
Loads ask before (Ok found) now = now ≡ entered (Call (loaded ask found.0 found.1)) before
Loads ask before (Err fault) now = (now ≡ entered (Call (load_refused ask fault)) before) × Refuses (AsksLoad ask) fault

-- a doubleword is locked for a store, or the store comes too late, or it was refused
abbrev pub Locks : StoreAsk → HartView → Result (Option ℕ) BusFault → HartView → Type 0
Locks ask before (Ok (Some control)) now = (now ≡ has_locked (store_place ask) control None before) × (is_fresh ask control ≡ true)
Locks ask before (Ok None) now = (now ≡ entered (Call (failed (AsksStore ask))) before) × IsConditional ask
Locks ask before (Err fault) now = (now ≡ entered (Call (store_refused ask fault)) before) × Refuses (AsksStore ask) fault

-- a store was made over the value found, or came too late, or was refused
abbrev pub Changes : StoreAsk → HartView → Result (Option ℕ) BusFault → HartView → Type 0
Changes ask before (Ok (Some found)) now = now ≡ entered (Call (stored ask found)) before
Changes ask before (Ok None) now = (now ≡ entered (Call (failed (AsksStore ask))) before) × IsConditional ask
Changes ask before (Err fault) now = (now ≡ entered (Call (store_refused ask fault)) before) × Refuses (AsksStore ask) fault
