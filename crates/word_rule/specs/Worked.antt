-- Worked steps: two harts on one doubleword, a conditional store that comes after another's store, two harts that resolve one slot,
-- and a row that goes between the keeper and its hart.
use Rattle.std.specs.Prelude.{◌≡◌, [], ◌∷◌, length, None, Some, Ok, Err, true, false}
use Rattle.ld_base.specs.declared.fault.Shown.TheVariants.{Locked}
use Rattle.ld_base.specs.declared.linking.Role.TheVariants.{Rx, Slot as SlotRole}
use Rattle.rv_hart.specs.declared.bus.BusFault.TheVariants.{Again}
use Rattle.rv_hart.specs.declared.bus.Item.TheVariants as items
use Rattle.word_rule.specs.declared.entry.Entry.{Entry}
use Rattle.word_rule.specs.declared.entry.Grant.{Grant}
use Rattle.word_rule.specs.declared.kind.Ask.TheVariants.{Store as Stores}
use Rattle.word_rule.specs.declared.kind.StoreAsk.TheVariants.{Write, Conditional}
use Rattle.word_rule.specs.declared.kind.HartKind.TheVariants as kinds
use Rattle.word_rule.specs.declared.kind.KeeperKind.TheVariants as keeps
use Rattle.word_rule.specs.declared.view.KeeperView.{KeeperView}
use Rattle.word_rule.specs.declared.view.Kept.{Kept}
use Rattle.word_rule.specs.declared.view.Retired.{Retired}
use Rattle.word_rule.specs.declared.view.TrailItem.TheVariants.{Call, Exchanged}
use Rattle.word_rule.specs.Views.{first_hart, kept_at}
use Rattle.word_rule.specs.Operations.{becomes}
use Rattle.word_rule.specs.HartSteps.{HartReady, hart_op, hart_after}
use Rattle.word_rule.specs.KeeperSteps.{fixed_by, keeper_after, keeper_op}

-- hart 0 locks an RW doubleword of version 0, whose control word is 3, and unlocks it: version 1. Hart 1, which found 3 before,
-- doesn't lock it: the control word stays, and the hart's access is told both words
abbrev pub OneLocks : Type 0
OneLocks =
    let ask = Write 0x10000 8 7 in
    (becomes (hart_op (kinds.Lock ask 3)) 3 ≡ 11)
    × (becomes (hart_op (kinds.Unlock 0)) 11 ≡ 19)
    × (becomes (hart_op (kinds.Lock ask 3)) 19 ≡ 19)
    × ((hart_after (kinds.Lock ask 3) (first_hart 1) 19).trail ≡ Call (items.Write 0x10000 8 7 (Err (Again (Locked 3 19)))) ∷ [])

-- a hart that finds another's lock is told what it found, twice
abbrev pub AnotherHasLocked : Type 0
AnotherHasLocked =
    (hart_after (kinds.Look (Stores (Write 0x10000 8 7))) (first_hart 1) 11).trail ≡ Call (items.Write 0x10000 8 7 (Err (Again (Locked 11 11)))) ∷ []

-- a conditional store by the reservation of version 0 fails where the version is 1, and is made of the word where it is 0
abbrev pub ConditionalFails : Type 0
ConditionalFails =
    ((hart_after (kinds.Look (Stores (Conditional 0x10000 8 7 0))) (first_hart 1) 19).trail ≡ Call (items.Conditional 0x10000 8 7 0 (Ok false)) ∷ [])
    × ((hart_after (kinds.Look (Stores (Conditional 0x10000 8 7 0))) (first_hart 1) 3).trail ≡ [])

-- nor is it made under a lock that was taken for a plain store, by a hart that found the version 1
abbrev pub ConditionalIsRefused : Type 0
ConditionalIsRefused =
    let locked = hart_after (kinds.Lock (Write 0x10000 8 7) 19) (first_hart 1) 19 in
    ¬ (HartReady (kinds.Store (Conditional 0x10000 8 7 0) 7) locked)
    × HartReady (kinds.Store (Write 0x10000 8 7) 7) locked

-- under a lock a store is owed, and it is one to guest memory: an address below it would be taken for the first doubleword
abbrev pub StoreIsOwed : Type 0
StoreIsOwed =
    let locked = hart_after (kinds.Lock (Write 0x10000 8 7) 19) (first_hart 1) 19 in
    ¬ (HartReady (kinds.Unlock 0) locked) × ¬ (HartReady (kinds.Store (Write 0x8 8 7) 7) locked)

-- two grants of one slot whose lazy word is 5, with the values 100 and 200: the first exchange wins, the second finds its value
abbrev pub first_grant : Grant
first_grant = record { entry = record { mark = 3; number = 1; slot = 0x10000; value = 100; generation = 0 }; lazy = 5 }

abbrev pub second_grant : Grant
second_grant = record { entry = record { mark = 3; number = 2; slot = 0x10000; value = 200; generation = 0 }; lazy = 5 }

abbrev pub OneWins : Type 0
OneWins =
    (becomes (hart_op (kinds.Exchange first_grant)) 5 ≡ 100)
    × (becomes (hart_op (kinds.Exchange second_grant)) 100 ≡ 100)
    × ((hart_after (kinds.Exchange first_grant) (first_hart 0) 5).trail ≡ Exchanged (record { grant = first_grant; found = 5 }) ∷ [])
    × ((hart_after (kinds.Exchange second_grant) (first_hart 1) 100).trail ≡ Exchanged (record { grant = second_grant; found = 100 }) ∷ [])

-- the keeper gives a doubleword without a role that of a slot, and takes it away: each raises the version
abbrev pub RoleComesAndGoes : Type 0
RoleComesAndGoes =
    (becomes (keeper_op (keeps.Lock 0 0)) 0 ≡ 8)
    × (becomes (keeper_op (keeps.Unlock 0 SlotRole 5)) 8 ≡ 20)
    × (becomes (keeper_op (keeps.Lock 0 20)) 20 ≡ 28)
    × (becomes (keeper_op (keeps.RetireSlot 0)) 28 ≡ 32)

-- a slot's role is taken away, and then another doubleword's: they stand in this order, each at the keeper's generation and count, with its word
abbrev pub RolesGoInOrder : Type 0
RolesGoInOrder = (k : KeeperView) → k.retired ≡ [] → (kept_at k 0).role ≡ SlotRole
    → let first : Retired = record { at = 0; role = SlotRole; generation = k.generation; number = length k.events; value = (kept_at k 0).value } in
    ((keeper_after (keeps.RetireSlot 0) k 28).retired ≡ first ∷ [])
    × ((l : KeeperView) → l.retired ≡ first ∷ [] → (kept_at l 1).role ≡ Rx
    → let next : Retired = record { at = 1; role = Rx; generation = l.generation; number = length l.events; value = (kept_at l 1).value } in
    (keeper_after (keeps.Retire 1 Rx) l 10).retired ≡ first ∷ next ∷ [])

-- a look at a slot whose lazy word is 5 keeps the word found, unless that is 5
abbrev pub LookKeeps : Type 0
LookKeeps =
    let slot : Kept = record { role = SlotRole; value = 5; lazy = 5; since = 1; fixed = None } in
    ((fixed_by 100 slot).fixed ≡ Some 100) × ((fixed_by 5 slot).fixed ≡ None)

-- the keeper's look finds 11, the lock of an RW doubleword, and shows it twice; a lock by 3 that finds 19 shows both; and a look
-- that finds no lock shows nothing
abbrev pub LockIsShown : Type 0
LockIsShown =
    (k : KeeperView) → k.shown ≡ []
    → ((keeper_after (keeps.Look 0) k 11).shown ≡ record { at = 0; first = 11; second = 11 } ∷ [])
    × ((keeper_after (keeps.Lock 0 3) k 19).shown ≡ record { at = 0; first = 3; second = 19 } ∷ [])
    × ((keeper_after (keeps.Look 0) k 3).shown ≡ [])

-- the state of hart 0's row: the hart calls, an event answers it, and it takes the entry; it calls again, the row is open, and the
-- grant has won. The next call begins with that row; and the grant might have lost
abbrev pub RowGoesRound : Type 0
RowGoesRound =
    let answer : Entry = record { mark = 1; number = 1; slot = 0; value = 0; generation = 0 } in
    (becomes (hart_op (kinds.Begin 0)) 0 ≡ 8)
    × (becomes (keeper_op (keeps.Hand 0 1)) 8 ≡ 1)
    × (becomes (hart_op (kinds.Accept 0 answer)) 1 ≡ 0)
    × (becomes (keeper_op (keeps.Open 0)) 8 ≡ 3)
    × (becomes (hart_op (kinds.Finish 0 true)) 3 ≡ 4)
    × (becomes (hart_op (kinds.Begin 0)) 4 ≡ 12)
    × (becomes (hart_op (kinds.Finish 0 false)) 3 ≡ 5)
