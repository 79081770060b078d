-- Who changes a doubleword, a row, a trail or what is known of a word, and who loads the count.
use Rattle.std.specs.Prelude.{◌≡◌, ◌≢◌, ◌⊎◌, ℕ, ◌+◌, ◌%◌, ◌^◌, ◌<◌, false, List, [], ◌∷◌, ◌++◌, map, Some, None, slice_index}
use mathlib.Core.Option.{some}
use lib.ListN.{get_elem?}
use Rattle.ld_base.specs.declared.linking.Role.TheVariants.{None as NoRole}
use Rattle.word_rule.specs.declared.kind.HartKind.{HartKind}
use Rattle.word_rule.specs.declared.kind.HartKind.TheVariants as harts
use Rattle.word_rule.specs.declared.kind.KeeperKind.{KeeperKind}
use Rattle.word_rule.specs.declared.kind.KeeperKind.TheVariants as keepers
use Rattle.word_rule.specs.declared.kind.StoreAsk.{StoreAsk}
use Rattle.word_rule.specs.declared.view.HartView.{HartView}
use Rattle.word_rule.specs.declared.view.Kept.{Kept}
use Rattle.word_rule.specs.declared.view.KeeperView.{KeeperView}
use Rattle.word_rule.specs.declared.view.TrailItem.{TrailItem}
use Rattle.word_rule.specs.declared.view.View.{View}
use Rattle.word_rule.specs.declared.view.View.TheVariants.{Keeper, Hart}
use Rattle.word_rule.specs.Layout.{control_at, count_at, row_at, state_at, value_at}
use Rattle.word_rule.specs.Layout.{doublewords, harts_at_most, lock_bit, place_of, role_code, version_in}
use Rattle.word_rule.specs.Views.{IsLong, kept_at, row_of}
use Rattle.word_rule.specs.Operations.{Op, becomes, load}
use Rattle.word_rule.specs.HartSteps.{Awaits, HartReady, IsMark, hart_after, hart_op, hart_word, store_place}
use Rattle.word_rule.specs.KeeperSteps.{KeeperReady, keeper_after, keeper_op, keeper_word}
use Rattle.word_rule.specs.Calls.{Rests}
use Rattle.word_rule.specs.Joining.{MayTake, takes_in}
use Rattle.word_rule.specs.Rule.{IsGuest}

-- ---- doublewords

-- where the operation clears the lock of a control word, it raises the version by one
abbrev pub RaisesIfUnlocks : Op → ℕ → Type 0
RaisesIfUnlocks op n = lock_bit n ≡ 1 → lock_bit (becomes op n) ≡ 0 → version_in (becomes op n) ≡ (version_in n + 1) % 2 ^ 60

-- and so does each step on a control word
abbrev pub UnlocksRaise : Type 0
UnlocksRaise =
    ((kind : HartKind) (h : HartView) (d n : ℕ) → h.number < harts_at_most → HartReady kind h → hart_word kind ≡ control_at d
    → n < 18446744073709551616 → RaisesIfUnlocks (hart_op kind) n)
    × ((kind : KeeperKind) (k : KeeperView) (d n : ℕ) → KeeperReady kind k → keeper_word kind ≡ control_at d
    → n < 18446744073709551616 → n % 8 ≡ role_code (kept_at k d).role → RaisesIfUnlocks (keeper_op kind) n)

-- the word is one of the doubleword's two
abbrev pub IsOfDoubleword : ℕ → ℕ → Type 0
IsOfDoubleword d word = (word ≡ value_at d) ⊎ (word ≡ control_at d)

-- a kind that locks the doubleword, or exchanges it as a slot
abbrev pub HartEnters : HartKind → ℕ → Type 0
HartEnters (harts.Lock ask control) d = store_place ask ≡ d
HartEnters (harts.Exchange g) d = place_of g.entry.slot ≡ d
HartEnters _ d = ⊥

abbrev pub KeeperEnters : KeeperKind → ℕ → Type 0
KeeperEnters (keepers.Lock e control) d = e ≡ d
KeeperEnters _ d = ⊥

-- a step changes a doubleword only where its seat has locked it, but to lock it or to exchange a slot
abbrev pub OnlyOwnersChange : Type 0
OnlyOwnersChange =
    ((kind : HartKind) (h : HartView) (d : ℕ) → h.number < harts_at_most → HartReady kind h → hart_op kind ≢ load
    → IsOfDoubleword d (hart_word kind) → (h.access.locked ≡ Some d) ⊎ HartEnters kind d)
    × ((kind : KeeperKind) (k : KeeperView) (d : ℕ) → KeeperReady kind k → keeper_op kind ≢ load
    → IsOfDoubleword d (keeper_word kind) → (k.access.locked ≡ Some d) ⊎ KeeperEnters kind d)

-- the keeper changes the value of a doubleword only where it has no role
abbrev pub OnlyFreshAreStored : Type 0
OnlyFreshAreStored =
    (kind : KeeperKind) (k : KeeperView) (d : ℕ) → KeeperReady kind k → keeper_op kind ≢ load → keeper_word kind ≡ value_at d → (kept_at k d).role ≡ NoRole

-- a lock leaves a doubleword as it is that somebody has locked
abbrev pub LockedStay : Type 0
LockedStay =
    ((ask : StoreAsk) (control : ℕ) (h : HartView) (n : ℕ) → HartReady (harts.Lock ask control) h → lock_bit n ≡ 1
    → becomes (hart_op (harts.Lock ask control)) n ≡ n)
    × ((d control : ℕ) (k : KeeperView) (n : ℕ) → KeeperReady (keepers.Lock d control) k → lock_bit n ≡ 1
    → becomes (keeper_op (keepers.Lock d control)) n ≡ n)

-- ---- rows, and the count

-- the word is one of the row of this hart
abbrev pub IsOfRow : ℕ → ℕ → Type 0
IsOfRow m word = (i : ℕ) × (i < 6) × (word ≡ row_at m i)

-- a hart changes no row but its own: at rest to begin a call, and with a mark. The keeper changes rows that await an answer, of
-- harts none of whose grants is undecided
abbrev pub OnlyRowsOwnersChange : Type 0
OnlyRowsOwnersChange =
    (words : List ℕ) (views : List View) (seat m : ℕ) → IsGuest words views → m < harts_at_most → let state = slice_index words (state_at m) in
    ((kind : HartKind) (h : HartView) → get_elem? views seat ≡ some (Hart h) → HartReady kind h → hart_op kind ≢ load
    → IsOfRow m (hart_word kind) → (m ≡ h.number) × (((h.lane.calling ≡ false) × Rests state) ⊎ IsMark state))
    × ((kind : KeeperKind) (k : KeeperView) → get_elem? views seat ≡ some (Keeper k) → KeeperReady kind k → keeper_op kind ≢ load
    → IsOfRow m (keeper_word kind) → Awaits state × ((row_of k m).pending ≡ None))

-- of harts' steps one kind is on the count: it loads it, and isn't for a hart that is calling
abbrev pub OnlyTallyCounts : Type 0
OnlyTallyCounts = (kind : HartKind) (h : HartView) → HartReady kind h → hart_word kind ≡ count_at → (kind ≡ harts.Tally) × (h.lane.calling ≡ false)

-- ---- trails

-- a trail is as it was, or has one item behind it
abbrev pub Grows : List TrailItem → List TrailItem → Type 0
Grows before after = (after ≡ before) ⊎ ((item : TrailItem) × (after ≡ before ++ item ∷ []))

-- the trails of a view: a hart's own, and those of the harts whose seats the keeper took in
abbrev pub trails_of : View → List (List TrailItem)
trails_of (Keeper k) = map (λ (h : HartView). h.trail) k.joined
trails_of (Hart h) = h.trail ∷ []
trails_of _ = []

-- a step leaves all trails but that its hart's may grow; a seat that takes another in has the trails of both
pub record TrailsGrow : Type 0 where
  pub of_hart : (kind : HartKind) (h : HartView) (n : ℕ) → Grows h.trail (hart_after kind h n).trail
  pub of_keeper : (kind : KeeperKind) (k : KeeperView) (n : ℕ) → trails_of (Keeper (keeper_after kind k n)) ≡ trails_of (Keeper k)
  pub taken_in : (v w : View) → MayTake v w → trails_of (takes_in v w) ≡ trails_of v ++ trails_of w

-- ---- doublewords with a role

-- the same of a doubleword, but for what was seen of it
abbrev pub IsSameWord : Kept → Kept → Type 0
IsSameWord before after = record after { fixed = None } ≡ record before { fixed = None }

-- a doubleword that has a role before and after a step of the keeper has the same one, and the same word
abbrev pub WordsStay : Type 0
WordsStay =
    (kind : KeeperKind) (k : KeeperView) (n d : ℕ) → IsLong k → KeeperReady kind k → d < doublewords → (kept_at k d).role ≢ NoRole
    → (kept_at (keeper_after kind k n) d).role ≢ NoRole → IsSameWord (kept_at k d) (kept_at (keeper_after kind k n) d)
