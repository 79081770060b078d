-- The steps of the keeper, in the same five tables as those of harts.
use Rattle.std.specs.Prelude.{◌≡◌, ◌≢◌, ◌⊎◌, ℕ, ◌+◌, ◌%◌, ◌≤◌, ◌<◌, Bool, true, false, eqb, nat_le}
use Rattle.std.specs.Prelude.{List, [], ◌∷◌, ◌++◌, length, map, Option, Some, None, slice_get, slice_set, Contains}
use Rattle.ld_base.specs.declared.linking.Role.TheVariants.{None as NoRole, Ro, Rx, Rw, Slot as SlotRole}
use Rattle.word_rule.specs.declared.entry.Exchange.{Exchange}
use Rattle.word_rule.specs.declared.entry.Grant.{Grant}
use Rattle.word_rule.specs.declared.kind.KeeperKind.{KeeperKind}
use Rattle.word_rule.specs.declared.kind.KeeperKind.TheVariants as kinds
use Rattle.word_rule.specs.declared.view.Access.{Access}
use Rattle.word_rule.specs.declared.view.Fate.{Fate}
use Rattle.word_rule.specs.declared.view.Fate.TheVariants.{Won, Lost}
use Rattle.word_rule.specs.declared.view.HartView.{HartView}
use Rattle.word_rule.specs.declared.view.KeeperView.{KeeperView}
use Rattle.word_rule.specs.declared.view.Kept.{Kept}
use Rattle.word_rule.specs.declared.view.Loss.{Loss}
use Rattle.word_rule.specs.declared.view.OpenRow.{OpenRow}
use Rattle.word_rule.specs.declared.view.Row.{Row}
use Rattle.word_rule.specs.declared.view.Sight.{Sight}
use Rattle.word_rule.specs.declared.view.Told.{Told}
use Rattle.word_rule.specs.Layout.{control_at, count_at, generation_at, index_of, quiet_at, row_at, state_at, value_at}
use Rattle.word_rule.specs.Layout.{doublewords, harts_at_most, lock_bit, place_of, role_code, to_lock, to_unlock}
use Rattle.word_rule.specs.Views.{BeginsWith, entries_of, entry_of, exchanges_of, field_of, grant_in, kept_at, NoneAbove, nothing_locked, row_of, with_field}
use Rattle.word_rule.specs.Allowed.{IsAllowed, IsDecided, IsLost, IsOf, IsPostable, IsSlot, IsWon, LeadsTo, NothingEnters}
use Rattle.word_rule.specs.Fetches.{AreFetched}
use Rattle.word_rule.specs.Generations.{AllKept}
use Rattle.word_rule.specs.Slots.{HasLost, HasWon, IsGrant, Rising}
use Rattle.word_rule.specs.Operations.{Op, load, store, exchange, add}

-- ---- views

-- what is kept of a note ends
abbrev pub heeding : KeeperView → KeeperView
heeding k = record k { note = None }

abbrev pub accessing : Access → KeeperView → KeeperView
accessing a k = record k { access = a }

abbrev pub with_kept : ℕ → Kept → KeeperView → KeeperView
with_kept d x k = record k { words = slice_set k.words d x }

abbrev pub with_row : ℕ → Row → KeeperView → KeeperView
with_row m r k = record k { rows = slice_set k.rows m r }

abbrev pub last_if : ℕ → ℕ → Bool → Option (ℕ × ℕ)
last_if d control true = Some (d, control)
last_if d control false = None

abbrev pub keeps_if : ℕ → Bool → KeeperView → KeeperView
keeps_if d true k = accessing (record { locked = Some d; held = None; last = None }) k
keeps_if d false k = accessing nothing_locked k

-- a doubleword's role is taken away, at this generation and behind these events; it had this word
abbrev pub retired : ℕ → KeeperView → KeeperView
retired d k = record (with_kept d (record (kept_at k d) { role = NoRole }) k) {
  retired = k.retired ++ record { at = d; role = (kept_at k d).role; generation = k.generation; number = length k.events; value = (kept_at k d).value } ∷ [];
}

-- a slot was looked at: a word that isn't the lazy word stays
abbrev pub fixed_if : ℕ → Bool → Kept → Kept
fixed_if n true x = x
fixed_if n false x = record x { fixed = Some n }

abbrev pub fixed_by : ℕ → Kept → Kept
fixed_by n x = fixed_if n (eqb n x.lazy) x

-- a hart's grant was lost, and its slot has this word
abbrev pub losing : ℕ → Grant → ℕ → KeeperView → KeeperView
losing m g n k = record k { losses = k.losses ++ record { hart = m; exchange = record { grant = g; found = n } } ∷ [] }

abbrev pub not_found : Row → Row
not_found r = record r { found_open = false }

-- two control words of a doubleword show another seat's lock, unless it is found as it should be
abbrev pub shown_if : ℕ → Bool → ℕ → ℕ → List Sight → List Sight
shown_if d true a b before = before
shown_if d false a b before = before ++ record { at = d; first = a; second = b } ∷ []

-- the hart is found calling: no row was found open since
abbrev pub awaited_if : ℕ → Bool → KeeperView → KeeperView
awaited_if m true k = with_row m (record (not_found (row_of k m)) { since = Some (length k.events) }) (record k { rows = map not_found k.rows })
awaited_if m false k = k

-- the fate of the last grant is known
abbrev pub settled_as : Fate → Option Grant → Row → Row
settled_as f None r = r
settled_as f (Some g) r = record r { pending = None; settled = r.settled ++ record { grant = g; fate = f } ∷ [] }

-- what a state says of the last grant: open, won, lost, or nothing
abbrev pub asked_if : Bool → Bool → Bool → Row → Row
asked_if true won lost r = record r { found_open = true }
asked_if false true lost r = settled_as Won r.pending r
asked_if false false true r = settled_as Lost r.pending r
asked_if false false false r = r

abbrev pub asked : ℕ → Row → Row
asked state r = asked_if (eqb (state % 8) 3) (eqb (state % 8) 4) (eqb (state % 8) 5) r

-- a row that is found open behind so many events is kept in mind
abbrev pub opens_if : (m number : ℕ) → Bool → List OpenRow → List OpenRow
opens_if m number true before = before ++ record { hart = m; number = number } ∷ []
opens_if m number false before = before

abbrev pub asked_in : ℕ → ℕ → KeeperView → KeeperView
asked_in m state k = record (with_row m (asked state (row_of k m)) k) { opens = opens_if m (length k.events) (eqb (state % 8) 3) k.opens }

abbrev pub handed : ℕ → Row → Row
handed mark r = record r { issued = r.issued ++ entry_of mark r ∷ []; since = None }

abbrev pub opened : Row → Row
opened r = record (handed 3 r) { pending = Some (grant_in r) }

-- ---- the table

abbrev pub keeper_word : KeeperKind → ℕ
keeper_word (kinds.Look d) = control_at d
keeper_word (kinds.Load d) = value_at d
keeper_word (kinds.Lock d control) = control_at d
keeper_word (kinds.Store d x) = value_at d
keeper_word (kinds.Unlock d role lazy) = control_at d
keeper_word (kinds.Count e) = count_at
keeper_word (kinds.Await m) = state_at m
keeper_word (kinds.Ask m) = state_at m
keeper_word (kinds.Saw d m) = value_at d
keeper_word (kinds.Fill m i x) = row_at m (index_of i)
keeper_word (kinds.Hand m mark) = state_at m
keeper_word (kinds.Open m) = state_at m
keeper_word (kinds.RetireSlot d) = control_at d
keeper_word (kinds.Retire d old) = control_at d
keeper_word (kinds.Generation g) = generation_at
keeper_word (kinds.Recall m i) = row_at m (index_of i)
keeper_word kinds.RecallGeneration = generation_at
keeper_word (kinds.RecallRole d) = control_at d
keeper_word kinds.Listen = quiet_at

abbrev pub keeper_op : KeeperKind → Op
keeper_op (kinds.Look d) = load
keeper_op (kinds.Load d) = load
keeper_op (kinds.Lock d control) = exchange control (control + to_lock)
keeper_op (kinds.Store d x) = store x
keeper_op (kinds.Unlock d role lazy) = add (to_unlock NoRole role)
keeper_op (kinds.Count e) = add 1
keeper_op (kinds.Await m) = load
keeper_op (kinds.Ask m) = load
keeper_op (kinds.Saw d m) = load
keeper_op (kinds.Fill m i x) = store x
keeper_op (kinds.Hand m mark) = store mark
keeper_op (kinds.Open m) = store 3
keeper_op (kinds.RetireSlot d) = add (to_unlock SlotRole NoRole)
keeper_op (kinds.Retire d old) = add (to_unlock old NoRole)
keeper_op (kinds.Generation g) = store g
keeper_op (kinds.Recall m i) = load
keeper_op kinds.RecallGeneration = load
keeper_op (kinds.RecallRole d) = load
keeper_op kinds.Listen = load

-- the hart is known to call since this count, and the fate of its last grant is known
abbrev pub Waits : KeeperView → ℕ → ℕ → Type 0
Waits k m c = (m < harts_at_most) × ((row_of k m).since ≡ Some c) × ((row_of k m).pending ≡ None)

-- no grant whose fate isn't known is of the doubleword
abbrev pub Unposted : KeeperView → ℕ → Type 0
Unposted k d = (m : ℕ) (g : Grant) → (row_of k m).pending ≡ Some g → place_of g.entry.slot ≢ d

-- an answer OpenGrant is given only where each open grant was found open by an ask
abbrev pub FoundOpen : KeeperView → ℕ → Row → Type 0
FoundOpen k mark r = mark ≡ 6 → r.slot ≡ 3 → (m : ℕ) (g : Grant) → (row_of k m).pending ≡ Some g → (row_of k m).found_open ≡ true

-- what the keeper must know before the step
abbrev pub KeeperReady : KeeperKind → KeeperView → Type 0
KeeperReady (kinds.Look d) k = (d < doublewords) × (k.access.locked ≡ None) × (k.access.last ≡ None)
KeeperReady (kinds.Load d) k = (d < doublewords) × (k.access.locked ≡ None) × (k.access.last ≡ None)
KeeperReady (kinds.Lock d control) k =
    (d < doublewords) × (k.access.locked ≡ None) × (k.access.last ≡ Some (d, control)) × (lock_bit control ≡ 0) × ((kept_at k d).role ≡ SlotRole → Unposted k d)
KeeperReady (kinds.Store d x) k = (k.access.locked ≡ Some d) × ((kept_at k d).role ≡ NoRole)
KeeperReady (kinds.Unlock d role lazy) k =
    (k.access.locked ≡ Some d) × ((kept_at k d).role ≡ NoRole) × (role ≢ NoRole) × (k.access.held ≡ Some (kept_at k d).value)
    × (role ≡ SlotRole → LeadsTo (kept_at k) (kept_at k d).value)
KeeperReady (kinds.Count e) k = length k.events < 18446744073709551615
KeeperReady (kinds.Await m) k = m < harts_at_most
KeeperReady (kinds.Ask m) k = (m < harts_at_most) × ((g : Grant) × ((row_of k m).pending ≡ Some g))
KeeperReady (kinds.Saw d m) k = (m < harts_at_most) × IsLost (row_of k m) (grant_in (row_of k m)) × IsOf (kept_at k) d (grant_in (row_of k m))
KeeperReady (kinds.Fill m i x) k = (c : ℕ) × Waits k m c
KeeperReady (kinds.Hand m mark) k =
    (c : ℕ) × Waits k m c × ((mark ≡ 1) ⊎ (mark ≡ 2) ⊎ (mark ≡ 6)) × ((row_of k m).number ≡ length k.events) × (mark ≡ 1 → c < (row_of k m).number)
    × ((row_of k m).generation ≤ k.generation) × FoundOpen k mark (row_of k m)
KeeperReady (kinds.Open m) k =
    (c : ℕ) × Waits k m c × ((row_of k m).number ≡ length k.events) × (c < (row_of k m).number) × ((row_of k m).generation ≡ k.generation)
    × IsPostable (kept_at k) (grant_in (row_of k m)) × (k.access.locked ≡ None)
KeeperReady (kinds.RetireSlot d) k = (k.access.locked ≡ Some d) × ((kept_at k d).role ≡ SlotRole)
KeeperReady (kinds.Retire d old) k =
    (k.access.locked ≡ Some d) × (old ≡ (kept_at k d).role) × (old ≢ SlotRole) × (old ≢ NoRole) × NothingEnters (kept_at k) (row_of k) d
KeeperReady (kinds.Generation g) k = k.generation < g
KeeperReady (kinds.Recall m i) k = m < harts_at_most
KeeperReady kinds.RecallGeneration k = Unit {0}
KeeperReady (kinds.RecallRole d) k = d < doublewords
KeeperReady kinds.Listen k = Unit {0}

-- its view after, by the number found. Each step ends what is kept of a note
abbrev pub keeper_after : KeeperKind → KeeperView → ℕ → KeeperView
keeper_after (kinds.Look d) k n =
    let free = eqb (lock_bit n) 0 in
    record (accessing (record { locked = None; held = None; last = last_if d n free }) (heeding k)) { shown = shown_if d free n n k.shown }
keeper_after (kinds.Load d) k n = accessing nothing_locked (heeding k)
keeper_after (kinds.Lock d control) k n = record (keeps_if d (eqb n control) (heeding k)) { shown = shown_if d (eqb n control) control n k.shown }
keeper_after (kinds.Store d x) k n =
    accessing (record { locked = k.access.locked; held = Some x; last = None }) (with_kept d (record (kept_at k d) { value = x }) (heeding k))
keeper_after (kinds.Unlock d role lazy) k n =
    accessing nothing_locked (with_kept d (record { role = role; value = (kept_at k d).value; lazy = lazy; since = length k.events; fixed = None }) (heeding k))
keeper_after (kinds.Count e) k n = record (heeding k) { events = k.events ++ e.value ∷ [] }
keeper_after (kinds.Await m) k n = awaited_if m (nat_le 8 n) (heeding k)
keeper_after (kinds.Ask m) k n = asked_in m n (heeding k)
keeper_after (kinds.Saw d m) k n = losing m (grant_in (row_of k m)) n (with_kept d (fixed_by n (kept_at k d)) (heeding k))
keeper_after (kinds.Fill m i x) k n = with_row m (with_field i x (row_of k m)) (heeding k)
keeper_after (kinds.Hand m mark) k n = with_row m (handed mark (row_of k m)) (heeding k)
keeper_after (kinds.Open m) k n = with_row m (opened (row_of k m)) (heeding k)
keeper_after (kinds.RetireSlot d) k n = accessing nothing_locked (retired d (heeding k))
keeper_after (kinds.Retire d old) k n = accessing nothing_locked (retired d (heeding k))
keeper_after (kinds.Generation g) k n = record (heeding k) { generation = g }
keeper_after (kinds.Recall m i) k n = heeding k
keeper_after kinds.RecallGeneration k n = heeding k
keeper_after (kinds.RecallRole d) k n = heeding k
keeper_after kinds.Listen k n = heeding k

-- the kinds that leave what the keeper has locked as it is
abbrev pub KeeperLeaves : KeeperKind → Type 0
KeeperLeaves (kinds.Look d) = ⊥
KeeperLeaves (kinds.Load d) = ⊥
KeeperLeaves (kinds.Lock d control) = ⊥
KeeperLeaves (kinds.Store d x) = ⊥
KeeperLeaves (kinds.Unlock d role lazy) = ⊥
KeeperLeaves (kinds.RetireSlot d) = ⊥
KeeperLeaves (kinds.Retire d old) = ⊥
KeeperLeaves _ = Unit {0}

-- ---- what the rule tells

-- what the keeper keeps of a note is true
abbrev pub KeeperHeard : Option Told → KeeperView → Type 0
KeeperHeard None k = Unit {0}
KeeperHeard (Some t) k = BeginsWith k.events t.told × BeginsWith (row_of k t.number).issued t.entries × NoneAbove k.generation t.readings

-- the hart's seat was joined while it wasn't calling, with this view
abbrev pub HasEnded : KeeperView → ℕ → HartView → Type 0
HasEnded k m j = ((i : ℕ) × (slice_get k.joined i ≡ Some j)) × (j.number ≡ m) × (j.lane.calling ≡ false)

-- each seat that was joined was that of one of the harts, and no other of its number was
pub record AreJoinedOnce (k : KeeperView) : Type 0 where
  pub numbered : (i : ℕ) (j : HartView) → slice_get k.joined i ≡ Some j → j.number < k.harts
  pub once : (i n : ℕ) (j l : HartView) → slice_get k.joined i ≡ Some j → slice_get k.joined n ≡ Some l → j.number ≡ l.number → i ≡ n

-- it has taken all that was issued to it, and its row has no call; the fates of its grants are those of its exchanges, which found what
-- was seen of those that it lost; each of its readings of the generation has the last block before it; and each fetch found code, but for
-- one at most for each role that went
pub record HasTakenAll (k : KeeperView) (m n : ℕ) (j : HartView) : Type 0 where
  pub taken : j.lane.taken ≡ (row_of k m).issued
  pub entries : entries_of j.trail ≡ j.lane.taken
  pub idle : n < 8
  pub won : (g : Grant) → IsWon (row_of k m) g → HasWon (exchanges_of j.trail) g
  pub lost : (g : Grant) → IsLost (row_of k m) g → HasLost (exchanges_of j.trail) g
  pub found : (x : Loss) → Contains k.losses x → x.hart ≡ m → Contains (exchanges_of j.trail) x.exchange
  pub granted : (x : Exchange) → Contains (exchanges_of j.trail) x → IsGrant (row_of k m) x.grant
  pub rising : Rising (exchanges_of j.trail)
  pub kept : AllKept [] j.trail
  pub fetched : AreFetched (kept_at k) k.retired j.trail

-- a row with a grant whose fate isn't known is open, won or lost, and has the grant's words
pub record TellsAsk (k : KeeperView) (m n : ℕ) : Type 0 where
  pub state : (n % 8 ≡ 3) ⊎ (n % 8 ≡ 4) ⊎ (n % 8 ≡ 5)
  -- the grant isn't open with a hart that was found calling since, or that has ended
  pub waits : (c : ℕ) → (row_of k m).since ≡ Some c → n % 8 ≢ 3
  pub ended : (j : HartView) → HasEnded k m j → n % 8 ≢ 3
  pub in_row : (g : Grant) → (row_of k m).pending ≡ Some g → g ≡ grant_in (row_of k m)
  pub of_slot : (g : Grant) → (row_of k m).pending ≡ Some g → IsOf (kept_at k) (place_of g.entry.slot) g
  pub lazy_is : (g : Grant) → (row_of k m).pending ≡ Some g → g.lazy ≡ (kept_at k (place_of g.entry.slot)).lazy
  -- the image of a slot that was won has its lazy word, and no other grant of the slot is known as won
  pub won : (g : Grant) → (row_of k m).pending ≡ Some g → n % 8 ≡ 4 → let d = place_of g.entry.slot in ((kept_at k d).value ≡ (kept_at k d).lazy)
      × ((i : ℕ) (p : Grant) → i < harts_at_most → IsWon (row_of k i) p → IsOf (kept_at k) d p → (i ≡ m) × (p ≡ g))
  -- what was seen of its slot is its value
  pub fixed : (g : Grant) (x : ℕ) → (row_of k m).pending ≡ Some g → n % 8 ≡ 4 → (kept_at k (place_of g.entry.slot)).fixed ≡ Some x → g.entry.value ≡ x

-- the word of a slot is one of its allowed values, and not the lazy word where a grant of it was lost. It is the one that was seen
-- before, and the value of a grant that won; and it is the image's where that isn't the lazy word
pub record TellsSlot (k : KeeperView) (d n : ℕ) : Type 0 where
  pub allowed : IsAllowed (kept_at k) (row_of k) d n
  pub lost : (m : ℕ) (g : Grant) → m < harts_at_most → IsLost (row_of k m) g → IsOf (kept_at k) d g → n ≢ g.lazy
  pub fixed : (x : ℕ) → (kept_at k d).fixed ≡ Some x → n ≡ x
  pub won : (m : ℕ) (g : Grant) → m < harts_at_most → IsWon (row_of k m) g → IsOf (kept_at k) d g → n ≡ g.entry.value
  pub bound : (kept_at k d).value ≢ (kept_at k d).lazy → n ≡ (kept_at k d).value

-- what came of the grants of each slot is decided, as far as their fates are known
abbrev pub AreDecided : KeeperView → Type 0
AreDecided k = (d : ℕ) → IsSlot (kept_at k) d → IsDecided (kept_at k) (row_of k) d

abbrev pub KeeperLearns : KeeperKind → KeeperView → ℕ → Type 0
KeeperLearns (kinds.Look d) k n = (n % 8 ≡ role_code (kept_at k d).role) × ((kept_at k d).role ≢ Rw → lock_bit n ≡ 0)
KeeperLearns (kinds.Load d) k n = ((kept_at k d).role ≡ Ro) ⊎ ((kept_at k d).role ≡ Rx) → n ≡ (kept_at k d).value
KeeperLearns (kinds.Lock d control) k n = (kept_at k d).role ≢ Rw → n ≡ control
KeeperLearns (kinds.Count e) k n = n ≡ length k.events
KeeperLearns (kinds.Await m) k n =
    ((j : HartView) → HasEnded k m j → HasTakenAll k m n j) × AreDecided k × AreJoinedOnce k
KeeperLearns (kinds.Ask m) k n = TellsAsk k m n
KeeperLearns (kinds.Saw d m) k n = TellsSlot k d n
KeeperLearns (kinds.Recall m i) k n = n ≡ field_of i (row_of k m)
KeeperLearns kinds.RecallGeneration k n = (n ≡ k.generation) × AreDecided k
KeeperLearns (kinds.RecallRole d) k n = n % 8 ≡ role_code (kept_at k d).role
KeeperLearns kinds.Listen k n = KeeperHeard k.note k
KeeperLearns _ k n = Unit {0}
