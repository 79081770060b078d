-- What the rule comes to, in the words of whoever relies on it: of seats, words and locks, slots and exchanges, the count, rows,
-- entries, and the generation.
use Rattle.std.specs.Prelude.{◌≡◌, ◌≢◌, ◌⊎◌, ℕ, ◌%◌, ◌≤◌, ◌<◌, true, false, List, [], ◌∷◌, ◌++◌, length, slice_get, slice_index, Some, Contains}
use mathlib.Core.Option.{some}
use lib.ListN.{get_elem?}
use Rattle.ld_base.specs.declared.linking.Role.TheVariants.{Ro, Rx, Rw}
use Rattle.history_event.specs.declared.event.Event.{Event}
use Rattle.word_rule.specs.declared.entry.Exchange.{Exchange}
use Rattle.word_rule.specs.declared.entry.Grant.{Grant}
use Rattle.word_rule.specs.declared.entry.RowWord.{RowWord}
use Rattle.word_rule.specs.declared.entry.RowWord.TheVariants.{Number}
use Rattle.word_rule.specs.declared.view.HartView.{HartView}
use Rattle.word_rule.specs.declared.view.KeeperView.{KeeperView}
use Rattle.word_rule.specs.declared.view.Loss.{Loss}
use Rattle.word_rule.specs.declared.view.Slip.{Slip}
use Rattle.word_rule.specs.declared.view.View.{View}
use Rattle.word_rule.specs.declared.view.View.TheVariants.{Keeper, Hart, Note}
use Rattle.word_rule.specs.Layout.{control_at, count_at, generation_at, index_of, row_at, state_at, value_at}
use Rattle.word_rule.specs.Layout.{doublewords, harts_at_most, lock_bit, place_of, role_code}
use Rattle.word_rule.specs.Views.{BeginsWith, entries_of, entry_of, exchanges_of, field_of, first_hart, grant_in, kept_at, NoneAbove, NoneLater, readings_of, row_of, tried_entry}
use Rattle.word_rule.specs.HartSteps.{Awaits, IsMark}
use Rattle.word_rule.specs.Calls.{IsEvent, Stage}
use Rattle.word_rule.specs.Fetches.{AreFetched}
use Rattle.word_rule.specs.Generations.{AllKept}
use Rattle.word_rule.specs.Slots.{HasLost, HasWon, IsGrant, Rising}
use Rattle.word_rule.specs.Allowed.{IsAllowed, IsLost, IsOf, IsSlot, IsWon, LeadsTo, Stands}

-- ---- seats

pub record SeatClauses (views : List View) (kept : KeeperView) (hart : ℕ → HartView) : Type 0 where
  -- whose views there are: one of the keeper, and one of a hart's number, be its seat here or joined
  pub keeper_here : (a : ℕ) × (get_elem? views a ≡ some (Keeper kept))
  pub one_keeper : (a b : ℕ) (k l : KeeperView) → get_elem? views a ≡ some (Keeper k) → get_elem? views b ≡ some (Keeper l) → (a ≡ b) × (k ≡ kept)
  pub one_number : (a b : ℕ) (h i : HartView) → get_elem? views a ≡ some (Hart h) → get_elem? views b ≡ some (Hart i) → h.number ≡ i.number → a ≡ b
  pub joined_numbered : (i : ℕ) (j : HartView) → slice_get kept.joined i ≡ Some j → j.number < kept.harts
  pub joined_view : (i : ℕ) (j : HartView) → slice_get kept.joined i ≡ Some j → hart j.number ≡ j
  pub joined_apart : (i a : ℕ) (j h : HartView) → slice_get kept.joined i ≡ Some j → get_elem? views a ≡ some (Hart h) → h.number ≢ j.number
  pub joined_once : (i n : ℕ) (j l : HartView) → slice_get kept.joined i ≡ Some j → slice_get kept.joined n ≡ Some l → j.number ≡ l.number → i ≡ n
  -- a hart's last view is that of its seat, or is kept since its seat was joined
  pub last_view : (a : ℕ) (h : HartView) → get_elem? views a ≡ some (Hart h) → (h.number < kept.harts) × (hart h.number ≡ h)
  pub seated_or_joined : (m : ℕ) → m < kept.harts
      → ((a : ℕ) × (get_elem? views a ≡ some (Hart (hart m)))) ⊎ ((i : ℕ) × (slice_get kept.joined i ≡ Some (hart m)))
  -- a hart that isn't there yet has done nothing
  pub unborn : (m : ℕ) → kept.harts ≤ m → hart m ≡ first_hart m

-- ---- words and locks

pub record LockClauses (word : ℕ → ℕ) (kept : KeeperView) (hart : ℕ → HartView) : Type 0 where
  -- what the keeper knows as a doubleword's role stands in its control word
  pub role : (d : ℕ) → d < doublewords → word (control_at d) % 8 ≡ role_code (kept_at kept d).role
  -- a lock bit is that of a seat which names the doubleword as locked
  pub locked : (d : ℕ) → d < doublewords → lock_bit (word (control_at d)) ≡ 1
      → (kept.access.locked ≡ Some d) ⊎ ((m : ℕ) × ((hart m).access.locked ≡ Some d) × ((kept_at kept d).role ≡ Rw))
  -- a doubleword that a seat names has its lock bit, and no other seat names it; a hart's is RW
  pub keeper_names : (d : ℕ) → kept.access.locked ≡ Some d → lock_bit (word (control_at d)) ≡ 1
  pub hart_names : (m d : ℕ) → (hart m).access.locked ≡ Some d
      → (lock_bit (word (control_at d)) ≡ 1) × ((kept_at kept d).role ≡ Rw) × (kept.access.locked ≢ Some d)
  pub one_names : (m n d : ℕ) → (hart m).access.locked ≡ Some d → (hart n).access.locked ≡ Some d → m ≡ n
  -- an RO or RX doubleword has the value that the keeper knows, whoever has locked it
  pub still : (d : ℕ) → d < doublewords → ((kept_at kept d).role ≡ Ro) ⊎ ((kept_at kept d).role ≡ Rx)
      → word (value_at d) ≡ (kept_at kept d).value
  -- a fetch found that value in an RX doubleword, or the one that it had when it lost that role, unless the role went while the fetch was under way
  pub fetched : (m : ℕ) → AreFetched (kept_at kept) kept.retired (hart m).trail

-- ---- slots and exchanges

-- an exchange of a slot that is there, in a hart's trail
abbrev pub Made : KeeperView → (ℕ → HartView) → ℕ → Exchange → Type 0
Made kept hart m x = (m < harts_at_most) × Contains (exchanges_of (hart m).trail) x × IsOf (kept_at kept) (place_of x.grant.entry.slot) x.grant

abbrev pub slot_of : Exchange → ℕ
slot_of x = place_of x.grant.entry.slot

pub record SlotClauses (word : ℕ → ℕ) (kept : KeeperView) (hart : ℕ → HartView) : Type 0 where
  -- a slot's value is an allowed one, and leads nowhere or into a word that may be run
  pub allowed : (d : ℕ) → IsSlot (kept_at kept) d → IsAllowed (kept_at kept) (row_of kept) d (word (value_at d))
  pub leads : (d v : ℕ) → IsSlot (kept_at kept) d → IsAllowed (kept_at kept) (row_of kept) d v → LeadsTo (kept_at kept) v
  -- an exchange has the slot's lazy word; the slot has the word that it left, which is another
  pub lazy_is : (m : ℕ) (x : Exchange) → Made kept hart m x → x.grant.lazy ≡ (kept_at kept (slot_of x)).lazy
  pub left_by_winner : (m : ℕ) (x : Exchange) → Made kept hart m x → x.found ≡ x.grant.lazy → word (value_at (slot_of x)) ≡ x.grant.entry.value
  pub left_by_loser : (m : ℕ) (x : Exchange) → Made kept hart m x → x.found ≢ x.grant.lazy → word (value_at (slot_of x)) ≡ x.found
  pub not_lazy : (m : ℕ) (x : Exchange) → Made kept hart m x → word (value_at (slot_of x)) ≢ x.grant.lazy
  -- at most one exchange won a slot, and one did where the slot's word isn't its image's
  pub one : (m n : ℕ) (x y : Exchange) → Made kept hart m x → Made kept hart n y → slot_of x ≡ slot_of y
      → x.found ≡ x.grant.lazy → y.found ≡ y.grant.lazy → (m ≡ n) × (x.grant ≡ y.grant)
  pub some : (d : ℕ) → IsSlot (kept_at kept) d → word (value_at d) ≢ (kept_at kept d).value
      → (m : ℕ) × (x : Exchange) × Made kept hart m x × (slot_of x ≡ d) × (x.found ≡ x.grant.lazy) × (word (value_at d) ≡ x.grant.entry.value)
  -- what the keeper saw of a slot is there
  pub seen : (d x : ℕ) → IsSlot (kept_at kept) d → (kept_at kept d).fixed ≡ Some x → word (value_at d) ≡ x
  -- what the keeper knows of a grant is what its exchange found
  pub known_won : (m : ℕ) (g : Grant) → m < harts_at_most → IsWon (row_of kept m) g → HasWon (exchanges_of (hart m).trail) g
  pub known_lost : (m : ℕ) (g : Grant) → m < harts_at_most → IsLost (row_of kept m) g → HasLost (exchanges_of (hart m).trail) g
  pub known_found : (x : Loss) → Contains kept.losses x → Contains (exchanges_of (hart x.hart).trail) x.exchange

-- ---- the count

pub record CountClauses (word : ℕ → ℕ) (views : List View) (kept : KeeperView) (hart : ℕ → HartView) : Type 0 where
  pub counted : word count_at ≡ length kept.events
  pub heard : (m : ℕ) → BeginsWith kept.events (hart m).heard
  pub noted : (a : ℕ) (events : List Event) (slip : Slip) → get_elem? views a ≡ some (Note events slip) → BeginsWith kept.events events
  pub seen : (m : ℕ) → m < harts_at_most → (hart m).lane.seen ≤ length kept.events
  pub slot_since : (d : ℕ) → IsSlot (kept_at kept) d → (kept_at kept d).since ≤ length kept.events
  -- a hart that was found calling still is, its row awaits the answer, and it had seen no later count than that of the find
  pub known : (m c : ℕ) → m < harts_at_most → (row_of kept m).since ≡ Some c
      → ((hart m).lane.calling ≡ true) × Awaits (word (state_at m)) × ((hart m).lane.seen ≤ c) × (c ≤ length kept.events)
  -- the event in a row is newer than the count that its hart saw
  pub new : (m : ℕ) → m < harts_at_most → IsEvent (word (state_at m)) → (hart m).lane.seen < word (row_at m (index_of Number))

-- ---- rows

-- a hart has this grant, whose fate the keeper doesn't know
abbrev pub HasPending : KeeperView → ℕ → Grant → Type 0
HasPending kept m g = (m < harts_at_most) × ((row_of kept m).pending ≡ Some g)

-- a slot has the value of a grant that stands, another one than this grant of the hart
abbrev pub HasValueOfAnother : (ℕ → ℕ) → KeeperView → ℕ → ℕ → Grant → Type 0
HasValueOfAnother word kept d m g =
    (n : ℕ) × (p : Grant) × Stands (row_of kept n) p × IsOf (kept_at kept) d p × (word (value_at d) ≡ p.entry.value) × ((n ≢ m) ⊎ (p ≢ g))

pub record RowClauses (word : ℕ → ℕ) (kept : KeeperView) (hart : ℕ → HartView) : Type 0 where
  -- the words of a row are those that the keeper put there
  pub fields : (m : ℕ) → m < harts_at_most → (i : RowWord) → word (row_at m (index_of i)) ≡ field_of i (row_of kept m)
  -- a row is at rest outside calls; in a call it awaits the answer, or is the hart's own
  pub stage : (m : ℕ) → m < harts_at_most → Stage (word (state_at m)) (row_of kept m) (hart m).lane (hart m).lane.calling
  -- a row is open exactly with a grant whose fate isn't known, while it isn't given back
  pub open_row : (m : ℕ) → m < harts_at_most → word (state_at m) ≡ 3 → (g : Grant) × ((row_of kept m).pending ≡ Some g)
  pub pending : (m : ℕ) (g : Grant) → HasPending kept m g → let s = word (state_at m) in (s ≡ 3) ⊎ (s % 8 ≡ 4) ⊎ (s % 8 ≡ 5)
  -- such a grant is the row's; its slot is there with its lazy word, nobody has locked it, and its value is allowed there
  pub in_row : (m : ℕ) (g : Grant) → HasPending kept m g → g ≡ grant_in (row_of kept m)
  pub posted : (m : ℕ) (g : Grant) → HasPending kept m g → let d = place_of g.entry.slot in
      IsOf (kept_at kept) d g × (lock_bit (word (control_at d)) ≡ 0) × (g.lazy ≡ (kept_at kept d).lazy)
      × IsAllowed (kept_at kept) (row_of kept) d g.entry.value
  -- a row that says won: its exchange found the lazy word, and the slot has its value
  pub says_won : (m : ℕ) (g : Grant) → HasPending kept m g → word (state_at m) % 8 ≡ 4 → let d = place_of g.entry.slot in
      HasWon (exchanges_of (hart m).trail) g × (word (value_at d) ≡ g.entry.value)
  -- and no grant of that slot is known as won but this one
  pub won_alone : (m n : ℕ) (g p : Grant) → HasPending kept m g → n < harts_at_most → word (state_at m) % 8 ≡ 4
      → IsWon (row_of kept n) p → IsOf (kept_at kept) (place_of g.entry.slot) p → (n ≡ m) × (p ≡ g)
  -- a row that says lost: its exchange found another word, and the slot has its image's or the value of another grant that stands
  pub says_lost : (m : ℕ) (g : Grant) → HasPending kept m g → word (state_at m) % 8 ≡ 5 → let d = place_of g.entry.slot in
      HasLost (exchanges_of (hart m).trail) g × (word (value_at d) ≢ g.lazy)
      × ((word (value_at d) ≡ (kept_at kept d).value) ⊎ HasValueOfAnother word kept d m g)

-- ---- entries, and the generation

pub record EntryClauses (word : ℕ → ℕ) (kept : KeeperView) (hart : ℕ → HartView) : Type 0 where
  -- a hart has taken all that was issued to it, but for the entry in a row that is its own
  pub all_taken : (m : ℕ) → m < harts_at_most → ((hart m).lane.calling ≡ false) ⊎ Awaits (word (state_at m)) → (hart m).lane.taken ≡ (row_of kept m).issued
  pub last_issued : (m : ℕ) → m < harts_at_most → IsMark (word (state_at m))
      → (row_of kept m).issued ≡ (hart m).lane.taken ++ entry_of (word (state_at m)) (row_of kept m) ∷ []
  -- a trail has the entries that were taken, and at its end that of an exchange whose row the hart still has
  pub entries : (m : ℕ) → m < harts_at_most → entries_of (hart m).trail ≡ (hart m).lane.taken ++ tried_entry (hart m).lane.tried
  -- an exchange stands once in a trail, and is that of a grant of its hart
  pub once : (m : ℕ) → m < harts_at_most → Rising (exchanges_of (hart m).trail)
  pub granted : (m : ℕ) (x : Exchange) → m < harts_at_most → Contains (exchanges_of (hart m).trail) x → IsGrant (row_of kept m) x.grant
  -- the generation word is the keeper's, no entry is of a later one, nor is a reading in a trail, and each reading has the block of the
  -- last TLS answer before it of its generation and module
  pub current : word generation_at ≡ kept.generation
  pub not_later : (m : ℕ) → m < harts_at_most → NoneLater kept.generation (row_of kept m).issued
  pub readings : (m : ℕ) → m < harts_at_most → NoneAbove kept.generation (readings_of (hart m).trail)
  pub kept_answers : (m : ℕ) → m < harts_at_most → AllKept [] (hart m).trail

pub record Clauses (words : List ℕ) (views : List View) (kept : KeeperView) (hart : ℕ → HartView) : Type 0 where
  pub seats : SeatClauses views kept hart
  pub locks : LockClauses (slice_index words) kept hart
  pub slots : SlotClauses (slice_index words) kept hart
  pub counts : CountClauses (slice_index words) views kept hart
  pub rows : RowClauses (slice_index words) kept hart
  pub entries : EntryClauses (slice_index words) kept hart
