-- What the keeper keeps whenever its lock is free, of its own view and the journal. For the type behind the lock.
use Rattle.std.specs.Prelude.{◌≡◌, ◌≢◌, ℕ, ◌≤◌, ◌<◌, false, List, length, take, Some, Contains}
use Rattle.std.specs.List.{slice_get}
use Rattle.history_event.specs.declared.event.Event.{Event}
use Rattle.history_event.specs.declared.event.Event.TheVariants.{Bound, Lost, Unmapped}
use Rattle.history_event.specs.declared.state.Granting.{Granting}
use Rattle.history_event.specs.declared.state.Standing.TheVariants.{Lost as LostStanding}
use Rattle.word_rule.specs.declared.entry.Grant.{Grant}
use Rattle.word_rule.specs.declared.view.Fate.{Fate}
use Rattle.word_rule.specs.declared.view.Fate.TheVariants.{Lost as LostFate, Won}
use Rattle.word_rule.specs.declared.view.KeeperView.{KeeperView}
use Rattle.word_rule.specs.declared.view.Loss.{Loss}
use Rattle.word_rule.specs.Allowed.{IsLost, IsOf, IsSlot}
use Rattle.word_rule.specs.Layout.{harts_at_most, place_of}
use Rattle.word_rule.specs.Slots.{IsGrant}
use Rattle.word_rule.specs.Views.{BeginsWith, IsLong, kept_at, row_of}
use Rattle.history_state.specs.After.{after}
use Rattle.history_state.specs.Objects.{IsMapped, is_startup}
use Rattle.history_state.specs.Legal.{Legal, Settled}
use Rattle.history_state.specs.Setting.{Setting}
use Rattle.history_state.specs.State.{Linked, State}
use Rattle.history_memory.specs.Holds.{IsSlotAt}
use Rattle.history_memory.specs.Memory.{IsDoubleword}
use Rattle.hart_trails.specs.Owners.{AreOfHarts}
use Rattle.word_holds.specs.Shared.{IsOfState}
use Rattle.kept_words.specs.Gone.{HaveGone}
use Rattle.kept_words.specs.Handed.{AreHanded, AreIssued}
use Rattle.kept_words.specs.Staying.{HaveEvents, IsGrantEvent, number_in}

-- the event by which a grant of this number got its fate
pub data IsFateEvent (n : ℕ) : Fate → Event → Type 0 where
  as_won : IsFateEvent n Won (Bound n)
  as_lost : (saw : ℕ) → IsFateEvent n LostFate (Lost n saw)

-- an event that shows a word shows the one that was seen of this lost grant's slot
abbrev pub ShowsLoss : List Loss → ℕ → Grant → Event → Type 0
ShowsLoss losses m g e = (n saw : ℕ) → e ≡ Lost n saw → Contains losses (record { hart = m; exchange = record { grant = g; found = saw } })

-- each grant of a row is an event, and the fates of those that are known are the events that settle grants, each of
-- which shows what was seen
pub record HaveFates (k : KeeperView) : Type 0 where
  pub entered : (m : ℕ) (g : Grant) → m < harts_at_most → IsGrant (row_of k m) g → IsGrantEvent k.events m g
  pub fated : (m : ℕ) (g : Grant) (f : Fate) → m < harts_at_most → Contains (row_of k m).settled (record { grant = g; fate = f })
      → (e : Event) × Contains k.events e × IsFateEvent (number_in k.events m g) f e × ShowsLoss k.losses m g e
  pub known : (n : ℕ) (f : Fate) (e : Event) → Contains k.events e → IsFateEvent n f e
      → (m : ℕ) × (g : Grant) × (m < harts_at_most) × Contains (row_of k m).settled (record { grant = g; fate = f }) × (number_in k.events m g ≡ n)
      × ShowsLoss k.losses m g e

-- of each hart's grants: none is newer than the journal, nor is a slot's role; the slot of one whose fate isn't known is there; and of one that
-- is known as lost, while its slot is there, the word that was seen in the slot is the one that its event shows
pub record AreRows (k : KeeperView) : Type 0 where
  pub since : (d : ℕ) → IsSlot (kept_at k) d → (kept_at k d).since ≤ length k.events
  pub pending : (m : ℕ) (g : Grant) → m < harts_at_most → (row_of k m).pending ≡ Some g → IsOf (kept_at k) (place_of g.entry.slot) g
  pub fates : HaveFates k
  pub counted : (m : ℕ) (g : Grant) → m < harts_at_most → IsGrant (row_of k m) g → g.entry.number ≤ length k.events
  pub lost : (m : ℕ) (g : Grant) → m < harts_at_most → IsLost (row_of k m) g → IsOf (kept_at k) (place_of g.entry.slot) g
      → (saw : ℕ) × ((kept_at k (place_of g.entry.slot)).fixed ≡ Some saw) × Contains k.events (Lost (number_in k.events m g) saw)

-- of a slot a lost grant has seen this word, which stays: it is the first one where that isn't the lazy word
pub record IsSeen (k : KeeperView) (a saw : ℕ) : Type 0 where
  pub hart : ℕ
  pub grant : Grant
  pub low : hart < harts_at_most
  pub lost : IsLost (row_of k hart) grant
  pub of : IsOf (kept_at k) (place_of a) grant
  pub fixed : (kept_at k (place_of a)).fixed ≡ Some saw
  pub bound : (kept_at k (place_of a)).value ≢ (kept_at k (place_of a)).lazy → saw ≡ (kept_at k (place_of a)).value

-- the slot of a lost grant, and that its word was seen
pub record HasSeen (s : State) (k : KeeperView) (owner slot saw : ℕ) : Type 0 where
  pub address : ℕ
  pub word : IsDoubleword address
  pub at : IsSlotAt s address owner slot
  pub seen : IsSeen k address saw

-- each grant of the state that is lost, while its owner's image is there, has seen the word that it shows
abbrev pub LostHaveSeen : State → KeeperView → Type 0
LostHaveSeen s k = (x : Granting) (saw : ℕ) (i : Linked) → Contains s.grants x → x.standing ≡ LostStanding saw → Contains s.images i → i.serial ≡ x.owner
    → HasSeen s k x.owner x.slot saw

-- what each lost grant of a mapped one of these objects saw is the value of its slot
abbrev pub AreSettled : State → List ℕ → Type 0
AreSettled s set = (g : Granting) (saw : ℕ) → Contains s.grants g → g.standing ≡ LostStanding saw → IsMapped s g.owner → Contains set g.owner → Settled s g saw

-- so it was before each unmapping, of the objects that went
abbrev pub WereSettled : List Event → Type 0
WereSettled journal = (n hart : ℕ) (set : List ℕ) → slice_get journal n ≡ Some (Unmapped hart set) → AreSettled (after (take n journal)) set

-- `begun` is what the journal had when the harts' seats were made
pub record AreKept (w : Setting) (begun : List Event) (k : KeeperView) : Type 0 where
  pub few : w.machine.harts ≤ harts_at_most
  pub harts : k.harts ≡ w.machine.harts
  pub long : IsLong k
  -- the journal is a legal history, behind startup, whose events are those of harts of the machine, or nobody's
  pub legal : Legal w k.events
  pub started : is_startup (after k.events) ≡ false
  pub begins : BeginsWith k.events begun
  pub own : AreOfHarts w k.events
  -- roles, words and grants are those of its state, and so is the generation
  pub words : IsOfState (after k.events) k (number_in k.events)
  pub generation : k.generation ≡ (after k.events).generation
  -- each grant that stands is an event, and rows say what became of the others
  pub granted : HaveEvents k.events k
  pub rows : AreRows k
  pub seen : LostHaveSeen (after k.events) k
  pub settled : WereSettled k.events
  -- the roles that went are those that the journal took away, in order
  pub gone : HaveGone k.events k.retired
  -- each entry that a hart was handed is true of the journal, and they are its events since the seats were made
  pub issued : AreIssued w k
  pub handed : AreHanded begun k
