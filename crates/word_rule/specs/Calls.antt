-- Calls and rows.
use Rattle.std.specs.Prelude.{◌≡◌, ◌⊎◌, ℕ, ◌≤◌, ◌<◌, Bool, true, false, List, [], ◌∷◌, ◌++◌, Some, None}
use Rattle.word_rule.specs.declared.entry.Entry.{Entry}
use Rattle.word_rule.specs.declared.entry.RowWord.{RowWord}
use Rattle.word_rule.specs.declared.entry.Exchange.{Exchange}
use Rattle.word_rule.specs.declared.view.Lane.{Lane}
use Rattle.word_rule.specs.declared.view.Offer.{Offer}
use Rattle.word_rule.specs.declared.view.Row.{Row}
use Rattle.word_rule.specs.Layout.{count_at, harts_at_most, row_at, state_at, index_of}
use Rattle.word_rule.specs.Views.{entry_of, field_of, grant_in, offered, tried_entry}
use Rattle.word_rule.specs.HartSteps.{Awaits, IsMark}

-- a row at rest is taken, won or lost
abbrev pub Rests : ℕ → Type 0
Rests state = (state ≡ 0) ⊎ (state ≡ 4) ⊎ (state ≡ 5)

-- marks of events: their numbers are new to the hart
abbrev pub IsEvent : ℕ → Type 0
IsEvent mark = (mark ≡ 1) ⊎ (mark ≡ 3)

-- nothing of the row is the hart's: all that was issued is taken
pub record Still (row : Row) (lane : Lane) : Type 0 where
  pub all : lane.taken ≡ row.issued
  pub no_offer : lane.offer ≡ None
  pub no_try : lane.tried ≡ None

-- the row's entry is the hart's: it is the last one issued
pub record Answered (state : ℕ) (row : Row) (lane : Lane) : Type 0 where
  pub mark : IsMark state
  pub last : row.issued ≡ lane.taken ++ entry_of state row ∷ []
  pub new : IsEvent state → lane.seen < row.number
  pub offer : (o : Offer) → lane.offer ≡ Some o → (o.mark ≡ state) × ((i : RowWord) (x : ℕ) → offered i o ≡ Some x → x ≡ field_of i row)
  pub tried : (x : Exchange) → lane.tried ≡ Some x → (state ≡ 3) × (x.grant ≡ grant_in row) × ((o : Offer) × (lane.offer ≡ Some o))

-- the hart is known to call: it calls, and no entry so far is newer
pub record Known (state c count : ℕ) (row : Row) (lane : Lane) : Type 0 where
  pub awaits : Awaits state
  pub seen : lane.seen ≤ c
  pub counted : c ≤ count

-- where a hart's calls stand
abbrev pub Stage : ℕ → Row → Lane → Bool → Type 0
Stage state row lane false = Rests state × Still row lane
Stage state row lane true = (Awaits state × Still row lane) ⊎ Answered state row lane

-- of a hart's row: the words are those that the keeper knows
pub record RowIs (word : ℕ → ℕ) (count m : ℕ) (row : Row) (lane : Lane) (entries : List Entry) : Type 0 where
  pub fields : (i : RowWord) → word (row_at m (index_of i)) ≡ field_of i row
  pub stage : Stage (word (state_at m)) row lane lane.calling
  pub known : (c : ℕ) → row.since ≡ Some c → Known (word (state_at m)) c count row lane
  pub seen : lane.seen ≤ count
  -- the trail has the entries that were taken, and at its end that of an exchange whose row the hart still has
  pub trail : entries ≡ lane.taken ++ tried_entry lane.tried

pub record Calls (word : ℕ → ℕ) (count : ℕ) (row : ℕ → Row) (lane : ℕ → Lane) (entries : ℕ → List Entry) : Type 0 where
  pub counted : word count_at ≡ count
  pub each_row : (m : ℕ) → m < harts_at_most → RowIs word count m (row m) (lane m) (entries m)
