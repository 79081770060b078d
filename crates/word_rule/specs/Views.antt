-- What is read of views.
use Rattle.std.specs.Prelude.{◌≡◌, ℕ, ◌≤◌, Bool, true, false, ◌&&◌, cond, eqb, List, [], ◌∷◌, ◌++◌, length, Option, Some, None, Contains, slice_index_or, if◌then◌else◌, ◌==◌}
use Rattle.std.specs.List.{flat_map}
use Rattle.ld_base.specs.declared.linking.Role.TheVariants.{None as NoRole}
use Rattle.word_rule.specs.declared.entry.Entry.{Entry}
use Rattle.word_rule.specs.declared.entry.Grant.{Grant}
use Rattle.word_rule.specs.declared.entry.Exchange.{Exchange}
use Rattle.word_rule.specs.declared.entry.RowWord.{RowWord}
use Rattle.word_rule.specs.declared.entry.RowWord.TheVariants.{Number, Slot, Lazy, Value, Generation}
use Rattle.word_rule.specs.declared.view.Access.{Access}
use Rattle.word_rule.specs.declared.view.HartView.{HartView}
use Rattle.word_rule.specs.declared.view.KeeperView.{KeeperView}
use Rattle.word_rule.specs.declared.view.Kept.{Kept}
use Rattle.word_rule.specs.declared.view.Lane.{Lane}
use Rattle.word_rule.specs.declared.view.Offer.{Offer}
use Rattle.word_rule.specs.declared.view.Row.{Row}
use Rattle.word_rule.specs.declared.view.TrailItem.{TrailItem}
use Rattle.word_rule.specs.declared.view.TrailItem.TheVariants.{Call, Took, Exchanged, Done, Generation as ReadGeneration}
use Rattle.word_rule.specs.Layout.{doublewords, harts_at_most, IsDoubleword}

-- ---- functions of a number

-- f, but a at i
abbrev pub put : {A : Type 0} → (ℕ → A) → ℕ → A → ℕ → A
put f i a j = cond (eqb j i) a (f j)

-- g of each value of f
abbrev pub after : {A B : Type 0} → (A → B) → (ℕ → A) → ℕ → B
after g f j = g (f j)

-- ---- lists

-- the first list begins with the second
abbrev pub BeginsWith : {A : Type 0} → List A → List A → Type 0
BeginsWith {A} xs ys = (rest : List A) × (xs ≡ ys ++ rest)

-- the longer of two lists, of which one begins the other
abbrev pub longer : {A : Type 0} → List A → List A → List A
longer [] ys = ys
longer (x ∷ xs) [] = x ∷ xs
longer (x ∷ xs) (y ∷ ys) = x ∷ longer xs ys

-- ---- the keeper's knowledge of doublewords and rows

abbrev pub unmapped : Kept
unmapped = record { role = NoRole; value = 0; lazy = 0; since = 0; fixed = None }

abbrev pub kept_at : KeeperView → ℕ → Kept
kept_at k d = slice_index_or k.words d unmapped

-- the keeper knows of each doubleword, and of each row
abbrev pub IsLong : KeeperView → Type 0
IsLong k = (length k.words ≡ doublewords) × (length k.rows ≡ harts_at_most)

abbrev pub no_row : Row
no_row = record { number = 0; slot = 0; lazy = 0; value = 0; generation = 0; issued = []; since = None; pending = None; settled = []; found_open = false }

abbrev pub row_of : KeeperView → ℕ → Row
row_of k hart = slice_index_or k.rows hart no_row

abbrev pub field_of : RowWord → Row → ℕ
field_of Number row = row.number
field_of Slot row = row.slot
field_of Lazy row = row.lazy
field_of Value row = row.value
field_of Generation row = row.generation

abbrev pub with_field : RowWord → ℕ → Row → Row
with_field Number x row = record row { number = x }
with_field Slot x row = record row { slot = x }
with_field Lazy x row = record row { lazy = x }
with_field Value x row = record row { value = x }
with_field Generation x row = record row { generation = x }

-- the entry that a row holds under a mark, and its grant
abbrev pub entry_of : ℕ → Row → Entry
entry_of mark row = record { mark = mark; number = row.number; slot = row.slot; value = row.value; generation = row.generation }

abbrev pub grant_in : Row → Grant
grant_in row = record { entry = entry_of 3 row; lazy = row.lazy }

-- ---- what a hart knows of its row

abbrev pub fresh_offer : ℕ → Offer
fresh_offer mark = record { mark = mark; number = None; slot = None; lazy = None; value = None; generation = None }

abbrev pub offered : RowWord → Offer → Option ℕ
offered Number o = o.number
offered Slot o = o.slot
offered Lazy o = o.lazy
offered Value o = o.value
offered Generation o = o.generation

abbrev pub with_offered : RowWord → ℕ → Offer → Offer
with_offered Number x o = record o { number = Some x }
with_offered Slot x o = record o { slot = Some x }
with_offered Lazy x o = record o { lazy = Some x }
with_offered Value x o = record o { value = Some x }
with_offered Generation x o = record o { generation = Some x }

-- the hart has read this entry, or this grant, in full
pub record IsRead (o : Offer) (e : Entry) : Type 0 where
  pub mark_is : o.mark ≡ e.mark
  pub number_is : o.number ≡ Some e.number
  pub slot_is : o.slot ≡ Some e.slot
  pub value_is : o.value ≡ Some e.value
  pub generation_is : o.generation ≡ Some e.generation

abbrev pub IsGranted : Offer → Grant → Type 0
IsGranted o g = IsRead o g.entry × (o.lazy ≡ Some g.lazy)

-- the entry that is read in full, as a list
abbrev pub read_with : ℕ → Option ℕ → Option ℕ → Option ℕ → Option ℕ → List Entry
read_with mark (Some n) (Some s) (Some v) (Some g) = record { mark = mark; number = n; slot = s; value = v; generation = g } ∷ []
read_with mark _ _ _ _ = []

abbrev pub read_of : Option Offer → List Entry
read_of None = []
read_of (Some o) = read_with o.mark o.number o.slot o.value o.generation

-- the entries that a hart knows to be issued to it
abbrev pub known_of : Lane → List Entry
known_of lane = lane.taken ++ read_of lane.offer

-- none of these entries is of a later generation
abbrev pub NoneLater : ℕ → List Entry → Type 0
NoneLater generation entries = (e : Entry) → Contains entries e → e.generation ≤ generation

abbrev pub tried_entry : Option Exchange → List Entry
tried_entry None = []
tried_entry (Some x) = x.grant.entry ∷ []

-- a row is found its hart's own: what was read of it before stays
abbrev pub offer_found : ℕ → Option Offer → Offer
offer_found mark None = fresh_offer mark
offer_found mark (Some o) = o

-- what a hart's own view says of its calls: outside a call it has no offer, an offer's mark is the state found last, an exchange is
-- that of a grant in its row, and such a grant's slot is a doubleword of guest memory
pub record IsLane (lane : Lane) : Type 0 where
  pub idle : lane.calling ≡ false → lane.offer ≡ None
  pub found : (o : Offer) → lane.offer ≡ Some o → o.mark ≡ lane.found
  pub tried : (x : Exchange) → lane.tried ≡ Some x → (o : Offer) × (lane.offer ≡ Some o) × (o.mark ≡ 3)
  pub slot : (o : Offer) (s : ℕ) → lane.offer ≡ Some o → o.mark ≡ 3 → o.slot ≡ Some s → IsDoubleword s

-- ---- trails

abbrev pub entries_by : TrailItem → List Entry
entries_by (Call item) = []
entries_by (Took e) = e ∷ []
entries_by (Exchanged x) = x.grant.entry ∷ []
entries_by Done = []
entries_by (ReadGeneration g m b) = []

abbrev pub entries_of : List TrailItem → List Entry
entries_of trail = flat_map entries_by trail

abbrev pub exchanges_by : TrailItem → List Exchange
exchanges_by (Exchanged x) = x ∷ []
exchanges_by _ = []

abbrev pub exchanges_of : List TrailItem → List Exchange
exchanges_of trail = flat_map exchanges_by trail

-- the generations that were read
abbrev pub readings_by : TrailItem → List ℕ
readings_by (ReadGeneration generation number block) = generation ∷ []
readings_by _ = []

abbrev pub readings_of : List TrailItem → List ℕ
readings_of trail = flat_map readings_by trail

-- none of them is above this one
abbrev pub NoneAbove : ℕ → List ℕ → Type 0
NoneAbove generation readings = (n : ℕ) → Contains readings n → n ≤ generation

-- an answer on thread-local storage: mark 2, or an event with a module
abbrev pub is_block : ℕ → ℕ → Entry → Bool
is_block generation number e =
    (e.slot == number) && (e.generation == generation)
    && (if e.mark == 2 then true else (if e.mark == 1 then (if e.slot == 0 then false else true) else false))

-- the last entry that is such an answer has the block
abbrev pub later_block : Option ℕ → Bool → ℕ → Option ℕ
later_block (Some b) is v = Some b
later_block None true v = Some v
later_block None false v = None

abbrev pub last_block : ℕ → ℕ → List Entry → Option ℕ
last_block generation number [] = None
last_block generation number (e ∷ es) = later_block (last_block generation number es) (is_block generation number e) e.value

-- ---- views at the start

abbrev pub nothing_locked : Access
nothing_locked = record { locked = None; held = None; last = None }

abbrev pub first_lane : Lane
first_lane = record { calling = false; seen = 0; found = 0; taken = []; offer = None; tried = None }

abbrev pub first_hart : ℕ → HartView
first_hart number = record { number = number; heard = []; access = nothing_locked; lane = first_lane; trail = []; note = None }
