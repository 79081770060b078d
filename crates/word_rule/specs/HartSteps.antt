-- The steps of harts. A kind has a line in each of five tables: its word, what is done to the word, what the hart must know
-- before, its view after, and what the hart learns from the number.
use Rattle.std.specs.Prelude.{◌≡◌, ◌≢◌, ◌⊎◌, ℕ, ◌+◌, ◌%◌, ◌≤◌, Bool, true, false, cond, eqb, nat_lt, [], ◌∷◌, ◌++◌, length, Option, Some, None, Ok, Err, ◌==◌}
use Rattle.ld_base.specs.declared.fault.Shown.TheVariants.{Locked}
use Rattle.rv_hart.specs.Arithmetic.{combined}
use Rattle.rv_hart.specs.Buses.{IsSize, may_fetch, may_read, may_write}
use Rattle.rv_hart.specs.Doublewords.{lane as bytes_in, with_lane as with_bytes}
use Rattle.rv_hart.specs.declared.bus.BusFault.{BusFault}
use Rattle.rv_hart.specs.declared.bus.BusFault.TheVariants.{Role as RoleFault, Again}
use Rattle.rv_hart.specs.declared.bus.Item.{Item}
use Rattle.rv_hart.specs.declared.bus.Item.TheVariants as items
use Rattle.ld_base.specs.declared.linking.Role.{Role}
use Rattle.word_rule.specs.declared.entry.Exchange.{Exchange}
use Rattle.word_rule.specs.declared.entry.RowWord.{RowWord}
use Rattle.word_rule.specs.declared.entry.RowWord.TheVariants.{Slot}
use Rattle.word_rule.specs.declared.kind.Ask.{Ask}
use Rattle.word_rule.specs.declared.kind.Ask.TheVariants.{Load as Loads, Store as Stores}
use Rattle.word_rule.specs.declared.kind.LoadAsk.{LoadAsk}
use Rattle.word_rule.specs.declared.kind.LoadAsk.TheVariants.{Fetch, Read, Reserve}
use Rattle.word_rule.specs.declared.kind.StoreAsk.{StoreAsk}
use Rattle.word_rule.specs.declared.kind.StoreAsk.TheVariants.{Write, Amo, Conditional}
use Rattle.word_rule.specs.declared.kind.HartKind.{HartKind}
use Rattle.word_rule.specs.declared.kind.HartKind.TheVariants as kinds
use Rattle.word_rule.specs.declared.view.Access.{Access}
use Rattle.word_rule.specs.declared.view.HartView.{HartView}
use Rattle.word_rule.specs.declared.view.Lane.{Lane}
use Rattle.word_rule.specs.declared.view.Offer.{Offer}
use Rattle.word_rule.specs.declared.view.Told.{Told}
use Rattle.word_rule.specs.declared.view.TrailItem.{TrailItem}
use Rattle.word_rule.specs.declared.view.TrailItem.TheVariants.{Call, Took, Exchanged, Done, Generation as ReadGeneration}
use Rattle.word_rule.specs.Layout.{control_at, count_at, generation_at, index_of, quiet_at, row_at, state_at, value_at}
use Rattle.word_rule.specs.Layout.{IsDoubleword, IsInMemory, lock_bit, place_of, role_in, to_lock, version_in}
use Rattle.word_rule.specs.Views.{BeginsWith, IsRead, IsGranted, offer_found, offered, with_offered, known_of, last_block, NoneLater, nothing_locked}
use Rattle.word_rule.specs.Operations.{Op, load, store, exchange, add}

-- ---- what is asked of memory

abbrev pub load_address : LoadAsk → ℕ
load_address (Fetch a) = a
load_address (Read a size) = a
load_address (Reserve a size) = a

abbrev pub load_size : LoadAsk → ℕ
load_size (Fetch a) = 4
load_size (Read a size) = size
load_size (Reserve a size) = size

abbrev pub store_address : StoreAsk → ℕ
store_address (Write a size v) = a
store_address (Amo a size op v) = a
store_address (Conditional a size v version) = a

abbrev pub store_size : StoreAsk → ℕ
store_size (Write a size v) = size
store_size (Amo a size op v) = size
store_size (Conditional a size v version) = size

abbrev pub load_place : LoadAsk → ℕ
load_place ask = place_of (load_address ask)

abbrev pub store_place : StoreAsk → ℕ
store_place ask = place_of (store_address ask)

abbrev pub ask_place : Ask → ℕ
ask_place (Loads ask) = load_place ask
ask_place (Stores ask) = store_place ask

-- its bytes lie in one doubleword of guest memory
abbrev pub IsAsked : ℕ → ℕ → Type 0
IsAsked address size = IsInMemory address × IsSize size × (address % size ≡ 0)

abbrev pub Asked : Ask → Type 0
Asked (Loads ask) = IsAsked (load_address ask) (load_size ask)
Asked (Stores ask) = IsAsked (store_address ask) (store_size ask)

-- the roles that permit it
abbrev pub load_permits : LoadAsk → Role → Bool
load_permits (Fetch a) = may_fetch
load_permits (Read a size) = may_read
load_permits (Reserve a size) = may_read

abbrev pub permits : Ask → Role → Bool
permits (Loads ask) = load_permits ask
permits (Stores ask) = may_write

-- a conditional store fails where the doubleword has another version than the one that the reservation keeps
abbrev pub is_fresh : StoreAsk → ℕ → Bool
is_fresh (Conditional a size v version) control = version_in control == version
is_fresh (Write a size v) control = true
is_fresh (Amo a size op v) control = true

abbrev pub ask_is_fresh : Ask → ℕ → Bool
ask_is_fresh (Loads ask) control = true
ask_is_fresh (Stores ask) control = is_fresh ask control

-- ---- the items of an access

abbrev pub load_refused : LoadAsk → BusFault → Item
load_refused (Fetch a) fault = items.Fetch a (Err fault)
load_refused (Read a size) fault = items.Read a size (Err fault)
load_refused (Reserve a size) fault = items.Reserve a size (Err fault)

abbrev pub store_refused : StoreAsk → BusFault → Item
store_refused (Write a size v) fault = items.Write a size v (Err fault)
store_refused (Amo a size op v) fault = items.Amo a size op v (Err fault)
store_refused (Conditional a size v version) fault = items.Conditional a size v version (Err fault)

abbrev pub refused : Ask → BusFault → Item
refused (Loads ask) fault = load_refused ask fault
refused (Stores ask) fault = store_refused ask fault

-- a conditional store that fails; no other store does
abbrev pub failed : Ask → Item
failed (Stores (Conditional a size v version)) = items.Conditional a size v version (Ok false)
failed ask = refused ask (Again (Locked 0 0))

-- of a load: the control word and the value that were found
abbrev pub loaded : LoadAsk → ℕ → ℕ → Item
loaded (Fetch a) control value = items.Fetch a (Ok (bytes_in value a 4))
loaded (Read a size) control value = items.Read a size (Ok (bytes_in value a size))
loaded (Reserve a size) control value = items.Reserve a size (Ok (bytes_in value a size, version_in control))

-- of a store: the value that was there before
abbrev pub stored : StoreAsk → ℕ → Item
stored (Write a size v) value = items.Write a size v (Ok tt)
stored (Amo a size op v) value = items.Amo a size op v (Ok (bytes_in value a size))
stored (Conditional a size v version) value = items.Conditional a size v version (Ok true)

-- the value that it leaves
abbrev pub made : StoreAsk → ℕ → ℕ
made (Write a size v) value = with_bytes value a size v
made (Amo a size op v) value = with_bytes value a size (combined op size (bytes_in value a size) v)
made (Conditional a size v version) value = with_bytes value a size v

-- a store of a whole doubleword need not know what was there
abbrev pub IsWhole : StoreAsk → ℕ → Type 0
IsWhole (Write a size v) x = (size ≡ 8) × (x ≡ v)
IsWhole (Amo a size op v) x = ⊥
IsWhole (Conditional a size v version) x = (size ≡ 8) × (x ≡ v)

abbrev pub Makes : StoreAsk → Option ℕ → ℕ → Type 0
Makes ask held x = ((value : ℕ) × (held ≡ Some value) × (x ≡ made ask value)) ⊎ IsWhole ask x

-- ---- views

abbrev pub or_zero : Option ℕ → ℕ
or_zero None = 0
or_zero (Some n) = n

abbrev pub last_control : Option (ℕ × ℕ) → ℕ
last_control None = 0
last_control (Some p) = p.1

-- what is kept of a note ends
abbrev pub heeded : HartView → HartView
heeded h = record h { note = None }

abbrev pub with_access : Access → HartView → HartView
with_access a h = record h { access = a }

abbrev pub with_lane_of : Lane → HartView → HartView
with_lane_of l h = record h { lane = l }

abbrev pub entered : TrailItem → HartView → HartView
entered item h = record h { trail = h.trail ++ item ∷ [] }

-- an access that ends without its step on the value
abbrev pub given_up : Item → HartView → HartView
given_up item h = entered (Call item) (with_access nothing_locked h)

-- a control word is found: it is locked, or its role permits no such access, or its version is another one; or the access goes on
abbrev pub glanced : Ask → ℕ → Bool → Bool → Bool → HartView → HartView
glanced ask control true may fresh h = given_up (refused ask (Again (Locked control control))) h
glanced ask control false false fresh h = given_up (refused ask (RoleFault (role_in control))) h
glanced ask control false true false h = given_up (failed ask) h
glanced ask control false true true h = with_access (record { locked = None; held = None; last = Some (ask_place ask, control) }) h

abbrev pub looked : Ask → ℕ → HartView → HartView
looked ask control h = glanced ask control (lock_bit control == 1) (permits ask (role_in control)) (ask_is_fresh ask control) h

abbrev pub locked_if : StoreAsk → ℕ → ℕ → Bool → HartView → HartView
locked_if ask control found true h = with_access (record { locked = Some (store_place ask); held = None; last = Some (store_place ask, control) }) h
locked_if ask control found false h = given_up (store_refused ask (Again (Locked control found))) h

abbrev pub arrived_if : ℕ → Bool → Lane → Lane
arrived_if state true l = record l { found = state; offer = Some (offer_found state l.offer) }
arrived_if state false l = record l { found = state }

abbrev pub found_in : RowWord → ℕ → Option Offer → Option Offer
found_in i n None = None
found_in i n (Some o) = Some (with_offered i n o)

-- the entry of the grant whose exchange was made is taken
abbrev pub finished : Option Exchange → Lane → Lane
finished None l = l
finished (Some x) l = record l { calling = false; taken = l.taken ++ x.grant.entry ∷ []; offer = None; tried = None }

-- ---- the table

abbrev pub hart_word : HartKind → ℕ
hart_word (kinds.Look ask) = control_at (ask_place ask)
hart_word (kinds.Load ask) = value_at (load_place ask)
hart_word (kinds.Hold ask) = value_at (store_place ask)
hart_word (kinds.Lock ask control) = control_at (store_place ask)
hart_word (kinds.Store ask x) = value_at (store_place ask)
hart_word (kinds.Unlock d) = control_at d
hart_word kinds.Tally = count_at
hart_word (kinds.Begin m) = state_at m
hart_word (kinds.Arrive m) = state_at m
hart_word (kinds.Find m i) = row_at m (index_of i)
hart_word (kinds.Exchange g) = value_at (place_of g.entry.slot)
hart_word (kinds.Accept m e) = state_at m
hart_word (kinds.Finish m won) = state_at m
hart_word (kinds.Generation number) = generation_at
hart_word kinds.Listen = quiet_at

abbrev pub hart_op : HartKind → Op
hart_op (kinds.Look ask) = load
hart_op (kinds.Load ask) = load
hart_op (kinds.Hold ask) = load
hart_op (kinds.Lock ask control) = exchange control (control + to_lock)
hart_op (kinds.Store ask x) = store x
hart_op (kinds.Unlock d) = add to_lock
hart_op kinds.Tally = load
hart_op (kinds.Begin m) = add 8
hart_op (kinds.Arrive m) = load
hart_op (kinds.Find m i) = load
hart_op (kinds.Exchange g) = exchange g.lazy g.entry.value
hart_op (kinds.Accept m e) = store 0
hart_op (kinds.Finish m won) = store (cond won 4 5)
hart_op (kinds.Generation number) = load
hart_op kinds.Listen = load

-- what the hart must know before the step
abbrev pub HartReady : HartKind → HartView → Type 0
HartReady (kinds.Look ask) h = Asked ask × (h.access.locked ≡ None) × (h.access.last ≡ None)
HartReady (kinds.Load ask) h =
    IsAsked (load_address ask) (load_size ask) × (h.access.locked ≡ None)
    × ((control : ℕ) × (h.access.last ≡ Some (load_place ask, control)) × (lock_bit control ≡ 0) × (load_permits ask (role_in control) ≡ true))
HartReady (kinds.Hold ask) h = h.access.locked ≡ Some (store_place ask)
HartReady (kinds.Lock ask control) h =
    IsAsked (store_address ask) (store_size ask) × (h.access.locked ≡ None) × (h.access.last ≡ Some (store_place ask, control)) × (lock_bit control ≡ 0)
    × (may_write (role_in control) ≡ true) × (is_fresh ask control ≡ true)
HartReady (kinds.Store ask x) h =
    (h.access.locked ≡ Some (store_place ask)) × Makes ask h.access.held x
    × ((control : ℕ) × (h.access.last ≡ Some (store_place ask, control)) × (is_fresh ask control ≡ true)) × IsAsked (store_address ask) (store_size ask)
HartReady (kinds.Unlock d) h = (h.access.locked ≡ Some d) × (h.access.last ≡ None)
HartReady kinds.Tally h = h.lane.calling ≡ false
HartReady (kinds.Begin m) h = (m ≡ h.number) × (h.lane.calling ≡ false)
HartReady (kinds.Arrive m) h = (m ≡ h.number) × (h.lane.calling ≡ true)
HartReady (kinds.Find m i) h = (m ≡ h.number) × ((o : Offer) × (h.lane.offer ≡ Some o))
HartReady (kinds.Exchange g) h = (h.lane.tried ≡ None) × (g.entry.mark ≡ 3) × ((o : Offer) × (h.lane.offer ≡ Some o) × IsGranted o g)
HartReady (kinds.Accept m e) h = (m ≡ h.number) × (e.mark ≢ 3) × ((o : Offer) × (h.lane.offer ≡ Some o) × IsRead o e)
HartReady (kinds.Finish m won) h = (m ≡ h.number) × ((x : Exchange) × (h.lane.tried ≡ Some x) × (won ≡ eqb x.found x.grant.lazy))
HartReady (kinds.Generation number) h = Unit {0}
HartReady kinds.Listen h = Unit {0}

-- its view after, by the number found. Each step ends what is kept of a note
abbrev pub hart_after : HartKind → HartView → ℕ → HartView
hart_after (kinds.Look ask) h n = looked ask n (heeded h)
hart_after (kinds.Load ask) h n = entered (Call (loaded ask (last_control h.access.last) n)) (with_access nothing_locked (heeded h))
hart_after (kinds.Hold ask) h n = with_access (record h.access { held = Some n }) (heeded h)
hart_after (kinds.Lock ask control) h n = locked_if ask control n (eqb n control) (heeded h)
hart_after (kinds.Store ask x) h n =
    entered (Call (stored ask (or_zero h.access.held))) (with_access (record h.access { held = Some x; last = None }) (heeded h))
hart_after (kinds.Unlock d) h n = with_access nothing_locked (heeded h)
hart_after kinds.Tally h n = with_lane_of (record h.lane { seen = n }) (heeded h)
hart_after (kinds.Begin m) h n = with_lane_of (record h.lane { calling = true }) (heeded h)
hart_after (kinds.Arrive m) h n = with_lane_of (arrived_if n (nat_lt n 8) h.lane) (heeded h)
hart_after (kinds.Find m i) h n = with_lane_of (record h.lane { offer = found_in i n h.lane.offer }) (heeded h)
hart_after (kinds.Exchange g) h n =
    let x : Exchange = record { grant = g; found = n } in entered (Exchanged x) (with_lane_of (record h.lane { tried = Some x }) (heeded h))
hart_after (kinds.Accept m e) h n = entered (Took e) (with_lane_of (record h.lane { calling = false; taken = h.lane.taken ++ e ∷ []; offer = None }) (heeded h))
hart_after (kinds.Finish m won) h n = entered Done (with_lane_of (finished h.lane.tried h.lane) (heeded h))
hart_after (kinds.Generation number) h n = entered (ReadGeneration n number (last_block n number h.lane.taken)) (heeded h)
hart_after kinds.Listen h n = heeded h

-- the kinds that leave what the hart has locked as it is, and what it keeps of an access
abbrev pub HartLeaves : HartKind → Type 0
HartLeaves (kinds.Look ask) = ⊥
HartLeaves (kinds.Load ask) = ⊥
HartLeaves (kinds.Hold ask) = ⊥
HartLeaves (kinds.Lock ask control) = ⊥
HartLeaves (kinds.Store ask x) = ⊥
HartLeaves (kinds.Unlock d) = ⊥
HartLeaves _ = Unit {0}

-- ---- what the rule tells

-- a row that is the hart's to read has one of these states
abbrev pub IsMark : ℕ → Type 0
IsMark state = (state ≡ 1) ⊎ (state ≡ 2) ⊎ (state ≡ 3) ⊎ (state ≡ 6)

-- a row that awaits an answer is one at rest, and has 8 more
abbrev pub Awaits : ℕ → Type 0
Awaits state = (state ≡ 8) ⊎ (state ≡ 12) ⊎ (state ≡ 13)

-- the lazy word that a hart has read of its row is the one that it is told, where the told entries are all that it knows of
abbrev pub LazyIsTold : Told → Lane → Type 0
LazyIsTold t lane = (o : Offer) (x : ℕ) → known_of lane ≡ t.entries → lane.offer ≡ Some o → o.lazy ≡ Some x → x ≡ t.lazy

-- what a hart keeps of a note is true
abbrev pub HartHeard : Option Told → HartView → Type 0
HartHeard None h = Unit {0}
HartHeard (Some t) h = BeginsWith h.heard t.had × BeginsWith h.heard t.told × BeginsWith (known_of h.lane) t.entries × LazyIsTold t h.lane

-- a grant's slot is a doubleword of guest memory
abbrev pub FindTells : RowWord → Option Offer → ℕ → Type 0
FindTells Slot (Some o) n = o.mark ≡ 3 → IsDoubleword n
FindTells _ _ n = Unit {0}

-- a state that is found again, and a word that is read again, are those that were found
abbrev pub StateAgain : Option Offer → ℕ → Type 0
StateAgain offer n = (o : Offer) → offer ≡ Some o → (n ≡ o.mark) × IsMark n

abbrev pub WordAgain : RowWord → Option Offer → ℕ → Type 0
WordAgain i offer n = (o : Offer) (x : ℕ) → offer ≡ Some o → offered i o ≡ Some x → n ≡ x

abbrev pub HartLearns : HartKind → HartView → ℕ → Type 0
HartLearns kinds.Tally h n = length h.heard ≤ n
HartLearns (kinds.Arrive m) h n = (Awaits n ⊎ IsMark n) × StateAgain h.lane.offer n
HartLearns (kinds.Find m i) h n = FindTells i h.lane.offer n × WordAgain i h.lane.offer n
HartLearns (kinds.Generation number) h n = NoneLater n (known_of h.lane)
HartLearns kinds.Listen h n = HartHeard h.note h
HartLearns _ h n = Unit {0}
