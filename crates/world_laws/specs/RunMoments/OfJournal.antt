-- What is true of a journal alone, on one thread and on many: its history, its choices, its thread-local storage and its closings.
use Rattle.std.specs.Prelude.{◌≡◌, ◌≢◌, ℕ, ◌+◌, ◌^◌, ◌%◌, List, ◌++◌, length, take, Some, None, Contains, IsTrue}
use Rattle.std.specs.List.{slice_get}
use Rattle.ld_base.specs.declared.linking.Choice.{Choice}
use Rattle.ld_base.specs.declared.linking.Choice.TheVariants.{Def, Missing, WeakZero}
use Rattle.ld_base.specs.declared.linking.Loaded.{Loaded}
use Rattle.ld_base.specs.declared.linking.Role.TheVariants.{Rx}
use Rattle.ld_base.specs.declared.object.Reloc.{Reloc}
use Rattle.history_event.specs.declared.event.CloseAnswer.TheVariants as closings
use Rattle.history_event.specs.declared.event.Event.{Event}
use Rattle.history_event.specs.declared.event.Event.TheVariants.{Close, Grant, Open, Sym}
use Rattle.history_event.specs.declared.event.OpenAnswer.TheVariants.{Done}
use Rattle.history_event.specs.declared.event.OpenAsk.{OpenAsk}
use Rattle.history_event.specs.declared.event.Range.{Range}
use Rattle.history_event.specs.declared.event.SymAnswer.TheVariants.{Found}
use Rattle.history_event.specs.declared.event.SymAsk.{SymAsk}
use Rattle.history_event.specs.declared.state.Chosen.{Chosen}
use Rattle.history_event.specs.declared.state.Closing.{Closing}
use Rattle.history_event.specs.declared.state.Granting.{Granting}
use Rattle.history_event.specs.declared.state.Standing.TheVariants.{Lost}
use Rattle.seg_image.specs.Pages.{own_address}
use Rattle.relocator.specs.Relocated.{moved_word}
use Rattle.seg_image.specs.Roles.{role_of}
use Rattle.history_state.specs.Addresses.{is_linkers_page}
use Rattle.history_state.specs.After.{after}
use Rattle.history_state.specs.Allowed.{Closes, MayGrant}
use Rattle.history_state.specs.Bound.{chosen_of}
use Rattle.history_state.specs.Laws.{BlocksAreApart, GrantsAreHeld, ImagesAreMapped, slot_address}
use Rattle.history_state.specs.Legal.{Legal}
use Rattle.history_state.specs.Lookup.{is_storage_symbol, symbol_value}
use Rattle.history_state.specs.Memory.{image_at, first_word_at}
use Rattle.history_state.specs.Objects.{IsMapped}
use Rattle.history_state.specs.Setting.{Setting}
use Rattle.history_state.specs.Slots.{value_at_load}
use Rattle.history_state.specs.State.{Linked, State}
use Rattle.history_state.specs.Step.{binds, loaded, seen_after}
use Rattle.history_state.specs.Storage.{tls_block}

-- ---- the history

-- the first word of a slot: the value that it got when its object was loaded, if it got one, and else the lazy one
pub record HaveFirstWords (s : State) : Type 0 where
  pub at_load : (i : Linked) (slot value : ℕ) (r : Reloc) → Contains s.images i → slice_get i.object.plt_relocs slot ≡ Some r
      → value_at_load s i.serial slot ≡ Some value → first_word_at s (slot_address i r) ≡ value
  pub lazy : (i : Linked) (slot : ℕ) (r : Reloc) → Contains s.images i → slice_get i.object.plt_relocs slot ≡ Some r → value_at_load s i.serial slot ≡ None
      → first_word_at s (slot_address i r) ≡ moved_word i.object i.base r.place

-- the journal is one legal history; each mapped object has its image, each image is of a mapped object, and each slot has its first word
pub record HistoryIsTrue (w : Setting) (journal : List Event) : Type 0 where
  pub legal : Legal w journal
  pub mapped : ImagesAreMapped (after journal)
  pub first_words : HaveFirstWords (after journal)

-- ---- the choices

-- an event of the journal made the grant: what it chose is what the rules of scope and version chose in the state of that moment
pub record WasGranted (journal : List Event) (g : Granting) : Type 0 where
  pub place : ℕ
  pub at : slice_get journal place ≡ Some (Grant g.number g.hart g.owner g.slot g.choice g.value)
  pub chosen : MayGrant (after (take place journal)) g.number g.hart g.owner g.slot g.choice g.value

-- what the relocations and the slots of an opening's new object choose, in the state with the new objects in it
abbrev pub opening_choice : State → ℕ → OpenAsk → ℕ → ℕ → List Loaded → List Range → Loaded → Chosen
opening_choice s hart ask id root added ranges object =
    chosen_of (loaded s hart ask id root added ranges) (seen_after s ask id root added) (binds s ask) object

-- an opening of the journal loaded the object that chose so
pub record WasChosen (journal : List Event) (c : Chosen) : Type 0 where
  pub place : ℕ
  pub hart : ℕ
  pub ask : OpenAsk
  pub id : ℕ
  pub root : ℕ
  pub added : List Loaded
  pub ranges : List Range
  pub at : slice_get journal place ≡ Some (Open hart ask (Done id root added ranges))
  pub object : Loaded
  pub inside : Contains added object
  pub is : c ≡ opening_choice (after (take place journal)) hart ask id root added ranges object

-- what the slot chose when its object was loaded
pub record ChoseAtLoad (s : State) (i : Linked) (slot : ℕ) (choice : Choice) : Type 0 where
  pub chosen : Chosen
  pub there : Contains s.chosen chosen
  pub owner : chosen.owner ≡ i.serial
  pub is : slice_get chosen.choices (length i.object.relocs + slot) ≡ Some (Some choice)

-- the address is code of the object with a serial: it lies in the linker's own page for the linker's own, 0; else in the image of that object, which
-- is mapped, in a word of it that may be executed
pub data IsCode (s : State) (serial a : ℕ) : Type 0 where
  of_linker : serial ≡ 0 → IsTrue (is_linkers_page a) → IsCode s serial a
  of_object : (i : Linked) → image_at s a ≡ Some i → i.serial ≡ serial → IsMapped s serial → role_of i.object (own_address i.base a) ≡ Rx → IsCode s serial a

-- a slot with this value enters the very object that was chosen, or holds 0 by a weak symbol without a definition
abbrev pub EntersChosen : State → Choice → ℕ → Type 0
EntersChosen s (Def serial index) value = IsCode s serial value
EntersChosen s WeakZero value = value ≡ 0
EntersChosen s Missing value = ⊥

pub record ChoicesAreTrue (journal : List Event) : Type 0 where
  -- what a grant chose the rules chose at one moment, that of its event; and what a slot got at load, at the opening of its object
  pub granted : (g : Granting) → Contains (after journal).grants g → WasGranted journal g
  pub chosen : (c : Chosen) → Contains (after journal).chosen c → WasChosen journal c
  -- owner and target of a grant are mapped while it is open
  pub held : GrantsAreHeld (after journal)
  -- what a grant put into the slot of a mapped object, or may still put there, enters the object that it chose
  pub enter : (g : Granting) → Contains (after journal).grants g → ((saw : ℕ) → g.standing ≢ Lost saw) → IsMapped (after journal) g.owner
      → EntersChosen (after journal) g.choice g.value
  -- what such a slot got at load enters the object that it chose then
  pub enter_at_load : (i : Linked) (slot value : ℕ) → Contains (after journal).images i → value_at_load (after journal) i.serial slot ≡ Some value
      → (choice : Choice) × ChoseAtLoad (after journal) i slot choice × EntersChosen (after journal) choice value
  -- and the word that it holds until it is bound enters its own object
  pub enter_lazy : (i : Linked) (slot : ℕ) (r : Reloc) → Contains (after journal).images i → slice_get i.object.plt_relocs slot ≡ Some r
      → IsCode (after journal) i.serial (moved_word i.object i.base r.place)

-- ---- the storage

-- the address of a variable that a look-up found, counted from the hart's own block of its object's module
pub record IsFoundFromOwnBlock (s : State) (hart serial index value : ℕ) : Type 0 where
  pub block : ℕ
  pub has : tls_block s hart serial ≡ Some block
  pub is : value ≡ (block + symbol_value s serial index) % 2 ^ 64

-- what look-ups answered, each in the state in which it was made
abbrev pub FindsFromOwnBlock : List Event → Type 0
FindsFromOwnBlock journal = (k hart serial index value : ℕ) (ask : SymAsk) → slice_get journal k ≡ Some (Sym hart ask (Found serial index value))
    → IsTrue (is_storage_symbol (after (take k journal)) serial index) → IsFoundFromOwnBlock (after (take k journal)) hart serial index value

-- no address is in two blocks of thread-local storage, and each look-up's answer on it counts from its hart's own
pub record StorageIsTrue (w : Setting) (journal : List Event) : Type 0 where
  pub blocks : BlocksAreApart w.machine (after journal)
  pub finds : FindsFromOwnBlock journal

-- ---- the closings

-- an event of the journal closed: what dies by it is what nothing needed in the state of that moment
pub record WasClosed (journal : List Event) (c : Closing) : Type 0 where
  pub place : ℕ
  pub handle : ℕ
  pub at : slice_get journal place ≡ Some (Close c.hart handle (closings.Done c.set))
  pub unneeded : Closes (after (take place journal)) handle c.set

-- what is still to be unmapped died by one closing, when nothing needed it
abbrev pub ClosingsAreTrue : List Event → Type 0
ClosingsAreTrue journal = (c : Closing) → Contains (after journal).closings c → WasClosed journal c

-- ---- all of these

pub record JournalIsTrue (w : Setting) (journal : List Event) : Type 0 where
  pub history : HistoryIsTrue w journal
  pub choices : ChoicesAreTrue journal
  pub storage : StorageIsTrue w journal
  pub closings : ClosingsAreTrue journal

-- ---- from one moment to a later one

-- the journal has the earlier one in front
pub record HasMore (old new : List Event) : Type 0 where
  pub added : List Event
  pub is : new ≡ old ++ added
