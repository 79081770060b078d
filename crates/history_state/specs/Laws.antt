-- What holds in each state of a lawful history.
use Rattle.std.specs.Prelude.{◌≡◌, ◌≢◌, ℕ, ◌+◌, ◌-◌, ◌*◌, ◌^◌, ◌<◌, ◌≤◌, ◌⊎◌, ◌==◌, if◌then◌else◌, Contains, drop, find, flat_map, length, map, List, Option}
use Rattle.std.specs.Prelude.{IsTrue, Some, None, false, ◌∷◌, ◌++◌}
use Rattle.std.specs.List.{slice_get}
use Rattle.std.specs.Option.{is_some, option_and_then}
use Rattle.address_space.specs.Pages.{guest_pages, is_within, IsGuestRange}
use Rattle.ld_base.specs.declared.linking.Choice.{Choice}
use Rattle.ld_base.specs.declared.linking.Choice.TheVariants.{Def, WeakZero, Missing}
use Rattle.history_state.specs.Addresses.{is_code_in, is_linkers_page}
use Rattle.ld_base.specs.declared.linking.Loaded.{Loaded}
use Rattle.ld_base.specs.declared.linking.Role.TheVariants.{Rw, Rx, Slot}
use Rattle.ld_base.specs.declared.linking.State.TheVariants as states
use Rattle.ld_base.specs.declared.linking.TlsPlace.{TlsPlace}
use Rattle.ld_base.specs.declared.object.Reloc.{Reloc}
use Rattle.history_event.specs.declared.event.Purpose.TheVariants as purposes
use Rattle.history_event.specs.declared.event.Range.{Range}
use Rattle.seg_image.specs.Words.{word_of}
use Rattle.relocator.specs.declared.binding.Binding.{Binding}
use Rattle.relocator.specs.Storage.{first_without_offset}
use Rattle.relocator.specs.Bindings.{AreBindings, AreCopied, chosen as object_of}
use Rattle.relocator.specs.Relocated.{image_word, moved_word}
use Rattle.seg_image.specs.declared.image.Image.{Image}
use Rattle.seg_image.specs.Images.{IsImage}
use Rattle.seg_image.specs.Pages.{guest_address, low_of, own_address, pages_of}
use Rattle.ld_base.specs.declared.object.TlsSeg.{TlsSeg}
use Rattle.history_event.specs.declared.state.Block.{Block}
use Rattle.history_event.specs.declared.state.Chosen.{Chosen}
use Rattle.history_event.specs.declared.state.Closing.{Closing}
use Rattle.history_event.specs.declared.state.Granting.{Granting}
use Rattle.history_event.specs.declared.state.Loading.{Loading}
use Rattle.history_event.specs.declared.state.Module.{Module}
use Rattle.history_event.specs.declared.state.Standing.TheVariants.{Bound, Lost, Open}
use Rattle.scope_rule.specs.Breadth.{breadth}
use Rattle.scope_rule.specs.Loading.{is_dying}
use Rattle.scope_rule.specs.Scope.{scope, whole_scope}
use Rattle.scope_rule.specs.Seen.{seen_in}
use Rattle.scope_rule.specs.declared.namespace.Namespace.{Namespace}
use Rattle.scope_rule.specs.declared.namespace.OpenRec.{OpenRec}
use Rattle.tls_blocks.specs.Numbers.{AreNumbered, IsLeastFree}
use Rattle.history_state.specs.Bound.{lazy_word}
use Rattle.history_state.specs.Setting.{Machine}
use Rattle.history_state.specs.Slots.{value_at_load}
use Rattle.history_state.specs.State.{Linked, State}
use Rattle.history_state.specs.Step.{block_range}
use Rattle.history_state.specs.Storage.{module_of_place, pages_for, residue, tp_of, with_modules}
use Rattle.history_state.specs.Grants.{chosen_target, target_of}
use Rattle.history_state.specs.Memory.{covers, data_at, first_byte, holds, image_at, image_of, is_data_purpose, is_in_block, role_at, first_word_at}
use Rattle.history_state.specs.Objects.{IsMapped, object_at, startup_serials, has}

-- a mapped object, with its namespace
pub record IsIn (s : State) (ns : Namespace) (o : Loaded) : Type 0 where
  pub there : Contains s.namespaces ns
  pub inside : Contains ns.objects o

-- what an object leads to: what its names found, what its relocations chose at load, and the target of each grant of its slots that isn't
-- lost
pub data LeadsTo (s : State) (o : Loaded) (d : ℕ) : Type 0 where
  found : Contains o.found d → LeadsTo s o d
  chosen : (c : Chosen) → Contains s.chosen c → c.owner ≡ o.serial → Contains (flat_map chosen_target c.choices) d → LeadsTo s o d
  granted : (g : Granting) → Contains s.grants g → g.owner ≡ o.serial → ((saw : ℕ) → g.standing ≢ Lost saw) → Contains (target_of g.choice) d → LeadsTo s o d

-- the object is one of the namespace
abbrev pub IsOf : Namespace → ℕ → Type 0
IsOf ns d = (o : Loaded) × Contains ns.objects o × (o.serial ≡ d)

-- whatever a mapped object leads to is mapped, in its namespace, or is the linker's own object
abbrev pub NothingDangles : State → Type 0
NothingDangles s = (ns : Namespace) (o : Loaded) (d : ℕ) → IsIn s ns o → LeadsTo s o d → (d ≡ 0) ⊎ IsOf ns d

-- owner and target of each open grant are mapped
pub record IsHeld (s : State) (g : Granting) : Type 0 where
  pub owner : IsMapped s g.owner
  pub target : (d : ℕ) → Contains (target_of g.choice) d → (d ≡ 0) ⊎ IsMapped s d

abbrev pub GrantsAreHeld : State → Type 0
GrantsAreHeld s = (g : Granting) → Contains s.grants g → g.standing ≡ Open → IsHeld s g

-- what startup loaded is mapped, in the base namespace, and isn't dying
pub record IsBase (s : State) (d : ℕ) : Type 0 where
  pub namespace : Namespace
  pub object : Loaded
  pub inside : IsIn s namespace object
  pub is : object.serial ≡ d
  pub base : namespace.id ≡ 0
  pub alive : is_dying object ≡ false

abbrev pub StartupStays : State → Type 0
StartupStays s = (d : ℕ) → Contains (startup_serials s) d → IsBase s d

-- each object of a closing that isn't unmapped yet is mapped, and dying by the closing's hart; no object is of two
pub record IsDyingBy (s : State) (d hart : ℕ) : Type 0 where
  pub namespace : Namespace
  pub object : Loaded
  pub inside : IsIn s namespace object
  pub is : object.serial ≡ d
  pub dying : object.state ≡ states.Dying hart

pub record EachDiesOnce (s : State) : Type 0 where
  pub dying : (c : Closing) (d : ℕ) → Contains s.closings c → Contains c.set d → IsDyingBy s d c.hart
  pub once : (c k : Closing) (d : ℕ) → Contains s.closings c → Contains s.closings k → Contains c.set d → Contains k.set d → c ≡ k
  pub only : (ns : Namespace) (o : Loaded) (hart : ℕ) → IsIn s ns o → o.state ≡ states.Dying hart
      → (c : Closing) × Contains s.closings c × (c.hart ≡ hart) × Contains c.set o.serial

-- nothing holds an object of a set: neither startup nor an opening, RTLD_NODELETE nor DF_1_NODELETE, its constructors or destructors, nor an
-- open grant; and whatever leads to it is of the set too
pub record IsSpare (s : State) (set : List ℕ) (d : ℕ) : Type 0 where
  pub startup : ¬ (Contains (startup_serials s) d)
  pub opened : (ns : Namespace) (r : OpenRec) → Contains s.namespaces ns → Contains ns.opens r → ¬ (Contains (breadth (seen_in ns) r.root) d)
  pub pinned : ¬ (Contains s.pinned d)
  pub ready : (ns : Namespace) (o : Loaded) → IsIn s ns o → o.serial ≡ d → o.state ≡ states.Ready
  pub marked : (ns : Namespace) (o : Loaded) → IsIn s ns o → o.serial ≡ d → o.object.flags.nodelete ≡ false
  pub granted : (g : Granting) → Contains s.grants g → g.standing ≡ Open → (g.owner ≢ d) × ¬ (Contains (target_of g.choice) d)
  pub followed : (ns : Namespace) (o : Loaded) → IsIn s ns o → LeadsTo s o d → Contains set o.serial

-- what a closing takes, in the state with one opening less: objects of one namespace, which nothing holds
pub record ClosesSpare (s : State) (set : List ℕ) : Type 0 where
  pub namespace : Namespace
  pub there : Contains s.namespaces namespace
  pub inside : (d : ℕ) → Contains set d → IsOf namespace d
  pub spare : (d : ℕ) → Contains set d → IsSpare s set d

-- no two mapped objects have one serial, so that a serial leads to its object; and no two namespaces have one number
pub record AreApart (s : State) : Type 0 where
  pub objects : (ns ms : Namespace) (o p : Loaded) → IsIn s ns o → IsIn s ms p → o.serial ≡ p.serial → ns ≡ ms
  pub records : (ns ms : Namespace) (o p : Loaded) → IsIn s ns o → IsIn s ms p → o.serial ≡ p.serial → o ≡ p
  pub found : (ns : Namespace) (o : Loaded) → IsIn s ns o → object_at s o.serial ≡ Some o
  pub namespaces : (ns ms : Namespace) → Contains s.namespaces ns → Contains s.namespaces ms → ns.id ≡ ms.id → ns ≡ ms

-- serials: from 1 on and below that of the next new object; ascending in each namespace, in load order; and each of one loading
pub record SerialsAreInOrder (s : State) : Type 0 where
  pub from : (ns : Namespace) (o : Loaded) → IsIn s ns o → 1 ≤ o.serial
  pub below : (ns : Namespace) (o : Loaded) → IsIn s ns o → o.serial < s.next
  pub rising : (ns : Namespace) (i j : ℕ) (o p : Loaded) → Contains s.namespaces ns → slice_get ns.objects i ≡ Some o → slice_get ns.objects j ≡ Some p
      → i < j → o.serial < p.serial
  pub of : (ns : Namespace) (o : Loaded) → IsIn s ns o → (l : Loading) × Contains s.loadings l × Contains l.serials o.serial
  pub loaded : (l k : Loading) (d : ℕ) → Contains s.loadings l → Contains s.loadings k → Contains l.serials d → Contains k.serials d → l ≡ k

-- an object is being initialised by the hart that loaded it, exactly until its constructors have run
pub record IsStarting (s : State) (o : Loaded) (hart : ℕ) : Type 0 where
  pub loading : Loading
  pub there : Contains s.loadings loading
  pub by : loading.hart ≡ hart
  pub inside : Contains loading.serials o.serial
  pub undone : ¬ (Contains s.inits o.serial)

pub record InitialisedOnce (s : State) : Type 0 where
  pub doing : (ns : Namespace) (o : Loaded) (hart : ℕ) → IsIn s ns o → o.state ≡ states.Initialising hart → IsStarting s o hart
  pub undone : (ns : Namespace) (o : Loaded) → IsIn s ns o → ¬ (Contains s.inits o.serial) → (hart : ℕ) × (o.state ≡ states.Initialising hart)
  pub once : (i j d : ℕ) → slice_get s.inits i ≡ Some d → slice_get s.inits j ≡ Some d → i ≡ j

-- the object of a serial is mapped, and is being initialised by the hart
pub record IsInitialising (s : State) (d hart : ℕ) : Type 0 where
  pub namespace : Namespace
  pub object : Loaded
  pub inside : IsIn s namespace object
  pub is : object.serial ≡ d
  pub doing : object.state ≡ states.Initialising hart

-- what was loaded and isn't initialised yet is mapped, and is being initialised by the hart that loaded it
abbrev pub UninitialisedStay : State → Type 0
UninitialisedStay s = (l : Loading) (d : ℕ) → Contains s.loadings l → Contains l.serials d → ¬ (Contains s.inits d) → IsInitialising s d l.hart

-- an object is finalised once, after it was initialised
pub record FinalisedOnce (s : State) : Type 0 where
  pub once : (i j d : ℕ) → slice_get s.finis i ≡ Some d → slice_get s.finis j ≡ Some d → i ≡ j
  pub initialised : (d : ℕ) → Contains s.finis d → Contains s.inits d

-- an object of the namespace that isn't dying, or the linker's own
abbrev pub Lives : Namespace → ℕ → Type 0
Lives ns d = (d ≡ 0) ⊎ ((o : Loaded) × Contains ns.objects o × (o.serial ≡ d) × (is_dying o ≡ false))

-- openings count, and what is opened or global stands
pub record OpeningsStand (s : State) : Type 0 where
  pub count : (ns : Namespace) (r : OpenRec) → Contains s.namespaces ns → Contains ns.opens r → 1 ≤ r.count
  pub root : (ns : Namespace) (r : OpenRec) → Contains s.namespaces ns → Contains ns.opens r → Lives ns r.root
  pub global : (ns : Namespace) (d : ℕ) → Contains s.namespaces ns → Contains ns.global d → Lives ns d

-- what each lost grant of a mapped object's slot saw is one value, and that of the bound grant, where there is one
pub record LostSawTheValue (s : State) : Type 0 where
  pub one : (g h : Granting) (saw word : ℕ) → Contains s.grants g → Contains s.grants h → g.standing ≡ Lost saw → h.standing ≡ Lost word → g.owner ≡ h.owner
      → g.slot ≡ h.slot → IsMapped s g.owner → saw ≡ word
  pub bound : (g h : Granting) (saw : ℕ) → Contains s.grants g → Contains s.grants h → g.standing ≡ Lost saw → h.standing ≡ Bound → g.owner ≡ h.owner
      → g.slot ≡ h.slot → IsMapped s g.owner → saw ≡ h.value
  pub at_load : (g : Granting) (saw value : ℕ) → Contains s.grants g → g.standing ≡ Lost saw → value_at_load s g.owner g.slot ≡ Some value
      → IsMapped s g.owner → saw ≡ value

-- whoever sees a dying object dies with it: leaving dying objects out of a scope leaves none out
abbrev pub NothingLeftOut : State → Type 0
NothingLeftOut s = (ns : Namespace) (o : Loaded) → IsIn s ns o → scope (seen_in ns) o ≡ whole_scope (seen_in ns) o

-- a scope has its parts: the global list, what each opening leads to that leads to the object, what the object leads to, and the linker's own
pub record ScopeIsWhole (ns : Namespace) (o : Loaded) : Type 0 where
  pub global : (d : ℕ) → Contains ns.global d → Contains (scope (seen_in ns) o) d
  pub opened : (r : OpenRec) (d : ℕ) → Contains ns.opens r → Contains (breadth (seen_in ns) r.root) o.serial → Contains (breadth (seen_in ns) r.root) d
      → Contains (scope (seen_in ns) o) d
  pub own : (d : ℕ) → Contains (breadth (seen_in ns) o.serial) d → Contains (scope (seen_in ns) o) d
  pub linker : Contains (scope (seen_in ns) o) 0

abbrev pub ScopesAreWhole : State → Type 0
ScopesAreWhole s = (ns : Namespace) (o : Loaded) → IsIn s ns o → ScopeIsWhole ns o

-- the address is code of a mapped object
pub record IsCodeOf (s : State) (serial a : ℕ) : Type 0 where
  pub namespace : Namespace
  pub object : Loaded
  pub inside : IsIn s namespace object
  pub is : object.serial ≡ serial
  pub code : IsTrue (is_code_in object a)

-- a value of a choice: 0 by a weak symbol without a definition, an address in the linker's page, or code of the chosen object
abbrev pub EntersBy : State → Choice → ℕ → Type 0
EntersBy s (Def serial index) value = ((serial ≡ 0) × IsTrue (is_linkers_page value)) ⊎ IsCodeOf s serial value
EntersBy s WeakZero value = value ≡ 0
EntersBy s Missing value = ⊥

-- what each grant of a mapped object put, or may still put, into its slot
abbrev pub SlotsEnterCode : State → Type 0
SlotsEnterCode s = (g : Granting) → Contains s.grants g → ((saw : ℕ) → g.standing ≢ Lost saw) → IsMapped s g.owner → EntersBy s g.choice g.value

-- a value that a slot got when its object was loaded enters what the slot chose then
pub record EntersOfLoad (s : State) (o : Loaded) (slot value : ℕ) : Type 0 where
  pub chosen : Chosen
  pub there : Contains s.chosen chosen
  pub owner : chosen.owner ≡ o.serial
  pub choice : Choice
  pub chose : slice_get chosen.choices (length o.object.relocs + slot) ≡ Some (Some choice)
  pub enters : EntersBy s choice value

abbrev pub LoadsEnterCode : State → Type 0
LoadsEnterCode s = (ns : Namespace) (o : Loaded) (slot value : ℕ) → IsIn s ns o → value_at_load s o.serial slot ≡ Some value → EntersOfLoad s o slot value

-- no value of a mapped object's slot is the word that the slot holds until it is bound
pub record NoneIsLazy (s : State) : Type 0 where
  pub granted : (ns : Namespace) (o : Loaded) (g : Granting) (r : Reloc) → IsIn s ns o → Contains s.grants g → g.owner ≡ o.serial
      → slice_get o.object.plt_relocs g.slot ≡ Some r
      → g.value ≢ lazy_word o r
  pub at_load : (ns : Namespace) (o : Loaded) (slot value : ℕ) (r : Reloc) → IsIn s ns o → value_at_load s o.serial slot ≡ Some value
      → slice_get o.object.plt_relocs slot ≡ Some r
      → value ≢ lazy_word o r

-- no page is of two reserved ranges, and each reserved page is one of guest memory that may be given away
pub record RangesAreApart (s : State) : Type 0 where
  pub one : (page : ℕ) (r q : Range) → Contains s.ranges r → Contains s.ranges q → Contains guest_pages page
      → IsTrue (is_within r.address r.pages page) → IsTrue (is_within q.address q.pages page) → r ≡ q
  pub inside : (r : Range) (k : ℕ) → Contains s.ranges r → k < r.pages → Contains guest_pages (r.address + 4096 * k)
  pub guest : (r : Range) → Contains s.ranges r → 0 < r.pages → IsGuestRange r.address r.pages

-- pages that are reserved for an object are those of an image, and for a block those of a block; and each block has its pages
pub record RangesAreOwned (s : State) : Type 0 where
  pub object : (r : Range) (serial : ℕ) → Contains s.ranges r → r.purpose ≡ purposes.Object serial → (i : Linked) × Contains s.images i × (i.serial ≡ serial)
  pub late : (r : Range) (hart serial : ℕ) → Contains s.ranges r → r.purpose ≡ purposes.Block hart serial
      → (b : Block) × Contains s.blocks b × (b.hart ≡ hart) × (b.serial ≡ serial)
  pub block : (b : Block) → Contains s.blocks b → (r : Range) × Contains s.ranges r × (r.purpose ≡ purposes.Block b.hart b.serial)

-- grants have the numbers from 1 on; a hart has at most one that is open; and of a slot at most one is bound, and none where the slot got its
-- value when its object was loaded
pub record GrantsAreTidy (s : State) : Type 0 where
  pub numbered : (k : ℕ) (g : Granting) → slice_get s.grants k ≡ Some g → g.number ≡ k + 1
  pub one_bound : (g h : Granting) → Contains s.grants g → Contains s.grants h → g.standing ≡ Bound → h.standing ≡ Bound
      → g.owner ≡ h.owner → g.slot ≡ h.slot → g.number ≡ h.number
  pub one_open : (g h : Granting) → Contains s.grants g → Contains s.grants h → g.standing ≡ Open → h.standing ≡ Open → g.hart ≡ h.hart → g.number ≡ h.number
  pub unbound : (g : Granting) → Contains s.grants g → g.standing ≡ Bound → value_at_load s g.owner g.slot ≡ None

-- a mapped object has a static block, of its segment, at this offset behind tp
pub record HasStatic (s : State) (o : Loaded) (offset : ℕ) (seg : TlsSeg) : Type 0 where
  pub namespace : Namespace
  pub inside : IsIn s namespace o
  pub place : TlsPlace
  pub of : o.«module» ≡ Some place
  pub at : place.offset ≡ Some offset
  pub storage : o.object.tls ≡ Some seg

-- static blocks end where the state says, and each is apart from those of other objects
pub record StaticsAreApart (s : State) : Type 0 where
  pub within : (o : Loaded) (offset : ℕ) (seg : TlsSeg) → HasStatic s o offset seg → offset + seg.memsz ≤ s.statics.size
  pub apart : (o p : Loaded) (x y : ℕ) (seg tseg : TlsSeg) → HasStatic s o x seg → HasStatic s p y tseg → o.serial ≢ p.serial
      → (x + seg.memsz ≤ y) ⊎ (y + tseg.memsz ≤ x)

-- a hart's static area has room for all static blocks, and for what stands before them
pub record StaticAreasHaveRoom (m : Machine) (s : State) : Type 0 where
  pub pages : (r : Range) (hart : ℕ) → Contains s.ranges r → r.purpose ≡ purposes.StaticTls hart → r.pages ≡ pages_for (s.statics.tp + s.statics.size)
  pub there : (o : Loaded) (offset : ℕ) (seg : TlsSeg) (hart : ℕ) → HasStatic s o offset seg → hart < m.harts
      → (r : Range) × Contains s.ranges r × (r.purpose ≡ purposes.StaticTls hart)
  -- a hart's block of an object stands in it whole
  pub covered : (o : Loaded) (offset : ℕ) (seg : TlsSeg) (hart : ℕ) → HasStatic s o offset seg → hart < m.harts
      → (r : Range) × Contains s.ranges r × (r.purpose ≡ purposes.StaticTls hart)
      × ((a : ℕ) → tp_of s hart + offset ≤ a → a < tp_of s hart + offset + seg.memsz → IsTrue (covers a r))

-- a block that a hart got at its first use stands in pages of its own: at its segment's residue behind their start, and whole
pub record IsBlockPlaced (s : State) (b : Block) : Type 0 where
  pub seg : TlsSeg
  pub image : Linked
  pub there : Contains s.images image
  pub serial : image.serial ≡ b.serial
  pub storage : image.object.tls ≡ Some seg
  pub range : Contains s.ranges (block_range b.hart b.serial b.address seg)
  pub stands : residue seg ≤ b.address
  pub covered : (a : ℕ) → b.address ≤ a → a < b.address + seg.memsz → IsTrue (covers a (block_range b.hart b.serial b.address seg))

abbrev pub BlocksArePlaced : State → Type 0
BlocksArePlaced s = (b : Block) → Contains s.blocks b → IsBlockPlaced s b

-- the image of an object: of its serial, its record and its base
pub record IsImageOf (images : List Linked) (o : Loaded) : Type 0 where
  pub image : Linked
  pub there : Contains images image
  pub serial : image.serial ≡ o.serial
  pub object : image.object ≡ o.object
  pub base : image.base ≡ o.base

-- the image that is found by an object's serial is of its record and its base
pub record FindsImage (s : State) (o : Loaded) : Type 0 where
  pub image : Linked
  pub found : image_of s o.serial ≡ Some image
  pub object : image.object ≡ o.object
  pub base : image.base ≡ o.base

-- each mapped object has its image, and each image is of a mapped object
pub record ImagesAreMapped (s : State) : Type 0 where
  pub mapped : (ns : Namespace) (o : Loaded) → IsIn s ns o → IsImageOf s.images o
  pub image : (i : Linked) → Contains s.images i → IsMapped s i.serial

-- the reserved range of an image: the pages of its object, from the address that its base gives them
pub record IsRangeOf (ranges : List Range) (i : Linked) : Type 0 where
  pub range : Range
  pub there : Contains ranges range
  pub purpose : range.purpose ≡ purposes.Object i.serial
  pub pages : range.pages ≡ pages_of i.object
  pub base : i.base ≡ own_address (low_of i.object) range.address

abbrev pub ImagesArePlaced : State → Type 0
ImagesArePlaced s = (i : Linked) → Contains s.images i → IsRangeOf s.ranges i

-- a mapped object whose pages hold an address is the one whose image is there, and the only one
pub record HoldersAreImages (s : State) : Type 0 where
  pub image : (ns : Namespace) (o : Loaded) (a : ℕ) → a < 2 ^ 64 → IsIn s ns o → IsTrue (holds o a)
      → (i : Linked) × (image_at s a ≡ Some i) × (i.serial ≡ o.serial)
  pub one : (ns ms : Namespace) (o p : Loaded) (a : ℕ) → a < 2 ^ 64 → IsIn s ns o → IsIn s ms p → IsTrue (holds o a) → IsTrue (holds p a) → o ≡ p
  pub object : (i : Linked) (a : ℕ) → image_at s a ≡ Some i → (ns : Namespace) × (o : Loaded) × IsIn s ns o × (o.serial ≡ i.serial) × IsTrue (holds o a)
  pub none : (ns : Namespace) (o : Loaded) (a : ℕ) → image_at s a ≡ None → IsIn s ns o → holds o a ≡ false

-- an address of a range for data: its role, and the word that was put there first
pub record IsDataAt (s : State) (r : Range) (a : ℕ) : Type 0 where
  pub linkers : is_linkers_page a ≡ false
  pub image : image_at s a ≡ None
  pub area : data_at s a ≡ Some r
  pub role : role_at s a ≡ Rw
  pub word : first_word_at s a ≡ word_of (first_byte s r.purpose) a

-- the pages of stacks, static areas and blocks are data, and nothing else
abbrev pub AreasAreData : State → Type 0
AreasAreData s = (r : Range) (a : ℕ) → Contains s.ranges r → IsTrue (is_data_purpose r.purpose) → IsTrue (covers a r) → IsDataAt s r a

-- no address is in two blocks, of one hart or of two
abbrev pub BlocksAreApart : Machine → State → Type 0
BlocksAreApart m s = (h k a : ℕ) (x y : Module) → h < m.harts → k < m.harts → Contains s.modules x → Contains s.modules y
    → IsTrue (is_in_block s h a x) → IsTrue (is_in_block s k a y) → (h ≡ k) × (x ≡ y)

-- the words of an image that was relocated by its record are those of memory, with their roles
abbrev pub ImagesAreInstalled : State → Type 0
ImagesAreInstalled s = (i : Linked) → Contains s.images i → (image : Image)
    → IsImage i.object i.base (image_word i.object i.base i.serial i.bindings i.places) image → (k : ℕ) → k < length image.words
    → slice_get image.words k ≡ Some (record { value = first_word_at s (image.start + 8 * k); role = role_at s (image.start + 8 * k) })

-- where slots lead is code that memory holds: a value of a mapped object's slot is 0 or lies in an RX word, and so does the word that a slot
-- holds until it is bound
pub record SlotsLeadToRx (s : State) : Type 0 where
  pub granted : (g : Granting) → Contains s.grants g → ((saw : ℕ) → g.standing ≢ Lost saw) → IsMapped s g.owner
      → (g.value ≡ 0) ⊎ (role_at s g.value ≡ Rx)
  pub at_load : (ns : Namespace) (o : Loaded) (slot value : ℕ) → IsIn s ns o → value_at_load s o.serial slot ≡ Some value
      → (value ≡ 0) ⊎ (role_at s value ≡ Rx)
  pub lazy : (ns : Namespace) (o : Loaded) (slot : ℕ) (r : Reloc) → IsIn s ns o → slice_get o.object.plt_relocs slot ≡ Some r → role_at s (lazy_word o r) ≡ Rx

-- what a binding says that its relocation chose, the value that it gives its slot, and the object that it leads to
abbrev pub bound_choice : Binding → Option Choice
bound_choice b = if b.bound then Some b.choice else None

abbrev pub bound_value : Binding → Option ℕ
bound_value b = if b.bound then Some b.value else None

abbrev pub bound_object : Binding → Option ℕ
bound_object b = if b.bound then b.object else None

-- an image's bindings are what its object chose when it was loaded: one a relocation, first those of DT_RELA and then those of slots, with the
-- values that slots got
pub record IsTied (s : State) (i : Linked) : Type 0 where
  pub chosen : Chosen
  pub found : find (λ c. c.owner == i.serial) s.chosen ≡ Some chosen
  pub choices : map bound_choice i.bindings ≡ chosen.choices
  pub values : map bound_value (drop (length i.object.relocs) i.bindings) ≡ chosen.values
  pub objects : map bound_object i.bindings ≡ map (λ choice. option_and_then object_of choice) chosen.choices
  pub count : length chosen.values ≡ length i.object.plt_relocs
  pub copied : AreCopied i.object i.bindings

abbrev pub ImagesAreTied : State → Type 0
ImagesAreTied s = (i : Linked) → Contains s.images i → IsTied s i

-- and they are those that relocating the object asks for
abbrev pub ImagesAreBound : State → Type 0
ImagesAreBound s = (i : Linked) → Contains s.images i → AreBindings i.object i.bindings

-- no relocation of an image needs an offset in static blocks that its object hasn't
abbrev pub OffsetsAreThere : State → Type 0
OffsetsAreThere s = (i : Linked) → Contains s.images i → first_without_offset i.object i.serial i.bindings i.places ≡ None

-- a list has each element of another
abbrev pub HasAll : {X : Type 0} → List X → List X → Type 0
HasAll {X} xs ys = (x : X) → Contains ys x → Contains xs x

-- where a slot of an image stands
abbrev pub slot_address : Linked → Reloc → ℕ
slot_address i r = guest_address i.base r.place

-- the word that was put into a slot first: the value that it got when its object was loaded, or else the word that it holds until it is bound
pub record SlotsBegin (s : State) : Type 0 where
  pub at_load : (i : Linked) (slot value : ℕ) (r : Reloc) → Contains s.images i → slice_get i.object.plt_relocs slot ≡ Some r
      → value_at_load s i.serial slot ≡ Some value → value < 2 ^ 64
      → first_word_at s (slot_address i r) ≡ value
  pub lazy : (i : Linked) (slot : ℕ) (r : Reloc) → Contains s.images i → slice_get i.object.plt_relocs slot ≡ Some r → value_at_load s i.serial slot ≡ None
      → first_word_at s (slot_address i r) ≡ moved_word i.object i.base r.place
  pub role : (i : Linked) (slot : ℕ) (r : Reloc) → Contains s.images i → slice_get i.object.plt_relocs slot ≡ Some r → role_at s (slot_address i r) ≡ Slot

-- the module is that of a mapped object, with the number and the offset of its place
pub record IsModule (s : State) (m : Module) : Type 0 where
  pub namespace : Namespace
  pub object : Loaded
  pub inside : IsIn s namespace object
  pub place : TlsPlace
  pub has : object.«module» ≡ Some place
  pub is : module_of_place object.serial place ≡ m

-- modules are in the order of their numbers, each is that of one mapped object, and each mapped object with thread-local storage has its one
pub record ModulesAreTidy (s : State) : Type 0 where
  pub numbered : AreNumbered s.modules
  pub mapped : (m : Module) → Contains s.modules m → IsModule s m
  pub there : (ns : Namespace) (o : Loaded) (place : TlsPlace) → IsIn s ns o → o.«module» ≡ Some place → Contains s.modules (module_of_place o.serial place)
  pub some : (ns : Namespace) (o : Loaded) → IsIn s ns o → is_some o.«module» ≡ is_some o.object.tls
  pub one : (m n : Module) → Contains s.modules m → Contains s.modules n → m.serial ≡ n.serial → m ≡ n
  -- a module is static where startup loaded its object
  pub offset : (m : Module) → Contains s.modules m → is_some m.offset ≡ has (startup_serials s) m.serial

-- each object brings one module at most, so that modules are added and removed seldom enough to count; and static blocks fit into guest memory
pub record ModulesAreFew (m : Machine) (s : State) : Type 0 where
  pub changes : s.generation + length s.modules ≤ 2 * (s.next - 1)
  pub statics : 1 ≤ m.harts → s.statics.tp + s.statics.size ≤ 4096 * 2047

-- new modules take their numbers in load order, each the least that is free then
abbrev pub TakesLeast : State → List Loaded → Type 0
TakesLeast s added = (before behind : List Loaded) (o : Loaded) (place : TlsPlace) → added ≡ before ++ o ∷ behind → o.«module» ≡ Some place
    → IsLeastFree (with_modules before s.modules) place.number
