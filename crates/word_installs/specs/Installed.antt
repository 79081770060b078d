-- Words that are put into memory: which, when they may be, and what the keeper knows of them then.
use Rattle.std.specs.Prelude.{◌≡◌, ◌≢◌, ◌⊎◌, ℕ, ◌+◌, ◌*◌, ◌<◌, Bool, true, false, List, length, None, Some}
use Rattle.std.specs.List.{slice_get}
use Rattle.ld_base.specs.declared.linking.Role.{Role}
use Rattle.ld_base.specs.declared.linking.Role.TheVariants.{None as NoRole, Ro, Rx, Rw, Slot}
use Rattle.seg_image.specs.declared.image.Image.{Image}
use Rattle.seg_image.specs.declared.image.Word.{Word}
use Rattle.word_rule.specs.declared.view.KeeperView.{KeeperView}
use Rattle.word_rule.specs.declared.view.Kept.{Kept}
use Rattle.word_rule.specs.Allowed.{LeadsTo}
use Rattle.word_rule.specs.Layout.{IsInMemory, place_of}
use Rattle.word_rule.specs.Views.{kept_at}
use Rattle.history_calls.specs.declared.link_served.installs.Installs.{Installs}
use Rattle.history_calls.specs.declared.link_served.installs.SlotWord.{SlotWord}
use Rattle.history_memory.specs.Memory.{IsDoubleword, doubleword_of}

-- ---- words of images

-- the word j of image i, and its address
pub record IsWordAt (images : List Image) (i j a : ℕ) (word : Word) : Type 0 where
  pub image : Image
  pub there : slice_get images i ≡ Some image
  pub at : slice_get image.words j ≡ Some word
  pub is : a ≡ image.start + 8 * j

-- a word stands at the address
pub record HasWord (images : List Image) (a : ℕ) (word : Word) : Type 0 where
  pub image : ℕ
  pub index : ℕ
  pub is : IsWordAt images image index a word

-- what harts may read, run or write as it is; a slot comes once there is what it leads to
abbrev pub is_plain : Role → Bool
is_plain Ro = true
is_plain Rx = true
is_plain Rw = true
is_plain NoRole = false
is_plain Slot = false

-- ---- which words are put where, and, of a slot, with which lazy word

-- one word
abbrev pub OfWord : ℕ → Word → ℕ → ℕ → Word → Type 0
OfWord address word a lazy x = (a ≡ address) × (x ≡ word) × (lazy ≡ 0) × (is_plain word.role ≡ true)

-- words from an address on
abbrev pub OfWords : ℕ → List Word → ℕ → ℕ → Word → Type 0
OfWords start words a lazy x = (j : ℕ) × (slice_get words j ≡ Some x) × (a ≡ start + 8 * j) × (lazy ≡ 0) × (is_plain x.role ≡ true)

-- those of images, all but slots
abbrev pub OfImages : List Image → ℕ → ℕ → Word → Type 0
OfImages images a lazy x = HasWord images a x × (lazy ≡ 0) × (is_plain x.role ≡ true)

-- a slot, whose word is that of an image
abbrev pub OfSlot : List Image → SlotWord → ℕ → ℕ → Word → Type 0
OfSlot images slot a lazy x = HasWord images a x × (x.role ≡ Slot) × (slot.address ≡ a) × (slot.lazy ≡ lazy)

abbrev pub OfSlots : List Image → List SlotWord → ℕ → ℕ → Word → Type 0
OfSlots images slots a lazy x = (i : ℕ) × (slot : SlotWord) × (slice_get slots i ≡ Some slot) × OfSlot images slot a lazy x

-- what is installed: words of objects and of areas, and slots
abbrev pub OfInstalls : Installs → ℕ → ℕ → Word → Type 0
OfInstalls installs a lazy x = OfImages installs.images a lazy x ⊎ OfImages installs.areas a lazy x ⊎ OfSlots installs.images installs.slots a lazy x

-- ---- what it leaves

-- what the keeper knows of a doubleword that is put there at this count
abbrev pub put_as : Word → ℕ → ℕ → Kept
put_as word lazy count = record { role = word.role; value = word.value; lazy = lazy; since = count; fixed = None }

-- these words are there, and all else is as it was
pub record Puts (which : ℕ → ℕ → Word → Type 0) (k l : KeeperView) : Type 0 where
  pub put : (a lazy : ℕ) (x : Word) → which a lazy x → kept_at l (place_of a) ≡ put_as x lazy (length k.events)
  pub kept : (d : ℕ) → ((a lazy : ℕ) (x : Word) → which a lazy x → place_of a ≢ d) → kept_at l d ≡ kept_at k d
  pub only : l ≡ record k { words = l.words }

-- the generation may have risen besides
abbrev pub IsInstalled : Installs → KeeperView → KeeperView → Type 0
IsInstalled installs k l = Puts (OfInstalls installs) k (record l { generation = k.generation })

-- ---- when they may be put there

-- from an address on, each stands in guest memory, where nothing was
pub record MayPutWords (k : KeeperView) (start : ℕ) (words : List Word) : Type 0 where
  pub placed : (j : ℕ) → j < length words → IsDoubleword (start + 8 * j)
  pub free : (j : ℕ) → j < length words → (kept_at k (place_of (start + 8 * j))).role ≡ NoRole

-- each stands in guest memory, where nothing was, and no two at one address
pub record MayPut (k : KeeperView) (images : List Image) : Type 0 where
  pub placed : (a : ℕ) (x : Word) → HasWord images a x → IsDoubleword a
  pub free : (a : ℕ) (x : Word) → HasWord images a x → (kept_at k (place_of a)).role ≡ NoRole
  pub apart : (i j p q a : ℕ) (x y : Word) → IsWordAt images i j a x → IsWordAt images p q a y → i ≡ p

-- a slot stands in guest memory, where nothing was, and leads to 0 or into a word that may be run
pub record MayPutSlot (k : KeeperView) (images : List Image) (slot : SlotWord) : Type 0 where
  pub placed : (x : Word) → HasWord images slot.address x → IsDoubleword slot.address
  pub free : (x : Word) → HasWord images slot.address x → x.role ≡ Slot → (kept_at k (place_of slot.address)).role ≡ NoRole
  pub one : (x y : Word) → HasWord images slot.address x → HasWord images slot.address y → x ≡ y
  pub leads : (x : Word) → HasWord images slot.address x → x.role ≡ Slot → LeadsTo (kept_at k) x.value

-- no slot is listed twice
abbrev pub AreOnce : List SlotWord → Type 0
AreOnce slots = (i j : ℕ) (x y : SlotWord) → slice_get slots i ≡ Some x → slice_get slots j ≡ Some y → x.address ≡ y.address → i ≡ j

pub record MayPutSlots (k : KeeperView) (images : List Image) (slots : List SlotWord) : Type 0 where
  pub each : (i : ℕ) (slot : SlotWord) → slice_get slots i ≡ Some slot → MayPutSlot k images slot
  pub once : AreOnce slots

-- a value is 0, or leads into a word that may be run, of these images or there before
abbrev pub LeadsInto : KeeperView → List Image → ℕ → Type 0
LeadsInto k images value = (value ≡ 0)
    ⊎ (IsInMemory value × (((kept_at k (place_of value)).role ≡ Rx) ⊎ ((x : Word) × HasWord images (doubleword_of value) x × (x.role ≡ Rx))))

pub record MayInstall (k : KeeperView) (installs : Installs) : Type 0 where
  pub images : MayPut k installs.images
  pub areas : MayPut k installs.areas
  pub apart : (a : ℕ) (x y : Word) → HasWord installs.images a x → HasWord installs.areas a y → ⊥
  pub slots : AreOnce installs.slots
  pub leads : (a : ℕ) (x : Word) → HasWord installs.images a x → x.role ≡ Slot → LeadsInto k installs.images x.value
