-- What a hart's new block of thread-local storage puts into memory.
use Rattle.std.specs.Prelude.{◌≡◌, ℕ, ◌-◌, ◌<◌, List, [], ◌∷◌, ◌++◌, Some, Contains, IsTrue}
use Rattle.link_open_images.specs.AreaImages.Areas.{IsArea, byte_among}
use Rattle.link_images.specs.Parts.{storage_of}
use Rattle.history_event.specs.declared.event.Event.{Event}
use Rattle.history_event.specs.declared.event.Event.TheVariants.{Tls}
use Rattle.history_event.specs.declared.event.Range.{Range}
use Rattle.history_calls.specs.declared.link_served.installs.Installs.{Installs}
use Rattle.history_state.specs.Accepted.{AcceptsOnly}
use Rattle.history_state.specs.After.{after}
use Rattle.history_state.specs.Legal.{Lawful}
use Rattle.history_state.specs.Lookup.{MayHaveBlock}
use Rattle.history_state.specs.Memory.{covers, first_byte, image_of}
use Rattle.history_state.specs.Setting.{Machine}
use Rattle.history_state.specs.State.{Linked}
use Rattle.history_state.specs.Storage.{block_pages, residue, tls_block}
use Rattle.history_calls.specs.Served.{AreBlockInstalls, AreWordsOf, is_area}
use Rattle.seg_image.specs.declared.image.Image.{Image}

-- one area
abbrev pub area_alone : Image → Installs
area_alone image = record { images = []; slots = []; areas = image ∷ [] }

-- pages for data are what memory gets, where each byte is the one that was put there first
abbrev pub AreasHaveWords : Type 0
AreasHaveWords = (m : Machine) (events : List Event) (r : Range) (at : ℕ) (bytes : List ℕ) (image : Image) → AcceptsOnly m → Lawful m events
    → Contains (after events).ranges r → IsTrue (is_area r)
    → ((a : ℕ) → IsTrue (covers a r) → byte_among at bytes a ≡ first_byte (after events) r.purpose a)
    → IsArea r.address r.pages at bytes image → AreWordsOf (after events) r image

-- where a hart may have a new block of an object's module, pages with the bytes that the object's image gives for it are what memory gets
abbrev pub NewBlocksAreInstalled : Type 0
NewBlocksAreInstalled = (m : Machine) (past : List Event) (hart serial block : ℕ) (i : Linked) (image : Image) → AcceptsOnly m → Lawful m past → hart < m.harts
    → (may : MayHaveBlock (after past) hart serial block) → image_of (after past) serial ≡ Some i
    → IsArea (block - residue may.seg) (block_pages may.seg) block (storage_of i) image
    → AreBlockInstalls (after (past ++ Tls hart serial block ∷ [])) hart serial block (area_alone image)

-- a hart that got its block of an object's module has it
abbrev pub HartsHaveNewBlocks : Type 0
HartsHaveNewBlocks = (past : List Event) (hart serial block : ℕ) → MayHaveBlock (after past) hart serial block
    → tls_block (after (past ++ Tls hart serial block ∷ [])) hart serial ≡ Some block
