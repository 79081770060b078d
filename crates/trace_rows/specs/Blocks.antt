-- Where new blocks of thread-local storage stand.
use Rattle.std.specs.Prelude.{◌≡◌, ℕ, ◌+◌, List, Some, Result, Ok, Err}
use Rattle.address_space.specs.Pages.{Fits, IsFirstFit}
use Rattle.address_space.specs.declared.regions.NoRoom.{NoRoom}
use Rattle.history_state.specs.Areas.{free_pages}
use Rattle.history_state.specs.Storage.{block_align, block_pages, residue}
use Rattle.ld_base.specs.declared.object.TlsSeg.{TlsSeg}
use Rattle.trace_replay.specs.Lists.{Lists}
use Rattle.trace_replay.specs.Steps.{storage_in}

-- ---- for the code of this crate alone

-- a block of the segment stands here, in the first pages that have room
pub record StandsAt (free : List ℕ) (seg : TlsSeg) (address : ℕ) : Type 0 where
  pub pages : ℕ
  pub first : IsFirstFit free (block_pages seg) (block_align seg) pages
  pub is : address ≡ pages + residue seg

-- no pages have room for it
pub record HasNoRoom (free : List ℕ) (seg : TlsSeg) (count : ℕ) : Type 0 where
  pub none : (at : ℕ) → ¬ (Fits free (block_pages seg) (block_align seg) at)
  pub is : count ≡ block_pages seg

abbrev pub PlacesOf : List ℕ → TlsSeg → Result ℕ NoRoom → Type 0
PlacesOf free seg (Ok address) = StandsAt free seg address
PlacesOf free seg (Err none) = HasNoRoom free seg none.0

-- so does one of a mapped object's segment
pub record IsPlaced (l : Lists) (serial address : ℕ) : Type 0 where
  pub seg : TlsSeg
  pub of : storage_in l.namespaces serial ≡ Some seg
  pub stands : StandsAt (free_pages l.ranges) seg address
