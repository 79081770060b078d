-- Where a new block stands, and with which words.
use Rattle.std.specs.Prelude.{◌≡◌, ℕ, ◌+◌, List}
use Rattle.address_space.specs.Pages.{Fits, IsFirstFit}
use Rattle.link_open_images.specs.AreaImages.Areas.{IsArea}
use Rattle.ld_base.specs.declared.object.TlsSeg.{TlsSeg}
use Rattle.history_state.specs.Storage.{block_align, block_pages, residue}
use Rattle.seg_image.specs.declared.image.Image.{Image}
use Rattle.link_open_images.specs.NewBlocks.Laws.{area_alone}
use Rattle.link_open_images.specs.declared.new_blocks.placing.BlockFault.{BlockFault}
use Rattle.link_open_images.specs.declared.new_blocks.placing.BlockFault.TheVariants.{Memory, NoRoom}
use Rattle.link_open_images.specs.declared.new_blocks.placing.NewBlock.{NewBlock}

-- it stands at its segment's residue in the first pages that have room, and begins with these bytes
pub record IsNewBlock (free : List ℕ) (seg : TlsSeg) (bytes : List ℕ) (b : NewBlock) : Type 0 where
  pub first : IsFirstFit free (block_pages seg) (block_align seg) b.start
  pub pages : b.pages ≡ block_pages seg
  pub address : b.address ≡ b.start + residue seg
  pub image : Image
  pub installs : b.installs ≡ area_alone image
  pub area : IsArea b.start b.pages b.address bytes image

-- so many pages have no room
pub record LacksPages (free : List ℕ) (seg : TlsSeg) (pages : ℕ) : Type 0 where
  pub is : pages ≡ block_pages seg
  pub none : (at : ℕ) → ¬ (Fits free (block_pages seg) (block_align seg) at)

abbrev pub IsBlockFault : List ℕ → TlsSeg → BlockFault → Type 0
IsBlockFault free seg (NoRoom pages) = LacksPages free seg pages
IsBlockFault free seg Memory = Unit {0}
