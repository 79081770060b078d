-- What a request of a block of thread-local storage gives.
use Rattle.std.specs.Prelude.{◌≡◌, ℕ, List, [], ◌++◌, Some}
use Rattle.link_images.specs.Parts.{storage_of}
use Rattle.ld_base.specs.declared.linking.Loaded.{Loaded}
use Rattle.ld_base.specs.declared.object.TlsSeg.{TlsSeg}
use Rattle.history_event.specs.declared.event.Event.{Event}
use Rattle.history_event.specs.declared.hart_end.HartEnd.{HartEnd}
use Rattle.history_event.specs.declared.hart_end.HartEnd.TheVariants as ends
use Rattle.history_event.specs.declared.state.Module.{Module}
use Rattle.history_state.specs.After.{after}
use Rattle.history_state.specs.Areas.{free_pages}
use Rattle.history_state.specs.Memory.{image_of}
use Rattle.history_state.specs.Objects.{object_at}
use Rattle.history_state.specs.State.{Linked, State}
use Rattle.history_calls.specs.Answer.{over, returns}
use Rattle.history_calls.specs.Call.{locates}
use Rattle.history_calls.specs.Gives.{HasBlock, variable_at}
use Rattle.history_calls.specs.Served.{Makes}
use Rattle.tls_blocks.specs.Numbers.{module_at}
use Rattle.link_open_images.specs.NewBlocks.Placing.{IsNewBlock, LacksPages}
use Rattle.link_open_images.specs.declared.new_blocks.placing.BlockFault.{BlockFault}
use Rattle.link_open_images.specs.declared.new_blocks.placing.BlockFault.TheVariants as blocks
use Rattle.link_open_images.specs.declared.new_blocks.placing.NewBlock.{NewBlock}
use Rattle.link_state.specs.Granting.{GivesIn}
use Rattle.link_state.specs.Table.{LinkTable}
use Rattle.link_state.specs.declared.faults.TlsFault.{TlsFault}
use Rattle.link_state.specs.declared.faults.TlsFault.TheVariants as faults

-- the module with the number is that of the object
pub record IsModuleOf (s : State) (number serial : ℕ) : Type 0 where
  pub of : Module
  pub there : module_at s.modules number ≡ Some of
  pub is : of.serial ≡ serial

-- the hart's block of a module: what the request appended, and what it made
pub record IsLocated (table : LinkTable) (hart number block : ℕ) (new : LinkTable) : Type 0 where
  pub given : List Event
  pub gives : (offset : ℕ) → GivesIn table hart (locates number offset) given (returns (variable_at block offset))
  pub events : new.events ≡ table.events ++ given
  pub harts : new.harts ≡ table.harts
  pub made : Makes (after new.events) given new.made
  pub own : HasBlock (after new.events) hart number block

-- nothing has changed, and the hart ends
pub record EndsUnlocated (table : LinkTable) (hart number : ℕ) (reason : HartEnd) (new : LinkTable) : Type 0 where
  pub gives : (offset : ℕ) → GivesIn table hart (locates number offset) [] (over reason)
  pub is : new ≡ table

abbrev pub IsNotLocated : LinkTable → ℕ → ℕ → TlsFault → LinkTable → Type 0
IsNotLocated table hart number (faults.BadModule bad) new = EndsUnlocated table hart number (ends.BadModule bad) new
IsNotLocated table hart number (faults.NoRoom pages) new = EndsUnlocated table hart number (ends.AddressSpaceFull pages) new
IsNotLocated table hart number faults.Memory new = new ≡ table

-- ---- a block that is to be made

-- an object with a segment of thread-local storage, and its image
pub record IsStored (s : State) (serial : ℕ) : Type 0 where
  pub object : Loaded
  pub mapped : object_at s serial ≡ Some object
  pub seg : TlsSeg
  pub storage : object.object.tls ≡ Some seg
  pub image : Linked
  pub of : image_of s serial ≡ Some image

pub record PlansBlock (s : State) (serial : ℕ) (b : NewBlock) : Type 0 where
  pub stored : IsStored s serial
  pub is : IsNewBlock (free_pages s.ranges) stored.seg (storage_of stored.image) b

pub record LacksBlock (s : State) (serial pages : ℕ) : Type 0 where
  pub stored : IsStored s serial
  pub lacks : LacksPages (free_pages s.ranges) stored.seg pages

abbrev pub PlansNone : State → ℕ → BlockFault → Type 0
PlansNone s serial (blocks.NoRoom pages) = LacksBlock s serial pages
PlansNone s serial blocks.Memory = Unit {0}
