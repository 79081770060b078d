-- What an opening brings.
use Rattle.std.specs.Prelude.{◌≡◌, ℕ, Bool, List, Some, if◌then◌else◌}
use Rattle.std.specs.List.{slice_get}
use Rattle.link_images.specs.ImageReads.Reads.{IsImageOf}
use Rattle.ld_base.specs.declared.linking.Choice.{Choice}
use Rattle.ld_base.specs.declared.linking.Loaded.{Loaded}
use Rattle.history_graph.specs.declared.graph.Edge.{Edge}
use Rattle.history_state.specs.Grants.{target_of}
use Rattle.history_state.specs.Links.{edges_to}
use Rattle.history_state.specs.State.{Linked, Statics}
use Rattle.history_state.specs.Storage.{statics_with}
use Rattle.seg_image.specs.declared.image.Image.{Image}
use Rattle.tls_blocks.specs.Numbers.{ModuleTable}

-- the static blocks of modules
abbrev pub statics_of : ModuleTable → Statics
statics_of table = record { size = table.size; tp = table.tp }

-- startup's new objects have static blocks, later ones haven't
abbrev pub statics_after : Bool → List Loaded → Statics → Statics
statics_after startup added st = if startup then statics_with added st else st

-- the edge from an object to what a relocation of it chose
abbrev pub choice_edges : ℕ → Choice → List Edge
choice_edges source choice = edges_to source (target_of choice)

-- the image of an object is that of its record
pub record IsOfRecord (record_of : Loaded → Linked) (o : Loaded) (image : Image) : Type 0 where
  pub serial : (record_of o).serial ≡ o.serial
  pub is : IsImageOf (record_of o) o.object o.base image

abbrev pub AreOfRecords : (Loaded → Linked) → List Loaded → List Image → Type 0
AreOfRecords record_of objects images =
    (k : ℕ) (o : Loaded) (image : Image) → slice_get objects k ≡ Some o → slice_get images k ≡ Some image → IsOfRecord record_of o image
