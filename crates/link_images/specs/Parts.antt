-- What is kept of images.
use Rattle.std.specs.Prelude.{ℕ, ◌+◌, List, [], map, Some, None}
use Rattle.std.specs.List.{range_with_len}
use Rattle.link_images.specs.declared.parts.Part.{Part}
use Rattle.relocator.specs.Relocated.{image_byte}
use Rattle.history_state.specs.State.{Linked}
use Rattle.history_calls.specs.Functions.{destructors}

-- what contracts see of parts, with how many more there is room for
pub record PartsWithRoom : Type 0 where
  pub parts : List Part
  pub room : ℕ

-- the bytes that an object gives for a block of its thread-local storage, as relocated at load
unfoldable pub storage_of : Linked → List ℕ
storage_of m = elim m.object.tls [
  | None ↦ []
  | Some seg ↦ map (λ k. image_byte m.object m.base m.serial m.bindings m.places (seg.vaddr + k)) (range_with_len 0 seg.filesz)
]

abbrev pub part_of : Linked → Part
part_of m = record { serial = m.serial; destructors = destructors m; storage = storage_of m }

abbrev pub serial_of : Part → ℕ
serial_of p = p.serial
