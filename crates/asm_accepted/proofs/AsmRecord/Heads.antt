-- The head that the contents of a source say is the one that its statements say.
use Rattle.std.proofs.Common.{◌≡◌, ap, refl, ℕ, ◌+◌, ◌%◌, ◌^◌, ◌<◌, ◌&&◌, true, false, nat_lt, if◌then◌else◌, List, length, take, arith}
use Rattle.std.specs.Prelude.{Option, Some, None, option_map, position, unwrap_or}
use Rattle.ld_base.specs.declared.parts.Head.{Head}
use Rattle.asm_write.specs.declared.part.Part.{Part}
use Rattle.asm_write.specs.declared.part.Part.TheVariants as parts
use Rattle.asm_write.specs.Starts.{address_in, starts_of}
use Rattle.asm_write.specs.Values.{entry_of}
use Rattle.asm_laws.specs.ElfSpelled.Said.{said_head}
use Rattle.asm_statement.specs.declared.directive.Section.{Section}
use Rattle.asm_statement.specs.declared.line.Line.{Line}
use Rattle.asm_layout.specs.Contents.{contents_of, entry_name}
use Rattle.asm_layout.specs.Labels.{defines, label}
use Rattle.asm_layout.specs.Names.{is_got_plt}
use Rattle.asm_layout.specs.Parts.{start_of}
use Rattle.asm_layout.specs.Places.{filled, place_at}
use Rattle.asm_layout.specs.Spots.{label_spot, part_of, spot_of, spot_or}
use Rattle.asm_layout.specs.Uses.{slots}
use Rattle.asm_layout.specs.Words.{address, label_address, label_or}
use Rattle.asm_accepted.specs.AsmRecord.Record.{head_of}

module _ (lines : List Line) (small : (k : ℕ) (section : Section) → filled section (take k lines) < 2 ^ 53) (low : (part : Part) → start_of lines part < 2 ^ 62) where
  wrapped_place : (k : ℕ) → address_in (starts_of (contents_of lines)) (spot_of (place_at lines k)) ≡ address lines (place_at lines k)
  wrapped_place k =
      let start = low (part_of (place_at lines k).section) in
      let offset = small k (place_at lines k).section in
      omega (arith, start, offset)

  wrapped_start : (start_of lines parts.GotPlt + 0) % 2 ^ 64 ≡ start_of lines parts.GotPlt
  wrapped_start = let start = low parts.GotPlt in omega (arith, start)

  same_spot : (name : List ℕ) (k : Option ℕ)
      → entry_of (starts_of (contents_of lines)) (spot_or lines name (option_map (place_at lines) k)) ≡ unwrap_or (label_or lines name (option_map (place_at lines) k)) 0
  same_spot name (Some k) = wrapped_place k
  same_spot name None =
      elim (is_got_plt name && nat_lt 0 (length (slots lines))) as (λ b.
      entry_of (starts_of (contents_of lines)) (if b then Some (record { part = parts.GotPlt; offset = 0 }) else None) ≡ unwrap_or (if b then Some (start_of lines parts.GotPlt) else None) 0) [
        | true ↦ wrapped_start
        | false ↦ refl
      ]

  same_entry : (name : List ℕ) → entry_of (starts_of (contents_of lines)) (label_spot lines name) ≡ unwrap_or (label_address lines name) 0
  unfolding label label_spot label_address
  same_entry name = same_spot name (position (defines name) lines)

  pub same_head : said_head (contents_of lines) ≡ head_of lines
  unfolding contents_of
  same_head =
      let of_entry : ℕ → Head = λ entry. record (head_of lines) { entry = entry } in
      ap of_entry (same_entry (entry_name lines))
