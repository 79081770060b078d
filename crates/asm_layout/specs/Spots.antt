-- Where sections and labels stand in the object.
use Rattle.std.specs.Prelude.{ℕ, max, ◌&&◌, nat_lt, if◌then◌else◌, List, fold, length, Option, Some, None, unwrap_or}
use Rattle.asm_write.specs.declared.contents.Extent.{Extent}
use Rattle.asm_write.specs.declared.contents.Sections.{Sections}
use Rattle.asm_write.specs.declared.contents.Spot.{Spot}
use Rattle.asm_write.specs.declared.part.Part.{Part}
use Rattle.asm_write.specs.declared.part.Part.TheVariants as parts
use Rattle.asm_statement.specs.declared.directive.Section.{Section}
use Rattle.asm_statement.specs.declared.directive.Section.TheVariants as sections
use Rattle.asm_statement.specs.declared.directive.Directive.TheVariants as directives
use Rattle.asm_statement.specs.declared.line.Statement.{Statement}
use Rattle.asm_statement.specs.declared.line.Statement.TheVariants as statements
use Rattle.asm_statement.specs.declared.line.Line.{Line}
use Rattle.asm_layout.specs.declared.place.Place.{Place}
use Rattle.asm_layout.specs.Places.{filled, is_section, section_behind}
use Rattle.asm_layout.specs.Labels.{label}
use Rattle.asm_layout.specs.Names.{is_got_plt}
use Rattle.asm_layout.specs.Uses.{slots}

-- the part of a section
abbrev pub part_of : Section → Part
part_of sections.Text = parts.Text
part_of sections.Rodata = parts.Rodata
part_of sections.Relro = parts.Relro
part_of sections.Data = parts.Data
part_of sections.Bss = parts.Bss
part_of sections.Tdata = parts.Tdata
part_of sections.Tbss = parts.Tbss

abbrev pub spot_of : Place → Spot
spot_of place = record { part = part_of place.section; offset = place.offset }

-- the spot of a label; `_GOTPLT_`, where no line defines it, is the start of .got.plt where there is a slot
abbrev pub got_plt_spot : List Line → List ℕ → Option Spot
got_plt_spot lines name = if is_got_plt name && nat_lt 0 (length (slots lines)) then Some (record { part = parts.GotPlt; offset = 0 }) else None

abbrev pub spot_or : List Line → List ℕ → Option Place → Option Spot
spot_or lines name (Some place) = Some (spot_of place)
spot_or lines name None = got_plt_spot lines name

unfoldable pub label_spot : List Line → List ℕ → Option Spot
label_spot lines name = spot_or lines name (label lines name)

-- the same where the name is one, as in a source without a fault
abbrev pub own_spot : List Line → List ℕ → Spot
own_spot lines name = unwrap_or (label_spot lines name) (record { part = parts.Head; offset = 0 })

-- the greatest alignment that lines ask for in a section, or what it has anyway
abbrev pub aligned_by : ℕ → Option Statement → ℕ
aligned_by greatest (Some (statements.Directive (directives.Align alignment))) = max greatest alignment
aligned_by greatest _ = greatest

abbrev pub aligning : Section → Line → Section × ℕ → Section × ℕ
aligning section line before =
    (section_behind before.0 line.statement, (if is_section section before.0 then aligned_by before.1 line.statement else before.1))

abbrev pub least_alignment : Section → ℕ
least_alignment sections.Text = 16
least_alignment sections.Rodata = 1
least_alignment sections.Relro = 1
least_alignment sections.Data = 1
least_alignment sections.Bss = 1
least_alignment sections.Tdata = 1
least_alignment sections.Tbss = 1

unfoldable pub section_align : List Line → Section → ℕ
section_align lines section = (fold (λ before line. aligning section line before) (sections.Text, least_alignment section) lines).1

abbrev pub extent_of : List Line → Section → Extent
extent_of lines section = record { size = filled section lines; align = section_align lines section }

unfoldable pub sections_of : List Line → Sections
sections_of lines = record {
  rodata = extent_of lines sections.Rodata;
  text = extent_of lines sections.Text;
  relro = extent_of lines sections.Relro;
  tdata = extent_of lines sections.Tdata;
  tbss = extent_of lines sections.Tbss;
  «data» = extent_of lines sections.Data;
  bss = extent_of lines sections.Bss;
}
