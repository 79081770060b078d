-- The bytes that relocations name (psABI, "Relocations").
use Rattle.std.specs.Prelude.{ℕ, ◌==◌, if◌then◌else◌, List, map}
use Rattle.std.specs.Option.{option_map_or}
use Rattle.std.specs.List.{slice_get}
use Rattle.ld_base.specs.declared.object.Reloc.{Reloc}
use Rattle.ld_base.specs.declared.object.Span.{Span}
use Rattle.ld_base.specs.declared.object.Symbol.{Symbol}

-- st_size of a symbol, 0 where there is none
abbrev pub size_of : List Symbol → ℕ → ℕ
size_of symbols i = option_map_or (λ s. s.size) (slice_get symbols i) 0

-- a doubleword
abbrev pub doubleword : ℕ → Span
doubleword place = record { start = place; size = 8 }

-- R_RISCV_NONE (0) names no byte, R_RISCV_COPY (4) those of its symbol, and any other relocation a doubleword
abbrev pub named_by : List Symbol → Reloc → Span
named_by symbols r = record { start = r.place; size = if r.kind == 0 then 0 else if r.kind == 4 then size_of symbols r.symbol else 8 }

-- the bytes that slots name, each by its type
abbrev pub slot_ranges : List Symbol → List Reloc → List Span
slot_ranges symbols slots = map (named_by symbols) slots
