-- No number and no distance of a generated source is out of range.
use Rattle.std.proofs.Common.{◌≡◌, sym, subst, refl, ℕ, ◌+◌, ◌*◌, ◌^◌, ◌<◌, ◌≤◌, ◌&&◌, Bool, true, false, cond, nat_lt, if◌then◌else◌, pos, ◌-ℤ◌, List, [], ◌∷◌, length, take, Option, Some, None, option_map, position, arith}
use Rattle.std.specs.Prelude.{⊤}
use Rattle.std.specs.List.{position_or_len}
use Rattle.std.specs.Str.{bytes_eq}
use Rattle.std.proofs.lemmas.Bool.{and_from, ltb-true}
use Rattle.std.proofs.lemmas.Int.{ints}
use Rattle.rv_isa.specs.declared.instr.Instr.TheVariants as instrs
use Rattle.rv_isa.specs.declared.operation.RegOp.{RegOp}
use Rattle.asm_write.specs.declared.part.Part.{Part}
use Rattle.asm_write.specs.declared.part.Part.TheVariants as parts
use Rattle.asm_write.specs.Starts.{starts_of}
use Rattle.asm_statement.specs.declared.directive.Directive.TheVariants as directives
use Rattle.asm_statement.specs.declared.directive.Export.TheVariants as exports
use Rattle.asm_statement.specs.declared.instruction.PlainOp.{PlainOp}
use Rattle.asm_statement.specs.declared.instruction.PlainOp.TheVariants as plains
use Rattle.asm_statement.specs.declared.instruction.Instruction.TheVariants as instructions
use Rattle.asm_statement.specs.declared.line.Line.{Line}
use Rattle.asm_statement.specs.declared.line.Statement.{Statement}
use Rattle.asm_statement.specs.declared.line.Statement.TheVariants as statements
use Rattle.asm_layout.specs.Contents.{contents_of}
use Rattle.asm_layout.specs.Expansions.{Code, expansion, lower, upper}
use Rattle.asm_layout.specs.Faults.{all_have_form, for_statement, has_form, instruction_fits, statement_fits}
use Rattle.asm_layout.specs.Labels.{defines, label}
use Rattle.asm_layout.specs.Names.{is_got_plt, is_preemptible}
use Rattle.asm_layout.specs.Parts.{start_of}
use Rattle.asm_layout.specs.Places.{place_at, section_after}
use Rattle.asm_layout.specs.Spots.{part_of}
use Rattle.asm_layout.specs.Uses.{slots}
use Rattle.asm_layout.specs.Words.{address, address_at, call_address, distance, label_address, label_or, operand_value, slot_address, target}
use Rattle.asm_laws.specs.AsmBounds.Lemmas.Counts.{slots_few}
use Rattle.lib_gen.proofs.GeneratedDenotes.Ends.{EndsLow}
use Rattle.lib_gen.proofs.GeneratedDenotes.Forms.{IsNear, jump_has_form, li_has_form, low_li}
use Rattle.lib_gen.proofs.GeneratedDenotes.Plain.{ArePlain, IsPlain, few_before}

-- an address that is there is low
abbrev IsLowAddress : Option ℕ → Type 0
IsLowAddress None = ⊤
IsLowAddress (Some address) = address ≤ 2 ^ 24

near : (here there : ℕ) → here ≤ 2 ^ 24 → there ≤ 2 ^ 24 → IsNear (pos there -ℤ pos here)
near here there low high = (omega (arith, ints), omega (arith, ints))

module _ (lines : List Line) (plain : ArePlain lines) (count : length lines ≤ 8200) (ends : EndsLow (starts_of (contents_of lines))) where
  low_start : (part : Part) → start_of lines part ≤ 2 ^ 23
  low_start part = let low = ends part in omega (arith, low)

  low_place : (k : ℕ) → address lines (place_at lines k) ≤ 2 ^ 24
  low_place k =
      let start = low_start (part_of (place_at lines k).section) in
      let few = few_before (section_after (take k lines)) lines k plain in
      omega (arith, start, few, count)

  low_slot : (name : List ℕ) → IsLowAddress (slot_address lines name)
  unfolding slot_address
  low_slot name =
      let start = low_start parts.Plt in
      let few = slots_few lines in
      let at = position_or_len (bytes_eq name) (slots lines) in
      let P : Bool → Type 0 = λ b. nat_lt at (length (slots lines)) ≡ b
      → IsLowAddress (option_map (λ slot. start_of lines parts.Plt + 32 + 16 * slot) (cond b (Some at) None)) in
      let there : P true = λ is. let inside = ltb-true at (length (slots lines)) is in omega (arith, start, few, inside, count) in
      let cases : (b : Bool) → P b = λ b. elim b as P [ true ↦ there | false ↦ λ _. tt ] in
      cases (nat_lt at (length (slots lines))) refl

  low_table : (b : Bool) → IsLowAddress (if b then Some (start_of lines parts.GotPlt) else None)
  low_table true = let start = low_start parts.GotPlt in omega (arith, start)
  low_table false = tt

  low_label : (name : List ℕ) → IsLowAddress (label_address lines name)
  unfolding label_address label
  low_label name =
      elim (position (defines name) lines) as (λ k. IsLowAddress (label_or lines name (option_map (place_at lines) k))) [
        | None ↦ low_table (is_got_plt name && nat_lt 0 (length (slots lines)))
        | Some k ↦ low_place k
      ]

  low_target : (name : List ℕ) → IsLowAddress (call_address lines name)
  unfolding call_address
  low_target name =
      elim (is_preemptible lines name) as (λ b. IsLowAddress (if b then slot_address lines name else label_address lines name)) [
        | true ↦ low_slot name
        | false ↦ low_label name
      ]

  -- Instructions

  jumps : (k : ℕ) (name : List ℕ) (rd link by : ℕ)
      → all_have_form (option_map (λ d. instrs.Auipc rd (upper d) ∷ instrs.Jalr link by (lower d) ∷ []) (operand_value lines (address_at lines k) (Code name))) ≡ true
  unfolding operand_value target
  jumps k name rd link by = by_target (call_address lines name) (low_target name)
    where
      by_target : (there : Option ℕ) → IsLowAddress there
          → all_have_form (option_map (λ d. instrs.Auipc rd (upper d) ∷ instrs.Jalr link by (lower d) ∷ []) (distance (address_at lines k) there)) ≡ true
      by_target None low = refl
      by_target (Some there) low = jump_has_form (pos there -ℤ pos (address_at lines k)) rd link by (near (address_at lines k) there (low_place k) low)

  plain_fits : (k : ℕ) (op : PlainOp) → instruction_fits lines k (instructions.Plain op) ≡ true
  unfolding expansion operand_value has_form
  plain_fits k plains.Ecall = refl
  plain_fits k plains.Ebreak = refl
  plain_fits k plains.Nop = refl
  plain_fits k plains.Ret = refl

  li_fits : (k rd n : ℕ) → n < 100 → instruction_fits lines k (instructions.Li rd (record { is_negative = false; magnitude = Some n })) ≡ true
  unfolding expansion operand_value
  li_fits k rd n low = and_from _ _ (low_li n low) (li_has_form rd n low)

  op_fits : (k : ℕ) (op : RegOp) (rd rs1 rs2 : ℕ) → instruction_fits lines k (instructions.Op op rd rs1 rs2) ≡ true
  unfolding expansion operand_value has_form
  op_fits k op rd rs1 rs2 = refl

  mv_fits : (k rd rs : ℕ) → instruction_fits lines k (instructions.Mv rd rs) ≡ true
  unfolding expansion operand_value has_form
  mv_fits k rd rs = refl

  pub one_fits : (k : ℕ) (statement : Option Statement) → IsPlain statement → for_statement (statement_fits lines k) statement ≡ true
  unfolding expansion
  one_fits k None is = refl
  one_fits k (Some (statements.Directive (directives.Soname name))) is = refl
  one_fits k (Some (statements.Directive (directives.Needed name))) is = refl
  one_fits k (Some (statements.Directive (directives.Export exports.Global name))) is = refl
  one_fits k (Some (statements.Directive (directives.Kind kind))) is = refl
  one_fits k (Some (statements.Directive _)) is = absurd is
  one_fits k (Some (statements.Instruction (instructions.Plain op))) is = plain_fits k op
  one_fits k (Some (statements.Instruction (instructions.Call name))) is = jumps k name 1 1 1
  one_fits k (Some (statements.Instruction (instructions.Tail name))) is = jumps k name 6 0 6
  one_fits k (Some (statements.Instruction (instructions.Li rd number))) (value, same, low) =
      subst (λ number. instruction_fits lines k (instructions.Li rd number) ≡ true) (sym same) (li_fits k rd value low)
  one_fits k (Some (statements.Instruction (instructions.Op op rd rs1 rs2))) is = op_fits k op rd rs1 rs2
  one_fits k (Some (statements.Instruction (instructions.Mv rd rs))) is = mv_fits k rd rs
  one_fits k (Some (statements.Instruction _)) is = absurd is
