-- Lines, worked out by hand.
use Rattle.std.specs.Prelude.{ℕ, true, false, ◌≡◌, List, [], ◌∷◌, Some, None, Result, Ok, Err, codes}
use Rattle.asm_grammar.specs.Reading.{read_line}
use Rattle.asm_statement.specs.declared.instruction.Width.TheVariants as widths
use Rattle.asm_statement.specs.declared.instruction.Instruction.TheVariants as the
use Rattle.asm_statement.specs.declared.directive.Directive.TheVariants as directives
use Rattle.asm_statement.specs.declared.directive.Doubleword.TheVariants as doublewords
use Rattle.asm_statement.specs.declared.line.Statement.TheVariants as statements
use Rattle.asm_statement.specs.declared.line.Line.{Line}
use Rattle.rv_isa.specs.declared.operation.BranchOp.TheVariants as branches
use Rattle.rv_isa.specs.declared.operation.ImmOp.TheVariants as imms
use Rattle.rv_isa.specs.declared.operation.StoreOp.TheVariants as stores
use Rattle.ld_base.specs.declared.fault.AsmCause.{AsmCause}
use Rattle.ld_base.specs.declared.fault.AsmCause.TheVariants as causes

-- lines with what each says, or why it says nothing
abbrev pub worked : List (List ℕ × Result Line AsmCause)
worked =
    (codes "", Ok (record { label = None; statement = None })) ∷
    (codes " # note", Ok (record { label = None; statement = None })) ∷
    (codes "at: # note", Ok (record { label = Some (codes "at"); statement = None })) ∷ (
      codes "at: addi a0, sp, -0x10",
      Ok (record {
        label = Some (codes "at");
        statement = Some (statements.Instruction (the.Imm imms.Addi 10 2 (record { is_negative = true; magnitude = Some 16 })));
      }),
    ) ∷ (
      codes "sd ra, 8 ( sp )",
      Ok (record {
        label = None;
        statement = Some (statements.Instruction (the.Store stores.Sd 2 1 (record { is_negative = false; magnitude = Some 8 })));
      }),
    ) ∷ (
      codes "sc.d.aq a0, a1, (a2)",
      Ok (record {
        label = None;
        statement = Some (statements.Instruction (the.Sc (record { width = widths.Doubleword; aq = true; rl = false }) 10 12 11));
      }),
    ) ∷ (
      codes "jalr ra, 8(t0)",
      Ok (record {
        label = None;
        statement = Some (statements.Instruction (the.Jalr 1 5 (record { is_negative = false; magnitude = Some 8 })));
      }),
    ) ∷
    (codes "beq a0, x0, at", Ok (record { label = None; statement = Some (statements.Instruction (the.Branch branches.Beq 10 0 (codes "at"))) })) ∷
    (codes "call f#g", Ok (record { label = None; statement = Some (statements.Instruction (the.Call (codes "f"))) })) ∷
    (codes ".asciz \"a#b\" # c", Ok (record { label = None; statement = Some (statements.Directive (directives.Asciz (codes "a#b"))) })) ∷ (
      codes ".dword p + 8",
      Ok (record {
        label = None;
        statement = Some (statements.Directive (directives.Dword (doublewords.Address (codes "p") (record { is_negative = false; magnitude = Some 8 }))));
      }),
    ) ∷ (
      codes ".need f@V so weak",
      Ok (record {
        label = None;
        statement = Some (statements.Directive (directives.Need (record { name = codes "f"; version = codes "V"; file = codes "so"; is_weak = true })));
      }),
    ) ∷ (
      codes ".flags now",
      Ok (record {
        label = None;
        statement = Some (statements.Directive (directives.Flags (record { symbolic = false; bind_now = true; nodelete = false })));
      }),
    ) ∷
    (codes ".align 16", Ok (record { label = None; statement = Some (statements.Directive (directives.Align 16)) })) ∷
    (codes ".align 3", Err causes.BadOperand) ∷
    (codes ".flags", Err causes.BadOperand) ∷
    (codes ".data x", Err causes.BadOperand) ∷
    (codes "adi a0, a0, 1", Err causes.UnknownWord) ∷
    (codes "nop,", Err causes.BadStatement) ∷
    (codes "a:b: nop", Err causes.BadStatement) ∷
    []

-- each line is read so
abbrev pub AreRead : List (List ℕ × Result Line AsmCause) → Type 0
AreRead [] = Unit {0}
AreRead (row ∷ rows) = (read_line row.0 ≡ row.1) × AreRead rows
