-- The names of an instruction are names of the grammar, as short as its operands.
use Rattle.std.proofs.Common.{◌≡◌, ap, subst, ℕ, ◌≤◌, ◌==◌, List, [], ◌∷◌, ◌++◌, length, arith, length-append}
use Rattle.std.specs.Prelude.{Some, Option, option_map, ⊤}
use Rattle.std.specs.Str.{byte}
use Rattle.asm_statement.specs.AsmWords.Names.{name}
use Rattle.asm_statement.specs.AsmWords.Registers.{register}
use Rattle.asm_statement.specs.declared.asm_words.mnemonics.AddressForm.{AddressForm}
use Rattle.asm_statement.specs.declared.asm_words.mnemonics.AddressForm.TheVariants as labels
use Rattle.asm_statement.specs.declared.asm_words.mnemonics.Form.{Form}
use Rattle.asm_statement.specs.declared.asm_words.mnemonics.Form.TheVariants as forms
use Rattle.asm_statement.specs.declared.asm_words.mnemonics.MemoryForm.{MemoryForm}
use Rattle.asm_statement.specs.declared.asm_words.mnemonics.MemoryForm.TheVariants as memories
use Rattle.asm_statement.specs.declared.asm_words.mnemonics.RegisterForm.{RegisterForm}
use Rattle.asm_statement.specs.declared.asm_words.mnemonics.RegisterForm.TheVariants as registers
use Rattle.asm_statement.specs.declared.asm_words.mnemonics.TargetForm.{TargetForm}
use Rattle.asm_statement.specs.declared.asm_words.mnemonics.TargetForm.TheVariants as targets
use Rattle.asm_statement.specs.declared.instruction.AddressOp.{AddressOp}
use Rattle.asm_statement.specs.declared.instruction.AddressOp.TheVariants as addresses
use Rattle.asm_statement.specs.declared.instruction.Instruction.{Instruction}
use Rattle.asm_statement.specs.declared.instruction.Instruction.TheVariants as the
use Rattle.asm_layout.specs.Expansions.{expansion, operand_of}
use Rattle.asm_grammar.specs.Grammar.{AreOperands}
use Rattle.asm_grammar.specs.Operands.{addressed, fence, instruction, jump, of_memory, of_registers, one_name, one_register, register_address, register_base, register_name, register_number, registers_base, registers_name, registers_number, targeted, three_registers, two_registers}
use Rattle.asm_grammar.specs.Texts.{ArePadded}
use Rattle.asm_laws.specs.Lemmas.Each.{Each}
use Rattle.asm_laws.specs.Said.{operand_names}
use Rattle.asm_laws.proofs.AsmWhole.Directives.{Ends, IsNameWithin, Short, a_name, all_parts, any, bound, if_some, mapped}

module _ (long : ℕ) where
  abbrev pub Named : Instruction → Type 0
  Named says = Each (IsNameWithin long) (operand_names (operand_of says))

  target_named : (form : TargetForm) (target : List ℕ) → IsNameWithin long target → Named (targeted form target)
  unfolding expansion
  target_named targets.Jump target is = (is, tt)
  target_named targets.Call target is = (is, tt)
  target_named targets.Tail target is = (is, tt)

  taken_named : (op : AddressOp) (rd : ℕ) (target : List ℕ) → IsNameWithin long target → Named (the.Address op rd target)
  unfolding expansion
  taken_named addresses.La rd target is = (is, tt)
  taken_named addresses.Lga rd target is = (is, tt)
  taken_named addresses.LaTlsGd rd target is = (is, tt)
  taken_named addresses.LaTlsIe rd target is = (is, tt)

  address_named : (form : AddressForm) (p : ℕ × List ℕ) → IsNameWithin long p.1 → Named (addressed form p)
  unfolding expansion
  address_named labels.Jal p is = (is, tt)
  address_named (labels.BranchZero op) p is = (is, tt)
  address_named (labels.Address op) p is = taken_named op p.0 p.1 is

  one_named : (operands : List (List ℕ)) → Each (Short long) operands → Ends (IsNameWithin long) (one_name operands)
  one_named (target ∷ []) (short, rest) = a_name long target short
  one_named _ short = tt

  second_named : (operands : List (List ℕ)) → Each (Short long) operands → Ends (λ p. IsNameWithin long p.1) (register_name operands)
  second_named (first ∷ second ∷ []) (one, (other, rest)) =
      bound (λ _. ⊤) (λ p. IsNameWithin long p.1) (register first) _ (any (register first))
      (λ rd _. bound (IsNameWithin long) (λ p. IsNameWithin long p.1) (name second) _ (a_name long second other) (λ target is. is))
  second_named _ short = tt

  third_named : (operands : List (List ℕ)) → Each (Short long) operands → Ends (λ p. IsNameWithin long p.2) (registers_name operands)
  third_named (first ∷ second ∷ third ∷ []) (one, (two, (other, rest))) =
      bound (λ _. ⊤) (λ p. IsNameWithin long p.2) (register first) _ (any (register first))
      (λ rs1 _. bound (λ _. ⊤) (λ p. IsNameWithin long p.2) (register second) _ (any (register second))
      (λ rs2 _. bound (IsNameWithin long) (λ p. IsNameWithin long p.2) (name third) _ (a_name long third other) (λ target is. is)))
  third_named _ short = tt

  nameless : {A : Type 0} (o : Option A) (f : A → Instruction) → ((x : A) → Named (f x)) → Ends Named (option_map f o)
  nameless o f none = mapped (λ _. ⊤) Named o f (any o) (λ x _. none x)

  memory_named : (form : MemoryForm) (operands : List (List ℕ)) → Ends Named (of_memory form operands)
  unfolding of_memory expansion
  memory_named (memories.Load op) operands = nameless (register_address operands) _ (λ p. tt)
  memory_named (memories.Store op) operands = nameless (register_address operands) _ (λ p. tt)
  memory_named (memories.Amo op access) operands = nameless (registers_base operands) _ (λ p. tt)
  memory_named (memories.Lr access) operands = nameless (register_base operands) _ (λ p. tt)
  memory_named (memories.Sc access) operands = nameless (registers_base operands) _ (λ p. tt)

  registers_named : (form : RegisterForm) (operands : List (List ℕ)) → Ends Named (of_registers form operands)
  unfolding of_registers expansion
  registers_named (registers.Plain op) operands = if_some Named (length operands == 0) (the.Plain op) tt
  registers_named (registers.Upper op) operands = nameless (register_number operands) _ (λ p. tt)
  registers_named registers.Li operands = nameless (register_number operands) _ (λ p. tt)
  registers_named (registers.Imm op) operands = nameless (registers_number operands) _ (λ p. tt)
  registers_named (registers.Op op) operands = nameless (three_registers operands) _ (λ p. tt)
  registers_named registers.Jalr operands = nameless (jump operands) _ (λ p. tt)
  registers_named registers.Mv operands = nameless (two_registers operands) _ (λ p. tt)
  registers_named registers.Jr operands = nameless (one_register operands) _ (λ p. tt)
  registers_named registers.Fence operands = nameless (fence operands) _ (λ p. tt)

  form_named : (form : Form) (operands : List (List ℕ)) → Each (Short long) operands → Ends Named (instruction form operands)
  unfolding instruction expansion
  form_named (forms.Target form) operands short = mapped (IsNameWithin long) Named (one_name operands) (targeted form) (one_named operands short) (target_named form)
  form_named (forms.Address form) operands short = mapped (λ p. IsNameWithin long p.1) Named (register_name operands) (addressed form) (second_named operands short) (address_named form)
  form_named (forms.Branch op) operands short = mapped (λ p. IsNameWithin long p.2) Named (registers_name operands) _ (third_named operands short) (λ p is. (is, tt))
  form_named (forms.Memory form) operands short = memory_named form operands
  form_named (forms.Register form) operands short = registers_named form operands

  -- operands stand between commas
  padded_short : (parts operands : List (List ℕ)) → ArePadded parts operands → Each (Short long) parts → Each (Short long) operands
  padded_short [] [] padded short = tt
  padded_short [] (operand ∷ operands) padded short = absurd padded
  padded_short (part ∷ parts) [] padded short = absurd padded
  padded_short (part ∷ parts) (operand ∷ operands) (is, padded) (one, short) =
      let whole = ap length is.whole in
      let outer = length-append is.front (operand ++ is.behind) in
      let inner = length-append operand is.behind in
      (omega (arith, whole, outer, inner, one), padded_short parts operands padded short)

  operands_short : (text : List ℕ) (operands : List (List ℕ)) → AreOperands text operands → length text ≤ long → Each (Short long) operands
  operands_short text [] are short = tt
  operands_short text (operand ∷ operands) (some, parts, split, padded) short =
      let joined = ap length split.joined in
      padded_short parts (operand ∷ operands) padded (all_parts (byte ",") long parts (omega (arith, joined, short)))

  pub instruction_named : (form : Form) (text : List ℕ) (operands : List (List ℕ)) (says : Instruction) → AreOperands text operands → length text ≤ long
      → instruction form operands ≡ Some says → Named says
  instruction_named form text operands says are short is = subst (Ends Named) is (form_named form operands (operands_short text operands are short))
