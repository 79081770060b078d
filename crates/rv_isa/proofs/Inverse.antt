-- `instr_of` is the inverse of `word_of`.
use Rattle.std.proofs.Common.{◌≡◌, ◌⊎◌, inl, inr, ℕ, ◌+◌, ◌-◌, ◌/◌, ◌^◌, ◌<◌, ℤ, Bool, true, false, Option, Some, None, refl, sym, ap, subst, ◌∙◌, arith, lit<}
use Rattle.std.specs.Prelude.{IfSome, ◌==◌}
use Rattle.std.specs.Int.{from_bool}
use Rattle.std.proofs.Math.Nat.{div-one, mod-eq_of_lt}
use Rattle.std.proofs.lemmas.Int.{ints}
use Rattle.std.specs.Option.{option_map}
use Rattle.std.proofs.lemmas.Bool.{eqb-true}
use Rattle.rv_isa.specs.declared.operation.AmoOp.{AmoOp}
use Rattle.rv_isa.specs.declared.operation.AmoOp.TheVariants.{Swap}
use Rattle.rv_isa.specs.declared.operation.ImmOp.{ImmOp}
use Rattle.rv_isa.specs.declared.operation.ImmOp.TheVariants.{Slli, Srli, Srai, Addiw, Slliw, Srliw, Sraiw}
use Rattle.rv_isa.specs.declared.operation.RegOp.{RegOp}
use Rattle.rv_isa.specs.declared.operation.RegOp.TheVariants.{Addw, Sllw, Srlw, Subw, Sraw, Mulw, Divw, Divuw, Remw, Remuw}
use Rattle.rv_isa.specs.declared.instr.Instr.{Instr}
use Rattle.rv_isa.specs.declared.instr.Instr.TheVariants.{Lui, Auipc, Jal, Jalr, Branch, Load, Store, Imm, Op, Amo, Lr, Sc, Fence, Ecall, Ebreak}
use Rattle.rv_isa.specs.Word.{bits, HasFields}
use Rattle.rv_isa.specs.Opcodes.{Upper, Number, Shift, imm_code, reg_code, amo_code}
use Rattle.rv_isa.specs.Laws.{WordsHaveFields, DecodingInverts, OneDecoding}
use Rattle.rv_isa.specs.Encoding.{Decodes, fields_of, word_of, upper_fields, size_code, FitsUpper, IsAtomicSize, IsInstr, HasForm, HasRegisters}
use Rattle.rv_isa.specs.Reading.{branch_of, load_of, store_of, amo_of, reg_of, imm_of, is_upper, number_of, size_of, atomic_of, with_opcode, instr_of, imm_ops, reg_ops, has_imm_code, has_reg_code, i_number, s_number, b_number, u_number, j_number}
use Rattle.std.proofs.lemmas.Bool.Decides.{nat_tests}
use Rattle.rv_isa.proofs.Options.{if_keeps, map_keeps, and_then_keeps, found_passes, and_both}
use Rattle.rv_isa.proofs.Rows.{Fit, bits-below, bits-zero, reads-joined, joined-reads}
use Rattle.rv_isa.proofs.Codes.{branch_of-code, load_of-code, store_of-code, amo_of-code, reg_of-code, imm_of-code, code-branch_of, code-load_of, code-store_of, code-amo_of, branch_code-below, load_code-below, store_code-below, amo_code-below, reg_code-below}
use Rattle.rv_isa.proofs.Numbers.{i_number-is, s_number-is, b_number-is, u_number-is, j_number-is, upper-is, i_number-within, i_number-part, s_number-within, s_number-parts, b_number-within, b_number-parts, j_number-within, j_number-parts, u_number-within, u_number-parts}

-- ---- each field fits its width

flag-below : (flag : Bool) → from_bool flag < 2 ^ 1
flag-below true = lit< tt
flag-below false = lit< tt

size-below : (size : ℕ) → IsAtomicSize size → size_code size < 2 ^ 3
size-below size h = elim h [ inl e ↦ rw e (lit< tt) | inr e ↦ rw e (lit< tt) ]

imm-fit : (op : ImmOp) (n : ℤ) → let code = imm_code op in Fit (upper_fields code.2 n)
imm-fit Slli n = (bits-below 0 6 _, (lit< tt, tt))
imm-fit Srli n = (bits-below 0 6 _, (lit< tt, tt))
imm-fit Srai n = (bits-below 0 6 _, (lit< tt, tt))
imm-fit Slliw n = (bits-below 0 5 _, (lit< tt, tt))
imm-fit Srliw n = (bits-below 0 5 _, (lit< tt, tt))
imm-fit Sraiw n = (bits-below 0 5 _, (lit< tt, tt))
imm-fit _ n = (bits-below 0 12 _, tt)

imm_code-below : (op : ImmOp) → let code = imm_code op in (code.0 < 2 ^ 7) × (code.1 < 2 ^ 3)
imm_code-below Slli = (lit< tt, lit< tt)
imm_code-below _ = (lit< tt, lit< tt)

pub fields-fit : (instr : Instr) → IsInstr instr → Fit (fields_of instr)
fields-fit (Lui rd n) h = (lit< tt, (h.1, (bits-below 12 20 _, tt)))
fields-fit (Auipc rd n) h = (lit< tt, (h.1, (bits-below 12 20 _, tt)))
fields-fit (Jal rd n) h = (lit< tt, (h.1, (bits-below 12 8 _, (bits-below 11 1 _, (bits-below 1 10 _, (bits-below 20 1 _, tt))))))
fields-fit (Jalr rd rs1 n) h = (lit< tt, (h.1.0, (lit< tt, (h.1.1, (bits-below 0 12 _, tt)))))
fields-fit (Branch op rs1 rs2 n) h = (lit< tt, (bits-below 11 1 _, (bits-below 1 4 _, (branch_code-below op, (h.1.0, (h.1.1, (bits-below 5 6 _, (bits-below 12 1 _, tt))))))))
fields-fit (Load op rd rs1 n) h = (lit< tt, (h.1.0, (load_code-below op, (h.1.1, (bits-below 0 12 _, tt)))))
fields-fit (Store op rs1 rs2 n) h = (lit< tt, (bits-below 0 5 _, (store_code-below op, (h.1.0, (h.1.1, (bits-below 5 7 _, tt))))))
fields-fit (Imm op rd rs1 n) h = let codes = imm_code-below op in (codes.0, (h.1.0, (codes.1, (h.1.1, imm-fit op n))))
fields-fit (Op op rd rs1 rs2) h = let codes = reg_code-below op in (codes.0, (h.1.0, (codes.2, (h.1.1, (h.1.2, (codes.1, tt))))))
fields-fit (Amo op size rd rs1 rs2 aq rl) h = (lit< tt, (h.1.0, (size-below size h.0, (h.1.1, (h.1.2, (flag-below rl, (flag-below aq, (amo_code-below op, tt))))))))
fields-fit (Lr size rd rs1 aq rl) h = (lit< tt, (h.1.0, (size-below size h.0, (h.1.1, (lit< tt, (flag-below rl, (flag-below aq, (lit< tt, tt))))))))
fields-fit (Sc size rd rs1 rs2 aq rl) h = (lit< tt, (h.1.0, (size-below size h.0, (h.1.1, (h.1.2, (flag-below rl, (flag-below aq, (lit< tt, tt))))))))
fields-fit (Fence word) h = (h.0.0, tt)
fields-fit Ecall h = (lit< tt, tt)
fields-fit Ebreak h = (lit< tt, tt)

-- a word that is an instruction's has the instruction's fields
reads : (instr : Instr) (word : ℕ) → IsInstr instr → word_of instr ≡ word → HasFields 0 (fields_of instr) word
reads instr word h e = reads-joined (fields_of instr) 0 word (fields-fit instr h) (div-one word ∙ sym e)

-- ---- an instruction's word reads as the instruction

flag-is : (flag : Bool) → (from_bool flag == 1) ≡ flag
flag-is true = refl
flag-is false = refl

size_of-code : (size : ℕ) → IsAtomicSize size → size_of (size_code size) ≡ Some size
size_of-code size h = elim h [ inl e ↦ rw e refl | inr e ↦ rw e refl ]

amo_code-others : (op : AmoOp) → ((amo_code op == 2) ≡ false) × ((amo_code op == 3) ≡ false)
amo_code-others Swap = (refl, refl)
amo_code-others _ = (refl, refl)

imm-opcode : (op : ImmOp) → let code = imm_code op in (code.0 ≡ 0x13) ⊎ (code.0 ≡ 0x1b)
imm-opcode Addiw = inr refl
imm-opcode Slliw = inr refl
imm-opcode Srliw = inr refl
imm-opcode Sraiw = inr refl
imm-opcode _ = inl refl

reg-opcode : (op : RegOp) → let code = reg_code op in (code.0 ≡ 0x33) ⊎ (code.0 ≡ 0x3b)
reg-opcode Addw = inr refl
reg-opcode Sllw = inr refl
reg-opcode Srlw = inr refl
reg-opcode Subw = inr refl
reg-opcode Sraw = inr refl
reg-opcode Mulw = inr refl
reg-opcode Divw = inr refl
reg-opcode Divuw = inr refl
reg-opcode Remw = inr refl
reg-opcode Remuw = inr refl
reg-opcode _ = inl refl

amo-is : (op : AmoOp) (size rd rs1 rs2 : ℕ) (aq rl : Bool) (word : ℕ) → IsInstr (Amo op size rd rs1 rs2 aq rl) → word_of (Amo op size rd rs1 rs2 aq rl) ≡ word → atomic_of word size ≡ Some (Amo op size rd rs1 rs2 aq rl)
unfolding atomic_of
amo-is op size rd rs1 rs2 aq rl word h e =
    let r = reads (Amo op size rd rs1 rs2 aq rl) word h e in
    let others = amo_code-others op in
    rw (r.1.1.1.1.1.1.1.0, others.0, others.1, amo_of-code op, r.1.0, r.1.1.1.0, r.1.1.1.1.0, r.1.1.1.1.1.0, r.1.1.1.1.1.1.0, flag-is aq, flag-is rl) refl

lr-is : (size rd rs1 : ℕ) (aq rl : Bool) (word : ℕ) → IsInstr (Lr size rd rs1 aq rl) → word_of (Lr size rd rs1 aq rl) ≡ word → atomic_of word size ≡ Some (Lr size rd rs1 aq rl)
unfolding atomic_of
lr-is size rd rs1 aq rl word h e =
    let r = reads (Lr size rd rs1 aq rl) word h e in
    rw (r.1.1.1.1.1.1.1.0, r.1.0, r.1.1.1.0, r.1.1.1.1.0, r.1.1.1.1.1.0, r.1.1.1.1.1.1.0, flag-is aq, flag-is rl) refl

sc-is : (size rd rs1 rs2 : ℕ) (aq rl : Bool) (word : ℕ) → IsInstr (Sc size rd rs1 rs2 aq rl) → word_of (Sc size rd rs1 rs2 aq rl) ≡ word → atomic_of word size ≡ Some (Sc size rd rs1 rs2 aq rl)
unfolding atomic_of
sc-is size rd rs1 rs2 aq rl word h e =
    let r = reads (Sc size rd rs1 rs2 aq rl) word h e in
    rw (r.1.1.1.1.1.1.1.0, r.1.0, r.1.1.1.0, r.1.1.1.1.0, r.1.1.1.1.1.0, r.1.1.1.1.1.1.0, flag-is aq, flag-is rl) refl

pub instr_of-word : (instr : Instr) (word : ℕ) → IsInstr instr → word_of instr ≡ word → instr_of word ≡ Some instr
unfolding with_opcode
instr_of-word (Lui rd n) word h e =
    let r = reads (Lui rd n) word h e in
    rw (r.0, r.1.0, u_number-is word n h.0 r.1.1.0) refl
instr_of-word (Auipc rd n) word h e =
    let r = reads (Auipc rd n) word h e in
    rw (r.0, r.1.0, u_number-is word n h.0 r.1.1.0) refl
instr_of-word (Jal rd n) word h e =
    let r = reads (Jal rd n) word h e in
    rw (r.0, r.1.0, j_number-is word n h.0 r.1.1.1.1.0 r.1.1.1.0 r.1.1.0 r.1.1.1.1.1.0) refl
instr_of-word (Jalr rd rs1 n) word h e =
    let r = reads (Jalr rd rs1 n) word h e in
    rw (r.0, r.1.1.0, r.1.0, r.1.1.1.0, i_number-is word n h.0 r.1.1.1.1.0) refl
instr_of-word (Branch op rs1 rs2 n) word h e =
    let r = reads (Branch op rs1 rs2 n) word h e in
    rw (r.0, r.1.1.1.0, branch_of-code op, r.1.1.1.1.0, r.1.1.1.1.1.0, b_number-is word n h.0 r.1.1.0 r.1.1.1.1.1.1.0 r.1.0 r.1.1.1.1.1.1.1.0) refl
instr_of-word (Load op rd rs1 n) word h e =
    let r = reads (Load op rd rs1 n) word h e in
    rw (r.0, r.1.1.0, load_of-code op, r.1.0, r.1.1.1.0, i_number-is word n h.0 r.1.1.1.1.0) refl
instr_of-word (Store op rs1 rs2 n) word h e =
    let r = reads (Store op rs1 rs2 n) word h e in
    rw (r.0, r.1.1.0, store_of-code op, r.1.1.1.0, r.1.1.1.1.0, s_number-is word n h.0 r.1.0 r.1.1.1.1.1.0) refl
instr_of-word (Imm op rd rs1 n) word h e =
    let r = reads (Imm op rd rs1 n) word h e in
    let code = imm_code op in
    let upper = upper-is code.2 word n h.0 r.1.1.1.1 in
    let found = imm_of-code op word r.1.1.0 upper.0 in
    elim (imm-opcode op) [
      | inl o ↦ rw (r.0, o, rw o at found, r.1.0, r.1.1.1.0, upper.1) refl
      | inr o ↦ rw (r.0, o, rw o at found, r.1.0, r.1.1.1.0, upper.1) refl
    ]
instr_of-word (Op op rd rs1 rs2) word h e =
    let r = reads (Op op rd rs1 rs2) word h e in
    let found = reg_of-code op in
    elim (reg-opcode op) [
      | inl o ↦ rw (r.0, o, r.1.1.1.1.1.0, r.1.1.0, rw o at found, r.1.0, r.1.1.1.0, r.1.1.1.1.0) refl
      | inr o ↦ rw (r.0, o, r.1.1.1.1.1.0, r.1.1.0, rw o at found, r.1.0, r.1.1.1.0, r.1.1.1.1.0) refl
    ]
instr_of-word (Amo op size rd rs1 rs2 aq rl) word h e =
    let r = reads (Amo op size rd rs1 rs2 aq rl) word h e in
    rw (r.0, r.1.1.0, size_of-code size h.0) (amo-is op size rd rs1 rs2 aq rl word h e)
instr_of-word (Lr size rd rs1 aq rl) word h e =
    let r = reads (Lr size rd rs1 aq rl) word h e in
    rw (r.0, r.1.1.0, size_of-code size h.0) (lr-is size rd rs1 aq rl word h e)
instr_of-word (Sc size rd rs1 rs2 aq rl) word h e =
    let r = reads (Sc size rd rs1 rs2 aq rl) word h e in
    rw (r.0, r.1.1.0, size_of-code size h.0) (sc-is size rd rs1 rs2 aq rl word h e)
instr_of-word (Fence fence) word h e =
    let same : fence ≡ word = omega arith in
    subst (λ w. instr_of w ≡ Some (Fence fence)) same (rw (h.0.1, h.0.2) refl)
instr_of-word Ecall word h e = subst (λ w. instr_of w ≡ Some Ecall) e (unfold bits in refl)
instr_of-word Ebreak word h e = subst (λ w. instr_of w ≡ Some Ebreak) e (unfold bits in refl)

-- ---- the instruction that a word reads as has that word

-- the instruction is one of RV64IMA, and the word is its word
abbrev pub IsOf : ℕ → Instr → Type 0
IsOf word instr = IsInstr instr × (word_of instr ≡ word)

built : (instr : Instr) (word : ℕ) → HasForm instr → HasRegisters instr → HasFields 0 (fields_of instr) word → IsOf word instr
built instr word form registers r = ((form, registers), joined-reads (fields_of instr) 0 word r ∙ div-one word)

top : (word : ℕ) → word < 2 ^ 32 → word / 2 ^ 32 ≡ 0
top word h = omega arith

flag-reads : (low word : ℕ) → bits low 1 word ≡ from_bool (bits low 1 word == 1)
flag-reads low word = let below = bits-below low 1 word in grind (arith, nat_tests)

size-reads : (funct3 size : ℕ) → size_of funct3 ≡ Some size → IsAtomicSize size × (funct3 ≡ size_code size)
size-reads funct3 size e =
    if_keeps (λ x. x ≡ Some size → IsAtomicSize size × (funct3 ≡ size_code size)) (funct3 == 2) _ _
    (λ t some. let four : size ≡ 4 = cc in (inl four, eqb-true _ _ t ∙ ap size_code (sym four)))
    (if_keeps (λ x. x ≡ Some size → IsAtomicSize size × (funct3 ≡ size_code size)) (funct3 == 3) _ _
    (λ t some. let eight : size ≡ 8 = cc in (inr eight, eqb-true _ _ t ∙ ap size_code (sym eight)))
    (λ none. cc))
    e

atomic-is : (word size : ℕ) → word < 2 ^ 32 → bits 0 7 word ≡ 0x2f → IsAtomicSize size → bits 12 3 word ≡ size_code size → IfSome (atomic_of word size) (IsOf word)
unfolding atomic_of
atomic-is word size below o sized code =
    let rd = bits 7 5 word in
    let rs1 = bits 15 5 word in
    let rs2 = bits 20 5 word in
    let aq = bits 26 1 word == 1 in
    let rl = bits 25 1 word == 1 in
    let r1 = bits-below 7 5 word in
    let r2 = bits-below 15 5 word in
    let r3 = bits-below 20 5 word in
    let end = top word below in
    if_keeps (λ x. IfSome x (IsOf word)) (bits 27 5 word == 2) _ _
    (λ e. if_keeps (λ x. IfSome x (IsOf word)) (rs2 == 0) _ _
    (λ z. built (Lr size rd rs1 aq rl) word sized (r1, r2) (o, (refl, (code, (refl, (eqb-true _ _ z, (flag-reads 25 word, (flag-reads 26 word, (eqb-true _ _ e, end)))))))))
    tt)
    (if_keeps (λ x. IfSome x (IsOf word)) (bits 27 5 word == 3) _ _
    (λ e. built (Sc size rd rs1 rs2 aq rl) word sized (r1, r2, r3) (o, (refl, (code, (refl, (refl, (flag-reads 25 word, (flag-reads 26 word, (eqb-true _ _ e, end)))))))))
    (map_keeps (IsOf word) (λ op. Amo op size rd rs1 rs2 aq rl) (amo_of (bits 27 5 word)) (λ op found. built (Amo op size rd rs1 rs2 aq rl) word sized (r1, r2, r3) (o, (refl, (code, (refl, (refl, (flag-reads 25 word, (flag-reads 26 word, (code-amo_of _ op found, end)))))))))))

-- an upper immediate that a word holds: the widths of its fields are twelve together
abbrev IsTwelve : Upper → Type 0
IsTwelve Number = Unit {0}
IsTwelve (Shift width constant) = 20 + width + (12 - width) ≡ 32

imm-twelve : (op : ImmOp) → let code = imm_code op in IsTwelve code.2
imm-twelve Slli = refl
imm-twelve Srli = refl
imm-twelve Srai = refl
imm-twelve Slliw = refl
imm-twelve Srliw = refl
imm-twelve Sraiw = refl
imm-twelve _ = tt

upper-reads : (upper : Upper) (word : ℕ) → word < 2 ^ 32 → IsTwelve upper → is_upper upper word ≡ true → FitsUpper upper (number_of upper word) × HasFields 20 (upper_fields upper (number_of upper word)) word
upper-reads Number word below sum e = (i_number-within word, (i_number-part word, top word below))
upper-reads (Shift width constant) word below sum e =
    let fits = bits-below 20 width word in
    let value : bits 0 width (bits 20 width word) ≡ bits 20 width word = bits-zero width (bits 20 width word) ∙ mod-eq_of_lt fits in
    ((grind (arith, ints, nat_tests), grind (arith, ints, nat_tests)), (sym value, (eqb-true _ _ e, ap (λ n. word / 2 ^ n) sum ∙ top word below)))

imm-is : (opcode : ℕ) (word : ℕ) → word < 2 ^ 32 → bits 0 7 word ≡ opcode → IfSome (option_map (λ op. let code = imm_code op in Imm op (bits 7 5 word) (bits 15 5 word) (number_of code.2 word)) (imm_of opcode (bits 12 3 word) word)) (IsOf word)
imm-is opcode word below o =
    map_keeps (IsOf word) (λ op. let code = imm_code op in Imm op (bits 7 5 word) (bits 15 5 word) (number_of code.2 word)) (imm_of opcode (bits 12 3 word) word) (λ op found.
    let code = imm_code op in
    let test = and_both _ _ (found_passes (has_imm_code opcode (bits 12 3 word) word) imm_ops op found) in
    let rest = and_both _ _ test.1 in
    let upper = upper-reads code.2 word below (imm-twelve op) rest.1 in
    built (Imm op (bits 7 5 word) (bits 15 5 word) (number_of code.2 word)) word upper.0 (bits-below 7 5 word, bits-below 15 5 word)
    (o ∙ sym (eqb-true _ _ test.0), (refl, (sym (eqb-true _ _ rest.0), (refl, upper.1)))))

reg-is : (opcode : ℕ) (word : ℕ) → word < 2 ^ 32 → bits 0 7 word ≡ opcode → IfSome (option_map (λ op. Op op (bits 7 5 word) (bits 15 5 word) (bits 20 5 word)) (reg_of opcode (bits 25 7 word) (bits 12 3 word))) (IsOf word)
reg-is opcode word below o =
    map_keeps (IsOf word) (λ op. Op op (bits 7 5 word) (bits 15 5 word) (bits 20 5 word)) (reg_of opcode (bits 25 7 word) (bits 12 3 word)) (λ op found.
    let test = and_both _ _ (found_passes (has_reg_code opcode (bits 25 7 word) (bits 12 3 word)) reg_ops op found) in
    let rest = and_both _ _ test.1 in
    built (Op op (bits 7 5 word) (bits 15 5 word) (bits 20 5 word)) word tt (bits-below 7 5 word, bits-below 15 5 word, bits-below 20 5 word)
    (o ∙ sym (eqb-true _ _ test.0), (refl, (sym (eqb-true _ _ rest.1), (refl, (refl, (sym (eqb-true _ _ rest.0), top word below)))))))

pub word-instr_of : (word : ℕ) → word < 2 ^ 32 → IfSome (instr_of word) (IsOf word)
unfolding with_opcode
word-instr_of word below =
    let rd = bits 7 5 word in
    let rs1 = bits 15 5 word in
    let rs2 = bits 20 5 word in
    let r1 = bits-below 7 5 word in
    let r2 = bits-below 15 5 word in
    let r3 = bits-below 20 5 word in
    let end = top word below in
    let P : Option Instr → Type 0 = λ x. IfSome x (IsOf word) in
    let b = b_number-parts word in
    let j = j_number-parts word in
    let s = s_number-parts word in
    let u = u_number-parts word in
    let is = λ (code : ℕ) (e : (bits 0 7 word == code) ≡ true). eqb-true (bits 0 7 word) code e in
    if_keeps P (bits 0 7 word == 0x03) _ _ (λ o. map_keeps (IsOf word) (λ op. Load op rd rs1 (i_number word)) (load_of (bits 12 3 word)) (λ op found. built (Load op rd rs1 (i_number word)) word (i_number-within word) (r1, r2) (is 0x03 o, (refl, (code-load_of _ op found, (refl, (i_number-part word, end)))))))
    (if_keeps P (bits 0 7 word == 0x0f) _ _ (λ o. if_keeps P (bits 12 3 word == 0) _ _ (λ z. built (Fence word) word (below, is 0x0f o, eqb-true _ _ z) tt (bits-zero 32 word ∙ mod-eq_of_lt below, end)) tt)
    (if_keeps P (bits 0 7 word == 0x13) _ _ (λ o. imm-is 0x13 word below (is 0x13 o))
    (if_keeps P (bits 0 7 word == 0x17) _ _ (λ o. built (Auipc rd (u_number word)) word (u_number-within word, u.0) r1 (is 0x17 o, (refl, (u.1, end))))
    (if_keeps P (bits 0 7 word == 0x1b) _ _ (λ o. imm-is 0x1b word below (is 0x1b o))
    (if_keeps P (bits 0 7 word == 0x23) _ _ (λ o. map_keeps (IsOf word) (λ op. Store op rs1 rs2 (s_number word)) (store_of (bits 12 3 word)) (λ op found. built (Store op rs1 rs2 (s_number word)) word (s_number-within word) (r2, r3) (is 0x23 o, (s.0, (code-store_of _ op found, (refl, (refl, (s.1, end))))))))
    (if_keeps P (bits 0 7 word == 0x2f) _ _ (λ o. and_then_keeps (IsOf word) (atomic_of word) (size_of (bits 12 3 word)) (λ size sized. let z = size-reads (bits 12 3 word) size sized in atomic-is word size below (is 0x2f o) z.0 z.1))
    (if_keeps P (bits 0 7 word == 0x33) _ _ (λ o. reg-is 0x33 word below (is 0x33 o))
    (if_keeps P (bits 0 7 word == 0x37) _ _ (λ o. built (Lui rd (u_number word)) word (u_number-within word, u.0) r1 (is 0x37 o, (refl, (u.1, end))))
    (if_keeps P (bits 0 7 word == 0x3b) _ _ (λ o. reg-is 0x3b word below (is 0x3b o))
    (if_keeps P (bits 0 7 word == 0x63) _ _ (λ o. map_keeps (IsOf word) (λ op. Branch op rs1 rs2 (b_number word)) (branch_of (bits 12 3 word)) (λ op found. built (Branch op rs1 rs2 (b_number word)) word (b_number-within word, b.0) (r2, r3) (is 0x63 o, (b.3, (b.1, (code-branch_of _ op found, (refl, (refl, (b.2, (b.4, end))))))))))
    (if_keeps P (bits 0 7 word == 0x67) _ _ (λ o. if_keeps P (bits 12 3 word == 0) _ _ (λ z. built (Jalr rd rs1 (i_number word)) word (i_number-within word) (r1, r2) (is 0x67 o, (refl, (eqb-true _ _ z, (refl, (i_number-part word, end)))))) tt)
    (if_keeps P (bits 0 7 word == 0x6f) _ _ (λ o. built (Jal rd (j_number word)) word (j_number-within word, j.0) r1 (is 0x6f o, (refl, (j.3, (j.2, (j.1, (j.4, end)))))))
    (if_keeps P (bits 0 7 word == 0x73) _ _ (λ o. if_keeps P (word == 0x00000073) _ _ (λ e. ((tt, tt), sym (eqb-true _ _ e))) (if_keeps P (word == 0x00100073) _ _ (λ e. ((tt, tt), sym (eqb-true _ _ e))) tt))
    tt)))))))))))))

-- ---- laws

pub words_have_fields_lem : WordsHaveFields
words_have_fields_lem instr word h = (λ e. reads instr word h e, λ r. joined-reads (fields_of instr) 0 word r ∙ div-one word)

pub one_decoding : OneDecoding
one_decoding word None None h g = refl
one_decoding word None (Some j) h g = absurd (h j g.0 g.1)
one_decoding word (Some i) None h g = absurd (g i h.0 h.1)
one_decoding word (Some i) (Some j) h g = sym (instr_of-word i word h.0 h.1) ∙ instr_of-word j word g.0 g.1

pub decoding_inverts : DecodingInverts
decoding_inverts instr decoded h d = one_decoding (word_of instr) decoded (Some instr) d (h, refl)

decodes_from : (word : ℕ) (decoded : Option Instr) → instr_of word ≡ decoded → IfSome decoded (IsOf word) → Decodes word decoded
decodes_from word None e h = λ instr is same. let some : instr_of word ≡ Some instr = instr_of-word instr word is same in cc
decodes_from word (Some instr) e h = h

-- what the reading of a word gives is what the word decodes to
pub decodes : (word : ℕ) (decoded : Option Instr) → word < 2 ^ 32 → decoded ≡ instr_of word → Decodes word decoded
decodes word decoded below e = decodes_from word decoded (sym e) (subst (λ o. IfSome o (IsOf word)) (sym e) (word-instr_of word below))
