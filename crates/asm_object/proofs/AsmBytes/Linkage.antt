-- The words of the procedure linkage table, and their bytes.
use Rattle.std.proofs.Common.{◌≡◌, ℕ, arith, ◌+◌, ◌*◌, pos, ◌-ℤ◌, List, [], ◌∷◌, ◌++◌, map, refl, ap, sym, ◌∙◌}
use Rattle.std.specs.Prelude.{flat_map}
use Rattle.std.specs.List.{range_with_len}
use Rattle.std.proofs.lemmas.List.{flat_map_more}
use Rattle.std.proofs.lemmas.List.FromFn.{map-range_with_len_more}
use Rattle.rv_isa.specs.declared.instr.Instr.{Instr}
use Rattle.rv_isa.specs.declared.instr.Instr.TheVariants as instrs
use Rattle.rv_isa.specs.Encoding.{word_of}
use Rattle.asm_layout.specs.Object.{plt_begin, plt_slot, instr_bytes, slot_code as code_of_slot}
use Rattle.asm_object.specs.AsmBytes.Words.{word_bytes, begin_words, slot_words, begin_code, slot_code}

map-id : (ns : List ℕ) → map (λ n. n) ns ≡ ns
map-id [] = refl
map-id (n ∷ ns) = ap (λ rest. n ∷ rest) (map-id ns)

-- their bytes
words_of_instrs : (instrs : List Instr) → flat_map word_bytes (map word_of instrs) ≡ instr_bytes instrs
unfolding word_bytes
words_of_instrs [] = refl
words_of_instrs (instr ∷ rest) = ap (λ bytes. word_bytes (word_of instr) ++ bytes) (words_of_instrs rest)

pub begin_bytes : (plt got_plt : ℕ) (words : List ℕ) → words ≡ begin_words (pos got_plt -ℤ pos plt) → flat_map word_bytes words ≡ begin_code plt got_plt
unfolding begin_code begin_words
begin_bytes plt got_plt words are = ap (flat_map word_bytes) are ∙ words_of_instrs (plt_begin (pos got_plt -ℤ pos plt))

pub slot_bytes : (plt got_plt slot : ℕ) (words : List ℕ) → words ≡ slot_words (pos (got_plt + 16 + 8 * slot) -ℤ pos (plt + 32 + 16 * slot))
    → flat_map word_bytes words ≡ slot_code plt got_plt slot
unfolding slot_code slot_words
slot_bytes plt got_plt slot words are =
    ap (flat_map word_bytes) are ∙ words_of_instrs (plt_slot (pos (got_plt + 16 + 8 * slot) -ℤ pos (plt + 32 + 16 * slot)))

-- all of them
slots_bytes : (plt got_plt : ℕ) (slots : List ℕ) → flat_map (slot_code plt got_plt) slots ≡ flat_map (code_of_slot plt got_plt) slots
unfolding slot_code
slots_bytes plt got_plt [] = refl
slots_bytes plt got_plt (slot ∷ rest) = ap (λ bytes. code_of_slot plt got_plt slot ++ bytes) (slots_bytes plt got_plt rest)

pub whole : (plt got_plt : ℕ) (slots : List ℕ) → begin_code plt got_plt ++ flat_map (slot_code plt got_plt) slots
    ≡ instr_bytes (plt_begin (pos got_plt -ℤ pos plt)) ++ flat_map (code_of_slot plt got_plt) slots
unfolding begin_code
whole plt got_plt slots = ap (λ bytes. instr_bytes (plt_begin (pos got_plt -ℤ pos plt)) ++ bytes) (slots_bytes plt got_plt slots)

-- one slot more
range_more : (first count : ℕ) → range_with_len first (count + 1) ≡ range_with_len first count ++ (first + count) ∷ []
range_more first count =
    sym (map-id (range_with_len first (count + 1))) ∙ map-range_with_len_more (λ n. n) first count (first + count) refl
    ∙ ap (λ ns. ns ++ (first + count) ∷ []) (map-id (range_with_len first count))

pub one_more : (f : ℕ → List ℕ) (before : List ℕ) (count : ℕ)
    → (before ++ flat_map f (range_with_len 0 count)) ++ f count ≡ before ++ flat_map f (range_with_len 0 (count + 1))
one_more f before count =
    flat_map_more f before (range_with_len 0 count) count
    ∙ ap (λ n. before ++ flat_map f (range_with_len 0 count ++ n ∷ [])) (omega arith)
    ∙ ap (λ slots. before ++ flat_map f slots) (sym (range_more 0 count))
