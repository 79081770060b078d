-- Ends of harts are read back.
use Rattle.std.proofs.Common.{◌≡◌, ℕ, Bool, true, false, List, ◌∷◌, ◌++◌, Option, Some, None, option_map}
use Rattle.std.proofs.Common.{if◌then◌else◌, refl, sym, ap, ◌∙◌, subst, codes, bytes_eq}
use Rattle.std.proofs.lemmas.Option.{none-some, same_Some}
use Rattle.std.proofs.lemmas.Slice.Eq.{bytes_eq-Decides}
use Rattle.std.specs.Fmt.{decimal}
use Rattle.ld_base.specs.FaultText.{hex_text}
use Rattle.history_event.specs.declared.hart_end.HartEnd.{HartEnd}
use Rattle.history_event.specs.declared.hart_end.HartEnd.TheVariants as ends
use Rattle.trace_text.specs.Ends.{end_text}
use Rattle.trace_read.specs.declared.ends.EndWord.{EndWord}
use Rattle.trace_read.specs.declared.ends.EndWord.TheVariants as words
use Rattle.trace_read.specs.Ends.{end_words, end_word, bare_end, pc_and_address, pc_and_word, object_and_eights, object_and_slot, end_behind, end_by, end_of}
use Rattle.trace_read.specs.Fits.{Fits32, Fits64, EndFits}
use Rattle.trace_read.specs.Pieces.{cut}
use Rattle.trace_read.proofs.Parts.{Reads, bound, free, cut-there, cut-none, cut-back, pair_reads}
use Rattle.trace_read.proofs.Worded.{decimal_reads, decimal32_reads, decimal_free, hexadecimal_reads, hexadecimal32_reads, hex_free, named-back, variant-back}

abbrev spelled : EndWord → List ℕ
spelled words.Exit = codes "exit"
spelled words.NotMapped = codes "not-mapped"
spelled words.SlotStore = codes "slot-store"
spelled words.BadInstruction = codes "bad-instruction"
spelled words.Misaligned = codes "misaligned"
spelled words.Break = codes "break"
spelled words.BadModule = codes "bad-module"
spelled words.Unloaded = codes "unloaded"
spelled words.NoSlot = codes "no-slot"
spelled words.Unresolved = codes "unresolved"
spelled words.NotCode = codes "not-code"
spelled words.AddressSpaceFull = codes "address-space-full"

word_there : (k : EndWord) → end_word (spelled k) ≡ Some k
unfolding end_word
word_there words.Exit = refl
word_there words.NotMapped = refl
word_there words.SlotStore = refl
word_there words.BadInstruction = refl
word_there words.Misaligned = refl
word_there words.Break = refl
word_there words.BadModule = refl
word_there words.Unloaded = refl
word_there words.NoSlot = refl
word_there words.Unresolved = refl
word_there words.NotCode = refl
word_there words.AddressSpaceFull = refl

word_free : (k : EndWord) → free 32 (spelled k) ≡ true
word_free words.Exit = refl
word_free words.NotMapped = refl
word_free words.SlotStore = refl
word_free words.BadInstruction = refl
word_free words.Misaligned = refl
word_free words.Break = refl
word_free words.BadModule = refl
word_free words.Unloaded = refl
word_free words.NoSlot = refl
word_free words.Unresolved = refl
word_free words.NotCode = refl
word_free words.AddressSpaceFull = refl

word_back : (w : List ℕ) (k : EndWord) → end_word w ≡ Some k → spelled k ≡ w
unfolding end_word
word_back w k e = named-back spelled w end_words k e (refl, (refl, (refl, (refl, (refl, (refl, (refl, (refl, (refl, (refl, (refl, (refl, tt))))))))))))

behind_word : (k : EndWord) (rest : List ℕ) (end : HartEnd) → end_behind k rest ≡ Some end → end_of (spelled k ++ 32 ∷ rest) ≡ Some end
unfolding end_of
behind_word k rest end e = rw (cut-there 32 (spelled k) rest (word_free k), word_there k) e

pc_and_address_reads : Reads pc_and_address (λ p. hex_text p.0 ++ 32 ∷ hex_text p.1) (λ p. Fits64 p.0 × Fits64 p.1)
pc_and_address_reads = pair_reads hexadecimal_reads hexadecimal_reads 32 (hex_free 32 refl refl)

pc_and_word_reads : Reads pc_and_word (λ p. hex_text p.0 ++ 32 ∷ hex_text p.1) (λ p. Fits64 p.0 × Fits32 p.1)
pc_and_word_reads = pair_reads hexadecimal_reads hexadecimal32_reads 32 (hex_free 32 refl refl)

eights_reads : Reads object_and_eights (λ p. decimal p.0 ++ 32 ∷ hex_text p.1) (λ p. Fits64 p.0 × Fits64 p.1)
eights_reads = pair_reads decimal_reads hexadecimal_reads 32 (decimal_free 32 refl)

slot_reads : Reads object_and_slot (λ p. decimal p.0 ++ 32 ∷ decimal p.1) (λ p. Fits64 p.0 × Fits32 p.1)
slot_reads = pair_reads decimal_reads decimal32_reads 32 (decimal_free 32 refl)

fuel : end_of (codes "fuel") ≡ Some ends.FuelOut
unfolding end_of
fuel = rw (cut-none 32 (codes "fuel") refl) refl

memory : end_of (codes "memory") ≡ Some ends.Memory
unfolding end_of
memory = rw (cut-none 32 (codes "memory") refl) refl

end-there : (end : HartEnd) → EndFits end → end_of (end_text end) ≡ Some end
unfolding end_text
end-there (ends.Exit code) h = behind_word words.Exit _ _ (ap (option_map ends.Exit) (decimal_reads.there code h))
end-there ends.FuelOut h = fuel
end-there (ends.NotMapped pc address) h =
    behind_word words.NotMapped _ _ (ap (option_map (λ p. ends.NotMapped p.0 p.1)) (pc_and_address_reads.there (pc, address) h))
end-there (ends.SlotStore pc address) h =
    behind_word words.SlotStore _ _ (ap (option_map (λ p. ends.SlotStore p.0 p.1)) (pc_and_address_reads.there (pc, address) h))
end-there (ends.BadInstruction pc word) h =
    behind_word words.BadInstruction _ _ (ap (option_map (λ p. ends.BadInstruction p.0 p.1)) (pc_and_word_reads.there (pc, word) h))
end-there (ends.Misaligned pc address) h =
    behind_word words.Misaligned _ _ (ap (option_map (λ p. ends.Misaligned p.0 p.1)) (pc_and_address_reads.there (pc, address) h))
end-there (ends.Break pc) h = behind_word words.Break _ _ (ap (option_map ends.Break) (hexadecimal_reads.there pc h))
end-there (ends.BadModule number) h = behind_word words.BadModule _ _ (ap (option_map ends.BadModule) (decimal_reads.there number h))
end-there (ends.Unloaded serial) h = behind_word words.Unloaded _ _ (ap (option_map ends.Unloaded) (hexadecimal_reads.there serial h))
end-there (ends.NoSlot serial eights) h = behind_word words.NoSlot _ _ (ap (option_map (λ p. ends.NoSlot p.0 p.1)) (eights_reads.there (serial, eights) h))
end-there (ends.Unresolved serial slot) h =
    behind_word words.Unresolved _ _ (ap (option_map (λ p. ends.Unresolved p.0 p.1)) (slot_reads.there (serial, slot) h))
end-there (ends.NotCode serial slot) h = behind_word words.NotCode _ _ (ap (option_map (λ p. ends.NotCode p.0 p.1)) (slot_reads.there (serial, slot) h))
end-there (ends.AddressSpaceFull pages) h = behind_word words.AddressSpaceFull _ _ (ap (option_map ends.AddressSpaceFull) (decimal_reads.there pages h))
end-there ends.Memory h = memory

abbrev IsEnd : List ℕ → HartEnd → Type 0
IsEnd w end = EndFits end × (end_text end ≡ w)

behind-back : (k : EndWord) (w : List ℕ) (end : HartEnd) → end_behind k w ≡ Some end → IsEnd (spelled k ++ 32 ∷ w) end
unfolding end_text
behind-back words.Exit w end e = variant-back decimal_reads ends.Exit end_text EndFits (codes "exit ") (λ a h. h) (λ a. refl) w end e
behind-back words.NotMapped w end e = variant-back pc_and_address_reads _ end_text EndFits (codes "not-mapped ") (λ a h. h) (λ a. refl) w end e
behind-back words.SlotStore w end e = variant-back pc_and_address_reads _ end_text EndFits (codes "slot-store ") (λ a h. h) (λ a. refl) w end e
behind-back words.BadInstruction w end e = variant-back pc_and_word_reads _ end_text EndFits (codes "bad-instruction ") (λ a h. h) (λ a. refl) w end e
behind-back words.Misaligned w end e = variant-back pc_and_address_reads _ end_text EndFits (codes "misaligned ") (λ a h. h) (λ a. refl) w end e
behind-back words.Break w end e = variant-back hexadecimal_reads ends.Break end_text EndFits (codes "break ") (λ a h. h) (λ a. refl) w end e
behind-back words.BadModule w end e = variant-back decimal_reads ends.BadModule end_text EndFits (codes "bad-module ") (λ a h. h) (λ a. refl) w end e
behind-back words.Unloaded w end e = variant-back hexadecimal_reads ends.Unloaded end_text EndFits (codes "unloaded ") (λ a h. h) (λ a. refl) w end e
behind-back words.NoSlot w end e = variant-back eights_reads _ end_text EndFits (codes "no-slot ") (λ a h. h) (λ a. refl) w end e
behind-back words.Unresolved w end e = variant-back slot_reads _ end_text EndFits (codes "unresolved ") (λ a h. h) (λ a. refl) w end e
behind-back words.NotCode w end e = variant-back slot_reads _ end_text EndFits (codes "not-code ") (λ a h. h) (λ a. refl) w end e
behind-back words.AddressSpaceFull w end e =
    variant-back decimal_reads ends.AddressSpaceFull end_text EndFits (codes "address-space-full ") (λ a h. h) (λ a. refl) w end e

bare-back : (w : List ℕ) (end : HartEnd) → bare_end w ≡ Some end → IsEnd w end
unfolding end_text
bare-back w end e = by (bytes_eq w (codes "fuel")) (bytes_eq w (codes "memory")) refl refl e
  where
    by : (a b : Bool) → bytes_eq w (codes "fuel") ≡ a → bytes_eq w (codes "memory") ≡ b
        → (if a then Some ends.FuelOut else (if b then Some ends.Memory else None)) ≡ Some end → IsEnd w end
    by true b ea eb e = subst (IsEnd w) (same_Some _ _ e) (tt, sym ((bytes_eq-Decides w (codes "fuel")).0 ea))
    by false true ea eb e = subst (IsEnd w) (same_Some _ _ e) (tt, sym ((bytes_eq-Decides w (codes "memory")).0 eb))
    by false false ea eb e = absurd (none-some end e)

end-back : (w : List ℕ) (end : HartEnd) → end_of w ≡ Some end → IsEnd w end
unfolding end_of
end-back w end e = by (cut 32 w) refl e
  where
    by : (c : Option (List ℕ × List ℕ)) → cut 32 w ≡ c → end_by w c ≡ Some end → IsEnd w end
    by None ec e = bare-back w end e
    by (Some p) ec e = bound (end_word p.0) (λ word. end_behind word p.1) end e (λ k ek eb.
        let it = behind-back k p.1 end eb in
        (it.0, it.1 ∙ ap (λ x. x ++ 32 ∷ p.1) (word_back p.0 k ek) ∙ cut-back 32 w p ec))

pub end_reads : Reads end_of end_text EndFits
end_reads = record { there = end-there; back = end-back }
