-- Ends of harts as lines have them, read back. For the code of this crate alone.
use Rattle.std.specs.Prelude.{ℕ, ◌^◌, if◌then◌else◌, codes, List, [], ◌∷◌, Option, Some, None, option_map}
use Rattle.std.specs.Str.{bytes_eq}
use Rattle.history_event.specs.declared.hart_end.HartEnd.{HartEnd}
use Rattle.history_event.specs.declared.hart_end.HartEnd.TheVariants as ends
use Rattle.trace_read.specs.declared.ends.EndWord.{EndWord}
use Rattle.trace_read.specs.declared.ends.EndWord.TheVariants as words
use Rattle.trace_read.specs.Pieces.{◌>>=◌, cut, named, pair}
use Rattle.trace_read.specs.Numbers.{numeral, decimal_in, hexadecimal_in}
use Rattle.trace_read.specs.Lists.{hexadecimal}

abbrev pub end_words : List (List ℕ × EndWord)
end_words =
    (codes "exit", words.Exit)
    ∷ (codes "not-mapped", words.NotMapped)
    ∷ (codes "slot-store", words.SlotStore)
    ∷ (codes "bad-instruction", words.BadInstruction)
    ∷ (codes "misaligned", words.Misaligned)
    ∷ (codes "break", words.Break)
    ∷ (codes "bad-module", words.BadModule)
    ∷ (codes "unloaded", words.Unloaded)
    ∷ (codes "no-slot", words.NoSlot)
    ∷ (codes "unresolved", words.Unresolved)
    ∷ (codes "not-code", words.NotCode)
    ∷ (codes "address-space-full", words.AddressSpaceFull)
    ∷ []

unfoldable pub end_word : List ℕ → Option EndWord
end_word text = named text end_words

-- the ends that are one word
abbrev pub bare_end : List ℕ → Option HartEnd
bare_end text =
    if bytes_eq text (codes "fuel") then Some ends.FuelOut
    else (if bytes_eq text (codes "memory") then Some ends.Memory else None)

-- a pc, and an address
abbrev pub pc_and_address : List ℕ → Option (ℕ × ℕ)
pc_and_address text = pair 32 hexadecimal hexadecimal text

abbrev pub pc_and_word : List ℕ → Option (ℕ × ℕ)
pc_and_word text = pair 32 hexadecimal (hexadecimal_in (2 ^ 32)) text

abbrev pub object_and_eights : List ℕ → Option (ℕ × ℕ)
object_and_eights text = pair 32 (numeral 10) hexadecimal text

abbrev pub object_and_slot : List ℕ → Option (ℕ × ℕ)
object_and_slot text = pair 32 (numeral 10) (decimal_in (2 ^ 32)) text

-- an end behind its first word
abbrev pub end_behind : EndWord → List ℕ → Option HartEnd
end_behind words.Exit text = option_map ends.Exit (numeral 10 text)
end_behind words.NotMapped text = option_map (λ p. ends.NotMapped p.0 p.1) (pc_and_address text)
end_behind words.SlotStore text = option_map (λ p. ends.SlotStore p.0 p.1) (pc_and_address text)
end_behind words.BadInstruction text = option_map (λ p. ends.BadInstruction p.0 p.1) (pc_and_word text)
end_behind words.Misaligned text = option_map (λ p. ends.Misaligned p.0 p.1) (pc_and_address text)
end_behind words.Break text = option_map ends.Break (hexadecimal text)
end_behind words.BadModule text = option_map ends.BadModule (numeral 10 text)
end_behind words.Unloaded text = option_map ends.Unloaded (hexadecimal text)
end_behind words.NoSlot text = option_map (λ p. ends.NoSlot p.0 p.1) (object_and_eights text)
end_behind words.Unresolved text = option_map (λ p. ends.Unresolved p.0 p.1) (object_and_slot text)
end_behind words.NotCode text = option_map (λ p. ends.NotCode p.0 p.1) (object_and_slot text)
end_behind words.AddressSpaceFull text = option_map ends.AddressSpaceFull (numeral 10 text)

abbrev pub end_by : List ℕ → Option (List ℕ × List ℕ) → Option HartEnd
end_by text None = bare_end text
end_by text (Some p) = end_word p.0 >>= λ word. end_behind word p.1

-- the end of a hart
unfoldable pub end_of : List ℕ → Option HartEnd
end_of text = end_by text (cut 32 text)
