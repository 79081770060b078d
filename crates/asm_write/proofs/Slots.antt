-- The words of slots, one by one.
use Rattle.std.proofs.Common.{◌≡◌, ℕ, suc, ◌+◌, ◌<◌, List, ◌++◌, length, drop, append_assoc, add-one, drop-cons}
use Rattle.std.specs.Int.{w64, to_le_bytes}
use Rattle.asm_write.specs.Values.{lazy_words}

-- the word of one slot, and those of the slots behind it
pub one_slot : (plt i : ℕ) (slots bytes : List ℕ) → i < length slots
    → (bytes ++ to_le_bytes w64 plt) ++ lazy_words plt (drop (i + 1) slots) ≡ bytes ++ lazy_words plt (drop i slots)
one_slot plt i slots bytes below = rw (add-one, drop-cons slots i 0) (append_assoc bytes (to_le_bytes w64 plt) (lazy_words plt (drop (suc i) slots)))
