-- The records of versions, one more.
use Rattle.std.proofs.Common.{◌≡◌, ◌∙◌, ap, ℕ, ◌+◌, ◌-◌, List, [], ◌∷◌, ◌++◌, drop, length, take, append_assoc, length-drop, arith}
use Rattle.std.proofs.lemmas.List.{take_all}
use Rattle.asm_write.specs.declared.contents.VersionRecord.{VersionRecord}
use Rattle.sym_hash.specs.Hash.{sysv_hash}
use Rattle.asm_layout.specs.Versions.{half, word, next_version, version_records}
use Rattle.asm_layout.proofs.Offsets.{cut_versions}

abbrev pub record_of : ℕ → ℕ → List ℕ → List (List ℕ) → VersionRecord
record_of number at name rest = record { flags = 0; index = half (2 + number); hash = sysv_hash name; name = word at; next = next_version rest }

next_number : (n : ℕ) → 2 + (n + 1) ≡ (2 + n) + 1
next_number n = omega arith

pub version_more : (records whole : List VersionRecord) (one : VersionRecord) (n at next : ℕ) (name : List ℕ) (rest : List (List ℕ)) → one ≡ record_of n at name rest
    → next ≡ word (at + length name + 1) → records ++ version_records (2 + n) at (name ∷ rest) ≡ whole
    → (records ++ one ∷ []) ++ version_records (2 + (n + 1)) next rest ≡ whole
version_more records whole one n at next name rest is behind all =
    append_assoc records (one ∷ []) (version_records (2 + (n + 1)) next rest)
    ∙ ap (λ (first : VersionRecord). records ++ first ∷ version_records (2 + (n + 1)) next rest) is
    ∙ ap (λ (tail : List VersionRecord). records ++ record_of n at name rest ∷ tail)
    (ap (λ (m : ℕ). version_records m next rest) (next_number n) ∙ ap (λ (m : ℕ). version_records ((2 + n) + 1) m rest) behind ∙ cut_versions ((2 + n) + 1) (at + length name + 1) rest)
    ∙ all

-- what stands behind an element, as a slice
pub tail_slice : {X : Type 0} (xs : List X) (k : ℕ) → take (length xs - k) (drop k xs) ≡ drop k xs
tail_slice xs k = let size = length-drop k xs in take_all (length xs - k) (drop k xs) (omega (arith, size))
