-- Bytes of doublewords, and lists of bytes that are cut.
use Rattle.std.proofs.Common.{◌≡◌, ℕ, zero, suc, ◌+◌, ◌-◌, ◌%◌, ◌<◌, ◌≤◌, Bool, true, false, not, ◌||◌, cond, eqb, ltb, leb, Some, None, List, [], ◌∷◌, length, take, drop, map, refl, ap, ◌∙◌, arith, one-add}
use Rattle.std.proofs.lemmas.Bool.Decides.{nat_tests}
use Rattle.std.proofs.lemmas.List.{take_all}
use Rattle.std.proofs.lemmas.List.FromFn.{length-map-range_with_len}
use Rattle.std.specs.Int.{w64, byte_at, bytes_low_first, to_le_bytes}
use Rattle.std.specs.List.{position, position_or_len, range_with_len}
use Rattle.seg_image.specs.Words.{byte_of}
use Rattle.hart_moves.specs.Copying.{before_end, bytes_from, has_end}

-- the bytes of a doubleword from the one of an address on
low_from : (k v word : ℕ) → v % 8 + k ≤ 8 → bytes_low_first (v % 8) k word ≡ map (byte_of word) (range_with_len v k)
unfolding byte_of
low_from zero v word within = refl
low_from (suc zero) v word within = refl
low_from (suc (suc k)) v word within =
    let same : suc (v % 8) ≡ (v + 1) % 8 = omega arith in
    ap (λ (bs : List ℕ). byte_at (v % 8) word ∷ bs) (ap (λ (i : ℕ). bytes_low_first i (suc k) word) same ∙ low_from (suc k) (v + 1) word (omega (arith, same)))

dropped : (m word : ℕ) → m < 8 → drop m (to_le_bytes w64 word) ≡ bytes_low_first m (8 - m) word
dropped zero word less = refl
dropped (suc zero) word less = refl
dropped (suc (suc zero)) word less = refl
dropped (suc (suc (suc zero))) word less = refl
dropped (suc (suc (suc (suc zero)))) word less = refl
dropped (suc (suc (suc (suc (suc zero))))) word less = refl
dropped (suc (suc (suc (suc (suc (suc zero)))))) word less = refl
dropped (suc (suc (suc (suc (suc (suc (suc zero))))))) word less = refl
dropped (suc (suc (suc (suc (suc (suc (suc (suc m)))))))) word less = absurd (omega arith)

pub word_from : (a word : ℕ) → drop (a % 8) (to_le_bytes w64 word) ≡ bytes_from a word
unfolding bytes_from
word_from a word = dropped (a % 8) word (omega arith) ∙ low_from (8 - a % 8) a word (omega arith)

-- the zero byte that ends a name
abbrev pub ends_name : ℕ → Bool
ends_name b = eqb b 0

cut_one : (t : Bool) (b n : ℕ) (bytes : List ℕ) → take n bytes ≡ before_end bytes → take (cond (not t) (1 + n) 0) (b ∷ bytes) ≡ cond t [] (b ∷ before_end bytes)
cut_one true b n bytes same = refl
cut_one false b n bytes same = rw one-add (ap (λ (bs : List ℕ). b ∷ bs) same)

pub cut_at : (bytes : List ℕ) → take (position_or_len ends_name bytes) bytes ≡ before_end bytes
cut_at [] = refl
cut_at (b ∷ bytes) = cut_one (eqb b 0) b (position_or_len ends_name bytes) bytes (cut_at bytes)

-- a name has a zero byte where one is found before its end
has_one : (t : Bool) (n m : ℕ) (rest : Bool) → rest ≡ ltb n m → (t || rest) ≡ ltb (cond (not t) (1 + n) 0) (suc m)
has_one true n m rest same = grind (arith, nat_tests)
has_one false n m rest same = rw one-add (same ∙ grind (arith, nat_tests))

pub has_at : (bytes : List ℕ) → has_end bytes ≡ ltb (position_or_len ends_name bytes) (length bytes)
has_at [] = refl
has_at (b ∷ bytes) = has_one (eqb b 0) (position_or_len ends_name bytes) (length bytes) (has_end bytes) (has_at bytes)

-- a name without one is whole
whole_one : (t : Bool) (b : ℕ) (bytes : List ℕ) (rest : Bool) → (t || rest) ≡ false → (rest ≡ false → before_end bytes ≡ bytes)
    → cond t [] (b ∷ before_end bytes) ≡ b ∷ bytes
whole_one true b bytes rest without same = absurd cc
whole_one false b bytes rest without same = ap (λ (bs : List ℕ). b ∷ bs) (same without)

pub whole_without : (bytes : List ℕ) → has_end bytes ≡ false → before_end bytes ≡ bytes
whole_without [] without = refl
whole_without (b ∷ bytes) without = whole_one (eqb b 0) b bytes (has_end bytes) without (whole_without bytes)

-- where a zero byte is found a name ends; where none is it is whole
found_at : (t : Bool) (n m : ℕ) → Some n ≡ cond t (Some m) None → n ≡ m
found_at true n m e = cc
found_at false n m e = absurd cc

found_none : (t : Bool) (m : ℕ) → None ≡ cond t (Some m) None → t ≡ false
found_none true m e = absurd cc
found_none false m e = refl

pub cut_found : (bytes : List ℕ) (n : ℕ) → Some n ≡ position ends_name bytes → take n bytes ≡ before_end bytes
cut_found bytes n e =
    let same : n ≡ position_or_len ends_name bytes = found_at (ltb (position_or_len ends_name bytes) (length bytes)) n (position_or_len ends_name bytes) e in
    ap (λ (k : ℕ). take k bytes) same ∙ cut_at bytes

pub no_end : (bytes : List ℕ) → None ≡ position ends_name bytes → has_end bytes ≡ false
no_end bytes e = has_at bytes ∙ found_none (ltb (position_or_len ends_name bytes) (length bytes)) (position_or_len ends_name bytes) e

found_some : (t : Bool) (n m : ℕ) → Some n ≡ cond t (Some m) None → t ≡ true
found_some true n m e = refl
found_some false n m e = absurd cc

pub an_end : (bytes : List ℕ) (n : ℕ) → Some n ≡ position ends_name bytes → has_end bytes ≡ true
an_end bytes n e = has_at bytes ∙ found_some (ltb (position_or_len ends_name bytes) (length bytes)) n (position_or_len ends_name bytes) e

-- of at most 256 bytes without a zero byte all are copied where there are 256
pub copied_all : (ended : Bool) (n : ℕ) → ended ≡ false → n ≤ 256 → eqb n 256 ≡ (ended || leb 256 n)
copied_all true n without few = absurd cc
copied_all false n without few = grind (arith, nat_tests)

-- a doubleword's bytes, all of which were taken
pub whole_word : (a word index : ℕ) (bytes : List ℕ) → bytes ≡ to_le_bytes w64 word
    → length (take (8 - a % 8) (drop (a % 8) bytes)) ≤ index → take index (take (8 - a % 8) (drop (a % 8) bytes)) ≡ bytes_from a word
unfolding bytes_from
whole_word a word index bytes is all =
    let from : drop (a % 8) bytes ≡ bytes_from a word = ap (λ (bs : List ℕ). drop (a % 8) bs) is ∙ word_from a word in
    let size : length (bytes_from a word) ≡ 8 - a % 8 = length-map-range_with_len (byte_of word) a (8 - a % 8) in
    let cut : take (8 - a % 8) (drop (a % 8) bytes) ≡ bytes_from a word =
    ap (λ (bs : List ℕ). take (8 - a % 8) bs) from ∙ take_all (8 - a % 8) (bytes_from a word) (omega (arith, size)) in
    take_all index (take (8 - a % 8) (drop (a % 8) bytes)) all ∙ cut
