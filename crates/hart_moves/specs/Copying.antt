-- What a hart passes to the linker lies in its memory, and is copied a doubleword a turn.
use Rattle.std.specs.Prelude.{ℕ, ◌+◌, ◌-◌, ◌*◌, ◌/◌, ◌%◌, ◌^◌, ◌==◌, ◌||◌, nat_le, Bool, if◌then◌else◌, List, [], ◌∷◌, ◌++◌, length, map, take, slice_index}
use Rattle.std.specs.List.{list_any, range_with_len}
use Rattle.seg_image.specs.Words.{byte_of, word_of}
use Rattle.history_state.specs.Asking.{is_too_long}
use Rattle.hart_moves.specs.Harts.{Naming, Phase, naming, versioning, named, pairing, writing}

-- what is copied: a name; the version that follows it; the two doublewords of __tls_get_addr; so many bytes to write
pub data Copy : Type 0 where
  of_name : Naming → Copy
  of_version : (name : List ℕ) → Copy
  of_pair : Copy
  of_text : (count : ℕ) → Copy

-- how many bytes at most
abbrev pub most : Copy → ℕ
most (Copy.of_name n) = 256
most (Copy.of_version name) = 256
most Copy.of_pair = 16
most (Copy.of_text count) = count

-- the address of the first byte that isn't copied yet, of a text that begins at an address
abbrev pub first_left : ℕ → List ℕ → ℕ
first_left start bytes = (start + length bytes) % 2 ^ 64

-- the doubleword that holds it, of which the bytes from it on are copied
abbrev pub doubleword_at : ℕ → ℕ
doubleword_at a = a / 8 * 8

unfoldable pub bytes_from : ℕ → ℕ → List ℕ
bytes_from a word = map (byte_of word) (range_with_len a (8 - a % 8))

-- the bytes with one more doubleword
unfoldable pub grown : Copy → ℕ → List ℕ → ℕ → List ℕ
grown copy start bytes word = take (most copy) (bytes ++ bytes_from (first_left start bytes) word)

-- ---- names

-- a zero byte ends a name
abbrev pub has_end : List ℕ → Bool
has_end bytes = list_any (λ b. b == 0) bytes

-- the bytes before it, and all where there is none
abbrev pub before_end : List ℕ → List ℕ
before_end [] = []
before_end (b ∷ rest) = if b == 0 then [] else b ∷ before_end rest

-- a name is copied where it ends, or where 256 bytes show that it is too long
abbrev pub is_copied : List ℕ → Bool
is_copied bytes = has_end bytes || nat_le 256 (length bytes)

-- after a name dlvsym's version is copied, but not after one that is too long
abbrev pub after_name : Naming → List ℕ → Phase
after_name Naming.dlopen name = named Naming.dlopen name []
after_name Naming.dlmopen name = named Naming.dlmopen name []
after_name Naming.dlsym name = named Naming.dlsym name []
after_name Naming.dlvsym name = if is_too_long name then named Naming.dlvsym name [] else versioning name []

-- where the bytes that were copied leave the hart
unfoldable pub with_bytes : Copy → List ℕ → Phase
with_bytes (Copy.of_name n) bytes = if is_copied bytes then after_name n (before_end bytes) else naming n bytes
with_bytes (Copy.of_version name) bytes = if is_copied bytes then named Naming.dlvsym name (before_end bytes) else versioning name bytes
with_bytes Copy.of_pair bytes = pairing bytes
with_bytes (Copy.of_text count) bytes = writing bytes

-- ---- numbers and texts

-- the number in eight bytes, the lowest first: of a pair the first, from 0 on, or the second, from 8 on
unfoldable pub number_in : List ℕ → ℕ → ℕ
number_in bytes at = word_of (slice_index bytes) at

-- the doublewords of a text: a zero byte ends it, and zeros fill the last one
unfoldable pub text_words : List ℕ → List ℕ
text_words text = map (λ k. word_of (slice_index text) (8 * k)) (range_with_len 0 (length text / 8 + 1))
