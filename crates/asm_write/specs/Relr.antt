-- Packed relative relocations (gABI, "Relative Relocation Table"): an even word names a place, an odd word those of the 63 words behind the last.
use Rattle.std.specs.Prelude.{ℕ, zero, suc, ◌+◌, ◌-◌, ◌*◌, ◌/◌, ◌%◌, ◌^◌, bit_or, Bool, ◌&&◌, ◌==◌, nat_le, nat_lt}
use Rattle.std.specs.Prelude.{if◌then◌else◌, List, [], ◌∷◌, fold, length, take, drop, take_while, Option, Some, None}

-- whether a place is one of the 63 words from a base on
abbrev pub is_in_map : ℕ → ℕ → Bool
is_in_map base place = nat_le base place && nat_lt (place - base) 504 && ((place - base) % 8 == 0)

-- bit n + 1 stands for word n behind the base
abbrev pub bit_of : ℕ → ℕ → ℕ
bit_of base place = if is_in_map base place then 2 ^ (1 + (place - base) / 8) else 0

unfoldable pub with_place : ℕ → ℕ → ℕ → ℕ
with_place base word place = bit_or word (bit_of base place)

abbrev pub map_of : ℕ → List ℕ → ℕ
map_of base places = fold (with_place base) 1 places

-- how many of ascending places stand among the 63 words from a base on, before one that doesn't
abbrev pub mapped_count : ℕ → List ℕ → ℕ
mapped_count base places = length (take_while (is_in_map base) places)

-- the words for ascending places, at most so many steps; `base` is where the 63 words of an odd word begin, or none where an even word comes next
abbrev pub words_within : ℕ → Option ℕ → List ℕ → List ℕ
words_within zero base places = []
words_within (suc most) None [] = []
words_within (suc most) None (place ∷ places) = place ∷ words_within most (Some (place + 8)) places
words_within (suc most) (Some base) places =
    if mapped_count base places == 0
    then words_within most None places
    else map_of base (take (mapped_count base places) places)
    ∷ words_within most (Some (base + 504)) (drop (mapped_count base places) places)

-- each step names a place, or goes back to an even word that does
unfoldable pub relr_words : List ℕ → List ℕ
relr_words places = words_within (2 * length places) None places
