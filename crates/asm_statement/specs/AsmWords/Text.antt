-- Texts: blanks, and cuts at marks.
use Rattle.std.specs.Prelude.{ℕ, Bool, ◌||◌, ◌==◌, ◌+◌, if◌then◌else◌, List, [], ◌∷◌, reverse, take, drop, Option, Some, None}
use Rattle.std.specs.List.{slice_split}
use Rattle.std.specs.Str.{byte}

-- a value that is there where two are, the second asked of the first
infixl 10 ◌>>=◌
abbrev pub ◌>>=◌ : {A B : Type 0} → Option A → (A → Option B) → Option B
None >>= f = None
(Some x) >>= f = f x

-- a space or a tab
unfoldable pub is_blank : ℕ → Bool
is_blank code = code == byte " " || code == byte "\t"

-- what stands behind the blanks at a text's start, and before those at its end
abbrev pub after_blanks : List ℕ → List ℕ
after_blanks [] = []
after_blanks (first ∷ rest) = if is_blank first then after_blanks rest else first ∷ rest

abbrev pub before_blanks : List ℕ → List ℕ
before_blanks text = reverse (after_blanks (reverse text))

abbrev pub trimmed : List ℕ → List ℕ
trimmed text = before_blanks (after_blanks text)

unfoldable pub is_mark : ℕ → ℕ → Bool
is_mark mark code = code == mark

-- how many bytes stand before the first one that a test finds
abbrev pub until : (ℕ → Bool) → List ℕ → ℕ
until stops [] = 0
until stops (first ∷ rest) = if stops first then 0 else until stops rest + 1

-- how many bytes stand before the first mark, or before the first blank
abbrev pub until_mark : ℕ → List ℕ → ℕ
until_mark mark text = until (is_mark mark) text

abbrev pub until_blank : List ℕ → ℕ
until_blank text = until is_blank text

-- the bytes before a place and those behind it; none where the text ends there
abbrev pub around : List ℕ → List ℕ → Option (List ℕ × List ℕ)
around front [] = None
around front (mark ∷ behind) = Some (front, behind)

abbrev pub cut_at : ℕ → List ℕ → Option (List ℕ × List ℕ)
cut_at count text = around (take count text) (drop count text)

-- what stands before the first mark, and behind it
abbrev pub cut : ℕ → List ℕ → Option (List ℕ × List ℕ)
cut mark text = cut_at (until_mark mark text) text

-- what stands before the first blank, and behind it
abbrev pub cut_blank : List ℕ → Option (List ℕ × List ℕ)
cut_blank text = cut_at (until_blank text) text

-- what stands between commas
abbrev pub parts_of : List ℕ → List (List ℕ)
parts_of text = slice_split (λ code. code == byte ",") text
