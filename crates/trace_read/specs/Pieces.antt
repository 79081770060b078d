-- Pieces of a line. For the code of this crate alone.
use Rattle.std.specs.Prelude.{ℕ, Bool, ◌==◌, ◌+◌, if◌then◌else◌, List, [], ◌∷◌, length, take, drop, Option, Some, None}
use Rattle.std.specs.Str.{bytes_eq}

-- a value that is there where two are, the second asked of the first
infixl 10 ◌>>=◌
abbrev pub ◌>>=◌ : {A B : Type 0} → Option A → (A → Option B) → Option B
None >>= f = None
(Some x) >>= f = f x

unfoldable pub is_mark : ℕ → ℕ → Bool
is_mark mark byte = byte == mark

-- how many bytes stand before the first mark
abbrev pub until_mark : ℕ → List ℕ → ℕ
until_mark mark [] = 0
until_mark mark (byte ∷ rest) = if is_mark mark byte then 0 else until_mark mark rest + 1

-- the bytes before a place and those behind it; none where the text ends there
abbrev pub around : List ℕ → List ℕ → Option (List ℕ × List ℕ)
around front [] = None
around front (mark ∷ behind) = Some (front, behind)

abbrev pub cut_at : ℕ → List ℕ → Option (List ℕ × List ℕ)
cut_at count text = around (take count text) (drop count text)

-- what stands before the first mark, and behind it
unfoldable pub cut : ℕ → List ℕ → Option (List ℕ × List ℕ)
cut mark text = cut_at (until_mark mark text) text

-- what stands behind a label
unfoldable pub behind : List ℕ → List ℕ → Option (List ℕ)
behind label text = if bytes_eq (take (length label) text) label then Some (drop (length label) text) else None

-- what a table has under a word
abbrev pub named : {A : Type 0} → List ℕ → List (List ℕ × A) → Option A
named word [] = None
named word (row ∷ rows) = if bytes_eq word row.0 then Some row.1 else named word rows

-- a value behind a label
abbrev pub labelled : {A : Type 0} → (List ℕ → Option A) → List ℕ → List ℕ → Option A
labelled read label text = behind label text >>= read

-- a value before a mark, and what stands behind it
abbrev pub before : {A : Type 0} → ℕ → (List ℕ → Option A) → List ℕ → Option (A × List ℕ)
before mark read text = cut mark text >>= λ p. read p.0 >>= λ a. Some (a, p.1)

-- two values with a mark between
abbrev pub pair : {A B : Type 0} → ℕ → (List ℕ → Option A) → (List ℕ → Option B) → List ℕ → Option (A × B)
pair mark first second text = before mark first text >>= λ p. second p.1 >>= λ b. Some (p.0, b)

-- a value, and another one where a mark follows
abbrev pub option_by : {A B : Type 0} → (List ℕ → Option A) → (List ℕ → Option B) → List ℕ → Option (List ℕ × List ℕ)
    → Option (A × Option B)
option_by first second text None = first text >>= λ a. Some (a, None)
option_by first second text (Some p) = first p.0 >>= λ a. second p.1 >>= λ b. Some (a, Some b)

abbrev pub with_option : {A B : Type 0} → ℕ → (List ℕ → Option A) → (List ℕ → Option B) → List ℕ → Option (A × Option B)
with_option mark first second text = option_by first second text (cut mark text)
