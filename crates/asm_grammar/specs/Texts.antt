-- How a text is made of others: with blanks around it, of parts with marks between them, of a word and what stands behind it.
use Rattle.std.specs.Prelude.{ℕ, not, ◌≡◌, ◌≤◌, ◌⊎◌, ◌==◌, true, false, List, [], ◌∷◌, ◌++◌, length, reverse}
use Rattle.std.specs.List.{list_all, join_with_byte}
use Rattle.asm_statement.specs.AsmWords.Text.{is_blank}

-- a text without some byte
abbrev pub Lacks : ℕ → List ℕ → Type 0
Lacks mark text = list_all (λ code. not (code == mark)) text ≡ true

-- spaces and tabs alone, and none of them
abbrev pub AreBlank : List ℕ → Type 0
AreBlank text = list_all is_blank text ≡ true

abbrev pub LacksBlanks : List ℕ → Type 0
LacksBlanks text = list_all (λ code. not (is_blank code)) text ≡ true

-- a text that is empty, or whose first byte is no blank
abbrev pub BeginsBare : List ℕ → Type 0
BeginsBare [] = Unit {0}
BeginsBare (first ∷ rest) = is_blank first ≡ false

-- a text is another one with blanks around it, which has none at its ends
pub record IsPadded (text inner : List ℕ) : Type 0 where
  pub front : List ℕ
  pub behind : List ℕ
  pub whole : text ≡ front ++ (inner ++ behind)
  pub front_blank : AreBlank front
  pub behind_blank : AreBlank behind
  pub begins : BeginsBare inner
  pub ends : BeginsBare (reverse inner)

-- texts one by one with blanks around them
abbrev pub ArePadded : List (List ℕ) → List (List ℕ) → Type 0
ArePadded [] [] = Unit {0}
ArePadded (text ∷ texts) (inner ∷ inners) = IsPadded text inner × ArePadded texts inners
ArePadded [] (inner ∷ inners) = ⊥
ArePadded (text ∷ texts) [] = ⊥

abbrev pub AllLack : ℕ → List (List ℕ) → Type 0
AllLack mark [] = Unit {0}
AllLack mark (part ∷ parts) = Lacks mark part × AllLack mark parts

-- a text is one part or more, with a mark between each two of them and none in them
pub record AreParts (mark : ℕ) (text : List ℕ) (parts : List (List ℕ)) : Type 0 where
  pub joined : text ≡ join_with_byte mark parts
  pub some : 1 ≤ length parts
  pub without : AllLack mark parts

-- a text is a word and, behind one blank or more, what begins with none
pub record IsApart (text word behind : List ℕ) : Type 0 where
  pub gap : List ℕ
  pub whole : text ≡ word ++ (gap ++ behind)
  pub some : 1 ≤ length gap
  pub blank : AreBlank gap
  pub begins : BeginsBare behind

-- the first word of a text, and what stands behind it
abbrev pub IsWorded : List ℕ → List ℕ → List ℕ → Type 0
IsWorded text word behind = LacksBlanks word × (((text ≡ word) × (behind ≡ [])) ⊎ IsApart text word behind)
