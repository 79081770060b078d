-- The lines of a trace.
use Rattle.std.specs.Prelude.{◌≡◌, ℕ, Bool, false, ◌==◌, List, [], ◌∷◌, ◌++◌, Option, Some, None, All, Contains, codes, IsTrue}
use Rattle.std.specs.List.{flat_map, starts_with}

pub record Lines : Type 0 where
  -- the lines before the first that begins with `end `, each with its line feed
  pub events : List (List ℕ)
  -- that line
  pub last : Option (List ℕ)
  -- what stands behind it; where there is none, behind the last line feed
  pub rest : List ℕ

abbrev pub HasNoFeed : List ℕ → Type 0
HasNoFeed bytes = ¬ (Contains bytes 10)

-- bytes up to the first line feed, and it
pub record IsLine (line : List ℕ) : Type 0 where
  pub words : List ℕ
  pub are : line ≡ words ++ 10 ∷ []
  pub one : HasNoFeed words

abbrev pub is_end : List ℕ → Bool
is_end line = starts_with (λ a b. a == b) line (codes "end ")

pub record IsBefore (bytes : List ℕ) : Type 0 where
  pub line : IsLine bytes
  pub before : is_end bytes ≡ false

pub record IsLast (bytes : List ℕ) : Type 0 where
  pub line : IsLine bytes
  pub last : IsTrue (is_end bytes)

abbrev pub EndsIn : Option (List ℕ) → List ℕ → Type 0
EndsIn (Some line) rest = IsLast line
EndsIn None rest = HasNoFeed rest

abbrev pub bytes_of : Option (List ℕ) → List ℕ
bytes_of (Some line) = line
bytes_of None = []

pub record AreLines (text : List ℕ) (t : Lines) : Type 0 where
  pub whole : text ≡ flat_map (λ line. line) t.events ++ (bytes_of t.last ++ t.rest)
  pub before : All IsBefore t.events
  pub ends : EndsIn t.last t.rest
