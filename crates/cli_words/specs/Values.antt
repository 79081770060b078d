-- What the values of options say.
use Rattle.std.specs.Prelude.{◌≡◌, ◌≢◌, ℕ, ◌^◌, ◌≤◌, ◌==◌, List, [], length, Option, Some, None, Contains}
use Rattle.std.specs.Fmt.{decimal}
use Rattle.std.specs.List.{slice_split}

-- parts between a byte
abbrev pub parts_by : ℕ → List ℕ → List (List ℕ)
parts_by byte value = slice_split (λ b. b == byte) value

-- so many parts at most, none empty and none longer
pub record AreParts (byte most longest : ℕ) (value : List ℕ) (parts : List (List ℕ)) : Type 0 where
  pub are : parts ≡ parts_by byte value
  pub few : length parts ≤ most
  pub some : (part : List ℕ) → Contains parts part → part ≢ []
  pub short : (part : List ℕ) → Contains parts part → length part ≤ longest

-- an option that doesn't stand gives none
abbrev pub Gives : (byte most longest : ℕ) → Option (List ℕ) → List (List ℕ) → Type 0
Gives byte most longest None parts = parts ≡ []
Gives byte most longest (Some value) parts = AreParts byte most longest value parts

-- folders between colons, of 1000 bytes at most
abbrev pub AreFolders : Option (List ℕ) → List (List ℕ) → Type 0
AreFolders given folders = Gives 58 16 1000 given folders

-- names between colons, of whatever length
abbrev pub ArePreloads : Option (List ℕ) → List (List ℕ) → Type 0
ArePreloads None names = names ≡ []
ArePreloads (Some value) names = AreParts 58 16 (length value) value names

-- names between commas, of 255 bytes at most
abbrev pub AreHarts : Option (List ℕ) → List (List ℕ) → Type 0
AreHarts given names = Gives 44 15 255 given names

-- a number is written in decimal digits, without a sign, and without a zero before it
pub record IsNumber (low high : ℕ) (text : List ℕ) (number : ℕ) : Type 0 where
  pub is : text ≡ decimal number
  pub from : low ≤ number
  pub to : number ≤ high

-- how many turns each hart has: a million unless it is given
abbrev pub IsFuel : Option (List ℕ) → ℕ → Type 0
IsFuel None fuel = fuel ≡ 1000000
IsFuel (Some text) fuel = IsNumber 1 (2 ^ 32) text fuel
