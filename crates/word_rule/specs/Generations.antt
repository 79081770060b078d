-- The generation of the TLS modules.
use Rattle.std.specs.Prelude.{◌≡◌, ◌≢◌, ℕ, ◌≤◌, ◌<◌, true, false, List, [], ◌∷◌, ◌++◌, Some, None, Contains}
use Rattle.word_rule.specs.declared.entry.Entry.{Entry}
use Rattle.word_rule.specs.declared.view.Row.{Row}
use Rattle.word_rule.specs.declared.view.TrailItem.{TrailItem}
use Rattle.word_rule.specs.declared.view.TrailItem.TheVariants.{Took, Exchanged, Generation as ReadGeneration}
use Rattle.word_rule.specs.Layout.{generation_at, harts_at_most}
use Rattle.word_rule.specs.Views.{NoneAbove, NoneLater, entries_by, is_block, last_block, readings_of}

-- a reading behind these entries has the block of the last TLS answer among them of its generation and module, and none where there is none; and
-- none of them is of a later generation
abbrev pub IsKept : List Entry → TrailItem → Type 0
IsKept before (ReadGeneration generation number block) = (block ≡ last_block generation number before) × NoneLater generation before
IsKept before _ = Unit {0}

-- so has each reading in a trail
abbrev pub AllKept : List Entry → List TrailItem → Type 0
AllKept before [] = Unit {0}
AllKept before (item ∷ rest) = IsKept before item × AllKept (before ++ entries_by item) rest

-- no TLS answer of the entry's generation and module is among these
abbrev pub IsUnknown : List Entry → Entry → Type 0
IsUnknown before e = last_block e.generation e.slot before ≡ None

-- an answer of mark 2 behind these entries is the first TLS answer of its generation and module
abbrev pub IsMarkedOnce : List Entry → TrailItem → Type 0
IsMarkedOnce before (Took e) = e.mark ≡ 2 → IsUnknown before e
IsMarkedOnce before (Exchanged x) = x.grant.entry.mark ≡ 2 → IsUnknown before x.grant.entry
IsMarkedOnce before _ = Unit {0}

-- so is each in a trail. The rule doesn't say so, for a keeper may hand a second one over: it holds of a hart that asks for a block
-- only where it keeps none
abbrev pub MarksOnce : List Entry → List TrailItem → Type 0
MarksOnce before [] = Unit {0}
MarksOnce before (item ∷ rest) = IsMarkedOnce before item × MarksOnce (before ++ entries_by item) rest

-- the item has no entry of mark 2
abbrev pub IsUnmarked : TrailItem → Type 0
IsUnmarked (Took e) = e.mark ≢ 2
IsUnmarked (Exchanged x) = x.grant.entry.mark ≢ 2
IsUnmarked _ = Unit {0}

-- ---- the last block

-- the block is that of the last TLS answer of the generation and the module
pub record HasLast (generation number : ℕ) (entries : List Entry) (b : ℕ) : Type 0 where
  pub before : List Entry
  pub answer : Entry
  pub behind : List Entry
  pub are : entries ≡ before ++ answer ∷ behind
  pub block : is_block generation number answer ≡ true
  pub value : answer.value ≡ b
  pub last : (e : Entry) → Contains behind e → is_block generation number e ≡ false

abbrev pub LastIsAnswer : Type 0
LastIsAnswer = (generation number : ℕ) (entries : List Entry) (b : ℕ) → last_block generation number entries ≡ Some b → HasLast generation number entries b

abbrev pub NoneIsAnswer : Type 0
NoneIsAnswer =
    (generation number : ℕ) (entries : List Entry) → last_block generation number entries ≡ None
    → (e : Entry) → Contains entries e → is_block generation number e ≡ false

-- a module without a block of a generation that no entry is later than has none of a later one
abbrev pub NoneIsOfLater : Type 0
NoneIsOfLater =
    (loaded generation number : ℕ) (entries : List Entry) → NoneLater loaded entries → last_block loaded number entries ≡ None
    → loaded ≤ generation → last_block generation number entries ≡ None

-- ---- the rule

pub record Generations (word : ℕ → ℕ) (generation : ℕ) (row : ℕ → Row) (trail : ℕ → List TrailItem) : Type 0 where
  pub current : word generation_at ≡ generation
  pub issued : (m : ℕ) → m < harts_at_most → NoneLater generation (row m).issued
  pub kept : (m : ℕ) → m < harts_at_most → AllKept [] (trail m)
  pub read : (m : ℕ) → m < harts_at_most → NoneAbove generation (readings_of (trail m))
