-- What a step of a hart comes to over doublewords that lie side by side: the registers and the doublewords settle it.
use Rattle.std.specs.Prelude.{◌≡◌, ℕ, List, Result}
use Rattle.rv_hart.specs.declared.bus.BusFault.{BusFault}
use Rattle.rv_hart.specs.declared.bus.Item.{Item}
use Rattle.rv_hart.specs.declared.bus.Item.TheVariants.{Read, Write}
use Rattle.rv_hart.specs.declared.doubleword.Doubleword.{Doubleword}
use Rattle.rv_hart.specs.Doublewords.{DoesIn}
use Rattle.rv_hart.specs.Registers.{Registers}
use Rattle.rv_hart.specs.Trail.{Chain, IsStep, Place}

-- the same calls leave the same doublewords
abbrev pub OneChain : Type 0
OneChain = (first : ℕ) (words left other : List Doubleword) (items : List Item) → Chain (DoesIn first) words items left
    → Chain (DoesIn first) words items other → left ≡ other

-- a read gets one answer, and so does a write
abbrev pub OneRead : Type 0
OneRead = (first : ℕ) (words left other : List Doubleword) (address size : ℕ) (answer also : Result ℕ BusFault)
    → DoesIn first words (Read address size answer) left → DoesIn first words (Read address size also) other → answer ≡ also

abbrev pub OneWrite : Type 0
OneWrite = (first : ℕ) (words left other : List Doubleword) (address size value : ℕ) (answer also : Result Unit BusFault)
    → DoesIn first words (Write address size value answer) left → DoesIn first words (Write address size value also) other → answer ≡ also

-- two steps from the same registers and doublewords are one
pub record IsOneStep (items others : List Item) (end also : Place) : Type 0 where
  pub calls : items ≡ others
  pub place : end ≡ also

abbrev pub OneStep : Type 0
OneStep = (first : ℕ) (r : Registers) (words left other : List Doubleword) (items others : List Item) (end also : Place) → IsStep r items end
    → IsStep r others also → Chain (DoesIn first) words items left → Chain (DoesIn first) words others other → IsOneStep items others end also
