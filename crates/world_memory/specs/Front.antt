-- Memory of which no more is kept than its first doublewords.
use Rattle.std.specs.Prelude.{ℕ, ◌-◌, List, ◌++◌, length}
use Rattle.std.proofs.Math.ListN.{replicate}
use Rattle.rv_hart.specs.Doublewords.{nowhere}
use Rattle.rv_hart.specs.declared.doubleword.Doubleword.{Doubleword}

-- how many doublewords lie in front of the linker's own page
abbrev pub front_count : ℕ
front_count = 0xffe00

-- so many doublewords without a role
unfoldable pub nowheres : ℕ → List Doubleword
nowheres count = replicate count nowhere

-- the first of so many doublewords, those behind them, and the linker's own page
unfoldable pub spread_over : ℕ → (front page : List Doubleword) → List Doubleword
spread_over count front page = front ++ (nowheres (count - length front) ++ page)

abbrev pub spread : (front page : List Doubleword) → List Doubleword
spread front page = spread_over front_count front page
