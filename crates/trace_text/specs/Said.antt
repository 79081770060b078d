-- A text of words, each with a space behind it, and of what is said last.
use Rattle.std.specs.Prelude.{ℕ, List, [], ◌∷◌, ◌++◌, codes}
use Rattle.std.specs.Fmt.{decimal}

abbrev pub said : List (List ℕ) → List ℕ → List ℕ
said [] last = last
said (word ∷ words) last = word ++ 32 ∷ said words last

-- h=H, a hart, and o=S, an object
abbrev pub hart_word : ℕ → List ℕ
hart_word hart = codes "h=" ++ decimal hart

abbrev pub object_word : ℕ → List ℕ
object_word serial = codes "o=" ++ decimal serial
