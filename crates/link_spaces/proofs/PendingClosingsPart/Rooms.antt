-- How much room closings have.
use Rattle.std.proofs.Common.{ℕ, zero, suc, List, [], ◌∷◌, ◌++◌, map, take, drop, refl, arith}
use Rattle.link_spaces.specs.PendingClosingsPart.Pending.{HaveRoomOf, PendingClosing, with_more}

-- none has less than itself, or with more
no_less : (ps : List PendingClosing) → HaveRoomOf ps ps
no_less [] = tt
no_less (p ∷ ps) = (record { same = refl; objects = omega arith; ranges = omega arith }, no_less ps)

pub some_have_more : (ps : List PendingClosing) (i : ℕ) → HaveRoomOf ps (map with_more (take i ps) ++ drop i ps)
some_have_more [] zero = tt
some_have_more [] (suc i) = tt
some_have_more (p ∷ ps) zero = no_less (p ∷ ps)
some_have_more (p ∷ ps) (suc i) = (record { same = refl; objects = omega arith; ranges = omega arith }, some_have_more ps i)
