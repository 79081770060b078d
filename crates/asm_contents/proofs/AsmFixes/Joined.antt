-- Lists one behind another.
use Rattle.std.proofs.Common.{◌≡◌, List, ◌++◌, append_assoc}
use Rattle.std.specs.Prelude.{Result, Ok, Err, OnOk}

pub regroup : {A : Type 0} (old a b c d e f g h : List A)
    → (((((((old ++ a) ++ b) ++ c) ++ d) ++ e) ++ f) ++ g) ++ h ≡ old ++ (((((((a ++ b) ++ c) ++ d) ++ e) ++ f) ++ g) ++ h)
regroup old a b c d e f g h = simp append_assoc

-- what is so where an answer is one, and so something else
pub on_ok : {T E : Type 0} {P Q : Type 0} (r : Result T E) → OnOk r P → (P → Q) → OnOk r Q
on_ok (Ok value) is so = so is
on_ok (Err error) is so = tt
