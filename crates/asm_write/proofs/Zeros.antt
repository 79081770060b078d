-- Zeros behind bytes.
use Rattle.std.proofs.Common.{◌≡◌, ◌∙◌, ap, ℕ, suc, ◌+◌, ◌-◌, ◌<◌, List, [], ◌∷◌, ◌++◌, replicate, append_assoc, arith}

-- one zero of those that are left
pub one_more : (bytes : List ℕ) (offset at : ℕ) → at < offset → (bytes ++ 0 ∷ []) ++ replicate (offset - (at + 1)) 0 ≡ bytes ++ replicate (offset - at) 0
one_more bytes offset at below =
    let left = offset - (at + 1) in
    let one_less : suc left ≡ offset - at = omega arith in
    append_assoc bytes (0 ∷ []) (replicate left 0) ∙ ap (λ count. bytes ++ replicate count 0) one_less
