-- A search by halves among parts whose serials ascend.
use Rattle.std.proofs.Common.{◌≡◌, ◌==◌, ℕ, ◌<◌, ◌≤◌, Bool, true, false, suc, zero, cond, List, [], ◌∷◌, Option, Some, None, Bor, length, drop, get_or, ltb, refl, sym, ap, ◌∙◌, arith}
use Rattle.std.specs.Bool.{then_some}
use Rattle.std.specs.List.{find, slice_get}
use Rattle.std.specs.List.Sorted.{IsNonDecreasingBy, IsPartitionPoint}
use Rattle.std.specs.Option.{option_copied}
use Rattle.std.proofs.lemmas.Bool.{eqb-false, ltb-false, ltb-true, ne_eqb}
use Rattle.std.proofs.lemmas.List.Sorted.{IsNonDecreasingBy-drop}
use Rattle.link_images.specs.declared.parts.Part.{Part}
use Rattle.link_images.specs.Parts.{serial_of}

-- the part at the place of a search, where it is the object's
abbrev pub found_at : ℕ → Option Part → Option Part
found_at serial None = None
found_at serial (Some p) = cond (p.serial == serial) (Some p) None

pub copied : (b : Bool) (x : Bor Part) → option_copied (then_some b x) ≡ cond b (Some x.now) None
copied true x = refl
copied false x = refl

none_above : (serial : ℕ) (xs : List Part) → ((k : ℕ) (d : Part) → k < length xs → serial < serial_of (get_or xs k d)) → find (λ p. p.serial == serial) xs ≡ None
none_above serial [] above = refl
none_above serial (x ∷ xs) above =
    let first = above 0 x (omega arith) in
    rw (ne_eqb x.serial serial (λ same. absurd (omega (arith, first, same)))) (none_above serial xs (λ k d lt. above (suc k) d (omega (arith, lt))))

pub halves : (serial place : ℕ) (xs : List Part) → IsNonDecreasingBy serial_of xs
    → ((k : ℕ) (d : Part) → k < place → serial_of (get_or xs k d) < serial)
    → ((k : ℕ) (d : Part) → place ≤ k → k < length xs → serial ≤ serial_of (get_or xs k d))
    → found_at serial (slice_get (drop place xs) 0) ≡ find (λ p. p.serial == serial) xs
halves serial zero [] rise below above = refl
halves serial (suc place) [] rise below above = refl
halves serial zero (x ∷ xs) rise below above = at (x.serial == serial) refl
  where
    at : (b : Bool) → (x.serial == serial) ≡ b → cond b (Some x) None ≡ cond b (Some x) (find (λ p. p.serial == serial) xs)
    at true is = refl
    at false is = sym (none_above serial xs (λ k d lt.
        let from = above 0 x (omega arith) (omega arith) in
        let other = eqb-false x.serial serial is in
        let next = rise 0 (suc k) d (omega arith) (omega (arith, lt)) in
        omega (arith, from, other, next)))
halves serial (suc place) (x ∷ xs) rise below above =
    let first = below 0 x (omega arith) in
    rw (ne_eqb x.serial serial (λ same. absurd (omega (arith, first, same))))
    (halves serial place xs (IsNonDecreasingBy-drop serial_of 1 (x ∷ xs) rise) (λ k d lt. below (suc k) d (omega (arith, lt))) (λ k d le lt. above (suc k) d (omega (arith, le)) (omega (arith, lt))))

-- what stands first from the place of a search on is found, where it is the object's
pub found_first : (serial place : ℕ) (xs rest : List Part) (first : Option (Bor Part)) → IsNonDecreasingBy serial_of xs
    → IsPartitionPoint (λ p. ltb (serial_of p) serial ≡ true) (λ p. ltb (serial_of p) serial ≡ false) xs place
    → rest ≡ drop place xs → option_copied first ≡ slice_get rest 0
    → found_at serial (option_copied first) ≡ find (λ p. p.serial == serial) xs
found_first serial place xs rest first rise point back is =
    ap (found_at serial) (is ∙ ap (λ (ps : List Part). slice_get ps 0) back)
    ∙ halves serial place xs rise (λ k d lt. ltb-true (serial_of (get_or xs k d)) serial (point.0 k d (omega arith) lt)) (λ k d le lt. ltb-false (serial_of (get_or xs k d)) serial (point.1 k d le lt))
