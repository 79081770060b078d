-- Bytes that are joined, each behind those before, stand in the whole.
use Rattle.std.proofs.Common.{◌≡◌, subst, refl, ℕ, zero, suc, ◌+◌, ◌-◌, ◌≤◌, ◌==◌, Bool, true, false, if◌then◌else◌, List, [], ◌∷◌, ◌++◌, length, fold, replicate, arith, length-append}
use Rattle.std.specs.Prelude.{Some, ⊤}
use Rattle.std.specs.List.{slice_get}
use Rattle.std.proofs.lemmas.Bool.Decides.{nat_tests}
use Rattle.std.proofs.lemmas.List.{length-replicate}
use Rattle.asm_write.specs.Values.{joined}
use Rattle.asm_laws.specs.ElfRecords.Standing.{StandAt}

-- bytes that stand stand in a longer file too
more : (file rest part : List ℕ) (at : ℕ) → StandAt file at part → StandAt (file ++ rest) at part
more file rest part at stand k byte is = front_byte file rest (at + k) byte (stand k byte is)
  where
    front_byte : (xs ys : List ℕ) (k byte : ℕ) → slice_get xs k ≡ Some byte → slice_get (xs ++ ys) k ≡ Some byte
    front_byte [] ys k byte is = absurd cc
    front_byte (x ∷ xs) ys zero byte is = is
    front_byte (x ∷ xs) ys (suc k) byte is = front_byte xs ys k byte is

behind : (xs ys : List ℕ) (at : ℕ) → length xs ≡ at → StandAt (xs ++ ys) at ys
behind [] ys at long k byte is = let same : k ≡ at + k = omega (arith, long) in subst (λ n. slice_get ys n ≡ Some byte) same is
behind (x ∷ xs) ys at long k byte is =
    let same : suc (length xs + k) ≡ at + k = omega (arith, long) in
    subst (λ n. slice_get (x ∷ xs ++ ys) n ≡ Some byte) same (behind xs ys (length xs) refl k byte is)

-- one more is joined
kept : (file bytes part : List ℕ) (offset at : ℕ) → StandAt file at part → StandAt (joined file offset bytes) at part
kept file bytes part offset at stand =
    let P : Bool → Type 0 = λ empty. StandAt (if empty then file else file ++ replicate (offset - length file) 0 ++ bytes) at part in
    let longer : P false = more (file ++ replicate (offset - length file) 0) bytes part at (more file (replicate (offset - length file) 0) part at stand) in
    let cases : (empty : Bool) → P empty = λ empty. elim empty as P [ true ↦ stand | false ↦ longer ] in
    cases (length bytes == 0)

filled : (file bytes : List ℕ) (offset : ℕ) → length file ≤ offset → length (file ++ replicate (offset - length file) 0) ≡ offset
filled file bytes offset below =
    let whole = length-append file (replicate (offset - length file) 0) in
    let zeros = length-replicate {A = ℕ} (offset - length file) 0 in
    omega (arith, whole, zeros, below)

put : (file bytes : List ℕ) (offset : ℕ) → length file ≤ offset → StandAt (joined file offset bytes) offset bytes
put file [] offset below = λ k byte is. absurd cc
put file (first ∷ bytes) offset below =
    let some : (length (first ∷ bytes) == 0) ≡ false = grind (arith, nat_tests) in
    rw some (behind (file ++ replicate (offset - length file) 0) (first ∷ bytes) offset (filled file bytes offset below))

ends : (file bytes : List ℕ) (offset end : ℕ) → length file ≤ offset → offset + length bytes ≤ end → length (joined file offset bytes) ≤ end
ends file bytes offset end below fit =
    let P : Bool → Type 0 = λ empty. length (if empty then file else file ++ replicate (offset - length file) 0 ++ bytes) ≤ end in
    let whole = length-append (file ++ replicate (offset - length file) 0) bytes in
    let front = filled file bytes offset below in
    let cases : (empty : Bool) → P empty = λ empty. elim empty as P [ true ↦ omega (arith, below, fit) | false ↦ omega (arith, whole, front, fit) ] in
    cases (length bytes == 0)

module _ {X : Type 0} (offset : X → ℕ) (bytes : X → List ℕ) where
  abbrev pub put_one : List ℕ → X → List ℕ
  put_one file x = joined file (offset x) (bytes x)

  -- each stands behind those before it, the first from here on
  abbrev pub AreBehind : ℕ → List X → Type 0
  AreBehind from [] = ⊤
  AreBehind from (x ∷ xs) = (from ≤ offset x) × AreBehind (offset x + length (bytes x)) xs

  stays : (xs : List X) (file part : List ℕ) (at : ℕ) → StandAt file at part → StandAt (fold put_one file xs) at part
  stays [] file part at stand = stand
  stays (x ∷ xs) file part at stand = stays xs (put_one file x) part at (kept file (bytes x) part (offset x) at stand)

  pub all_stand : (xs : List X) (file : List ℕ) (from : ℕ) → length file ≤ from → AreBehind from xs → (k : ℕ) (x : X) → slice_get xs k ≡ Some x
      → StandAt (fold put_one file xs) (offset x) (bytes x)
  all_stand [] file from below behind k x is = absurd cc
  all_stand (y ∷ xs) file from below (later, rest) zero x is =
      let same : y ≡ x = cc in
      subst (λ z. StandAt (fold put_one file (y ∷ xs)) (offset z) (bytes z)) same
      (stays xs (put_one file y) (bytes y) (offset y) (put file (bytes y) (offset y) (omega (arith, below, later))))
  all_stand (y ∷ xs) file from below (later, rest) (suc k) x is =
      all_stand xs (put_one file y) (offset y + length (bytes y)) (ends file (bytes y) (offset y) (offset y + length (bytes y)) (omega (arith, below, later)) (omega arith)) rest k x is
