-- Where a string of a table stands.
use Rattle.std.proofs.Common.{◌≡◌, ◌∙◌, refl, sym, ap, ℕ, suc, ◌+◌, ◌-◌, List, [], ◌∷◌, ◌++◌, length, take, drop, Some, arith, length-append, length-drop}
use Rattle.std.specs.Prelude.{◌==◌, option_map, position}
use Rattle.elf_head.specs.AcceptancePart.Before.{before, StandsBefore}
use Rattle.elf_head.specs.AcceptancePart.Lemmas.Reading.{stands_from-before, stands_within}
use Rattle.elf_head.specs.DynTable.Name.{string_at, StandsAt}

front_taken : (front rest : List ℕ) → take (length front) (front ++ rest) ≡ front
front_taken [] rest = refl
front_taken (x ∷ front) rest = ap (λ (t : List ℕ). x ∷ t) (front_taken front rest)

-- what stands before a mark from an offset on is what is cut out there
cut_there : (strings : List ℕ) (offset : ℕ) (name : List ℕ) → StandsBefore (λ b. b == 0) name (drop offset strings)
    → StandsAt strings offset name
cut_there strings offset name stands =
    let size : length (drop offset strings) ≡ length name + suc (length stands.rest) = ap length stands.parts ∙ length-append name (stands.mark ∷ stands.rest) in
    let taken : take (length name) (drop offset strings) ≡ name = rw stands.parts (front_taken name (stands.mark ∷ stands.rest)) in
    let count : offset + length name - offset ≡ length name = omega arith in
    record { held = omega (arith, size, length-drop offset strings); cut = rw count taken }

-- a string stands where its offset says
string_place : (strings : List ℕ) (offset : ℕ) (name : List ℕ) → string_at strings offset ≡ Some name
    → StandsAt strings offset name
unfolding string_at
string_place strings offset name is =
    cut_there strings offset name (stands_within (λ b. b == 0) 4096 (drop offset strings) name (stands_from-before (λ b. b == 0) (take 4096 (drop offset strings)) name is)).0

-- the string that ends at the first zero byte
pub string_found : (strings window : List ℕ) (offset end : ℕ) → window ≡ take 4096 (drop offset strings) → position (λ b. b == 0) window ≡ Some end
    → StandsAt strings offset (take end window)
unfolding string_at
string_found strings window offset end is found =
    string_place strings offset (take end window) (ap (λ (w : List ℕ). before (λ b. b == 0) w) (sym is) ∙ ap (option_map (λ n. take n window)) found)
