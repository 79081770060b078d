-- Where a name stands at an offset of the strings, a reader finds that one.
use Rattle.std.proofs.Common.{◌≡◌, ◌∙◌, ap, sym, subst, refl, ℕ, ◌+◌, ◌==◌, List, [], ◌∷◌, ◌++◌, length, drop, arith}
use Rattle.std.specs.Prelude.{Option, Some, None, option_to_list, unwrap_or}
use Rattle.std.proofs.lemmas.List.Sums.{sum_by-cons}
use Rattle.elf_head.specs.AcceptancePart.Before.{StandsBefore}
use Rattle.elf_head.specs.AcceptancePart.Lemmas.Finds.{same_some}
use Rattle.elf_head.specs.AcceptancePart.Lemmas.Reading.{before_from-stands}
use Rattle.elf_head.specs.DynTable.Name.{IsStringAt}
use Rattle.asm_layout.specs.Contents.{offsets_from, soname_offset}
use Rattle.asm_layout.specs.Versions.{strings_length, word}
use Rattle.asm_accepted.specs.AsmFields.Strings.{StandFrom, StandsAt}
use Rattle.asm_accepted.specs.Strings.{IsStringOf}
use Rattle.asm_accepted.proofs.Pairs.{Paired, behind}

one_front : (xs front other : List ℕ) → StandsBefore (λ b. b == 0) front xs → StandsBefore (λ b. b == 0) other xs → front ≡ other
one_front xs front other one another =
    same_some (sym (before_from-stands (λ b. b == 0) xs front one) ∙ before_from-stands (λ b. b == 0) xs other another)

-- a name at an offset that a record has
pub name_at : (strings : List ℕ) (at offset : ℕ) (name read : List ℕ) → at ≡ offset → StandsAt strings offset name → IsStringAt strings at read → read ≡ name
name_at strings at offset name read same stands is =
    one_front (drop offset strings) read name (subst (λ n. StandsBefore (λ b. b == 0) read (drop n strings)) same is.ended) stands.ended

-- as a number of 32 bits
pub name_of_word : (strings : List ℕ) (offset : ℕ) (name read : List ℕ) → StandsAt strings offset name → IsStringAt strings (word offset) read → read ≡ name
name_of_word strings offset name read stands is =
    let low = stands.low in
    let same : word offset ≡ offset = omega (arith, low) in
    name_at strings (word offset) offset name read same stands is

-- names one behind the other
pub names_from : (strings : List ℕ) (at : ℕ) (names read : List (List ℕ)) → Paired (IsStringAt strings) (offsets_from at names) read → StandFrom strings at names → read ≡ names
names_from strings at [] [] are stand = refl
names_from strings at [] (r ∷ read) are stand = absurd are
names_from strings at (name ∷ names) [] are stand = absurd are
names_from strings at (name ∷ names) (r ∷ read) (first, are) (stands, stand) =
    let one = name_of_word strings at name r stands first in
    let others = names_from strings (at + length name + 1) names read are stand in
    behind r name read names one others

pub split_from : (strings : List ℕ) (offset : ℕ) (one other : List (List ℕ)) → StandFrom strings offset (one ++ other)
    → StandFrom strings offset one × StandFrom strings (offset + strings_length one) other
split_from strings offset [] other all = let same : offset ≡ offset + 0 = omega arith in (tt, subst (λ n. StandFrom strings n other) same all)
split_from strings offset (name ∷ one) other (first, all) =
    let (front, rest) = split_from strings (offset + length name + 1) one other all in
    let sum = sum_by-cons (λ name. length name + 1) name one in
    let same : offset + length name + 1 + strings_length one ≡ offset + strings_length (name ∷ one) = omega (arith, sum) in
    ((first, front), subst (λ n. StandFrom strings n other) same rest)

-- the object's own name
pub own_name : (strings : List ℕ) (own read : Option (List ℕ)) → IsStringOf strings (soname_offset own) read → StandFrom strings 1 (option_to_list own) → read ≡ own
own_name strings None None is stand = refl
own_name strings None (Some r) is stand = absurd is
own_name strings (Some name) None is stand = absurd is
own_name strings (Some name) (Some r) is (stands, none) = ap Some (name_at strings 1 1 name r refl stands is)

-- which is that of the base version, or empty
pub base_name : (strings : List ℕ) (own : Option (List ℕ)) (read : List ℕ) → StandsAt strings 0 [] → StandFrom strings 1 (option_to_list own)
    → IsStringAt strings (word (unwrap_or (soname_offset own) 0)) read → read ≡ unwrap_or own []
base_name strings None read nameless stand is = name_of_word strings 0 [] read nameless is
base_name strings (Some name) read nameless (stands, none) is = name_of_word strings 1 name read stands is
