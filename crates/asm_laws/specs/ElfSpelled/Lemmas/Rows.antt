-- Records of one size stand one behind the other, and make up a table.
use Rattle.std.proofs.Common.{◌≡◌, ◌∙◌, ap, sym, subst, refl, ℕ, zero, suc, ◌+◌, ◌-◌, ◌*◌, ◌^◌, ◌<◌, ◌≤◌, List, [], ◌∷◌, ◌++◌, length, flat_map, map, arith, length-append}
use Rattle.std.specs.Prelude.{Some}
use Rattle.std.specs.Int.{w16, w32, w64, to_le_bytes}
use Rattle.std.specs.List.{slice_get}
use Rattle.std.proofs.lemmas.Option.{slice_get_within}
use Rattle.elf_head.specs.AcceptancePart.Table.{table}
use Rattle.elf_head.specs.AcceptancePart.Lemmas.Tables.{get-table, length-table, same_elements}
use Rattle.ld_base.specs.Field.{field}
use Rattle.asm_write.specs.declared.field.Field.TheVariants.{Half, Word, Doubleword}
use Rattle.asm_write.specs.Values.{doublewords, words}
use Rattle.asm_laws.specs.ElfRecords.Standing.{StandAt}
use Rattle.asm_laws.specs.ElfSpelled.Said.{AllBelow, AreSaidBy}
use Rattle.asm_laws.specs.ElfRecords.Lemmas.Fields.{one_read}
use Rattle.asm_laws.specs.ElfRecords.Lemmas.Standing.{behind, field_read, front, within}

pub rows : {X : Type 0} (f : X → List ℕ) (size : ℕ) → ((x : X) → length (f x) ≡ size) → (xs : List X) (i : ℕ) (x : X) → slice_get xs i ≡ Some x
    → StandAt (flat_map f xs) (size * i) (f x)
rows f size sized [] i x is = absurd cc
rows f size sized (y ∷ xs) zero x is =
    let same : y ≡ x = cc in
    let none : 0 ≡ size * 0 = omega arith in
    subst (λ n. StandAt (flat_map f (y ∷ xs)) n (f x)) none (subst (λ z. StandAt (flat_map f (y ∷ xs)) 0 (f z)) same (front (f y) (flat_map f xs)))
rows f size sized (y ∷ xs) (suc i) x is =
    let place : length (f y) + size * i ≡ size * suc i = let one = sized y in omega (arith, one) in
    subst (λ n. StandAt (flat_map f (y ∷ xs)) n (f x)) place
    (within (f y ++ flat_map f xs) (flat_map f xs) (f x) (length (f y)) (size * i) (behind (f y) (flat_map f xs)) (rows f size sized xs i x is))

pub length-map : {A B : Type 0} (g : A → B) (xs : List A) → length (map g xs) ≡ length xs
length-map g [] = refl
length-map g (x ∷ xs) = ap suc (length-map g xs)

pub get-map : {A B : Type 0} (g : A → B) (xs : List A) (i : ℕ) (x : A) → slice_get xs i ≡ Some x → slice_get (map g xs) i ≡ Some (g x)
get-map g [] i x is = absurd cc
get-map g (y ∷ xs) zero x is = let same : y ≡ x = cc in ap (λ z. Some (g z)) same
get-map g (y ∷ xs) (suc i) x is = get-map g xs i x is

pub at_index : {A : Type 0} (xs : List A) (i : ℕ) → i < length xs → (x : A) × (slice_get xs i ≡ Some x)
at_index [] i inside = absurd (omega arith)
at_index (x ∷ xs) zero inside = (x, refl)
at_index (x ∷ xs) (suc i) inside = at_index xs i (omega arith)

-- a list whose element of each index is said by the element of another
pub same_rows : {A B : Type 0} (g : A → B) (xs : List A) (ys : List B) → length ys ≡ length xs
    → ((i : ℕ) (x : A) → slice_get xs i ≡ Some x → slice_get ys i ≡ Some (g x)) → ys ≡ map g xs
same_rows g xs ys long each =
    let size = length-map g xs in
    same_elements ys (map g xs) (omega (arith, long, size)) (λ i inside.
    let (x, is) = at_index xs i (omega (arith, inside, size)) in
    each i x is ∙ sym (get-map g xs i x is))

-- a table of what such records read as
pub table_of : {A B : Type 0} (g : A → B) (at : ℕ → B) (size : ℕ) (xs : List A) → ((i : ℕ) (x : A) → slice_get xs i ≡ Some x → at (size * i) ≡ g x)
    → table at 0 size (length xs) ≡ map g xs
table_of g at size xs each =
    same_rows g xs (table at 0 size (length xs)) (length-table at 0 size (length xs)) (λ i x is.
    let here : 0 + size * i ≡ size * i = omega arith in
    get-table at 0 size (length xs) i (slice_get_within xs i x is) ∙ ap (λ n. Some (at n)) here ∙ ap Some (each i x is))

-- each of numbers that are all below a bound
pub below_at : (bound : ℕ) (numbers : List ℕ) → AllBelow bound numbers → (i n : ℕ) → slice_get numbers i ≡ Some n → n < bound
below_at bound [] all i n is = absurd cc
below_at bound (x ∷ numbers) (first, all) zero n is = let same : x ≡ n = cc in subst (λ m. m < bound) same first
below_at bound (x ∷ numbers) (first, all) (suc i) n is = below_at bound numbers all i n is

-- nothing is said by no records
pub nothing_said : {A B : Type 0} (Says : A → B → Type 0) (records : List A) (all : List B) → records ≡ [] → all ≡ [] → AreSaidBy Says records all
nothing_said Says [] [] none empty = record { count = refl; each = λ i x at. absurd cc }
nothing_said Says (r ∷ records) all none empty = absurd cc
nothing_said Says records (x ∷ all) none empty = absurd cc

-- what is said by records that stand behind others
pub said_behind : {A B : Type 0} (Says : A → B → Type 0) (records others : List A) (all rest : List B) → AreSaidBy Says records all → AreSaidBy Says others rest
    → AreSaidBy Says (records ++ others) (all ++ rest)
said_behind Says records others all rest first second = record {
  count =
      let one = first.count in
      let two = second.count in
      omega (arith, length-append all rest, length-append records others, one, two);
  each = joined Says records others all rest first.count first.each second.each;
}
  where
    joined : {A B : Type 0} (Says : A → B → Type 0) (records others : List A) (all rest : List B) → length all ≡ length records
        → ((i : ℕ) (x : B) → slice_get all i ≡ Some x → (r : A) × (slice_get records i ≡ Some r) × Says r x)
        → ((i : ℕ) (x : B) → slice_get rest i ≡ Some x → (r : A) × (slice_get others i ≡ Some r) × Says r x)
        → (i : ℕ) (x : B) → slice_get (all ++ rest) i ≡ Some x → (r : A) × (slice_get (records ++ others) i ≡ Some r) × Says r x
    joined Says [] others [] rest long first second i x is = second i x is
    joined Says [] others (y ∷ all) rest long first second i x is = absurd (omega (arith, long))
    joined Says (r ∷ records) others [] rest long first second i x is = absurd (omega (arith, long))
    joined Says (r ∷ records) others (y ∷ all) rest long first second zero x is = first zero x is
    joined Says (r ∷ records) others (y ∷ all) rest long first second (suc i) x is =
        joined Says records others all rest (omega (arith, long)) (λ j. first (suc j)) second i x is

-- bytes stand in themselves
pub whole : (bytes : List ℕ) → StandAt bytes 0 bytes
whole bytes k byte is = let same : k ≡ 0 + k = omega arith in subst (λ n. slice_get bytes n ≡ Some byte) same is

-- bytes that stand in others end within them
pub reaches : (bytes part : List ℕ) (at : ℕ) → StandAt bytes at part → 0 < length part → at + length part ≤ length bytes
reaches bytes part at stand some =
    let (byte, is) = at_index part (length part - 1) (omega (arith, some)) in
    let inside = slice_get_within bytes (at + (length part - 1)) byte (stand (length part - 1) byte is) in
    omega (arith, some, inside)

-- numbers whose bytes stand one behind the other
pub numbers_read : (size bound : ℕ) (bytes_of : ℕ → List ℕ) → ((n : ℕ) → length (bytes_of n) ≡ size) → ((n : ℕ) → n < bound → field size (bytes_of n) 0 ≡ n)
    → (bytes : List ℕ) (at : ℕ) (numbers : List ℕ) → AllBelow bound numbers → StandAt bytes at (flat_map bytes_of numbers)
    → table (field size bytes) at size (length numbers) ≡ numbers
numbers_read size bound bytes_of sized one bytes at numbers low stand =
    same_elements (table (field size bytes) at size (length numbers)) numbers (length-table (field size bytes) at size (length numbers)) (λ i inside.
    let (n, is) = at_index numbers i inside in
    let here = within bytes (flat_map bytes_of numbers) (bytes_of n) at (size * i) stand (rows bytes_of size sized numbers i n is) in
    let place : at + size * i ≡ at + size * i + 0 = omega arith in
    let read : field size bytes (at + size * i) ≡ n
    = ap (field size bytes) place ∙ field_read size bytes (bytes_of n) (at + size * i) 0 here (let long = sized n in omega (arith, long)) ∙ one n (below_at bound numbers low i n is) in
    get-table (field size bytes) at size (length numbers) i inside ∙ ap Some read ∙ sym is)

-- halves, words and doublewords
pub halves_read : (bytes : List ℕ) (at : ℕ) (numbers : List ℕ) → AllBelow (2 ^ 16) numbers → StandAt bytes at (flat_map (to_le_bytes w16) numbers)
    → table (field 2 bytes) at 2 (length numbers) ≡ numbers
halves_read bytes at numbers low stand = numbers_read 2 (2 ^ 16) (to_le_bytes w16) (λ n. refl) (λ n fits. one_read (Half n) fits) bytes at numbers low stand

pub words_read : (bytes : List ℕ) (at : ℕ) (numbers : List ℕ) → AllBelow (2 ^ 32) numbers → StandAt bytes at (words numbers) → table (field 4 bytes) at 4 (length numbers) ≡ numbers
words_read bytes at numbers low stand = numbers_read 4 (2 ^ 32) (to_le_bytes w32) (λ n. refl) (λ n fits. one_read (Word n) fits) bytes at numbers low stand

pub doublewords_read : (bytes : List ℕ) (at : ℕ) (numbers : List ℕ) → AllBelow (2 ^ 64) numbers → StandAt bytes at (doublewords numbers)
    → table (field 8 bytes) at 8 (length numbers) ≡ numbers
doublewords_read bytes at numbers low stand = numbers_read 8 (2 ^ 64) (to_le_bytes w64) (λ n. refl) (λ n fits. one_read (Doubleword n) fits) bytes at numbers low stand
