-- The names of a source stand in the strings of its object.
use Rattle.std.proofs.Common.{◌≡◌, ◌∙◌, ap, sym, subst, refl, ℕ, zero, suc, ◌+◌, ◌^◌, ◌<◌, ◌==◌, ◌&&◌, not, Bool, true, false, List, [], ◌∷◌, ◌++◌, length, drop, flat_map, arith, length-append, append_assoc, append-nil}
use Rattle.std.specs.Prelude.{option_to_list}
use Rattle.std.specs.List.{All, AllPass, list_all}
use Rattle.std.proofs.Math.Seq.{drop-append_seam}
use Rattle.std.proofs.lemmas.List.Elements.{All-cons, All-nil}
use Rattle.std.proofs.lemmas.Bool.{ne_eqb}
use Rattle.std.proofs.lemmas.List.Sums.{sum_by-append, sum_by-cons}
use Rattle.asm_statement.specs.AsmWords.Names.{is_name, is_name_byte, may_begin}
use Rattle.asm_statement.specs.declared.line.Line.{Line}
use Rattle.asm_layout.specs.Contents.{export_names, exports_at, files_at, imports_at, needed_names, needed_versions_at, string_bytes, string_names, strings_of, versions_at}
use Rattle.asm_layout.specs.Tables.{needed, soname, versions}
use Rattle.asm_layout.specs.Uses.{imports}
use Rattle.asm_layout.specs.Versions.{needed_files, strings_length}
use Rattle.asm_laws.specs.Lemmas.Each.{Each, each}
use Rattle.asm_laws.specs.Said.{IsSaid}
use Rattle.asm_laws.specs.AsmWhole.Named.{AreNames}
use Rattle.asm_accepted.specs.AsmFields.Strings.{NamesStand, StandFrom}

-- No byte of a name is zero

abbrev Marks : List ℕ → Type 0
Marks name = AllPass (λ b. not (b == 0)) name

name_byte : (byte : ℕ) → is_name_byte byte ≡ true → not (byte == 0) ≡ true
unfolding is_name_byte
name_byte zero is = absurd cc
name_byte (suc n) is = let other : (suc n == 0) ≡ false = ne_eqb (suc n) 0 (λ same. absurd (omega (arith, same))) in ap not other

name_bytes : (bytes : List ℕ) → list_all is_name_byte bytes ≡ true → Marks bytes
name_bytes [] all = All-nil (λ b. not (b == 0) ≡ true)
name_bytes (byte ∷ bytes) all =
    let (first, rest) = both (is_name_byte byte) (list_all is_name_byte bytes) all in
    All-cons (λ b. not (b == 0) ≡ true) byte bytes (name_byte byte first) (name_bytes bytes rest)
  where
    both : (a b : Bool) → (a && b) ≡ true → (a ≡ true) × (b ≡ true)
    both true b is = (refl, is)
    both false b is = absurd cc

pub marks : (name : List ℕ) → is_name name ≡ true → Marks name
unfolding is_name
marks [] is = absurd cc
marks (first ∷ rest) is = name_bytes (first ∷ rest) (second (may_begin first) (list_all is_name_byte (first ∷ rest)) is)
  where
    second : (a b : Bool) → (a && b) ≡ true → b ≡ true
    second true b is = is
    second false b is = absurd cc

-- Names one behind the other

stand_from : (strings front : List ℕ) (names : List (List ℕ)) (rest : List ℕ) → strings ≡ front ++ (flat_map string_bytes names ++ rest) → Each Marks names → length strings < 2 ^ 32
    → StandFrom strings (length front) names
unfolding string_bytes
stand_from strings front [] rest whole marked low = tt
stand_from strings front (name ∷ names) rest whole (first, marked) low =
    let others = flat_map string_bytes names ++ rest in
    let inner : flat_map string_bytes (name ∷ names) ++ rest ≡ name ++ (0 ∷ others)
    = append_assoc (name ++ 0 ∷ []) (flat_map string_bytes names) rest ∙ append_assoc name (0 ∷ []) others in
    let all : strings ≡ front ++ (name ++ (0 ∷ others)) = whole ∙ ap (λ (xs : List ℕ). front ++ xs) inner in
    let here : drop (length front) strings ≡ name ++ (0 ∷ others) = ap (drop (length front)) all ∙ drop-append_seam front (name ++ (0 ∷ others)) in
    let size = ap length all ∙ length-append front (name ++ (0 ∷ others)) in
    let behind = front ++ (name ++ 0 ∷ []) in
    let further : strings ≡ behind ++ others = all ∙ ap (λ (xs : List ℕ). front ++ xs) (sym (append_assoc name (0 ∷ []) others)) ∙ sym (append_assoc front (name ++ 0 ∷ []) others) in
    let long : length behind ≡ length front + length name + 1 = omega (arith, length-append front (name ++ 0 ∷ []), length-append name (0 ∷ [])) in (
      record { low = omega (arith, size, low); ended = record { mark = 0; rest = others; parts = here; marked = refl; unmarked = first } },
      subst (λ n. StandFrom strings n names) long (stand_from strings behind names rest further marked low),
    )

-- the first of them and the others
split : (strings : List ℕ) (offset : ℕ) (one other : List (List ℕ)) → StandFrom strings offset (one ++ other)
    → StandFrom strings offset one × StandFrom strings (offset + strings_length one) other
split strings offset [] other all = let same : offset ≡ offset + 0 = omega arith in (tt, subst (λ n. StandFrom strings n other) same all)
split strings offset (name ∷ one) other (first, all) =
    let (front, rest) = split strings (offset + length name + 1) one other all in
    let sum = sum_by-cons (λ name. length name + 1) name one in
    let same : offset + length name + 1 + strings_length one ≡ offset + strings_length (name ∷ one) = omega (arith, sum) in
    ((first, front), subst (λ n. StandFrom strings n other) same rest)

sums : (one other : List (List ℕ)) → strings_length (one ++ other) ≡ strings_length one + strings_length other
sums one other = sum_by-append (λ name. length name + 1) one other

named : (lines : List Line) → AreNames lines → (names : List (List ℕ)) → Each (IsSaid lines) names → Each Marks names
named lines are [] said = tt
named lines are (name ∷ names) (first, said) = (marks name (are name first), named lines are names said)

pub names_stand : (lines : List Line) → AreNames lines → All (IsSaid lines) (string_names lines) → length (strings_of lines) < 2 ^ 32 → NamesStand lines
unfolding strings_of
names_stand lines are said low =
    let strings = strings_of lines in
    let bytes = flat_map string_bytes (string_names lines) in
    let whole : strings ≡ (0 ∷ []) ++ (bytes ++ []) = ap (λ (xs : List ℕ). 0 ∷ xs) (sym (append-nil bytes)) in
    let all = stand_from strings (0 ∷ []) (string_names lines) [] whole (named lines are (string_names lines) (each (IsSaid lines) (string_names lines) said)) low in
    let own = option_to_list (soname lines) in
    let a = own ++ needed lines in
    let b = a ++ imports lines in
    let c = b ++ export_names lines in
    let d = c ++ versions lines in
    let e = d ++ needed_files lines in
    let (to_files, last) = split strings 1 e (needed_names lines) all in
    let (to_versions, files) = split strings 1 d (needed_files lines) to_files in
    let (to_exports, defined) = split strings 1 c (versions lines) to_versions in
    let (to_imports, exported) = split strings 1 b (export_names lines) to_exports in
    let (to_needed, undefined) = split strings 1 a (imports lines) to_imports in
    let (first, libraries) = split strings 1 own (needed lines) to_needed in
    let one = sums own (needed lines) in
    let two = sums a (imports lines) in
    let three = sums b (export_names lines) in
    let four = sums c (versions lines) in
    let five = sums d (needed_files lines) in
    let at_imports : 1 + strings_length a ≡ imports_at lines = omega (arith, one) in
    let at_exports : 1 + strings_length b ≡ exports_at lines = omega (arith, one, two) in
    let at_versions : 1 + strings_length c ≡ versions_at lines = omega (arith, one, two, three) in
    let at_files : 1 + strings_length d ≡ files_at lines = omega (arith, one, two, three, four) in
    let at_last : 1 + strings_length e ≡ needed_versions_at lines = omega (arith, one, two, three, four, five) in
    record {
      nameless = record { low = omega arith; ended = record { mark = 0; rest = bytes; parts = refl; marked = refl; unmarked = All-nil (λ b. not (b == 0) ≡ true) } };
      own = first;
      needed = libraries;
      imports = subst (λ n. StandFrom strings n (imports lines)) at_imports undefined;
      exports = subst (λ n. StandFrom strings n (export_names lines)) at_exports exported;
      versions = subst (λ n. StandFrom strings n (versions lines)) at_versions defined;
      files = subst (λ n. StandFrom strings n (needed_files lines)) at_files files;
      needed_versions = subst (λ n. StandFrom strings n (needed_names lines)) at_last last;
    }
