-- What words with numbers and names are read back as.
use Rattle.std.proofs.Common.{◌≡◌, ℕ, ◌+◌, ◌<◌, ◌≤◌, ◌^◌, true, false, List, [], ◌∷◌, ◌++◌}
use Rattle.std.proofs.Common.{Option, Some, None, option_map, refl, sym, ap, ◌∙◌, subst, arith, inl, inr, codes, bytes_eq, append_assoc, All}
use Rattle.std.proofs.lemmas.Bool.{cases_Bool}
use Rattle.std.proofs.lemmas.Option.{none-some, same_Some}
use Rattle.std.proofs.lemmas.Slice.Eq.{bytes_eq-Decides}
use Rattle.std.specs.Fmt.{decimal, digits}
use Rattle.ld_base.specs.declared.linking.TlsPlace.{TlsPlace}
use Rattle.ld_base.specs.FaultText.{hex_text}
use Rattle.ld_base.specs.Text.{name_text}
use Rattle.history_event.specs.declared.event_line.NewLine.{NewLine}
use Rattle.trace_text.specs.Lists.{place_text, serials_text}
use Rattle.trace_text.specs.Lines.{definition_text}
use Rattle.trace_read.specs.Fits.{Fits8, Fits32, Fits64, Fits64IfSome, PlaceFits, NewLineFits}
use Rattle.trace_read.specs.Lines.{new_line_text, new_lines_text}
use Rattle.trace_read.specs.Lists.{hexadecimal, place_of_parts, place, new_line_of_parts, new_line, list_of}
use Rattle.trace_read.specs.Numbers.{below, numeral, digit, decimal_in, hexadecimal_in, definition}
use Rattle.trace_read.specs.Pieces.{◌>>=◌, named, with_option, cut, is_mark}
use Rattle.trace_read.proofs.Digits.{below-there, below-back, ten, sixteen, numeral_reads, digits_free, is_digit_byte}
use Rattle.trace_read.proofs.Listed.{listed, list_reads}
use Rattle.trace_read.proofs.Parts.{Reads, bound, mapped, free, free-append, labelled_reads, pair_reads, with_option_reads, if_true, if_false}
use Rattle.trace_read.proofs.Spelled.{name_reads, name_free}

-- numbers

pub decimal_reads : Reads (numeral 10) decimal Fits64
decimal_reads = numeral_reads 10 ten

pub hexadecimal_reads : Reads hexadecimal hex_text Fits64
hexadecimal_reads = labelled_reads (numeral_reads 16 sixteen) (codes "0x")

module _ {read : List ℕ → Option ℕ} {text : ℕ → List ℕ} (r : Reads read text Fits64) (limit : ℕ) (fits : limit ≤ 2 ^ 64) where
  pub below_reads : Reads (λ w. read w >>= below limit) text (λ n. n < limit)
  below_reads = record {
    there = λ n h. rw (r.there n (omega arith)) (below-there limit n h);
    back = λ w n e. bound (read w) (below limit) n e (λ m em en.
        let it = below-back limit m n en in
        (omega (arith, it), ap text (sym it.0) ∙ (r.back w m em).1));
  }

pub decimal8_reads : Reads (decimal_in (2 ^ 8)) decimal Fits8
decimal8_reads = below_reads decimal_reads (2 ^ 8) (omega arith)

pub decimal32_reads : Reads (decimal_in (2 ^ 32)) decimal Fits32
decimal32_reads = below_reads decimal_reads (2 ^ 32) (omega arith)

pub hexadecimal32_reads : Reads (hexadecimal_in (2 ^ 32)) hex_text Fits32
hexadecimal32_reads = below_reads hexadecimal_reads (2 ^ 32) (omega arith)

-- no byte of a number is a mark

pub decimal_free : (mark : ℕ) → is_digit_byte mark ≡ false → (n : ℕ) → Fits64 n → free mark (decimal n) ≡ true
decimal_free mark off = digits_free 10 ten mark off

pub decimal32_free : (mark : ℕ) → is_digit_byte mark ≡ false → (n : ℕ) → Fits32 n → free mark (decimal n) ≡ true
decimal32_free mark off n h = decimal_free mark off n (omega arith)

pub decimal8_free : (mark : ℕ) → is_digit_byte mark ≡ false → (n : ℕ) → Fits8 n → free mark (decimal n) ≡ true
decimal8_free mark off n h = decimal_free mark off n (omega arith)

pub hex_free : (mark : ℕ) → is_digit_byte mark ≡ false → free mark (codes "0x") ≡ true → (n : ℕ) → Fits64 n
    → free mark (hex_text n) ≡ true
hex_free mark off front n h = free-append mark (codes "0x") (digits 16 false n) front (digits_free 16 sixteen mark off n h)

-- a definition

pub definition_reads : Reads definition (λ p. definition_text p.0 p.1) (λ p. Fits64 p.0 × Fits32 p.1)
definition_reads = pair_reads decimal_reads decimal32_reads 46 (decimal_free 46 refl)

pub definition_free : (p : ℕ × ℕ) → Fits64 p.0 × Fits32 p.1 → free 32 (definition_text p.0 p.1) ≡ true
definition_free p h = free-append 32 (decimal p.0) (46 ∷ decimal p.1) (decimal_free 32 refl p.0 h.0) (decimal32_free 32 refl p.1 h.1)

-- what is read by parts is read

pub made_reads : {A B : Type 0} {read : List ℕ → Option A} {text : A → List ℕ} {Fits : A → Type 0} → Reads read text Fits
    → (make : A → B) (parts : B → A) (made : (b : B) → make (parts b) ≡ b) (split : (a : A) → parts (make a) ≡ a)
    → Reads (λ w. option_map make (read w)) (λ b. text (parts b)) (λ b. Fits (parts b))
made_reads {read = read} {text = text} {Fits = Fits} r make parts made split = record {
  there = λ b h. ap (option_map make) (r.there (parts b) h) ∙ ap (λ x. Some x) (made b);
  back = λ w b e. mapped make (read w) b e (λ a ea same.
      let it = r.back w a ea in
      let at : parts b ≡ a = ap parts (sym same) ∙ split a in
      subst (λ x. Fits x × (text x ≡ w)) (sym at) it);
}

-- the same texts
pub told_so : {A : Type 0} {read : List ℕ → Option A} {text other : A → List ℕ} {Fits : A → Type 0} → ((a : A) → text a ≡ other a)
    → Reads read text Fits → Reads read other Fits
told_so {read = read} same r = record {
  there = λ a h. ap read (sym (same a)) ∙ r.there a h;
  back = λ w a e. let it = r.back w a e in (it.0, sym (same a) ∙ it.1);
}

-- new objects

abbrev pub offset_text : Option ℕ → List ℕ
offset_text offset = elim offset [ None ↦ [] | Some offset ↦ 43 ∷ hex_text offset ]

abbrev pub module_text : TlsPlace → List ℕ
module_text place = decimal place.number ++ offset_text place.offset

abbrev pub ModuleFits : TlsPlace → Type 0
ModuleFits place = Fits64 place.number × Fits64IfSome place.offset

pub place_reads : Reads place module_text ModuleFits
place_reads =
    made_reads (with_option_reads decimal_reads hexadecimal_reads 43 (decimal_free 43 refl) offset_text Fits64IfSome refl (λ n. refl) tt (λ n h. h)
    (λ n h. h))
    place_of_parts (λ place. (place.number, place.offset)) (λ place. refl) (λ p. refl)

-- four texts with two marks between, taken together from the right or from the left
regroup : (a b c d : List ℕ) → a ++ 58 ∷ (b ++ 64 ∷ (c ++ d)) ≡ a ++ 58 ∷ b ++ 64 ∷ c ++ d
regroup a b c d = sym (append_assoc (a ++ 58 ∷ b) (64 ∷ c) d ∙ append_assoc a (58 ∷ b) (64 ∷ (c ++ d)))

pub new_line_reads : Reads new_line new_line_text NewLineFits
unfolding new_line
new_line_reads = told_so (λ o. regroup (decimal o.serial) (name_text o.path) (hex_text o.base) (place_text o.«module»))
    (made_reads (pair_reads decimal_reads (pair_reads name_reads mapped_reads 64 (name_free 64 refl refl refl)) 58 (decimal_free 58 refl))
    new_line_of_parts (λ o. (o.serial, (o.path, (o.base, o.«module»)))) (λ o. refl) (λ p. refl))
  where
    mapped_reads : Reads (with_option 47 hexadecimal place) (λ p. hex_text p.0 ++ place_text p.1) (λ p. Fits64 p.0 × PlaceFits p.1)
    mapped_reads =
        with_option_reads hexadecimal_reads place_reads 47 (hex_free 47 refl refl) place_text PlaceFits refl (λ p. refl) tt (λ p h. h) (λ p h. h)

place_free : (m : Option TlsPlace) → PlaceFits m → free 44 (place_text m) ≡ true
place_free None h = refl
place_free (Some place) h =
    free-append 44 (decimal place.number) (offset_text place.offset) (decimal_free 44 refl place.number h.0) (offset_free place.offset h.1)
  where
    offset_free : (offset : Option ℕ) → Fits64IfSome offset → free 44 (offset_text offset) ≡ true
    offset_free None h = refl
    offset_free (Some n) h = hex_free 44 refl refl n h

new_line_free : (o : NewLine) → NewLineFits o → free 44 (new_line_text o) ≡ true
new_line_free o h =
    free-append 44 (decimal o.serial ++ 58 ∷ name_text o.path ++ 64 ∷ hex_text o.base) (place_text o.«module»)
    (free-append 44 (decimal o.serial ++ 58 ∷ name_text o.path) (64 ∷ hex_text o.base)
    (free-append 44 (decimal o.serial) (58 ∷ name_text o.path) (decimal_free 44 refl o.serial h.0) (name_free 44 refl refl refl o.path h.1.0))
    (hex_free 44 refl refl o.base h.1.1.0))
    (place_free o.«module» h.1.1.1)

-- lists

same_serials : (xs : List ℕ) → listed decimal xs ≡ serials_text xs
same_serials [] = refl
same_serials (x ∷ xs) = refl

same_new_lines : (xs : List NewLine) → listed new_line_text xs ≡ new_lines_text xs
same_new_lines [] = refl
same_new_lines (x ∷ xs) = refl

no_serial : numeral 10 (45 ∷ []) ≡ None
unfolding numeral digit
no_serial = refl

pub serials_reads : Reads (list_of (numeral 10)) serials_text (All Fits64)
serials_reads = told_so same_serials (list_reads decimal_reads (decimal_free 44 refl) no_serial)

no_new_line : new_line (45 ∷ []) ≡ None
unfolding new_line cut is_mark
no_new_line = refl

pub new_lines_reads : Reads (list_of new_line) new_lines_text (All NewLineFits)
new_lines_reads = told_so same_new_lines (list_reads new_line_reads new_line_free no_new_line)

-- words of tables

-- each row has the word of what it names
abbrev pub AreSpelled : {A : Type 0} → (A → List ℕ) → List (List ℕ × A) → Type 0
AreSpelled spelled [] = Unit {0}
AreSpelled spelled (row ∷ rows) = (spelled row.1 ≡ row.0) × AreSpelled spelled rows

pub named-back : {A : Type 0} (spelled : A → List ℕ) (w : List ℕ) (table : List (List ℕ × A)) (a : A)
    → named w table ≡ Some a → AreSpelled spelled table → spelled a ≡ w
named-back spelled w [] a e h = absurd (none-some a e)
named-back spelled w (row ∷ rows) a e h = elim (cases_Bool (bytes_eq w row.0)) [
  | inl t ↦ ap spelled (sym (same_Some _ _ (if_true _ _ _ t e))) ∙ h.0 ∙ sym ((bytes_eq-Decides w row.0).0 t)
  | inr f ↦ named-back spelled w rows a (if_false _ _ _ f e) h.1
]

-- a kind of thing, read behind its word
pub variant-back : {A B : Type 0} {read : List ℕ → Option A} {text : A → List ℕ} {Fits : A → Type 0} → Reads read text Fits
    → (make : A → B) (whole : B → List ℕ) (FitsB : B → Type 0) (front : List ℕ)
    → ((a : A) → Fits a → FitsB (make a)) → ((a : A) → whole (make a) ≡ front ++ text a)
    → (w : List ℕ) (b : B) → option_map make (read w) ≡ Some b → FitsB b × (whole b ≡ front ++ w)
variant-back {read = read} r make whole FitsB front fits same w b e =
    mapped make (read w) b e (λ a ea at.
    let it = r.back w a ea in
    subst (λ x. FitsB x × (whole x ≡ front ++ w)) at (fits a it.0, same a ∙ ap (λ t. front ++ t) it.1))
