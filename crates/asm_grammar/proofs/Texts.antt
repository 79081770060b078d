-- Texts that are cut at blanks and at marks are made of the parts that are cut.
use Rattle.std.proofs.Common.{◌≡◌, ℕ, ◌≤◌, ◌==◌, ◌∙◌, Bool, true, false, not, List, [], ◌∷◌, ◌++◌, length, reverse, take, drop, Option, Some, None, refl, sym, ap, subst, append-nil, add-one, arith, inl, inr}
use Rattle.std.specs.List.{list_all, join_with_byte, slice_split, onto_first}
use Rattle.std.specs.Option.{option_map}
use Rattle.std.proofs.lemmas.Bool.{and_parts, and_from, cases_Bool, eq-eqb}
use Rattle.std.proofs.lemmas.List.{reverse-append}
use Rattle.std.proofs.lemmas.List.Folds.{list_all-append}
use Rattle.std.proofs.lemmas.List.Splits.{slice_split-cons_yes, slice_split-cons_no, length-slice_split, join_with_byte-slice_split}
use Rattle.asm_statement.specs.AsmWords.Text.{is_blank, after_blanks, before_blanks, trimmed, until, cut_at, around}
use Rattle.asm_grammar.specs.Texts.{Lacks, AreBlank, LacksBlanks, BeginsBare, IsPadded, AreParts, AllLack, IsApart, IsWorded}
use Rattle.asm_grammar.specs.Reading.{worded, word_of}

-- blanks at a text's start

pub blank_front : (front text : List ℕ) → AreBlank front → after_blanks (front ++ text) ≡ after_blanks text
blank_front [] text are = refl
blank_front (c ∷ front) text are =
    let both = and_parts (is_blank c) (list_all is_blank front) are in rw (both.0) (blank_front front text both.1)

pub bare_front : (text : List ℕ) → BeginsBare text → after_blanks text ≡ text
bare_front [] bare = refl
bare_front (c ∷ rest) bare = rw bare refl

abbrev pub HasFront : List ℕ → Type 0
HasFront text = (front : List ℕ) × (text ≡ front ++ after_blanks text) × AreBlank front × BeginsBare (after_blanks text)

front_more : (c : ℕ) (rest : List ℕ) → HasFront rest → HasFront (c ∷ rest)
front_more c rest (front, whole, blank, bare) =
    elim (cases_Bool (is_blank c)) [
      | inl is ↦ rw is (c ∷ front, ap (λ (t : List ℕ). c ∷ t) whole, and_from (is_blank c) (list_all is_blank front) is blank, bare)
      | inr isnt ↦ rw isnt ([], refl, refl, isnt)
    ]

pub has_front : (text : List ℕ) → HasFront text
has_front [] = ([], refl, refl, tt)
has_front (c ∷ rest) = front_more c rest (has_front rest)

-- blanks in another order

blank_joined : (a b : List ℕ) → AreBlank a → AreBlank b → AreBlank (a ++ b)
blank_joined a b h k = list_all-append is_blank a b ∙ and_from (list_all is_blank a) (list_all is_blank b) h k

blank_reversed : (text : List ℕ) → AreBlank text → AreBlank (reverse text)
blank_reversed [] are = refl
blank_reversed (c ∷ rest) are =
    let both = and_parts (is_blank c) (list_all is_blank rest) are in
    let one : AreBlank (c ∷ []) = and_from (is_blank c) true both.0 refl in
    ap (list_all is_blank) (reverse-append (c ∷ []) rest) ∙ blank_joined (reverse rest) (c ∷ []) (blank_reversed rest both.1) one

bare_part : (a b : List ℕ) → BeginsBare (a ++ b) → BeginsBare a
bare_part [] b bare = tt
bare_part (c ∷ a) b bare = bare

reverse_twice : (text : List ℕ) → reverse (reverse text) ≡ text
reverse_twice [] = refl
reverse_twice (c ∷ rest) = ap reverse (reverse-append (c ∷ []) rest) ∙ reverse-append (reverse rest) (c ∷ []) ∙ ap (λ (t : List ℕ). c ∷ t) (reverse_twice rest)

-- a text is padded with what it is trimmed of

pub is_padded : (text : List ℕ) → IsPadded text (trimmed text)
is_padded text = with_fronts (has_front text) (has_front (reverse (after_blanks text)))
  where
    with_fronts : HasFront text → HasFront (reverse (after_blanks text)) → IsPadded text (trimmed text)
    with_fronts (front, whole, blank, bare) (end, part, end_blank, end_bare) =
        let inner : after_blanks text ≡ trimmed text ++ reverse end =
        sym (reverse_twice (after_blanks text)) ∙ ap reverse part ∙ reverse-append end (after_blanks (reverse (after_blanks text))) in
        record {
          front = front;
          behind = reverse end;
          whole = whole ∙ ap (λ (t : List ℕ). front ++ t) inner;
          front_blank = blank;
          behind_blank = blank_reversed end end_blank;
          begins = bare_part (trimmed text) (reverse end) (rw inner at bare);
          ends = rw (reverse_twice (after_blanks (reverse (after_blanks text)))) end_bare;
        }

trimmed_of : (front inner behind : List ℕ) → AreBlank front → AreBlank behind → BeginsBare inner → BeginsBare (reverse inner)
    → trimmed (front ++ (inner ++ behind)) ≡ inner
trimmed_of front [] behind fb bb begins ends =
    let none : after_blanks behind ≡ [] = rw append-nil at (blank_front behind [] bb) in
    ap before_blanks (blank_front front behind fb ∙ none)
trimmed_of front (c ∷ inner) behind fb bb begins ends =
    let first : after_blanks (front ++ ((c ∷ inner) ++ behind)) ≡ (c ∷ inner) ++ behind =
    blank_front front ((c ∷ inner) ++ behind) fb ∙ bare_front ((c ∷ inner) ++ behind) begins in
    let last : after_blanks (reverse ((c ∷ inner) ++ behind)) ≡ reverse (c ∷ inner) =
    ap after_blanks (reverse-append (c ∷ inner) behind) ∙ blank_front (reverse behind) (reverse (c ∷ inner)) (blank_reversed behind bb)
    ∙ bare_front (reverse (c ∷ inner)) ends in
    ap before_blanks first ∙ ap reverse last ∙ reverse_twice (c ∷ inner)

pub trimmed_is : (text inner : List ℕ) → IsPadded text inner → trimmed text ≡ inner
trimmed_is text inner p =
    ap trimmed p.whole ∙ trimmed_of p.front inner p.behind p.front_blank p.behind_blank p.begins p.ends

-- a text that is cut where a test first finds a byte

abbrev pub HasCut : (ℕ → Bool) → List ℕ → Option (List ℕ × List ℕ) → Type 0
HasCut finds text None = list_all (λ c. not (finds c)) text ≡ true
HasCut finds text (Some parts) =
    (mark : ℕ) × (text ≡ parts.0 ++ (mark ∷ parts.1)) × (finds mark ≡ true) × (list_all (λ c. not (finds c)) parts.0 ≡ true)

around_more : (c : ℕ) (front behind : List ℕ) → around (c ∷ front) behind ≡ option_map (λ parts. (c ∷ parts.0, parts.1)) (around front behind)
around_more c front [] = refl
around_more c front (mark ∷ behind) = refl

cut_later : (finds : ℕ → Bool) (c : ℕ) (rest : List ℕ) → finds c ≡ false
    → cut_at (until finds (c ∷ rest)) (c ∷ rest) ≡ option_map (λ parts. (c ∷ parts.0, parts.1)) (cut_at (until finds rest) rest)
cut_later finds c rest isnt = rw (isnt, add-one) (around_more c (take (until finds rest) rest) (drop (until finds rest) rest))

cut_here : (finds : ℕ → Bool) (c : ℕ) (rest : List ℕ) → finds c ≡ true → cut_at (until finds (c ∷ rest)) (c ∷ rest) ≡ Some ([], rest)
cut_here finds c rest is = rw is refl

lacks_more : (finds : ℕ → Bool) (c : ℕ) (rest : List ℕ) → finds c ≡ false → list_all (λ d. not (finds d)) rest ≡ true → list_all (λ d. not (finds d)) (c ∷ rest) ≡ true
lacks_more finds c rest isnt lacks = rw isnt lacks

cut_more : (finds : ℕ → Bool) (c : ℕ) (rest : List ℕ) (result : Option (List ℕ × List ℕ)) → finds c ≡ false → HasCut finds rest result
    → HasCut finds (c ∷ rest) (option_map (λ parts. (c ∷ parts.0, parts.1)) result)
cut_more finds c rest None isnt has = lacks_more finds c rest isnt has
cut_more finds c rest (Some parts) isnt (mark, whole, is, lacks) =
    (mark, ap (λ (t : List ℕ). c ∷ t) whole, is, lacks_more finds c parts.0 isnt lacks)

pub has_cut : (finds : ℕ → Bool) (text : List ℕ) → HasCut finds text (cut_at (until finds text) text)
has_cut finds [] = refl
has_cut finds (c ∷ rest) =
    elim (cases_Bool (finds c)) [
      | inl is ↦ subst (HasCut finds (c ∷ rest)) (sym (cut_here finds c rest is)) (c, refl, is, refl)
      | inr isnt ↦ subst (HasCut finds (c ∷ rest)) (sym (cut_later finds c rest isnt)) (cut_more finds c rest (cut_at (until finds rest) rest) isnt (has_cut finds rest))
    ]

isnt_found : (b : Bool) → not b ≡ true → b ≡ false
isnt_found true e = absurd cc
isnt_found false e = refl

pub cut_found : (finds : ℕ → Bool) (front : List ℕ) (mark : ℕ) (behind : List ℕ) → list_all (λ c. not (finds c)) front ≡ true → finds mark ≡ true
    → cut_at (until finds (front ++ (mark ∷ behind))) (front ++ (mark ∷ behind)) ≡ Some (front, behind)
cut_found finds [] mark behind lacks is = cut_here finds mark behind is
cut_found finds (c ∷ front) mark behind lacks is =
    let both = and_parts (not (finds c)) (list_all (λ d. not (finds d)) front) lacks in
    cut_later finds c (front ++ (mark ∷ behind)) (isnt_found (finds c) both.0)
    ∙ ap (option_map (λ parts. (c ∷ parts.0, parts.1))) (cut_found finds front mark behind both.1 is)

pub cut_none : (finds : ℕ → Bool) (text : List ℕ) → list_all (λ c. not (finds c)) text ≡ true → cut_at (until finds text) text ≡ None
cut_none finds [] lacks = refl
cut_none finds (c ∷ rest) lacks =
    let both = and_parts (not (finds c)) (list_all (λ d. not (finds d)) rest) lacks in
    cut_later finds c rest (isnt_found (finds c) both.0) ∙ ap (option_map (λ parts. (c ∷ parts.0, parts.1))) (cut_none finds rest both.1)

-- the first word

behind_gap : (front : List ℕ) (b : ℕ) (rest : List ℕ) → is_blank b ≡ true → HasFront rest → IsApart (front ++ (b ∷ rest)) front (after_blanks rest)
behind_gap front b rest is (gap, whole, blank, bare) = record {
  gap = b ∷ gap;
  whole = ap (λ (t : List ℕ). front ++ (b ∷ t)) whole;
  some = omega arith;
  blank = and_from (is_blank b) (list_all is_blank gap) is blank;
  begins = bare;
}

words_from : (text : List ℕ) (result : Option (List ℕ × List ℕ)) → HasCut is_blank text result → IsWorded text (word_of text result).0 (word_of text result).1
words_from text None lacks = (lacks, inl (refl, refl))
words_from text (Some parts) (mark, whole, is, lacks) = (lacks, inr (subst (λ (t : List ℕ). IsApart t parts.0 (after_blanks parts.1)) (sym whole) (behind_gap parts.0 mark parts.1 is (has_front parts.1))))

pub is_worded : (text : List ℕ) → IsWorded text (worded text).0 (worded text).1
is_worded text = words_from text (cut_at (until is_blank text) text) (has_cut is_blank text)

worded_apart : (word gap behind : List ℕ) → LacksBlanks word → 1 ≤ length gap → AreBlank gap → BeginsBare behind → worded (word ++ (gap ++ behind)) ≡ (word, behind)
worded_apart word [] behind lacks some blank bare = absurd (omega arith)
worded_apart word (b ∷ gap) behind lacks some blank bare =
    let both = and_parts (is_blank b) (list_all is_blank gap) blank in
    ap (word_of (word ++ ((b ∷ gap) ++ behind))) (cut_found is_blank word b (gap ++ behind) lacks both.0)
    ∙ ap (λ (t : List ℕ). (word, t)) (blank_front gap behind both.1 ∙ bare_front behind bare)

pub worded_is : (text word behind : List ℕ) → IsWorded text word behind → worded text ≡ (word, behind)
worded_is text word behind (lacks, how) =
    elim how [
      | inl (same, none) ↦ ap worded same ∙ ap (word_of word) (cut_none is_blank word lacks) ∙ ap (λ (t : List ℕ). (word, t)) (sym none)
      | inr apart ↦ ap worded apart.whole ∙ worded_apart word apart.gap behind lacks apart.some apart.blank apart.begins
    ]

-- parts between marks

onto_lacks : (mark c : ℕ) (parts : List (List ℕ)) → (c == mark) ≡ false → AllLack mark parts → AllLack mark (onto_first c parts)
onto_lacks mark c [] isnt all = (rw isnt refl, tt)
onto_lacks mark c (part ∷ parts) isnt (first, rest) = (lacks_more (λ d. d == mark) c part isnt first, rest)

split_lacks : (mark : ℕ) (text : List ℕ) → AllLack mark (slice_split (λ c. c == mark) text)
split_lacks mark [] = (refl, tt)
split_lacks mark (c ∷ rest) =
    elim (cases_Bool (c == mark)) [
      | inl is ↦ subst (AllLack mark) (sym (slice_split-cons_yes (λ d. d == mark) c rest is)) (refl, split_lacks mark rest)
      | inr isnt ↦ subst (AllLack mark) (sym (slice_split-cons_no (λ d. d == mark) c rest isnt)) (onto_lacks mark c (slice_split (λ d. d == mark) rest) isnt (split_lacks mark rest))
    ]

pub are_parts : (mark : ℕ) (text : List ℕ) → AreParts mark text (slice_split (λ c. c == mark) text)
are_parts mark text = record {
  joined = sym (join_with_byte-slice_split mark text);
  some = omega (arith, length-slice_split (λ c. c == mark) text);
  without = split_lacks mark text;
}

split_one : (mark : ℕ) (part : List ℕ) → Lacks mark part → slice_split (λ c. c == mark) part ≡ part ∷ []
split_one mark [] lacks = refl
split_one mark (c ∷ part) lacks =
    let both = and_parts (not (c == mark)) (list_all (λ d. not (d == mark)) part) lacks in
    slice_split-cons_no (λ d. d == mark) c part (isnt_found (c == mark) both.0) ∙ ap (onto_first c) (split_one mark part both.1)

split_more : (mark : ℕ) (part text : List ℕ) → Lacks mark part → slice_split (λ c. c == mark) (part ++ (mark ∷ text)) ≡ part ∷ slice_split (λ c. c == mark) text
split_more mark [] text lacks = slice_split-cons_yes (λ d. d == mark) mark text (eq-eqb mark mark refl)
split_more mark (c ∷ part) text lacks =
    let both = and_parts (not (c == mark)) (list_all (λ d. not (d == mark)) part) lacks in
    slice_split-cons_no (λ d. d == mark) c (part ++ (mark ∷ text)) (isnt_found (c == mark) both.0) ∙ ap (onto_first c) (split_more mark part text both.1)

split_joined : (mark : ℕ) (parts : List (List ℕ)) → 1 ≤ length parts → AllLack mark parts → slice_split (λ c. c == mark) (join_with_byte mark parts) ≡ parts
split_joined mark [] some all = absurd (omega arith)
split_joined mark (part ∷ []) some (first, rest) = split_one mark part first
split_joined mark (part ∷ next ∷ parts) some (first, rest) =
    split_more mark part (join_with_byte mark (next ∷ parts)) first
    ∙ ap (λ (t : List (List ℕ)). part ∷ t) (split_joined mark (next ∷ parts) (omega arith) rest)

pub parts_are : (mark : ℕ) (text : List ℕ) (parts : List (List ℕ)) → AreParts mark text parts → slice_split (λ c. c == mark) text ≡ parts
parts_are mark text parts p = ap (slice_split (λ c. c == mark)) p.joined ∙ split_joined mark parts p.some p.without
