-- Each label of a generated source is new where it stands, and each name that has to be a label is one.
use Rattle.std.proofs.Common.{◌≡◌, ◌∙◌, ap, sym, subst, refl, ℕ, zero, suc, ◌+◌, ◌*◌, ◌/◌, ◌%◌, ◌^◌, ◌<◌, ◌≤◌, Bool, true, false, not, nat_lt, if◌then◌else◌, List, [], ◌∷◌, ◌++◌, flat_map, arith, inl, inr, codes, decimal, append_assoc, append-nil}
use Rattle.std.specs.Prelude.{⊤}
use Rattle.std.specs.List.{list_any, range_with_len}
use Rattle.std.specs.Str.{bytes_eq}
use Rattle.std.proofs.lemmas.Bool.{cases_lt, false_from_ne_true, or_from, or_left, or_right}
use Rattle.std.proofs.lemmas.Fmt.{decimal_injective}
use Rattle.std.proofs.lemmas.List.{append_cancel_left}
use Rattle.std.proofs.lemmas.List.Folds.{list_any-append}
use Rattle.std.proofs.lemmas.Slice.Eq.{bytes_eq-Decides}
use Rattle.asm_statement.specs.declared.directive.Directive.TheVariants as directives
use Rattle.asm_statement.specs.declared.directive.Export.TheVariants as exports
use Rattle.asm_statement.specs.declared.instruction.Instruction.TheVariants as instructions
use Rattle.asm_statement.specs.declared.line.Line.{Line}
use Rattle.asm_layout.specs.Expansions.{expansion}
use Rattle.asm_layout.specs.Faults.{for_statement, is_known, is_usable, statement_is_known}
use Rattle.asm_layout.specs.Labels.{defined_by, defines, is_label, is_taken}
use Rattle.asm_layout.specs.Names.{is_got_plt}
use Rattle.asm_laws.specs.Lemmas.Each.{Each, both}
use Rattle.asm_laws.specs.Lemmas.Lists.{joined}
use Rattle.lib_gen.specs.GeneratedSources.Shape.{call_count, function_count}
use Rattle.lib_gen.specs.GeneratedLines.Lines.{at_label, call_said, calls_said, exit_said, first_said, function_name, function_said, last_said, library_lines, library_name, library_said, needed_said, nothing, program_lines, program_said, says}

-- no line's label is one of the lines before it
abbrev pub New : List Line → List Line → Type 0
New before [] = ⊤
New before (line ∷ rest) = (is_taken before (defined_by line) ≡ false) × New (before ++ line ∷ []) rest

new_both : (before a b : List Line) → New before a → New (before ++ a) b → New before (a ++ b)
new_both before [] b one other = subst (λ (all : List Line). New all b) (append-nil before) other
new_both before (line ∷ a) b (first, one) other =
    (first, new_both (before ++ line ∷ []) a b one (subst (λ (all : List Line). New all b) (sym (append_assoc before (line ∷ []) a)) other))

-- Lines without labels

abbrev Unlabelled : List Line → Type 0
Unlabelled lines = Each (λ line. defined_by line ≡ []) lines

new_unlabelled : (before lines : List Line) → Unlabelled lines → New before lines
new_unlabelled before [] none = tt
new_unlabelled before (line ∷ lines) (first, none) = (ap (is_taken before) first, new_unlabelled (before ++ line ∷ []) lines none)

silent : (lines : List Line) (name : List ℕ) → Unlabelled lines → is_label lines name ≡ false
silent [] name none = refl
silent (line ∷ lines) name (first, none) = or_from (defines name line) (is_label lines name) (ap (list_any (bytes_eq name)) first) (silent lines name none)

in_neither : (a b : List Line) (name : List ℕ) → is_label a name ≡ false → is_label b name ≡ false → is_label (a ++ b) name ≡ false
in_neither a b name one other = list_any-append (defines name) a b ∙ or_from (is_label a name) (is_label b name) one other

in_first : (a b : List Line) (name : List ℕ) → is_label a name ≡ true → is_label (a ++ b) name ≡ true
in_first a b name is = list_any-append (defines name) a b ∙ or_left (is_label a name) (is_label b name) is

in_second : (a b : List Line) (name : List ℕ) → is_label b name ≡ true → is_label (a ++ b) name ≡ true
in_second a b name is = list_any-append (defines name) a b ∙ or_right (is_label a name) (is_label b name) is

-- The names of functions

same_number : (i j k : ℕ) → function_name i j ≡ function_name i k → decimal j ≡ decimal k
unfolding function_name
same_number i j k same =
    append_cancel_left (codes "_") (decimal j) (decimal k)
    (append_cancel_left (decimal i) (codes "_" ++ decimal j) (codes "_" ++ decimal k)
    (append_cancel_left (codes "f_") (decimal i ++ (codes "_" ++ decimal j)) (decimal i ++ (codes "_" ++ decimal k)) same))

another : (i j k : ℕ) → j < 2 ^ 64 → k < 2 ^ 64 → (j ≡ k → ⊥) → bytes_eq (function_name i j) (function_name i k) ≡ false
another i j k low less other =
    false_from_ne_true (bytes_eq (function_name i j) (function_name i k))
    (λ same. other (decimal_injective j k low less (same_number i j k ((bytes_eq-Decides (function_name i j) (function_name i k)).0 same))))

itself : (name : List ℕ) → bytes_eq name name ≡ true
itself name = (bytes_eq-Decides name name).1 refl

-- Functions

abbrev exported : ℕ → ℕ → Line
exported i j = says (directives.Export exports.Global (function_name i j))

abbrev labelled : ℕ → ℕ → Line
labelled i j = at_label (function_name i j) (instructions.Tail (codes "g"))

new_functions : (i n a : ℕ) (before : List Line) → a + n < 2 ^ 64 → ((k : ℕ) → a ≤ k → k < a + n → is_label before (function_name i k) ≡ false)
    → New before (flat_map (function_said i) (range_with_len a n))
new_functions i zero a before low free = tt
new_functions i (suc n) a before low free =
    let first = before ++ exported i a ∷ [] in
    let own : is_label first (function_name i a) ≡ false
    = in_neither before (exported i a ∷ []) (function_name i a) (free a (omega arith) (omega arith)) refl in
    let further : (k : ℕ) → a + 1 ≤ k → k < a + 1 + n → is_label (first ++ labelled i a ∷ []) (function_name i k) ≡ false
    = λ k more less.
    in_neither first (labelled i a ∷ []) (function_name i k)
    (in_neither before (exported i a ∷ []) (function_name i k) (free k (omega (arith, more)) (omega (arith, less))) refl)
    (or_from _ false (or_from _ false (another i k a (omega (arith, low, less)) (omega (arith, low)) (λ same. omega (arith, same, more))) refl) refl) in
    (refl, (or_from _ false (or_from _ false own refl) refl, new_functions i n (a + 1) (first ++ labelled i a ∷ []) (omega (arith, low)) further))

function_there : (i j n a : ℕ) → a ≤ j → j < a + n → is_label (flat_map (function_said i) (range_with_len a n)) (function_name i j) ≡ true
function_there i j zero a more less = absurd (omega (arith, more, less))
function_there i j (suc n) a more less =
    let rest = flat_map (function_said i) (range_with_len (a + 1) n) in
    elim (cases_lt a j) [
      | inl behind ↦ or_right (defines (function_name i j) (labelled i a)) (is_label rest (function_name i j)) (function_there i j n (a + 1) (omega (arith, behind)) (omega (arith, less)))
      | inr before ↦
          let same : a ≡ j = omega (arith, before, more) in
          let here : bytes_eq (function_name i j) (function_name i a) ≡ true = ap (λ k. bytes_eq (function_name i j) (function_name i k)) same ∙ itself (function_name i j) in
          or_left (defines (function_name i j) (labelled i a)) (is_label rest (function_name i j)) (or_left (bytes_eq (function_name i j) (function_name i a)) false here)
    ]

no_function : (i n a : ℕ) → is_label (flat_map (function_said i) (range_with_len a n)) (codes "g") ≡ false
unfolding function_name
no_function i zero a = refl
no_function i (suc n) a = no_function i n (a + 1)

-- Names that are known

abbrev pub IsKnown : List Line → Line → Type 0
IsKnown lines line = for_statement (statement_is_known lines) line.statement ≡ true

usable : (lines : List Line) (name : List ℕ) → is_got_plt name ≡ false → is_usable lines name ≡ true
usable lines name isnt = or_right (is_known lines name) (not (is_got_plt name)) (ap not isnt)

no_got_plt : (i j : ℕ) → is_got_plt (function_name i j) ≡ false
unfolding function_name
no_got_plt i j = refl

-- A library

none_needed : (b : Bool) (d : ℕ) → Unlabelled (if b then says (directives.Needed (library_name d)) ∷ [] else [])
none_needed true d = (refl, tt)
none_needed false d = tt

known_needed : (lines : List Line) (b : Bool) (d : ℕ) → Each (IsKnown lines) (if b then says (directives.Needed (library_name d)) ∷ [] else [])
known_needed lines true d = (refl, tt)
known_needed lines false d = tt

known_functions : (lines : List Line) (i most : ℕ) → ((j : ℕ) → j < most → is_label lines (function_name i j) ≡ true) → (n a : ℕ) → a + n ≤ most
    → Each (IsKnown lines) (flat_map (function_said i) (range_with_len a n))
unfolding expansion
known_functions lines i most are zero a within = tt
known_functions lines i most are (suc n) a within =
    (are a (omega (arith, within)), (usable lines (codes "g") refl, known_functions lines i most are n (a + 1) (omega (arith, within))))

known_last : (lines : List Line) (i : ℕ) → is_label lines (codes "g") ≡ true → Each (IsKnown lines) (last_said i)
unfolding expansion
known_last lines i is = (is, (refl, (refl, tt)))

module _ (libraries functions i : ℕ) (few : functions ≤ 64) where
  abbrev soname_one : List Line
  soname_one = says (directives.Soname (library_name i)) ∷ []

  abbrev first_one : List Line
  first_one = needed_said libraries (2 * i + 1)

  abbrev second_one : List Line
  second_one = needed_said libraries (2 * i + 2)

  abbrev middle : List Line
  middle = flat_map (function_said i) (range_with_len 0 functions)

  header_silent : Unlabelled ((soname_one ++ first_one) ++ second_one)
  header_silent =
      both (λ line. defined_by line ≡ []) (soname_one ++ first_one) second_one
      (both (λ line. defined_by line ≡ []) soname_one first_one (refl, tt) (none_needed (nat_lt (2 * i + 1) libraries) (2 * i + 1)))
      (none_needed (nat_lt (2 * i + 2) libraries) (2 * i + 2))

  new_last : New (((soname_one ++ first_one) ++ second_one) ++ middle) (last_said i)
  new_last =
      let before = ((soname_one ++ first_one) ++ second_one) ++ middle in
      let free : is_label before (codes "g") ≡ false
      = in_neither ((soname_one ++ first_one) ++ second_one) middle (codes "g") (silent ((soname_one ++ first_one) ++ second_one) (codes "g") header_silent) (no_function i functions 0) in
      (refl, (or_from _ false (or_from _ false (in_neither before (says (directives.Export exports.Global (codes "g")) ∷ []) (codes "g") free refl) refl) refl, (refl, tt)))

  pub library_new : New [] (library_lines libraries functions i)
  unfolding library_said
  library_new =
      new_both [] (library_said libraries functions i) (nothing ∷ [])
      (new_both [] soname_one _ (refl, tt)
      (new_both soname_one first_one _ (new_unlabelled soname_one first_one (none_needed (nat_lt (2 * i + 1) libraries) (2 * i + 1)))
      (new_both (soname_one ++ first_one) second_one _ (new_unlabelled (soname_one ++ first_one) second_one (none_needed (nat_lt (2 * i + 2) libraries) (2 * i + 2)))
      (new_both ((soname_one ++ first_one) ++ second_one) middle (last_said i)
      (new_functions i functions 0 ((soname_one ++ first_one) ++ second_one) (omega (arith, few)) (λ k more less. silent ((soname_one ++ first_one) ++ second_one) (function_name i k) header_silent))
      new_last))))
      (refl, tt)

  -- what stands among the functions, or behind them, stands in the library
  from_middle : (name : List ℕ) → is_label (middle ++ last_said i) name ≡ true → is_label (library_lines libraries functions i) name ≡ true
  unfolding library_said
  from_middle name is =
      in_first (library_said libraries functions i) (nothing ∷ []) name
      (in_second soname_one (first_one ++ (second_one ++ (middle ++ last_said i))) name
      (in_second first_one (second_one ++ (middle ++ last_said i)) name (in_second second_one (middle ++ last_said i) name is)))

  pub library_known : Each (IsKnown (library_lines libraries functions i)) (library_lines libraries functions i)
  unfolding library_said
  library_known =
      let lines = library_lines libraries functions i in
      let function_is : (j : ℕ) → j < functions → is_label lines (function_name i j) ≡ true
      = λ j less. from_middle (function_name i j) (in_first middle (last_said i) (function_name i j) (function_there i j functions 0 (omega arith) (omega (arith, less)))) in
      let last_is : is_label lines (codes "g") ≡ true = from_middle (codes "g") (in_second middle (last_said i) (codes "g") refl) in
      both (IsKnown lines) (library_said libraries functions i) (nothing ∷ [])
      (both (IsKnown lines) soname_one (first_one ++ (second_one ++ (middle ++ last_said i))) (refl, tt)
      (both (IsKnown lines) first_one (second_one ++ (middle ++ last_said i)) (known_needed lines (nat_lt (2 * i + 1) libraries) (2 * i + 1))
      (both (IsKnown lines) second_one (middle ++ last_said i) (known_needed lines (nat_lt (2 * i + 2) libraries) (2 * i + 2))
      (both (IsKnown lines) middle (last_said i) (known_functions lines i functions function_is functions 0 (omega arith)) (known_last lines i last_is)))))
      (refl, tt)

-- The program

call_silent : (functions x : ℕ) → Unlabelled (call_said functions x)
call_silent functions x = (refl, (refl, tt))

call_known : (lines : List Line) (functions x : ℕ) → Each (IsKnown lines) (call_said functions x)
unfolding expansion
call_known lines functions x = (usable lines (function_name (x / functions) (x % functions)) (no_got_plt (x / functions) (x % functions)), (refl, tt))

module _ (number : ℕ) where
  abbrev calls : List Line
  calls = calls_said (function_count number) number (call_count number)

  pub program_new : New [] (program_lines number)
  unfolding program_said
  program_new =
      let silent_calls = joined (λ line. defined_by line ≡ []) (λ place. call_said (function_count number) ((place + number) % call_count number))
      (λ place. call_silent (function_count number) ((place + number) % call_count number)) (range_with_len 0 (call_count number)) in
      new_both [] (program_said number) (nothing ∷ [])
      (new_both [] first_said _ (refl, (refl, (refl, tt)))
      (new_both first_said calls exit_said (new_unlabelled first_said calls silent_calls) (refl, (refl, (refl, tt)))))
      (refl, tt)

  pub program_known : Each (IsKnown (program_lines number)) (program_lines number)
  unfolding program_said expansion
  program_known =
      let lines = program_lines number in
      let known_calls = joined (IsKnown lines) (λ place. call_said (function_count number) ((place + number) % call_count number))
      (λ place. call_known lines (function_count number) ((place + number) % call_count number)) (range_with_len 0 (call_count number)) in
      both (IsKnown lines) (program_said number) (nothing ∷ [])
      (both (IsKnown lines) first_said (calls ++ exit_said) (refl, (refl, (refl, tt)))
      (both (IsKnown lines) calls exit_said known_calls (refl, (refl, (refl, tt)))))
      (refl, tt)
