-- The exported symbols that are labels' by their own names.
use Rattle.std.proofs.Common.{◌≡◌, ℕ, ◌+◌, ◌%◌, ◌==◌, Bool, true, false, not, ◌||◌, ◌&&◌, List, [], ◌∷◌, ◌++◌, length, Some, None, cond, filter, flat_map, refl, sym, ap, ◌∙◌}
use Rattle.std.specs.Prelude.{Option, if◌then◌else◌, filter_map, is_some, position, nat_lt}
use Rattle.std.specs.List.{cons_option, list_any, position_or_len, range_with_len}
use Rattle.std.specs.Option.{option_eq}
use Rattle.std.specs.Str.{bytes_eq}
use Rattle.std.proofs.Math.Bool.{beq}
use Rattle.std.proofs.lemmas.Cmp.{nat_list_eq_equiv}
use Rattle.std.proofs.lemmas.Slice.Eq.{bytes_eq-Decides}
use Rattle.asm_write.specs.HashBuild.Hashed.{by_bucket, bucket_count}
use Rattle.sym_hash.specs.Hash.{gnu_hash}
use Rattle.asm_statement.specs.declared.directive.Directive.{Directive}
use Rattle.asm_statement.specs.declared.directive.Directive.TheVariants as directives
use Rattle.asm_statement.specs.declared.directive.Export.TheVariants as visibilities
use Rattle.asm_statement.specs.declared.directive.Symver.{Symver}
use Rattle.asm_statement.specs.declared.line.Statement.{Statement}
use Rattle.asm_statement.specs.declared.line.Statement.TheVariants as statements
use Rattle.asm_statement.specs.declared.line.Line.{Line}
use Rattle.asm_layout.specs.declared.uses.Exported.{Exported}
use Rattle.asm_layout.specs.Labels.{is_label}
use Rattle.asm_layout.specs.Symbols.{sorted_exports}
use Rattle.asm_layout.specs.Uses.{distinct_after, distinct, same_export, own_version, own_symbol, version_symbol, is_copy_label, exported_by_directive, exported_by, if_labelled, exports}
use Rattle.asm_symbols.specs.Indexes.{is_own}

-- a fact of each element
abbrev Each : {A : Type 0} → (A → Type 0) → List A → Type 0
Each P [] = Unit {0}
Each P (x ∷ xs) = P x × Each P xs

each_append : {A : Type 0} (P : A → Type 0) (xs ys : List A) → Each P xs → Each P ys → Each P (xs ++ ys)
each_append P [] ys one other = other
each_append P (x ∷ xs) ys one other = (one.0, each_append P xs ys one.1 other)

each_filter : {A : Type 0} (P : A → Type 0) (test : A → Bool) (xs : List A) → Each P xs → Each P (filter test xs)
each_filter P test [] each = tt
each_filter {A} P test (x ∷ xs) each =
    let Q : Bool → Type 0 = λ b. Each P (if b then x ∷ filter test xs else filter test xs) in
    let cases : (b : Bool) → Q b = λ b. elim b as Q [ true ↦ (each.0, each_filter P test xs each.1) | false ↦ each_filter P test xs each.1 ] in
    cases (test x)

-- a symbol that is a label's by its own name
abbrev pub named : List ℕ → Exported → Bool
named name exported = is_own exported && bytes_eq name exported.label

abbrev IsRight : List Line → Exported → Type 0
IsRight lines exported = (name : List ℕ) → same_export (own_symbol lines name) exported ≡ named name exported

same_option : (version : Option (List ℕ)) → option_eq bytes_eq version version ≡ true
same_option None = refl
same_option (Some version) = nat_list_eq_equiv.refl version

same_bool : (b : Bool) → beq b b ≡ true
same_bool true = refl
same_bool false = refl

always : (version : Option (List ℕ)) (b : Bool) → ((is_some version || not (is_some version)) && b) ≡ b
always None b = refl
always (Some version) b = refl

itself : (lines : List Line) (label : List ℕ) → same_export (own_symbol lines label) (own_symbol lines label) ≡ true
itself lines label = rw (nat_list_eq_equiv.refl label, same_option (own_version lines label), same_bool (is_some (own_version lines label))) refl

own_right : (lines : List Line) (label : List ℕ) → IsRight lines (own_symbol lines label)
own_right lines label name =
    let own = own_symbol lines label in
    let P : Bool → Type 0 = λ b. bytes_eq name label ≡ b → same_export (own_symbol lines name) own ≡ b in
    let cases : (b : Bool) → P b = λ b. elim b as P [
      | true ↦ λ e. let same : name ≡ label = (bytes_eq-Decides name label).0 e in rw same (itself lines label)
      | false ↦ λ e. rw e refl
    ] in
    cases (bytes_eq name label) refl ∙ sym (always (own_version lines label) (bytes_eq name label))

none_of_two : (a b : Bool) → (a && (b && false)) ≡ false
none_of_two true true = refl
none_of_two true false = refl
none_of_two false b = refl

none_of_three : (a b c : Bool) → (a && (b && (c && false))) ≡ false
none_of_three true true true = refl
none_of_three true true false = refl
none_of_three true false c = refl
none_of_three false b c = refl

version_case : (a b d : Bool) (version : List ℕ) (own : Option (List ℕ)) → (a && (b && (option_eq bytes_eq own (Some version) && (beq (is_some own) false && d)))) ≡ false
version_case a b d version None = none_of_two a b
version_case a b d version (Some own) = none_of_three a b (bytes_eq own version)

version_right : (lines : List Line) (symver : Symver) → IsRight lines (version_symbol symver)
version_right lines symver name =
    version_case (bytes_eq name symver.label) (bytes_eq name symver.name) (beq true symver.is_default) symver.version (own_version lines name)

abbrev IsRightIf : List Line → Option Exported → Type 0
IsRightIf lines None = Unit {0}
IsRightIf lines (Some exported) = IsRight lines exported

label_right : (lines : List Line) (name : List ℕ) (b : Bool) → IsRightIf lines (if b then None else Some (own_symbol lines name))
label_right lines name true = tt
label_right lines name false = own_right lines name

directive_right : (lines : List Line) (directive : Directive) → IsRightIf lines (exported_by_directive lines directive)
directive_right lines (directives.Export visibilities.Global name) = label_right lines name (is_copy_label lines name)
directive_right lines (directives.Weak name) = label_right lines name (is_copy_label lines name)
directive_right lines (directives.Copy name size) = own_right lines name
directive_right lines (directives.Symver symver) = version_right lines symver
directive_right lines _ = tt

statement_right : (lines : List Line) (statement : Option Statement) → IsRightIf lines (exported_by lines statement)
statement_right lines None = tt
statement_right lines (Some (statements.Directive directive)) = directive_right lines directive
statement_right lines (Some (statements.Instruction instruction)) = tt

found_right : (lines : List Line) (exported : Option Exported) → IsRightIf lines exported → IsRightIf lines (if_labelled lines exported)
found_right lines None right = tt
found_right lines (Some exported) right =
    let P : Bool → Type 0 = λ b. IsRightIf lines (if b then Some exported else None) in
    let cases : (b : Bool) → P b = λ b. elim b as P [ true ↦ right | false ↦ tt ] in
    cases (is_label lines exported.label)

all_found : (lines : List Line) (f : Line → Option Exported) → ((line : Line) → IsRightIf lines (f line)) → (xs : List Line) → Each (IsRight lines) (filter_map f xs)
all_found lines f right [] = tt
all_found lines f right (x ∷ xs) =
    let P : Option Exported → Type 0 = λ found. IsRightIf lines found → Each (IsRight lines) (cons_option found (filter_map f xs)) in
    let cases : (found : Option Exported) → P found = λ found. elim found as P [
      | None ↦ λ right_one. all_found lines f right xs
      | Some exported ↦ λ right_one. (right_one, all_found lines f right xs)
    ] in
    cases (f x) (right x)

all_distinct : {A : Type 0} (P : A → Type 0) (same : A → A → Bool) (seen xs : List A) → Each P xs → Each P (distinct_after same seen xs)
all_distinct P same seen [] all = tt
all_distinct {A} P same seen (x ∷ xs) all =
    let Q : Bool → Type 0 = λ b. Each P (if b then distinct_after same seen xs else x ∷ distinct_after same (seen ++ x ∷ []) xs) in
    let cases : (b : Bool) → Q b = λ b. elim b as Q [
      | true ↦ all_distinct P same seen xs all.1
      | false ↦ (all.0, all_distinct P same (seen ++ x ∷ []) xs all.1)
    ] in
    cases (list_any (same x) seen)

all_flat : {A : Type 0} (P : A → Type 0) (test : ℕ → A → Bool) (xs : List A) (buckets : List ℕ) → Each P xs → Each P (flat_map (λ bucket. filter (test bucket) xs) buckets)
all_flat P test xs [] all = tt
all_flat P test xs (bucket ∷ buckets) all =
    each_append P (filter (test bucket) xs) (flat_map (λ bucket. filter (test bucket) xs) buckets) (each_filter P (test bucket) xs all) (all_flat P test xs buckets all)

all_right : (lines : List Line) → Each (IsRight lines) (sorted_exports lines)
unfolding sorted_exports by_bucket exports distinct
all_right lines =
    let count = bucket_count (length (exports lines)) in
    all_flat (IsRight lines) (λ bucket exported. gnu_hash exported.name % count == bucket) (exports lines) (range_with_len 0 count)
    (all_distinct (IsRight lines) same_export [] _
    (all_found lines (λ line. if_labelled lines (exported_by lines line.statement)) (λ line. found_right lines (exported_by lines line.statement) (statement_right lines line.statement)) lines))

same_place : {A : Type 0} (p q : A → Bool) (xs : List A) → Each (λ x. p x ≡ q x) xs → position_or_len p xs ≡ position_or_len q xs
same_place p q [] all = refl
same_place p q (x ∷ xs) all =
    ap (λ (b : Bool). cond (not b) (1 + position_or_len p xs) 0) all.0 ∙ ap (λ (n : ℕ). cond (not (q x)) (1 + n) 0) (same_place p q xs all.1)

same_first : {A : Type 0} (p q : A → Bool) (xs : List A) → Each (λ x. p x ≡ q x) xs → position p xs ≡ position q xs
same_first p q xs all = ap (λ (n : ℕ). cond (nat_lt n (length xs)) (Some n) None) (same_place p q xs all)

all_at : (lines : List Line) (name : List ℕ) (xs : List Exported) → Each (IsRight lines) xs → Each (λ exported. same_export (own_symbol lines name) exported ≡ named name exported) xs
all_at lines name [] all = tt
all_at lines name (x ∷ xs) all = (all.0 name, all_at lines name xs all.1)

-- the first symbol that is named so is the label's own
pub own_first : (lines : List Line) (name : List ℕ) → position (named name) (sorted_exports lines) ≡ position (same_export (own_symbol lines name)) (sorted_exports lines)
own_first lines name =
    sym (same_first (same_export (own_symbol lines name)) (named name) (sorted_exports lines) (all_at lines name (sorted_exports lines) (all_right lines)))
