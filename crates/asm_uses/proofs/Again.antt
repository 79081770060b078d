-- A copy that an earlier line makes: its symbol is there already.
use Rattle.std.proofs.Common.{◌≡◌, ℕ, Bool, true, false, ◌||◌, List, [], ◌∷◌, ◌++◌, take, drop, Some, None, refl, ap, ◌∙◌, subst, append_assoc}
use Rattle.std.specs.Prelude.{if◌then◌else◌, Option, filter_map, option_to_list}
use Rattle.std.specs.List.{list_any, cons_option}
use Rattle.std.specs.Option.{option_eq}
use Rattle.std.specs.Str.{bytes_eq}
use Rattle.std.proofs.Math.Bool.{beq}
use Rattle.std.proofs.lemmas.Cmp.{nat_list_eq_equiv}
use Rattle.std.proofs.lemmas.List.{take-append-drop}
use Rattle.std.proofs.lemmas.List.Folds.{list_any-append}
use Rattle.std.proofs.lemmas.Slice.Eq.{bytes_eq-Decides}
use Rattle.asm_statement.specs.declared.directive.Directive.TheVariants as directives
use Rattle.asm_statement.specs.declared.line.Statement.{Statement}
use Rattle.asm_statement.specs.declared.line.Statement.TheVariants as statements
use Rattle.asm_statement.specs.declared.line.Line.{Line}
use Rattle.asm_layout.specs.declared.uses.Exported.{Exported}
use Rattle.asm_layout.specs.Labels.{copy_name, defines, is_label}
use Rattle.asm_layout.specs.Once.{added_if}
use Rattle.asm_layout.specs.Uses.{copies, distinct, distinct_after, exported_by, if_labelled, is_copy_label, own_symbol, same_export}
use Rattle.asm_uses.specs.Exports.{is_copied}

always : (b : Bool) → (b || true) ≡ true
always true = refl
always false = refl

any_left : {A : Type 0} (p : A → Bool) (xs ys : List A) → list_any p xs ≡ true → list_any p (xs ++ ys) ≡ true
any_left p xs ys there = list_any-append p xs ys ∙ ap (λ (b : Bool). b || list_any p ys) there

any_right : {A : Type 0} (p : A → Bool) (xs ys : List A) → list_any p ys ≡ true → list_any p (xs ++ ys) ≡ true
any_right p xs ys there = list_any-append p xs ys ∙ ap (λ (b : Bool). list_any p xs || b) there ∙ always (list_any p xs)

-- what an element gives is among the distinct ones
gives_one : {X A : Type 0} (same : A → A → Bool) (f : X → Option A) (p : X → Bool) (x : A) → same x x ≡ true
    → ((y : X) → p y ≡ true → f y ≡ Some x) → (seen : List A) (ys : List X) → list_any p ys ≡ true
    → list_any (same x) (seen ++ distinct_after same seen (filter_map f ys)) ≡ true
gives_one same f p x itself gives seen [] some = absurd (cc some)
gives_one {X} {A} same f p x itself gives seen (y ∷ ys) some =
    let rest = filter_map f ys in
    let Has : List A → Type 0 = λ zs. list_any (same x) zs ≡ true in
    let P : Bool → Type 0 = λ there. list_any (same x) seen ≡ there
    → Has (seen ++ (if there then distinct_after same seen rest else x ∷ distinct_after same (seen ++ x ∷ []) rest)) in
    let now : (there : Bool) → P there = λ there. elim there as P [
      | true ↦ λ e. any_left (same x) seen (distinct_after same seen rest) e
      | false ↦ λ e.
          let behind = distinct_after same (seen ++ x ∷ []) rest in
          any_right (same x) seen (x ∷ behind) (ap (λ (b : Bool). b || list_any (same x) behind) itself)
    ] in
    let here : Has (seen ++ distinct_after same seen (x ∷ rest)) = now (list_any (same x) seen) refl in
    let Q : A → Bool → Type 0 = λ z there.
    Has (seen ++ (if there then distinct_after same seen rest else z ∷ distinct_after same (seen ++ z ∷ []) rest)) in
    let R : Option A → Type 0 = λ o. list_any p ys ≡ true → Has (seen ++ distinct_after same seen (cons_option o rest)) in
    let later : (o : Option A) → R o = λ o. elim o as R [
      | None ↦ λ e. gives_one same f p x itself gives seen ys e
      | Some z ↦ λ e.
          let cases : (there : Bool) → Q z there = λ there. elim there as (Q z) [
            | true ↦ gives_one same f p x itself gives seen ys e
            | false ↦
                subst Has (append_assoc seen (z ∷ []) (distinct_after same (seen ++ z ∷ []) rest))
                (gives_one same f p x itself gives (seen ++ z ∷ []) ys e)
          ] in
          cases (list_any (same z) seen)
    ] in
    let S : Bool → Type 0 = λ passes. p y ≡ passes → (passes || list_any p ys) ≡ true
    → Has (seen ++ distinct_after same seen (cons_option (f y) rest)) in
    let either : (passes : Bool) → S passes = λ passes. elim passes as S [
      | true ↦ λ e all. rw (gives y e) here
      | false ↦ λ e all. later (f y) all
    ] in
    either (p y) refl some

same_itself : (symbol : Exported) → same_export symbol symbol ≡ true
same_itself symbol =
    rw (nat_list_eq_equiv.refl symbol.label, nat_list_eq_equiv.refl symbol.name, version symbol.version, flag symbol.is_needed, flag symbol.is_default)
    refl
  where
    version : (v : Option (List ℕ)) → option_eq bytes_eq v v ≡ true
    version None = refl
    version (Some v) = nat_list_eq_equiv.refl v

    flag : (b : Bool) → beq b b ≡ true
    flag true = refl
    flag false = refl

-- a copy is a label
copy_defines : (name : List ℕ) (line : Line) → copies name line.statement ≡ true → defines name line ≡ true
copy_defines name line makes =
    any_right (bytes_eq name) (option_to_list line.label) (option_to_list (copy_name line.statement)) (made line.statement makes)
  where
    made : (statement : Option Statement) → copies name statement ≡ true → list_any (bytes_eq name) (option_to_list (copy_name statement)) ≡ true
    made None makes = absurd (cc makes)
    made (Some (statements.Instruction instruction)) makes = absurd (cc makes)
    made (Some (statements.Directive (directives.Copy copy size))) makes = ap (λ (b : Bool). b || false) makes
    made (Some (statements.Directive _)) makes = absurd (cc makes)

copy_is_label : (lines : List Line) (name : List ℕ) → is_copy_label lines name ≡ true → is_label lines name ≡ true
copy_is_label [] name some = absurd (cc some)
copy_is_label (line ∷ lines) name some =
    let P : Bool → Type 0 = λ makes. copies name line.statement ≡ makes → (makes || is_copy_label lines name) ≡ true
    → (defines name line || is_label lines name) ≡ true in
    let cases : (makes : Bool) → P makes = λ makes. elim makes as P [
      | true ↦ λ e all. ap (λ (b : Bool). b || is_label lines name) (copy_defines name line e)
      | false ↦ λ e all. ap (λ (b : Bool). defines name line || b) (copy_is_label lines name all) ∙ always (defines name line)
    ] in
    cases (copies name line.statement) refl some

-- what a copy's line gives
copy_gives : (lines : List Line) (name : List ℕ) (statement : Option Statement) → is_label lines name ≡ true → copies name statement ≡ true
    → if_labelled lines (exported_by lines statement) ≡ Some (own_symbol lines name)
copy_gives lines name None labelled makes = absurd (cc makes)
copy_gives lines name (Some (statements.Instruction instruction)) labelled makes = absurd (cc makes)
copy_gives lines name (Some (statements.Directive (directives.Copy copy size))) labelled makes =
    let e : name ≡ copy = (bytes_eq-Decides name copy).0 makes in
    rw (← e, labelled) refl
copy_gives lines name (Some (statements.Directive _)) labelled makes = absurd (cc makes)

-- the symbols of the first lines
abbrev pub symbols_before : List Line → ℕ → List Exported
symbols_before lines k = distinct same_export (filter_map (λ line. if_labelled lines (exported_by lines line.statement)) (take k lines))

-- the symbol of a copy that is made again is one of them
copy_stands : (lines : List Line) (k : ℕ) (name : List ℕ) → is_copy_label (take k lines) name ≡ true → is_label lines name ≡ true
    → list_any (same_export (own_symbol lines name)) (symbols_before lines k) ≡ true
unfolding distinct
copy_stands lines k name again labelled =
    gives_one same_export (λ line. if_labelled lines (exported_by lines line.statement)) (λ line. copies name line.statement) (own_symbol lines name)
    (same_itself (own_symbol lines name)) (λ line makes. copy_gives lines name line.statement labelled makes) [] (take k lines) again

adds_nothing : (lines : List Line) (k : ℕ) (name : List ℕ) → is_copy_label (take k lines) name ≡ true
    → symbols_before lines k ≡ added_if same_export (symbols_before lines k) (if_labelled lines (Some (own_symbol lines name)))
adds_nothing lines k name again =
    let front : is_label (take k lines) name ≡ true = copy_is_label (take k lines) name again in
    let labelled : is_label lines name ≡ true =
    subst (λ (all : List Line). is_label all name ≡ true) (take-append-drop k lines) (any_left (defines name) (take k lines) (drop k lines) front) in
    rw (labelled, copy_stands lines k name again labelled) refl

pub leaves_out : (lines : List Line) (k : ℕ) (statement : Option Statement)
    → added_if same_export (symbols_before lines k)
    (if is_copied (take k lines) (copy_name statement) then None else if_labelled lines (exported_by lines statement))
    ≡ added_if same_export (symbols_before lines k) (if_labelled lines (exported_by lines statement))
leaves_out lines k None = refl
leaves_out lines k (Some (statements.Instruction instruction)) = refl
leaves_out lines k (Some (statements.Directive (directives.Copy name size))) =
    let symbol = if_labelled lines (Some (own_symbol lines name)) in
    let P : Bool → Type 0 = λ again. is_copy_label (take k lines) name ≡ again
    → added_if same_export (symbols_before lines k) (if again then None else symbol) ≡ added_if same_export (symbols_before lines k) symbol in
    let cases : (again : Bool) → P again = λ again. elim again as P [ true ↦ λ e. adds_nothing lines k name e | false ↦ λ e. refl ] in
    cases (is_copy_label (take k lines) name) refl
leaves_out lines k (Some (statements.Directive _)) = refl
