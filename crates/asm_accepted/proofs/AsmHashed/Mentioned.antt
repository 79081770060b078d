-- Names that lines mention, and things that they give.
use Rattle.std.proofs.Common.{◌≡◌, ◌∙◌, ap, sym, subst, refl, ℕ, ◌<◌, ◌⊎◌, inl, inr, Bool, true, false, not, ◌&&◌, ◌||◌, if◌then◌else◌, List, [], ◌∷◌, ◌++◌, length, filter_map, arith, append_assoc}
use Rattle.std.specs.Prelude.{Option, Some, None, option_to_list}
use Rattle.std.specs.List.{cons_option, list_any}
use Rattle.std.specs.Str.{bytes_eq}
use Rattle.std.proofs.lemmas.Bool.{and_parts, cases_Bool, or_left, or_right}
use Rattle.std.proofs.lemmas.List.Folds.{list_any-append}
use Rattle.std.proofs.lemmas.Slice.Eq.{bytes_eq-Decides}
use Rattle.asm_statement.specs.declared.directive.Directive.TheVariants as directives
use Rattle.asm_statement.specs.declared.directive.Export.TheVariants as visibilities
use Rattle.asm_statement.specs.declared.line.Line.{Line}
use Rattle.asm_statement.specs.declared.line.Statement.{Statement}
use Rattle.asm_statement.specs.declared.line.Statement.TheVariants as statements
use Rattle.asm_layout.specs.declared.uses.Exported.{Exported}
use Rattle.asm_layout.specs.declared.uses.GotUse.{GotUse}
use Rattle.asm_layout.specs.Expansions.{Operand, Registers, Immediate, Upper, Word, Label, Code, Entry, operand_of}
use Rattle.asm_layout.specs.Labels.{copy_name, defines, is_label}
use Rattle.asm_layout.specs.Names.{is_exported, is_foreign, is_kept, is_library, is_preemptible, kind_of, statement_exports}
use Rattle.asm_layout.specs.Uses.{callee, code_name, copies, distinct, distinct_after, entry_of, exported_by, exports, foreign_name, got_use, if_foreign, if_labelled, imports, is_copy_label, label_symbol, mention, own_symbol, same_export}
use Rattle.asm_laws.specs.Lemmas.Each.{Each}
use Rattle.asm_laws.specs.Lemmas.Given.{given, same_name}

-- a line stands among others
pub record InLines (lines : List Line) (line : Line) : Type 0 where
  pub before : List Line
  pub rest : List Line
  pub parts : lines ≡ before ++ line ∷ rest

-- Lists that are made line by line

walked : {A : Type 0} (lines : List Line) (f : Line → Option A) (P : A → Type 0) → ((line : Line) → InLines lines line → (x : A) → f line ≡ Some x → P x)
    → (before rest : List Line) → lines ≡ before ++ rest → Each P (filter_map f rest)
walked lines f P each before [] parts = tt
walked {A} lines f P each before (line ∷ rest) parts =
    let more = walked lines f P each (before ++ line ∷ []) rest (parts ∙ sym (append_assoc before (line ∷ []) rest)) in
    let here = each line (record { before = before; rest = rest; parts = parts }) in
    let cases : (o : Option A) → f line ≡ o → Each P (cons_option o (filter_map f rest)) = λ o. elim o as (λ o. f line ≡ o → Each P (cons_option o (filter_map f rest))) [
      | None ↦ λ is. more
      | Some x ↦ λ is. (here x is, more)
    ] in
    cases (f line) refl

pub of_lines : {A : Type 0} (lines : List Line) (f : Line → Option A) (P : A → Type 0) → ((line : Line) → InLines lines line → (x : A) → f line ≡ Some x → P x) → Each P (filter_map f lines)
of_lines lines f P each = walked lines f P each [] lines refl

each_after : {A : Type 0} (same : A → A → Bool) (P : A → Type 0) (seen xs : List A) → Each P xs → Each P (distinct_after same seen xs)
each_after same P seen [] each = tt
each_after {A} same P seen (x ∷ xs) (first, each) =
    let old = each_after same P seen xs each in
    let new = each_after same P (seen ++ x ∷ []) xs each in
    elim (list_any (same x) seen) as (λ there. Each P (if there then distinct_after same seen xs else x ∷ distinct_after same (seen ++ x ∷ []) xs)) [ true ↦ old | false ↦ (first, new) ]

pub each_once : {A : Type 0} (same : A → A → Bool) (P : A → Type 0) (xs : List A) → Each P xs → Each P (distinct same xs)
unfolding distinct
each_once same P xs each = each_after same P [] xs each

-- some of what lines give

some_given : {A : Type 0} (f : Line → Option A) (before rest : List Line) (line : Line) (x : A) → f line ≡ Some x → 0 < length (filter_map f (before ++ line ∷ rest))
some_given f [] rest line x is = rw is (omega arith)
some_given {A} f (other ∷ before) rest line x is =
    let more = some_given f before rest line x is in
    elim (f other) as (λ o. 0 < length (cons_option o (filter_map f (before ++ line ∷ rest)))) [ None ↦ more | Some y ↦ omega arith ]

some_once : {A : Type 0} (same : A → A → Bool) (xs : List A) → 0 < length xs → 0 < length (distinct same xs)
unfolding distinct
some_once same [] some = absurd (omega (arith, some))
some_once same (x ∷ xs) some = omega arith

exported_there : (lines : List Line) (line : Line) → InLines lines line → (x : Exported) → if_labelled lines (exported_by lines line.statement) ≡ Some x → 0 < length (exports lines)
unfolding exports
exported_there lines line inside x is =
    let f : Line → Option Exported = λ line. if_labelled lines (exported_by lines line.statement) in
    some_once same_export (filter_map f lines) (subst (λ (all : List Line). 0 < length (filter_map f all)) (sym inside.parts) (some_given f inside.before inside.rest line x is))

-- a line that passes a test

any_split : (p : Line → Bool) (lines : List Line) → list_any p lines ≡ true → (line : Line) × InLines lines line × (p line ≡ true)
any_split p [] is = absurd cc
any_split p (first ∷ lines) is = elim (cases_Bool (p first)) as (λ _. (line : Line) × InLines (first ∷ lines) line × (p line ≡ true)) [
  | inl here ↦ (first, record { before = []; rest = lines; parts = refl }, here)
  | inr not_here ↦
      let later : list_any p lines ≡ true = ap (λ b. b || list_any p lines) (sym not_here) ∙ is in
      let (line, inside, passes) = any_split p lines later in
      (line, record { before = first ∷ inside.before; rest = inside.rest; parts = ap (λ (all : List Line). first ∷ all) inside.parts }, passes)
]

any_here : (p : Line → Bool) (lines : List Line) (line : Line) → InLines lines line → p line ≡ true → list_any p lines ≡ true
any_here p lines line inside passes =
    ap (list_any p) inside.parts ∙ list_any-append p inside.before (line ∷ inside.rest)
    ∙ or_right (list_any p inside.before) (list_any p (line ∷ inside.rest)) (or_left (p line) (list_any p inside.rest) passes)

same_bytes : (one other : List ℕ) → bytes_eq one other ≡ true → one ≡ other
same_bytes one other is = (bytes_eq-Decides one other).0 is

-- the name of a copy is a label, which is exported
copy_defined : (line : Line) (copy : List ℕ) → copy_name line.statement ≡ Some copy → defines copy line ≡ true
copy_defined line copy is =
    let own = option_to_list line.label in
    ap (λ o. list_any (bytes_eq copy) (own ++ option_to_list o)) is ∙ list_any-append (bytes_eq copy) own (copy ∷ [])
    ∙ or_right (list_any (bytes_eq copy) own) (list_any (bytes_eq copy) (copy ∷ [])) (or_left (bytes_eq copy copy) false (same_name copy))

pub copy_exported : (lines : List Line) (line : Line) → InLines lines line → (statement : Option Statement) → line.statement ≡ statement → (name : List ℕ) → copies name statement ≡ true
    → 0 < length (exports lines)
copy_exported lines line inside (Some (statements.Directive (directives.Copy copy size))) is name same =
    let labelled : is_label lines copy ≡ true = any_here (defines copy) lines line inside (copy_defined line copy (ap copy_name is)) in
    let own = own_symbol lines copy in
    exported_there lines line inside own (ap (λ s. if_labelled lines (exported_by lines s)) is ∙ ap (λ b. if b then Some own else None) labelled)
copy_exported lines line inside _ is name same = absurd cc

-- so is a label that a line exports
label_exported : (lines : List Line) (line : Line) → InLines lines line → (name : List ℕ) → is_label lines name ≡ true → exported_by lines line.statement ≡ label_symbol lines name
    → 0 < length (exports lines)
label_exported lines line inside name labelled is = elim (cases_Bool (is_copy_label lines name)) as (λ _. 0 < length (exports lines)) [
  | inl copied ↦
      let (copy, there, same) = any_split (λ line. copies name line.statement) lines copied in
      copy_exported lines copy there copy.statement refl name same
  | inr plain ↦
      let own = own_symbol lines name in
      let gives : exported_by lines line.statement ≡ Some own = is ∙ ap (λ b. if b then None else Some own) plain in
      exported_there lines line inside own (ap (if_labelled lines) gives ∙ ap (λ b. if b then Some own else None) labelled)
]

exporting : (lines : List Line) (line : Line) → InLines lines line → (statement : Option Statement) → line.statement ≡ statement → (name : List ℕ) → statement_exports name statement ≡ true
    → is_label lines name ≡ true → 0 < length (exports lines)
exporting lines line inside (Some (statements.Directive (directives.Export visibilities.Global exported))) is name same labelled =
    label_exported lines line inside exported (ap (is_label lines) (sym (same_bytes name exported same)) ∙ labelled) (ap (exported_by lines) is)
exporting lines line inside (Some (statements.Directive (directives.Weak exported))) is name same labelled =
    label_exported lines line inside exported (ap (is_label lines) (sym (same_bytes name exported same)) ∙ labelled) (ap (exported_by lines) is)
exporting lines line inside _ is name same labelled = absurd cc

-- a name that another object may define is undefined here, or there is something exported
pub mentioned : (lines : List Line) (line : Line) → InLines lines line → (name : List ℕ) → mention line.statement ≡ Some name → is_preemptible lines name ≡ true
    → (list_any (bytes_eq name) (imports lines) ≡ true) ⊎ (0 < length (exports lines))
unfolding is_preemptible imports distinct
mentioned lines line inside name mentions preemptible = elim (cases_Bool (is_foreign lines name)) as (λ _. (list_any (bytes_eq name) (imports lines) ≡ true) ⊎ (0 < length (exports lines))) [
  | inl foreign ↦
      let f : Line → Option (List ℕ) = λ line. if_foreign lines (mention line.statement) in
      let gives : f line ≡ Some name = ap (if_foreign lines) mentions ∙ ap (λ b. if b then Some name else None) foreign in
      inl (ap (λ (all : List Line). list_any (bytes_eq name) (distinct_after bytes_eq [] (filter_map f all))) inside.parts
      ∙ given bytes_eq f inside.before line inside.rest name (same_name name) gives)
  | inr own ↦
      let label = is_label lines name in
      let library = is_library (kind_of lines) in
      let exported = is_exported lines name in
      let kept = is_kept lines name in
      let all : (label && library && exported && not kept) ≡ true = ap (λ b. b || (label && library && exported && not kept)) (sym own) ∙ preemptible in
      let front = (and_parts (label && library && exported) (not kept) all).0 in
      let (both, is_out) = and_parts (label && library) exported front in
      let labelled = (and_parts label library both).0 in
      let (there, at, exports_it) = any_split (λ line. statement_exports name line.statement) lines is_out in
      inr (exporting lines there at there.statement refl name exports_it labelled)
]

-- what an instruction calls or takes from the global offset table, it mentions

called_there : (operand : Operand) (name : List ℕ) → code_name operand ≡ Some name → foreign_name operand ≡ Some name
called_there Registers name is = absurd cc
called_there (Immediate number) name is = absurd cc
called_there (Upper number) name is = absurd cc
called_there (Word number) name is = absurd cc
called_there (Label label) name is = absurd cc
called_there (Code code) name is = is
called_there (Entry kind entry) name is = absurd cc

pub called : (statement : Option Statement) (name : List ℕ) → callee statement ≡ Some name → mention statement ≡ Some name
called None name is = absurd cc
called (Some (statements.Directive directive)) name is = absurd cc
called (Some (statements.Instruction instruction)) name is = called_there (operand_of instruction) name is

taken_there : (operand : Operand) (got : GotUse) → entry_of operand ≡ Some got → foreign_name operand ≡ Some got.name
taken_there Registers got is = absurd cc
taken_there (Immediate number) got is = absurd cc
taken_there (Upper number) got is = absurd cc
taken_there (Word number) got is = absurd cc
taken_there (Label label) got is = absurd cc
taken_there (Code code) got is = absurd cc
taken_there (Entry kind name) got is = let same : (let made : GotUse = record { kind = kind; name = name } in made) ≡ got = cc in ap (λ (g : GotUse). Some g.name) same

pub taken : (statement : Option Statement) (got : GotUse) → got_use statement ≡ Some got → mention statement ≡ Some got.name
taken None got is = absurd cc
taken (Some (statements.Directive directive)) got is = absurd cc
taken (Some (statements.Instruction instruction)) got is = taken_there (operand_of instruction) got is
