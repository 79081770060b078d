-- Lines have no fault where they are those of generated sources, their labels are new and their names known.
use Rattle.std.proofs.Common.{◌≡◌, ◌∙◌, ap, sym, refl, ℕ, zero, suc, ◌+◌, ◌≤◌, Bool, true, false, not, List, [], ◌∷◌, ◌++◌, length, take, Option, Some, None, arith, append_assoc, length-append, take_at}
use Rattle.std.specs.Prelude.{slice_get}
use Rattle.std.proofs.lemmas.Option.{slice_get_past}
use Rattle.ld_base.specs.declared.fault.AsmCause.{AsmCause}
use Rattle.asm_write.specs.Starts.{starts_of}
use Rattle.asm_statement.specs.declared.directive.Directive.TheVariants as directives
use Rattle.asm_statement.specs.declared.directive.Export.TheVariants as exports
use Rattle.asm_statement.specs.declared.directive.Section.{Section}
use Rattle.asm_statement.specs.declared.directive.Section.TheVariants as sections
use Rattle.asm_statement.specs.declared.line.Line.{Line}
use Rattle.asm_statement.specs.declared.line.Statement.{Statement}
use Rattle.asm_statement.specs.declared.line.Statement.TheVariants as statements
use Rattle.asm_layout.specs.Contents.{contents_of}
use Rattle.asm_layout.specs.Faults.{HasNoFault, fault_at, fault_of, first_fault, for_statement, line_fault, statement_fits, statement_is_known, statement_may_stand}
use Rattle.asm_layout.specs.Labels.{defined_by, is_taken}
use Rattle.asm_layout.specs.Places.{place_at}
use Rattle.asm_laws.specs.Lemmas.Each.{Each}
use Rattle.asm_laws.specs.Lemmas.Passed.{got_at}
use Rattle.lib_gen.proofs.GeneratedDenotes.Ends.{EndsLow}
use Rattle.lib_gen.proofs.GeneratedDenotes.Labels.{IsKnown, New}
use Rattle.lib_gen.proofs.GeneratedDenotes.Plain.{ArePlain, IsPlain, in_text, plain_front}
use Rattle.lib_gen.proofs.GeneratedDenotes.Reach.{one_fits}

all_pass : (a b c d : Bool) (w x y z : AsmCause) → a ≡ true → b ≡ true → c ≡ true → d ≡ true
    → first_fault ((a, w) ∷ (b, x) ∷ (c, y) ∷ (d, z) ∷ []) ≡ None
all_pass a b c d w x y z one two three four = rw (one, two, three, four) refl

may_stand : (statement : Option Statement) → IsPlain statement → for_statement (statement_may_stand sections.Text) statement ≡ true
may_stand None plain = refl
may_stand (Some (statements.Directive (directives.Soname name))) plain = refl
may_stand (Some (statements.Directive (directives.Needed name))) plain = refl
may_stand (Some (statements.Directive (directives.Export exports.Global name))) plain = refl
may_stand (Some (statements.Directive (directives.Kind kind))) plain = refl
may_stand (Some (statements.Directive _)) plain = absurd plain
may_stand (Some (statements.Instruction instruction)) plain = refl

module _ (lines : List Line) (plain : ArePlain lines) (count : length lines ≤ 8200) (ends : EndsLow (starts_of (contents_of lines))) where
  line_clean : (k : ℕ) (before : List Line) (line : Line) → take k lines ≡ before → IsPlain line.statement → is_taken before (defined_by line) ≡ false → IsKnown lines line
      → line_fault lines k line ≡ None
  line_clean k before line front is new known =
      let fresh : not (is_taken (take k lines) (defined_by line)) ≡ true = ap (λ (all : List Line). not (is_taken all (defined_by line))) front ∙ ap not new in
      let here : (place_at lines k).section ≡ sections.Text = in_text (take k lines) (plain_front k lines plain) in
      let stands : for_statement (statement_may_stand (place_at lines k).section) line.statement ≡ true
      = ap (λ (section : Section). for_statement (statement_may_stand section) line.statement) here ∙ may_stand line.statement is in
      all_pass (for_statement (statement_fits lines k) line.statement) (not (is_taken (take k lines) (defined_by line)))
      (for_statement (statement_is_known lines) line.statement) (for_statement (statement_may_stand (place_at lines k).section) line.statement) _ _ _ _
      (one_fits lines plain count ends k line.statement is) fresh known stands

  walk : (before rest : List Line) → lines ≡ before ++ rest → ArePlain rest → New before rest → Each (IsKnown lines) rest → (k n : ℕ) → n ≡ length before + k
      → fault_at lines n ≡ None
  unfolding fault_at
  walk before [] whole are new known k n at =
      let long : length lines ≤ n = omega (arith, at, ap length whole, length-append before []) in
      ap (fault_of lines n) (slice_get_past lines n long)
  walk before (line ∷ rest) whole (first, are) (fresh, new) (is, known) zero n at =
      let same : n ≡ length before = omega (arith, at) in
      let here : slice_get lines n ≡ Some line = ap (slice_get lines) same ∙ ap (λ (all : List Line). slice_get all (length before)) whole ∙ got_at before line rest in
      let front : take n lines ≡ before = ap (λ (all : List Line). take n all) whole ∙ take_at before (line ∷ rest) n (sym same) in
      ap (fault_of lines n) here ∙ line_clean n before line front first.plain fresh is
  walk before (line ∷ rest) whole (first, are) (fresh, new) (is, known) (suc k) n at =
      walk (before ++ line ∷ []) rest (whole ∙ sym (append_assoc before (line ∷ []) rest)) are new known k n (omega (arith, at, length-append before (line ∷ [])))

  pub clean : New [] lines → Each (IsKnown lines) lines → HasNoFault lines
  clean new known = λ k. walk [] lines refl plain new known k k (omega arith)
