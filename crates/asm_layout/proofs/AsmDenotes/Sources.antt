-- A source denotes one object, or is refused once.
use Rattle.std.proofs.Common.{◌≡◌, ◌↔◌, ◌⊎◌, inl, inr, ℕ, Bool, true, false, List, Ok, Err, refl, sym, ap, subst, ◌∙◌}
use Rattle.std.specs.Prelude.{Result}
use Rattle.ld_base.specs.declared.fault.AsmCause.{AsmCause}
use Rattle.ld_base.specs.declared.fault.AsmCause.TheVariants as causes
use Rattle.asm_statement.specs.declared.line.Line.{Line}
use Rattle.asm_grammar.specs.Grammar.{SaysSource, BreaksSource}
use Rattle.asm_grammar.specs.Reading.{statements_of}
use Rattle.asm_layout.specs.Faults.{HasNoFault}
use Rattle.asm_layout.specs.Object.{object_of, is_too_big, last_statement}
use Rattle.asm_layout.specs.AsmDenotes.Denotes.{AreObjectOf, BreaksLines, Denotes, AsmBroken}
use Rattle.asm_layout.proofs.AsmDenotes.Faulty.{IsRefused, clean_or_refused, never_both, one_first}

-- what is known of reading
abbrev pub Says : Type 0
Says = (source : List ℕ) (says : List Line) → (statements_of source ≡ Ok says) ↔ SaysSource source says

abbrev pub Breaks : Type 0
Breaks = (source : List ℕ) (line : ℕ) (cause : AsmCause) → (statements_of source ≡ Err (line, cause)) ↔ BreaksSource source line cause

-- what is read of a source
abbrev said : List Line → Result (List Line) (ℕ × AsmCause)
said lines = Ok lines

abbrev refused : ℕ → AsmCause → Result (List Line) (ℕ × AsmCause)
refused number cause = Err (number, cause)

-- ---- lines

-- lines are refused
record AreBroken (lines : List Line) : Type 0 where
  pub number : ℕ
  pub cause : AsmCause
  pub broken : BreaksLines lines number cause

by_size : (lines : List Line) → HasNoFault lines → (big : Bool) → is_too_big lines ≡ big → AreObjectOf lines (object_of lines) ⊎ AreBroken lines
by_size lines clean false is = inl (record { faultless = clean; fits = is; are = refl })
by_size lines clean true is = inr (record {
  number = last_statement lines;
  cause = causes.TooBig;
  broken = inr (record { faultless = clean; big = is; counted = refl; cause_is = refl });
})

lines_either : (lines : List Line) → AreObjectOf lines (object_of lines) ⊎ AreBroken lines
lines_either lines = by_fault (clean_or_refused lines)
  where
    by_fault : HasNoFault lines ⊎ IsRefused lines → AreObjectOf lines (object_of lines) ⊎ AreBroken lines
    by_fault (inl clean) = by_size lines clean (is_too_big lines) refl
    by_fault (inr refused) = inr (record { number = refused.number; cause = refused.cause; broken = inl refused.first })

lines_never_both : (lines : List Line) (bytes : List ℕ) (number : ℕ) (cause : AsmCause) → AreObjectOf lines bytes → BreaksLines lines number cause → ⊥
lines_never_both lines bytes number cause object (inl first) = never_both lines number cause object.faultless first
lines_never_both lines bytes number cause object (inr big) =
    let e : false ≡ true = sym object.fits ∙ big.big in
    absurd cc

one_break : (lines : List Line) (number number' : ℕ) (cause cause' : AsmCause) → BreaksLines lines number cause → BreaksLines lines number' cause'
    → (number ≡ number') × (cause ≡ cause')
one_break lines number number' cause cause' (inl p) (inl q) = one_first lines number number' cause cause' p q
one_break lines number number' cause cause' (inl p) (inr q) = absurd (never_both lines number cause q.faultless p)
one_break lines number number' cause cause' (inr p) (inl q) = absurd (never_both lines number' cause' p.faultless q)
one_break lines number number' cause cause' (inr p) (inr q) = (p.counted ∙ sym q.counted, p.cause_is ∙ sym q.cause_is)

-- ---- sources

module _ (says : Says) (breaks : Breaks) where
  -- one source says one thing
  one_reading : (source : List ℕ) (first second : List Line) → SaysSource source first → SaysSource source second → first ≡ second
  one_reading source first second p q =
      let e : said first ≡ said second = sym ((says source first).1 p) ∙ (says source second).1 q in
      cc

  not_broken : (source : List ℕ) (lines : List Line) (number : ℕ) (cause : AsmCause) → SaysSource source lines → BreaksSource source number cause → ⊥
  not_broken source lines number cause p q =
      let e : said lines ≡ refused number cause = sym ((says source lines).1 p) ∙ (breaks source number cause).1 q in
      absurd cc

  pub either : (source : List ℕ) → ((bytes : List ℕ) × Denotes source bytes) ⊎ ((number : ℕ) × (cause : AsmCause) × AsmBroken source number cause)
  either source = by_reading (statements_of source) refl
    where
      of_lines : (lines : List Line) → SaysSource source lines → AreObjectOf lines (object_of lines) ⊎ AreBroken lines
          → ((bytes : List ℕ) × Denotes source bytes) ⊎ ((number : ℕ) × (cause : AsmCause) × AsmBroken source number cause)
      of_lines lines said (inl object) = inl (object_of lines, record { lines = lines; says = said; object = object })
      of_lines lines said (inr refused) =
          inr (refused.number, refused.cause, inr (record { lines = lines; says = said; broken = refused.broken }))

      by_reading : (read : Result (List Line) (ℕ × AsmCause)) → statements_of source ≡ read
          → ((bytes : List ℕ) × Denotes source bytes) ⊎ ((number : ℕ) × (cause : AsmCause) × AsmBroken source number cause)
      by_reading (Ok lines) is = of_lines lines ((says source lines).0 is) (lines_either lines)
      by_reading (Err (number, cause)) is = inr (number, cause, inl ((breaks source number cause).0 is))

  pub denotes_unbroken : (source bytes : List ℕ) (number : ℕ) (cause : AsmCause) → Denotes source bytes → AsmBroken source number cause → ⊥
  denotes_unbroken source bytes number cause p (inl q) = not_broken source p.lines number cause p.says q
  denotes_unbroken source bytes number cause p (inr q) =
      let same : q.lines ≡ p.lines = one_reading source q.lines p.lines q.says p.says in
      lines_never_both p.lines bytes number cause p.object (subst (λ (lines : List Line). BreaksLines lines number cause) same q.broken)

  pub one_object : (source first second : List ℕ) → Denotes source first → Denotes source second → first ≡ second
  one_object source first second p q =
      p.object.are ∙ ap object_of (one_reading source p.lines q.lines p.says q.says) ∙ sym q.object.are

  pub one_refusal : (source : List ℕ) (number number' : ℕ) (cause cause' : AsmCause) → AsmBroken source number cause → AsmBroken source number' cause'
      → (number ≡ number') × (cause ≡ cause')
  one_refusal source number number' cause cause' (inl p) (inl q) =
      let e : refused number cause ≡ refused number' cause' = sym ((breaks source number cause).1 p) ∙ (breaks source number' cause').1 q in
      let both : (number, cause) ≡ (number', cause') = cc in
      (ap (λ (pair : ℕ × AsmCause). pair.0) both, ap (λ (pair : ℕ × AsmCause). pair.1) both)
  one_refusal source number number' cause cause' (inl p) (inr q) = absurd (not_broken source q.lines number cause q.says p)
  one_refusal source number number' cause cause' (inr p) (inl q) = absurd (not_broken source p.lines number' cause' p.says q)
  one_refusal source number number' cause cause' (inr p) (inr q) =
      let same : q.lines ≡ p.lines = one_reading source q.lines p.lines q.says p.says in
      one_break p.lines number number' cause cause' p.broken (subst (λ (lines : List Line). BreaksLines lines number' cause') same q.broken)
