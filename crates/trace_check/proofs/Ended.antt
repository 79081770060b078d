-- The end of a trace.
use Rattle.std.proofs.Common.{◌≡◌, ◌≢◌, ℕ, ◌+◌, ◌==◌, Bool, true, false, List, [], ◌∷◌, length, Option, Some, None, refl, sym, ap, subst, ◌∙◌, arith, if◌then◌else◌}
use Rattle.std.specs.Prelude.{IsSome, is_none}
use Rattle.std.specs.Option.{option_map}
use Rattle.std.proofs.lemmas.Grind.{common_steps}
use Rattle.history_event.specs.declared.event.Event.{Event}
use Rattle.history_state.specs.Legal.{Whole}
use Rattle.history_state.specs.Setting.{Setting}
use Rattle.trace_check.specs.Judged.{Judged, Says, at, legal}
use Rattle.trace_check.specs.Lines.{Lines}
use Rattle.trace_check.specs.Rows.{end_cause}
use Rattle.trace_check.specs.declared.verdict.TraceCause.{TraceCause}
use Rattle.trace_check.specs.declared.verdict.TraceCause.TheVariants as causes
use Rattle.trace_read.specs.Lines.{HasLine}
use Rattle.trace_read.specs.Said.{said_of}
use Rattle.trace_check.proofs.Taken.{as_many}

pub none_of : {A B : Type 0} (f : A → B) (o : Option A) → is_none o ≡ true → option_map f o ≡ None
none_of f None e = refl
none_of f (Some a) e = let d : false ≡ true = e in absurd cc

pub some_of : {A B : Type 0} (f : A → B) (o : Option A) → is_none o ≡ false → IsSome (option_map f o)
some_of f None e = let d : true ≡ false = e in absurd cc
some_of f (Some a) e = refl

no_bytes : (rest : List ℕ) → (length rest == 0) ≡ true → rest ≡ []
no_bytes [] e = refl
no_bytes (b ∷ rest) e = (let none : length (b ∷ rest) ≡ 0 = grind (arith, common_steps) in absurd (omega (arith, none)))

pub some_bytes : (rest : List ℕ) → (length rest == 0) ≡ false → rest ≢ []
some_bytes [] e same = let d : true ≡ false = e in absurd cc
some_bytes (b ∷ rest) e same = let d : b ∷ rest ≡ [] = same in absurd cc

pub no_bytes_left : (rest : List ℕ) → (length rest == 0) ≡ true → rest ≡ []
no_bytes_left rest e = no_bytes rest e

module _ (w : Setting) (t : Lines) (events : List Event) (n : ℕ) (count : n ≡ length t.events) (says : Says w t.events events) where
  numbered : (more : ℕ) (cause : TraceCause) → Judged w t (at (length t.events + more) cause) → Judged w t (at (n + more) cause)
  numbered more cause judged = subst (λ k. Judged w t (at (k + more) cause)) (sym count) judged

  pub cut_short : t.last ≡ None → Judged w t (at (n + 1) (end_cause t.rest))
  cut_short none = numbered 1 (end_cause t.rest) (by (length t.rest == 0) refl)
    where
      by : (b : Bool) → (length t.rest == 0) ≡ b → Judged w t (at (length t.events + 1) (end_cause t.rest))
      by true e = subst (λ c. Judged w t (at (length t.events + 1) c)) (sym (ap (λ (b : Bool). if b then causes.NoEnd else causes.NotALine) e)) (Judged.no_end events says none (no_bytes t.rest e))
      by false e = subst (λ c. Judged w t (at (length t.events + 1) c)) (sym (ap (λ (b : Bool). if b then causes.NoEnd else causes.NotALine) e)) (Judged.is_cut events says none (some_bytes t.rest e))

  pub unfinished : IsSome t.last → ¬ (Whole w events) → Judged w t (at (n + 1) causes.NotWhole)
  unfinished last not = numbered 1 causes.NotWhole (Judged.not_whole events says last not)

  pub has_more : IsSome t.last → Whole w events → t.rest ≢ [] → Judged w t (at (n + 2) causes.NotALine)
  has_more last whole more = numbered 2 causes.NotALine (Judged.goes_on events says last whole more)

  pub passes : IsSome t.last → Whole w events → t.rest ≡ [] → Judged w t (legal n)
  passes last whole none = subst (λ k. Judged w t (legal k)) (sym (count ∙ as_many (λ (line : List ℕ) (e : Event). HasLine line (said_of e)) t.events events says.said)) (Judged.is_legal events says last whole none)
