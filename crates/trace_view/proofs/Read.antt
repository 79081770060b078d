-- What is known of a journal whose first lines are read.
use Rattle.std.proofs.Common.{◌≡◌, ℕ, suc, ◌+◌, List, [], ◌∷◌, ◌++◌, length, take, drop, refl, sym, ap, ◌∙◌, subst, append_assoc, append-nil, add-zero, arith}
use Rattle.std.specs.Prelude.{◌≢◌, Option, Some, None, option_map}
use Rattle.std.specs.List.{All}
use Rattle.std.proofs.lemmas.List.{take-append-drop}
use Rattle.std.proofs.lemmas.List.Elements.{All-cons, All-contains, All-head, All-nil, All-push, All-tail, All-weaker, Contains-push}
use Rattle.history_event.specs.declared.event_line.EventLine.{EventLine}
use Rattle.history_event.specs.declared.event_line.EventLine.TheVariants as lines
use Rattle.trace_read.specs.Fits.{IsWritable}
use Rattle.trace_read.specs.Lines.{HasLine, line_of}
use Rattle.trace_view.specs.declared.journal.Made.{Made}
use Rattle.trace_view.specs.declared.journal.Step.{Step}
use Rattle.trace_view.specs.Journal.{AreRows, AreSettled, IsGrantIf, IsMadeIn, IsOneMore, IsSettledBy, SettledIn, events_of, granted_number, lines_of, made_by, noted, settled_number}

-- a number that no grant has, no event gives
abbrev pub AreListed : List EventLine → List Made → Type 0
AreListed events grants = (number : ℕ) → All (λ made. made.grant ≢ number) grants → All (λ event. granted_number event ≢ Some number) events

pub record IsReadSo (bytes : List ℕ) (rest : List ℕ) (steps : List Step) (grants : List Made) : Type 0 where
  pub text : bytes ≡ lines_of (events_of steps) ++ rest
  pub fit : All IsWritable (events_of steps)
  pub rows : AreRows 0 steps
  pub made : All (IsMadeIn (events_of steps)) grants
  pub listed : AreListed (events_of steps) grants
  pub settled : AreSettled [] steps

pub length-events : (steps : List Step) → length (events_of steps) ≡ length steps
length-events [] = refl
length-events (s ∷ ss) = ap suc (length-events ss)

-- ---- one more event

events-push : (steps : List Step) (step : Step) → events_of (steps ++ step ∷ []) ≡ events_of steps ++ step.event ∷ []
events-push [] step = refl
events-push (s ∷ ss) step = ap (λ es. s.event ∷ es) (events-push ss step)

lines-push : (events : List EventLine) (event : EventLine) → lines_of (events ++ event ∷ []) ≡ lines_of events ++ line_of event
lines-push [] event = append-nil (line_of event)
lines-push (e ∷ es) event = ap (λ ls. line_of e ++ ls) (lines-push es event) ∙ sym (append_assoc (line_of e) (lines_of es) (line_of event))

rows-push : (row : ℕ) (steps : List Step) (step : Step) → AreRows row steps → step.row ≡ row + length steps → AreRows row (steps ++ step ∷ [])
rows-push row [] step are is = (is ∙ add-zero row, tt)
rows-push row (s ∷ ss) step are is =
    let next : step.row ≡ (row + 1) + length ss = omega arith in
    (are.0, rows-push (row + 1) ss step are.1 next)

made-push : (events : List EventLine) (event : EventLine) (made : Made) → IsMadeIn events made → IsMadeIn (events ++ event ∷ []) made
made-push events event made is = record {
  before = is.before;
  event = is.event;
  behind = is.behind ++ event ∷ [];
  there = ap (λ es. es ++ event ∷ []) is.there ∙ append_assoc is.before (is.event ∷ is.behind) (event ∷ []);
  makes = is.makes;
}

settled-push : (before : List EventLine) (steps : List Step) (step : Step) → AreSettled before steps
    → SettledIn (before ++ events_of steps) step.event step.grant → AreSettled before (steps ++ step ∷ [])
settled-push before [] step are is = (subst (λ (es : List EventLine). SettledIn es step.event step.grant) (append-nil before) is, tt)
settled-push before (s ∷ ss) step are is = (
  are.0,
  settled-push (before ++ s.event ∷ []) ss step are.1
      (subst (λ (es : List EventLine). SettledIn es step.event step.grant) (sym (append_assoc before (s.event ∷ []) (events_of ss))) is),
)

-- ---- grants

All-front : (P : Made → Type 0) (grants : List Made) (made : Made) → All P (grants ++ made ∷ []) → All P grants
All-front P [] made all = All-nil P
All-front P (g ∷ gs) made all = All-cons P g gs (All-head P g (gs ++ made ∷ []) all) (All-front P gs made (All-tail P g (gs ++ made ∷ []) all))

made-noted : (events : List EventLine) (event : EventLine) (grants : List Made) → All (IsMadeIn events) grants
    → All (IsMadeIn (events ++ event ∷ [])) (noted grants (made_by (length events) event))
made-noted events event grants all = by (made_by (length events) event) refl
  where
    kept : All (IsMadeIn (events ++ event ∷ [])) grants
    kept = All-weaker (IsMadeIn events) (IsMadeIn (events ++ event ∷ [])) (λ made is. made-push events event made is) grants all

    by : (o : Option Made) → made_by (length events) event ≡ o → All (IsMadeIn (events ++ event ∷ [])) (noted grants o)
    by None is = kept
    by (Some made) is =
        let this : IsMadeIn (events ++ event ∷ []) made = record { before = events; event = event; behind = []; there = refl; makes = is } in
        All-push (IsMadeIn (events ++ event ∷ [])) grants made kept this

number-made : (row : ℕ) (event : EventLine) → granted_number event ≡ option_map (λ made. made.grant) (made_by row event)
number-made row (lines.Grant grant hart owner slot choice value) = refl
number-made row other = refl

listed-noted : (events : List EventLine) (event : EventLine) (grants : List Made) → AreListed events grants
    → AreListed (events ++ event ∷ []) (noted grants (made_by (length events) event))
listed-noted events event grants so number = by (made_by (length events) event) (number-made (length events) event)
  where
    by : (o : Option Made) → granted_number event ≡ option_map (λ made. made.grant) o → All (λ made. made.grant ≢ number) (noted grants o)
        → All (λ e. granted_number e ≢ Some number) (events ++ event ∷ [])
    by None is none =
        All-push (λ e. granted_number e ≢ Some number) events event (so number none) (λ gives. absurd (let d : None ≡ Some number = sym is ∙ gives in cc))
    by (Some made) is none =
        let old : All (λ m. m.grant ≢ number) grants = All-front (λ m. m.grant ≢ number) grants made none in
        let this : made.grant ≢ number = All-contains (λ m. m.grant ≢ number) (grants ++ made ∷ []) made none (Contains-push grants made) in
        All-push (λ e. granted_number e ≢ Some number) events event (so number old) (λ gives. this (let d : Some made.grant ≡ Some number = sym is ∙ gives in cc))

settled-now : (events : List EventLine) (grants : List Made) (event : EventLine) (given : Option Made) → All (IsMadeIn events) grants
    → AreListed events grants → IsSettledBy grants event given → SettledIn events event given
settled-now events grants event given all so = by (settled_number event) refl given
  where
    by : (o : Option ℕ) → settled_number event ≡ o → (given : Option Made) → IsGrantIf grants o given → SettledIn events event given
    by None none None is = λ k d lt number some. absurd (let e : None ≡ Some number = sym none ∙ some in cc)
    by None none (Some made) is = absurd (let e : Some made ≡ None = is in cc)
    by (Some number) some None is = λ k d lt other same gives.
        so number is k d lt (let e : Some number ≡ Some other = sym some ∙ same in gives ∙ sym e)
    by (Some number) some (Some made) is = (All-contains (IsMadeIn events) grants made all is.0, some ∙ ap Some (sym is.1))

-- ---- one more line

pub read_more : (bytes line behind : List ℕ) (steps : List Step) (grants : List Made) (event : EventLine) (after : List Step)
    → IsReadSo bytes (line ++ behind) steps grants → HasLine line event → IsOneMore steps grants event after
    → IsReadSo bytes behind after (noted grants (made_by (length steps) event))
read_more bytes line behind steps grants event after so has more =
    let old : List EventLine = events_of steps in
    let step : Step = record { row = length steps; event = event; grant = more.grant } in
    let grown : events_of after ≡ old ++ event ∷ [] = ap events_of more.are ∙ events-push steps step in
    let lines : lines_of (old ++ event ∷ []) ++ behind ≡ bytes =
    ap (λ ls. ls ++ behind) (lines-push old event) ∙ append_assoc (lines_of old) (line_of event) behind
    ∙ ap (λ l. lines_of old ++ (l ++ behind)) (sym has.text) ∙ sym so.text in
    record {
      text = sym lines ∙ ap (λ es. lines_of es ++ behind) (sym grown);
      fit = subst (All IsWritable) (sym grown) (All-push IsWritable old event so.fit has.fits);
      rows = subst (AreRows 0) (sym more.are) (rows-push 0 steps step so.rows (omega arith));
      made = subst (λ es. All (IsMadeIn es) (noted grants (made_by (length steps) event))) (sym grown)
          (subst (λ n. All (IsMadeIn (old ++ event ∷ [])) (noted grants (made_by n event))) (length-events steps) (made-noted old event grants so.made));
      listed = subst (λ es. AreListed es (noted grants (made_by (length steps) event))) (sym grown)
          (subst (λ n. AreListed (old ++ event ∷ []) (noted grants (made_by n event))) (length-events steps) (listed-noted old event grants so.listed));
      settled = subst (AreSettled []) (sym more.are)
          (settled-push [] steps step so.settled (settled-now old grants event more.grant so.made so.listed more.settled));
    }

-- ---- as the loop has it

pub read_next : (n : ℕ) (bytes rest line behind : List ℕ) (steps after : List Step) (grants noted_after : List Made) (event : EventLine)
    → IsReadSo bytes rest steps grants → line ≡ take n rest → behind ≡ drop n rest → HasLine line event
    → IsOneMore steps grants event after → noted_after ≡ noted grants (made_by (length steps) event)
    → IsReadSo bytes behind after noted_after
read_next n bytes rest line behind steps after grants noted_after event so front back has are made =
    let whole : line ++ behind ≡ rest = ap (λ (l : List ℕ). l ++ behind) front ∙ ap (λ (b : List ℕ). take n rest ++ b) back ∙ take-append-drop n rest in
    let before : IsReadSo bytes (line ++ behind) steps grants = subst (λ (r : List ℕ). IsReadSo bytes r steps grants) (sym whole) so in
    subst (λ (gs : List Made). IsReadSo bytes behind after gs) (sym made) (read_more bytes line behind steps grants event after before has are)
