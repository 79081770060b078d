-- Lines taken in one after another.
use Rattle.std.proofs.Common.{◌≡◌, inl, inr, ℕ, ◌+◌, ◌<◌, List, [], ◌∷◌, ◌++◌, length, get_or, take, drop, map, suc, drop-cons, add-one, Option, Some, None, Result, Ok, Err, refl, sym, ap, subst, ◌∙◌, arith}
use Rattle.std.specs.Prelude.{IfErr, IfSome}
use Rattle.std.specs.List.{AllZip}
use Rattle.std.proofs.lemmas.Grind.{common_steps}
use Rattle.std.proofs.lemmas.List.{length-map, take-append-drop, take_more}
use Rattle.history_event.specs.declared.event.Event.{Event}
use Rattle.history_event.specs.declared.event.Event.TheVariants as events
use Rattle.history_event.specs.declared.event.OpenAnswer.{OpenAnswer}
use Rattle.history_event.specs.declared.event.OpenAsk.{OpenAsk}
use Rattle.history_event.specs.declared.event_line.EventLine.TheVariants as lines
use Rattle.history_event.specs.declared.event_line.OpenLine.{OpenLine}
use Rattle.history_state.specs.Allowed.{Allowed}
use Rattle.history_state.specs.Legal.{Legal}
use Rattle.history_state.specs.Setting.{Setting}
use Rattle.trace_check.specs.Judged.{Judged, MayFailAt, MayFailIn, at}
use Rattle.trace_check.specs.Judged.Judged.{no_line, not_allowed, undecided}
use Rattle.trace_check.specs.Lines.{Lines}
use Rattle.trace_check.specs.Rows.{AreTaken, IsChecked, IsPassed}
use Rattle.trace_check.specs.declared.verdict.TraceCause.{TraceCause}
use Rattle.trace_check.specs.declared.verdict.TraceCause.TheVariants as causes
use Rattle.trace_read.specs.Lines.{HasLine}
use Rattle.trace_read.specs.Said.{said_of, said_of_answer}
use Rattle.trace_replay.specs.Lists.{Lists as Table}
use Rattle.trace_replay.specs.Shown.{Shows}

-- ---- a line more

abbrev pub Pushes : Type 0
Pushes = (w : Setting) (events : List Event) (e : Event) → Legal w events → Allowed w events e → Legal w (events ++ e ∷ [])

zip_push : {A B : Type 0} (R : A → B → Type 0) (xs : List A) (ys : List B) (x : A) (y : B) → AllZip R xs ys → R x y → AllZip R (xs ++ x ∷ []) (ys ++ y ∷ [])
zip_push R [] [] x y are of = (of, tt)
zip_push R [] (b ∷ ys) x y are of = absurd are
zip_push R (a ∷ xs) [] x y are of = absurd are
zip_push R (a ∷ xs) (b ∷ ys) x y are of = (are.0, zip_push R xs ys x y are.1 of)

pub one_more : Pushes → (w : Setting) (lines : List (List ℕ)) (line : List ℕ) (l new : Table) → AreTaken w lines l
    → ((past : List Event) → Shows past l → IsPassed w past line new) → AreTaken w (lines ++ line ∷ []) new
one_more push w lines line l new are passes =
    let p = passes are.events are.shows in
    record {
      events = are.events ++ p.taken.event ∷ [];
      says = record {
        said = zip_push (λ (line : List ℕ) (e : Event). HasLine line (said_of e)) lines are.events line p.taken.event are.says.said (subst (HasLine line) (sym p.taken.is) p.has);
        legal = push w are.events p.taken.event are.says.legal p.taken.may;
      };
      shows = p.taken.shows;
    }

-- ---- a line that is refused

around : {X : Type 0} (xs : List X) (k : ℕ) (x : X) → k < length xs → x ≡ get_or xs k x → xs ≡ take k xs ++ x ∷ drop (k + 1) xs
around xs k x inside is =
    sym (take-append-drop k xs) ∙ ap (λ ys. take k xs ++ ys) (drop-cons xs k x inside ∙ ap (λ n. get_or xs k x ∷ drop n xs) (sym (add-one k))) ∙ ap (λ y. take k xs ++ y ∷ drop (k + 1) xs) (sym is)

pub stops : (w : Setting) (lines : List (List ℕ)) (k : ℕ) (line : List ℕ) (l new : Table) (cause : TraceCause) → k < length lines → line ≡ get_or lines k line
    → AreTaken w (take k lines) l → ((past : List Event) → Shows past l → IsChecked w past line new (Some cause))
    → (t : Lines) → t.events ≡ lines → Judged w t (at (k + 1) cause)
stops w lines k line l new cause inside is are checks t same =
    let front : length (take k lines) ≡ k = grind (arith, common_steps) in
    subst (λ n. Judged w t (at (n + 1) cause)) front (by cause (checks are.events are.shows))
  where
    by : (cause : TraceCause) → IsChecked w are.events line new (Some cause) → Judged w t (at (length (take k lines) + 1) cause)
    by causes.NotALine none = no_line (take k lines) (drop (k + 1) lines) line are.events (same ∙ around lines k line inside is) are.says none
    by causes.Illegal (inl none) = not_allowed (take k lines) (drop (k + 1) lines) line are.events (same ∙ around lines k line inside is) are.says none
    by causes.Illegal (inr left) = undecided (take k lines) (drop (k + 1) lines) line are.events (same ∙ around lines k line inside is) are.says left
    by causes.NotWhole none = absurd none
    by causes.NoEnd none = absurd none

pub fails_at : (w : Setting) (lines : List (List ℕ)) (k : ℕ) (line : List ℕ) (l : Table) (path : List ℕ) → k < length lines → line ≡ get_or lines k line
    → AreTaken w (take k lines) l → ((past : List Event) → Shows past l → MayFailIn w past line path) → (t : Lines) → t.events ≡ lines → MayFailAt w t path
fails_at w lines k line l path inside is are fails t same = record {
  before = take k lines;
  behind = drop (k + 1) lines;
  line = line;
  events = are.events;
  are = same ∙ around lines k line inside is;
  says = are.says;
  may = fails are.events are.shows;
}

-- ---- the line of an opening

pub record IsOpening (hart : ℕ) (ask : OpenAsk) (line : OpenLine) (e : Event) : Type 0 where
  pub answer : OpenAnswer
  pub is : e ≡ events.Open hart ask answer
  pub said : said_of_answer answer ≡ line

pub opens_so : (hart : ℕ) (ask : OpenAsk) (line : OpenLine) (e : Event) → said_of e ≡ lines.Open hart ask line → IsOpening hart ask line e
opens_so hart ask line (events.Open h a answer) same =
    let s : lines.Open h a (said_of_answer answer) ≡ lines.Open hart ask line = same in
    let harts : h ≡ hart = cc in
    let asks : a ≡ ask = cc in
    let said : said_of_answer answer ≡ line = cc in
    record { answer = answer; is = ap (λ n. events.Open n a answer) harts ∙ ap (λ b. events.Open hart b answer) asks; said = said }
opens_so hart ask line (events.Close h handle answer) same = let s : lines.Close h handle answer ≡ lines.Open hart ask line = same in absurd cc
opens_so hart ask line (events.Unmapped h set) same = let s : lines.Unmapped h set ≡ lines.Open hart ask line = same in absurd cc
opens_so hart ask line (events.Grant grant h owner slot choice value) same = let s : lines.Grant grant h owner slot choice value ≡ lines.Open hart ask line = same in absurd cc
opens_so hart ask line (events.Bound grant) same = let s : lines.Bound grant ≡ lines.Open hart ask line = same in absurd cc
opens_so hart ask line (events.Lost grant saw) same = let s : lines.Lost grant saw ≡ lines.Open hart ask line = same in absurd cc
opens_so hart ask line (events.Unresolved h owner slot choice) same = let s : lines.Unresolved h owner slot choice ≡ lines.Open hart ask line = same in absurd cc
opens_so hart ask line (events.Sym h asked answer) same = let s : lines.Sym h asked answer ≡ lines.Open hart ask line = same in absurd cc
opens_so hart ask line (events.Tls h owner address) same = let s : lines.Tls h owner address ≡ lines.Open hart ask line = same in absurd cc
opens_so hart ask line (events.Init h object) same = let s : lines.Init h object ≡ lines.Open hart ask line = same in absurd cc
opens_so hart ask line (events.Fini h object) same = let s : lines.Fini h object ≡ lines.Open hart ask line = same in absurd cc
opens_so hart ask line (events.Wrote h bytes) same = let s : lines.Wrote h bytes ≡ lines.Open hart ask line = same in absurd cc
opens_so hart ask line (events.Told h fault) same = let s : lines.Told h fault ≡ lines.Open hart ask line = same in absurd cc
opens_so hart ask line (events.Ended h reason) same = let s : lines.Ended h reason ≡ lines.Open hart ask line = same in absurd cc

-- ---- lines and events

pub as_many : {A B : Type 0} (R : A → B → Type 0) (xs : List A) (ys : List B) → AllZip R xs ys → length xs ≡ length ys
as_many R [] [] are = refl
as_many R [] (y ∷ ys) are = absurd are
as_many R (x ∷ xs) [] are = absurd are
as_many R (x ∷ xs) (y ∷ ys) are = ap (λ n. suc n) (as_many R xs ys are.1)

pub some_in : {A : Type 0} (P : A → Type 0) (o : Option A) (x : A) → o ≡ Some x → IfSome o P → P x
some_in P (Some y) x e p = (let same : y ≡ x = cc in subst P same p)
some_in P None x e p = let d : None ≡ Some x = e in absurd cc

pub none_legal : (w : Setting) → Legal w []
unfolding Legal
none_legal w k e here = let d : None ≡ Some e = here in absurd cc

-- ---- lists of what lines are lent by

pub got_mapped : {A : Type 0} (f : A → List ℕ) (xs : List A) (k : ℕ) (d : A) (e : List ℕ) → k < length xs → f (get_or xs k d) ≡ get_or (map f xs) k e
got_mapped f xs k d e inside = grind (arith, common_steps)

pub line_more : {A : Type 0} (f : A → List ℕ) (xs : List A) (k : ℕ) (d : A) → k < length xs → take k (map f xs) ++ f (get_or xs k d) ∷ [] ≡ take (k + 1) (map f xs)
line_more f xs k d inside =
    let within : k < length (map f xs) = omega (arith, inside, length-map xs f) in
    ap (λ x. take k (map f xs) ++ x ∷ []) (got_mapped f xs k d (f d) inside) ∙ sym (take_more (map f xs) k (f d) within)

pub err_in : {A E : Type 0} (P : E → Type 0) (r : Result A E) (x : E) → r ≡ Err x → IfErr r P → P x
err_in P (Err y) x e p = (let same : y ≡ x = cc in subst P same p)
err_in {A} P (Ok a) x e p = let d : Ok a ≡ Err x = e in absurd cc
