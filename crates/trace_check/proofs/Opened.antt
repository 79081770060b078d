-- Openings that are found, and taken in.
use Rattle.std.proofs.Common.{◌≡◌, inl, inr, ⊎_elim, ℕ, ◌+◌, ◌<◌, [], ◌∷◌, ◌++◌, length, get_or, take, Bool, true, false, List, Option, Some, None, Result, Ok, Err, is_ok, refl, sym, ap, subst, ◌∙◌}
use Rattle.std.specs.Prelude.{IfErr, IfOk, IfSome, IsTrue}
use Rattle.ld_base.specs.declared.linking.File.{File}
use Rattle.history_event.specs.declared.event.Event.{Event}
use Rattle.history_event.specs.declared.event.OpenAsk.{OpenAsk}
use Rattle.history_event.specs.declared.event_line.EventLine.{EventLine}
use Rattle.history_event.specs.declared.event_line.EventLine.TheVariants as lines
use Rattle.history_event.specs.declared.event_line.OpenLine.{OpenLine}
use Rattle.history_event.specs.declared.handed.Opening.{Opening}
use Rattle.history_state.specs.Allowed.{Allowed}
use Rattle.trace_check.specs.Rows.{AreTaken, ComesOf, FindsNone, IsChecked, IsDoubtOf, IsOfLine, MayBeTaken, StopsIn, TakesFound, refusal_of}
use Rattle.trace_check.specs.Judged.{IsUndecided, Judged, at}
use Rattle.trace_check.specs.declared.verdict.CheckFault.{CheckFault}
use Rattle.trace_check.specs.declared.verdict.CheckFault.TheVariants as faults
use Rattle.trace_check.specs.declared.verdict.TraceCause.{TraceCause}
use Rattle.history_state.specs.Setting.{Setting}
use Rattle.trace_opens.specs.OpeningRows.Expected.{FindsEach, IsExpectedOpening, LacksFiles, MayFailSo, MayOpenSo, trace_run}
use Rattle.trace_opens.specs.declared.failed_paths.judging.Doubt.{Doubt}
use Rattle.trace_opens.specs.declared.failed_paths.judging.Doubt.TheVariants as doubts
use Rattle.trace_read.specs.Lines.{HasLine}
use Rattle.trace_read.specs.Said.{said_of}
use Rattle.trace_replay.specs.Lists.{Lists}
use Rattle.trace_replay.specs.Shown.{Shows}
use Rattle.trace_replay.specs.Taken.{event_of}
use Rattle.trace_check.proofs.Taken.{Pushes, fails_at, none_legal, one_more, opens_so, some_in, stops}

abbrev pub Found : Type 0
Found = Result (Option Opening) Doubt

abbrev found_so : Option Opening → Found
found_so o = Ok o

same_found : (a b : Option Opening) → found_so a ≡ found_so b → a ≡ b
same_found a b e = cc

module _ (l new : Lists) (folders : List (List ℕ)) (files : Option (List File)) (hart : ℕ) (ask : OpenAsk) (line : OpenLine) where
  abbrev pub AreExpected : Found → Type 0
  AreExpected r = IfOk r (λ found. (past : List Event) → Shows past l → IsExpectedOpening (trace_run l.harts folders files) past hart ask line found)

  pub may_be_taken : (r : Found) → AreExpected r → IfOk r (λ found. IfSome found (MayBeTaken l))
  may_be_taken (Ok (Some o)) x = record {
    follows = λ past shows. record { setting = trace_run l.harts folders files; machine = refl; may = (x past shows).may.may };
    chosen = λ past shows. (x past shows).may.chosen;
  }
  may_be_taken (Ok None) x = tt
  may_be_taken (Err doubt) x = tt

  pub opened_comes : (said : EventLine) (r : Found) (res : Result Bool Doubt) → said ≡ lines.Open hart ask line → AreExpected r → IfOk res (λ may. is_ok r ≡ true) → IfOk res (λ may. IsTrue may → TakesFound r said l new)
      → IfOk res (λ may. may ≡ false → FindsNone r said) → IfOk res (λ may. (past : List Event) → Shows past l → ComesOf (trace_run l.harts folders files) past said new may)
  opened_comes said r (Err doubt) is x sure good bad = tt
  opened_comes said (Err doubt) (Ok may) is x sure good bad = absurd (let d : false ≡ true = sure in cc)
  opened_comes said (Ok found) (Ok true) is x sure good bad = λ past shows.
      let t = good refl in
      let may : MayOpenSo (trace_run l.harts folders files) past t.opening = some_in (MayOpenSo (trace_run l.harts folders files) past) found t.opening (same_found found (Some t.opening) t.is) (x past shows).may in
      record { event = event_of t.opening; is = t.same; may = may.may; shows = t.takes past shows }
  opened_comes said (Ok found) (Ok false) is x sure good bad = λ past shows. ⊎_elim
      (λ (all : FindsEach (trace_run l.harts folders files) past hart ask line found). inl (λ e same allowed.
      let o = opens_so hart ask line e (same ∙ is) in
      let f = all o.answer o.said (subst (Allowed (trace_run l.harts folders files) past) o.is allowed) in
      bad refl f.opening (ap found_so f.is) (ap said_of (f.same ∙ sym o.is) ∙ same)))
      (λ (lacks : LacksFiles (trace_run l.harts folders files) past hart ask). inr (λ words has. record { hart = hart; ask = ask; answer = line; has = subst (HasLine words) is has; lacks = lacks }))
      (x past shows).only

-- ---- a line that is read

refused : (l new : Lists) (folders : List (List ℕ)) (files : Option (List File)) (line : List ℕ) (said : EventLine) (r : Result Bool Doubt) → HasLine line said
    → IfOk r (λ may. (past : List Event) → Shows past l → ComesOf (trace_run l.harts folders files) past said new may)
    → IfOk (refusal_of r) (λ cause. (past : List Event) → Shows past l → IsChecked (trace_run l.harts folders files) past line new cause)
refused l new folders files line said (Ok true) has x = λ past shows. record { said = said; has = has; taken = x past shows }
refused l new folders files line said (Ok false) has x = λ past shows. ⊎_elim
    (λ (none : (e : Event) → said_of e ≡ said → ¬ (Allowed (trace_run l.harts folders files) past e)). inl (record { said = said; has = has; none = none }))
    (λ (left : (words : List ℕ) → HasLine words said → IsUndecided (trace_run l.harts folders files) past words). inr (left line has))
    (x past shows)
refused l new folders files line said (Err doubt) has x = tt

pub line_checked : (l new : Lists) (folders : List (List ℕ)) (files : Option (List File)) (line : List ℕ) (said : EventLine) (r : Result Bool Doubt) (m : Result (Option TraceCause) Doubt) → HasLine line said
    → m ≡ refusal_of r → IfOk r (λ may. (past : List Event) → Shows past l → ComesOf (trace_run l.harts folders files) past said new may)
    → IfOk m (λ cause. (past : List Event) → Shows past l → IsChecked (trace_run l.harts folders files) past line new cause)
line_checked l new folders files line said r m has is x =
    subst (λ m. IfOk m (λ cause. (past : List Event) → Shows past l → IsChecked (trace_run l.harts folders files) past line new cause)) (sym is) (refused l new folders files line said r has x)

-- ---- a read that fails

-- the doubt is that of another result, or want of memory
pub err_of : {A B : Type 0} (P : Doubt → Type 0) → P doubts.Memory → (before : Result A Doubt) (r : Result B Doubt)
    → IfErr r (λ doubt. (failed : List ℕ) → doubt ≡ doubts.ReadFault failed → before ≡ Err (doubts.ReadFault failed)) → IfErr before P → IfErr r P
err_of P memory before (Ok b) is p = tt
err_of P memory before (Err doubts.Memory) is p = memory
err_of P memory before (Err (doubts.ReadFault path)) is p = subst (λ x. IfErr x P) (is path refl) p

pub doubted_in : (w : Setting) (past : List Event) (hart : ℕ) (ask : OpenAsk) (answer : OpenLine) (line : List ℕ) → HasLine line (lines.Open hart ask answer) → (doubt : Doubt)
    → MayFailSo w past hart ask doubt → IsDoubtOf w past line doubt
doubted_in w past hart ask answer line has (doubts.ReadFault path) may = record { hart = hart; ask = ask; answer = answer; has = has; may = may }
doubted_in w past hart ask answer line has doubts.Memory may = tt

pub if_err : {A E : Type 0} {P Q : E → Type 0} (r : Result A E) → ((e : E) → P e → Q e) → IfErr r P → IfErr r Q
if_err (Ok a) f p = tt
if_err (Err e) f p = f e p

refused_doubt : (P : Doubt → Type 0) (r : Result Bool Doubt) → IfErr r P → IfErr (refusal_of r) P
refused_doubt P (Ok true) p = tt
refused_doubt P (Ok false) p = tt
refused_doubt P (Err doubt) p = p

pub line_doubted : (P : Doubt → Type 0) (r : Result Bool Doubt) (m : Result (Option TraceCause) Doubt) → m ≡ refusal_of r → IfErr r P → IfErr m P
line_doubted P r m is p = subst (λ x. IfErr x P) (sym is) (refused_doubt P r p)

-- ---- a line more, and one at which it stops

abbrev Checks : ℕ → List (List ℕ) → Option (List File) → List ℕ → Lists → Lists → Result (Option TraceCause) Doubt → Type 0
Checks harts folders files line l new r = IfOk r (λ cause. (past : List Event) → Shows past l → IsChecked (trace_run harts folders files) past line new cause)

moved : (folders : List (List ℕ)) (h g : ℕ) (files told : Option (List File)) (line : List ℕ) (l new : Lists) (r : Result (Option TraceCause) Doubt) → g ≡ h → told ≡ files → Checks g folders told line l new r → Checks h folders files line l new r
moved folders h g files told line l new r harts same x = subst (λ fs. Checks h folders fs line l new r) same (subst (λ n. Checks n folders told line l new r) harts x)

abbrev Doubts : ℕ → List (List ℕ) → Option (List File) → List ℕ → Lists → Result (Option TraceCause) Doubt → Type 0
Doubts harts folders files line l r = IfErr r (λ doubt. (past : List Event) → Shows past l → IsDoubtOf (trace_run harts folders files) past line doubt)

pub line_taken : Pushes → (folders : List (List ℕ)) (h g : ℕ) (files told : Option (List File)) → g ≡ h → told ≡ files → (lines : List (List ℕ)) (line : List ℕ) (l new : Lists) → AreTaken (trace_run h folders files) lines l
    → (r : Result (Option TraceCause) Doubt) → r ≡ Ok None → Checks g folders told line l new r → AreTaken (trace_run h folders files) (lines ++ line ∷ []) new
line_taken push folders h g files told harts same lines line l new are r is x =
    one_more push (trace_run h folders files) lines line l new are (subst (λ r. Checks h folders files line l new r) is (moved folders h g files told line l new r harts same x))

pub line_stops : (folders : List (List ℕ)) (h g : ℕ) (files told : Option (List File)) → g ≡ h → told ≡ files → (lines : List (List ℕ)) (k : ℕ) (line : List ℕ) (l new : Lists) → k < length lines → line ≡ get_or lines k line
    → AreTaken (trace_run h folders files) (take k lines) l → (r : Result (Option TraceCause) Doubt) → Checks g folders told line l new r → Doubts g folders told line l r → (fault : CheckFault) → IsOfLine (k + 1) r fault
    → StopsIn (trace_run h folders files) lines fault
line_stops folders h g files told harts same lines k line l new inside is are r x doubted (faults.At n cause) of t lines_are =
    subst (λ m. Judged (trace_run h folders files) t (at m cause)) (sym of.0)
    (stops (trace_run h folders files) lines k line l new cause inside is are (subst (λ r. Checks h folders files line l new r) of.1 (moved folders h g files told line l new r harts same x)) t lines_are)
line_stops folders h g files told harts same lines k line l new inside is are r x doubted (faults.ReadFault path) of t lines_are =
    let here : Doubts h folders files line l r = subst (λ fs. Doubts h folders fs line l r) same (subst (λ n. Doubts n folders told line l r) harts doubted) in
    let at : Doubts h folders files line l (Err (doubts.ReadFault path)) = subst (λ r. Doubts h folders files line l r) of here in
    fails_at (trace_run h folders files) lines k line l path inside is are at t lines_are
line_stops folders h g files told harts same lines k line l new inside is are r x doubted faults.Memory of t lines_are = tt

pub none_taken : (w : Setting) (l : Lists) → Shows [] l → AreTaken w [] l
none_taken w l shows = record { events = []; says = record { said = tt; legal = none_legal w }; shows = shows }
