-- Events of nobody settle grants: whole ways stay so over them.
use Rattle.std.proofs.Common.{◌≡◌, ℕ, suc, ◌+◌, ◌<◌, List, [], ◌∷◌, ◌++◌, length, length-append, Option, None, Some, refl, sym, ap, subst, ◌∙◌, append-nil, arith}
use Rattle.std.specs.List.{slice_get}
use Rattle.std.proofs.lemmas.Option.{slice_get_within}
use Rattle.history_event.specs.declared.event.Event.{Event}
use Rattle.history_event.specs.declared.event.Event.TheVariants as events
use Rattle.history_event.specs.declared.state.Standing.{Standing}
use Rattle.history_event.specs.declared.state.Standing.TheVariants.{Bound, Lost}
use Rattle.history_state.specs.After.{after}
use Rattle.history_state.specs.Lemmas.History.{after_push, one_behind}
use Rattle.history_state.specs.Lemmas.Lists.{here, later}
use Rattle.history_state.specs.Lemmas.Tidy.{in_at}
use Rattle.history_state.specs.Setting.{Setting, have_exited}
use Rattle.history_state.specs.State.{State}
use Rattle.history_state.specs.Step.{settle, step}
use Rattle.history_calls.specs.Laws.{hart_of}
use Rattle.hart_moves.specs.Moves.{all_finis}
use Rattle.hart_trails.specs.Owners.{AreNobodys}
use Rattle.hart_threads.specs.Laws.{RestIsNobodys, WaysStay, WaysStayBehind}

-- ---- the end of a run is as it was

record SameEnd (w : Setting) (s t : State) : Type 0 where
  exits : have_exited w t ≡ have_exited w s
  left : all_finis t ≡ all_finis s

settled_end : (w : Setting) (s : State) (number : ℕ) (standing : Standing) → SameEnd w s (settle number standing s)
settled_end w s number standing = record { exits = refl; left = refl }

nobodys_end : (w : Setting) (s : State) (e : Event) → hart_of e ≡ None → SameEnd w s (step s e)
nobodys_end w s (events.Bound number) none = settled_end w s number Bound
nobodys_end w s (events.Lost number saw) none = settled_end w s number (Lost saw)
nobodys_end w s (events.Open hart ask answer) none = absurd (let no : Some hart ≡ None = none in cc)
nobodys_end w s (events.Close hart handle answer) none = absurd (let no : Some hart ≡ None = none in cc)
nobodys_end w s (events.Unmapped hart set) none = absurd (let no : Some hart ≡ None = none in cc)
nobodys_end w s (events.Grant number hart owner slot choice value) none = absurd (let no : Some hart ≡ None = none in cc)
nobodys_end w s (events.Unresolved hart owner slot choice) none = absurd (let no : Some hart ≡ None = none in cc)
nobodys_end w s (events.Sym hart ask answer) none = absurd (let no : Some hart ≡ None = none in cc)
nobodys_end w s (events.Tls hart owner address) none = absurd (let no : Some hart ≡ None = none in cc)
nobodys_end w s (events.Init hart object) none = absurd (let no : Some hart ≡ None = none in cc)
nobodys_end w s (events.Fini hart object) none = absurd (let no : Some hart ≡ None = none in cc)
nobodys_end w s (events.Wrote hart bytes) none = absurd (let no : Some hart ≡ None = none in cc)
nobodys_end w s (events.Told hart fault) none = absurd (let no : Some hart ≡ None = none in cc)
nobodys_end w s (events.Ended hart reason) none = absurd (let no : Some hart ≡ None = none in cc)

all_end : (w : Setting) (journal more : List Event) → AreNobodys more → SameEnd w (after journal) (after (journal ++ more))
all_end w journal [] nobodys = subst (λ (es : List Event). SameEnd w (after journal) (after es)) (sym (append-nil journal)) (record { exits = refl; left = refl })
all_end w journal (e ∷ rest) nobodys =
    let one : SameEnd w (after journal) (after (journal ++ e ∷ [])) = subst (SameEnd w (after journal)) (sym (after_push journal e)) (nobodys_end w (after journal) e (nobodys e (here e rest))) in
    let more : SameEnd w (after (journal ++ e ∷ [])) (after ((journal ++ e ∷ []) ++ rest)) = all_end w (journal ++ e ∷ []) rest (λ d there. nobodys d (later e rest d there)) in
    subst (λ (es : List Event). SameEnd w (after journal) (after es)) (one_behind journal e rest) (record { exits = more.exits ∙ one.exits; left = more.left ∙ one.left })

pub stay_behind : WaysStay → WaysStayBehind
stay_behind stay w journal more start h reason trail way nobodys =
    stay w journal more start h reason trail way (λ e there own. let no : None ≡ Some h = sym (nobodys e there) ∙ own in cc)
    (λ first. (all_end w journal more nobodys).exits) (λ first. (all_end w journal more nobodys).left)

-- ---- what is nobody's

behind_get : (past more : List Event) (k : ℕ) → slice_get (past ++ more) (length past + k) ≡ slice_get more k
behind_get [] more k = let same : 0 + k ≡ k = omega arith in ap (slice_get more) same
behind_get (x ∷ past) more k = let same : length (x ∷ past) + k ≡ suc (length past + k) = omega arith in ap (slice_get (x ∷ (past ++ more))) same ∙ behind_get past more k

pub rest_is_nobodys : RestIsNobodys
rest_is_nobodys w journal more own none e there = by (hart_of e) refl
  where
    by : (o : Option ℕ) → hart_of e ≡ o → o ≡ None
    by None is = refl
    by (Some h) is =
        let at = in_at more e there in
        let low : at.0 < length more = slice_get_within more at.0 e at.1 in
        let long : length (journal ++ more) ≡ length journal + length more = length-append journal more in
        absurd (none h (own e h there is) (length journal + at.0) e (omega arith) (omega (arith, low, long)) (behind_get journal more at.0 ∙ at.1) is)
