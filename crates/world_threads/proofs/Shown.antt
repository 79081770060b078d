-- What a run's counts show.
use Rattle.std.proofs.Common.{◌≡◌, ◌||◌, ℕ, ◌+◌, ◌≤◌, false, List, [], ◌∷◌, ◌++◌, drop, length, length-append, take, Some, None, refl, sym, ap, subst, ◌∙◌, append-nil, arith}
use Rattle.std.proofs.lemmas.List.{drop-append-le, drop_all, take_all}
use Rattle.std.specs.List.{Contains, list_any}
use Rattle.history_event.specs.declared.event.Event.{Event}
use Rattle.history_event.specs.declared.event.Event.TheVariants as events
use Rattle.history_calls.specs.Laws.{hart_of}
use Rattle.history_state.specs.Lemmas.Lists.{here, later}
use Rattle.link_keeper.specs.Attending.{NobodysCame}
use Rattle.word_rule.specs.Views.{BeginsWith}
use Rattle.world_answers.specs.GuestsPart.Counting.{Rise, is_refusal}
use Rattle.world_answers.specs.GuestsPart.Lemmas.Counting.{spare_counts}
use Rattle.world_turns.specs.Counts.{Counts, CountsJoin, ShowInCounts}

pub rise_itself : (counts : Counts) → Rise counts counts
rise_itself counts = record { faults = omega arith; misses = omega arith }

not_refusal : (e : Event) → hart_of e ≡ None → is_refusal e ≡ false
not_refusal (events.Open hart ask answer) none = absurd (let no : Some hart ≡ None = none in cc)
not_refusal _ none = refl

nobodys_spare : (more : List Event) → ((e : Event) → Contains more e → hart_of e ≡ None) → list_any is_refusal more ≡ false
nobodys_spare [] none = refl
nobodys_spare (e ∷ rest) none = λ i. not_refusal e (none e (here e rest)) i || nobodys_spare rest (λ x there. none x (later e rest x there)) i

-- what came since shows, where nobody's events come behind it
pub still_shown : CountsJoin → (folders : List (List ℕ)) (begun old new : List Event) (first counts : Counts) → BeginsWith old begun → NobodysCame old new
    → ShowInCounts folders (drop (length begun) old) first counts → ShowInCounts folders (drop (length begun) new) first counts
still_shown join folders begun old new first counts begins came shown =
    let short : length begun ≤ length old = (let whole : length old ≡ length begun + length begins.0 = ap length begins.1 ∙ length-append begun begins.0 in omega (arith, whole)) in
    subst (λ (es : List Event). ShowInCounts folders es first counts) (sym (ap (drop (length begun)) came.are ∙ drop-append-le (length begun) old came.more short))
    (join folders (drop (length begun) old) came.more first counts counts shown (spare_counts folders counts counts came.more (rise_itself counts) (nobodys_spare came.more came.nobodys)))

-- the elements that a slice of them all wrote back
pub written : {X : Type 0} (old new : List X) (count : ℕ) → length new ≡ length old → count ≡ length old → take count (new ++ drop (length new) old) ≡ new
written old new count long is =
    ap (λ xs. take count (new ++ xs)) (drop_all (length new) old (omega (arith, long))) ∙ ap (take count) (append-nil new) ∙ take_all count new (omega (arith, long, is))
