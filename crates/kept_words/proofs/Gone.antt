-- What went stays gone while events come that take nothing away.
use Rattle.std.proofs.Common.{◌≡◌, ℕ, true, List, [], ◌∷◌, ◌++◌, append-nil, length, refl, sym, ap, subst, ◌∙◌, append_assoc}
use Rattle.std.proofs.lemmas.Bool.{false≢true}
use Rattle.std.specs.List.{Contains}
use Rattle.ld_base.specs.declared.linking.Role.{Role}
use Rattle.history_event.specs.declared.event.Event.{Event}
use Rattle.history_event.specs.declared.event.Event.TheVariants as events
use Rattle.history_event.specs.declared.event.Range.{Range}
use Rattle.word_rule.specs.declared.view.KeeperView.{KeeperView}
use Rattle.word_rule.specs.declared.view.Retired.{Retired}
use Rattle.word_rule.specs.Layout.{place_of}
use Rattle.word_rule.specs.Views.{kept_at}
use Rattle.history_state.specs.After.{after}
use Rattle.history_state.specs.Changes.{taken}
use Rattle.history_state.specs.Step.{step}
use Rattle.history_state.specs.Memory.{role_at}
use Rattle.history_state.specs.State.{State}
use Rattle.history_state.specs.Lemmas.Lists.{here, later, none_in}
use Rattle.kept_words.specs.Gone.{AllGo, AreGone, GoInOrder, Goes, HaveGone, IsOfOther, IsOfSlot, OnlyGo}
use Rattle.kept_words.specs.Staying.{leaves_memory}

none_go : (ranges : List Range) (generation number : ℕ) → GoInOrder ranges generation number []
none_go ranges generation number = record { slots = []; others = []; are = refl; first = λ x there. absurd (none_in x there); next = λ x there. absurd (none_in x there) }

all_of_none : (role : ℕ → Role) (ranges : List Range) (gone : List Retired) → ranges ≡ [] → AllGo role ranges gone
all_of_none role ranges gone none a covered some = absurd (none_in covered.range (subst (λ (rs : List Range). Contains rs covered.range) none covered.there))

only_none : (role : ℕ → Role) → OnlyGo role []
only_none role = record { some = λ x there. absurd (none_in x there); had = λ x a there. absurd (none_in x there); once = tt }

pub goes_none : (ranges : List Range) (generation : ℕ) (k l : KeeperView) → ranges ≡ [] → l.retired ≡ k.retired → Goes ranges generation k l
goes_none ranges generation k l none same = record {
  more = [];
  are = same ∙ sym (append-nil k.retired);
  in_order = none_go ranges generation (length k.events);
  all = all_of_none (λ a. (kept_at k (place_of a)).role) ranges [] none;
  only = only_none (λ a. (kept_at k (place_of a)).role);
  words = λ x a there. absurd (none_in x there);
}

-- where there are no ranges nothing went
pub goes_nowhere : (ranges : List Range) (generation : ℕ) (k l : KeeperView) → ranges ≡ [] → Goes ranges generation k l → l.retired ≡ k.retired
goes_nowhere ranges generation k l none goes = goes.are ∙ ap (λ (more : List Retired). k.retired ++ more) (goes.in_order.are ∙ both goes.in_order.slots goes.in_order.others goes.in_order.first goes.in_order.next)
    ∙ append-nil k.retired
  where
    no_range : (r : Range) → Contains ranges r → ⊥
    no_range r there = none_in r (subst (λ (rs : List Range). Contains rs r) none there)

    nobody : (which : Role → Type 0) (gone : List Retired) → AreGone which ranges generation (length k.events) gone → gone ≡ []
    nobody which [] went = refl
    nobody which (x ∷ gone) went = let covered = (went x (here x gone)).1.1 in absurd (no_range covered.range covered.there)

    both : (slots others : List Retired) → AreGone IsOfSlot ranges generation (length k.events) slots → AreGone IsOfOther ranges generation (length k.events) others → slots ++ others ≡ []
    both slots others first next = ap (λ (front : List Retired). front ++ others) (nobody IsOfSlot slots first) ∙ nobody IsOfOther others next

-- an event that takes nothing is counted
pub gone_beside : (past : List Event) (e : Event) (gone : List Retired) → taken (after past) e ≡ [] → HaveGone past gone → HaveGone (past ++ e ∷ []) gone
gone_beside past e gone none have = subst (HaveGone (past ++ e ∷ [])) (append-nil gone) (HaveGone.by_event past e gone [] have (record {
  in_order = none_go (taken (after past) e) (step (after past) e).generation (length past);
  all = all_of_none (role_at (after past)) (taken (after past) e) [] none;
  only = only_none (role_at (after past));
  words = λ x a there. absurd (none_in x there);
}))

-- events that leave memory take nothing
pub leaves_none : (s : State) (e : Event) → leaves_memory e ≡ true → taken s e ≡ []
leaves_none s (events.Unmapped hart set) leaves = absurd (false≢true leaves)
leaves_none s (events.Open hart ask answer) leaves = refl
leaves_none s (events.Close hart handle answer) leaves = refl
leaves_none s (events.Grant number hart owner slot choice value) leaves = refl
leaves_none s (events.Bound number) leaves = refl
leaves_none s (events.Lost number saw) leaves = refl
leaves_none s (events.Unresolved hart owner slot choice) leaves = refl
leaves_none s (events.Sym hart ask answer) leaves = refl
leaves_none s (events.Tls hart owner address) leaves = refl
leaves_none s (events.Init hart object) leaves = refl
leaves_none s (events.Fini hart object) leaves = refl
leaves_none s (events.Wrote hart bytes) leaves = refl
leaves_none s (events.Told hart fault) leaves = refl
leaves_none s (events.Ended hart reason) leaves = refl

-- several of them are
pub gone_behind : (past more : List Event) (gone : List Retired) → ((e : Event) → Contains more e → leaves_memory e ≡ true) → HaveGone past gone → HaveGone (past ++ more) gone
gone_behind past [] gone quiet have = subst (λ (es : List Event). HaveGone es gone) (sym (append-nil past)) have
gone_behind past (e ∷ more) gone quiet have =
    subst (λ (es : List Event). HaveGone es gone) (append_assoc past (e ∷ []) more)
    (gone_behind (past ++ e ∷ []) more gone (λ x there. quiet x (later e more x there)) (gone_beside past e gone (leaves_none (after past) e (quiet e (here e more))) have))
