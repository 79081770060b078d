-- Counts of one turn after another.
use Rattle.std.proofs.Common.{◌≡◌, inl, inr, ℕ, ◌+◌, Bool, cond, List, [], ◌∷◌, ◌++◌, length, refl, sym, ap, subst, ◌∙◌, append_assoc, arith}
use Rattle.std.specs.Prelude.{drop, count_by}
use Rattle.std.proofs.lemmas.List.Sums.{sum_by-append}
use Rattle.history_event.specs.declared.event.Event.{Event}
use Rattle.library_source.specs.Count.{RisesBy}
use Rattle.history_calls.specs.Laws.{is_read_fault}
use Rattle.world_turns.specs.Counts.{CountsJoin, NoneIsInvented, NothingShows, RunsShowInCounts, ShowInCounts, is_missed, is_refused_for}

rises_on : (one other old between new : ℕ) → RisesBy one old between → RisesBy other between new → RisesBy (one + other) old new
rises_on one other old between new (inl a) (inl b) = inl (omega (arith, a, b))
rises_on one other old between new (inl a) (inr b) = inr b
rises_on one other old between new (inr a) (inl b) = inr (omega (arith, a, b))
rises_on one other old between new (inr a) (inr b) = inr b

rises_over : (p : Event → Bool) (one other : List Event) (old between new : ℕ) → RisesBy (count_by p one) old between → RisesBy (count_by p other) between new → RisesBy (count_by p (one ++ other)) old new
rises_over p one other old between new a b =
    subst (λ (n : ℕ). RisesBy n old new) (sym (sum_by-append (λ (e : Event). cond (p e) 1 0) one other)) (rises_on (count_by p one) (count_by p other) old between new a b)

pub counts_join : CountsJoin
counts_join folders one other old between new a b = record {
  faults = rises_over (is_refused_for is_read_fault) one other old.faults between.faults new.faults a.faults b.faults;
  misses = rises_over (is_refused_for (is_missed folders)) one other old.misses between.misses new.misses a.misses b.misses;
}

behind : (front rest : List Event) → drop (length front) (front ++ rest) ≡ rest
behind [] rest = refl
behind (e ∷ front) rest = behind front rest

more_of : (front all rest : List Event) → all ≡ front ++ rest → drop (length front) all ≡ rest
more_of front all rest is = ap (λ (es : List Event). drop (length front) es) is ∙ behind front rest

pub runs_show : RunsShowInCounts
runs_show w begun between ended one other old middle new first second a b =
    subst (λ (es : List Event). ShowInCounts w.folders es old new) (sym (more_of begun.journal ended.journal (one ++ other) whole))
    (counts_join w.folders one other old middle new
    (subst (λ (es : List Event). ShowInCounts w.folders es old middle) (more_of begun.journal between.journal one first) a)
    (subst (λ (es : List Event). ShowInCounts w.folders es middle new) (more_of between.journal ended.journal other second) b))
  where
    whole : ended.journal ≡ begun.journal ++ (one ++ other)
    whole = second ∙ ap (λ (es : List Event). es ++ other) first ∙ append_assoc begun.journal one other

same_rises : (n : ℕ) → RisesBy 0 n n
same_rises n = inl (omega arith)

pub nothing_shows : NothingShows
nothing_shows folders counts = record { faults = same_rises counts.faults; misses = same_rises counts.misses }

pub none_invented : NoneIsInvented
none_invented folders e old new is before after shows = by (subst (λ (t : Bool). RisesBy (0 + cond t 1 0) old.faults new.faults) is shows.faults)
  where
    by : RisesBy 1 old.faults new.faults → ⊥
    by (inl a) = omega (arith, a, before, after)
    by (inr a) = omega (arith, a, after)
