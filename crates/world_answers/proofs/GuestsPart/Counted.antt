-- A turn shows in a library's counts what its opening does.
use Rattle.std.proofs.Common.{◌≡◌, ℕ, ◌<◌, Bool, true, false, cond, List, [], ◌∷◌, ◌++◌, length, Some, refl, sym, ap, subst, ◌∙◌, append_assoc, arith}
use Rattle.std.specs.Prelude.{nat_lt}
use Rattle.std.specs.List.{AllByRecursion}
use Rattle.std.proofs.lemmas.Bool.{ltb-true}
use Rattle.ld_base.specs.declared.fault.DlFault.{DlFault}
use Rattle.history_event.specs.declared.event.Event.{Event}
use Rattle.history_event.specs.declared.event.Event.TheVariants as events
use Rattle.history_event.specs.declared.event.OpenAnswer.TheVariants as openings
use Rattle.history_event.specs.declared.event.OpenAsk.{OpenAsk}
use Rattle.history_state.specs.After.{after}
use Rattle.history_calls.specs.Call.{opens}
use Rattle.history_calls.specs.CallLaws.Counts.{ArePaths, ShowsInCounts}
use Rattle.history_state.specs.Setting.{Setting}
use Rattle.hart_moves.specs.Due.{Due, Return, due}
use Rattle.hart_moves.specs.Moves.{events_of, settles}
use Rattle.world_turns.proofs.Counting.{counts_join}
use Rattle.world_turns.specs.Counts.{Counts}
use Rattle.world_turns.specs.Run.{settled}
use Rattle.world_turns.specs.Turn.{Turn}
use Rattle.world_turns.specs.World.{World, found_journal, settling}
use Rattle.world_answers.specs.GuestsPart.Counting.{IsCounted, IsShown, Rise, TurnsAreCounted}
use Rattle.world_answers.specs.GuestsPart.Next.{NextRefusalIsCounted}
use Rattle.world_answers.specs.GuestsPart.Lemmas.Counting.{both_shown, both_spare, none_counted, refusal_shows, same_counts, settling_spares, spare_counts, spare_shown}
use Rattle.world_answers.proofs.GuestsPart.Refusing.{Refusal, Spare, refusal_of}

-- ---- one refusal

some_of : (n : ℕ) (paths : List (List ℕ)) → length paths ≡ n → nat_lt 0 n ≡ true → 0 < length paths
some_of n paths long some = let more : 0 < n = ltb-true 0 n some in omega (arith, more, long)

one_shown : (folders : List (List ℕ)) (h : ℕ) (ask : OpenAsk) (fault : DlFault) (first last : Counts)
    → ShowsInCounts (ArePaths folders) (Some fault) first.faults last.faults first.misses last.misses
    → AllByRecursion (IsShown folders first last) (events.Open h ask (openings.Refused fault) ∷ [])
one_shown folders h ask fault first last shows = (
  λ other asked why is.
      let same : fault ≡ why = cc in
      subst (λ (f : DlFault). ShowsInCounts (ArePaths folders) (Some f) first.faults last.faults first.misses last.misses) same shows,
  tt,
)

-- ---- a turn

front_spares : (old : World) (s : Bool) → Spare (cond s (settling old.harts) [])
front_spares old true = settling_spares old.harts
front_spares old false = refl

module _ (w : Setting) (h : ℕ) (folders : List (List ℕ)) (old new : World) (first last : Counts) (rise : Rise first last) (t : Turn w h old new)
    (counted : NextRefusalIsCounted folders old new.journal h first.faults last.faults first.misses last.misses) where
  abbrev front : List Event
  front = cond (settles t.did) (settling old.harts) []

  are : new.journal ≡ old.journal ++ (front ++ events_of t.did)
  are = t.journal ∙ append_assoc old.journal front (events_of t.did)

  refused_one : (ask : OpenAsk) (back : Return) (fault : DlFault) → due (after (found_journal old t.did)) t.before ≡ Due.serve (opens ask) back
      → settles t.did ≡ true → events_of t.did ≡ events.Open h ask (openings.Refused fault) ∷ [] → IsCounted folders old new first last
  refused_one ask back fault is settling_is events_are =
      let past : found_journal old t.did ≡ (settled old).journal = ap (λ (s : Bool). old.journal ++ cond s (settling old.harts) []) settling_is in
      let next : due (after (settled old).journal) t.before ≡ Due.serve (opens ask) back =
      ap (λ (es : List Event). due (after es) t.before) (sym past) ∙ is in
      let grown : new.journal ≡ (settled old).journal ++ events.Open h ask (openings.Refused fault) ∷ [] = t.journal ∙ (λ i. past i ++ events_are i) in
      let shows : ShowsInCounts (ArePaths folders) (Some fault) first.faults last.faults first.misses last.misses =
      counted t.before t.there ask back next ask fault grown in
      record {
        appended = front ++ events.Open h ask (openings.Refused fault) ∷ [];
        are = are ∙ ap (λ (es : List Event). old.journal ++ (front ++ es)) events_are;
        each = both_shown folders first last front (events.Open h ask (openings.Refused fault) ∷ [])
            (spare_shown folders first last front (front_spares old (settles t.did))) (one_shown folders h ask fault first last shows);
        all = counts_join folders front (events.Open h ask (openings.Refused fault) ∷ []) first first last
            (spare_counts folders first first front (same_counts first) (front_spares old (settles t.did))) (refusal_shows (ArePaths folders) folders (λ name paths are some. some_of _ paths (ap length are) some) h ask fault first last rise shows);
      }

  by_refusal : Refusal (found_journal old t.did) t.before h t.did → IsCounted folders old new first last
  by_refusal (Refusal.spares spare) = none_counted folders old new first last rise
      (record { appended = front ++ events_of t.did; are = are; none = both_spare front (events_of t.did) (front_spares old (settles t.did)) spare })
  by_refusal (Refusal.refuses ask back fault is settling_is events_are) = refused_one ask back fault is settling_is events_are

pub turn_counted : TurnsAreCounted
turn_counted w h folders old new first last rise t counted =
    by_refusal w h folders old new first last rise t counted (refusal_of w (found_journal old t.did) h t.before t.did t.left t.moves)
