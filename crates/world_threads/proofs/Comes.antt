-- What a run comes to that has started, beside what its library counted.
use Rattle.std.proofs.Common.{◌≡◌, ℕ, ◌≤◌, List, [], ◌++◌, drop, length, Option, Result, Ok, Err, IfOk, IfErr, refl, sym, ap, subst, ◌∙◌, arith}
use Rattle.std.proofs.Math.Seq.{drop-append_seam}
use Rattle.ld_base.specs.declared.linking.File.{File}
use Rattle.history_event.specs.declared.event.Event.{Event}
use Rattle.history_calls.specs.CallLaws.Counts.{ShowsInCounts}
use Rattle.history_calls.specs.declared.link_served.startup.Setup.{Setup}
use Rattle.history_calls.specs.declared.link_served.startup.StartFault.{StartFault}
use Rattle.history_calls.specs.declared.link_served.startup.StartFault.TheVariants as starts
use Rattle.history_calls.specs.declared.link_served.startup.Started.{Started}
use Rattle.history_calls.specs.Startup.{Starts}
use Rattle.history_state.specs.Setting.{Setting}
use Rattle.link_startup.specs.Startup.{IsNotStarted, StartsWhereItCan, startup_refusal}
use Rattle.world_answers.specs.GuestsPart.Counting.{Rise}
use Rattle.world_answers.specs.GuestsPart.Lemmas.Counting.{spare_counts}
use Rattle.world_threads.specs.Running.{ComesOf}
use Rattle.world_threads.specs.Threaded.{IsThreaded, left_events}
use Rattle.world_threads.specs.declared.run.Ran.{Ran}
use Rattle.world_answers.specs.GuestsPart.Lemmas.Starts.{started_shows}
use Rattle.world_turns.specs.Counts.{Counts, CountsJoin, ShowInCounts}

module _ (w : Setting) (setup : Setup) (begun : List Event) (between last : Counts) where
  pub ran : (r : Result Ran StartFault) → ComesOf w setup begun between r last → IfOk r (λ x. IsThreaded w setup x.left x.trails)
  ran (Ok x) comes = comes.0
  ran (Err why) comes = tt

  pub refused : (r : Result Ran StartFault) → ComesOf w setup begun between r last → IfErr r (IsNotStarted w setup)
  refused (Ok x) comes = tt
  refused (Err (starts.Refused fault journal)) comes = absurd comes
  refused (Err starts.Memory) comes = tt

  pub whole : (r : Result Ran StartFault) → ComesOf w setup begun between r last → (files : Option (List File)) (failures failures' : ℕ) → StartsWhereItCan setup files failures failures' r
  whole (Ok x) comes files failures failures' = λ told is still can. tt
  whole (Err (starts.Refused fault journal)) comes files failures failures' = absurd comes
  whole (Err starts.Memory) comes files failures failures' = λ told is still can. tt

  pub counted : (r : Result Ran StartFault) → ComesOf w setup begun between r last → (Are : List ℕ → List (List ℕ) → Type 0) (f g m n : ℕ) → ShowsInCounts Are (startup_refusal r) f g m n
  counted (Ok x) comes Are f g m n = record { failed = λ path e. absurd (cc e); missed = λ name e. absurd (cc e) }
  counted (Err (starts.Refused fault journal)) comes Are f g m n = absurd comes
  counted (Err starts.Memory) comes Are f g m n = record { failed = λ path e. absurd (cc e); missed = λ name e. absurd (cc e) }

  pub rises : (r : Result Ran StartFault) → ComesOf w setup begun between r last → Rise between last
  rises (Ok x) comes = comes.3
  rises (Err (starts.Refused fault journal)) comes = absurd comes
  rises (Err starts.Memory) comes = record { faults = (let same : last ≡ between = comes in subst (λ (c : Counts). between.faults ≤ c.faults) (sym same) (omega arith)); misses = (let same : last ≡ between = comes in subst (λ (c : Counts). between.misses ≤ c.misses) (sym same) (omega arith)) }

  -- startup's counts first, and then the run's
  pub shows : CountsJoin → (started : Started) (first : Counts) → Rise first between → Starts w setup begun started → w.folders ≡ setup.folders
      → (r : Result Ran StartFault) → ComesOf w setup begun between r last → ShowInCounts setup.folders (left_events r) first last
  shows join started first rise begins folders (Ok x) comes =
      let rest : List Event = comes.1.0 in
      let are : x.left.journal.events ≡ begun ++ rest = comes.1.1 in
      let behind : drop (length begun) x.left.journal.events ≡ rest = ap (drop (length begun)) are ∙ drop-append_seam begun rest in
      subst (λ (es : List Event). ShowInCounts setup.folders es first last) (sym are)
      (join setup.folders begun rest first between last (started_shows w setup begun started first between rise begins)
      (subst (λ (es : List Event). ShowInCounts setup.folders es between last) behind
      (subst (λ (fs : List (List ℕ)). ShowInCounts fs (drop (length begun) x.left.journal.events) between last) folders comes.2)))
  shows join started first rise begins folders (Err (starts.Refused fault journal)) comes = absurd comes
  shows join started first rise begins folders (Err starts.Memory) comes =
      spare_counts setup.folders first last [] (subst (Rise first) (sym (let same : last ≡ between = comes in same)) rise) refl

-- a start that is refused is refused whatever it would have come to
pub unstarted_whole : (X Y : Type 0) (setup : Setup) (files : Option (List File)) (failures failures' : ℕ) (why : StartFault) → StartsWhereItCan {X = X} setup files failures failures' (Err why)
    → StartsWhereItCan {X = Y} setup files failures failures' (Err why)
unstarted_whole X Y setup files failures failures' (starts.Refused fault journal) whole = whole
unstarted_whole X Y setup files failures failures' starts.Memory whole = λ told is still can. tt
