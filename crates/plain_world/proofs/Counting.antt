-- What a library counts while a run goes on.
use Rattle.std.proofs.Common.{◌≡◌, ℕ, ◌≤◌, List, [], ◌∷◌, ◌++◌, Option, Result, Ok, Err, refl, sym, ap, subst, ◌∙◌, append-nil, append_assoc}
use Rattle.std.specs.Prelude.{IsErrAnd}
use Rattle.ld_base.specs.declared.linking.File.{File}
use Rattle.history_event.specs.declared.event.Event.TheVariants.{Ended}
use Rattle.history_event.specs.declared.hart_end.HartEnd.TheVariants.{Memory}
use Rattle.history_state.specs.Setting.{Setting}
use Rattle.history_calls.specs.declared.link_served.startup.Setup.{Setup}
use Rattle.history_calls.specs.declared.link_served.startup.StartFault.{StartFault}
use Rattle.history_calls.specs.declared.link_served.startup.StartFault.TheVariants as starts
use Rattle.link_startup.specs.Startup.{IsNotStarted, refusal_of_start}
use Rattle.history_calls.specs.CallLaws.Counts.{ArePathsAtStart, ShowsInCounts}
use Rattle.history_journal.specs.Following.{machine_of}
use Rattle.history_calls.specs.CallLaws.Coming.{IsOver}
use Rattle.rv_hart.specs.Registers.{Registers}
use Rattle.world_answers.specs.GuestsPart.GuestWorlds.Worlds.{TakesOver}
use Rattle.world_answers.specs.GuestsPart.Counting.{IsCounted, RefusesNone, Rise, TurnsAreCounted, counts_at}
use Rattle.world_answers.specs.GuestsPart.Lemmas.Counting.{both_spare, counted_more, none_counted, same_counts, settling_spares, spare_counts, unmoved}
use Rattle.world_answers.specs.GuestsPart.Lemmas.Starts.{failed_shows}
use Rattle.world_answers.specs.GuestsPart.Next.{NextRefusalIsCounted}
use Rattle.world_turns.specs.Counts.{Counts, ShowInCounts}
use Rattle.world_turns.specs.Run.{RunBegins, LacksMemory, settled}
use Rattle.world_turns.specs.Turn.{TakesTurn}
use Rattle.world_turns.specs.World.{World, settling}
use Rattle.plain_world.specs.Started.{start_events}
use Rattle.plain_world.specs.Table.{WorldTable, moved}

-- ---- a turn

some_run : ℕ → List (List ℕ) → Option (List File) → Setting
some_run count folders files = record { machine = machine_of count; folders = folders; preload = []; files = files }

some_over : (count : ℕ) (folders : List (List ℕ)) (files : Option (List File)) → IsOver (machine_of count) folders files (some_run count folders files)
unfolding some_run
some_over count folders files = record { machine = refl; folders_are = refl; files_are = refl }

pub takes_counted : TurnsAreCounted → (count : ℕ) (folders : List (List ℕ)) (files : Option (List File)) (h : ℕ) (old new : World) (before after : Counts)
    → Rise before after → TakesOver count folders files h old new
    → NextRefusalIsCounted folders old new.journal h before.faults after.faults before.misses after.misses → IsCounted folders old new before after
takes_counted law count folders files h old new before after rise takes counted = by (takes (some_run count folders files) (some_over count folders files))
  where
    by : TakesTurn (some_run count folders files) h old new → IsCounted folders old new before after
    by (TakesTurn.turn t) = law (some_run count folders files) h folders old new before after rise t counted
    by (TakesTurn.passed_over b reason at over same) =
        subst (λ (v : World). IsCounted folders old v before after) (sym same) (none_counted folders old old before after rise (unmoved old))

-- ---- what refuses no opening

pub same_refuses : (old new : World) → new ≡ old → RefusesNone old new
same_refuses old new same = subst (λ (v : World). RefusesNone old v) (sym same) (unmoved old)

pub begun_refuses : (registers : Registers) (old new : World) → RunBegins registers old new → RefusesNone old new
begun_refuses registers old new x =
    record { appended = []; are = ap (λ (v : World). v.journal) x.begun ∙ sym (append-nil old.journal); none = refl }

pub lacks_refuses : (w : Setting) (old new : World) → LacksMemory w old new → RefusesNone old new
lacks_refuses w old new x = record {
  appended = settling old.harts ++ Ended 0 Memory ∷ [];
  are = ap (λ (v : World). v.journal) x.leaves ∙ append_assoc old.journal (settling old.harts) (Ended 0 Memory ∷ []);
  none = both_spare (settling old.harts) (Ended 0 Memory ∷ []) (settling_spares old.harts) refl;
}

pub settled_refuses : (world : World) → RefusesNone world (settled world)
settled_refuses world = record { appended = settling world.harts; are = refl; none = settling_spares world.harts }

-- ---- startup

fault_shows : (w : Setting) (setup : Setup) (why : StartFault) (first last : Counts) → Rise first last → IsNotStarted w setup why
    → ShowsInCounts (ArePathsAtStart setup.folders setup.program) (refusal_of_start why) first.faults last.faults first.misses last.misses
    → ShowInCounts setup.folders (start_events (Err why)) first last
fault_shows w setup (starts.Refused fault journal) first last rise fails shows = failed_shows w setup fault journal.events first last rise fails shows
fault_shows w setup starts.Memory first last rise fails shows = spare_counts setup.folders first last [] rise refl

pub unstarted_shows : (w : Setting) (setup : Setup) (result : Result WorldTable StartFault) (why : StartFault) (first last : Counts) → Rise first last
    → IsErrAnd result (λ e. e ≡ why) → IsNotStarted w setup why
    → ShowsInCounts (ArePathsAtStart setup.folders setup.program) (refusal_of_start why) first.faults last.faults first.misses last.misses
    → ShowInCounts setup.folders (start_events result) first last
unstarted_shows w setup (Ok run) why first last rise is fails shows = absurd is
unstarted_shows w setup (Err e) why first last rise is fails shows =
    subst (λ (x : StartFault). ShowInCounts setup.folders (start_events (Err x)) first last) (sym is) (fault_shows w setup why first last rise fails shows)

-- ---- a run

pub no_count : (folders : List (List ℕ)) (old new : World) (counts : Counts) → RefusesNone old new → IsCounted folders old new counts counts
no_count folders old new counts none = none_counted folders old new counts counts (same_counts counts) none

-- one part after another, the library going on from one state to another
module _ {L : Type 0} (faults misses : L → ℕ) where
  abbrev pub at : L → Counts
  at = counts_at faults misses

  pub goes_up : (first last : L) → faults first ≤ faults last → misses first ≤ misses last → Rise (at first) (at last)
  goes_up first last low high = record { faults = low; misses = high }

  pub more_counted : (run now : WorldTable) (new : World) (first between last : L) → now.folders ≡ run.folders → faults first ≤ faults between
      → misses first ≤ misses between → faults between ≤ faults last → misses between ≤ misses last
      → IsCounted run.folders run.world now.world (at first) (at between) → IsCounted now.folders now.world new (at between) (at last)
      → IsCounted run.folders run.world new (at first) (at last)
  more_counted run now new first between last folders low low' high high' before behind =
      counted_more run.folders run.world now.world new (at first) (at between) (at last) (goes_up first between low low') (goes_up between last high high') before
      (subst (λ (fs : List (List ℕ)). IsCounted fs now.world new (at between) (at last)) folders behind)

pub same_folders : (run now : WorldTable) → now ≡ moved run now.world → now.folders ≡ run.folders
same_folders run now is = ap (λ (t : WorldTable). t.folders) is
