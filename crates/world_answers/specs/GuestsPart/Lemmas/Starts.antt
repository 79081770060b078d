-- What a library counts of a start.
use Rattle.std.proofs.Common.{◌≡◌, ◌⊎◌, inl, inr, ℕ, ◌+◌, ◌<◌, true, false, List, [], ◌∷◌, ◌++◌, length, Some, refl, ap, ◌∙◌, arith}
use Rattle.std.specs.Prelude.{nat_lt}
use Rattle.std.specs.List.{list_any}
use Rattle.std.proofs.lemmas.Bool.{ltb-true}
use Rattle.ld_base.specs.declared.fault.DlFault.{DlFault}
use Rattle.history_event.specs.declared.event.Event.{Event}
use Rattle.history_state.specs.Setting.{Setting}
use Rattle.history_calls.specs.declared.link_served.startup.Setup.{Setup}
use Rattle.history_calls.specs.declared.link_served.startup.Started.{Started}
use Rattle.history_calls.specs.Startup.{FailsToStart, FindHarts, LacksHart, Starts, found_at, opening, program_ask}
use Rattle.history_calls.specs.CallLaws.Counts.{ArePathsAtStart, ShowsInCounts}
use Rattle.world_turns.specs.Counts.{Counts, ShowInCounts, has_candidate}
use Rattle.world_answers.specs.GuestsPart.Counting.{Rise, is_refusal}
use Rattle.world_answers.specs.GuestsPart.Lemmas.Counting.{refusal_shows, spare_counts}

found_spares : (w : Setting) (past : List Event) (h : ℕ) (names : List (List ℕ)) (found : List Event) (addresses : List ℕ)
    → FindHarts w past h names found addresses → list_any is_refusal found ≡ false
found_spares w past h names found addresses (FindHarts.no_more _ _) = refl
found_spares w past h names found addresses (FindHarts.one_more _ _ name rest serial index value more others finds later) =
    found_spares w (past ++ found_at h name serial index value ∷ []) (h + 1) rest more others later

lacks_spares : (w : Setting) (program : List ℕ) (past : List Event) (h : ℕ) (names : List (List ℕ)) (events : List Event) (fault : DlFault)
    → LacksHart w program past h names events fault → list_any is_refusal events ≡ false
lacks_spares w program past h names events fault (LacksHart.is_refused _ _ name rest _ may) = refl
lacks_spares w program past h names events fault (LacksHart.is_not_code _ _ name rest serial index value may code) = refl
lacks_spares w program past h names events fault (LacksHart.one_more _ _ name rest serial index value more _ finds later) =
    lacks_spares w program (past ++ found_at h name serial index value ∷ []) (h + 1) rest more fault later

some_path : (n : ℕ) (program name : List ℕ) (paths : List (List ℕ)) → (length paths ≡ n) ⊎ ((name ≡ program) × (paths ≡ name ∷ [])) → nat_lt 0 n ≡ true
    → 0 < length paths
some_path n program name paths (inl long) some = let more : 0 < n = ltb-true 0 n some in omega (arith, more, long)
some_path n program name paths (inr own) some = let one : length paths ≡ 1 = ap (λ (ps : List (List ℕ)). length ps) own.1 in omega (arith, one)

some_at_start : (folders : List (List ℕ)) (program name : List ℕ) (paths : List (List ℕ)) → ArePathsAtStart folders program name paths
    → has_candidate folders name ≡ true → 0 < length paths
some_at_start folders program name paths (inl are) some = some_path _ program name paths (inl (ap length are)) some
some_at_start folders program name paths (inr own) some = some_path _ program name paths (inr own) some

pub started_shows : (w : Setting) (setup : Setup) (journal : List Event) (started : Started) (first last : Counts) → Rise first last → Starts w setup journal started
    → ShowInCounts setup.folders journal first last
started_shows w setup journal started first last rise is =
    let loaded : Event = opening setup is.root is.added is.ranges in
    spare_counts setup.folders first last journal rise
    (ap (list_any is_refusal) is.are ∙ found_spares w (loaded ∷ []) 1 setup.harts is.found is.addresses is.finds)

pub failed_shows : (w : Setting) (setup : Setup) (fault : DlFault) (events : List Event) (first last : Counts) → Rise first last → FailsToStart w setup fault events
    → ShowsInCounts (ArePathsAtStart setup.folders setup.program) (Some fault) first.faults last.faults first.misses last.misses
    → ShowInCounts setup.folders events first last
failed_shows w setup fault events first last rise (FailsToStart.is_not_opened _ set may) shows =
    refusal_shows (ArePathsAtStart setup.folders setup.program) setup.folders (some_at_start setup.folders setup.program) 0 (program_ask setup) fault first last rise shows
failed_shows w setup fault events first last rise (FailsToStart.lacks_hart root added ranges more _ set may lacks) shows =
    spare_counts setup.folders first last (opening setup root added ranges ∷ more) rise
    (lacks_spares w setup.program (opening setup root added ranges ∷ []) 1 setup.harts more fault lacks)
