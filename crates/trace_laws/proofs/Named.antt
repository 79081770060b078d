-- How many harts the lines of a journal name.
use Rattle.std.proofs.Common.{◌≡◌, ⊎_elim, ℕ, ◌+◌, ◌≤◌, true, false, not, ◌==◌, List, [], ◌∷◌, ◌++◌, length, map, IsTrue, refl, sym, ap, subst, add-one, arith}
use Rattle.std.specs.List.{AllByRecursion}
use Rattle.std.proofs.lemmas.Bool.{cases_Bool, ne_eqb}
use Rattle.std.proofs.lemmas.List.Elements.{recursion_from_All}
use Rattle.history_calls.specs.Startup.{FindHarts, Starts, found_at, opening}
use Rattle.history_calls.specs.Startup.FindHarts.{no_more, one_more}
use Rattle.history_calls.specs.declared.link_served.startup.Setup.{Setup}
use Rattle.history_calls.specs.declared.link_served.startup.Started.{Started}
use Rattle.history_event.specs.declared.event.Event.{Event}
use Rattle.history_state.specs.Setting.{Setting}
use Rattle.trace_check.specs.Harts.{NameHarts, ends_start, names_hart}
use Rattle.trace_check.specs.Harts.NameHarts.{is_over, names, other}
use Rattle.trace_laws.specs.Beginning.{BeginsAlone, IsWritten}
use Rattle.trace_laws.specs.Laws.{StartsNameHarts}
use Rattle.trace_read.specs.Laws.{EventsHaveLines}
use Rattle.trace_read.specs.Said.{said_of}
use Rattle.trace_text.specs.Lines.{line_text}

abbrev AreWritten : List Event → Type 0
AreWritten events = AllByRecursion IsWritten events

behind_all : (front back : List Event) → AreWritten (front ++ back) → AreWritten back
behind_all [] back all = all
behind_all (e ∷ front) back all = behind_all front back all.1

-- no hart is named
abbrev NameNone : List Event → Type 0
NameNone events = NameHarts (map line_text events) 0

is_named : (h : ℕ) → 1 ≤ h → not (h == 0) ≡ true
is_named h some = ap not (ne_eqb h 0 (λ (is : h ≡ 0). omega (arith, some, is)))

module _ (law : EventsHaveLines) where
  -- ---- while the first hart is alone

  alone_names : (before : List Event) (over : Event) (behind : List Event) → AreWritten (before ++ over ∷ behind) → AllByRecursion (λ e. names_hart (said_of e) ≡ false) before
      → IsTrue (ends_start (said_of over)) → NameNone (before ++ over ∷ behind)
  alone_names [] over behind written alone ends = is_over (line_text over) (map line_text behind) (said_of over) (law over written.0) ends
  alone_names (e ∷ before) over behind written alone ends = ⊎_elim
      (λ (is : ends_start (said_of e) ≡ true). is_over (line_text e) (map line_text (before ++ over ∷ behind)) (said_of e) (law e written.0) is)
      (λ (isnt : ends_start (said_of e) ≡ false). other (line_text e) (map line_text (before ++ over ∷ behind)) (said_of e) 0 (law e written.0) isnt alone.0
      (alone_names before over behind written.1 alone.1 ends))
      (cases_Bool (ends_start (said_of e)))

  begins_none : (others : List Event) → AreWritten others → BeginsAlone others → NameNone others
  begins_none others written x =
      subst NameNone (sym x.are) (alone_names x.before x.over x.behind (subst AreWritten x.are written)
      (recursion_from_All (λ e. names_hart (said_of e) ≡ false) x.before x.alone) x.ends)

  -- ---- startup

  found_names : (w : Setting) (past : List Event) (h : ℕ) (harts : List (List ℕ)) (events : List Event) (addresses : List ℕ) (others : List Event) → 1 ≤ h
      → FindHarts w past h harts events addresses → AreWritten (events ++ others) → NameNone others → NameHarts (map line_text (events ++ others)) (length harts)
  found_names w past h harts events addresses others some (no_more _ _) written none = none
  found_names w past h harts events addresses others some (one_more _ _ name rest serial index value behind _ found more) written none =
      subst (NameHarts (map line_text (found_at h name serial index value ∷ behind ++ others))) (add-one (length rest))
      (names (line_text (found_at h name serial index value)) (map line_text (behind ++ others)) (said_of (found_at h name serial index value)) (length rest)
      (law (found_at h name serial index value) written.0) (is_named h some)
      (found_names w (past ++ found_at h name serial index value ∷ []) (h + 1) rest behind _ others (omega (arith, some)) more written.1 none))

  startup_names : (w : Setting) (setup : Setup) (startup others : List Event) (started : Started) (x : Starts w setup startup started) → AreWritten (startup ++ others) → NameNone others
      → NameHarts (map line_text (startup ++ others)) (length setup.harts)
  startup_names w setup startup others started x written none =
      let first : Event = opening setup x.root x.added x.ranges in
      let all : AreWritten ((first ∷ x.found) ++ others) = subst (λ (events : List Event). AreWritten (events ++ others)) x.are written in
      subst (λ (events : List Event). NameHarts (map line_text (events ++ others)) (length setup.harts)) (sym x.are)
      (other (line_text first) (map line_text (x.found ++ others)) (said_of first) (length setup.harts) (law first all.0) refl refl
      (found_names w (first ∷ []) 1 setup.harts x.found x.addresses others (omega arith) x.finds all.1 none))

  pub starts_name : StartsNameHarts
  starts_name w setup journal all x =
      let written : AreWritten (x.startup ++ x.others) = subst AreWritten x.are (recursion_from_All IsWritten journal all) in
      subst (λ (events : List Event). NameHarts (map line_text events) (length setup.harts)) (sym x.are)
      (startup_names w setup x.startup x.others x.started x.starts written (begins_none x.others (behind_all x.startup x.others written) x.begins))
