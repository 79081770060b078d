-- How a run ends: in one way, where nothing fails.
use Rattle.std.proofs.Common.{◌≡◌, ◌⊎◌, inl, inr, ℕ, false, List, [], ◌∷◌, map, Option, Some, Result, Ok, Err, refl, sym, ap, subst, ◌∙◌, true≢false}
use Rattle.ld_base.specs.declared.fault.DlFault.{DlFault}
use Rattle.ld_base.specs.declared.fault.DlFault.TheVariants as dl
use Rattle.ld_base.specs.declared.linking.File.{File}
use Rattle.elf_object.specs.Verdict.{object_verdict}
use Rattle.history_event.specs.declared.hart_end.HartEnd.{HartEnd}
use Rattle.history_state.specs.Accepted.{AcceptsOnly}
use Rattle.history_state.specs.Setting.{Machine}
use Rattle.history_calls.specs.declared.link_served.startup.Setup.{Setup}
use Rattle.history_calls.specs.Laws.{FailsOneWay, StartsOrFails, is_read_fault}
use Rattle.link_open_plan.specs.Startup.{run_of}
use Rattle.world_laws.specs.RunOnce.Laws.{OneRun}
use Rattle.trace_text.specs.RunTexts.Counting.{counts_of}
use Rattle.trace_text.specs.RunTexts.Ends.{IsRunEnd}
use Rattle.trace_text.specs.declared.run_texts.record.RunRecord.{RunRecord}
use Rattle.trace_text.specs.declared.run_texts.run_end.RunEnd.{RunEnd}
use Rattle.world_turns.specs.declared.schedules.schedule.TurnItem.{TurnItem}
use Rattle.world_laws.specs.TurnOnce.Laws.{NothingFails}
use Rattle.world_turns.specs.World.{World}
use Rattle.ldso_cli.specs.End.{AreOneEnd, KeepOne, ShowOne, kept_end}
use Rattle.ldso_cli.specs.Played.{IsNotRun, IsRun, LeavesRun}
use Rattle.ldso_cli.specs.declared.outcome.Cause.{Cause}
use Rattle.ldso_cli.specs.declared.outcome.End.{End}

-- ---- what is known

abbrev pub OneRunEnd : Type 0
OneRunEnd = (ends : List HartEnd) (first second : RunEnd) → IsRunEnd ends first → IsRunEnd ends second → first ≡ second

abbrev pub Accepts : Type 0
Accepts = (m : Machine) → m.verdict ≡ object_verdict → AcceptsOnly m

-- of runs, all together
pub record RunLaw : Type 0 where
  pub one : OneRun
  pub starts : StartsOrFails
  pub fails : FailsOneWay
  pub accepts : Accepts
  pub run_end : OneRunEnd

-- ---- records

show_one : (a b : RunRecord) → a.journal.events ≡ b.journal.events → a.ends ≡ b.ends → ShowOne a b
show_one a b events ends = record { events = events; ends = ends; counts = a.counted ∙ ap counts_of events ∙ sym b.counted }

-- ends of one cause that keep the same
pub one_end_kept : (a b : End) (cause cause' : Cause) (left left' : RunRecord) → a ≡ kept_end cause left → b ≡ kept_end cause' left' → cause ≡ cause' → ShowOne left left' → AreOneEnd a b
one_end_kept a b cause cause' left left' is is' same show =
    let keeps : a.kept ≡ Some left = ap (λ (e : End). e.kept) is in
    let keeps' : b.kept ≡ Some left' = ap (λ (e : End). e.kept) is' in
    record {
      cause = ap (λ (e : End). e.cause) is ∙ same ∙ sym (ap (λ (e : End). e.cause) is');
      kept = subst (λ (k : Option RunRecord). KeepOne k b.kept) (sym keeps) (subst (KeepOne (Some left)) (sym keeps') show);
    }

-- ---- faults

abbrev done : RunEnd → Result RunEnd DlFault
done run_end = Ok run_end

abbrev failed : DlFault → Result RunEnd DlFault
failed fault = Err fault

quiet_fault : (fault : DlFault) → ((path : List ℕ) → fault ≡ dl.ReadFault path → ⊥) → is_read_fault fault ≡ false
quiet_fault (dl.ReadFault path) quiet = absurd (quiet path refl)
quiet_fault _ quiet = refl

-- no read fails in startup
abbrev pub Quiet : Result RunEnd DlFault → Type 0
Quiet ended = (path : List ℕ) → ended ≡ Err (dl.ReadFault path) → ⊥

of_fault : (ended : Result RunEnd DlFault) (fault : DlFault) → ended ≡ Err fault → Quiet ended → is_read_fault fault ≡ false
of_fault ended fault is quiet = quiet_fault fault (λ path e. quiet path (is ∙ ap failed e))

-- ---- ends

same_ends : (a b : List HartEnd) → map Some a ≡ map Some b → a ≡ b
same_ends [] [] e = refl
same_ends [] (y ∷ b) e = absurd cc
same_ends (x ∷ a) [] e = absurd cc
same_ends (x ∷ a) (y ∷ b) e =
    let first : x ≡ y = cc in
    let rest : map Some a ≡ map Some b = cc in
    λ i. first i ∷ same_ends a b rest i

-- ---- one end, and one record

abbrev pub IsOne : Result RunEnd DlFault → Result RunEnd DlFault → RunRecord → RunRecord → Type 0
IsOne ended ended' left left' = (ended ≡ ended') × ShowOne left left'

-- what is left of one world is one
same_left : OneRunEnd → (world : World) (ended ended' : Result RunEnd DlFault) (left left' : RunRecord) → LeavesRun world ended left → LeavesRun world ended' left' → IsOne ended ended' left left'
same_left one world ended ended' left left' p q =
    let journal : left.journal.events ≡ left'.journal.events = p.journal ∙ sym q.journal in
    let ends : left.ends ≡ left'.ends = same_ends left.ends left'.ends (sym p.ends ∙ q.ends) in
    let decides : IsRunEnd left.ends q.run_end = subst (λ (l : List HartEnd). IsRunEnd l q.run_end) (sym ends) q.decides in
    let run_end : p.run_end ≡ q.run_end = one left.ends p.run_end q.run_end p.decides decides in
    (p.ended_is ∙ ap done run_end ∙ sym q.ended_is, show_one left left' journal ends)

module _ (law : RunLaw) (setup : Setup) (items : List TurnItem) (files : List File) (ended ended' : Result RunEnd DlFault) (left left' : RunRecord) (quiet : Quiet ended) (quiet' : Quiet ended') where
  not_run : IsNotRun setup (Some files) ended left → IsNotRun setup (Some files) ended' left' → IsOne ended ended' left left'
  not_run p q =
      let known = of_fault ended p.fault p.leaves.ended_is quiet in
      let known' = of_fault ended' q.fault q.leaves.ended_is quiet' in
      let same = law.fails (run_of setup (Some files)) setup files p.events q.events p.fault q.fault refl p.fails q.fails known known' in (
        p.leaves.ended_is ∙ ap failed same.0 ∙ sym q.leaves.ended_is,
        show_one left left' (p.leaves.journal ∙ same.1 ∙ sym q.leaves.journal) (p.leaves.no_ends ∙ sym q.leaves.no_ends),
      )

  both_run : NothingFails left.journal.events → NothingFails left'.journal.events → IsRun setup items (Some files) ended left → IsRun setup items (Some files) ended' left' → IsOne ended ended' left left'
  both_run well well' p q =
      let w = run_of setup (Some files) in
      let world : p.world ≡ q.world =
      law.one w setup items files p.world q.world refl (law.accepts w.machine refl) p.runs q.runs (subst NothingFails p.leaves.journal well) (subst NothingFails q.leaves.journal well') in
      same_left law.run_end p.world ended ended' left left' p.leaves (subst (λ (v : World). LeavesRun v ended' left') (sym world) q.leaves)

-- one that starts isn't refused
not_both : RunLaw → (setup : Setup) (items : List TurnItem) (files : List File) (ended other : Result RunEnd DlFault) (left left' : RunRecord) → Quiet other → IsRun setup items (Some files) ended left → IsNotRun setup (Some files) other left' → ⊥
not_both law setup items files ended other left left' quiet p q =
    let starts = p.runs.starts.starts in
    let known = of_fault other q.fault q.leaves.ended_is quiet in
    let is = law.starts (run_of setup (Some files)) setup files starts.root starts.added starts.ranges starts.found q.events starts.addresses q.fault refl starts.opens starts.finds q.fails in
    true≢false (sym is ∙ known)

pub one_outcome : RunLaw → (setup : Setup) (items : List TurnItem) (files : List File) (ended ended' : Result RunEnd DlFault) (left left' : RunRecord)
    → IsNotRun setup (Some files) ended left ⊎ IsRun setup items (Some files) ended left → Quiet ended → NothingFails left.journal.events
    → IsNotRun setup (Some files) ended' left' ⊎ IsRun setup items (Some files) ended' left' → Quiet ended' → NothingFails left'.journal.events
    → IsOne ended ended' left left'
one_outcome law setup items files ended ended' left left' (inl p) quiet well (inl q) quiet' well' = not_run law setup items files ended ended' left left' quiet quiet' p q
one_outcome law setup items files ended ended' left left' (inl p) quiet well (inr q) quiet' well' = absurd (not_both law setup items files ended' ended left' left quiet q p)
one_outcome law setup items files ended ended' left left' (inr p) quiet well (inl q) quiet' well' = absurd (not_both law setup items files ended ended' left left' quiet' p q)
one_outcome law setup items files ended ended' left left' (inr p) quiet well (inr q) quiet' well' = both_run law setup items files ended ended' left left' quiet quiet' well well' p q
