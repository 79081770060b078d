use Rattle.std.proofs.Common.{◌++◌, ◌∷◌, [], subst, sym}
use Rattle.history_state.specs.State.{State}
use Rattle.history_state.specs.After.{after}
use Rattle.history_state.specs.Step.{step}
use Rattle.history_state.specs.Lemmas.Good.{Good, core}
use Rattle.history_state.specs.Lemmas.Brought.{LoadLaws}
use Rattle.history_state.specs.Lemmas.History.{after_push, lawful_push}
use Rattle.history_state.specs.Lemmas.Lazy.{PageLaws}
use Rattle.history_state.specs.Lemmas.Map.{Mapped, mapped_after}
use Rattle.history_state.specs.Lemmas.Steps.{good_after}
use Rattle.history_state.specs.Lemmas.Tidy.{Tidy, tidy_after}
use Rattle.history_memory.specs.Holds.{Holds}
use Rattle.history_memory.specs.Remade.{won_after}
use Rattle.history_memory.specs.Lemmas.Images.{images_back}
use Rattle.history_memory.proofs.Kept.{holds_after}
use Rattle.history_memory.specs.Lemmas.Stayed.{quiet}
use Rattle.history_memory.proofs.Taking.{taking_after}
use Rattle.history_memory.proofs.law.events_keep.Goals as goal

pub returns-clause-quiet : goal.returns-clause-quiet
returns-clause-quiet c = quiet

pub returns-clause-kept : goal.returns-clause-kept
returns-clause-kept c m w past e won old left is only lawful may rightly holds by =
    let pages : PageLaws = record { low = c.pages_hold_segments.ensures.low; high = c.pages_hold_segments.ensures.high; from = c.pages_hold_segments.ensures.from; to = c.pages_hold_segments.ensures.to; some = c.pages_hold_segments.ensures.some; few = c.pages_hold_segments.ensures.few; one = c.pages_hold_segments.ensures.one } in
    let loads : LoadLaws = record { serials = c.serials_follow.ensures; leads = c.found_stands.ensures.names; founds = c.found_stands.ensures.founds } in
    let now : Mapped (after past) = mapped_after loads c.reads_candidates.ensures.candidates m only past lawful in
    let new : Mapped (step (after past) e) = subst Mapped (after_push past e) (mapped_after loads c.reads_candidates.ensures.candidates m only (past ++ e ∷ []) (lawful_push m w past e is lawful may)) in
    let good : Good (core (after past)) = good_after loads m past lawful in
    let tidy : Tidy (after past).grants = tidy_after m past lawful in
    subst (λ (s : State). Holds s (won_after e won) left) (sym (after_push past e))
    (holds_after pages (after past) e now new (c.memory_changes.ensures m w past e is only lawful may) good (c.slots_begin.ensures m past only lawful)
    (images_back loads w past (after past) good e may) won (won_after e won)
    (taking_after w past (after past) tidy won (λ n there. let g = holds.unsettled n there in (g.0, g.1.there, g.1.numbered, g.1.open_yet)) e may rightly) old left holds by)
