use Rattle.std.proofs.Common.{◌++◌, ◌∷◌, [], subst}
use Rattle.history_state.specs.After.{after}
use Rattle.history_state.specs.Laws.{SlotsBegin}
use Rattle.history_state.specs.Step.{step}
use Rattle.history_state.specs.Lemmas.Good.{Good, core}
use Rattle.history_state.specs.Lemmas.Brought.{LoadLaws}
use Rattle.history_state.specs.Lemmas.History.{after_push, lawful_push}
use Rattle.history_state.specs.Lemmas.Lazy.{PageLaws}
use Rattle.history_state.specs.Lemmas.Map.{Mapped, mapped_after}
use Rattle.history_state.specs.Lemmas.Steps.{good_after}
use Rattle.history_memory.specs.Lemmas.Images.{images_back}
use Rattle.kept_words.proofs.Remade.{remade_stays}
use Rattle.kept_words.proofs.law.remade_stays.Goals as goal

pub returns : goal.returns
returns c m w past e k l number count is only lawful may grants of_state remade early =
    let pages : PageLaws = record { low = c.pages_hold_segments.ensures.low; high = c.pages_hold_segments.ensures.high; from = c.pages_hold_segments.ensures.from; to = c.pages_hold_segments.ensures.to; some = c.pages_hold_segments.ensures.some; few = c.pages_hold_segments.ensures.few; one = c.pages_hold_segments.ensures.one } in
    let loads : LoadLaws = record { serials = c.serials_follow.ensures; leads = c.found_stands.ensures.names; founds = c.found_stands.ensures.founds } in
    let now : Mapped (after past) = mapped_after loads c.reads_candidates.ensures.candidates m only past lawful in
    let new : Mapped (step (after past) e) = subst Mapped (after_push past e) (mapped_after loads c.reads_candidates.ensures.candidates m only (past ++ e ∷ []) (lawful_push m w past e is lawful may)) in
    let good : Good (core (after past)) = good_after loads m past lawful in
    let begins_new : SlotsBegin (step (after past) e) = subst SlotsBegin (after_push past e) (c.slots_begin.ensures m (past ++ e ∷ []) only (lawful_push m w past e is lawful may)) in
    remade_stays pages (after past) e now new (c.memory_changes.ensures m w past e is only lawful may) good (c.slots_begin.ensures m past only lawful) begins_new (images_back loads w past (after past) good e may)
    grants k l number count of_state remade early
