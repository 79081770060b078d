use Rattle.std.proofs.Common.{◌++◌, ◌∷◌, [], subst, sym, ◌∙◌, ap}
use Rattle.history_state.specs.State.{State}
use Rattle.history_state.specs.After.{after}
use Rattle.history_state.specs.Memory.{role_at}
use Rattle.history_state.specs.Step.{step}
use Rattle.history_state.specs.Lemmas.Brought.{LoadLaws}
use Rattle.history_state.specs.Lemmas.History.{after_push, lawful_push}
use Rattle.history_state.specs.Lemmas.Lazy.{PageLaws}
use Rattle.history_state.specs.Lemmas.Map.{Mapped, mapped_after}
use Rattle.history_memory.specs.Enters.{SlotStays}
use Rattle.history_memory.specs.Lemmas.Stayed.{exchange_stays, stays, stored_stays}
use Rattle.history_memory.proofs.law.slots_stay.Goals as goal

pub returns-clause-event : goal.returns-clause-event
returns-clause-event c m w past e old left a is only lawful may by place before behind =
    let pages : PageLaws = record { low = c.pages_hold_segments.ensures.low; high = c.pages_hold_segments.ensures.high; from = c.pages_hold_segments.ensures.from; to = c.pages_hold_segments.ensures.to; some = c.pages_hold_segments.ensures.some; few = c.pages_hold_segments.ensures.few; one = c.pages_hold_segments.ensures.one } in
    let loads : LoadLaws = record { serials = c.serials_follow.ensures; leads = c.found_stands.ensures.names; founds = c.found_stands.ensures.founds } in
    let now : Mapped (after past) = mapped_after loads c.reads_candidates.ensures.candidates m only past lawful in
    let new : Mapped (step (after past) e) = subst Mapped (after_push past e) (mapped_after loads c.reads_candidates.ensures.candidates m only (past ++ e ∷ []) (lawful_push m w past e is lawful may)) in
    subst (λ (s : State). SlotStays (after past) s old left a) (sym (after_push past e))
    (stays pages (after past) e now new (c.memory_changes.ensures m w past e is only lawful may) old left by a place before (ap (λ (s : State). role_at s a) (sym (after_push past e)) ∙ behind))

pub returns-clause-store : goal.returns-clause-store
returns-clause-store c = stored_stays

pub returns-clause-exchange : goal.returns-clause-exchange
returns-clause-exchange c = exchange_stays
