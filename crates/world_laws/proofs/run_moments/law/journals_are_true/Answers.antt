use Rattle.history_state.specs.Accepted.{AcceptsOnly}
use Rattle.history_state.specs.Setting.{Machine}
use Rattle.history_state.specs.Lemmas.Brought.{LoadLaws}
use Rattle.history_state.specs.Lemmas.Lazy.{PageLaws}
use Rattle.history_state.specs.Lemmas.Map.{mapped_after}
use Rattle.world_laws.proofs.RunMoments.Journals.{JournalLaws, journals_true}
use Rattle.world_laws.proofs.run_moments.law.journals_are_true.Goals as goal

laws : (c : goal.After-loads_enter_code) (m : Machine) → AcceptsOnly m → JournalLaws m
laws c m only =
    let pages : PageLaws = record {
      low = c.pages_hold_segments.ensures.low;
      high = c.pages_hold_segments.ensures.high;
      from = c.pages_hold_segments.ensures.from;
      to = c.pages_hold_segments.ensures.to;
      some = c.pages_hold_segments.ensures.some;
      few = c.pages_hold_segments.ensures.few;
      one = c.pages_hold_segments.ensures.one;
    } in
    let load : LoadLaws = record { serials = c.serials_follow.ensures; leads = c.found_stands.ensures.names; founds = c.found_stands.ensures.founds } in
    record {
      pages = pages;
      load = load;
      mapped = λ journal lawful. mapped_after load c.reads_candidates.ensures.candidates m only journal lawful;
      images = λ journal lawful. c.images_are_mapped.ensures m journal lawful;
      begins = λ journal lawful. c.slots_begin.ensures m journal only lawful;
      held = λ journal lawful. c.grants_are_held.ensures m journal lawful;
      grants = λ journal lawful. c.slots_enter_code.ensures m journal lawful;
      loads = λ journal lawful. c.loads_enter_code.ensures m journal lawful;
      leads = λ journal lawful. c.slots_lead_to_rx.ensures m journal only lawful;
      apart = λ journal lawful. c.blocks_are_apart.ensures m journal lawful;
    }

pub returns : goal.returns
returns c = journals_true (laws c)
