-- Where nothing is found: that there is no plan, and what a library's counts show.
use Rattle.std.proofs.Common.{◌≡◌, ℕ, List, Some, ap}
use Rattle.history_calls.specs.CallLaws.Counts.{AreMissed, ShowsInCounts}
use Rattle.ld_base.specs.declared.fault.DlFault.{DlFault}
use Rattle.ld_base.specs.declared.fault.DlFault.TheVariants as dl
use Rattle.library_source.specs.Count.{Rises}
use Rattle.history_event.specs.declared.event.OpenAsk.{OpenAsk}
use Rattle.history_state.specs.Setting.{Setting}
use Rattle.history_state.specs.State.{State}
use Rattle.load_walk.specs.declared.ask.LoadFault.{LoadFault}
use Rattle.load_walk.specs.declared.ask.LoadFault.TheVariants as loads
use Rattle.link_open_plan.specs.Lemmas.Counts.{counts_none}
use Rattle.link_open_plan.specs.OpeningLoad.Finding.{StopsAt}
use Rattle.link_open_plan.specs.Planned.{IsUnopened, fault_in, load_fault}

pub stopped_so : (w : Setting) (s : State) (hart : ℕ) (ask : OpenAsk) (fault : LoadFault) → StopsAt w s hart ask fault → IsUnopened w s hart ask (load_fault fault)
stopped_so w s hart ask (loads.Refused why) h = h
stopped_so w s hart ask (loads.Wait shown) h = h
stopped_so w s hart ask loads.Memory h = tt

some_is : (a b : DlFault) → Some a ≡ Some b → a ≡ b
some_is a b e = cc

pub counts_found : (Are : List ℕ → List (List ℕ) → Type 0) (failures failures' misses misses' : ℕ) (fault : LoadFault)
    → ((path : List ℕ) → fault ≡ loads.Refused (dl.ReadFault path) → Rises failures failures')
    → ((name : List ℕ) → fault ≡ loads.Refused (dl.MissingLibrary name) → AreMissed (Are name) misses misses')
    → ShowsInCounts Are (fault_in (load_fault fault)) failures failures' misses misses'
counts_found Are failures failures' misses misses' (loads.Refused why) failed missed = record {
  failed = λ path is. failed path (ap loads.Refused (some_is why (dl.ReadFault path) is));
  missed = λ name is. missed name (ap loads.Refused (some_is why (dl.MissingLibrary name) is));
}
counts_found Are failures failures' misses misses' (loads.Wait shown) failed missed = counts_none Are failures failures' misses misses'
counts_found Are failures failures' misses misses' loads.Memory failed missed = counts_none Are failures failures' misses misses'
