-- What a library's counts show of an opening that no file is the cause of.
use Rattle.std.proofs.Common.{◌≡◌, ℕ, List, None, subst}
use Rattle.history_calls.specs.CallLaws.Counts.{ShowsInCounts}
use Rattle.ld_base.specs.declared.fault.DlFault.{DlFault}
use Rattle.ld_base.specs.declared.fault.DlFault.TheVariants as dl
use Rattle.link_open_plan.specs.Planned.{ShowsInNoCount, fault_in}
use Rattle.link_open_plan.specs.declared.planning.Unopened.{Unopened}
use Rattle.link_open_plan.specs.declared.planning.Unopened.TheVariants as unopened

pub counts_none : (Are : List ℕ → List (List ℕ) → Type 0) (failures failures' misses misses' : ℕ) → ShowsInCounts Are None failures failures' misses misses'
counts_none Are failures failures' misses misses' = record { failed = λ path is. absurd cc; missed = λ name is. absurd cc }

pub counts_without : (Are : List ℕ → List (List ℕ) → Type 0) (failures failures' misses misses' : ℕ) (why : Unopened) → ShowsInNoCount why
    → ShowsInCounts Are (fault_in why) failures failures' misses misses'
counts_without Are failures failures' misses misses' (unopened.Refused fault) free = record {
  failed = λ path is. absurd (let same : fault ≡ dl.ReadFault path = cc in subst (λ (f : DlFault). ShowsInNoCount (unopened.Refused f)) same free);
  missed = λ name is. absurd (let same : fault ≡ dl.MissingLibrary name = cc in subst (λ (f : DlFault). ShowsInNoCount (unopened.Refused f)) same free);
}
counts_without Are failures failures' misses misses' (unopened.Wait shown) free = counts_none Are failures failures' misses misses'
counts_without Are failures failures' misses misses' unopened.Memory free = counts_none Are failures failures' misses misses'
