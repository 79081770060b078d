use Rattle.std.proofs.Common.{ℕ, ◌≡◌, ◌≤◌, ◌<◌}
use Rattle.std.specs.Prelude.{slice_get, Some}
use Rattle.ld_base.specs.declared.linking.Loaded.{Loaded}
use Rattle.scope_rule.specs.Seen.{seen}
use Rattle.scope_lists.specs.Owners.{IsOwner}
use Rattle.scope_lists.proofs.owners.Owners.between.Given as goal

-- the objects so far are owners
abbrev pub invariant-loop-place : goal.invariant-loop-place
invariant-loop-place l = (q : ℕ) (o : Loaded) → l.first ≤ q → q < l.place → slice_get (seen l.view).objects q ≡ Some o → IsOwner l.owners o.serial
