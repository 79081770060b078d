use Rattle.std.proofs.Common.{ℕ, ◌≡◌, ◌≤◌, ◌<◌}
use Rattle.std.specs.Prelude.{slice_get, IsSome, Some}
use Rattle.ld_base.specs.declared.linking.Loaded.{Loaded}
use Rattle.scope_lists.specs.Kept.{AreScopes, kept_at}
use Rattle.scope_lists.proofs.kept.KeptScopes.add_all.Given as goal

-- those of the objects so far are there
abbrev pub invariant-loop-place : goal.invariant-loop-place
invariant-loop-place l = record {
  scopes : AreScopes l.scopes.seen l.self;
  there : (q : ℕ) (o : Loaded) → l.first ≤ q → q < l.place → slice_get l.scopes.seen.objects q ≡ Some o → IsSome (kept_at l.self q);
}
