-- Doublewords that have no role yet.
use Rattle.std.specs.Prelude.{◌≡◌, ℕ, ◌≤◌, ◌<◌}
use Rattle.ld_base.specs.declared.linking.Role.TheVariants.{None as NoRole}
use Rattle.word_rule.specs.declared.view.KeeperView.{KeeperView}
use Rattle.word_rule.specs.Views.{kept_at}

-- none of the first 64 doublewords has a role, from this one on
abbrev pub AreUnset : KeeperView → ℕ → Type 0
AreUnset k n = (d : ℕ) → n ≤ d → d < 64 → (kept_at k d).role ≡ NoRole
