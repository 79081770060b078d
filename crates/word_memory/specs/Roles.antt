-- When a doubleword may get a role, and when one may be taken away.
use Rattle.std.specs.Prelude.{◌≡◌, ◌≢◌, ℕ}
use Rattle.ld_base.specs.declared.linking.Role.{Role}
use Rattle.ld_base.specs.declared.linking.Role.TheVariants.{None as NoRole, Slot as SlotRole}
use Rattle.word_rule.specs.declared.view.KeeperView.{KeeperView}
use Rattle.word_rule.specs.Layout.{IsDoubleword, place_of}
use Rattle.word_rule.specs.Views.{kept_at, row_of}
use Rattle.word_rule.specs.Allowed.{LeadsTo, NothingEnters}
use Rattle.word_rule.specs.KeeperSteps.{Unposted}

-- a doubleword may be set: a role comes where there was none; a slot's word is 0 or leads to an RX word
pub record MaySet (k : KeeperView) (address value : ℕ) (role : Role) : Type 0 where
  pub at : IsDoubleword address
  pub fresh : (kept_at k (place_of address)).role ≡ NoRole
  pub some_role : role ≢ NoRole
  pub leads : role ≡ SlotRole → LeadsTo (kept_at k) value

-- a doubleword's role may be taken away: it has one, no grant is open of a slot, and nothing enters another doubleword
pub record MayRetire (k : KeeperView) (address : ℕ) : Type 0 where
  pub at : IsDoubleword address
  pub some_role : (kept_at k (place_of address)).role ≢ NoRole
  pub slot : (kept_at k (place_of address)).role ≡ SlotRole → Unposted k (place_of address)
  pub other : (kept_at k (place_of address)).role ≢ SlotRole → NothingEnters (kept_at k) (row_of k) (place_of address)
