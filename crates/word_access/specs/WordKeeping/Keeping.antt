-- What the keeper's changes of a doubleword leave in its view.
use Rattle.std.specs.Prelude.{ℕ, [], ◌∷◌, ◌++◌, length, None, Some}
use Rattle.ld_base.specs.declared.fault.Shown.{Shown}
use Rattle.ld_base.specs.declared.fault.Shown.TheVariants.{Locked}
use Rattle.ld_base.specs.declared.linking.Role.{Role}
use Rattle.ld_base.specs.declared.linking.Role.TheVariants.{Slot as SlotRole}
use Rattle.word_rule.specs.declared.kind.KeeperKind.{KeeperKind}
use Rattle.word_rule.specs.declared.kind.KeeperKind.TheVariants as kinds
use Rattle.word_rule.specs.declared.view.KeeperView.{KeeperView}
use Rattle.word_rule.specs.KeeperSteps.{accessing, with_kept}

-- a control word was found that nobody has locked
abbrev pub control_found : ℕ → ℕ → KeeperView → KeeperView
control_found d control k = accessing (record { locked = None; held = None; last = Some (d, control) }) k

-- the doubleword is locked
abbrev pub has_locked : ℕ → KeeperView → KeeperView
has_locked d k = accessing (record { locked = Some d; held = None; last = None }) k

-- two control words of a doubleword showed another seat's lock: that is new, since it comes behind all that was shown before
abbrev pub was_shown : ℕ → Shown → KeeperView → KeeperView
was_shown d (Locked a b) k = record k { shown = k.shown ++ record { at = d; first = a; second = b } ∷ [] }
was_shown d _ k = k

-- the doubleword has this value, role and lazy word from now on
abbrev pub set_as : ℕ → ℕ → Role → ℕ → KeeperView → KeeperView
set_as d x role lazy k = with_kept d (record { role = role; value = x; lazy = lazy; since = length k.events; fixed = None }) k

-- the kind of step that takes a role away
abbrev pub retiring : ℕ → Role → KeeperKind
retiring d SlotRole = kinds.RetireSlot d
retiring d old = kinds.Retire d old
