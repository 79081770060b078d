use Rattle.std.proofs.Common.{◌≢◌, ℕ, ◌+◌, ◌*◌, ◌<◌}
use Rattle.ld_base.specs.declared.linking.Role.TheVariants.{Slot}
use Rattle.word_rule.specs.Layout.{place_of}
use Rattle.word_rule.specs.Views.{kept_at}
use Rattle.kept_words.specs.Gone.{IsOfSlot}
use Rattle.word_installs.specs.Unmapped.{Retires}
use Rattle.word_installs.proofs.unmapping.retire_slots_in.Given as goal

-- those in front are gone
abbrev pub invariant-loop-index : goal.invariant-loop-index
invariant-loop-index g l =
    Retires IsOfSlot l.ranges l.fn.keeper l.keeper × ((i : ℕ) → i < l.index → (kept_at l.keeper (place_of (l.range.address + 8 * i))).role ≢ Slot)
