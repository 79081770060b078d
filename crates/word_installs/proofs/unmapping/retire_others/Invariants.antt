use Rattle.std.proofs.Common.{◌≡◌, ℕ, ◌<◌, [], ◌∷◌, Some}
use Rattle.std.specs.List.{slice_get}
use Rattle.history_event.specs.declared.event.Range.{Range}
use Rattle.kept_words.specs.Gone.{IsOfOther}
use Rattle.word_installs.specs.Unmapped.{HasNoRole, Retires}
use Rattle.word_installs.proofs.unmapping.retire_others.Given as goal

-- those in front are gone
abbrev pub invariant-loop-range : goal.invariant-loop-range
invariant-loop-range g l =
    Retires IsOfOther l.ranges l.fn.keeper l.keeper × ((i : ℕ) (r : Range) → i < l.range-index → slice_get l.ranges i ≡ Some r → HasNoRole (r ∷ []) l.keeper)
