use Rattle.std.proofs.Common.{◌≡◌, ℕ, take}
use Rattle.std.specs.Prelude.{◌==◌, option_map, position}
use Rattle.std.specs.Option.{option_or}
use Rattle.ld_base.specs.declared.object.Verneed.{Verneed}
use Rattle.scope_lists.specs.VersionPlaces.Noted.{noted_at}
use Rattle.scope_lists.specs.declared.version_places.names.VersionPlace.TheVariants.{Needed}
use Rattle.scope_lists.proofs.version_places.noting.Noted.note_needed.Given as goal

-- those so far are noted
abbrev pub invariant-loop-number : goal.invariant-loop-number
invariant-loop-number l = (k : ℕ) → noted_at l.self k ≡ option_or (noted_at l.fn.self k) (option_map Needed (position (λ (n : Verneed). n.index == k) (take l.number l.verneeds)))
