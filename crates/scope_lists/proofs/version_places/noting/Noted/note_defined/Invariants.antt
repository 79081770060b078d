use Rattle.std.proofs.Common.{◌≡◌, ℕ, take}
use Rattle.std.specs.Prelude.{◌==◌, ◌&&◌, not, option_map, position}
use Rattle.std.specs.Option.{option_or}
use Rattle.ld_base.specs.Version.{is_base}
use Rattle.ld_base.specs.declared.object.Verdef.{Verdef}
use Rattle.scope_lists.specs.VersionPlaces.Noted.{noted_at}
use Rattle.scope_lists.specs.declared.version_places.names.VersionPlace.TheVariants.{Defined}
use Rattle.scope_lists.proofs.version_places.noting.Noted.note_defined.Given as goal

-- those so far are noted
abbrev pub invariant-loop-number : goal.invariant-loop-number
invariant-loop-number l = (k : ℕ) → noted_at l.self k ≡ option_or (noted_at l.fn.self k) (option_map Defined (position (λ (d : Verdef). d.index == k && not (is_base d)) (take l.number l.verdefs)))
