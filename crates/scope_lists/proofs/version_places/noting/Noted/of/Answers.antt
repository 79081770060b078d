use Rattle.std.proofs.Common.{◌==◌, ◌∙◌, List, ap}
use Rattle.std.specs.Prelude.{◌&&◌, not, option_map, position}
use Rattle.std.specs.Option.{option_or}
use Rattle.ld_base.specs.Version.{is_base}
use Rattle.ld_base.specs.declared.object.Verdef.{Verdef}
use Rattle.ld_base.specs.declared.object.Verneed.{Verneed}
use Rattle.scope_lists.specs.VersionPlaces.Noted.{noted_at}
use Rattle.scope_lists.specs.declared.version_places.names.VersionPlace.TheVariants.{Defined, Needed}
use Rattle.scope_lists.proofs.VersionPlaces.Noted.{then_needed}
use Rattle.scope_lists.proofs.version_places.noting.Noted.of.Goals as goal

pub returns : goal.returns
returns c = λ k.
    then_needed c.args.object.now k (noted_at c.new-noted.result k) (noted_at c.note_defined.new.self k) (noted_at c.note_needed.new.self k) (c.new-noted.ensures k)
    (c.in_ok-note_defined.ensures k ∙ ap (λ (ds : List Verdef). option_or (noted_at c.new-noted.result k) (option_map (λ n. Defined n) (position (λ d. d.index == k && not (is_base d)) ds))) c.as_slice.ensures)
    (c.in_ok-note_needed.ensures k ∙ ap (λ (ns : List Verneed). option_or (noted_at c.note_defined.new.self k) (option_map (λ n. Needed n) (position (λ n. n.index == k) ns))) c.as_slice-2.ensures)
