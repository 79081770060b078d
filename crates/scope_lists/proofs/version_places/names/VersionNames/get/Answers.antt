use Rattle.std.proofs.Common.{List, None, Option, ap, ◌∙◌}
use Rattle.std.specs.Prelude.{slice_index_or}
use Rattle.scope_lists.specs.VersionPlaces.Places.{name_in}
use Rattle.scope_lists.specs.declared.version_places.names.VersionPlace.{VersionPlace}
use Rattle.scope_lists.proofs.VersionPlaces.Noted.{named, place_there}
use Rattle.scope_lists.proofs.version_places.names.VersionNames.get.Goals as goal

pub returns : goal.returns
returns c =
    let o = c.args.object.now in
    let at = λ (places : List (Option VersionPlace)). slice_index_or places c.args.index None in
    c.name_in.ensures ∙ ap (name_in o) (c.place_at.ensures ∙ ap at (c.self.view_is ∙ c.requires) ∙ place_there o c.args.index) ∙ named o c.args.index
