use Rattle.scope_lists.proofs.VersionPlaces.Noted.{all_noted}
use Rattle.scope_lists.proofs.version_places.names.VersionNames.of.Goals as goal

pub returns : goal.returns
returns c = all_noted c.args.object.now c.in_ok-noted.noted c.indexes_of-past.result c.indexes_of-past.ensures c.in_ok-noted.ensures
