use Rattle.link_names.proofs.Standing.{at_index, some_kept}
use Rattle.link_names.proofs.kept.listed_home.Goals as goal

pub have-requires : goal.have-requires
have-requires c =
    some_kept c.args.namespaces.now c.args.lists.now c.loop-place.place c.index-namespaces-place.result c.requires
    (at_index c.args.namespaces.now c.loop-place.place c.index-namespaces-place.result c.loop-place-test.true c.index-namespaces-place.is)
