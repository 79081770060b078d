use Rattle.std.proofs.Common.{◌∙◌, ap, sym}
use Rattle.load_walk.specs.Lookup.{place_of}
use Rattle.load_walk.proofs.Lookups.{place_added}
use Rattle.load_walk.proofs.lookup.NamePlaces.add.Goals as goal

pub returns-in_ok-insert : goal.returns-in_ok-insert
returns-in_ok-insert c = λ other.
    ap (λ places. place_of places other) c.in_ok-insert.ensures.entries
    ∙ rw (← c.in_ok-name.ensures.items) (place_added c.args.self.now.firsts.entries c.in_ok-name.name other c.args.place
    (rw c.in_ok-name.ensures.items (sym c.contains_key.ensures ∙ c.if-not-contains_key.true)))
