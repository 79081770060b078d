use Rattle.std.proofs.Common.{◌<◌, ◌≤◌, ◌∙◌, arith}
use Rattle.scope_lists.proofs.VersionPlaces.Noted.{place_in, place_past}
use Rattle.scope_lists.proofs.version_places.names.place_at.Goals as goal

pub returns-then-from-past : goal.returns-then-from-past
returns-then-from-past c =
    let below : c.args.index < c.args.past = omega (arith, c.from.ensures, c.if-from-past.true) in
    c.get.ensures ∙ place_in c.args.noted.now c.args.past c.args.index below

pub returns-else-from-past : goal.returns-else-from-past
returns-else-from-past c =
    let past_all : c.args.past ≤ c.args.index = omega (arith, c.from.ensures, c.if-from-past.false) in
    place_past c.args.noted.now c.args.past c.args.index past_all
