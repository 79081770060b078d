use Rattle.link_spaces.specs.PendingClosingsPart.Pending.{is_of}
use Rattle.link_spaces.proofs.PendingClosingsPart.Taken.{found_at}
use Rattle.std.proofs.Common.{◌≡◌, true, sym, ◌∙◌}
use Rattle.link_spaces.proofs.pending_closings.closings.place_of.Goals as goal

pub returns-then-is_of-clause-found : goal.returns-then-is_of-clause-found
returns-then-is_of-clause-found c =
    let is : is_of c.args.hart c.args.set.now c.index-closings-place.result ≡ true = sym c.is_of.ensures ∙ c.if-is_of.true in
    found_at (is_of c.args.hart c.args.set.now) c.args.closings.now c.loop-place.place c.index-closings-place.result c.loop-place-test.true c.index-closings-place.is is c.loop-place.invariant
