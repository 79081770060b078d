use Rattle.std.proofs.Common.{◌≡◌, true, eqb, rules}
use Rattle.history_journal.proofs.LinkHarts.Removed.{found_at}
use Rattle.history_journal.proofs.link_harts.kept.place_of.Goals as goal

pub returns-then-eq-clause-found : goal.returns-then-eq-clause-found
returns-then-eq-clause-found c =
    let is : eqb c.index-kept-place.result.hart c.args.hart ≡ true = search rules in
    found_at c.args.hart c.args.kept.now c.loop-place.place c.index-kept-place.result c.loop-place-test.true c.index-kept-place.is is c.loop-place.invariant
