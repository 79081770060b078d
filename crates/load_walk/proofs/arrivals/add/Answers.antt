use Rattle.std.proofs.lemmas.Result.{on_ok_weaker}
use Rattle.scope_rule.specs.declared.arrival.Arrival.{Arrival}
use Rattle.load_walk.proofs.Lookups.{place_pushed}
use Rattle.load_walk.proofs.arrivals.add.Goals as goal

pub returns-clause-places : goal.returns-clause-places
returns-clause-places c =
    let noted = rw (c.as_bytes.ensures, c.len.ensures) at c.in_ok-add.ensures in
    on_ok_weaker c.push.result (λ is. rw is (place_pushed (λ (o : Arrival). o.path) (λ (o : Arrival). o.object) c.args.objects.now c.args.arrival c.args.places.now c.add.new.self c.requires noted)) c.push.ensures.ok
