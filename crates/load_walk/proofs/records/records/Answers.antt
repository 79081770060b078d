use Rattle.std.proofs.Common.{◌∙◌, sym}
use Rattle.std.proofs.lemmas.Iterator.Adapters.{YieldsList-from_vec}
use Rattle.std.proofs.lemmas.Iterator.Consumers.{YieldsList-end}
use Rattle.std.proofs.lemmas.List.{map-id}
use Rattle.load_walk.proofs.Planning.{all_of}
use Rattle.load_walk.proofs.records.records.Goals as goal

pub returns : goal.returns
returns c =
    let all = YieldsList-end (YieldsList-from_vec c.args.arrivals (cc) (cc)) c.loop-arrival.yielded c.loop-arrival.arrival-iterator c.loop-arrival.yielded_by c.next.result c.next.new.self c.in-None.is c.next.ensures.steps in
    all_of _ _ _ _ _ _ _ c.loop-arrival.invariant (sym (map-id c.loop-arrival.yielded) ∙ all.0)
