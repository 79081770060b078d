use Rattle.std.proofs.Common.{◌≡◌, ◌∙◌, sym, subst, arith}
use Rattle.std.specs.List.{All}
use Rattle.std.proofs.lemmas.Iterator.Adapters.{YieldsList-from_vec}
use Rattle.std.proofs.lemmas.Iterator.Consumers.{YieldsList-end}
use Rattle.std.proofs.lemmas.List.{map-id}
use Rattle.std.proofs.lemmas.List.Elements.{All-push}
use Rattle.word_rule.specs.declared.view.KeeperView.{KeeperView}
use Rattle.link_keeper.specs.Joining.{IsFront, joins}
use Rattle.link_keeper.specs.Keeping.{KeepsView}
use Rattle.link_keeper.proofs.Finished.{joined_view, joins_more, joins_none}
use Rattle.link_keeper.proofs.finishing.join_all.Goals as goal

pub loop-seat-init : goal.loop-seat-init
loop-seat-init g c = record { joined = joins_none c.args.keeper.now; fronts = λ k d low. absurd (omega (arith, low)) }

pub join-requires-clause-keeps : goal.join-requires-clause-keeps
join-requires-clause-keeps g c = subst (KeepsView g.J.RunNaming.setting g.J.RunNaming.journal) (sym c.loop-seat.invariant.joined)
    (joined_view c.records_stay.ensures.alike g.J.RunNaming.setting g.J.RunNaming.journal c.args.keeper.now c.loop-seat.yielded c.requires.keeps)

pub loop-seat-preserved : goal.loop-seat-preserved
loop-seat-preserved g c = record {
  joined = joins_more c.args.keeper.now c.loop-seat.keeper c.join.new.keeper c.loop-seat.yielded c.in-Some.seat c.loop-seat.invariant.joined c.join.ensures.joined;
  fronts = All-push (IsFront c.args.keeper.now.events) c.loop-seat.yielded c.in-Some.seat c.loop-seat.invariant.fronts
      (subst (λ (k : KeeperView). IsFront k.events c.in-Some.seat) c.loop-seat.invariant.joined c.join.ensures.front);
}

pub returns-clause-joined : goal.returns-clause-joined
returns-clause-joined g c =
    let all = YieldsList-end (YieldsList-from_vec c.args.seats.items (cc) (cc)) c.loop-seat.yielded c.loop-seat.seat-iterator c.loop-seat.yielded_by c.next.result c.next.new.self c.in-None.is c.next.ensures.steps in
    subst (λ l. c.loop-seat.keeper ≡ joins l c.args.keeper.now) (sym (map-id c.loop-seat.yielded) ∙ all.0) c.loop-seat.invariant.joined

pub returns-clause-fronts : goal.returns-clause-fronts
returns-clause-fronts g c =
    let all = YieldsList-end (YieldsList-from_vec c.args.seats.items (cc) (cc)) c.loop-seat.yielded c.loop-seat.seat-iterator c.loop-seat.yielded_by c.next.result c.next.new.self c.in-None.is c.next.ensures.steps in
    subst (All (IsFront c.args.keeper.now.events)) (sym (map-id c.loop-seat.yielded) ∙ all.0) c.loop-seat.invariant.fronts
