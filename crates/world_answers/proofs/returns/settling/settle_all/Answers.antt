use Rattle.std.proofs.Common.{◌≡◌, ◌++◌, ◌<◌, List, take, length, get_or, sym, ap, subst, ◌∙◌, arith}
use Rattle.history_event.specs.declared.event.Event.{Event}
use Rattle.history_state.specs.Lemmas.InPlace.{changed_more}
use Rattle.link_state.specs.Table.{LinkTable}
use Rattle.hart_seat.specs.Table.{HartTable}
use Rattle.world_memory.specs.TurnAnswers.Following.{MayFollowAll}
use Rattle.world_turns.specs.World.{settled_by, settling}
use Rattle.world_answers.specs.ReturnsPart.Settling.{freed_in, harts_in}
use Rattle.world_answers.proofs.ReturnsPart.Settled.{events_grow, item_of, next_may}
use Rattle.world_answers.proofs.returns.settling.settle_all.Goals as goal

pub settle_one-requires : goal.settle_one-requires
settle_one-requires c =
    let lt : c.loop-hart.hart-index < length c.args.harts.now = omega arith in
    subst (λ (t : LinkTable). MayFollowAll t.harts t.events (settled_by (get_or c.loop-hart.harts c.loop-hart.hart-index c.hart-item.result).hart.resolving))
    (sym c.loop-hart.invariant.journal)
    (subst (λ (h : HartTable). MayFollowAll c.args.state.now.harts
    (c.args.state.now.events ++ settling (harts_in (take c.loop-hart.hart-index c.args.harts.now))) (settled_by h.hart.resolving))
    (sym (ap (λ (hs : List HartTable). get_or hs c.loop-hart.hart-index c.hart-item.result) c.loop-hart.invariant.harts
    ∙ item_of c.args.harts.now c.loop-hart.hart-index c.hart-item.result))
    (next_may c.args.state.now.harts c.args.state.now.events c.args.harts.now c.loop-hart.hart-index c.hart-item.result lt c.requires))

pub loop-hart-preserved : goal.loop-hart-preserved
loop-hart-preserved c =
    let lt : c.loop-hart.hart-index < length c.args.harts.now = omega arith in
    let item : get_or c.loop-hart.harts c.loop-hart.hart-index c.hart-item.result ≡ get_or c.args.harts.now c.loop-hart.hart-index c.hart-item.result =
    ap (λ (hs : List HartTable). get_or hs c.loop-hart.hart-index c.hart-item.result) c.loop-hart.invariant.harts
    ∙ item_of c.args.harts.now c.loop-hart.hart-index c.hart-item.result in
    record {
      harts = changed_more freed_in c.args.harts.now c.loop-hart.harts c.loop-hart.hart-index c.settle_one.new.hart c.hart-item.result lt c.loop-hart.invariant.harts
          c.settle_one.ensures.hart;
      journal =
          c.settle_one.ensures.journal
          ∙ ap (λ (t : LinkTable). record t { events = t.events ++ settled_by (get_or c.loop-hart.harts c.loop-hart.hart-index c.hart-item.result).hart.resolving })
          c.loop-hart.invariant.journal
          ∙ ap (λ (h : HartTable). record c.args.state.now {
            events = (c.args.state.now.events ++ settling (harts_in (take c.loop-hart.hart-index c.args.harts.now))) ++ settled_by h.hart.resolving;
          }) item
          ∙ ap (λ (es : List Event). record c.args.state.now { events = es })
          (events_grow c.args.state.now.events c.args.harts.now c.loop-hart.hart-index c.hart-item.result lt);
    }
