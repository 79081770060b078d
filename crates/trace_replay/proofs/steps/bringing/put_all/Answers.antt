use Rattle.std.proofs.Common.{◌<◌, Some, length, sym, ap, ◌∙◌, arith}
use Rattle.std.proofs.lemmas.Iterator.Adapters.{YieldsList-from_vec}
use Rattle.std.proofs.lemmas.Iterator.Consumers.{YieldsList-turn}
use Rattle.std.proofs.lemmas.List.{length_push}
use Rattle.std.proofs.lemmas.Option.{slice_get-get_or}
use Rattle.trace_replay.specs.Opened.{chosen_by}
use Rattle.trace_replay.specs.declared.steps.bringing.NewChoices.{NewChoices}
use Rattle.trace_replay.proofs.Pushed.{map_pushed}
use Rattle.trace_replay.proofs.steps.bringing.put_all.Goals as goal

pub valued-requires : goal.valued-requires
valued-requires c =
    let turn = YieldsList-turn (YieldsList-from_vec c.args.news.items (cc) (cc)) c.loop-new.yielded c.loop-new.new-iterator c.loop-new.yielded_by c.next.result c.next.new.self c.in-Some.new
    c.in-Some.is c.next.ensures.steps in
    c.requires.roomy (length c.loop-new.yielded) c.in-Some.new (slice_get-get_or c.args.news.items (length c.loop-new.yielded) c.in-Some.new turn.0 ∙ ap (λ (n : NewChoices). Some n) (sym turn.1))

pub push_reserved-requires : goal.push_reserved-requires
push_reserved-requires c =
    let turn = YieldsList-turn (YieldsList-from_vec c.args.news.items (cc) (cc)) c.loop-new.yielded c.loop-new.new-iterator c.loop-new.yielded_by c.next.result c.next.new.self c.in-Some.new
    c.in-Some.is c.next.ensures.steps in
    let fewer : length c.loop-new.yielded < length c.args.news.items = turn.0 in
    omega (arith, fewer, c.loop-new.invariant.room, c.args.news.ok.0)

pub loop-new-preserved : goal.loop-new-preserved
loop-new-preserved c = record {
  items = λ s are. c.push_reserved.ensures.items
      ∙ map_pushed (chosen_by s) c.args.chosen.now.items c.loop-new.chosen.items c.loop-new.yielded c.in-Some.new c.valued.result (c.loop-new.invariant.items s are) (c.valued.ensures s are);
  room = omega (arith, c.push_reserved.ensures.len, c.push_reserved.ensures.capacity, c.loop-new.invariant.room, length_push c.loop-new.yielded c.in-Some.new);
}
