use Rattle.std.proofs.Common.{◌<◌, ◌++◌, [], ◌∷◌, Some, length, take, map, sym, ap, subst, ◌∙◌, arith}
use Rattle.std.specs.List.{Contains, slice_get}
use Rattle.std.proofs.lemmas.Iterator.Adapters.{YieldsList-from_vec}
use Rattle.std.proofs.lemmas.Iterator.Consumers.{YieldsList-end, YieldsList-turn}
use Rattle.std.proofs.lemmas.List.{length_push, map-id}
use Rattle.std.proofs.lemmas.Option.{slice_get-get_or}
use Rattle.hart_moves.specs.Starting.{starting_hart}
use Rattle.word_rule.specs.declared.view.KeeperView.{KeeperView}
use Rattle.world_threads.specs.Setting.{KeepsNone, hears}
use Rattle.world_threads.proofs.Ways.{new_length}
use Rattle.world_threads.proofs.Setting.{each_pushed, more_taken, new_calling, pushed, take_whole}
use Rattle.world_threads.proofs.setting_up.runs_at.Goals as goal

pub bounds-entries-len : goal.bounds-entries-len
bounds-entries-len g c =
    let turn = YieldsList-turn (YieldsList-from_vec c.args.seats (cc) (cc)) c.loop-seat.yielded c.loop-seat.seat-iterator c.loop-seat.yielded_by c.next.result c.next.new.self c.in-Some.seat
    c.in-Some.is c.next.ensures.steps in
    let low : length c.loop-seat.yielded < length c.args.seats = turn.0 in
    let place = c.len.ensures ∙ c.loop-seat.invariant.long in
    omega (arith, low, ap length c.requires.seats, new_length (length c.args.entries.now), place)

pub run_at-requires-clause-seat : goal.run_at-requires-clause-seat
run_at-requires-clause-seat g c =
    let turn = YieldsList-turn (YieldsList-from_vec c.args.seats (cc) (cc)) c.loop-seat.yielded c.loop-seat.seat-iterator c.loop-seat.yielded_by c.next.result c.next.new.self c.in-Some.seat
    c.in-Some.is c.next.ensures.steps in
    new_calling (length c.args.entries.now) (length c.loop-seat.yielded) c.in-Some.seat
    (ap (λ l. slice_get l (length c.loop-seat.yielded)) (sym c.requires.seats) ∙ slice_get-get_or c.args.seats (length c.loop-seat.yielded) c.in-Some.seat turn.0 ∙ ap (λ x. Some x) (sym turn.1))

pub loop-seat-preserved : goal.loop-seat-preserved
loop-seat-preserved g c = record {
  keeper = c.run_at.ensures.keeper ∙ c.loop-seat.invariant.keeper;
  long = omega (arith, c.in_ok-push.ensures.len, length_push c.loop-seat.yielded c.in-Some.seat, c.loop-seat.invariant.long);
  seats = ap (map (λ r. r.seat)) c.in_ok-push.ensures.items
      ∙ pushed (λ r. r.seat) (hears c.args.keeper.now.events) c.loop-seat.runs.items c.loop-seat.yielded c.run_at.result c.in-Some.seat c.loop-seat.invariant.seats
      (c.run_at.ensures.seat ∙ ap (λ (k : KeeperView). hears k.events c.in-Some.seat) c.loop-seat.invariant.keeper);
  harts = ap (map (λ r. r.hart.hart)) c.in_ok-push.ensures.items
      ∙ more_taken (λ r. r.hart.hart) (starting_hart c.args.fuel) c.loop-seat.runs.items c.args.entries.now c.run_at.result (length c.loop-seat.yielded) c.len.result
      (length (c.loop-seat.yielded ++ c.in-Some.seat ∷ [])) (record { pc = 0; sp = 0; tp = 0; a0 = 0 }) c.loop-seat.invariant.harts c.run_at.ensures.hart (c.len.ensures ∙ c.loop-seat.invariant.long)
      (length_push c.loop-seat.yielded c.in-Some.seat) (let turn = YieldsList-turn (YieldsList-from_vec c.args.seats (cc) (cc)) c.loop-seat.yielded c.loop-seat.seat-iterator c.loop-seat.yielded_by c.next.result c.next.new.self c.in-Some.seat
      c.in-Some.is c.next.ensures.steps in
      let low : length c.loop-seat.yielded < length c.args.seats = turn.0 in
      omega (arith, low, ap length c.requires.seats, new_length (length c.args.entries.now)));
  blocks = λ b there.
      each_pushed KeepsNone (λ r. r.blocks) c.loop-seat.runs.items c.run_at.result c.loop-seat.invariant.blocks c.run_at.ensures.blocks b
      (subst (λ l. Contains (map (λ r. r.blocks) l) b) c.in_ok-push.ensures.items there);
}

pub returns-clause-seats : goal.returns-clause-seats
returns-clause-seats g c =
    let all = YieldsList-end (YieldsList-from_vec c.args.seats (cc) (cc)) c.loop-seat.yielded c.loop-seat.seat-iterator c.loop-seat.yielded_by c.next.result c.next.new.self c.in-None.is c.next.ensures.steps in
    c.loop-seat.invariant.seats ∙ ap (map (hears c.args.keeper.now.events)) (sym (map-id c.loop-seat.yielded) ∙ all.0 ∙ c.requires.seats)

pub returns-clause-harts : goal.returns-clause-harts
returns-clause-harts g c =
    let all = YieldsList-end (YieldsList-from_vec c.args.seats (cc) (cc)) c.loop-seat.yielded c.loop-seat.seat-iterator c.loop-seat.yielded_by c.next.result c.next.new.self c.in-None.is c.next.ensures.steps in
    c.loop-seat.invariant.harts ∙ ap (map (starting_hart c.args.fuel))
    (ap (λ n. take n c.args.entries.now) (all.1 ∙ ap length c.requires.seats ∙ new_length (length c.args.entries.now)) ∙ take_whole c.args.entries.now)
