use Rattle.std.proofs.Common.{◌<◌, ◌≤◌, ℕ, length, get_or, slice_set, sym, subst, ◌∙◌, arith}
use Rattle.history_state.specs.After.{after}
use Rattle.history_state.specs.Owed.{times_ended}
use Rattle.word_rule.specs.Views.{BeginsWith}
use Rattle.hart_linker.specs.Between.{IsBetweenTurns}
use Rattle.hart_moves.specs.Starting.{starting_registers}
use Rattle.hart_threads.specs.Ends.{IsThrough, RanFirst}
use Rattle.hart_threads.specs.Run.{RunsToEnd}
use Rattle.hart_threads.proofs.Apart.{on_whole, ran_first}
use Rattle.hart_threads.proofs.Hearing.{front_of, told_to_end}
use Rattle.hart_threads.proofs.Once.{ended_once}
use Rattle.hart_threads.proofs.Slices.{first_is, first_set, other_set}
use Rattle.hart_threads.proofs.Whole.{StandsAt}
use Rattle.hart_threads.proofs.harts.run_harts.Goals as goal

pub finish-requires-clause-between : goal.finish-requires-clause-between
finish-requires-clause-between g c =
    let w = g.J.RunNaming.setting in
    let begun = g.J.RunNaming.journal in
    let e = c.index-runs-0.result in
    let x = told_to_end c.trails_grow.ensures.stay w begun (get_or c.tell_all.new.runs 0 e).seat (get_or c.args.runs.now 0 e).seat (get_or c.run_all.new.runs 0 e).seat (get_or c.tell_all.new.runs 0 e).seat
    (get_or c.args.runs.now 0 e).hart.hart (get_or c.run_all.new.runs 0 e).hart.hart (get_or c.run_all.new.runs 0 e).blocks (c.run_all.ensures 0 e c.requires.some) (c.tell_all.ensures.told 0 e (omega arith)) in
    subst (λ h. IsBetweenTurns w begun (get_or c.tell_all.new.runs 0 e).seat h.hart (get_or c.tell_all.new.runs 0 e).blocks) (sym (c.tell_all.ensures.harts 0 e))
    (subst (λ b. IsBetweenTurns w begun (get_or c.tell_all.new.runs 0 e).seat (get_or c.run_all.new.runs 0 e).hart.hart b) (sym (c.tell_all.ensures.blocks 0 e)) x.runs.between)

pub finish-requires-clause-first : goal.finish-requires-clause-first
finish-requires-clause-first g c =
    let e = c.index-runs-0.result in
    let y = c.requires.alone e in
    (on_whole c.trails_grow.ensures.stay g.J.RunNaming.setting g.J.RunNaming.journal y.0 y.1 (get_or c.args.runs.now 0 e).seat (get_or c.run_all.new.runs 0 e).seat (get_or c.tell_all.new.runs 0 e).seat
    y.2 (get_or c.args.runs.now 0 e).hart.hart (get_or c.run_all.new.runs 0 e).hart.hart (get_or c.run_all.new.runs 0 e).blocks y.3 (c.run_all.ensures 0 e c.requires.some)
    (c.tell_all.ensures.told 0 e (omega arith)).hears).same ∙ y.3.first

pub finish-requires-clause-once : goal.finish-requires-clause-once
finish-requires-clause-once g c =
    let w = g.J.RunNaming.setting in
    let e = c.index-runs-0.result in
    let y = c.requires.alone e in
    let now = (get_or c.tell_all.new.runs 0 e).seat in
    let z = (get_or c.run_all.new.runs 0 e).hart.hart in
    let whole = on_whole c.trails_grow.ensures.stay w g.J.RunNaming.journal y.0 y.1 (get_or c.args.runs.now 0 e).seat (get_or c.run_all.new.runs 0 e).seat now
    y.2 (get_or c.args.runs.now 0 e).hart.hart z (get_or c.run_all.new.runs 0 e).blocks y.3 (c.run_all.ensures 0 e c.requires.some) (c.tell_all.ensures.told 0 e (omega arith)).hears in
    subst (λ (n : ℕ). times_ended n (after now.heard).endings ≤ 1) (whole.same ∙ y.3.first)
    (ended_once c.turns_append.ensures.events c.turns_append.ensures.no_finals w y.1 now y.2 z y.3.fits y.3.fresh.runs y.3.fresh.no_finals whole)

pub returns-clause-first : goal.returns-clause-first
returns-clause-first g c = λ d alone before b x.
    let w = g.J.RunNaming.setting in
    let begun = g.J.RunNaming.journal in
    let registers = starting_registers c.args.entry in
    let told_some : 0 < length c.tell_all.new.runs = omega arith in
    let last = (get_or c.tell_all.new.runs 0 d).seat in
    let z = (get_or c.run_all.new.runs 0 d).hart.hart in
    let is_last = first_is c.tell_all.new.runs d c.index-runs-0.result told_some in
    subst (λ y. RanFirst w begun alone registers before y.seat b c.finish.result) (sym (first_set c.tell_all.new.runs c.finish.new.self d told_some))
    (ran_first c.trails_grow.ensures.stay w begun alone before (get_or c.args.runs.now 0 d).seat (get_or c.run_all.new.runs 0 d).seat last b (get_or c.args.runs.now 0 d).hart.hart z
    (get_or c.run_all.new.runs 0 d).blocks x (c.run_all.ensures 0 d c.requires.some) (c.tell_all.ensures.told 0 d (omega arith)).hears
    c.turns_append.ensures.events c.turns_append.ensures.no_finals registers c.finish.new.self.seat c.finish.result (c.requires.over d)
    (λ start own same stands.
    let here_told = subst (λ h. StandsAt w start own last h.hart) (sym (c.tell_all.ensures.harts 0 d)) stands in
    let here = subst (λ y. StandsAt w start own y.seat y.hart.hart) is_last here_told in
    c.finish.ensures.whole start own same here.low here.new here.runs)
    (subst (λ y. IsThrough w begun y.seat c.finish.new.self.seat) (sym is_last) c.finish.ensures.through))

pub returns-clause-others : goal.returns-clause-others
returns-clause-others g c = λ i d some inside.
    let w = g.J.RunNaming.setting in
    let begun = g.J.RunNaming.journal in
    let before = get_or c.args.runs.now i d in
    let x = told_to_end c.trails_grow.ensures.stay w begun (get_or c.tell_all.new.runs 0 d).seat before.seat (get_or c.run_all.new.runs i d).seat (get_or c.tell_all.new.runs i d).seat
    before.hart.hart (get_or c.run_all.new.runs i d).hart.hart (get_or c.run_all.new.runs i d).blocks (c.run_all.ensures i d inside) (c.tell_all.ensures.told i d (omega (arith, inside))) in
    let y = subst (λ h. RunsToEnd w begun before.seat (get_or c.tell_all.new.runs i d).seat before.hart.hart h.hart (get_or c.tell_all.new.runs i d).blocks) (sym (c.tell_all.ensures.harts i d))
    (subst (λ b. RunsToEnd w begun before.seat (get_or c.tell_all.new.runs i d).seat before.hart.hart (get_or c.run_all.new.runs i d).hart.hart b) (sym (c.tell_all.ensures.blocks i d)) x) in
    subst (λ z. RunsToEnd w begun before.seat z.seat before.hart.hart z.hart.hart z.blocks) (sym (other_set c.tell_all.new.runs c.finish.new.self i d some)) y

pub returns-clause-fronts : goal.returns-clause-fronts
returns-clause-fronts g c = λ i d some inside.
    let told_some : 0 < length c.tell_all.new.runs = omega arith in
    let told = c.tell_all.ensures.told i d (omega (arith, inside)) in
    subst (λ x. BeginsWith x.seat.heard (get_or (slice_set c.tell_all.new.runs 0 c.finish.new.self) i d).seat.heard) (sym (first_set c.tell_all.new.runs c.finish.new.self d told_some))
    (subst (λ x. BeginsWith c.finish.new.self.seat.heard x.seat.heard) (sym (other_set c.tell_all.new.runs c.finish.new.self i d some))
    (front_of c.finish.new.self.seat (get_or c.tell_all.new.runs 0 d).seat (get_or c.tell_all.new.runs i d).seat
    (subst (λ x. BeginsWith c.finish.new.self.seat.heard x.seat.heard) (sym (first_is c.tell_all.new.runs d c.index-runs-0.result told_some)) c.finish.ensures.through.longer) told.front))
