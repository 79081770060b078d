use Rattle.std.proofs.Common.{ap, sym, ◌∙◌}
use Rattle.history_state.specs.State.{empty_state}
use Rattle.hart_moves.specs.Harts.{HartState}
use Rattle.hart_threads.proofs.Running.{end_calm, end_heard, end_on, end_run, ending, quiet_on, none_of}
use Rattle.hart_threads.proofs.Spending.{ending_spends, quiet_spends}
use Rattle.hart_threads.proofs.run.HartRun.quiet.Goals as goal

pub end-requires-clause-heard : goal.end-requires-clause-heard
end-requires-clause-heard g c =
    end_heard g.J.RunNaming.setting g.J.RunNaming.journal c.args.self.now.seat c.take_quiet-turned.new.seat c.args.self.now.hart.hart c.take_quiet-turned.new.hart.hart c.args.self.now.blocks c.take_quiet-turned.result c.in-Some.reason
    c.requires.between c.requires.runs c.take_quiet-turned.ensures (sym c.end_of.ensures ∙ c.in-Some.is)

pub end-requires-clause-run : goal.end-requires-clause-run
end-requires-clause-run g c =
    end_run g.J.RunNaming.setting g.J.RunNaming.journal c.args.self.now.seat c.take_quiet-turned.new.seat c.args.self.now.hart.hart c.take_quiet-turned.new.hart.hart c.args.self.now.blocks c.take_quiet-turned.result c.in-Some.reason
    c.requires.between c.requires.runs c.take_quiet-turned.ensures (sym c.end_of.ensures ∙ c.in-Some.is)

pub end-requires-clause-calling : goal.end-requires-clause-calling
end-requires-clause-calling g c =
    end_calm g.J.RunNaming.setting g.J.RunNaming.journal c.args.self.now.seat c.take_quiet-turned.new.seat c.args.self.now.hart.hart c.take_quiet-turned.new.hart.hart c.args.self.now.blocks c.take_quiet-turned.result c.in-Some.reason
    c.requires.between c.requires.runs c.take_quiet-turned.ensures (sym c.end_of.ensures ∙ c.in-Some.is) c.requires.own

pub returns-in-Some-clause-runs : goal.returns-in-Some-clause-runs
returns-in-Some-clause-runs g c =
    end_on c.trails_grow.ensures.stay c.trails_grow.ensures.behind g.J.RunNaming.setting g.J.RunNaming.journal c.args.self.now.seat c.take_quiet-turned.new.seat c.end.new.seat
    c.args.self.now.hart.hart c.take_quiet-turned.new.hart.hart c.end.new.hart.hart c.args.self.now.blocks c.in-Some.reason c.requires.between c.requires.runs c.requires.own
    c.take_quiet-turned.result c.take_quiet-turned.ensures (sym c.end_of.ensures ∙ c.in-Some.is)
    c.end.ensures.turn c.end.ensures.heard c.end.ensures.calling (c.end.ensures.blocks c.args.self.now.blocks)

pub returns-in_default-clause-runs : goal.returns-in_default-clause-runs
returns-in_default-clause-runs g c =
    quiet_on c.own_moves_fit.ensures c.turns_append.ensures.finals c.trails_grow.ensures.stay c.trails_grow.ensures.behind g.J.RunNaming.setting g.J.RunNaming.journal c.args.self.now.seat c.take_quiet-turned.new.seat
    c.args.self.now.hart.hart c.take_quiet-turned.new.hart.hart c.args.self.now.blocks c.take_quiet-turned.result c.requires.between c.requires.runs c.requires.own c.take_quiet-turned.ensures
    (sym c.end_of.ensures ∙ none_of c.end_of.result c.in_default.not-Some)

pub returns-in-Some-clause-spends : goal.returns-in-Some-clause-spends
returns-in-Some-clause-spends g c =
    let before = c.args.self.now.hart.hart in
    let spent = ending c.args.self.now.seat c.take_quiet-turned.new.seat before c.take_quiet-turned.new.hart.hart c.take_quiet-turned.result c.in-Some.reason
    c.take_quiet-turned.ensures (sym c.end_of.ensures ∙ c.in-Some.is) empty_state in
    ending_spends before c.take_quiet-turned.new.hart.hart c.end.new.hart.hart c.in-Some.reason (ap (λ (e : HartState). e.fuel) spent.1) c.end.ensures.turn.left

pub returns-in_default-clause-spends : goal.returns-in_default-clause-spends
returns-in_default-clause-spends g c =
    quiet_spends c.turns_are_counted.ensures.count g.J.RunNaming.setting c.args.self.now.seat c.take_quiet-turned.new.seat c.args.self.now.hart.hart c.take_quiet-turned.new.hart.hart
    c.take_quiet-turned.result (c.requires.own empty_state) c.take_quiet-turned.ensures (sym c.end_of.ensures ∙ none_of c.end_of.result c.in_default.not-Some)
