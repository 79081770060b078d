use Rattle.std.proofs.Common.{Bool, subst}
use Rattle.hart_threads.specs.Keeping.{ReadsBlock}
use Rattle.hart_threads.proofs.Running.{asked_between, asked_on, asked_same, kept_on}
use Rattle.hart_threads.proofs.Spending.{asked_spends, kept_spends}
use Rattle.hart_threads.proofs.run.HartRun.locate.Goals as goal

pub serve-requires-clause-between : goal.serve-requires-clause-between
serve-requires-clause-between g c =
    let seat = c.args.self.now.seat in
    let hart = c.args.self.now.hart.hart in
    let blocks = c.args.self.now.blocks in
    let reads = subst (λ (t : Bool). ReadsBlock seat c.kept_block-kept.new.seat blocks c.args.number c.args.offset hart c.kept_block-kept.new.hart.hart t) c.if-not-kept.true c.kept_block-kept.ensures in
    asked_between g.J.RunNaming.setting g.J.RunNaming.journal seat c.kept_block-kept.new.seat hart c.kept_block-kept.new.hart.hart blocks c.args.number c.args.offset c.requires.between reads

pub returns-then-not-kept-clause-runs : goal.returns-then-not-kept-clause-runs
returns-then-not-kept-clause-runs g c =
    let seat = c.args.self.now.seat in
    let hart = c.args.self.now.hart.hart in
    let blocks = c.args.self.now.blocks in
    let reads = subst (λ (t : Bool). ReadsBlock seat c.kept_block-kept.new.seat blocks c.args.number c.args.offset hart c.kept_block-kept.new.hart.hart t) c.if-not-kept.true c.kept_block-kept.ensures in
    asked_on c.trails_grow.ensures.stay c.trails_grow.ensures.behind g.J.RunNaming.setting g.J.RunNaming.journal seat c.kept_block-kept.new.seat c.serve.new.seat hart c.kept_block-kept.new.hart.hart c.serve.new.hart.hart
    blocks c.serve.new.blocks c.args.number c.args.offset c.requires.between c.requires.runs c.number.ensures.lane c.requires.asks reads c.serve.ensures.turn c.serve.ensures.between

pub returns-else-not-kept-clause-runs : goal.returns-else-not-kept-clause-runs
returns-else-not-kept-clause-runs g c =
    let seat = c.args.self.now.seat in
    let hart = c.args.self.now.hart.hart in
    let blocks = c.args.self.now.blocks in
    let reads = subst (λ (t : Bool). ReadsBlock seat c.kept_block-kept.new.seat blocks c.args.number c.args.offset hart c.kept_block-kept.new.hart.hart t) c.if-not-kept.false c.kept_block-kept.ensures in
    kept_on c.own_moves_fit.ensures c.turns_append.ensures.finals c.trails_grow.ensures.stay c.trails_grow.ensures.behind g.J.RunNaming.setting g.J.RunNaming.journal seat c.kept_block-kept.new.seat hart c.kept_block-kept.new.hart.hart blocks c.args.number c.args.offset
    c.requires.between c.requires.runs c.number.ensures.lane c.requires.asks reads

pub returns-then-not-kept-clause-spends : goal.returns-then-not-kept-clause-spends
returns-then-not-kept-clause-spends g c =
    let seat = c.args.self.now.seat in
    let hart = c.args.self.now.hart.hart in
    let blocks = c.args.self.now.blocks in
    let reads = subst (λ (t : Bool). ReadsBlock seat c.kept_block-kept.new.seat blocks c.args.number c.args.offset hart c.kept_block-kept.new.hart.hart t) c.if-not-kept.true c.kept_block-kept.ensures in
    asked_spends c.turns_are_counted.ensures.count g.J.RunNaming.setting seat c.kept_block-kept.new.seat c.serve.new.seat hart c.kept_block-kept.new.hart.hart c.serve.new.hart.hart c.requires.fuel
    (asked_same seat c.kept_block-kept.new.seat hart c.kept_block-kept.new.hart.hart blocks c.args.number c.args.offset reads) c.serve.ensures.turn

pub returns-else-not-kept-clause-spends : goal.returns-else-not-kept-clause-spends
returns-else-not-kept-clause-spends g c =
    let seat = c.args.self.now.seat in
    let hart = c.args.self.now.hart.hart in
    let blocks = c.args.self.now.blocks in
    let reads = subst (λ (t : Bool). ReadsBlock seat c.kept_block-kept.new.seat blocks c.args.number c.args.offset hart c.kept_block-kept.new.hart.hart t) c.if-not-kept.false c.kept_block-kept.ensures in
    kept_spends seat c.kept_block-kept.new.seat hart c.kept_block-kept.new.hart.hart blocks c.args.number c.args.offset c.requires.fuel reads
