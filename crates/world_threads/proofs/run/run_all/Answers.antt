use Rattle.std.proofs.Common.{get_or, subst, ◌∙◌, arith}
use Rattle.hart_threads.specs.Run.{RunsToEnd}
use Rattle.world_threads.proofs.Started.{machine_harts}
use Rattle.world_threads.proofs.Ways.{all_ready, count, fresh_at, have_run, heard_are, numbers_are, others_ended, unrun_are}
use Rattle.world_threads.proofs.run.run_all.Goals as goal

pub start_harts-requires-clause-ready : goal.start_harts-requires-clause-ready
start_harts-requires-clause-ready g c =
    let off = c.requires.set_off in
    all_ready (λ r. r.seat) (λ r. r.hart.hart) (λ r. r.blocks) c.served_calls_are_legal.ensures.starts c.events_have_owners.ensures.start c.harts_fit.ensures.start c.served_calls_are_legal.ensures.entries
    g.J.RunNaming.setting off.0 g.J.RunNaming.journal off.1 c.args.entry c.args.runs.now off.2

pub start_harts-requires-clause-numbers : goal.start_harts-requires-clause-numbers
start_harts-requires-clause-numbers g c =
    let off = c.requires.set_off in
    numbers_are (λ r. r.seat) (λ r. r.hart.hart) (λ r. r.blocks) c.served_calls_are_legal.ensures.starts c.events_have_owners.ensures.start c.harts_fit.ensures.start c.served_calls_are_legal.ensures.entries
    g.J.RunNaming.setting off.0 g.J.RunNaming.journal off.1 c.args.entry c.args.runs.now off.2

pub start_harts-requires-clause-heard : goal.start_harts-requires-clause-heard
start_harts-requires-clause-heard g c =
    let off = c.requires.set_off in
    heard_are (λ r. r.seat) (λ r. r.hart.hart) (λ r. r.blocks) c.served_calls_are_legal.ensures.starts c.events_have_owners.ensures.start c.harts_fit.ensures.start c.served_calls_are_legal.ensures.entries
    g.J.RunNaming.setting off.0 g.J.RunNaming.journal off.1 c.args.entry c.args.runs.now off.2

pub start_harts-requires-clause-unrun : goal.start_harts-requires-clause-unrun
start_harts-requires-clause-unrun g c =
    let off = c.requires.set_off in
    unrun_are (λ r. r.seat) (λ r. r.hart.hart) (λ r. r.blocks) c.served_calls_are_legal.ensures.starts c.events_have_owners.ensures.start c.harts_fit.ensures.start c.served_calls_are_legal.ensures.entries
    g.J.RunNaming.setting off.0 g.J.RunNaming.journal off.1 c.args.entry c.args.runs.now off.2

pub start_harts-requires-clause-harts : goal.start_harts-requires-clause-harts
start_harts-requires-clause-harts g c =
    let off = c.requires.set_off in
    count (λ r. r.seat) (λ r. r.hart.hart) (λ r. r.blocks) c.served_calls_are_legal.ensures.starts c.events_have_owners.ensures.start c.harts_fit.ensures.start c.served_calls_are_legal.ensures.entries
    g.J.RunNaming.setting off.0 g.J.RunNaming.journal off.1 c.args.entry c.args.runs.now off.2

pub start_harts-requires-clause-fresh : goal.start_harts-requires-clause-fresh
start_harts-requires-clause-fresh g c = λ d.
    let off = c.requires.set_off in
    fresh_at (λ r. r.seat) (λ r. r.hart.hart) (λ r. r.blocks) c.served_calls_are_legal.ensures.starts c.events_have_owners.ensures.start c.harts_fit.ensures.start c.served_calls_are_legal.ensures.entries
    g.J.RunNaming.setting off.0 g.J.RunNaming.journal off.1 c.args.entry c.args.runs.now off.2 d
    (let all = count (λ r. r.seat) (λ r. r.hart.hart) (λ r. r.blocks) c.served_calls_are_legal.ensures.starts c.events_have_owners.ensures.start c.harts_fit.ensures.start c.served_calls_are_legal.ensures.entries
    g.J.RunNaming.setting off.0 g.J.RunNaming.journal off.1 c.args.entry c.args.runs.now off.2 in
    let many = machine_harts g.J.RunNaming.setting off.0 g.J.RunNaming.journal off.1 off.2.starts in
    omega (arith, all, many))

pub run_harts-first-requires-clause-harts : goal.run_harts-first-requires-clause-harts
run_harts-first-requires-clause-harts g c κs within =
    let off = c.requires.set_off in
    c.start_harts.auto.runs
    ∙ count (λ r. r.seat) (λ r. r.hart.hart) (λ r. r.blocks) c.served_calls_are_legal.ensures.starts c.events_have_owners.ensures.start c.harts_fit.ensures.start c.served_calls_are_legal.ensures.entries
    g.J.RunNaming.setting off.0 g.J.RunNaming.journal off.1 c.args.entry c.args.runs.now off.2

pub run_harts-first-requires-clause-alone : goal.run_harts-first-requires-clause-alone
run_harts-first-requires-clause-alone g c κs within = λ d.
    let apart = c.start_harts.ensures.apart in
    (apart.0, (get_or c.args.runs.now 0 d).seat, (get_or c.args.runs.now 0 d).hart.hart, apart.1 d)

pub ends_of-requires-clause-over : goal.ends_of-requires-clause-over
ends_of-requires-clause-over g c =
    others_ended (λ r. r.hart.hart) c.start_harts.new.runs c.run_harts-first.new.runs c.run_harts-first.auto.runs (λ i d behind low. (c.run_harts-first.ensures.others i d behind low).ended)

pub returns : goal.returns
returns g c = λ setup started off.
    let apart = c.start_harts.ensures.apart in
    let w = g.J.RunNaming.setting in
    let begun = g.J.RunNaming.journal in
    have_run (λ r. r.seat) (λ r. r.hart.hart) (λ r. r.blocks) c.served_calls_are_legal.ensures.starts c.events_have_owners.ensures.start c.harts_fit.ensures.start c.served_calls_are_legal.ensures.entries
    w setup begun started c.args.entry c.args.runs.now off c.ways_are_whole.ensures.others c.run_harts-first.new.runs (c.run_harts-first.auto.runs ∙ c.start_harts.auto.runs)
    c.run_harts-first.result c.ends_of.result apart.0
    (λ d. c.run_harts-first.ensures.first d apart.0 (get_or c.args.runs.now 0 d).seat (get_or c.args.runs.now 0 d).hart.hart (apart.1 d))
    (λ i d behind low. record {
      told = (get_or c.start_harts.new.runs i d).seat;
      is_told = apart.2 i d behind low;
      runs = subst (λ h. RunsToEnd w begun (get_or c.start_harts.new.runs i d).seat (get_or c.run_harts-first.new.runs i d).seat h.hart (get_or c.run_harts-first.new.runs i d).hart.hart
          (get_or c.run_harts-first.new.runs i d).blocks) (c.start_harts.ensures.others i d behind) (c.run_harts-first.ensures.others i d behind (omega (arith, low)));
    })
    (λ i d behind low. c.run_harts-first.ensures.fronts i d behind (omega (arith, low))) c.ends_of.ensures
