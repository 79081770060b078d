use Rattle.std.proofs.Common.{ℕ, false, List, refl, sym, subst, arith}
use Rattle.link_open_plan.specs.Startup.{run_of}
use Rattle.world_answers.specs.GuestsPart.GuestWorlds.Worlds.{MayBeAt, world_of}
use Rattle.plain_world.specs.Started.{StartsAt}
use Rattle.plain_world.proofs.Started.{at_start, starts_at}
use Rattle.plain_world.proofs.starting.set_up.Goals as goal

pub parts_of-requires-clause-starts : goal.parts_of-requires-clause-starts
parts_of-requires-clause-starts c = (run_of c.args.setup.now c.requires.starts.0, c.args.setup.now, c.requires.starts.1)

pub invariant_of-result : goal.invariant_of-result
invariant_of-result c =
    let setup = c.args.setup.now in
    let files = c.requires.starts.0 in
    let at_first : StartsAt (run_of setup files) setup (world_of c.args.state c.in_ok-memory.memory c.in_ok-memory.harts.items) c.in_ok-memory.entry =
    starts_at setup files c.args.state c.args.state c.args.started c.in_ok-memory.memory c.in_ok-memory.harts.items c.in_ok-memory.entry c.requires.starts.1 refl
    c.in_ok-memory.ensures.memory c.in_ok-memory.ensures.harts c.in_ok-memory.ensures.entry in
    let many = c.requires.harts in
    let capacity = c.in_ok-ends.ensures.capacity in
    let counted = c.harts.ensures in
    record {
      some = omega (arith, many);
      at = subst (λ (folders : List (List ℕ)). MayBeAt c.args.state.harts folders false (world_of c.args.state c.in_ok-memory.memory c.in_ok-memory.harts.items))
          (sym c.in_ok-folders.ensures)
          (at_start c.runs_stay.ensures.start setup files c.args.state c.args.state c.in_ok-memory.memory c.in_ok-memory.harts.items at_first.starts refl
          c.requires.harts c.requires.over);
      no_ends = c.in_ok-ends.ensures.items;
      room = omega (arith, capacity, counted);
    }

pub returns-clause-starts : goal.returns-clause-starts
returns-clause-starts c = λ files starts.
    starts_at c.args.setup.now files c.args.state c.args.state c.args.started c.in_ok-memory.memory c.in_ok-memory.harts.items c.in_ok-memory.entry starts refl
    c.in_ok-memory.ensures.memory c.in_ok-memory.ensures.harts c.in_ok-memory.ensures.entry
