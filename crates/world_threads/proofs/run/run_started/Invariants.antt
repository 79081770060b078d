use Rattle.link_open_plan.specs.Startup.{run_of}
use Rattle.world_answers.specs.GuestsPart.Counting.{counts_at}
use Rattle.world_threads.proofs.run.run_started.Given as goal

-- the run names its memory, and the name says which run it is
abbrev pub ghosts-run_named-J-RunNaming : goal.ghosts-run_named-J-RunNaming
ghosts-run_named-J-RunNaming g a = record {
  setting = run_of a.setup.now (g.L.Library.files a.library);
  journal = a.state.events;
  counts = counts_at g.L.Library.faults g.L.Library.misses a.library;
}

abbrev pub ghosts-run_named-J-Naming : goal.ghosts-run_named-J-Naming
ghosts-run_named-J-Naming g a = record { table = a.fresh }
