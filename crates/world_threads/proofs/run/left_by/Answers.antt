use Rattle.std.proofs.Common.{sym, ap, subst, ◌∙◌}
use Rattle.history_event.specs.declared.journal.Journal.{Journal}
use Rattle.kept_words.specs.Kept.{AreKept}
use Rattle.kept_words.specs.Over.{IsOver}
use Rattle.link_keeper.specs.Rounds.{AreAllRounds}
use Rattle.word_rule.specs.declared.view.KeeperView.{KeeperView}
use Rattle.world_threads.proofs.Over.{threaded}
use Rattle.world_threads.proofs.run.left_by.Goals as goal

pub returns-clause-threaded : goal.returns-clause-threaded
returns-clause-threaded g c = λ setup started starts have.
    threaded
    (record {
      stay = c.ways_are_whole.ensures.stay;
      follow = c.trails_follow.ensures.ends;
      append = c.turns_append.ensures.events;
      ended = c.turns_are_counted.ensures.ended;
      marks = c.blocks_are_asked_once.ensures;
      last = c.trails_end.ensures.last;
      fresh = c.trails_end.ensures.start;
      running = c.running_is_not_over.ensures.runs;
      start = c.run_journals_grow.ensures.start;
      grow = c.run_journals_grow.ensures.grow;
      fuel = c.fuel_bounds_turns.ensures;
    })
    g.J.RunNaming.setting setup g.J.RunNaming.journal started c.args.keeper.events c.finish.new.keeper.events c.args.ends c.args.seats.items
    (record { over = c.finish.ensures.over; last = c.requires.keeps.view.last; some = c.requires.some; run = have })
    c.new.result c.into_trails.result
    (ap (λ (j : Journal). j.events) c.new.ensures.journal ∙ c.into_journal.ensures.events ∙ c.finish.ensures.state)
    c.new.ensures.ends
    (ap (λ (k : KeeperView). k.events) c.into_trails.ensures)
    (ap (λ (k : KeeperView). k.joined) c.into_trails.ensures ∙ c.finish.ensures.joined)
    (subst (AreKept g.J.RunNaming.setting g.J.RunNaming.journal) (sym c.into_trails.ensures) c.finish.ensures.keeps.kept)
    (subst IsOver (sym c.into_trails.ensures) c.finish.ensures.known)
    (subst (λ (k : KeeperView). AreAllRounds g.J.RunNaming.setting g.J.RunNaming.journal k.events k.opens) (sym c.into_trails.ensures) c.finish.ensures.rounds) starts
