use Rattle.std.proofs.Common.{Some, ap, sym, subst, ◌∙◌}
use Rattle.history_event.specs.declared.hart_end.HartEnd.{HartEnd}
use Rattle.rv_hart.specs.Registers.{Registers}
use Rattle.hart_linker.specs.Finals.{BeginsLast}
use Rattle.hart_threads.proofs.Hearing.{through_here, through_then}
use Rattle.hart_threads.proofs.Whole.{by_finals, by_lacking, by_none_left, by_running, not_exit, whole_unexited}
use Rattle.hart_threads.proofs.run.HartRun.finish.Goals as goal

pub returns-in_default-clause-whole : goal.returns-in_default-clause-whole
returns-in_default-clause-whole g c = λ start begun registers low new r.
    whole_unexited g.J.RunNaming.setting start begun c.args.self.now.seat c.args.self.now.hart.hart c.unwrap-end.result r (sym c.end.ensures ∙ c.unwrap-end.ensures)
    c.turns_append.ensures.events c.turns_append.ensures.no_finals c.running_is_not_over.ensures.ended c.requires.first c.requires.some g.J.RunNaming.journal c.requires.between.heard low new
    (not_exit c.unwrap-end.result c.in_default.not-Exit)

pub returns-in-HartsRun-clause-whole : goal.returns-in-HartsRun-clause-whole
returns-in-HartsRun-clause-whole g c = λ start begun registers low new r.
    by_running c.trails_grow.ensures.stay g.J.RunNaming.setting start begun c.args.self.now.seat c.begin_finals-beginning.new.seat c.args.self.now.hart.hart c.begin_finals-beginning.new.hart.hart _ r
    (sym c.end.ensures ∙ c.unwrap-end.ensures ∙ ap (λ (e : HartEnd). Some e) c.in-Exit.is) c.begin_finals-beginning.ensures.longer c.requires.first c.begin_finals-beginning.result
    (subst (λ (rs : Registers). BeginsLast g.J.RunNaming.setting rs c.args.self.now.seat c.begin_finals-beginning.new.seat c.args.self.now.hart.hart c.begin_finals-beginning.new.hart.hart c.begin_finals-beginning.result) (sym registers) c.begin_finals-beginning.ensures.begins)
    c.in-HartsRun.is

pub returns-in-NoneLeft-clause-whole : goal.returns-in-NoneLeft-clause-whole
returns-in-NoneLeft-clause-whole g c = λ start begun registers low new r.
    by_none_left c.trails_grow.ensures.stay g.J.RunNaming.setting start begun c.args.self.now.seat c.begin_finals-beginning.new.seat c.args.self.now.hart.hart c.begin_finals-beginning.new.hart.hart _ r
    (sym c.end.ensures ∙ c.unwrap-end.ensures ∙ ap (λ (e : HartEnd). Some e) c.in-Exit.is) c.begin_finals-beginning.ensures.longer c.requires.first c.begin_finals-beginning.result
    (subst (λ (rs : Registers). BeginsLast g.J.RunNaming.setting rs c.args.self.now.seat c.begin_finals-beginning.new.seat c.args.self.now.hart.hart c.begin_finals-beginning.new.hart.hart c.begin_finals-beginning.result) (sym registers) c.begin_finals-beginning.ensures.begins)
    c.in-NoneLeft.is

pub returns-in-Memory-clause-whole : goal.returns-in-Memory-clause-whole
returns-in-Memory-clause-whole g c = λ start begun registers low new r.
    by_lacking c.trails_grow.ensures.stay g.J.RunNaming.setting start begun c.args.self.now.seat c.begin_finals-beginning.new.seat c.args.self.now.hart.hart c.begin_finals-beginning.new.hart.hart _ r
    (sym c.end.ensures ∙ c.unwrap-end.ensures ∙ ap (λ (e : HartEnd). Some e) c.in-Exit.is) c.begin_finals-beginning.ensures.longer c.requires.first c.begin_finals-beginning.result
    c.begin_finals-beginning.ensures.same
    (subst (λ (rs : Registers). BeginsLast g.J.RunNaming.setting rs c.args.self.now.seat c.begin_finals-beginning.new.seat c.args.self.now.hart.hart c.begin_finals-beginning.new.hart.hart c.begin_finals-beginning.result) (sym registers) c.begin_finals-beginning.ensures.begins)
    c.in-Memory.is

pub returns-in-Begun-clause-whole : goal.returns-in-Begun-clause-whole
returns-in-Begun-clause-whole g c = λ start begun registers low new r.
    by_finals c.trails_grow.ensures.stay g.J.RunNaming.setting start begun c.args.self.now.seat c.begin_finals-beginning.new.seat c.args.self.now.hart.hart c.begin_finals-beginning.new.hart.hart _ r
    (sym c.end.ensures ∙ c.unwrap-end.ensures ∙ ap (λ (e : HartEnd). Some e) c.in-Exit.is) c.begin_finals-beginning.ensures.longer c.requires.first c.begin_finals-beginning.result
    (subst (λ (rs : Registers). BeginsLast g.J.RunNaming.setting rs c.args.self.now.seat c.begin_finals-beginning.new.seat c.args.self.now.hart.hart c.begin_finals-beginning.new.hart.hart c.begin_finals-beginning.result) (sym registers) c.begin_finals-beginning.ensures.begins)
    c.in-Begun.is c.run_to_end.new.self.seat c.run_to_end.new.self.hart.hart c.run_to_end.result c.run_to_end.ensures.runs.proceeds c.run_to_end.ensures.ended

pub returns-in_default-clause-through : goal.returns-in_default-clause-through
returns-in_default-clause-through g c =
    through_here g.J.RunNaming.setting g.J.RunNaming.journal c.args.self.now.seat c.requires.between.heard (c.requires.calm c.unwrap-end.result (sym c.end.ensures ∙ c.unwrap-end.ensures))

pub returns-in-HartsRun-clause-through : goal.returns-in-HartsRun-clause-through
returns-in-HartsRun-clause-through g c =
    through_then g.J.RunNaming.setting g.J.RunNaming.journal c.args.self.now.seat c.begin_finals-beginning.new.seat c.begin_finals-beginning.new.seat c.begin_finals-beginning.ensures.same
    c.begin_finals-beginning.ensures.longer (through_here g.J.RunNaming.setting g.J.RunNaming.journal c.begin_finals-beginning.new.seat c.begin_finals-beginning.ensures.between.heard c.begin_finals-beginning.ensures.calling)

pub returns-in-NoneLeft-clause-through : goal.returns-in-NoneLeft-clause-through
returns-in-NoneLeft-clause-through g c =
    through_then g.J.RunNaming.setting g.J.RunNaming.journal c.args.self.now.seat c.begin_finals-beginning.new.seat c.begin_finals-beginning.new.seat c.begin_finals-beginning.ensures.same
    c.begin_finals-beginning.ensures.longer (through_here g.J.RunNaming.setting g.J.RunNaming.journal c.begin_finals-beginning.new.seat c.begin_finals-beginning.ensures.between.heard c.begin_finals-beginning.ensures.calling)

pub returns-in-Memory-clause-through : goal.returns-in-Memory-clause-through
returns-in-Memory-clause-through g c =
    through_then g.J.RunNaming.setting g.J.RunNaming.journal c.args.self.now.seat c.begin_finals-beginning.new.seat c.begin_finals-beginning.new.seat c.begin_finals-beginning.ensures.same
    c.begin_finals-beginning.ensures.longer (through_here g.J.RunNaming.setting g.J.RunNaming.journal c.begin_finals-beginning.new.seat c.begin_finals-beginning.ensures.between.heard c.begin_finals-beginning.ensures.calling)

pub returns-in-Begun-clause-through : goal.returns-in-Begun-clause-through
returns-in-Begun-clause-through g c =
    through_then g.J.RunNaming.setting g.J.RunNaming.journal c.args.self.now.seat c.begin_finals-beginning.new.seat c.run_to_end.new.self.seat c.begin_finals-beginning.ensures.same c.begin_finals-beginning.ensures.longer
    (record {
      same = c.run_to_end.ensures.runs.proceeds.same;
      longer = c.run_to_end.ensures.runs.proceeds.longer;
      heard = c.run_to_end.ensures.runs.between.heard;
      calm = c.run_to_end.ensures.runs.calm c.run_to_end.result c.run_to_end.ensures.ended;
    })
