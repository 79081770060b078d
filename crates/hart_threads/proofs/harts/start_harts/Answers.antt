use Rattle.std.proofs.Common.{ap, ◌∙◌, arith}
use Rattle.hart_threads.proofs.Apart.{calm, runs_alone, told_of, told_over, told_ready}
use Rattle.hart_threads.proofs.Slices.{first_is, first_of}
use Rattle.hart_threads.proofs.harts.start_harts.Goals as goal

pub tell_begun-requires-clause-heard : goal.tell_begun-requires-clause-heard
tell_begun-requires-clause-heard g c = λ k d low. (c.start_first.ensures.ready k d low).between.heard

pub tell_begun-requires-clause-calling : goal.tell_begun-requires-clause-calling
tell_begun-requires-clause-calling g c = calm c.harts_fit.ensures.others g.J.RunNaming.setting g.J.RunNaming.journal (λ r. r.seat) (λ r. r.hart.hart) (λ r. r.blocks) c.args.runs.now c.start_first.new.runs c.start_first.auto.runs
    c.requires.harts c.start_first.ensures.first c.start_first.ensures.calling c.start_first.ensures.others c.start_first.ensures.ready c.requires.numbers c.requires.heard c.requires.unrun

pub returns-clause-ready : goal.returns-clause-ready
returns-clause-ready g c = told_ready c.harts_fit.ensures.others g.J.RunNaming.setting g.J.RunNaming.journal (λ r. r.seat) (λ r. r.hart.hart) (λ r. r.blocks) c.args.runs.now c.start_first.new.runs c.start_first.auto.runs
    c.requires.harts c.start_first.ensures.first c.start_first.ensures.calling c.start_first.ensures.others c.start_first.ensures.ready c.requires.numbers c.requires.heard c.requires.unrun
    c.tell_begun.new.runs c.tell_begun.auto.runs c.tell_begun.ensures.hears c.tell_begun.ensures.lanes c.tell_begun.ensures.since (λ i d. ap (λ h. h.hart) (c.tell_begun.ensures.harts i d))
    c.tell_begun.ensures.blocks

pub returns-clause-over : goal.returns-clause-over
returns-clause-over g c = λ d. told_over c.harts_fit.ensures.others g.J.RunNaming.setting g.J.RunNaming.journal (λ r. r.seat) (λ r. r.hart.hart) (λ r. r.blocks) c.args.runs.now c.start_first.new.runs c.start_first.auto.runs
    c.requires.harts c.start_first.ensures.first c.start_first.ensures.calling c.start_first.ensures.others c.start_first.ensures.ready c.requires.numbers c.requires.heard c.requires.unrun
    c.tell_begun.new.runs c.tell_begun.auto.runs c.tell_begun.ensures.hears c.tell_begun.ensures.lanes c.tell_begun.ensures.since (λ i d. ap (λ h. h.hart) (c.tell_begun.ensures.harts i d))
    c.tell_begun.ensures.blocks d (c.start_first.ensures.over d)

pub returns-clause-apart : goal.returns-clause-apart
returns-clause-apart g c =
    let e = first_of c.start_first.new.runs (omega arith) in (
      (c.start_first.ensures.first e).proceeds.longer.0,
      λ d. runs_alone c.harts_fit.ensures.others g.J.RunNaming.setting g.J.RunNaming.journal (λ r. r.seat) (λ r. r.hart.hart) (λ r. r.blocks) c.args.runs.now c.start_first.new.runs c.start_first.auto.runs
          c.requires.harts c.start_first.ensures.first c.start_first.ensures.calling c.start_first.ensures.others c.start_first.ensures.ready c.requires.numbers c.requires.heard c.requires.unrun
          c.tell_begun.new.runs c.tell_begun.auto.runs c.tell_begun.ensures.hears c.tell_begun.ensures.lanes c.tell_begun.ensures.since (λ i d. ap (λ h. h.hart) (c.tell_begun.ensures.harts i d))
          c.tell_begun.ensures.blocks d e (omega arith) (c.requires.fresh d) ((c.requires.ready 0 d c.requires.some).between.fits (c.requires.fresh d).runs) (first_is c.start_first.new.runs e d (omega arith)),
      λ i d some low. told_of c.harts_fit.ensures.others g.J.RunNaming.setting g.J.RunNaming.journal (λ r. r.seat) (λ r. r.hart.hart) (λ r. r.blocks) c.args.runs.now c.start_first.new.runs c.start_first.auto.runs
          c.requires.harts c.start_first.ensures.first c.start_first.ensures.calling c.start_first.ensures.others c.start_first.ensures.ready c.requires.numbers c.requires.heard c.requires.unrun
          c.tell_begun.new.runs c.tell_begun.auto.runs c.tell_begun.ensures.hears c.tell_begun.ensures.lanes c.tell_begun.ensures.since (λ i d. ap (λ h. h.hart) (c.tell_begun.ensures.harts i d))
          c.tell_begun.ensures.blocks i d e some (omega (arith, low)) (first_is c.start_first.new.runs e d (omega arith)),
    )

pub returns-clause-others : goal.returns-clause-others
returns-clause-others g c = λ i d some. c.tell_begun.ensures.harts i d ∙ ap (λ x. x.hart) (c.start_first.ensures.others i d some)
