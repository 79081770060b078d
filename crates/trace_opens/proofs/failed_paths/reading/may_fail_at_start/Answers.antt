use Rattle.std.proofs.Common.{◌≡◌, List, [], Option, ap, subst, ◌∙◌}
use Rattle.std.specs.Option.{option_map}
use Rattle.ld_base.specs.declared.linking.File.{File}
use Rattle.history_state.specs.Allowed.{Allowed}
use Rattle.link_open_plan.specs.Startup.{run_of}
use Rattle.trace_opens.specs.FailedPaths.Emptied.{RefusesEmpty, emptied, first_rule, is_broken}
use Rattle.trace_opens.specs.FailedPaths.Row.{GivesOther}
use Rattle.trace_opens.specs.OpeningRows.Expected.{MayFailSo}
use Rattle.trace_opens.proofs.FailedPaths.Plans.{anyway_so, if_err, if_ok}
use Rattle.trace_opens.proofs.failed_paths.reading.may_fail_at_start.Goals as goal

pub returns-clause-yes : goal.returns-clause-yes
returns-clause-yes g c =
    let w = run_of c.args.setup.now (g.L.Library.files c.args.library) in
    let files_are : option_map (emptied c.new-emptied.result.path.now) (g.L.Library.files c.new-emptied.result.library) ≡ option_map (emptied c.args.path.now) (g.L.Library.files c.args.library) =
    ap (λ p. option_map (emptied p.now) (g.L.Library.files c.new-emptied.result.library)) c.new-emptied.ensures.path ∙ ap (λ l. option_map (emptied c.args.path.now) (g.L.Library.files l)) c.new-emptied.ensures.library in
    if_ok c.plan_program_and_judge-answer.result (λ may row yes.
    c.a_failed_read_is_an_empty_file.ensures.reads w [] 0 c.args.ask.now c.args.path.now first_rule
    (subst (λ (fs : Option (List File)). Allowed (run_of c.args.setup.now fs) [] (is_broken 0 c.args.ask.now c.args.path.now first_rule)) files_are (row yes)))
    c.plan_program_and_judge-answer.ensures.yes

pub returns-clause-no : goal.returns-clause-no
returns-clause-no g c =
    let w = run_of c.args.setup.now (g.L.Library.files c.args.library) in
    let files_are : option_map (emptied c.new-emptied.result.path.now) (g.L.Library.files c.new-emptied.result.library) ≡ option_map (emptied c.args.path.now) (g.L.Library.files c.args.library) =
    ap (λ p. option_map (emptied p.now) (g.L.Library.files c.new-emptied.result.library)) c.new-emptied.ensures.path ∙ ap (λ l. option_map (emptied c.args.path.now) (g.L.Library.files l)) c.new-emptied.ensures.library in
    if_ok c.plan_program_and_judge-answer.result (λ may row no files are allowed.
    let other = subst (λ (fs : Option (List File)). GivesOther (run_of c.args.setup.now fs) [] 0 c.args.ask.now c.args.path.now) files_are (row no) in
    let refuses_it : RefusesEmpty w first_rule = λ program. c.empty_is_refused.ensures program in
    other.other (c.a_failed_read_is_an_empty_file.ensures.only w files [] 0 c.args.ask.now c.args.path.now first_rule other.given other.answer are refuses_it other.gives other.sure allowed))
    c.plan_program_and_judge-answer.ensures.no

pub returns-clause-path : goal.returns-clause-path
returns-clause-path g c =
    let w = run_of c.args.setup.now (g.L.Library.files c.args.library) in
    let files_are : option_map (emptied c.new-emptied.result.path.now) (g.L.Library.files c.new-emptied.result.library) ≡ option_map (emptied c.args.path.now) (g.L.Library.files c.args.library) =
    ap (λ p. option_map (emptied p.now) (g.L.Library.files c.new-emptied.result.library)) c.new-emptied.ensures.path ∙ ap (λ l. option_map (emptied c.args.path.now) (g.L.Library.files l)) c.new-emptied.ensures.library in
    let refuses_it : RefusesEmpty w first_rule = λ program. c.empty_is_refused.ensures program in
    if_err c.plan_program_and_judge-answer.result (λ doubt may.
    anyway_so c.a_failed_read_is_an_empty_file.ensures.fails w [] 0 c.args.ask.now c.args.path.now refuses_it doubt
    (subst (λ (fs : Option (List File)). MayFailSo (run_of c.args.setup.now fs) [] 0 c.args.ask.now doubt) files_are may))
    c.plan_program_and_judge-answer.ensures.path
