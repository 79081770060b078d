use Rattle.std.proofs.Common.{◌≡◌, List, [], Option, sym, ap, subst, ◌∙◌}
use Rattle.std.specs.Option.{option_map}
use Rattle.ld_base.specs.declared.linking.File.{File}
use Rattle.link_open_plan.specs.Before.{IsBefore}
use Rattle.trace_opens.specs.FailedPaths.Emptied.{RefusesEmpty, emptied, first_rule, with_empty}
use Rattle.trace_opens.proofs.FailedPaths.Plans.{anyway_so, before_emptied, if_err, if_ok}
use Rattle.trace_opens.proofs.failed_paths.reading.may_fail_at.Goals as goal

pub returns-clause-yes : goal.returns-clause-yes
returns-clause-yes g c =
    let files_are : option_map (emptied c.new-emptied.result.path.now) (g.L.Library.files c.new-emptied.result.library) ≡ option_map (emptied c.args.path.now) (g.L.Library.files c.args.library) =
    ap (λ p. option_map (emptied p.now) (g.L.Library.files c.new-emptied.result.library)) c.new-emptied.ensures.path ∙ ap (λ l. option_map (emptied c.args.path.now) (g.L.Library.files l)) c.new-emptied.ensures.library in
    if_ok c.plan_and_judge-answer.result (λ may row yes w past id before.
    c.a_failed_read_is_an_empty_file.ensures.reads w past c.args.hart c.args.ask.now c.args.path.now first_rule
    (row yes (with_empty w c.args.path.now) past id
    (subst (λ (fs : Option (List File)). IsBefore (with_empty w c.args.path.now) past c.args.ask.now c.args.name.now id c.args.before.now c.args.folders.now fs) (sym files_are)
    (before_emptied w past c.args.ask.now c.args.name.now id c.args.path.now c.args.before.now c.args.folders.now (g.L.Library.files c.args.library) before))))
    c.plan_and_judge-answer.ensures.yes

pub returns-clause-no : goal.returns-clause-no
returns-clause-no g c =
    let files_are : option_map (emptied c.new-emptied.result.path.now) (g.L.Library.files c.new-emptied.result.library) ≡ option_map (emptied c.args.path.now) (g.L.Library.files c.args.library) =
    ap (λ p. option_map (emptied p.now) (g.L.Library.files c.new-emptied.result.library)) c.new-emptied.ensures.path ∙ ap (λ l. option_map (emptied c.args.path.now) (g.L.Library.files l)) c.new-emptied.ensures.library in
    if_ok c.plan_and_judge-answer.result (λ may row no w files past id are before allowed.
    let other = row no (with_empty w c.args.path.now) past id
    (subst (λ (fs : Option (List File)). IsBefore (with_empty w c.args.path.now) past c.args.ask.now c.args.name.now id c.args.before.now c.args.folders.now fs) (sym files_are)
    (before_emptied w past c.args.ask.now c.args.name.now id c.args.path.now c.args.before.now c.args.folders.now (g.L.Library.files c.args.library) before)) in
    let refuses_it : RefusesEmpty w first_rule = λ program. ap (λ v. v [] program) before.made.verdict ∙ c.empty_is_refused.ensures program in
    other.other (c.a_failed_read_is_an_empty_file.ensures.only w files past c.args.hart c.args.ask.now c.args.path.now first_rule other.given other.answer are refuses_it other.gives other.sure allowed))
    c.plan_and_judge-answer.ensures.no

pub returns-clause-path : goal.returns-clause-path
returns-clause-path g c =
    let files_are : option_map (emptied c.new-emptied.result.path.now) (g.L.Library.files c.new-emptied.result.library) ≡ option_map (emptied c.args.path.now) (g.L.Library.files c.args.library) =
    ap (λ p. option_map (emptied p.now) (g.L.Library.files c.new-emptied.result.library)) c.new-emptied.ensures.path ∙ ap (λ l. option_map (emptied c.args.path.now) (g.L.Library.files l)) c.new-emptied.ensures.library in
    if_err c.plan_and_judge-answer.result (λ doubt row w past id before.
    let refuses_it : RefusesEmpty w first_rule = λ program. ap (λ v. v [] program) before.made.verdict ∙ c.empty_is_refused.ensures program in
    anyway_so c.a_failed_read_is_an_empty_file.ensures.fails w past c.args.hart c.args.ask.now c.args.path.now refuses_it doubt
    (row (with_empty w c.args.path.now) past id
    (subst (λ (fs : Option (List File)). IsBefore (with_empty w c.args.path.now) past c.args.ask.now c.args.name.now id c.args.before.now c.args.folders.now fs) (sym files_are)
    (before_emptied w past c.args.ask.now c.args.name.now id c.args.path.now c.args.before.now c.args.folders.now (g.L.Library.files c.args.library) before))))
    c.plan_and_judge-answer.ensures.path
