use Rattle.std.proofs.Common.{Err, ap, subst}
use Rattle.history_calls.specs.CallLaws.Counts.{ArePaths}
use Rattle.std.specs.List.{AllByRecursion}
use Rattle.history_state.specs.After.{after}
use Rattle.link_open_plan.specs.OpeningLoad.Finding.{LeadsTo, WasLibrary, news_of}
use Rattle.link_open_plan.specs.declared.opening_load.finding.Found.{Found}
use Rattle.link_open_plan.specs.Planned.{IsUnopened, load_fault}
use Rattle.link_open_plan.proofs.FoundLemmas.{counts_found, stopped_so}
use Rattle.link_open_plan.proofs.Lent.{lent}
use Rattle.link_open_plan.proofs.News.{are_read, still_read}
use Rattle.link_open_plan.proofs.Results.{counts_as, err_as}
use Rattle.link_open_plan.proofs.There.{there_alone}
use Rattle.link_open_plan.proofs.planning.plan_named.Goals as goal

pub returns-in_err-found-clause-unopened : goal.returns-in_err-found-clause-unopened
returns-in_err-found-clause-unopened g c = λ w past id is.
    err_as c.from_residual.result (load_fault c.in_err-found.field-0.0) (IsUnopened w (after past) c.args.hart c.args.ask.now) c.from_residual.ensures.1
    (stopped_so w (after past) c.args.hart c.args.ask.now c.in_err-found.field-0.0 (c.in_err-found.ensures.stopped w (after past) id is.made))

pub returns-in_err-found-clause-counts : goal.returns-in_err-found-clause-counts
returns-in_err-found-clause-counts g c =
    counts_as c.from_residual.result (load_fault c.in_err-found.field-0.0) (ArePaths c.args.folders.now) (g.L.Library.faults c.args.library.now) (g.L.Library.faults c.find.new.library)
    (g.L.Library.misses c.args.library.now) (g.L.Library.misses c.find.new.library) c.from_residual.ensures.1
    (counts_found (ArePaths c.args.folders.now) (g.L.Library.faults c.args.library.now) (g.L.Library.faults c.find.new.library)
    (g.L.Library.misses c.args.library.now) (g.L.Library.misses c.find.new.library) c.in_err-found.field-0.0
    (λ path is. c.in_err-found.ensures.read_fault path (ap (λ e. Err e) is)) (λ name is. c.in_err-found.ensures.missed name (ap (λ e. Err e) is)))

pub returns-in_err-place_new-in-New-clause-unopened : goal.returns-in_err-place_new-in-New-clause-unopened
returns-in_err-place_new-in-New-clause-unopened g c = λ w past id is.
    err_as c.from_residual-in_err-place_new-in-New.result c.in_err-place_new-in-New.field-0.0 (IsUnopened w (after past) c.args.hart c.args.ask.now)
    c.from_residual-in_err-place_new-in-New.ensures.1
    (c.in_err-place_new-in-New.ensures.unopened w past c.args.hart id c.args.name.now
    (lent w past c.args.ask.now c.args.name.now id c.args.before.now c.args.folders.now (g.L.Library.files c.args.library.now) is)
    (subst (λ (f : Found). LeadsTo w (after past) c.args.hart c.args.ask.now c.args.name.now id f) c.in-New.is (c.in_ok-found.ensures.found w (after past) id is.made)))

pub returns-in-Absent-clause-planned : goal.returns-in-Absent-clause-planned
returns-in-Absent-clause-planned g c = λ w past id is.
    subst (λ (f : Found). LeadsTo w (after past) c.args.hart c.args.ask.now c.args.name.now id f) c.in-Absent.is (c.in_ok-found.ensures.found w (after past) id is.made)

pub returns-in-There-clause-planned : goal.returns-in-There-clause-planned
returns-in-There-clause-planned g c = λ w past id is.
    there_alone w (after past) c.args.hart id c.in-There.root c.args.ask.now c.args.name.now is.made.started
    (subst (λ (f : Found). LeadsTo w (after past) c.args.hart c.args.ask.now c.args.name.now id f) c.in-There.is (c.in_ok-found.ensures.found w (after past) id is.made))

pub returns-in_ok-place_new-in-New-clause-planned : goal.returns-in_ok-place_new-in-New-clause-planned
returns-in_ok-place_new-in-New-clause-planned g c = λ w past id is.
    c.in_ok-place_new-in-New.ensures.planned w past c.args.hart id c.args.name.now
    (lent w past c.args.ask.now c.args.name.now id c.args.before.now c.args.folders.now (g.L.Library.files c.args.library.now) is)
    (subst (λ (f : Found). LeadsTo w (after past) c.args.hart c.args.ask.now c.args.name.now id f) c.in-New.is (c.in_ok-found.ensures.found w (after past) id is.made))

pub place_new-requires-clause-read : goal.place_new-requires-clause-read
place_new-requires-clause-read g c =
    are_read c.in-New.plan.added (subst (λ (f : Found). AllByRecursion WasLibrary (news_of f)) c.in-New.is c.in_ok-found.ensures.read)

pub returns-in_ok-place_new-in-New-clause-read : goal.returns-in_ok-place_new-in-New-clause-read
returns-in_ok-place_new-in-New-clause-read g c =
    still_read c.in_ok-place_new-in-New.field-0.added c.in-New.plan.added c.in_ok-place_new-in-New.ensures.same
    (subst (λ (f : Found). AllByRecursion WasLibrary (news_of f)) c.in-New.is c.in_ok-found.ensures.read)
