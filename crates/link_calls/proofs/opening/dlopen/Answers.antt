use Rattle.std.proofs.Common.{◌≡◌, ℕ, IfOk, Some, rules, sym, subst}
use Rattle.std.specs.Option.{option_copied}
use Rattle.history_calls.specs.CallLaws.Coming.{NeedsNoRead, refusal_of}
use Rattle.history_calls.specs.CallLaws.Counts.{ArePaths, ShowsInCounts}
use Rattle.history_state.specs.After.{after}
use Rattle.history_calls.specs.Call.{dlopen_in, opens}
use Rattle.link_calls.specs.Opening.{OpensIn, asked}
use Rattle.link_open_plan.specs.Lemmas.Counts.{counts_none}
use Rattle.link_calls.proofs.Opened.{unopened_none, whole_of}
use Rattle.link_calls.proofs.Refused.{answered}
use Rattle.link_calls.proofs.opening.dlopen.Goals as goal

pub returns-clause-served : goal.returns-clause-served
returns-clause-served g c =
    let space : c.from.result ≡ c.args.caller = search rules in
    answered c.open.result c.unwrap_or.result c.args.state.now c.open.new.state
    (λ came. OpensIn c.args.state.now c.args.folders.now (g.L.Library.files c.args.library.now) c.args.hart (dlopen_in c.args.caller (option_copied c.args.name) c.args.flags) came c.open.new.state)
    c.unwrap_or.ensures
    (subst (λ (n : ℕ). IfOk c.open.result (λ came. OpensIn c.args.state.now c.args.folders.now (g.L.Library.files c.args.library.now) c.args.hart
    (opens (asked (Some n) (option_copied c.args.name) c.args.flags)) came c.open.new.state)) space c.open.ensures.served)
    c.open.ensures.err (unopened_none c.args.state.now c.open.new.state c.args.folders.now (g.L.Library.files c.args.library.now) c.args.hart (dlopen_in c.args.caller (option_copied c.args.name) c.args.flags))

pub returns-clause-counts : goal.returns-clause-counts
returns-clause-counts g c =
    answered c.open.result c.unwrap_or.result c.args.state.now c.open.new.state
    (λ came. ShowsInCounts (ArePaths c.args.folders.now) (refusal_of came) (g.L.Library.faults c.args.library.now) (g.L.Library.faults c.open.new.library) (g.L.Library.misses c.args.library.now) (g.L.Library.misses c.open.new.library))
    c.unwrap_or.ensures c.open.ensures.counts c.open.ensures.err
    (λ same. counts_none (ArePaths c.args.folders.now) (g.L.Library.faults c.args.library.now) (g.L.Library.faults c.open.new.library) (g.L.Library.misses c.args.library.now) (g.L.Library.misses c.open.new.library))

pub returns-clause-whole : goal.returns-clause-whole
returns-clause-whole g c =
    whole_of c.only_failed_reads_stop.ensures.opens c.args.state.now c.open.new.state c.args.folders.now (g.L.Library.files c.args.library.now) c.args.hart
    (asked (Some c.args.caller) (option_copied c.args.name) c.args.flags) c.unwrap_or.result (g.L.Library.faults c.args.library.now) (g.L.Library.faults c.open.new.library)
    (returns-clause-served g c) (returns-clause-counts g c).failed

pub returns-clause-unread : goal.returns-clause-unread
returns-clause-unread g c =
    let space : c.from.result ≡ c.args.caller = search rules in
    λ needs. c.open.ensures.unread (subst (λ (n : ℕ). NeedsNoRead (after c.args.state.now.events) (asked (Some n) (option_copied c.args.name) c.args.flags)) (sym space) needs)
