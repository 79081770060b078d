use Rattle.std.proofs.Common.{ℕ, Some, sym, subst, ◌∙◌, ap}
use Rattle.std.specs.Option.{option_copied}
use Rattle.history_calls.specs.CallLaws.Coming.{NeedsNoRead}
use Rattle.link_calls.specs.Opening.{OpensIn, OpensUnlessReadsFail, asked}
use Rattle.history_state.specs.After.{after}
use Rattle.history_calls.specs.Call.{opens}
use Rattle.world_memory.specs.declared.turn_answers.answered.MemoryChange.TheVariants.{Nothing}
use Rattle.link_state.specs.Table.{LinkTable}
use Rattle.world_answers.specs.Openings.{dlopen_ask}
use Rattle.world_answers.proofs.Came.{noted_harts}
use Rattle.world_answers.proofs.Opened.{opened_in, opening_may_end, opens_wholly, shows_refusal}
use Rattle.world_answers.proofs.opening.dlopen.Goals as goal

pub answer_with-requires-clause-may_end : goal.answer_with-requires-clause-may_end
answer_with-requires-clause-may_end g c =
    opening_may_end c.args.state.now c.dlopen-served.new.state c.args.folders.now (g.L.Library.files c.args.library.now) c.args.id (opens (asked (Some c.caller_in-namespace.result) (option_copied c.args.name) c.args.flags)) c.dlopen-served.result
    c.dlopen-served.ensures.served c.dlopen-served.ensures.harts c.requires.may_end

pub returns-clause-answered : goal.returns-clause-answered
returns-clause-answered g c =
    opened_in c.args.state.now c.dlopen-served.new.state c.answer_with.new.state c.args.folders.now (g.L.Library.files c.args.library.now) c.args.id (dlopen_ask (after c.args.state.now.events) c.args.caller (option_copied c.args.name) c.args.flags) c.dlopen-served.result c.answer_with.result c.requires.started
    (subst (λ (n : ℕ). OpensIn c.args.state.now c.args.folders.now (g.L.Library.files c.args.library.now) c.args.id (opens (asked (Some n) (option_copied c.args.name) c.args.flags)) c.dlopen-served.result c.dlopen-served.new.state) c.caller_in-namespace.ensures.is c.dlopen-served.ensures.served)
    c.requires.may_end c.answer_with.ensures.answer c.answer_with.ensures.noted

pub returns-clause-whole : goal.returns-clause-whole
returns-clause-whole g c =
    opens_wholly c.args.state.now c.args.folders.now (g.L.Library.files c.args.library.now) (g.L.Library.faults c.args.library.now) (g.L.Library.faults c.dlopen-served.new.library) c.args.id (dlopen_ask (after c.args.state.now.events) c.args.caller (option_copied c.args.name) c.args.flags) Nothing 0 c.dlopen-served.result c.answer_with.result
    (subst (λ (n : ℕ). OpensUnlessReadsFail c.args.state.now c.args.folders.now (g.L.Library.files c.args.library.now) (g.L.Library.faults c.args.library.now) (g.L.Library.faults c.dlopen-served.new.library) c.args.id (asked (Some n) (option_copied c.args.name) c.args.flags) c.dlopen-served.result) c.caller_in-namespace.ensures.is c.dlopen-served.ensures.whole) c.answer_with.ensures.answer

pub returns-clause-counts : goal.returns-clause-counts
returns-clause-counts g c =
    shows_refusal c.args.state.now c.dlopen-served.new.state c.answer_with.new.state c.args.folders.now (g.L.Library.files c.args.library.now) c.args.id (dlopen_ask (after c.args.state.now.events) c.args.caller (option_copied c.args.name) c.args.flags) c.dlopen-served.result (g.L.Library.faults c.args.library.now) (g.L.Library.faults c.dlopen-served.new.library) (g.L.Library.misses c.args.library.now) (g.L.Library.misses c.dlopen-served.new.library)
    (subst (λ (n : ℕ). OpensIn c.args.state.now c.args.folders.now (g.L.Library.files c.args.library.now) c.args.id (opens (asked (Some n) (option_copied c.args.name) c.args.flags)) c.dlopen-served.result c.dlopen-served.new.state) c.caller_in-namespace.ensures.is c.dlopen-served.ensures.served) c.answer_with.ensures.noted c.dlopen-served.ensures.counts

pub returns-clause-unread : goal.returns-clause-unread
returns-clause-unread g c = λ needs.
    c.dlopen-served.ensures.unread
    (subst (λ (n : ℕ). NeedsNoRead (after c.args.state.now.events) (asked (Some n) (option_copied c.args.name) c.args.flags)) (sym c.caller_in-namespace.ensures.is) needs)

pub returns-clause-harts : goal.returns-clause-harts
returns-clause-harts g c = ap (λ (t : LinkTable). t.harts) c.answer_with.ensures.noted ∙ noted_harts c.dlopen-served.new.state c.args.id c.dlopen-served.result ∙ c.dlopen-served.ensures.harts
