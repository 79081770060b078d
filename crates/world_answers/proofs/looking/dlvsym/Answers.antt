use Rattle.std.proofs.Common.{ℕ, subst, ◌∙◌, ap}
use Rattle.link_calls.specs.Coming.{LooksUpIn}
use Rattle.history_event.specs.declared.event.SymAsk.{SymAsk}
use Rattle.history_state.specs.After.{after}
use Rattle.history_state.specs.Asking.{is_too_long}
use Rattle.history_calls.specs.Call.{asked_version, caller_namespace, dlvsym_in, known}
use Rattle.link_state.specs.Table.{LinkTable}
use Rattle.world_answers.proofs.Came.{noted_harts}
use Rattle.world_answers.proofs.Looked.{looked_in, looking_may_end}
use Rattle.world_answers.proofs.looking.dlvsym.Goals as goal

pub answer_with-requires-clause-may_end : goal.answer_with-requires-clause-may_end
answer_with-requires-clause-may_end c =
    looking_may_end c.args.state.now c.dlvsym-served.new.state c.args.id (dlvsym_in c.caller_in-namespace.result c.args.handle c.args.name.now c.args.version.now) c.dlvsym-served.result
    c.dlvsym-served.ensures.served c.dlvsym-served.ensures.harts c.requires.may_end

pub returns-clause-answered : goal.returns-clause-answered
returns-clause-answered c =
    let ask : SymAsk = record { ns = caller_namespace (after c.args.state.now.events) c.args.caller; handle = c.args.handle; name = known c.args.name.now; version = asked_version (is_too_long c.args.name.now) c.args.version.now } in
    looked_in c.args.state.now c.dlvsym-served.new.state c.answer_with.new.state c.args.id ask c.dlvsym-served.result c.answer_with.result
    (subst (λ (n : ℕ). LooksUpIn c.args.state.now c.args.id (dlvsym_in n c.args.handle c.args.name.now c.args.version.now) c.dlvsym-served.result c.dlvsym-served.new.state) c.caller_in-namespace.ensures.is c.dlvsym-served.ensures.served)
    c.requires.may_end c.answer_with.ensures.answer c.answer_with.ensures.noted

pub returns-clause-harts : goal.returns-clause-harts
returns-clause-harts c = ap (λ (t : LinkTable). t.harts) c.answer_with.ensures.noted ∙ noted_harts c.dlvsym-served.new.state c.args.id c.dlvsym-served.result ∙ c.dlvsym-served.ensures.harts
