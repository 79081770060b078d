use Rattle.std.proofs.Common.{ℕ, None, subst, ◌∙◌, ap}
use Rattle.link_calls.specs.Coming.{LooksUpIn}
use Rattle.history_event.specs.declared.event.SymAsk.{SymAsk}
use Rattle.history_state.specs.After.{after}
use Rattle.history_calls.specs.Call.{caller_namespace, dlsym_in, known}
use Rattle.link_state.specs.Table.{LinkTable}
use Rattle.world_answers.proofs.Came.{noted_harts}
use Rattle.world_answers.proofs.Looked.{looked_in, looking_may_end}
use Rattle.world_answers.proofs.looking.dlsym.Goals as goal

pub answer_with-requires-clause-may_end : goal.answer_with-requires-clause-may_end
answer_with-requires-clause-may_end c =
    looking_may_end c.args.state.now c.dlsym-served.new.state c.args.id (dlsym_in c.caller_in-namespace.result c.args.handle c.args.name.now) c.dlsym-served.result
    c.dlsym-served.ensures.served c.dlsym-served.ensures.harts c.requires.may_end

pub returns-clause-answered : goal.returns-clause-answered
returns-clause-answered c =
    let ask : SymAsk = record { ns = caller_namespace (after c.args.state.now.events) c.args.caller; handle = c.args.handle; name = known c.args.name.now; version = None } in
    looked_in c.args.state.now c.dlsym-served.new.state c.answer_with.new.state c.args.id ask c.dlsym-served.result c.answer_with.result
    (subst (λ (n : ℕ). LooksUpIn c.args.state.now c.args.id (dlsym_in n c.args.handle c.args.name.now) c.dlsym-served.result c.dlsym-served.new.state) c.caller_in-namespace.ensures.is c.dlsym-served.ensures.served)
    c.requires.may_end c.answer_with.ensures.answer c.answer_with.ensures.noted

pub returns-clause-harts : goal.returns-clause-harts
returns-clause-harts c = ap (λ (t : LinkTable). t.harts) c.answer_with.ensures.noted ∙ noted_harts c.dlsym-served.new.state c.args.id c.dlsym-served.result ∙ c.dlsym-served.ensures.harts
