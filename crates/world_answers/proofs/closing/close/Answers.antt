use Rattle.std.proofs.Common.{refl, ap, ◌∙◌}
use Rattle.history_calls.specs.Call.{closes}
use Rattle.link_state.specs.Table.{LinkTable}
use Rattle.world_answers.proofs.Came.{noted_harts}
use Rattle.world_answers.proofs.Looked.{closed_in, closing_may_end}
use Rattle.world_answers.proofs.closing.close.Goals as goal

pub answer_with-requires-clause-may_end : goal.answer_with-requires-clause-may_end
answer_with-requires-clause-may_end c =
    closing_may_end c.args.state.now c.dlclose-served.new.state c.args.id (closes c.args.handle) c.dlclose-served.result c.dlclose-served.ensures.served c.dlclose-served.ensures.harts
    c.requires.may_end

pub returns-clause-answered : goal.returns-clause-answered
returns-clause-answered c =
    closed_in c.args.state.now c.dlclose-served.new.state c.answer_with.new.state c.args.id c.args.handle _ c.dlclose-served.result c.answer_with.result refl
    c.dlclose-served.ensures.served c.requires.may_end c.answer_with.ensures.answer c.answer_with.ensures.noted

pub returns-clause-harts : goal.returns-clause-harts
returns-clause-harts c = ap (λ (t : LinkTable). t.harts) c.answer_with.ensures.noted ∙ noted_harts c.dlclose-served.new.state c.args.id c.dlclose-served.result ∙ c.dlclose-served.ensures.harts
