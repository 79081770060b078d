use Rattle.std.proofs.Common.{◌∙◌, ap}
use Rattle.std.specs.Option.{option_copied}
use Rattle.history_calls.specs.Call.{opens}
use Rattle.world_memory.specs.declared.turn_answers.answered.MemoryChange.TheVariants.{Nothing}
use Rattle.link_state.specs.Table.{LinkTable}
use Rattle.world_answers.specs.Openings.{dlmopen_ask}
use Rattle.world_answers.proofs.Came.{noted_harts}
use Rattle.world_answers.proofs.Opened.{opened_in, opening_may_end, opens_wholly, shows_refusal}
use Rattle.world_answers.proofs.opening.dlmopen.Goals as goal

pub answer_with-requires-clause-may_end : goal.answer_with-requires-clause-may_end
answer_with-requires-clause-may_end g c =
    opening_may_end c.args.state.now c.dlmopen-served.new.state c.args.folders.now (g.L.Library.files c.args.library.now) c.args.id (opens (dlmopen_ask c.args.namespace (option_copied c.args.name) c.args.flags)) c.dlmopen-served.result
    c.dlmopen-served.ensures.served c.dlmopen-served.ensures.harts c.requires.may_end

pub returns-clause-answered : goal.returns-clause-answered
returns-clause-answered g c =
    opened_in c.args.state.now c.dlmopen-served.new.state c.answer_with.new.state c.args.folders.now (g.L.Library.files c.args.library.now) c.args.id (dlmopen_ask c.args.namespace (option_copied c.args.name) c.args.flags) c.dlmopen-served.result c.answer_with.result c.requires.started
    (c.dlmopen-served.ensures.served)
    c.requires.may_end c.answer_with.ensures.answer c.answer_with.ensures.noted

pub returns-clause-whole : goal.returns-clause-whole
returns-clause-whole g c =
    opens_wholly c.args.state.now c.args.folders.now (g.L.Library.files c.args.library.now) (g.L.Library.faults c.args.library.now) (g.L.Library.faults c.dlmopen-served.new.library) c.args.id (dlmopen_ask c.args.namespace (option_copied c.args.name) c.args.flags) Nothing 0 c.dlmopen-served.result c.answer_with.result
    (c.dlmopen-served.ensures.whole) c.answer_with.ensures.answer

pub returns-clause-counts : goal.returns-clause-counts
returns-clause-counts g c =
    shows_refusal c.args.state.now c.dlmopen-served.new.state c.answer_with.new.state c.args.folders.now (g.L.Library.files c.args.library.now) c.args.id (dlmopen_ask c.args.namespace (option_copied c.args.name) c.args.flags) c.dlmopen-served.result (g.L.Library.faults c.args.library.now) (g.L.Library.faults c.dlmopen-served.new.library) (g.L.Library.misses c.args.library.now) (g.L.Library.misses c.dlmopen-served.new.library)
    (c.dlmopen-served.ensures.served) c.answer_with.ensures.noted c.dlmopen-served.ensures.counts

pub returns-clause-harts : goal.returns-clause-harts
returns-clause-harts g c = ap (λ (t : LinkTable). t.harts) c.answer_with.ensures.noted ∙ noted_harts c.dlmopen-served.new.state c.args.id c.dlmopen-served.result ∙ c.dlmopen-served.ensures.harts
