use Rattle.std.proofs.Common.{sym, ap, ◌∙◌}
use Rattle.history_state.specs.After.{after}
use Rattle.history_state.specs.Objects.{namespace_of}
use Rattle.link_calls.proofs.LinkOpening.Few.{found_none, found_there}
use Rattle.link_calls.proofs.link_opening.judging.is_there.Goals as goal

pub returns-in-Some : goal.returns-in-Some
returns-in-Some c =
    let s = after c.args.state.now.events in
    sym (found_there c.args.id s.namespaces c.in-Some.field-0.now (sym (ap (namespace_of s) c.new.ensures) ∙ sym c.in-Some.ensures))

pub returns-in-None : goal.returns-in-None
returns-in-None c =
    let s = after c.args.state.now.events in
    sym (found_none c.args.id s.namespaces (sym (ap (namespace_of s) c.new.ensures) ∙ sym c.in-None.ensures))
