use Rattle.std.proofs.Common.{◌≡◌, [], ap, ◌∙◌}
use Rattle.history_state.specs.Accepted.{AcceptsOnly}
use Rattle.history_state.specs.Setting.{Machine}
use Rattle.hart_seat.specs.HartParts.Views.{offered_of}
use Rattle.kept_words.specs.Posting.{event_of}
use Rattle.link_keeper.proofs.Granted.{code_has_grant, code_may_post, code_passed, same_generation}
use Rattle.link_keeper.proofs.Rest.{next_event}
use Rattle.link_keeper.proofs.handing.pass_offer.Goals as goal

pub pass_grant-requires-clause-may : goal.pass_grant-requires-clause-may
pass_grant-requires-clause-may g c =
    let w = g.J.RunNaming.setting in
    let only : AcceptsOnly w.machine = c.accepted_object.ensures.machine w.machine (ap (λ (m : Machine). m.verdict) c.requires.grant.1.machine) in
    let event : c.index-events-index.result ≡ event_of c.requires.grant.0 =
    next_event c.args.state.now.events c.as_slice-events.result.now c.args.keeper.now c.args.index c.index-events-index.result _ (event_of c.requires.grant.0) [] (c.as_slice-events.ensures ∙ c.journal.ensures.events)
    c.index-events-index.is c.requires.index c.requires.grant.1.ahead in
    code_may_post c.grants_are_posted.ensures.may c.grants_are_posted.ensures.kept w g.J.RunNaming.journal only c.args.state.now c.args.keeper.now c.args.seat.now c.args.id c.requires.grant.0 (offered_of c.args.offered)
    c.requires.hand c.requires.grant.1 c.args.index c.index-events-index.result c.requires.index event

pub pass_grant-requires-clause-generation : goal.pass_grant-requires-clause-generation
pass_grant-requires-clause-generation g c = c.generation-generation.ensures ∙ c.modules.ensures.generation
    ∙ same_generation g.J.RunNaming.setting g.J.RunNaming.journal c.args.state.now c.args.keeper.now c.args.seat.now c.args.id c.requires.grant.0 (offered_of c.args.offered) c.requires.hand c.requires.grant.1

pub returns-clause-passed : goal.returns-clause-passed
returns-clause-passed g c x ev =
    let w = g.J.RunNaming.setting in
    let only : AcceptsOnly w.machine = c.accepted_object.ensures.machine w.machine (ap (λ (m : Machine). m.verdict) ev.machine) in
    let event : c.index-events-index.result ≡ event_of x =
    next_event c.args.state.now.events c.as_slice-events.result.now c.args.keeper.now c.args.index c.index-events-index.result _ (event_of x) [] (c.as_slice-events.ensures ∙ c.journal.ensures.events)
    c.index-events-index.is c.requires.index ev.ahead in
    code_passed c.grants_are_posted.ensures.may c.grants_are_posted.ensures.kept w g.J.RunNaming.journal only c.args.state.now c.args.keeper.now c.args.seat.now c.args.id x (offered_of c.args.offered)
    c.requires.hand ev c.args.index c.index-events-index.result c.requires.index event c.pass_grant.new.keeper c.pass_grant.new.seat c.pass_grant.result c.pass_grant.ensures.keeper c.pass_grant.ensures.seat
    c.pass_grant.ensures.step c.pass_grant.ensures.entry

pub returns-clause-grant : goal.returns-clause-grant
returns-clause-grant g c =
    let w = g.J.RunNaming.setting in
    let only : AcceptsOnly w.machine = c.accepted_object.ensures.machine w.machine (ap (λ (m : Machine). m.verdict) c.requires.grant.1.machine) in
    let event : c.index-events-index.result ≡ event_of c.requires.grant.0 =
    next_event c.args.state.now.events c.as_slice-events.result.now c.args.keeper.now c.args.index c.index-events-index.result _ (event_of c.requires.grant.0) [] (c.as_slice-events.ensures ∙ c.journal.ensures.events)
    c.index-events-index.is c.requires.index c.requires.grant.1.ahead in
    code_has_grant c.grants_are_posted.ensures.may c.grants_are_posted.ensures.kept w g.J.RunNaming.journal only c.args.state.now c.args.keeper.now c.args.seat.now c.args.id c.requires.grant.0 (offered_of c.args.offered)
    c.requires.hand c.requires.grant.1 c.args.index c.index-events-index.result c.requires.index event c.pass_grant.new.keeper c.pass_grant.new.seat c.pass_grant.result c.pass_grant.ensures.keeper c.pass_grant.ensures.seat
    c.pass_grant.ensures.step c.pass_grant.ensures.entry
