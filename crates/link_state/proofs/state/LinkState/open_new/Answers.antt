use Rattle.link_images.specs.ImageReads.Reads.{ArePrepared}
use Rattle.history_event.specs.declared.event.Event.TheVariants.{Open}
use Rattle.history_event.specs.declared.event.OpenAnswer.TheVariants.{Done}
use Rattle.history_state.specs.After.{after}
use Rattle.history_calls.specs.Served.{AreInstalls}
use Rattle.link_state.proofs.Opened.{after_it, installs_brought, prepared_brought}
use Rattle.link_state.proofs.state.LinkState.open_new.Goals as goal

pub returns-clause-installs : goal.returns-clause-installs
returns-clause-installs c =
    after_it (λ s made. AreInstalls s c.args.added c.args.ranges made) c.take_in.result c.args.self.now c.take_in.new.self
    (Open c.args.hart c.args.ask (Done c.args.ns c.args.root c.args.added c.args.ranges)) c.in_ok-brings.brings.installs
    (installs_brought (after c.args.self.now.events) _ c.args.added c.args.ranges c.in_ok-brings.brings c.in_ok-brings.ensures c.as_slice.ensures c.as_slice-2.ensures) c.take_in.ensures.ok
    c.take_in.ensures.installs

pub returns-clause-prepared : goal.returns-clause-prepared
returns-clause-prepared c =
    after_it (λ s made. ArePrepared s c.args.added made.images) c.take_in.result c.args.self.now c.take_in.new.self
    (Open c.args.hart c.args.ask (Done c.args.ns c.args.root c.args.added c.args.ranges)) c.in_ok-brings.brings.installs
    (prepared_brought (after c.args.self.now.events) _ c.args.added c.args.ranges c.in_ok-brings.brings c.in_ok-brings.ensures c.as_slice.ensures c.as_slice-2.ensures) c.take_in.ensures.ok
    c.take_in.ensures.installs
