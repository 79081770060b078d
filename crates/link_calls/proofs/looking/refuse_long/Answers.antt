use Rattle.std.proofs.Common.{refl, sym, subst}
use Rattle.ld_base.specs.declared.fault.DlFault.TheVariants.{NameTooLong}
use Rattle.history_journal.specs.Following.{MayFollow}
use Rattle.history_event.specs.declared.event.Ask.TheVariants as asks
use Rattle.history_event.specs.declared.event.SymAsk.{SymAsk}
use Rattle.history_state.specs.Lookup.{name_too_long}
use Rattle.link_holds.specs.Events.{refusal}
use Rattle.link_search.specs.Asking.{ask_of}
use Rattle.link_calls.proofs.Looked.{may_refuse, not_found}
use Rattle.link_calls.proofs.looking.refuse_long.Goals as goal

pub refuse-requires : goal.refuse-requires
refuse-requires c =
    subst (λ (a : SymAsk). MayFollow c.args.state.now.harts c.args.state.now.events (refusal c.args.hart (asks.Sym a) NameTooLong)) (sym c.in_ok-ask.ensures)
    (may_refuse c.args.state.now c.args.hart (ask_of c.args.caller c.args.handle c.args.name.now c.args.want.now) NameTooLong c.requires.caller (name_too_long c.requires.long))

pub returns-clause-served : goal.returns-clause-served
returns-clause-served c =
    not_found c.refuse.result c.args.state.now c.args.state.now c.refuse.new.state c.args.hart (ask_of c.args.caller c.args.handle c.args.name.now c.args.want.now) c.in_ok-ask.ask
    NameTooLong refl c.in_ok-ask.ensures c.requires.caller (name_too_long c.requires.long) c.refuse.ensures.served c.refuse.ensures.noted
