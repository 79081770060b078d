use Rattle.std.proofs.Common.{◌≡◌, false, Result, Ok, Err, sym, ◌∙◌}
use Rattle.std.specs.Prelude.{IfErr, IsTrue}
use Rattle.ld_base.specs.declared.fault.DlFault.{DlFault}
use Rattle.history_event.specs.declared.event.OpenAsk.{OpenAsk}
use Rattle.history_state.specs.After.{after}
use Rattle.history_state.specs.Asking.{asks_too_long}
use Rattle.history_state.specs.Flags.{are_flags}
use Rattle.history_state.specs.State.{State}
use Rattle.history_calls.specs.Laws.{RefusesAsk, long, flags, space, full as all_full}
use Rattle.link_calls.specs.LinkOpening.Asked.{RefusesNamespace, bad, full}
use Rattle.link_calls.proofs.link_opening.judging.judge.Goals as goal

if_err : {A E : Type 0} (r : Result A E) (P Q : E → Type 0) → ((e : E) → P e → Q e) → IfErr r P → IfErr r Q
if_err (Ok x) P Q f h = h
if_err (Err e) P Q f h = f e h

of_namespace : (s : State) (ask : OpenAsk) (fault : DlFault) → asks_too_long s ask.name ≡ false → IsTrue (are_flags ask.flags) → RefusesNamespace s ask.ns ask.name fault → RefusesAsk s ask fault
of_namespace s ask _ short flagged (bad number h) = space number short flagged h
of_namespace s ask _ short flagged (full h) = all_full short flagged h

pub returns-then-is_too_long-clause-refused : goal.returns-then-is_too_long-clause-refused
returns-then-is_too_long-clause-refused c = long (sym c.is_too_long.ensures ∙ c.if-is_too_long.true)

pub returns-then-not-are_flags-clause-refused : goal.returns-then-not-are_flags-clause-refused
returns-then-not-are_flags-clause-refused c = flags (sym c.is_too_long.ensures ∙ c.if-is_too_long.false) (sym c.are_flags.ensures ∙ c.if-not-are_flags.true)

pub returns-clause-refused : goal.returns-clause-refused
returns-clause-refused c =
    if_err c.namespace_of.result _ _
    (λ fault h. of_namespace (after c.args.state.now.events) c.args.ask.now fault (sym c.is_too_long.ensures ∙ c.if-is_too_long.false) (sym c.are_flags.ensures ∙ c.if-not-are_flags.false) h)
    c.namespace_of.ensures.refused
