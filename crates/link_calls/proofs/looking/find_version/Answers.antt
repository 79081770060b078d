use Rattle.std.proofs.Common.{◌≤◌, ◌<◌, length, IfOk, ap, sym, subst, refl, ◌∙◌, arith}
use Rattle.std.proofs.lemmas.List.{take_all}
use Rattle.history_event.specs.declared.event.SymAsk.{SymAsk}
use Rattle.history_state.specs.Lookup.{name as long_name, version as long_version}
use Rattle.history_calls.specs.Call.{looks_up}
use Rattle.link_calls.specs.Coming.{LooksUpIn}
use Rattle.link_calls.proofs.Looked.{asked_none, asked_version_of, not_long, shows_long}
use Rattle.link_calls.proofs.looking.find_version.Goals as goal

pub refuse_long-requires-clause-long : goal.refuse_long-requires-clause-long
refuse_long-requires-clause-long c =
    let le : 256 ≤ length c.args.name.now = omega (arith, c.if-name-ge-LONG_NAME.true) in
    long_name (shows_long c.args.name.now le) refl

pub returns-then-name-ge-LONG_NAME-clause-served : goal.returns-then-name-ge-LONG_NAME-clause-served
returns-then-name-ge-LONG_NAME-clause-served c =
    let le : 256 ≤ length c.args.name.now = omega (arith, c.if-name-ge-LONG_NAME.true) in
    subst (λ (a : SymAsk). IfOk c.refuse_long.result (λ came. LooksUpIn c.args.state.now c.args.hart (looks_up a) came c.refuse_long.new.state))
    (asked_none c.args.caller c.args.handle c.args.name.now c.args.version.now le) c.refuse_long.ensures.served

pub refuse_long-requires-then-version-ge-LONG_NAME-clause-long : goal.refuse_long-requires-then-version-ge-LONG_NAME-clause-long
refuse_long-requires-then-version-ge-LONG_NAME-clause-long c =
    let few : length c.args.name.now < 256 = omega (arith, c.if-name-ge-LONG_NAME.false) in
    let le : 256 ≤ length c.args.version.now = omega (arith, c.if-version-ge-LONG_NAME.true) in
    long_version (not_long c.args.name.now few) c.in_ok-known.known refl (ap length c.in_ok-known.ensures ∙ shows_long c.args.version.now le)

pub returns-then-version-ge-LONG_NAME-clause-served : goal.returns-then-version-ge-LONG_NAME-clause-served
returns-then-version-ge-LONG_NAME-clause-served c =
    let few : length c.args.name.now < 256 = omega (arith, c.if-name-ge-LONG_NAME.false) in
    subst (λ (a : SymAsk). IfOk c.refuse_long-then-version-ge-LONG_NAME.result
    (λ came. LooksUpIn c.args.state.now c.args.hart (looks_up a) came c.refuse_long-then-version-ge-LONG_NAME.new.state))
    (asked_version_of c.args.caller c.args.handle c.args.name.now c.args.version.now c.in_ok-known.known few c.in_ok-known.ensures)
    c.refuse_long-then-version-ge-LONG_NAME.ensures.served

pub returns-clause-served : goal.returns-clause-served
returns-clause-served c =
    let few : length c.args.name.now < 256 = omega (arith, c.if-name-ge-LONG_NAME.false) in
    let short : length c.args.version.now < 256 = omega (arith, c.if-version-ge-LONG_NAME.false) in
    subst (λ (a : SymAsk). IfOk c.look_up.result (λ came. LooksUpIn c.args.state.now c.args.hart (looks_up a) came c.look_up.new.state))
    (asked_version_of c.args.caller c.args.handle c.args.name.now c.args.version.now c.in_ok-whole.whole few
    (c.in_ok-whole.ensures ∙ sym (take_all 256 c.args.version.now (omega (arith, short)))))
    c.look_up.ensures.served
