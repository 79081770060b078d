use Rattle.std.proofs.Common.{◌≡◌, ◌+◌, [], ℕ, List, length, sym, ap, subst, ◌∙◌, arith}
use Rattle.history_journal.specs.Following.{MayFollow, machine_of}
use Rattle.history_event.specs.declared.event.Event.{Event}
use Rattle.history_event.specs.declared.event.Event.TheVariants.{Open}
use Rattle.history_event.specs.declared.event.OpenAnswer.TheVariants.{Done}
use Rattle.history_event.specs.declared.event.OpenAsk.{OpenAsk}
use Rattle.history_state.specs.After.{after}
use Rattle.history_state.specs.Step.{binds, seen_after}
use Rattle.history_calls.specs.Served.{InstallsNothing}
use Rattle.history_calls.specs.Startup.{entries_from, opening, program_ask}
use Rattle.link_state.specs.Table.{LinkTable}
use Rattle.link_open_images.specs.Relocated.{AreChoices}
use Rattle.link_open_plan.specs.Startup.{run_of}
use Rattle.link_startup.specs.Startup.{IsOfNoFile, IsUnstarted}
use Rattle.link_startup.proofs.Fails.{err_as, lacking_needs_none, lacks_so}
use Rattle.link_startup.proofs.First.{are_choices, may_follow, may_open}
use Rattle.link_startup.proofs.Opened.{all_start, is_brought, opened_events, starts_so}
use Rattle.link_startup.proofs.opening.open_program.Goals as goal

pub bring-requires-clause-may : goal.bring-requires-clause-may
bring-requires-clause-may c =
    let plan = c.requires.planned in
    subst (λ (h : ℕ). MayFollow c.args.state.now.harts c.args.state.now.events (Open h c.args.ask (Done 0 c.args.news.root c.args.news.added c.args.news.ranges))) (sym c.new-hart.ensures)
    (subst (λ (a : OpenAsk). MayFollow c.args.state.now.harts c.args.state.now.events (Open 0 a (Done 0 c.args.news.root c.args.news.added c.args.news.ranges))) (sym c.requires.ask)
    (may_follow c.args.setup.now plan.0 c.args.state.now.harts c.args.state.now.events (opening c.args.setup.now c.args.news.root c.args.news.added c.args.news.ranges)
    c.requires.harts c.requires.first (may_open c.args.setup.now plan.0 c.args.news plan.1)))

pub bring-requires-clause-chosen : goal.bring-requires-clause-chosen
bring-requires-clause-chosen c =
    let plan = c.requires.planned in
    subst (λ (past : List Event). AreChoices (seen_after (after past) c.args.ask 0 c.args.news.root c.args.news.added) (binds (after past) c.args.ask) c.args.news.added c.args.news.choices)
    (sym c.requires.first)
    (subst (λ (a : OpenAsk). AreChoices (seen_after (after []) a 0 c.args.news.root c.args.news.added) (binds (after []) a) c.args.news.added c.args.news.choices) (sym c.requires.ask)
    (are_choices (seen_after (after []) (program_ask c.args.setup.now) 0 c.args.news.root c.args.news.added) (binds (after []) (program_ask c.args.setup.now)) c.args.news.added
    c.args.news.choices plan.1.choices))

pub preinits-requires : goal.preinits-requires
preinits-requires c =
    let plan = c.requires.planned in
    let are = opened_events c.args.setup.now c.args.news c.args.state.now c.bring.new.state c.new-hart.result c.args.ask c.requires.first c.new-hart.ensures c.requires.ask
    c.in_ok-installs.ensures.event in
    is_brought c.args.setup.now c.args.news c.bring.new.state.events are c.in_ok-installs.installs
    (c.nothing_comes_before_startup.ensures (machine_of c.bring.new.state.harts) c.bring.new.state.events c.journal.ensures.lawful)
    plan.1.numbered c.in_ok-installs.ensures.put.prepared c.in_ok-installs.ensures.readable

pub returns-in_err-starts-clause-fails : goal.returns-in_err-starts-clause-fails
returns-in_err-starts-clause-fails c = λ files plan.
    let are = opened_events c.args.setup.now c.args.news c.args.state.now c.bring.new.state c.new-hart.result c.args.ask c.requires.first c.new-hart.ensures c.requires.ask
    c.in_ok-installs.ensures.event in
    err_as c.from_residual-in_err-starts.result c.in_err-starts.field-0.0 (IsUnstarted (run_of c.args.setup.now files) c.args.setup.now c.find_harts.new.state.events)
    c.from_residual-in_err-starts.ensures.1
    (lacks_so c.args.setup.now files c.args.news c.bring.new.state.events c.find_harts.new.state.events c.in_err-starts.field-0.0 plan are c.in_err-starts.ensures.lacks)

pub returns-in_err-starts-clause-no_file : goal.returns-in_err-starts-clause-no_file
returns-in_err-starts-clause-no_file c =
    err_as c.from_residual-in_err-starts.result c.in_err-starts.field-0.0 IsOfNoFile c.from_residual-in_err-starts.ensures.1
    (lacking_needs_none c.bring.new.state.events c.find_harts.new.state.events c.args.setup.now c.in_err-starts.field-0.0 c.in_err-starts.ensures.lacks)

pub entries_of-requires-clause-harts : goal.entries_of-requires-clause-harts
entries_of-requires-clause-harts c =
    let plan = c.requires.planned in
    let all : length c.in_ok-starts.starts ≡ length c.args.setup.now.harts + 1 =
    all_start (run_of c.args.setup.now plan.0) c.bring.new.state.events c.find_harts.new.state.events c.args.setup.now.harts c.in_ok-starts.starts c.in_ok-starts.ensures.found in
    let count : length c.as_slice.result.now ≡ length c.in_ok-starts.starts = ap length c.as_slice.ensures in
    let same : c.find_harts.new.state.harts ≡ c.args.state.now.harts = c.find_harts.ensures.same ∙ ap (λ (t : LinkTable). t.harts) c.in_ok-installs.ensures.event in
    let given : c.args.state.now.harts ≡ length c.args.setup.now.harts + 1 = c.requires.harts in
    omega (arith, all, count, same, given)

pub returns-clause-made : goal.returns-clause-made
returns-clause-made c = c.find_harts.ensures.made (subst (λ (t : LinkTable). InstallsNothing t.made) (sym c.in_ok-installs.ensures.event) c.requires.made)

pub returns-clause-starts : goal.returns-clause-starts
returns-clause-starts c = λ files plan.
    let are = opened_events c.args.setup.now c.args.news c.args.state.now c.bring.new.state c.new-hart.result c.args.ask c.requires.first c.new-hart.ensures c.requires.ask
    c.in_ok-installs.ensures.event in
    starts_so c.args.setup.now files c.args.news plan c.bring.new.state.events are c.in_ok-installs.installs c.in_ok-installs.functions c.in_ok-functions.functions
    c.in_ok-before.before.items c.in_ok-starts.starts c.in_ok-entries.entries c.find_harts.new.state.events c.in_ok-installs.ensures.put c.in_ok-installs.ensures.constructors
    c.in_ok-before.ensures c.in_ok-functions.ensures c.in_ok-starts.ensures.found
    (c.in_ok-entries.ensures ∙ ap (entries_from (after c.find_harts.new.state.events) 0) c.as_slice.ensures)
