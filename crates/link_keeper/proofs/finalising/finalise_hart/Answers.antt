use Rattle.std.proofs.Common.{inl, inr, ℕ, List, [], ◌++◌, drop, length, refl, sym, ap, subst, ◌∙◌}
use Rattle.std.specs.List.{Contains}
use Rattle.history_event.specs.declared.event.Event.{Event}
use Rattle.history_journal.specs.Following.{machine_of}
use Rattle.history_state.specs.After.{after}
use Rattle.history_state.specs.Slots.{HasNoGrant}
use Rattle.history_state.specs.Legal.{Legal}
use Rattle.hart_fits.specs.Fits.{HartFits}
use Rattle.hart_moves.specs.Harts.{HartState}
use Rattle.hart_moves.specs.Moves.{Did, Moves, events_of}
use Rattle.word_rule.specs.declared.view.HartView.{HartView}
use Rattle.word_rule.specs.declared.view.KeeperView.{KeeperView}
use Rattle.link_state.specs.Table.{LinkTable}
use Rattle.link_keeper.specs.Acting.{Acts, OpenNothing}
use Rattle.link_keeper.specs.Attending.{NobodysCame}
use Rattle.link_keeper.specs.Finalising.{HasPlan, IsPlannedOr, MayFinalise}
use Rattle.link_keeper.specs.Keeping.{KeepsState, OpensNothing}
use Rattle.link_keeper.specs.Rounds.{IsTurnOf}
use Rattle.link_keeper.specs.Settling.{SettlesAll}
use Rattle.link_keeper.proofs.Finalised.{initialised_so, is_last, may_finalise, planned_on, runs_finals, zeroth}
use Rattle.link_keeper.proofs.GoneBy.{at_last, fits_told, hand_last, may_last, opens_behind, own_behind, quiet_between, quiet_turn, row_idle, taken_last}
use Rattle.link_keeper.proofs.Left.{own_behind_settled}
use Rattle.link_keeper.proofs.Lacking.{opens_none}
use Rattle.link_keeper.proofs.Rest.{left_is}
use Rattle.link_keeper.proofs.Served.{between_now, journal_is, keeps_now, kept_now, module_there, serves_turn}
use Rattle.link_keeper.proofs.finalising.finalise_hart.Goals as goal

pub hear-requires-clause-calling : goal.hear-requires-clause-calling
hear-requires-clause-calling g c =
    (row_idle c.args.seat.now c.args.hart.now.hart.resolving (is_last (after c.args.keeper.now.events) c.args.hart.now.hart (c.requires.last (after c.args.keeper.now.events))).rests c.requires.between.row)

pub plan_turn-requires-clause-initialised : goal.plan_turn-requires-clause-initialised
plan_turn-requires-clause-initialised g c =
    initialised_so c.finals_may_pass.ensures.own c.finals_may_pass.ensures.next c.finals_go_on.ensures g.J.RunNaming.setting c.args.state.now.events c.id_of-id.result c.args.hart.now.hart (subst (λ (es : List Event). HartFits g.J.RunNaming.setting es c.id_of-id.result c.args.hart.now.hart) c.requires.keeps.same (fits_told c.harts_fit.ensures.others g.J.RunNaming.setting g.J.RunNaming.journal c.args.keeper.now c.args.seat.now c.id_of-id.result c.args.hart.now.hart c.args.blocks.now c.requires.keeps.view c.requires.between c.id_of-id.ensures (is_last (after c.args.keeper.now.events) c.args.hart.now.hart (c.requires.last (after c.args.keeper.now.events))).runs c.hear.new.seat c.hear.ensures.hears c.hear.ensures.all)) c.requires.last

pub go_by-requires-clause-may : goal.go_by-requires-clause-may
go_by-requires-clause-may g c =
    subst (MayFinalise g.J.RunNaming.setting c.args.state.now.harts c.args.state.now.events c.id_of-id.result) (sym c.plan_turn.ensures.hart)
    (may_finalise c.finals_may_pass.ensures.own c.finals_may_pass.ensures.next c.finals_go_on.ensures g.J.RunNaming.setting c.args.state.now.events c.id_of-id.result c.args.hart.now.hart (subst (λ (es : List Event). HartFits g.J.RunNaming.setting es c.id_of-id.result c.args.hart.now.hart) c.requires.keeps.same (fits_told c.harts_fit.ensures.others g.J.RunNaming.setting g.J.RunNaming.journal c.args.keeper.now c.args.seat.now c.id_of-id.result c.args.hart.now.hart c.args.blocks.now c.requires.keeps.view c.requires.between c.id_of-id.ensures (is_last (after c.args.keeper.now.events) c.args.hart.now.hart (c.requires.last (after c.args.keeper.now.events))).runs c.hear.new.seat c.hear.ensures.hears c.hear.ensures.all)) c.requires.last c.args.state.now.harts c.requires.keeps.machine (subst (λ (es : List Event). Legal g.J.RunNaming.setting es) c.requires.keeps.same c.requires.keeps.view.kept.legal))

pub go_by-requires-clause-plan : goal.go_by-requires-clause-plan
go_by-requires-clause-plan g c =
    subst (λ (x : HartState). HasPlan (after c.args.state.now.events) x c.plan_turn.new.hart.spare c.in-Quiet.plan) (sym c.plan_turn.ensures.hart) c.in-Quiet.ensures.planned.0

pub go_by-requires-clause-quiet : goal.go_by-requires-clause-quiet
go_by-requires-clause-quiet g c =
    c.in-Quiet.ensures.planned.1

pub attend-requires-clause-id : goal.attend-requires-clause-id
attend-requires-clause-id g c =
    (c.id_of-id.ensures ∙ sym (ap (λ (x : HartView). x.number) c.hear.ensures.hears.told))

pub attend-requires-clause-keeps : goal.attend-requires-clause-keeps
attend-requires-clause-keeps g c =
    (subst (KeepsState g.J.RunNaming.setting g.J.RunNaming.journal c.args.state.now) (sym c.hear.ensures.keeper) c.requires.keeps)

pub attend-requires-clause-calling : goal.attend-requires-clause-calling
attend-requires-clause-calling g c =
    (ap (λ (x : HartView). x.lane.calling) c.hear.ensures.hears.told ∙ (row_idle c.args.seat.now c.args.hart.now.hart.resolving (is_last (after c.args.keeper.now.events) c.args.hart.now.hart (c.requires.last (after c.args.keeper.now.events))).rests c.requires.between.row))

pub act_last-acted-requires-clause-may : goal.act_last-acted-requires-clause-may
act_last-acted-requires-clause-may g c =
    subst (MayFinalise g.J.RunNaming.setting c.attend.new.state.harts c.attend.new.state.events c.id_of-id.result) (sym c.plan_turn.ensures.hart)
    (may_last c.harts_fit.ensures.others g.J.RunNaming.setting g.J.RunNaming.journal c.attend.new.state c.attend.new.keeper c.args.seat.now c.hear.new.seat c.attend.new.seat c.id_of-id.result c.args.hart.now.hart c.args.blocks.now c.attend.ensures.keeps c.requires.between c.hear.ensures.hears c.id_of-id.ensures (is_last (after c.args.keeper.now.events) c.args.hart.now.hart (c.requires.last (after c.args.keeper.now.events))).runs c.attend.ensures.attends c.finals_may_pass.ensures.own c.finals_may_pass.ensures.next c.finals_go_on.ensures c.requires.last)

pub act_last-acted-requires-clause-plan : goal.act_last-acted-requires-clause-plan
act_last-acted-requires-clause-plan g c =
    subst (λ (es : List Event). IsPlannedOr (after es) c.plan_turn.new.hart.hart c.plan_turn.new.hart.spare c.in-Asks.plan) c.attend.ensures.keeps.same
    (planned_on c.settling_keeps_finals.ensures.plans c.args.keeper.now.events c.attend.new.keeper.events c.plan_turn.new.hart.hart c.plan_turn.new.hart.spare (subst (λ (x : KeeperView). NobodysCame x.events c.attend.new.keeper.events) c.hear.ensures.keeper c.attend.ensures.settled) c.in-Asks.plan
    (subst (λ (es : List Event). IsPlannedOr (after es) c.plan_turn.new.hart.hart c.plan_turn.new.hart.spare c.in-Asks.plan) (sym c.requires.keeps.same)
    (subst (λ (x : HartState). IsPlannedOr (after c.args.state.now.events) x c.plan_turn.new.hart.spare c.in-Asks.plan) (sym c.plan_turn.ensures.hart) c.in-Asks.ensures.planned)))

pub pass-entry-requires-clause-index : goal.pass-entry-requires-clause-index
pass-entry-requires-clause-index g c =
    ap length (c.as_slice-index.ensures ∙ c.journal.ensures.events ∙ sym c.attend.ensures.keeps.same)

pub pass-entry-requires-clause-hand : goal.pass-entry-requires-clause-hand
pass-entry-requires-clause-hand g c =
    hand_last c.harts_fit.ensures.others g.J.RunNaming.setting g.J.RunNaming.journal c.attend.new.state c.attend.new.keeper c.args.seat.now c.hear.new.seat c.attend.new.seat c.id_of-id.result c.args.hart.now.hart c.args.blocks.now c.attend.ensures.keeps c.requires.between c.hear.ensures.hears c.id_of-id.ensures (is_last (after c.args.keeper.now.events) c.args.hart.now.hart (c.requires.last (after c.args.keeper.now.events))).runs c.attend.ensures.attends

pub pass-entry-requires-clause-machine : goal.pass-entry-requires-clause-machine
pass-entry-requires-clause-machine g c =
    c.attend.ensures.keeps.machine ∙ ap machine_of (sym c.act_last-acted.ensures.harts)

pub pass-entry-requires-clause-taken : goal.pass-entry-requires-clause-taken
pass-entry-requires-clause-taken g c =
    (c.args.hart.now.hart, c.act_last-acted.new.hart.hart, c.args.blocks.now.spare, (taken_last c.harts_fit.ensures.others g.J.RunNaming.setting g.J.RunNaming.journal c.attend.new.state c.attend.new.keeper c.args.seat.now c.hear.new.seat c.attend.new.seat c.id_of-id.result c.args.hart.now.hart c.args.blocks.now c.attend.ensures.keeps c.requires.between c.hear.ensures.hears c.id_of-id.ensures (is_last (after c.args.keeper.now.events) c.args.hart.now.hart (c.requires.last (after c.args.keeper.now.events))).runs c.attend.ensures.attends c.act_last-acted.new.state c.act_last-acted.new.hart.hart c.args.blocks.now.spare c.act_last-acted.result.change c.act_last-acted.result.reply (subst (λ (x : HartState). Acts g.J.RunNaming.setting c.attend.new.state.events c.act_last-acted.new.state c.id_of-id.result x c.act_last-acted.new.hart.hart c.args.blocks.now.spare c.act_last-acted.result.change c.act_last-acted.result.reply) c.plan_turn.ensures.hart (c.act_last-acted.ensures.acts c.args.blocks.now.spare))))

pub keep_answer-requires-clause-room : goal.keep_answer-requires-clause-room
keep_answer-requires-clause-room g c =
    let turn = (taken_last c.harts_fit.ensures.others g.J.RunNaming.setting g.J.RunNaming.journal c.attend.new.state c.attend.new.keeper c.args.seat.now c.hear.new.seat c.attend.new.seat c.id_of-id.result c.args.hart.now.hart c.args.blocks.now c.attend.ensures.keeps c.requires.between c.hear.ensures.hears c.id_of-id.ensures (is_last (after c.args.keeper.now.events) c.args.hart.now.hart (c.requires.last (after c.args.keeper.now.events))).runs c.attend.ensures.attends c.act_last-acted.new.state c.act_last-acted.new.hart.hart c.args.blocks.now.spare c.act_last-acted.result.change c.act_last-acted.result.reply (subst (λ (x : HartState). Acts g.J.RunNaming.setting c.attend.new.state.events c.act_last-acted.new.state c.id_of-id.result x c.act_last-acted.new.hart.hart c.args.blocks.now.spare c.act_last-acted.result.change c.act_last-acted.result.reply) c.plan_turn.ensures.hart (c.act_last-acted.ensures.acts c.args.blocks.now.spare))) in
    let over = c.pass-entry.ensures c.args.hart.now.hart c.act_last-acted.new.hart.hart c.args.blocks.now.spare turn in
    over.room

pub keep_answer-requires-clause-there : goal.keep_answer-requires-clause-there
keep_answer-requires-clause-there g c =
    let turn = (taken_last c.harts_fit.ensures.others g.J.RunNaming.setting g.J.RunNaming.journal c.attend.new.state c.attend.new.keeper c.args.seat.now c.hear.new.seat c.attend.new.seat c.id_of-id.result c.args.hart.now.hart c.args.blocks.now c.attend.ensures.keeps c.requires.between c.hear.ensures.hears c.id_of-id.ensures (is_last (after c.args.keeper.now.events) c.args.hart.now.hart (c.requires.last (after c.args.keeper.now.events))).runs c.attend.ensures.attends c.act_last-acted.new.state c.act_last-acted.new.hart.hart c.args.blocks.now.spare c.act_last-acted.result.change c.act_last-acted.result.reply (subst (λ (x : HartState). Acts g.J.RunNaming.setting c.attend.new.state.events c.act_last-acted.new.state c.id_of-id.result x c.act_last-acted.new.hart.hart c.args.blocks.now.spare c.act_last-acted.result.change c.act_last-acted.result.reply) c.plan_turn.ensures.hart (c.act_last-acted.ensures.acts c.args.blocks.now.spare))) in
    let over = c.pass-entry.ensures c.args.hart.now.hart c.act_last-acted.new.hart.hart c.args.blocks.now.spare turn in
    module_there g.J.RunNaming.setting g.J.RunNaming.journal c.act_last-acted.new.state c.attend.new.keeper c.pass-entry.new.keeper c.attend.new.seat c.pass-entry.new.seat c.id_of-id.result c.args.hart.now.hart c.act_last-acted.new.hart.hart c.args.blocks.now.spare c.act_last-acted.result.change c.act_last-acted.result.reply c.pass-entry.result turn over c.modules-in-Asks.result.now.modules c.modules-in-Asks.ensures.modules

pub returns-in-Quiet-clause-keeps : goal.returns-in-Quiet-clause-keeps
returns-in-Quiet-clause-keeps g c =
    subst (λ (x : LinkTable). KeepsState g.J.RunNaming.setting g.J.RunNaming.journal x c.hear.new.keeper) (sym c.go_by.ensures.state) (subst (KeepsState g.J.RunNaming.setting g.J.RunNaming.journal c.args.state.now) (sym c.hear.ensures.keeper) c.requires.keeps)

pub returns-in-Quiet-clause-turn : goal.returns-in-Quiet-clause-turn
returns-in-Quiet-clause-turn g c =
    quiet_turn c.own_moves_fit.ensures c.modules_are_tidy.ensures.tidy c.nothing_comes_before_startup.ensures g.J.RunNaming.setting g.J.RunNaming.journal c.args.keeper.now c.args.seat.now c.hear.new.seat c.id_of-id.result c.args.hart.now.hart c.go_by.new.hart.hart c.args.blocks.now c.begin.new.self c.requires.keeps.view c.requires.between c.hear.ensures.hears c.hear.ensures.all c.id_of-id.ensures (fits_told c.harts_fit.ensures.others g.J.RunNaming.setting g.J.RunNaming.journal c.args.keeper.now c.args.seat.now c.id_of-id.result c.args.hart.now.hart c.args.blocks.now c.requires.keeps.view c.requires.between c.id_of-id.ensures (is_last (after c.args.keeper.now.events) c.args.hart.now.hart (c.requires.last (after c.args.keeper.now.events))).runs c.hear.new.seat c.hear.ensures.hears c.hear.ensures.all) (is_last (after c.args.keeper.now.events) c.args.hart.now.hart (c.requires.last (after c.args.keeper.now.events))).runs (is_last (after c.args.keeper.now.events) c.args.hart.now.hart (c.requires.last (after c.args.keeper.now.events))).rests (subst (λ (es : List Event). Moves g.J.RunNaming.setting es c.id_of-id.result c.args.hart.now.hart (Did.quiet []) c.go_by.new.hart.hart) (sym c.requires.keeps.same) (subst (λ (x : HartState). Moves g.J.RunNaming.setting c.args.state.now.events c.id_of-id.result x (Did.quiet []) c.go_by.new.hart.hart) c.plan_turn.ensures.hart c.go_by.ensures.moves)) c.go_by.ensures.rests c.hear.ensures.read c.requires.last

pub returns-in-Quiet-clause-between : goal.returns-in-Quiet-clause-between
returns-in-Quiet-clause-between g c =
    quiet_between c.own_moves_fit.ensures c.modules_are_tidy.ensures.tidy c.nothing_comes_before_startup.ensures g.J.RunNaming.setting g.J.RunNaming.journal c.args.keeper.now c.args.seat.now c.hear.new.seat c.id_of-id.result c.args.hart.now.hart c.go_by.new.hart.hart c.args.blocks.now c.begin.new.self c.requires.keeps.view c.requires.between c.hear.ensures.hears c.hear.ensures.all c.id_of-id.ensures (fits_told c.harts_fit.ensures.others g.J.RunNaming.setting g.J.RunNaming.journal c.args.keeper.now c.args.seat.now c.id_of-id.result c.args.hart.now.hart c.args.blocks.now c.requires.keeps.view c.requires.between c.id_of-id.ensures (is_last (after c.args.keeper.now.events) c.args.hart.now.hart (c.requires.last (after c.args.keeper.now.events))).runs c.hear.new.seat c.hear.ensures.hears c.hear.ensures.all) (is_last (after c.args.keeper.now.events) c.args.hart.now.hart (c.requires.last (after c.args.keeper.now.events))).runs (is_last (after c.args.keeper.now.events) c.args.hart.now.hart (c.requires.last (after c.args.keeper.now.events))).rests (subst (λ (es : List Event). Moves g.J.RunNaming.setting es c.id_of-id.result c.args.hart.now.hart (Did.quiet []) c.go_by.new.hart.hart) (sym c.requires.keeps.same) (subst (λ (x : HartState). Moves g.J.RunNaming.setting c.args.state.now.events c.id_of-id.result x (Did.quiet []) c.go_by.new.hart.hart) c.plan_turn.ensures.hart c.go_by.ensures.moves)) c.go_by.ensures.rests c.turns_append.ensures.finals (runs_finals (after c.args.keeper.now.events) c.args.hart.now.hart (c.requires.last (after c.args.keeper.now.events))) c.generation.result
    (c.generation.ensures ∙ c.modules.ensures.generation ∙ ap (λ (x : LinkTable). (after x.events).generation) c.go_by.ensures.state ∙ ap (λ (es : List Event). (after es).generation) (sym c.requires.keeps.same))
    c.begin.ensures.entries c.begin.ensures.generation c.hear.ensures.issued

pub returns-in-Quiet-clause-opened : goal.returns-in-Quiet-clause-opened
returns-in-Quiet-clause-opened g c =
    subst (λ (x : KeeperView). OpensNothing c.args.keeper.now.events x.events) (sym c.hear.ensures.keeper) (opens_none c.args.keeper.now.events)

pub returns-in-Quiet-clause-only : goal.returns-in-Quiet-clause-only
returns-in-Quiet-clause-only g c =
    inl (ap (λ (x : KeeperView). x.events) c.hear.ensures.keeper)

pub returns-in-Asks-clause-keeps : goal.returns-in-Asks-clause-keeps
returns-in-Asks-clause-keeps g c =
    let turn = (taken_last c.harts_fit.ensures.others g.J.RunNaming.setting g.J.RunNaming.journal c.attend.new.state c.attend.new.keeper c.args.seat.now c.hear.new.seat c.attend.new.seat c.id_of-id.result c.args.hart.now.hart c.args.blocks.now c.attend.ensures.keeps c.requires.between c.hear.ensures.hears c.id_of-id.ensures (is_last (after c.args.keeper.now.events) c.args.hart.now.hart (c.requires.last (after c.args.keeper.now.events))).runs c.attend.ensures.attends c.act_last-acted.new.state c.act_last-acted.new.hart.hart c.args.blocks.now.spare c.act_last-acted.result.change c.act_last-acted.result.reply (subst (λ (x : HartState). Acts g.J.RunNaming.setting c.attend.new.state.events c.act_last-acted.new.state c.id_of-id.result x c.act_last-acted.new.hart.hart c.args.blocks.now.spare c.act_last-acted.result.change c.act_last-acted.result.reply) c.plan_turn.ensures.hart (c.act_last-acted.ensures.acts c.args.blocks.now.spare))) in
    let over = c.pass-entry.ensures c.args.hart.now.hart c.act_last-acted.new.hart.hart c.args.blocks.now.spare turn in
    let kept = (kept_now g.J.RunNaming.setting g.J.RunNaming.journal c.act_last-acted.new.state c.attend.new.keeper c.pass-entry.new.keeper c.attend.new.seat c.pass-entry.new.seat c.id_of-id.result c.args.hart.now.hart c.act_last-acted.new.hart.hart c.args.blocks.now.spare c.act_last-acted.result.change c.act_last-acted.result.reply c.pass-entry.result turn over c.modules-in-Asks.result.now.generation c.args.blocks.now c.args.blocks.now c.keep_answer.new.blocks c.modules-in-Asks.ensures.generation refl refl c.keep_answer.ensures) in
    keeps_now c.own_moves_fit.ensures c.modules_are_tidy.ensures.tidy c.nothing_comes_before_startup.ensures g.J.RunNaming.setting g.J.RunNaming.journal c.attend.new.state c.act_last-acted.new.state c.attend.new.keeper c.pass-entry.new.keeper c.args.seat.now c.attend.new.seat c.pass-entry.new.seat c.id_of-id.result c.args.hart.now.hart c.act_last-acted.new.hart.hart c.args.blocks.now.spare c.act_last-acted.result.change c.act_last-acted.result.reply c.pass-entry.result c.args.blocks.now c.keep_answer.new.blocks c.attend.ensures.keeps c.requires.between c.id_of-id.ensures (c.number.ensures.lane.idle (row_idle c.args.seat.now c.args.hart.now.hart.resolving (is_last (after c.args.keeper.now.events) c.args.hart.now.hart (c.requires.last (after c.args.keeper.now.events))).rests c.requires.between.row)) (at_last c.harts_fit.ensures.others g.J.RunNaming.setting g.J.RunNaming.journal c.attend.new.state c.attend.new.keeper c.args.seat.now c.hear.new.seat c.attend.new.seat c.id_of-id.result c.args.hart.now.hart c.args.blocks.now c.attend.ensures.keeps c.requires.between c.hear.ensures.hears c.id_of-id.ensures (is_last (after c.args.keeper.now.events) c.args.hart.now.hart (c.requires.last (after c.args.keeper.now.events))).runs c.attend.ensures.attends) turn c.act_last-acted.ensures.harts over kept

pub returns-in-Asks-clause-turn : goal.returns-in-Asks-clause-turn
returns-in-Asks-clause-turn g c =
    let turn = (taken_last c.harts_fit.ensures.others g.J.RunNaming.setting g.J.RunNaming.journal c.attend.new.state c.attend.new.keeper c.args.seat.now c.hear.new.seat c.attend.new.seat c.id_of-id.result c.args.hart.now.hart c.args.blocks.now c.attend.ensures.keeps c.requires.between c.hear.ensures.hears c.id_of-id.ensures (is_last (after c.args.keeper.now.events) c.args.hart.now.hart (c.requires.last (after c.args.keeper.now.events))).runs c.attend.ensures.attends c.act_last-acted.new.state c.act_last-acted.new.hart.hart c.args.blocks.now.spare c.act_last-acted.result.change c.act_last-acted.result.reply (subst (λ (x : HartState). Acts g.J.RunNaming.setting c.attend.new.state.events c.act_last-acted.new.state c.id_of-id.result x c.act_last-acted.new.hart.hart c.args.blocks.now.spare c.act_last-acted.result.change c.act_last-acted.result.reply) c.plan_turn.ensures.hart (c.act_last-acted.ensures.acts c.args.blocks.now.spare))) in
    let over = c.pass-entry.ensures c.args.hart.now.hart c.act_last-acted.new.hart.hart c.args.blocks.now.spare turn in
    let kept = (kept_now g.J.RunNaming.setting g.J.RunNaming.journal c.act_last-acted.new.state c.attend.new.keeper c.pass-entry.new.keeper c.attend.new.seat c.pass-entry.new.seat c.id_of-id.result c.args.hart.now.hart c.act_last-acted.new.hart.hart c.args.blocks.now.spare c.act_last-acted.result.change c.act_last-acted.result.reply c.pass-entry.result turn over c.modules-in-Asks.result.now.generation c.args.blocks.now c.args.blocks.now c.keep_answer.new.blocks c.modules-in-Asks.ensures.generation refl refl c.keep_answer.ensures) in
    serves_turn c.own_moves_fit.ensures c.modules_are_tidy.ensures.tidy c.nothing_comes_before_startup.ensures g.J.RunNaming.setting g.J.RunNaming.journal c.attend.new.state c.act_last-acted.new.state c.attend.new.keeper c.pass-entry.new.keeper c.args.seat.now c.attend.new.seat c.pass-entry.new.seat c.id_of-id.result c.args.hart.now.hart c.act_last-acted.new.hart.hart c.args.blocks.now.spare c.act_last-acted.result.change c.act_last-acted.result.reply c.pass-entry.result c.args.blocks.now c.keep_answer.new.blocks c.attend.ensures.keeps c.requires.between c.id_of-id.ensures (c.number.ensures.lane.idle (row_idle c.args.seat.now c.args.hart.now.hart.resolving (is_last (after c.args.keeper.now.events) c.args.hart.now.hart (c.requires.last (after c.args.keeper.now.events))).rests c.requires.between.row)) (at_last c.harts_fit.ensures.others g.J.RunNaming.setting g.J.RunNaming.journal c.attend.new.state c.attend.new.keeper c.args.seat.now c.hear.new.seat c.attend.new.seat c.id_of-id.result c.args.hart.now.hart c.args.blocks.now c.attend.ensures.keeps c.requires.between c.hear.ensures.hears c.id_of-id.ensures (is_last (after c.args.keeper.now.events) c.args.hart.now.hart (c.requires.last (after c.args.keeper.now.events))).runs c.attend.ensures.attends) turn c.act_last-acted.ensures.harts over kept

pub returns-in-Asks-clause-between : goal.returns-in-Asks-clause-between
returns-in-Asks-clause-between g c =
    let turn = (taken_last c.harts_fit.ensures.others g.J.RunNaming.setting g.J.RunNaming.journal c.attend.new.state c.attend.new.keeper c.args.seat.now c.hear.new.seat c.attend.new.seat c.id_of-id.result c.args.hart.now.hart c.args.blocks.now c.attend.ensures.keeps c.requires.between c.hear.ensures.hears c.id_of-id.ensures (is_last (after c.args.keeper.now.events) c.args.hart.now.hart (c.requires.last (after c.args.keeper.now.events))).runs c.attend.ensures.attends c.act_last-acted.new.state c.act_last-acted.new.hart.hart c.args.blocks.now.spare c.act_last-acted.result.change c.act_last-acted.result.reply (subst (λ (x : HartState). Acts g.J.RunNaming.setting c.attend.new.state.events c.act_last-acted.new.state c.id_of-id.result x c.act_last-acted.new.hart.hart c.args.blocks.now.spare c.act_last-acted.result.change c.act_last-acted.result.reply) c.plan_turn.ensures.hart (c.act_last-acted.ensures.acts c.args.blocks.now.spare))) in
    let over = c.pass-entry.ensures c.args.hart.now.hart c.act_last-acted.new.hart.hart c.args.blocks.now.spare turn in
    let kept = (kept_now g.J.RunNaming.setting g.J.RunNaming.journal c.act_last-acted.new.state c.attend.new.keeper c.pass-entry.new.keeper c.attend.new.seat c.pass-entry.new.seat c.id_of-id.result c.args.hart.now.hart c.act_last-acted.new.hart.hart c.args.blocks.now.spare c.act_last-acted.result.change c.act_last-acted.result.reply c.pass-entry.result turn over c.modules-in-Asks.result.now.generation c.args.blocks.now c.args.blocks.now c.keep_answer.new.blocks c.modules-in-Asks.ensures.generation refl refl c.keep_answer.ensures) in
    between_now c.own_moves_fit.ensures c.modules_are_tidy.ensures.tidy c.nothing_comes_before_startup.ensures g.J.RunNaming.setting g.J.RunNaming.journal c.attend.new.state c.act_last-acted.new.state c.attend.new.keeper c.pass-entry.new.keeper c.args.seat.now c.attend.new.seat c.pass-entry.new.seat c.id_of-id.result c.args.hart.now.hart c.act_last-acted.new.hart.hart c.args.blocks.now.spare c.act_last-acted.result.change c.act_last-acted.result.reply c.pass-entry.result c.args.blocks.now c.keep_answer.new.blocks c.attend.ensures.keeps c.requires.between c.id_of-id.ensures (c.number.ensures.lane.idle (row_idle c.args.seat.now c.args.hart.now.hart.resolving (is_last (after c.args.keeper.now.events) c.args.hart.now.hart (c.requires.last (after c.args.keeper.now.events))).rests c.requires.between.row)) (at_last c.harts_fit.ensures.others g.J.RunNaming.setting g.J.RunNaming.journal c.attend.new.state c.attend.new.keeper c.args.seat.now c.hear.new.seat c.attend.new.seat c.id_of-id.result c.args.hart.now.hart c.args.blocks.now c.attend.ensures.keeps c.requires.between c.hear.ensures.hears c.id_of-id.ensures (is_last (after c.args.keeper.now.events) c.args.hart.now.hart (c.requires.last (after c.args.keeper.now.events))).runs c.attend.ensures.attends) turn c.act_last-acted.ensures.harts over kept

pub returns-in-Asks-clause-opened : goal.returns-in-Asks-clause-opened
returns-in-Asks-clause-opened g c =
    let turn = (taken_last c.harts_fit.ensures.others g.J.RunNaming.setting g.J.RunNaming.journal c.attend.new.state c.attend.new.keeper c.args.seat.now c.hear.new.seat c.attend.new.seat c.id_of-id.result c.args.hart.now.hart c.args.blocks.now c.attend.ensures.keeps c.requires.between c.hear.ensures.hears c.id_of-id.ensures (is_last (after c.args.keeper.now.events) c.args.hart.now.hart (c.requires.last (after c.args.keeper.now.events))).runs c.attend.ensures.attends c.act_last-acted.new.state c.act_last-acted.new.hart.hart c.args.blocks.now.spare c.act_last-acted.result.change c.act_last-acted.result.reply (subst (λ (x : HartState). Acts g.J.RunNaming.setting c.attend.new.state.events c.act_last-acted.new.state c.id_of-id.result x c.act_last-acted.new.hart.hart c.args.blocks.now.spare c.act_last-acted.result.change c.act_last-acted.result.reply) c.plan_turn.ensures.hart (c.act_last-acted.ensures.acts c.args.blocks.now.spare))) in
    let over = c.pass-entry.ensures c.args.hart.now.hart c.act_last-acted.new.hart.hart c.args.blocks.now.spare turn in
    opens_behind c.args.keeper.now.events c.attend.new.keeper.events c.pass-entry.new.keeper.events (events_of turn.acts.did) (subst (λ (x : KeeperView). NobodysCame x.events c.attend.new.keeper.events) c.hear.ensures.keeper c.attend.ensures.settled) over.passed.events
    (subst OpenNothing (ap (drop (length c.attend.new.state.events)) (sym (journal_is g.J.RunNaming.setting g.J.RunNaming.journal c.act_last-acted.new.state c.attend.new.keeper c.pass-entry.new.keeper c.attend.new.seat c.pass-entry.new.seat c.id_of-id.result c.args.hart.now.hart c.act_last-acted.new.hart.hart c.args.blocks.now.spare c.act_last-acted.result.change c.act_last-acted.result.reply c.pass-entry.result turn over)) ∙ left_is c.pass-entry.new.keeper.events c.attend.new.state.events (events_of turn.acts.did) (over.passed.events ∙ ap (λ (es : List Event). es ++ (events_of turn.acts.did)) c.attend.ensures.keeps.same)) c.act_last-acted.ensures.opens)

pub returns-in-Asks-clause-only : goal.returns-in-Asks-clause-only
returns-in-Asks-clause-only g c =
    let turn = (taken_last c.harts_fit.ensures.others g.J.RunNaming.setting g.J.RunNaming.journal c.attend.new.state c.attend.new.keeper c.args.seat.now c.hear.new.seat c.attend.new.seat c.id_of-id.result c.args.hart.now.hart c.args.blocks.now c.attend.ensures.keeps c.requires.between c.hear.ensures.hears c.id_of-id.ensures (is_last (after c.args.keeper.now.events) c.args.hart.now.hart (c.requires.last (after c.args.keeper.now.events))).runs c.attend.ensures.attends c.act_last-acted.new.state c.act_last-acted.new.hart.hart c.args.blocks.now.spare c.act_last-acted.result.change c.act_last-acted.result.reply (subst (λ (x : HartState). Acts g.J.RunNaming.setting c.attend.new.state.events c.act_last-acted.new.state c.id_of-id.result x c.act_last-acted.new.hart.hart c.args.blocks.now.spare c.act_last-acted.result.change c.act_last-acted.result.reply) c.plan_turn.ensures.hart (c.act_last-acted.ensures.acts c.args.blocks.now.spare))) in
    let over = c.pass-entry.ensures c.args.hart.now.hart c.act_last-acted.new.hart.hart c.args.blocks.now.spare turn in
    let x = c.act_last-acted.ensures.own in
    own_behind c.args.keeper.now.events c.attend.new.keeper.events c.pass-entry.new.keeper.events (events_of turn.acts.did) (subst (λ (x : KeeperView). NobodysCame x.events c.attend.new.keeper.events) c.hear.ensures.keeper c.attend.ensures.settled) over.passed.events c.id_of-id.result (zeroth c.finals_may_pass.ensures.own c.finals_may_pass.ensures.next c.finals_go_on.ensures g.J.RunNaming.setting c.args.state.now.events c.id_of-id.result c.args.hart.now.hart (subst (λ (es : List Event). HartFits g.J.RunNaming.setting es c.id_of-id.result c.args.hart.now.hart) c.requires.keeps.same (fits_told c.harts_fit.ensures.others g.J.RunNaming.setting g.J.RunNaming.journal c.args.keeper.now c.args.seat.now c.id_of-id.result c.args.hart.now.hart c.args.blocks.now c.requires.keeps.view c.requires.between c.id_of-id.ensures (is_last (after c.args.keeper.now.events) c.args.hart.now.hart (c.requires.last (after c.args.keeper.now.events))).runs c.hear.new.seat c.hear.ensures.hears c.hear.ensures.all)) c.requires.last)
    (x.0, subst (λ (es : List Event). Contains es x.0) (ap (drop (length c.attend.new.state.events)) (sym (journal_is g.J.RunNaming.setting g.J.RunNaming.journal c.act_last-acted.new.state c.attend.new.keeper c.pass-entry.new.keeper c.attend.new.seat c.pass-entry.new.seat c.id_of-id.result c.args.hart.now.hart c.act_last-acted.new.hart.hart c.args.blocks.now.spare c.act_last-acted.result.change c.act_last-acted.result.reply c.pass-entry.result turn over)) ∙ left_is c.pass-entry.new.keeper.events c.attend.new.state.events (events_of turn.acts.did) (over.passed.events ∙ ap (λ (es : List Event). es ++ (events_of turn.acts.did)) c.attend.ensures.keeps.same)) x.1, x.2)

pub returns-in-Quiet-clause-settled : goal.returns-in-Quiet-clause-settled
returns-in-Quiet-clause-settled g c = inl c.hear.ensures.keeper

pub returns-in-Asks-clause-settled : goal.returns-in-Asks-clause-settled
returns-in-Asks-clause-settled g c =
    let turn = (taken_last c.harts_fit.ensures.others g.J.RunNaming.setting g.J.RunNaming.journal c.attend.new.state c.attend.new.keeper c.args.seat.now c.hear.new.seat c.attend.new.seat c.id_of-id.result c.args.hart.now.hart c.args.blocks.now c.attend.ensures.keeps c.requires.between c.hear.ensures.hears c.id_of-id.ensures (is_last (after c.args.keeper.now.events) c.args.hart.now.hart (c.requires.last (after c.args.keeper.now.events))).runs c.attend.ensures.attends c.act_last-acted.new.state c.act_last-acted.new.hart.hart c.args.blocks.now.spare c.act_last-acted.result.change c.act_last-acted.result.reply (subst (λ (x : HartState). Acts g.J.RunNaming.setting c.attend.new.state.events c.act_last-acted.new.state c.id_of-id.result x c.act_last-acted.new.hart.hart c.args.blocks.now.spare c.act_last-acted.result.change c.act_last-acted.result.reply) c.plan_turn.ensures.hart (c.act_last-acted.ensures.acts c.args.blocks.now.spare))) in
    let over = c.pass-entry.ensures c.args.hart.now.hart c.act_last-acted.new.hart.hart c.args.blocks.now.spare turn in
    inr (own_behind_settled g.J.RunNaming.setting c.args.seat.now.number c.args.keeper.now c.attend.new.keeper c.pass-entry.new.keeper (events_of turn.acts.did)
    (subst (λ (x : KeeperView). SettlesAll x c.attend.new.keeper) c.hear.ensures.keeper c.attend.ensures.first)
    (subst (HasNoGrant (after c.attend.new.keeper.events)) c.id_of-id.ensures c.attend.ensures.attends.free) over.passed.events
    (subst (λ (n : ℕ). IsTurnOf g.J.RunNaming.setting c.attend.new.keeper.events n (events_of turn.acts.did)) c.id_of-id.ensures
    (IsTurnOf.by_move c.args.hart.now.hart c.act_last-acted.new.hart.hart turn.acts.did turn.fits turn.acts.moves))
    over.passed.opens)
