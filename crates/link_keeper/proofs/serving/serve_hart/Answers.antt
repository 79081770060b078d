use Rattle.std.proofs.Common.{ℕ, Some, length, sym, ap, subst, ◌∙◌}
use Rattle.history_calls.specs.CallLaws.Coming.{IsOver}
use Rattle.history_journal.specs.Following.{machine_of}
use Rattle.history_state.specs.After.{after}
use Rattle.history_state.specs.Slots.{HasNoGrant}
use Rattle.hart_moves.specs.Lemmas.Legality.{turns_own}
use Rattle.hart_moves.specs.Moves.{events_of}
use Rattle.link_keeper.specs.Rounds.{IsTurnOf}
use Rattle.link_keeper.proofs.Left.{own_behind_settled}
use Rattle.link_keeper.proofs.Served.{asks_idle, between_now, is_taken, journal_is, keeps_now, kept_now, may_act, may_hand_over, module_there, serves_turn}
use Rattle.link_keeper.proofs.Shown.{came_behind, turn_shown, unread_behind}
use Rattle.link_keeper.proofs.serving.serve_hart.Goals as goal

pub attend-requires-clause-calling : goal.attend-requires-clause-calling
attend-requires-clause-calling g c = asks_idle (after c.args.keeper.now.events) c.args.seat.now c.args.hart.now.hart c.requires.between.row (c.requires.asks (after c.args.keeper.now.events))

pub act-acted-requires-clause-may : goal.act-acted-requires-clause-may
act-acted-requires-clause-may g c = may_act c.harts_fit.ensures.others g.J.RunNaming.setting g.J.RunNaming.journal c.attend.new.state c.attend.new.keeper c.args.seat.now c.attend.new.seat c.id_of-id.result
    c.args.hart.now.hart c.args.blocks.now c.attend.ensures.keeps c.requires.between
    c.id_of-id.ensures c.requires.asks c.attend.ensures.attends

pub act-acted-requires-clause-over : goal.act-acted-requires-clause-over
act-acted-requires-clause-over g c = subst (λ (n : ℕ). IsOver (machine_of n) c.args.folders.now (g.L.Library.files c.args.library.now) g.J.RunNaming.setting) (sym c.attend.ensures.harts) c.requires.over

pub pass-entry-requires-clause-index : goal.pass-entry-requires-clause-index
pass-entry-requires-clause-index g c = ap length (c.as_slice-index.ensures ∙ c.journal.ensures.events ∙ sym c.attend.ensures.keeps.same)

pub pass-entry-requires-clause-hand : goal.pass-entry-requires-clause-hand
pass-entry-requires-clause-hand g c = may_hand_over c.harts_fit.ensures.others g.J.RunNaming.setting g.J.RunNaming.journal c.attend.new.state c.attend.new.keeper c.args.seat.now c.attend.new.seat c.id_of-id.result
    c.args.hart.now.hart c.args.blocks.now c.attend.ensures.keeps c.requires.between
    c.id_of-id.ensures c.requires.asks c.attend.ensures.attends

pub pass-entry-requires-clause-machine : goal.pass-entry-requires-clause-machine
pass-entry-requires-clause-machine g c = c.attend.ensures.keeps.machine ∙ ap machine_of (sym c.act-acted.ensures.harts)

pub pass-entry-requires-clause-taken : goal.pass-entry-requires-clause-taken
pass-entry-requires-clause-taken g c = (
  c.args.hart.now.hart,
  c.act-acted.new.hart.hart,
  c.act-acted.new.blocks.spare,
  is_taken c.harts_fit.ensures.others g.J.RunNaming.setting g.J.RunNaming.journal c.attend.new.state c.attend.new.keeper c.args.seat.now c.attend.new.seat c.id_of-id.result
      c.args.hart.now.hart c.args.blocks.now c.attend.ensures.keeps c.requires.between
      c.id_of-id.ensures c.requires.asks c.attend.ensures.attends
      c.act-acted.new.state c.act-acted.new.hart.hart c.act-acted.new.blocks.spare c.act-acted.result.change c.act-acted.result.reply c.act-acted.ensures.acts,
)

pub keep_answer-requires-clause-room : goal.keep_answer-requires-clause-room
keep_answer-requires-clause-room g c =
    let turn = is_taken c.harts_fit.ensures.others g.J.RunNaming.setting g.J.RunNaming.journal c.attend.new.state c.attend.new.keeper c.args.seat.now c.attend.new.seat c.id_of-id.result
    c.args.hart.now.hart c.args.blocks.now c.attend.ensures.keeps c.requires.between
    c.id_of-id.ensures c.requires.asks c.attend.ensures.attends
    c.act-acted.new.state c.act-acted.new.hart.hart c.act-acted.new.blocks.spare c.act-acted.result.change c.act-acted.result.reply c.act-acted.ensures.acts in
    let over = c.pass-entry.ensures c.args.hart.now.hart c.act-acted.new.hart.hart c.act-acted.new.blocks.spare turn in
    over.room

pub keep_answer-requires-clause-there : goal.keep_answer-requires-clause-there
keep_answer-requires-clause-there g c =
    let turn = is_taken c.harts_fit.ensures.others g.J.RunNaming.setting g.J.RunNaming.journal c.attend.new.state c.attend.new.keeper c.args.seat.now c.attend.new.seat c.id_of-id.result
    c.args.hart.now.hart c.args.blocks.now c.attend.ensures.keeps c.requires.between
    c.id_of-id.ensures c.requires.asks c.attend.ensures.attends
    c.act-acted.new.state c.act-acted.new.hart.hart c.act-acted.new.blocks.spare c.act-acted.result.change c.act-acted.result.reply c.act-acted.ensures.acts in
    let over = c.pass-entry.ensures c.args.hart.now.hart c.act-acted.new.hart.hart c.act-acted.new.blocks.spare turn in
    module_there g.J.RunNaming.setting g.J.RunNaming.journal c.act-acted.new.state c.attend.new.keeper c.pass-entry.new.keeper c.attend.new.seat c.pass-entry.new.seat c.id_of-id.result
    c.args.hart.now.hart c.act-acted.new.hart.hart c.act-acted.new.blocks.spare c.act-acted.result.change c.act-acted.result.reply c.pass-entry.result turn over
    c.modules.result.now.modules c.modules.ensures.modules

pub returns-clause-keeps : goal.returns-clause-keeps
returns-clause-keeps g c =
    let turn = is_taken c.harts_fit.ensures.others g.J.RunNaming.setting g.J.RunNaming.journal c.attend.new.state c.attend.new.keeper c.args.seat.now c.attend.new.seat c.id_of-id.result
    c.args.hart.now.hart c.args.blocks.now c.attend.ensures.keeps c.requires.between
    c.id_of-id.ensures c.requires.asks c.attend.ensures.attends
    c.act-acted.new.state c.act-acted.new.hart.hart c.act-acted.new.blocks.spare c.act-acted.result.change c.act-acted.result.reply c.act-acted.ensures.acts in
    let over = c.pass-entry.ensures c.args.hart.now.hart c.act-acted.new.hart.hart c.act-acted.new.blocks.spare turn in
    let kept = kept_now g.J.RunNaming.setting g.J.RunNaming.journal c.act-acted.new.state c.attend.new.keeper c.pass-entry.new.keeper c.attend.new.seat c.pass-entry.new.seat c.id_of-id.result
    c.args.hart.now.hart c.act-acted.new.hart.hart c.act-acted.new.blocks.spare c.act-acted.result.change c.act-acted.result.reply c.pass-entry.result turn over
    c.modules.result.now.generation c.args.blocks.now c.act-acted.new.blocks c.keep_answer.new.blocks c.modules.ensures.generation c.act-acted.ensures.entries c.act-acted.ensures.generation c.keep_answer.ensures in
    keeps_now c.own_moves_fit.ensures c.modules_are_tidy.ensures.tidy c.nothing_comes_before_startup.ensures g.J.RunNaming.setting g.J.RunNaming.journal c.attend.new.state c.act-acted.new.state c.attend.new.keeper
    c.pass-entry.new.keeper c.args.seat.now c.attend.new.seat c.pass-entry.new.seat c.id_of-id.result c.args.hart.now.hart c.act-acted.new.hart.hart c.act-acted.new.blocks.spare c.act-acted.result.change
    c.act-acted.result.reply c.pass-entry.result c.args.blocks.now c.keep_answer.new.blocks c.attend.ensures.keeps c.requires.between c.id_of-id.ensures
    (c.number.ensures.lane.idle (asks_idle (after c.args.keeper.now.events) c.args.seat.now c.args.hart.now.hart c.requires.between.row (c.requires.asks (after c.args.keeper.now.events))))
    c.attend.ensures.attends turn c.act-acted.ensures.harts over kept

pub returns-clause-settled : goal.returns-clause-settled
returns-clause-settled g c =
    let turn = is_taken c.harts_fit.ensures.others g.J.RunNaming.setting g.J.RunNaming.journal c.attend.new.state c.attend.new.keeper c.args.seat.now c.attend.new.seat c.id_of-id.result
    c.args.hart.now.hart c.args.blocks.now c.attend.ensures.keeps c.requires.between
    c.id_of-id.ensures c.requires.asks c.attend.ensures.attends
    c.act-acted.new.state c.act-acted.new.hart.hart c.act-acted.new.blocks.spare c.act-acted.result.change c.act-acted.result.reply c.act-acted.ensures.acts in
    let over = c.pass-entry.ensures c.args.hart.now.hart c.act-acted.new.hart.hart c.act-acted.new.blocks.spare turn in
    own_behind_settled g.J.RunNaming.setting c.args.seat.now.number c.args.keeper.now c.attend.new.keeper c.pass-entry.new.keeper (events_of turn.acts.did) c.attend.ensures.first
    (subst (HasNoGrant (after c.attend.new.keeper.events)) c.id_of-id.ensures c.attend.ensures.attends.free) over.passed.events
    (subst (λ (n : ℕ). IsTurnOf g.J.RunNaming.setting c.attend.new.keeper.events n (events_of turn.acts.did)) c.id_of-id.ensures
    (IsTurnOf.by_move c.args.hart.now.hart c.act-acted.new.hart.hart turn.acts.did turn.fits turn.acts.moves))
    over.passed.opens

pub returns-clause-longer : goal.returns-clause-longer
returns-clause-longer g c =
    let turn = is_taken c.harts_fit.ensures.others g.J.RunNaming.setting g.J.RunNaming.journal c.attend.new.state c.attend.new.keeper c.args.seat.now c.attend.new.seat c.id_of-id.result
    c.args.hart.now.hart c.args.blocks.now c.attend.ensures.keeps c.requires.between
    c.id_of-id.ensures c.requires.asks c.attend.ensures.attends
    c.act-acted.new.state c.act-acted.new.hart.hart c.act-acted.new.blocks.spare c.act-acted.result.change c.act-acted.result.reply c.act-acted.ensures.acts in
    let over = c.pass-entry.ensures c.args.hart.now.hart c.act-acted.new.hart.hart c.act-acted.new.blocks.spare turn in
    came_behind c.args.keeper.now.events c.attend.new.keeper.events c.pass-entry.new.keeper.events c.attend.ensures.settled (events_of turn.acts.did, over.passed.events)

pub returns-clause-turn : goal.returns-clause-turn
returns-clause-turn g c =
    let turn = is_taken c.harts_fit.ensures.others g.J.RunNaming.setting g.J.RunNaming.journal c.attend.new.state c.attend.new.keeper c.args.seat.now c.attend.new.seat c.id_of-id.result
    c.args.hart.now.hart c.args.blocks.now c.attend.ensures.keeps c.requires.between
    c.id_of-id.ensures c.requires.asks c.attend.ensures.attends
    c.act-acted.new.state c.act-acted.new.hart.hart c.act-acted.new.blocks.spare c.act-acted.result.change c.act-acted.result.reply c.act-acted.ensures.acts in
    let over = c.pass-entry.ensures c.args.hart.now.hart c.act-acted.new.hart.hart c.act-acted.new.blocks.spare turn in
    let kept = kept_now g.J.RunNaming.setting g.J.RunNaming.journal c.act-acted.new.state c.attend.new.keeper c.pass-entry.new.keeper c.attend.new.seat c.pass-entry.new.seat c.id_of-id.result
    c.args.hart.now.hart c.act-acted.new.hart.hart c.act-acted.new.blocks.spare c.act-acted.result.change c.act-acted.result.reply c.pass-entry.result turn over
    c.modules.result.now.generation c.args.blocks.now c.act-acted.new.blocks c.keep_answer.new.blocks c.modules.ensures.generation c.act-acted.ensures.entries c.act-acted.ensures.generation c.keep_answer.ensures in
    serves_turn c.own_moves_fit.ensures c.modules_are_tidy.ensures.tidy c.nothing_comes_before_startup.ensures g.J.RunNaming.setting g.J.RunNaming.journal c.attend.new.state c.act-acted.new.state c.attend.new.keeper
    c.pass-entry.new.keeper c.args.seat.now c.attend.new.seat c.pass-entry.new.seat c.id_of-id.result c.args.hart.now.hart c.act-acted.new.hart.hart c.act-acted.new.blocks.spare c.act-acted.result.change
    c.act-acted.result.reply c.pass-entry.result c.args.blocks.now c.keep_answer.new.blocks c.attend.ensures.keeps c.requires.between c.id_of-id.ensures
    (c.number.ensures.lane.idle (asks_idle (after c.args.keeper.now.events) c.args.seat.now c.args.hart.now.hart c.requires.between.row (c.requires.asks (after c.args.keeper.now.events))))
    c.attend.ensures.attends turn c.act-acted.ensures.harts over kept

pub returns-clause-between : goal.returns-clause-between
returns-clause-between g c =
    let turn = is_taken c.harts_fit.ensures.others g.J.RunNaming.setting g.J.RunNaming.journal c.attend.new.state c.attend.new.keeper c.args.seat.now c.attend.new.seat c.id_of-id.result
    c.args.hart.now.hart c.args.blocks.now c.attend.ensures.keeps c.requires.between
    c.id_of-id.ensures c.requires.asks c.attend.ensures.attends
    c.act-acted.new.state c.act-acted.new.hart.hart c.act-acted.new.blocks.spare c.act-acted.result.change c.act-acted.result.reply c.act-acted.ensures.acts in
    let over = c.pass-entry.ensures c.args.hart.now.hart c.act-acted.new.hart.hart c.act-acted.new.blocks.spare turn in
    let kept = kept_now g.J.RunNaming.setting g.J.RunNaming.journal c.act-acted.new.state c.attend.new.keeper c.pass-entry.new.keeper c.attend.new.seat c.pass-entry.new.seat c.id_of-id.result
    c.args.hart.now.hart c.act-acted.new.hart.hart c.act-acted.new.blocks.spare c.act-acted.result.change c.act-acted.result.reply c.pass-entry.result turn over
    c.modules.result.now.generation c.args.blocks.now c.act-acted.new.blocks c.keep_answer.new.blocks c.modules.ensures.generation c.act-acted.ensures.entries c.act-acted.ensures.generation c.keep_answer.ensures in
    between_now c.own_moves_fit.ensures c.modules_are_tidy.ensures.tidy c.nothing_comes_before_startup.ensures g.J.RunNaming.setting g.J.RunNaming.journal c.attend.new.state c.act-acted.new.state c.attend.new.keeper
    c.pass-entry.new.keeper c.args.seat.now c.attend.new.seat c.pass-entry.new.seat c.id_of-id.result c.args.hart.now.hart c.act-acted.new.hart.hart c.act-acted.new.blocks.spare c.act-acted.result.change
    c.act-acted.result.reply c.pass-entry.result c.args.blocks.now c.keep_answer.new.blocks c.attend.ensures.keeps c.requires.between c.id_of-id.ensures
    (c.number.ensures.lane.idle (asks_idle (after c.args.keeper.now.events) c.args.seat.now c.args.hart.now.hart c.requires.between.row (c.requires.asks (after c.args.keeper.now.events))))
    c.attend.ensures.attends turn c.act-acted.ensures.harts over kept

pub returns-clause-shown : goal.returns-clause-shown
returns-clause-shown g c =
    let turn = is_taken c.harts_fit.ensures.others g.J.RunNaming.setting g.J.RunNaming.journal c.attend.new.state c.attend.new.keeper c.args.seat.now c.attend.new.seat c.id_of-id.result
    c.args.hart.now.hart c.args.blocks.now c.attend.ensures.keeps c.requires.between
    c.id_of-id.ensures c.requires.asks c.attend.ensures.attends
    c.act-acted.new.state c.act-acted.new.hart.hart c.act-acted.new.blocks.spare c.act-acted.result.change c.act-acted.result.reply c.act-acted.ensures.acts in
    let over = c.pass-entry.ensures c.args.hart.now.hart c.act-acted.new.hart.hart c.act-acted.new.blocks.spare turn in
    turn_shown c.counts_show.ensures.join c.args.folders.now c.args.keeper.now.events c.attend.new.keeper.events c.attend.new.state.events c.act-acted.new.state.events (events_of turn.acts.did)
    c.pass-entry.new.keeper.events (record { faults = g.L.Library.faults c.args.library.now; misses = g.L.Library.misses c.args.library.now })
    (record { faults = g.L.Library.faults c.act-acted.new.library; misses = g.L.Library.misses c.act-acted.new.library }) c.attend.ensures.settled c.attend.ensures.keeps.same
    (sym (journal_is g.J.RunNaming.setting g.J.RunNaming.journal c.act-acted.new.state c.attend.new.keeper c.pass-entry.new.keeper c.attend.new.seat c.pass-entry.new.seat c.id_of-id.result
    c.args.hart.now.hart c.act-acted.new.hart.hart c.act-acted.new.blocks.spare c.act-acted.result.change c.act-acted.result.reply c.pass-entry.result turn over))
    over.passed.events c.act-acted.ensures.shown

pub returns-clause-unread : goal.returns-clause-unread
returns-clause-unread g c = λ reads.
    let turn = is_taken c.harts_fit.ensures.others g.J.RunNaming.setting g.J.RunNaming.journal c.attend.new.state c.attend.new.keeper c.args.seat.now c.attend.new.seat c.id_of-id.result
    c.args.hart.now.hart c.args.blocks.now c.attend.ensures.keeps c.requires.between
    c.id_of-id.ensures c.requires.asks c.attend.ensures.attends
    c.act-acted.new.state c.act-acted.new.hart.hart c.act-acted.new.blocks.spare c.act-acted.result.change c.act-acted.result.reply c.act-acted.ensures.acts in
    let over = c.pass-entry.ensures c.args.hart.now.hart c.act-acted.new.hart.hart c.act-acted.new.blocks.spare turn in
    c.act-acted.ensures.unread (unread_behind c.args.seat.now.number c.args.hart.now.hart c.args.keeper.now c.attend.new.keeper c.pass-entry.new.keeper (events_of turn.acts.did)
    c.attend.new.state.events c.attend.ensures.settled c.attend.ensures.keeps.same over.passed.events
    (λ e there. turns_own g.J.RunNaming.setting c.attend.new.keeper.events c.id_of-id.result c.args.hart.now.hart c.act-acted.new.hart.hart turn.acts.did turn.acts.moves e there
    ∙ ap (λ (n : ℕ). Some n) c.id_of-id.ensures) reads)
