use Rattle.std.proofs.Common.{Some, get_or, subst}
use Rattle.std.proofs.Math.ListN.{set}
use Rattle.history_state.specs.After.{after}
use Rattle.hart_moves.specs.Due.{due}
use Rattle.world_answers.specs.Openings.{TurnReadsNothing, TurnRefusalIsCounted}
use Rattle.world_answers.specs.GuestsPart.GuestWorlds.Worlds.{world_of}
use Rattle.world_answers.specs.GuestsPart.Asking.{IsAsked}
use Rattle.world_answers.specs.GuestsPart.Lemmas.Turns.{counts_nothing, opens_nothing, tells_nothing}
use Rattle.world_answers.specs.GuestsPart.Next.{TurnOpens, TurnTellsOver}
use Rattle.world_answers.specs.declared.guests.asking.Asked.{Asked}
use Rattle.world_answers.proofs.GuestsPart.Freed.{asks_of_called, asks_of_complete, harts_set, runs_on}
use Rattle.world_answers.proofs.GuestsPart.Worlds.{behind, came_of, complete_no_call, completes, from_next, has_called, legal_there, may_pass, of_next, over_files, turned}
use Rattle.world_answers.proofs.guests.service.take_service.Goals as goal

pub settle_all-requires : goal.settle_all-requires
settle_all-requires g c =
    (c.guests_may_turn.ensures.settles c.args.state.now.harts c.args.folders.now c.requires.at.0 (world_of c.args.state.now c.args.memory.now c.args.harts.now)
    c.requires.at.1).may

pub serve-requires-clause-legal : goal.serve-requires-clause-legal
serve-requires-clause-legal g c =
    let x = behind c.args.state.now c.settle_all.new.state c.args.memory.now c.args.harts.now c.settle_all.new.harts c.number-index.result c.args.id c.index-harts-index.result
    c.index-harts-index-2.result c.settle_all.ensures.journal c.settle_all.ensures.harts c.number-index.ensures c.requires.hart in
    legal_there _ _ _ _ _ _ _ _ x c.freed_harts_move.ensures.due c.args.folders.now c.requires.at.0 c.requires.at.1 c.guests_may_turn.ensures.settles

pub serve-requires-clause-may : goal.serve-requires-clause-may
serve-requires-clause-may g c =
    let x = behind c.args.state.now c.settle_all.new.state c.args.memory.now c.args.harts.now c.settle_all.new.harts c.number-index.result c.args.id c.index-harts-index.result
    c.index-harts-index-2.result c.settle_all.ensures.journal c.settle_all.ensures.harts c.number-index.ensures c.requires.hart in
    has_called _ _ _ _ _ _ _ _ x c.freed_harts_move.ensures.due c.args.folders.now c.requires.at.0 c.requires.at.1 c.guests_may_turn.ensures.settles c.guests_may_turn.ensures.calls
    (λ s. subst (λ (a : Asked). IsAsked (due s (get_or c.args.harts.now c.number-index.result c.index-harts-index.result).hart) (Some a)) c.in-Call.is (c.in_ok-asked.ensures s))

pub pass-requires-clause-passes : goal.pass-requires-clause-passes
pass-requires-clause-passes g c =
    let x = behind c.args.state.now c.settle_all.new.state c.args.memory.now c.args.harts.now c.settle_all.new.harts c.number-index.result c.args.id c.index-harts-index.result
    c.index-harts-index-2.result c.settle_all.ensures.journal c.settle_all.ensures.harts c.number-index.ensures c.requires.hart in
    completes _ _ _ _ _ _ _ _ x c.freed_harts_move.ensures.due (λ s. subst (λ (a : Asked). IsAsked (due s (get_or c.args.harts.now c.number-index.result c.index-harts-index.result).hart) (Some a)) c.in-Passing.is (c.in_ok-asked.ensures s))

pub pass-requires-clause-may : goal.pass-requires-clause-may
pass-requires-clause-may g c =
    let x = behind c.args.state.now c.settle_all.new.state c.args.memory.now c.args.harts.now c.settle_all.new.harts c.number-index.result c.args.id c.index-harts-index.result
    c.index-harts-index-2.result c.settle_all.ensures.journal c.settle_all.ensures.harts c.number-index.ensures c.requires.hart in
    may_pass _ _ _ _ _ _ _ _ x c.freed_harts_move.ensures.due c.args.folders.now c.requires.at.0 c.requires.at.1 c.guests_may_turn.ensures.settles c.guests_may_turn.ensures.passes

pub returns-in-Call-clause-turn : goal.returns-in-Call-clause-turn
returns-in-Call-clause-turn g c =
    let x = behind c.args.state.now c.settle_all.new.state c.args.memory.now c.args.harts.now c.settle_all.new.harts c.number-index.result c.args.id c.index-harts-index.result
    c.index-harts-index-2.result c.settle_all.ensures.journal c.settle_all.ensures.harts c.number-index.ensures c.requires.hart in
    turned _ _ _ _ _ _ _ _ x c.freed_harts_move.ensures.due c.serve.new.state c.serve.new.memory c.serve.new.hart.hart (set c.settle_all.new.harts c.number-index.result c.serve.new.hart) c.args.folders.now (g.L.Library.files c.args.library.now)
    c.serve.ensures.turns (harts_set c.settle_all.new.harts c.number-index.result c.args.id c.serve.new.hart c.number-index.ensures)
    c.guests_take_turns.ensures.service c.freed_harts_move.ensures.turn

pub returns-in-Call-clause-comes : goal.returns-in-Call-clause-comes
returns-in-Call-clause-comes g c =
    let x = behind c.args.state.now c.settle_all.new.state c.args.memory.now c.args.harts.now c.settle_all.new.harts c.number-index.result c.args.id c.index-harts-index.result
    c.index-harts-index-2.result c.settle_all.ensures.journal c.settle_all.ensures.harts c.number-index.ensures c.requires.hart in
    came_of _ _ _ _ _ _ _ _ x c.freed_harts_move.ensures.due c.serve.new.state c.serve.new.memory c.serve.new.hart.hart (set c.settle_all.new.harts c.number-index.result c.serve.new.hart) c.args.folders.now (g.L.Library.files c.args.library.now)
    c.serve.ensures.turns (harts_set c.settle_all.new.harts c.number-index.result c.args.id c.serve.new.hart c.number-index.ensures)
    c.serve.result (runs_on (after c.args.state.now.events) (get_or c.args.harts.now c.number-index.result c.index-harts-index.result).hart
    (asks_of_called (due (after c.args.state.now.events) (get_or c.args.harts.now c.number-index.result c.index-harts-index.result).hart) (subst (λ (a : Asked). IsAsked (due (after c.args.state.now.events) (get_or c.args.harts.now c.number-index.result c.index-harts-index.result).hart) (Some a)) c.in-Call.is (c.in_ok-asked.ensures (after c.args.state.now.events)))))
    c.serve.ensures.outcome

pub returns-in-Call-clause-tells : goal.returns-in-Call-clause-tells
returns-in-Call-clause-tells g c =
    let x = behind c.args.state.now c.settle_all.new.state c.args.memory.now c.args.harts.now c.settle_all.new.harts c.number-index.result c.args.id c.index-harts-index.result
    c.index-harts-index-2.result c.settle_all.ensures.journal c.settle_all.ensures.harts c.number-index.ensures c.requires.hart in
    of_next _ _ _ _ _ _ _ _ x c.freed_harts_move.ensures.due
    (λ count past d. TurnTellsOver count c.args.folders.now (g.L.Library.files c.args.library.now) past c.serve.new.state.events c.args.id d c.serve.result)
    c.serve.ensures.tells

pub returns-in-Call-clause-whole : goal.returns-in-Call-clause-whole
returns-in-Call-clause-whole g c =
    let x = behind c.args.state.now c.settle_all.new.state c.args.memory.now c.args.harts.now c.settle_all.new.harts c.number-index.result c.args.id c.index-harts-index.result
    c.index-harts-index-2.result c.settle_all.ensures.journal c.settle_all.ensures.harts c.number-index.ensures c.requires.hart in
    of_next _ _ _ _ _ _ _ _ x c.freed_harts_move.ensures.due
    (λ count past d. TurnOpens count c.args.folders.now (g.L.Library.files c.args.library.now) (g.L.Library.faults c.args.library.now) (g.L.Library.faults c.serve.new.library) past c.serve.new.state.events c.args.id c.serve.result d)
    c.serve.ensures.whole

pub returns-in-Call-clause-counts : goal.returns-in-Call-clause-counts
returns-in-Call-clause-counts g c =
    let x = behind c.args.state.now c.settle_all.new.state c.args.memory.now c.args.harts.now c.settle_all.new.harts c.number-index.result c.args.id c.index-harts-index.result
    c.index-harts-index-2.result c.settle_all.ensures.journal c.settle_all.ensures.harts c.number-index.ensures c.requires.hart in
    of_next _ _ _ _ _ _ _ _ x c.freed_harts_move.ensures.due
    (λ count past d. TurnRefusalIsCounted c.args.folders.now past c.serve.new.state.events c.args.id d (g.L.Library.faults c.args.library.now) (g.L.Library.faults c.serve.new.library) (g.L.Library.misses c.args.library.now) (g.L.Library.misses c.serve.new.library))
    c.serve.ensures.counts

pub returns-in-Call-clause-unread : goal.returns-in-Call-clause-unread
returns-in-Call-clause-unread g c =
    let x = behind c.args.state.now c.settle_all.new.state c.args.memory.now c.args.harts.now c.settle_all.new.harts c.number-index.result c.args.id c.index-harts-index.result
    c.index-harts-index-2.result c.settle_all.ensures.journal c.settle_all.ensures.harts c.number-index.ensures c.requires.hart in
    λ reads. c.serve.ensures.unread (from_next _ _ _ _ _ _ _ _ x c.freed_harts_move.ensures.due (λ count past d. TurnReadsNothing (after past) d) reads)

pub returns-in-Passing-clause-turn : goal.returns-in-Passing-clause-turn
returns-in-Passing-clause-turn g c =
    let x = behind c.args.state.now c.settle_all.new.state c.args.memory.now c.args.harts.now c.settle_all.new.harts c.number-index.result c.args.id c.index-harts-index.result
    c.index-harts-index-2.result c.settle_all.ensures.journal c.settle_all.ensures.harts c.number-index.ensures c.requires.hart in
    turned _ _ _ _ _ _ _ _ x c.freed_harts_move.ensures.due c.pass.new.state c.args.memory.now c.pass.new.hart.hart (set c.settle_all.new.harts c.number-index.result c.pass.new.hart) c.args.folders.now (g.L.Library.files c.args.library.now)
    (over_files c.args.folders.now (g.L.Library.files c.args.library.now) c.settle_all.new.state c.pass.new.state c.args.memory.now c.args.memory.now c.args.id _ c.pass.new.hart.hart
    (c.pass.ensures.turns c.args.memory.now)) (harts_set c.settle_all.new.harts c.number-index.result c.args.id c.pass.new.hart c.number-index.ensures)
    c.guests_take_turns.ensures.service c.freed_harts_move.ensures.turn

pub returns-in-Passing-clause-comes : goal.returns-in-Passing-clause-comes
returns-in-Passing-clause-comes g c =
    let x = behind c.args.state.now c.settle_all.new.state c.args.memory.now c.args.harts.now c.settle_all.new.harts c.number-index.result c.args.id c.index-harts-index.result
    c.index-harts-index-2.result c.settle_all.ensures.journal c.settle_all.ensures.harts c.number-index.ensures c.requires.hart in
    came_of _ _ _ _ _ _ _ _ x c.freed_harts_move.ensures.due c.pass.new.state c.args.memory.now c.pass.new.hart.hart (set c.settle_all.new.harts c.number-index.result c.pass.new.hart) c.args.folders.now (g.L.Library.files c.args.library.now)
    (over_files c.args.folders.now (g.L.Library.files c.args.library.now) c.settle_all.new.state c.pass.new.state c.args.memory.now c.args.memory.now c.args.id _ c.pass.new.hart.hart
    (c.pass.ensures.turns c.args.memory.now)) (harts_set c.settle_all.new.harts c.number-index.result c.args.id c.pass.new.hart c.number-index.ensures)
    c.pass.result (runs_on (after c.args.state.now.events) (get_or c.args.harts.now c.number-index.result c.index-harts-index.result).hart
    (asks_of_complete (due (after c.args.state.now.events) (get_or c.args.harts.now c.number-index.result c.index-harts-index.result).hart) (subst (λ (a : Asked). IsAsked (due (after c.args.state.now.events) (get_or c.args.harts.now c.number-index.result c.index-harts-index.result).hart) (Some a)) c.in-Passing.is (c.in_ok-asked.ensures (after c.args.state.now.events)))))
    c.pass.ensures.outcome

pub returns-in-Passing-clause-tells : goal.returns-in-Passing-clause-tells
returns-in-Passing-clause-tells g c =
    let x = behind c.args.state.now c.settle_all.new.state c.args.memory.now c.args.harts.now c.settle_all.new.harts c.number-index.result c.args.id c.index-harts-index.result
    c.index-harts-index-2.result c.settle_all.ensures.journal c.settle_all.ensures.harts c.number-index.ensures c.requires.hart in
    of_next _ _ _ _ _ _ _ _ x c.freed_harts_move.ensures.due
    (λ count past d. TurnTellsOver count c.args.folders.now (g.L.Library.files c.args.library.now) past c.pass.new.state.events c.args.id d c.pass.result)
    (λ w on. tells_nothing w c.settle_all.new.state.events c.pass.new.state.events c.args.id
    (due (after c.settle_all.new.state.events) (get_or c.settle_all.new.harts c.number-index.result c.index-harts-index-2.result).hart) c.pass.result
    (complete_no_call (due (after c.settle_all.new.state.events) (get_or c.settle_all.new.harts c.number-index.result c.index-harts-index-2.result).hart)
    (completes _ _ _ _ _ _ _ _ x c.freed_harts_move.ensures.due (λ s. subst (λ (a : Asked). IsAsked (due s (get_or c.args.harts.now c.number-index.result c.index-harts-index.result).hart) (Some a)) c.in-Passing.is (c.in_ok-asked.ensures s))))
    c.pass.ensures.no_wait)

pub returns-in-Passing-clause-whole : goal.returns-in-Passing-clause-whole
returns-in-Passing-clause-whole g c =
    let x = behind c.args.state.now c.settle_all.new.state c.args.memory.now c.args.harts.now c.settle_all.new.harts c.number-index.result c.args.id c.index-harts-index.result
    c.index-harts-index-2.result c.settle_all.ensures.journal c.settle_all.ensures.harts c.number-index.ensures c.requires.hart in
    of_next _ _ _ _ _ _ _ _ x c.freed_harts_move.ensures.due
    (λ count past d. TurnOpens count c.args.folders.now (g.L.Library.files c.args.library.now) (g.L.Library.faults c.args.library.now) (g.L.Library.faults c.args.library.now) past c.pass.new.state.events c.args.id c.pass.result d)
    (opens_nothing c.settle_all.new.state.harts c.args.folders.now (g.L.Library.files c.args.library.now) (g.L.Library.faults c.args.library.now) (g.L.Library.faults c.args.library.now) c.settle_all.new.state.events c.pass.new.state.events c.args.id c.pass.result (due (after c.settle_all.new.state.events) (get_or c.settle_all.new.harts c.number-index.result c.index-harts-index-2.result).hart) (complete_no_call (due (after c.settle_all.new.state.events) (get_or c.settle_all.new.harts c.number-index.result c.index-harts-index-2.result).hart) (completes _ _ _ _ _ _ _ _ x c.freed_harts_move.ensures.due (λ s. subst (λ (a : Asked). IsAsked (due s (get_or c.args.harts.now c.number-index.result c.index-harts-index.result).hart) (Some a)) c.in-Passing.is (c.in_ok-asked.ensures s)))))

pub returns-in-Passing-clause-counts : goal.returns-in-Passing-clause-counts
returns-in-Passing-clause-counts g c =
    let x = behind c.args.state.now c.settle_all.new.state c.args.memory.now c.args.harts.now c.settle_all.new.harts c.number-index.result c.args.id c.index-harts-index.result
    c.index-harts-index-2.result c.settle_all.ensures.journal c.settle_all.ensures.harts c.number-index.ensures c.requires.hart in
    of_next _ _ _ _ _ _ _ _ x c.freed_harts_move.ensures.due
    (λ count past d. TurnRefusalIsCounted c.args.folders.now past c.pass.new.state.events c.args.id d (g.L.Library.faults c.args.library.now) (g.L.Library.faults c.args.library.now) (g.L.Library.misses c.args.library.now) (g.L.Library.misses c.args.library.now))
    (counts_nothing c.args.folders.now c.settle_all.new.state.events c.pass.new.state.events c.args.id (due (after c.settle_all.new.state.events) (get_or c.settle_all.new.harts c.number-index.result c.index-harts-index-2.result).hart) (g.L.Library.faults c.args.library.now) (g.L.Library.faults c.args.library.now) (g.L.Library.misses c.args.library.now) (g.L.Library.misses c.args.library.now) (complete_no_call (due (after c.settle_all.new.state.events) (get_or c.settle_all.new.harts c.number-index.result c.index-harts-index-2.result).hart) (completes _ _ _ _ _ _ _ _ x c.freed_harts_move.ensures.due (λ s. subst (λ (a : Asked). IsAsked (due s (get_or c.args.harts.now c.number-index.result c.index-harts-index.result).hart) (Some a)) c.in-Passing.is (c.in_ok-asked.ensures s)))))
