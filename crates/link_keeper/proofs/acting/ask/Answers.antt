use Rattle.std.proofs.Common.{◌≡◌, ◌<◌, ℕ, refl, sym, ap, subst, ◌∙◌}
use Rattle.hart_moves.specs.Due.{due}
use Rattle.hart_moves.specs.Harts.{HartState, Resolving}
use Rattle.hart_moves.specs.Moves.{freed, spent}
use Rattle.hart_moves.specs.Waiting.{awaiting}
use Rattle.hart_seat.specs.HartParts.Views.{offered_of}
use Rattle.history_state.specs.After.{after}
use Rattle.world_memory.specs.TurnAnswers.Answered.{AnswersTurn}
use Rattle.world_memory.specs.TurnAnswers.Turn.{TakesService}
use Rattle.link_keeper.specs.Acting.{Acts}
use Rattle.link_keeper.specs.declared.acting.Reply.TheVariants as reply
use Rattle.link_keeper.proofs.Premises.{free, makes_call}
use Rattle.link_keeper.proofs.Taken.{again_acts, comes, events_act, events_shown, grant_acts, other_shown, others_meet, refused_alone, was_answered}
use Rattle.link_keeper.proofs.acting.ask.Given.{Over}
use Rattle.link_keeper.proofs.acting.ask.Goals as goal

pub answer_with_room-came-requires-clause-may : goal.answer_with_room-came-requires-clause-may
answer_with_room-came-requires-clause-may g c = makes_call g.J.RunNaming.setting c.args.state.now c.args.id c.args.hart.now.hart c.requires.may.may c.ends_are_few.ensures c.harts_fit.ensures.may_end
    c.functions_may_pass.ensures.finished c.turns_keep_writes.ensures.served c.requires.may.calls

pub offer-requires : goal.offer-requires
offer-requires g c = subst (λ (b : HartState). b.turns < b.fuel) (sym c.answer_with_room-came.ensures.hart) (free g.J.RunNaming.setting c.args.state.now c.args.id c.args.hart.now.hart c.requires.may.may).fuel

pub wait-requires : goal.wait-requires
wait-requires g c = subst (λ (b : HartState). b.turns < b.fuel) (sym c.answer_with_room-came.ensures.hart) (free g.J.RunNaming.setting c.args.state.now c.args.id c.args.hart.now.hart c.requires.may.may).fuel

pub take_answer-requires : goal.take_answer-requires
take_answer-requires g c = record {
  fuel = subst (λ (b : HartState). b.turns < b.fuel) (sym c.answer_with_room-came.ensures.hart) (free g.J.RunNaming.setting c.args.state.now c.args.id c.args.hart.now.hart c.requires.may.may).fuel;
  room = c.answer_with_room-came.ensures.room;
  answered = was_answered g.J.RunNaming.setting c.args.state.now c.answer_with_room-came.new.state c.args.folders.now (g.L.Library.files c.args.library.now) c.args.id c.args.hart.now.hart
      c.answer_with_room-came.new.hart.hart c.answer_with_room-came.result c.answer_with_room-came.ensures.answered c.requires.over c.answer_with_room-came.ensures.hart c.answer_with_room-came.ensures.harts;
}

granted_of : (g : Over) (c : goal.After-offer g) (spare : ℕ) → Acts g.J.RunNaming.setting c.args.state.now.events c.answer_with_room-came.new.state c.args.id c.args.hart.now.hart c.offer.new.hart.hart spare
    c.offer.result.change c.offer.result.reply
granted_of g c spare =
    grant_acts g.J.RunNaming.setting c.answer_with_room-came.new.state c.args.state.now.events c.args.id c.args.hart.now.hart c.offer.new.hart.hart
    (free g.J.RunNaming.setting c.args.state.now c.args.id c.args.hart.now.hart c.requires.may.may) c.answer_with_room-came.new.state.made c.answer_with_room-came.result
    (c.answer_with_room-came.ensures.answered g.J.RunNaming.setting c.requires.over) c.in-Granted.offered c.offer.result.change c.offer.result.reply spare c.in-Granted.is
    (c.offer.ensures.hart ∙ ap (λ (b : HartState). spent (record b { resolving = Resolving.to_exchange (offered_of c.in-Granted.offered) })) c.answer_with_room-came.ensures.hart)
    c.offer.ensures.change c.offer.ensures.reply

pub returns-in-Granted-clause-acts : goal.returns-in-Granted-clause-acts
returns-in-Granted-clause-acts g c = λ spare room. granted_of g c spare

pub returns-in-Granted-clause-shown : goal.returns-in-Granted-clause-shown
returns-in-Granted-clause-shown g c = other_shown c.args.folders.now g.J.RunNaming.setting c.args.state.now.events c.answer_with_room-came.new.state c.args.id c.args.hart.now.hart c.offer.new.hart.hart 0
    c.offer.result.change c.offer.result.reply (record { faults = g.L.Library.faults c.args.library.now; misses = g.L.Library.misses c.args.library.now })
    (record { faults = g.L.Library.faults c.answer_with_room-came.new.library; misses = g.L.Library.misses c.answer_with_room-came.new.library })
    (record { faults = c.answer_with_room-came.ensures.faults; misses = c.answer_with_room-came.ensures.misses })
    (granted_of g c 0)
    (λ is. let bad : reply.Granted c.in-Granted.offered ≡ reply.Events = sym c.offer.ensures.reply ∙ is in cc)

again_of : (g : Over) (c : goal.After-wait g) (spare : ℕ) → Acts g.J.RunNaming.setting c.args.state.now.events c.answer_with_room-came.new.state c.args.id c.args.hart.now.hart c.wait.new.hart.hart spare
    c.wait.result.change c.wait.result.reply
again_of g c spare =
    again_acts g.J.RunNaming.setting c.answer_with_room-came.new.state c.args.state.now.events c.args.id c.args.hart.now.hart c.wait.new.hart.hart
    (free g.J.RunNaming.setting c.args.state.now c.args.id c.args.hart.now.hart c.requires.may.may) c.answer_with_room-came.new.state.made c.answer_with_room-came.result
    (c.answer_with_room-came.ensures.answered g.J.RunNaming.setting c.requires.over) c.in-Again.shown c.wait.result.change c.wait.result.reply spare c.in-Again.is
    (c.wait.ensures.hart ∙ ap (λ (b : HartState). spent (awaiting c.in-Again.shown (freed b))) c.answer_with_room-came.ensures.hart)
    c.wait.ensures.change c.wait.ensures.reply

pub returns-in-Again-clause-acts : goal.returns-in-Again-clause-acts
returns-in-Again-clause-acts g c = λ spare room. again_of g c spare

pub returns-in-Again-clause-shown : goal.returns-in-Again-clause-shown
returns-in-Again-clause-shown g c = other_shown c.args.folders.now g.J.RunNaming.setting c.args.state.now.events c.answer_with_room-came.new.state c.args.id c.args.hart.now.hart c.wait.new.hart.hart 0
    c.wait.result.change c.wait.result.reply (record { faults = g.L.Library.faults c.args.library.now; misses = g.L.Library.misses c.args.library.now })
    (record { faults = g.L.Library.faults c.answer_with_room-came.new.library; misses = g.L.Library.misses c.answer_with_room-came.new.library })
    (record { faults = c.answer_with_room-came.ensures.faults; misses = c.answer_with_room-came.ensures.misses })
    (again_of g c 0)
    (λ is. let bad : reply.Again c.in-Again.shown ≡ reply.Events = sym c.wait.ensures.reply ∙ is in cc)

pub returns-in_default : goal.returns-in_default
returns-in_default g c =
    let w = g.J.RunNaming.setting in
    let came = c.answer_with_room-came in
    let past = c.args.state.now.events in
    let h = c.args.id in
    let b = c.args.hart.now.hart in
    let left = c.take_answer.new.hart.hart in
    let f = free w c.args.state.now h b c.requires.may.may in
    let t : AnswersTurn w past came.new.state.events came.new.state.made h (due (after past) b) came.result = came.ensures.answered w c.requires.over in
    let rest = others_meet t (λ o is. c.in_default.not-Granted o is) (λ for is. c.in_default.not-Again for is) in
    let x : TakesService w past c.take_answer.new.state.events c.take_answer.new.state.made h (due (after past) b) b left c.take_answer.result =
    subst (λ (y : HartState). TakesService w past c.take_answer.new.state.events c.take_answer.new.state.made h (due (after past) y) y left c.take_answer.result) came.ensures.hart
    (c.take_answer.ensures.turn w past (subst (λ (y : HartState). AnswersTurn w past came.new.state.events came.new.state.made h (due (after past) y) came.result) (sym came.ensures.hart) t)) in
    let events = comes w came.new.state past h b left f came.new.state.made came.result t c.requires.other rest c.take_answer.new.state c.take_answer.result c.take_answer.ensures.noted x in
    record {
      acts = λ spare room. events_act w came.new.state past h b left f came.new.state.made came.result t c.requires.other rest c.take_answer.new.state c.take_answer.result c.take_answer.ensures.noted x
          reply.Events spare room refl;
      shown = events_shown c.args.folders.now w past came.new.state.events c.take_answer.new.state.events h b left x.did
          (record { faults = g.L.Library.faults c.args.library.now; misses = g.L.Library.misses c.args.library.now })
          (record { faults = g.L.Library.faults came.new.library; misses = g.L.Library.misses came.new.library })
          (record { faults = came.ensures.faults; misses = came.ensures.misses }) x.moves x.are events
          (refused_alone w came.new.state past h b left f came.new.state.made came.result t c.requires.other rest c.take_answer.new.state c.take_answer.result c.take_answer.ensures.noted x)
          came.ensures.counts;
      unread = came.ensures.unread;
      files = came.ensures.files;
      harts = c.take_answer.ensures.harts ∙ came.ensures.harts;
    }
