use Rattle.std.proofs.Common.{◌<◌, refl, sym, ap, subst, ◌∙◌}
use Rattle.std.proofs.lemmas.Bool.{false≢true}
use Rattle.history_state.specs.After.{after}
use Rattle.hart_moves.specs.Due.{due}
use Rattle.tls_blocks.specs.Blocks.{BlockTable}
use Rattle.link_keeper.specs.Acting.{asks}
use Rattle.link_keeper.proofs.Called.{asks_it, on_ok, quiet_shown, roomless_acts}
use Rattle.link_keeper.proofs.Premises.{end_here, ends_now, free}
use Rattle.link_keeper.proofs.acting.call.Goals as goal
use Rattle.link_keeper.proofs.acting.call.Goals.{else-asks_storage-via-then-asks_storage+else-is_err, else-asks_storage-via-else-asks_storage}

pub end_call-requires-clause-fuel : goal.end_call-requires-clause-fuel
end_call-requires-clause-fuel g c = (free g.J.RunNaming.setting c.args.state.now c.args.id c.args.hart.now.hart c.requires.may.may).fuel

pub end_call-requires-clause-may : goal.end_call-requires-clause-may
end_call-requires-clause-may g c = ends_now g.J.RunNaming.setting c.args.state.now c.args.id c.args.hart.now.hart c.requires.may.may c.ends_are_few.ensures c.harts_fit.ensures.may_end

pub returns-then-is_err-clause-acts : goal.returns-then-is_err-clause-acts
returns-then-is_err-clause-acts g c =
    roomless_acts g.J.RunNaming.setting c.args.state.now.events c.args.state.now c.end_call.new.state c.args.id c.args.hart.now.hart c.end_call.new.hart.hart c.storage_of-asked.result c.end_call.result.change
    c.end_call.result.reply c.make_room.new.self.spare refl (free g.J.RunNaming.setting c.args.state.now c.args.id c.args.hart.now.hart c.requires.may.may) c.requires.may.calls
    (c.storage_of-asked.ensures (after c.args.state.now.events) c.requires.may.calls) (sym c.asks_storage.ensures ∙ c.if-asks_storage.true)
    (end_here g.J.RunNaming.setting c.args.state.now c.args.id c.args.hart.now.hart c.requires.may.may c.ends_are_few.ensures c.harts_fit.ensures.may_end)
    c.end_call.ensures.noted c.end_call.ensures.hart c.end_call.ensures.change c.end_call.ensures.reply

pub returns-in-Locate-clause-acts : goal.returns-in-Locate-clause-acts
returns-in-Locate-clause-acts g c = c.locate.ensures.acts c.else-asks_storage.blocks.spare
    (elim c.else-asks_storage.branch [
      | else-asks_storage-via-then-asks_storage+else-is_err x ↦ subst (λ (t : BlockTable). 0 < t.spare) (sym x.blocks-is) (on_ok x.make_room.result (sym x.is_err.ensures.value ∙ x.if-is_err.false) x.make_room.ensures.room)
      | else-asks_storage-via-else-asks_storage x ↦ absurd (false≢true (sym x.if-asks_storage.false ∙ c.asks_storage.ensures ∙ ap asks c.in-Locate.is))
    ])

pub returns-in-Locate-clause-shown : goal.returns-in-Locate-clause-shown
returns-in-Locate-clause-shown g c = quiet_shown c.args.folders.now c.args.state.now.events c.locate.new.state.events
    (record { faults = g.L.Library.faults c.args.library.now; misses = g.L.Library.misses c.args.library.now }) c.locate.ensures.none

pub returns-in_default : goal.returns-in_default
returns-in_default g c = record {
  acts = c.ask.ensures.acts c.else-asks_storage.blocks.spare (λ gives. elim c.else-asks_storage.branch [
    | else-asks_storage-via-then-asks_storage+else-is_err x ↦ subst (λ (t : BlockTable). 0 < t.spare) (sym x.blocks-is) (on_ok x.make_room.result (sym x.is_err.ensures.value ∙ x.if-is_err.false) x.make_room.ensures.room)
    | else-asks_storage-via-else-asks_storage x ↦ absurd (false≢true (sym x.if-asks_storage.false ∙ c.asks_storage.ensures
        ∙ asks_it c.args.hart.now.hart (due (after c.args.state.now.events) c.args.hart.now.hart) c.storage_of-asked.result (c.storage_of-asked.ensures (after c.args.state.now.events) c.requires.may.calls) gives))
  ]);
  shown = c.ask.ensures.shown;
  unread = c.ask.ensures.unread;
  files = c.ask.ensures.files;
  entries = elim c.else-asks_storage.branch [
    | else-asks_storage-via-then-asks_storage+else-is_err x ↦ ap (λ (t : BlockTable). t.entries) x.blocks-is ∙ x.make_room.ensures.entries
    | else-asks_storage-via-else-asks_storage x ↦ ap (λ (t : BlockTable). t.entries) x.blocks-is
  ];
  generation = elim c.else-asks_storage.branch [
    | else-asks_storage-via-then-asks_storage+else-is_err x ↦ ap (λ (t : BlockTable). t.generation) x.blocks-is ∙ x.make_room.ensures.generation
    | else-asks_storage-via-else-asks_storage x ↦ ap (λ (t : BlockTable). t.generation) x.blocks-is
  ];
  harts = c.ask.ensures.harts;
}
