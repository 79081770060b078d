use Rattle.std.proofs.Common.{ℕ, inr, refl, ap, ◌∙◌}
use Rattle.word_rule.specs.declared.view.HartView.{HartView}
use Rattle.word_rule.specs.Views.{row_of}
use Rattle.slot_bind.specs.Rows.{full_offer}
use Rattle.link_keeper.proofs.Passed.{is_there, numbered, read_is, read_seat, told_seat}
use Rattle.link_keeper.proofs.rows.read_handed.Goals as goal

pub read_row-row-requires : goal.read_row-row-requires
read_row-row-requires g c = is_there c.await_entry.result c.args.seat.now c.await_entry.new.seat c.await_entry.ensures.mark c.requires.calling.fresh c.await_entry.ensures.found

pub tell-requires : goal.tell-requires
tell-requires g c = inr (
  full_offer c.read_row-row.result,
  c.read_row-row.result.entry,
  ap (λ (h : HartView). h.lane.offer) c.read_row-row.ensures.read,
  record { mark_is = refl; number_is = refl; slot_is = refl; value_is = refl; generation_is = refl },
)

pub returns-clause-entry : goal.returns-clause-entry
returns-clause-entry g c = read_is c.args.seat.now c.read_row-row.new.seat c.read_row-row.result c.args.entry ((row_of c.args.keeper.now c.args.seat.now.number).issued)
    (read_seat c.args.seat.now c.await_entry.new.seat c.read_row-row.new.seat c.await_entry.result c.read_row-row.result c.await_entry.ensures.mark c.requires.calling.fresh c.await_entry.ensures.found
    c.read_row-row.ensures.read c.read_row-row.ensures.row)
    (c.tell.ensures.issued ∙ ap (λ (n : ℕ). (row_of c.args.keeper.now n).issued) (numbered c.args.seat.now c.await_entry.new.seat c.read_row-row.new.seat c.await_entry.result c.read_row-row.result c.await_entry.ensures.found c.read_row-row.ensures.read)) c.requires.handed

pub returns-clause-seat : goal.returns-clause-seat
returns-clause-seat g c = told_seat c.args.seat.now c.read_row-row.new.seat c.tell.new.seat c.read_row-row.result c.args.keeper.now.events
    (read_seat c.args.seat.now c.await_entry.new.seat c.read_row-row.new.seat c.await_entry.result c.read_row-row.result c.await_entry.ensures.mark c.requires.calling.fresh c.await_entry.ensures.found
    c.read_row-row.ensures.read c.read_row-row.ensures.row) c.tell.ensures.heard

pub returns-clause-lazy : goal.returns-clause-lazy
returns-clause-lazy g c = c.tell.ensures.lazy (full_offer c.read_row-row.result) c.read_row-row.result.lazy (ap (λ (h : HartView). h.lane.offer) c.read_row-row.ensures.read) refl
    ∙ ap (λ (n : ℕ). (row_of c.args.keeper.now n).lazy) (numbered c.args.seat.now c.await_entry.new.seat c.read_row-row.new.seat c.await_entry.result c.read_row-row.result c.await_entry.ensures.found c.read_row-row.ensures.read)
