use Rattle.std.proofs.Common.{ℕ, List, ap, subst}
use Rattle.history_event.specs.declared.event.Event.TheVariants as events
use Rattle.trace_rows.specs.Rows.{IsDecided, unsaid}
use Rattle.trace_rows.proofs.Unsaid.{decided_in, decided_of}
use Rattle.trace_rows.proofs.expecting.may_come.Goals as goal

pub returns-in-Close : goal.returns-in-Close
returns-in-Close c = decided_of c.args.replay.now c.args.line.now (events.Close c.in-Close.hart c.in-Close.handle c.in-Close.answer) c.may_close.result (ap unsaid c.in-Close.is) c.may_close.ensures

pub returns-in-Unmapped : goal.returns-in-Unmapped
returns-in-Unmapped c = decided_in c.args.replay.now c.args.line.now (events.Unmapped c.in-Unmapped.hart c.in-Unmapped.set) c.may_unmap.result (ap unsaid c.in-Unmapped.is) (subst (λ (ds : List ℕ). IsDecided c.args.replay.now (events.Unmapped c.in-Unmapped.hart ds) c.may_unmap.result) c.as_slice.ensures c.may_unmap.ensures)

pub returns-in-Sym : goal.returns-in-Sym
returns-in-Sym c = decided_of c.args.replay.now c.args.line.now (events.Sym c.in-Sym.hart c.in-Sym.ask c.in-Sym.answer) c.may_answer.result (ap unsaid c.in-Sym.is) c.may_answer.ensures

pub returns-in-Tls : goal.returns-in-Tls
returns-in-Tls c = decided_of c.args.replay.now c.args.line.now (events.Tls c.in-Tls.hart c.in-Tls.owner c.in-Tls.address) c.may_have_block.result (ap unsaid c.in-Tls.is) c.may_have_block.ensures

pub returns-in-Init : goal.returns-in-Init
returns-in-Init c = decided_in c.args.replay.now c.args.line.now (events.Init c.in-Init.hart c.in-Init.object) c.may_initialise.result (ap unsaid c.in-Init.is) (c.may_initialise.ensures)

pub returns-in-Fini : goal.returns-in-Fini
returns-in-Fini c = decided_in c.args.replay.now c.args.line.now (events.Fini c.in-Fini.hart c.in-Fini.object) c.may_finalise.result (ap unsaid c.in-Fini.is) (c.may_finalise.ensures)

pub returns-in-Wrote : goal.returns-in-Wrote
returns-in-Wrote c = decided_in c.args.replay.now c.args.line.now (events.Wrote c.in-Wrote.hart c.in-Wrote.bytes) c.may_write.result (ap unsaid c.in-Wrote.is) (subst (λ (bs : List ℕ). IsDecided c.args.replay.now (events.Wrote c.in-Wrote.hart bs) c.may_write.result) c.as_slice-in-Wrote.ensures (c.may_write.ensures c.args.replay.now c.in-Wrote.hart))

pub returns-in-Told : goal.returns-in-Told
returns-in-Told c = decided_in c.args.replay.now c.args.line.now (events.Told c.in-Told.hart c.in-Told.fault) c.may_be_told.result (ap unsaid c.in-Told.is) (c.may_be_told.ensures)

pub returns-in-Ended : goal.returns-in-Ended
returns-in-Ended c = decided_in c.args.replay.now c.args.line.now (events.Ended c.in-Ended.hart c.in-Ended.«end») c.may_end.result (ap unsaid c.in-Ended.is) (c.may_end.ensures c.in-Ended.«end»)
