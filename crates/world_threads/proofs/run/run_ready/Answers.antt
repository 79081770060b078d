use Rattle.std.proofs.Common.{◌++◌, append_assoc, drop, length, map, sym, ap, subst, ◌∙◌, arith}
use Rattle.history_state.specs.Setting.{Machine}
use Rattle.link_keeper.specs.Keeping.{LockKeeps}
use Rattle.world_answers.specs.GuestsPart.Counting.{Rise, counts_at}
use Rattle.world_threads.specs.Running.{HaveRun, SetsOff}
use Rattle.world_threads.proofs.Kept.{is_kept}
use Rattle.world_threads.proofs.Shown.{rise_itself, still_shown, written}
use Rattle.world_threads.proofs.Ways.{count_of}
use Rattle.world_turns.specs.Counts.{ShowInCounts}
use Rattle.world_threads.proofs.run.run_ready.Goals as goal

pub of-library-requires : goal.of-library-requires
of-library-requires g c = subst (λ x. Rise x (counts_at g.L.Library.faults g.L.Library.misses c.args.library)) (sym c.requires.library.1) (rise_itself (counts_at g.L.Library.faults g.L.Library.misses c.args.library))

pub new-keeper-requires : goal.new-keeper-requires
new-keeper-requires g c =
    let off = c.requires.set_off in
    subst (λ l. LockKeeps g.J.RunNaming.setting g.J.RunNaming.journal g.J.RunNaming.counts c.args.state c.args.ready.keeper c.args.ready.folders (g.L.Library.files l) (counts_at g.L.Library.faults g.L.Library.misses l)) (sym c.of-library.ensures)
    (subst (λ x. LockKeeps g.J.RunNaming.setting g.J.RunNaming.journal g.J.RunNaming.counts c.args.state c.args.ready.keeper c.args.ready.folders (g.L.Library.files c.args.library) x) c.requires.library.1
    (is_kept g.J.RunNaming.setting off.0 g.J.RunNaming.journal off.1 off.2.starts c.counts_show.ensures.nothing g.J.RunNaming.counts c.args.state c.args.ready.keeper c.args.ready.folders (g.L.Library.files c.args.library)
    c.requires.keeper c.requires.journal c.requires.machine c.requires.folders c.requires.library.0))

pub run_all-ends-requires-clause-room : goal.run_all-ends-requires-clause-room
run_all-ends-requires-clause-room g c =
    let off = c.requires.set_off in
    let value = c.as_mut_slice.ensures.value in
    let all = count_of (λ r. r.seat) (λ r. r.hart.hart) (λ r. r.blocks) c.served_calls_are_legal.ensures.entries g.J.RunNaming.setting off.0 g.J.RunNaming.journal off.1 c.args.ready.entry c.args.ready.runs.items off.2 in
    let many = ap (λ (m : Machine). m.harts) c.requires.machine in
    omega (arith, all, many, ap length value, c.requires.ends.1)

pub seats_of-seats-requires-clause-room : goal.seats_of-seats-requires-clause-room
seats_of-seats-requires-clause-room g c =
    let off = c.requires.set_off in
    let value = c.as_mut_slice.ensures.value in
    let all = count_of (λ r. r.seat) (λ r. r.hart.hart) (λ r. r.blocks) c.served_calls_are_legal.ensures.entries g.J.RunNaming.setting off.0 g.J.RunNaming.journal off.1 c.args.ready.entry c.args.ready.runs.items off.2 in
    let many = ap (λ (m : Machine). m.harts) c.requires.machine in
    let whole = written c.args.ready.runs.items c.run_all-ends.new.runs c.args.ready.runs.len (omega (arith, c.run_all-ends.auto.runs, ap length value)) c.args.ready.runs.ok.0 in
    omega (arith, all, many, ap length value, ap length whole, c.run_all-ends.auto.runs, c.requires.seats.1)

pub left_by-ran-requires-clause-have : goal.left_by-ran-requires-clause-have
left_by-ran-requires-clause-have g c =
    let off = c.requires.set_off in
    let value = c.as_mut_slice.ensures.value in
    let whole = written c.args.ready.runs.items c.run_all-ends.new.runs c.args.ready.runs.len (omega (arith, c.run_all-ends.auto.runs, ap length value)) c.args.ready.runs.ok.0 in (
      off.0,
      off.1,
      subst (HaveRun g.J.RunNaming.setting off.0 g.J.RunNaming.journal off.1 c.run_all-ends.result) (sym (c.seats_of-seats.ensures ∙ ap (map (λ r. r.seat)) whole))
          (c.run_all-ends.ensures off.0 off.1
          (subst (λ xs. SetsOff g.J.RunNaming.setting off.0 g.J.RunNaming.journal off.1 c.args.ready.entry (map (λ r. r.seat) xs) (map (λ r. r.hart.hart) xs) (map (λ r. r.blocks) xs)) (sym value) off.2)),
    )

pub left_by-ran-requires-clause-rounds : goal.left_by-ran-requires-clause-rounds
left_by-ran-requires-clause-rounds g c = c.close-state.ensures.kept.rounds

pub returns-clause-threaded : goal.returns-clause-threaded
returns-clause-threaded g c = λ setup started off.
    let value = c.as_mut_slice.ensures.value in
    let whole = written c.args.ready.runs.items c.run_all-ends.new.runs c.args.ready.runs.len (omega (arith, c.run_all-ends.auto.runs, ap length value)) c.args.ready.runs.ok.0 in
    c.left_by-ran.ensures.threaded setup started off.starts (subst (HaveRun g.J.RunNaming.setting setup g.J.RunNaming.journal started c.run_all-ends.result) (sym (c.seats_of-seats.ensures ∙ ap (map (λ r. r.seat)) whole))
    (c.run_all-ends.ensures setup started
    (subst (λ xs. SetsOff g.J.RunNaming.setting setup g.J.RunNaming.journal started c.args.ready.entry (map (λ r. r.seat) xs) (map (λ r. r.hart.hart) xs) (map (λ r. r.blocks) xs)) (sym value) off)))

pub returns-clause-shown : goal.returns-clause-shown
returns-clause-shown g c =
    let closed = c.close-state.ensures in
    subst (λ l. ShowInCounts g.J.RunNaming.setting.folders (drop (length g.J.RunNaming.journal) c.left_by-ran.result.left.journal.events) g.J.RunNaming.counts (counts_at g.L.Library.faults g.L.Library.misses l)) (sym c.into_library.ensures.library)
    (still_shown c.counts_show.ensures.join g.J.RunNaming.setting.folders g.J.RunNaming.journal c.close-state.result.1.events c.left_by-ran.result.left.journal.events g.J.RunNaming.counts
    (counts_at g.L.Library.faults g.L.Library.misses c.close-state.result.2) closed.kept.keeps.view.kept.begins c.left_by-ran.ensures.journal closed.kept.shown)

pub returns-clause-begins : goal.returns-clause-begins
returns-clause-begins g c =
    let begins = c.close-state.ensures.kept.keeps.view.kept.begins in
    let came = c.left_by-ran.ensures.journal in
    (begins.0 ++ came.more, came.are ∙ ap (λ es. es ++ came.more) begins.1 ∙ append_assoc g.J.RunNaming.journal begins.0 came.more)
