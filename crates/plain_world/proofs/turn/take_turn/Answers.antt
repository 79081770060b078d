use Rattle.std.proofs.Common.{◌≡◌, ℕ, refl, ap}
use Rattle.world_answers.specs.GuestsPart.GuestWorlds.Coming.{LeavesHart}
use Rattle.world_answers.specs.GuestsPart.GuestWorlds.Worlds.{TakesOver, world_of}
use Rattle.world_answers.specs.GuestsPart.Counting.{IsCounted, counts_at}
use Rattle.world_answers.specs.GuestsPart.Next.{NextOpens, NextReadsNothing, NextTells}
use Rattle.world_answers.specs.ReturnsPart.Settling.{harts_in}
use Rattle.world_turns.specs.Counts.{Counts}
use Rattle.world_turns.specs.Turn.{TakesTurn}
use Rattle.world_turns.specs.World.{World}
use Rattle.plain_world.proofs.Counting.{goes_up, takes_counted}
use Rattle.world_answers.specs.GuestsPart.Lemmas.Counting.{same_counts}
use Rattle.plain_world.proofs.Parts.{on_takes}
use Rattle.plain_world.proofs.Telling.{alone_counts, alone_opens, alone_tells, from_same}
use Rattle.plain_world.proofs.turn.take_turn.Goals as goal

-- ---- one that asks nothing of the linker

pub returns-in-Some-clause-takes : goal.returns-in-Some-clause-takes
returns-in-Some-clause-takes g c =
    on_takes c.args.state.now.harts c.args.folders.now (g.L.Library.files c.args.library.now) c.args.id
    (world_of c.args.state.now c.args.memory.now c.args.harts.now) (world_of c.take_quiet.new.state c.take_quiet.new.memory c.take_quiet.new.harts)
    c.in-Some.ensures.turn

pub returns-in-Some-clause-tells : goal.returns-in-Some-clause-tells
returns-in-Some-clause-tells g c =
    alone_tells c.args.state.now.harts c.args.folders.now (g.L.Library.files c.args.library.now) (world_of c.args.state.now c.args.memory.now c.args.harts.now)
    c.take_quiet.new.state.events c.args.id c.in-Some.turn c.in-Some.ensures.no_call c.in-Some.ensures.no_wait

pub returns-in-Some-clause-whole : goal.returns-in-Some-clause-whole
returns-in-Some-clause-whole g c =
    alone_opens c.args.state.now.harts c.args.folders.now (g.L.Library.files c.args.library.now) (g.L.Library.faults c.args.library.now)
    (g.L.Library.faults c.args.library.now) (world_of c.args.state.now c.args.memory.now c.args.harts.now) c.take_quiet.new.state.events c.args.id c.in-Some.turn
    c.in-Some.ensures.no_call

pub returns-in-Some-clause-counts : goal.returns-in-Some-clause-counts
returns-in-Some-clause-counts g c =
    let old : World = world_of c.args.state.now c.args.memory.now c.args.harts.now in
    let new : World = world_of c.take_quiet.new.state c.take_quiet.new.memory c.take_quiet.new.harts in
    let counts : Counts = counts_at g.L.Library.faults g.L.Library.misses c.args.library.now in
    takes_counted c.refusals_are_counted.ensures c.args.state.now.harts c.args.folders.now (g.L.Library.files c.args.library.now) c.args.id old new counts counts
    (same_counts counts) (returns-in-Some-clause-takes g c)
    (alone_counts c.args.folders.now old new.journal c.args.id counts.faults counts.faults counts.misses counts.misses c.in-Some.ensures.no_call)

pub returns-in-Some-clause-unread : goal.returns-in-Some-clause-unread
returns-in-Some-clause-unread g c = λ reads. refl

-- ---- one that asks the linker

pub returns-in-Some-take_service-clause-takes : goal.returns-in-Some-take_service-clause-takes
returns-in-Some-take_service-clause-takes g c =
    let new : World = world_of c.take_service.new.state c.take_service.new.memory c.take_service.new.harts in
    from_same (λ (n : ℕ) (v : World). TakesOver n c.args.folders.now (g.L.Library.files c.args.library.now) c.args.id v new)
    c.args.state.now c.take_quiet.new.state c.args.memory.now c.take_quiet.new.memory c.args.harts.now c.take_quiet.new.harts
    c.in_default.ensures.unchanged.0 c.in_default.ensures.unchanged.1 c.in_default.ensures.unchanged.2
    (λ w over. TakesTurn.turn (c.in-Some-take_service.ensures.turn w over))

pub returns-in-Some-take_service-clause-comes : goal.returns-in-Some-take_service-clause-comes
returns-in-Some-take_service-clause-comes g c =
    let new : World = world_of c.take_service.new.state c.take_service.new.memory c.take_service.new.harts in
    from_same (λ (n : ℕ) (v : World). LeavesHart v new c.args.id c.in-Some-take_service.turn)
    c.args.state.now c.take_quiet.new.state c.args.memory.now c.take_quiet.new.memory c.args.harts.now c.take_quiet.new.harts
    c.in_default.ensures.unchanged.0 c.in_default.ensures.unchanged.1 c.in_default.ensures.unchanged.2 c.in-Some-take_service.ensures.comes

pub returns-in-Some-take_service-clause-tells : goal.returns-in-Some-take_service-clause-tells
returns-in-Some-take_service-clause-tells g c =
    from_same (λ (n : ℕ) (v : World). NextTells n c.args.folders.now (g.L.Library.files c.args.library.now) v c.take_service.new.state.events c.args.id
    c.in-Some-take_service.turn)
    c.args.state.now c.take_quiet.new.state c.args.memory.now c.take_quiet.new.memory c.args.harts.now c.take_quiet.new.harts
    c.in_default.ensures.unchanged.0 c.in_default.ensures.unchanged.1 c.in_default.ensures.unchanged.2 c.in-Some-take_service.ensures.tells

pub returns-in-Some-take_service-clause-whole : goal.returns-in-Some-take_service-clause-whole
returns-in-Some-take_service-clause-whole g c =
    from_same (λ (n : ℕ) (v : World). NextOpens n c.args.folders.now (g.L.Library.files c.args.library.now) (g.L.Library.faults c.args.library.now)
    (g.L.Library.faults c.take_service.new.library) v c.take_service.new.state.events c.args.id c.in-Some-take_service.turn)
    c.args.state.now c.take_quiet.new.state c.args.memory.now c.take_quiet.new.memory c.args.harts.now c.take_quiet.new.harts
    c.in_default.ensures.unchanged.0 c.in_default.ensures.unchanged.1 c.in_default.ensures.unchanged.2 c.in-Some-take_service.ensures.whole

pub returns-in-Some-take_service-clause-counts : goal.returns-in-Some-take_service-clause-counts
returns-in-Some-take_service-clause-counts g c =
    let old : World = world_of c.take_quiet.new.state c.take_quiet.new.memory c.take_quiet.new.harts in
    let new : World = world_of c.take_service.new.state c.take_service.new.memory c.take_service.new.harts in
    let first : Counts = counts_at g.L.Library.faults g.L.Library.misses c.args.library.now in
    let last : Counts = counts_at g.L.Library.faults g.L.Library.misses c.take_service.new.library in
    from_same (λ (n : ℕ) (v : World). IsCounted c.args.folders.now v new first last)
    c.args.state.now c.take_quiet.new.state c.args.memory.now c.take_quiet.new.memory c.args.harts.now c.take_quiet.new.harts
    c.in_default.ensures.unchanged.0 c.in_default.ensures.unchanged.1 c.in_default.ensures.unchanged.2
    (takes_counted c.refusals_are_counted.ensures c.take_quiet.new.state.harts c.args.folders.now (g.L.Library.files c.args.library.now) c.args.id old new first last
    (goes_up g.L.Library.faults g.L.Library.misses c.args.library.now c.take_service.new.library c.take_service.ensures.faults c.take_service.ensures.misses)
    (λ w over. TakesTurn.turn (c.in-Some-take_service.ensures.turn w over)) c.take_service.ensures.counts)

pub returns-in-Some-take_service-clause-unread : goal.returns-in-Some-take_service-clause-unread
returns-in-Some-take_service-clause-unread g c =
    from_same (λ (n : ℕ) (v : World). NextReadsNothing v c.args.id → c.take_service.new.library ≡ c.args.library.now)
    c.args.state.now c.take_quiet.new.state c.args.memory.now c.take_quiet.new.memory c.args.harts.now c.take_quiet.new.harts
    c.in_default.ensures.unchanged.0 c.in_default.ensures.unchanged.1 c.in_default.ensures.unchanged.2 c.take_service.ensures.unread

-- ---- one behind final destructors

pub returns-clause-takes : goal.returns-clause-takes
returns-clause-takes g c =
    let served = c.in_default-take_service.ensures.unchanged in
    let new : World = world_of c.take_final.new.state c.take_service.new.memory c.take_final.new.harts in
    let Takes : ℕ → World → Type 0 = λ n v. TakesOver n c.args.folders.now (g.L.Library.files c.args.library.now) c.args.id v new in
    from_same Takes c.args.state.now c.take_quiet.new.state c.args.memory.now c.take_quiet.new.memory c.args.harts.now c.take_quiet.new.harts
    c.in_default.ensures.unchanged.0 c.in_default.ensures.unchanged.1 c.in_default.ensures.unchanged.2
    (from_same Takes c.take_quiet.new.state c.take_service.new.state c.take_quiet.new.memory c.take_service.new.memory c.take_quiet.new.harts c.take_service.new.harts
    served.0 served.1 (ap harts_in served.2) (λ w over. TakesTurn.turn (c.in-Some-take_final.ensures.turn c.take_service.new.memory w over.machine)))

pub returns-clause-comes : goal.returns-clause-comes
returns-clause-comes g c =
    let served = c.in_default-take_service.ensures.unchanged in
    let new : World = world_of c.take_final.new.state c.take_service.new.memory c.take_final.new.harts in
    let Leaves : ℕ → World → Type 0 = λ n v. LeavesHart v new c.args.id c.in-Some-take_final.turn in
    from_same Leaves c.args.state.now c.take_quiet.new.state c.args.memory.now c.take_quiet.new.memory c.args.harts.now c.take_quiet.new.harts
    c.in_default.ensures.unchanged.0 c.in_default.ensures.unchanged.1 c.in_default.ensures.unchanged.2
    (from_same Leaves c.take_quiet.new.state c.take_service.new.state c.take_quiet.new.memory c.take_service.new.memory c.take_quiet.new.harts c.take_service.new.harts
    served.0 served.1 (ap harts_in served.2) (c.in-Some-take_final.ensures.comes c.take_service.new.memory))

pub returns-clause-tells : goal.returns-clause-tells
returns-clause-tells g c =
    let served = c.in_default-take_service.ensures.unchanged in
    let Tells : ℕ → World → Type 0 = λ n v.
    NextTells n c.args.folders.now (g.L.Library.files c.args.library.now) v c.take_final.new.state.events c.args.id c.in-Some-take_final.turn in
    from_same Tells c.args.state.now c.take_quiet.new.state c.args.memory.now c.take_quiet.new.memory c.args.harts.now c.take_quiet.new.harts
    c.in_default.ensures.unchanged.0 c.in_default.ensures.unchanged.1 c.in_default.ensures.unchanged.2
    (from_same Tells c.take_quiet.new.state c.take_service.new.state c.take_quiet.new.memory c.take_service.new.memory c.take_quiet.new.harts c.take_service.new.harts
    served.0 served.1 (ap harts_in served.2)
    (alone_tells c.take_service.new.state.harts c.args.folders.now (g.L.Library.files c.args.library.now)
    (world_of c.take_service.new.state c.take_service.new.memory c.take_service.new.harts) c.take_final.new.state.events c.args.id c.in-Some-take_final.turn
    (c.in-Some-take_final.ensures.no_call c.take_service.new.memory) c.in-Some-take_final.ensures.no_wait))

pub returns-clause-whole : goal.returns-clause-whole
returns-clause-whole g c =
    let served = c.in_default-take_service.ensures.unchanged in
    let first = g.L.Library.faults c.args.library.now in
    let last = g.L.Library.faults c.take_service.new.library in
    let Whole : ℕ → World → Type 0 = λ n v.
    NextOpens n c.args.folders.now (g.L.Library.files c.args.library.now) first last v c.take_final.new.state.events c.args.id c.in-Some-take_final.turn in
    from_same Whole c.args.state.now c.take_quiet.new.state c.args.memory.now c.take_quiet.new.memory c.args.harts.now c.take_quiet.new.harts
    c.in_default.ensures.unchanged.0 c.in_default.ensures.unchanged.1 c.in_default.ensures.unchanged.2
    (from_same Whole c.take_quiet.new.state c.take_service.new.state c.take_quiet.new.memory c.take_service.new.memory c.take_quiet.new.harts c.take_service.new.harts
    served.0 served.1 (ap harts_in served.2)
    (alone_opens c.take_service.new.state.harts c.args.folders.now (g.L.Library.files c.args.library.now) first last
    (world_of c.take_service.new.state c.take_service.new.memory c.take_service.new.harts) c.take_final.new.state.events c.args.id c.in-Some-take_final.turn
    (c.in-Some-take_final.ensures.no_call c.take_service.new.memory)))

pub returns-clause-counts : goal.returns-clause-counts
returns-clause-counts g c =
    let served = c.in_default-take_service.ensures.unchanged in
    let old : World = world_of c.take_service.new.state c.take_service.new.memory c.take_service.new.harts in
    let new : World = world_of c.take_final.new.state c.take_service.new.memory c.take_final.new.harts in
    let first : Counts = counts_at g.L.Library.faults g.L.Library.misses c.args.library.now in
    let last : Counts = counts_at g.L.Library.faults g.L.Library.misses c.take_service.new.library in
    let Counted : ℕ → World → Type 0 = λ n v. IsCounted c.args.folders.now v new first last in
    from_same Counted c.args.state.now c.take_quiet.new.state c.args.memory.now c.take_quiet.new.memory c.args.harts.now c.take_quiet.new.harts
    c.in_default.ensures.unchanged.0 c.in_default.ensures.unchanged.1 c.in_default.ensures.unchanged.2
    (from_same Counted c.take_quiet.new.state c.take_service.new.state c.take_quiet.new.memory c.take_service.new.memory c.take_quiet.new.harts c.take_service.new.harts
    served.0 served.1 (ap harts_in served.2)
    (takes_counted c.refusals_are_counted.ensures c.take_service.new.state.harts c.args.folders.now (g.L.Library.files c.args.library.now) c.args.id old new first last
    (goes_up g.L.Library.faults g.L.Library.misses c.args.library.now c.take_service.new.library c.take_service.ensures.faults c.take_service.ensures.misses)
    (λ w over. TakesTurn.turn (c.in-Some-take_final.ensures.turn c.take_service.new.memory w over.machine))
    (alone_counts c.args.folders.now old new.journal c.args.id first.faults last.faults first.misses last.misses
    (c.in-Some-take_final.ensures.no_call c.take_service.new.memory))))

pub returns-clause-unread : goal.returns-clause-unread
returns-clause-unread g c = λ reads. c.in_default-take_service.ensures.unchanged.3
