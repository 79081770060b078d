use Rattle.std.proofs.Common.{◌≡◌, ℕ, ◌<◌, Some, refl, sym, ap, subst, ◌∙◌, arith}
use Rattle.history_event.specs.declared.hart_end.HartEnd.{HartEnd}
use Rattle.world_answers.specs.GuestsPart.Counting.{IsCounted, counts_at}
use Rattle.world_answers.specs.GuestsPart.GuestWorlds.Coming.{HasEnd}
use Rattle.world_answers.specs.GuestsPart.GuestWorlds.Worlds.{TakesOver}
use Rattle.world_turns.specs.World.{World}
use Rattle.plain_world.specs.Stretches.{TakesNext}
use Rattle.plain_world.specs.Table.{WorldTable, moved}
use Rattle.plain_world.proofs.Counting.{no_count}
use Rattle.plain_world.proofs.Stretches.{none_same, stretch_refuses}
use Rattle.plain_world.proofs.world.World.next_turns.Goals as goal

ended_before : (now run : World) (h : ℕ) (reason : HartEnd) → now ≡ run → HasEnd now h (Some reason) → HasEnd run h (Some reason)
ended_before now run h reason same over = subst (λ (v : World). HasEnd v h (Some reason)) same over

-- ---- instructions

pub returns-then-taken-gt0-clause-takes : goal.returns-then-taken-gt0-clause-takes
returns-then-taken-gt0-clause-takes g c = λ w over. TakesNext.instructions c.if-taken-gt0.true c.stretch-taken.ensures.takes

pub returns-then-taken-gt0-clause-counts : goal.returns-then-taken-gt0-clause-counts
returns-then-taken-gt0-clause-counts g c =
    no_count c.args.self.now.folders c.args.self.now.world c.stretch-taken.new.self.world (counts_at g.L.Library.faults g.L.Library.misses c.args.library.now)
    (stretch_refuses c.args.id c.stretch-taken.result c.args.self.now.world c.stretch-taken.new.self.world c.stretch-taken.ensures.takes)

-- ---- a turn, of whatever kind

pub turn-requires : goal.turn-requires
turn-requires g c =
    let same : c.stretch-taken.new.self ≡ c.args.self.now =
    none_same c.args.self.now c.stretch-taken.new.self c.args.id c.stretch-taken.result (omega (arith, c.if-taken-gt0.false)) c.stretch-taken.ensures.rest
    c.stretch-taken.ensures.takes in
    subst (λ (t : WorldTable). c.args.id < t.count) (sym same) c.requires.hart

pub returns-in_default-clause-takes : goal.returns-in_default-clause-takes
returns-in_default-clause-takes g c = λ w over.
    let same : c.stretch-taken.new.self ≡ c.args.self.now =
    none_same c.args.self.now c.stretch-taken.new.self c.args.id c.stretch-taken.result (omega (arith, c.if-taken-gt0.false)) c.stretch-taken.ensures.rest
    c.stretch-taken.ensures.takes in
    TakesNext.turn refl
    (subst (λ (t : WorldTable). TakesOver t.count t.folders (g.L.Library.files c.args.library.now) c.args.id t.world c.turn.new.self.world) same c.turn.ensures.takes w over)

pub returns-in_default-clause-counts : goal.returns-in_default-clause-counts
returns-in_default-clause-counts g c =
    let same : c.stretch-taken.new.self ≡ c.args.self.now =
    none_same c.args.self.now c.stretch-taken.new.self c.args.id c.stretch-taken.result (omega (arith, c.if-taken-gt0.false)) c.stretch-taken.ensures.rest
    c.stretch-taken.ensures.takes in
    subst (λ (t : WorldTable). IsCounted t.folders t.world c.turn.new.self.world (counts_at g.L.Library.faults g.L.Library.misses c.args.library.now)
    (counts_at g.L.Library.faults g.L.Library.misses c.turn.new.library)) same c.turn.ensures.counts

pub returns-in_default-clause-rest : goal.returns-in_default-clause-rest
returns-in_default-clause-rest g c =
    let same : c.stretch-taken.new.self ≡ c.args.self.now =
    none_same c.args.self.now c.stretch-taken.new.self c.args.id c.stretch-taken.result (omega (arith, c.if-taken-gt0.false)) c.stretch-taken.ensures.rest
    c.stretch-taken.ensures.takes in
    subst (λ (t : WorldTable). c.turn.new.self ≡ moved t c.turn.new.self.world) same c.turn.ensures.rest

-- ---- none, where it has ended

pub returns-in-Idle-clause-takes : goal.returns-in-Idle-clause-takes
returns-in-Idle-clause-takes g c = λ w over.
    let idle = c.in-Idle.ensures.comes in
    let same : c.stretch-taken.new.self ≡ c.args.self.now =
    none_same c.args.self.now c.stretch-taken.new.self c.args.id c.stretch-taken.result (omega (arith, c.if-taken-gt0.false)) c.stretch-taken.ensures.rest
    c.stretch-taken.ensures.takes in
    let world : c.stretch-taken.new.self.world ≡ c.args.self.now.world = ap (λ (t : WorldTable). t.world) same in
    TakesNext.over refl idle.1.0 (ended_before c.stretch-taken.new.self.world c.args.self.now.world c.args.id idle.1.0 world idle.1.1) (idle.0 ∙ world)

pub returns-in-Idle-clause-counts : goal.returns-in-Idle-clause-counts
returns-in-Idle-clause-counts g c =
    let same : c.stretch-taken.new.self ≡ c.args.self.now =
    none_same c.args.self.now c.stretch-taken.new.self c.args.id c.stretch-taken.result (omega (arith, c.if-taken-gt0.false)) c.stretch-taken.ensures.rest
    c.stretch-taken.ensures.takes in
    subst (λ (t : WorldTable). IsCounted t.folders t.world c.turn.new.self.world (counts_at g.L.Library.faults g.L.Library.misses c.args.library.now)
    (counts_at g.L.Library.faults g.L.Library.misses c.turn.new.library)) same c.turn.ensures.counts

pub returns-in-Idle-clause-rest : goal.returns-in-Idle-clause-rest
returns-in-Idle-clause-rest g c =
    let same : c.stretch-taken.new.self ≡ c.args.self.now =
    none_same c.args.self.now c.stretch-taken.new.self c.args.id c.stretch-taken.result (omega (arith, c.if-taken-gt0.false)) c.stretch-taken.ensures.rest
    c.stretch-taken.ensures.takes in
    subst (λ (t : WorldTable). c.turn.new.self ≡ moved t c.turn.new.self.world) same c.turn.ensures.rest
