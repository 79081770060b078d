use Rattle.std.proofs.Common.{◌≡◌, ℕ, Bool, ◌<◌, ◌≤◌, Contains, List, sym, ap, subst, ◌∙◌, arith}
use Rattle.history_event.specs.declared.handed.HartEntry.{HartEntry}
use Rattle.hart_moves.specs.Starting.{starting_registers}
use Rattle.world_turns.specs.declared.schedules.schedule.TurnItem.{TurnItem}
use Rattle.world_turns.specs.Counts.{Counts}
use Rattle.world_turns.specs.Run.{RunFinishes, TakesItems, have_ended}
use Rattle.world_turns.specs.World.{World}
use Rattle.plain_world.specs.Playing.{FinalisesOnce}
use Rattle.plain_world.specs.Table.{WorldTable, moved}
use Rattle.world_answers.specs.GuestsPart.Counting.{IsCounted, RefusesNone, counts_at}
use Rattle.world_answers.specs.GuestsPart.Lemmas.Counting.{counted_more, same_counts}
use Rattle.plain_world.proofs.Counting.{goes_up, more_counted, no_count, same_folders, settled_refuses}
use Rattle.plain_world.proofs.Going.{in_each, moved_more, settled_over}
use Rattle.plain_world.proofs.world.World.run.Goals as goal

pub follow-requires : goal.follow-requires
follow-requires g c = λ item there.
    subst (λ (n : ℕ). item.hart < n) (sym (ap (λ (t : WorldTable). t.count) c.construct.ensures.rest))
    (c.requires item (subst (λ (items : List TurnItem). Contains items item) c.as_slice.ensures there))

pub returns-clause-plays : goal.returns-clause-plays
returns-clause-plays g c = λ w over.
    let run : WorldTable = c.args.self.now in
    let first : c.construct.new.run ≡ moved run c.construct.new.run.world = c.construct.ensures.rest in
    let second : c.follow.new.run ≡ moved run c.follow.new.run.world = moved_more run c.construct.new.run c.follow.new.run first c.follow.ensures.rest in
    let third : c.finish.new.run ≡ moved run c.finish.new.run.world = moved_more run c.follow.new.run c.finish.new.run second c.finish.ensures.rest in
    let files = g.L.Library.files c.args.library.now in
    let files_1 : g.L.Library.files c.construct.new.library ≡ g.L.Library.files c.args.library.now = c.construct.ensures.files in
    let files_2 : g.L.Library.files c.follow.new.library ≡ g.L.Library.files c.args.library.now = c.follow.ensures.files ∙ files_1 in
    let files_3 : g.L.Library.files c.finish.new.library ≡ g.L.Library.files c.args.library.now = c.finish.ensures.files ∙ files_2 in
    record {
      constructed = c.construct.new.run.world;
      constructs = c.construct.ensures.constructs w over;
      scheduled = c.follow.new.run.world;
      follows = subst (λ (items : List TurnItem). TakesItems w items c.construct.new.run.world c.follow.new.run.world) c.as_slice.ensures
          (in_each run c.construct.new.run files (g.L.Library.files c.construct.new.library)
          (λ v. TakesItems v c.as_slice.result.now c.construct.new.run.world c.follow.new.run.world) first files_1 c.follow.ensures.follows w over);
      finished = c.finish.new.run.world;
      finishes = in_each run c.follow.new.run files (g.L.Library.files c.follow.new.library) (λ v. RunFinishes v c.follow.new.run.world c.finish.new.run.world) second files_2
          c.finish.ensures.finishes w over;
      finalised = c.finalise.new.run.world;
      finalises =
          subst (λ (b : Bool). FinalisesOnce w b (starting_registers run.entry) c.finish.new.run.world c.finalise.new.run.world) (ap (λ (t : WorldTable). t.begun) third)
          (subst (λ (e : HartEntry). FinalisesOnce w c.finish.new.run.begun (starting_registers e) c.finish.new.run.world c.finalise.new.run.world)
          (ap (λ (t : WorldTable). t.entry) third)
          (in_each run c.finish.new.run files (g.L.Library.files c.finish.new.library)
          (λ v. FinalisesOnce v c.finish.new.run.begun (starting_registers c.finish.new.run.entry) c.finish.new.run.world c.finalise.new.run.world) third files_3
          c.finalise.ensures.finalises w over));
      ends = ap (λ (t : WorldTable). t.world) c.settle.ensures;
    }

pub returns-clause-over : goal.returns-clause-over
returns-clause-over g c =
    ap (λ (t : WorldTable). have_ended t.world) c.settle.ensures ∙ settled_over c.finalise.new.run.world c.finalise.ensures.over

pub returns-clause-counts : goal.returns-clause-counts
returns-clause-counts g c =
    let run : WorldTable = c.args.self.now in
    let first : c.construct.new.run ≡ moved run c.construct.new.run.world = c.construct.ensures.rest in
    let second : c.follow.new.run ≡ moved run c.follow.new.run.world = moved_more run c.construct.new.run c.follow.new.run first c.follow.ensures.rest in
    let third : c.finish.new.run ≡ moved run c.finish.new.run.world = moved_more run c.follow.new.run c.finish.new.run second c.finish.ensures.rest in
    let start = c.args.library.now in
    let faults_1 = c.construct.ensures.faults in
    let misses_1 = c.construct.ensures.misses in
    let faults_2 : g.L.Library.faults start ≤ g.L.Library.faults c.follow.new.library = (let more = c.follow.ensures.faults in omega (arith, faults_1, more)) in
    let misses_2 : g.L.Library.misses start ≤ g.L.Library.misses c.follow.new.library = (let more = c.follow.ensures.misses in omega (arith, misses_1, more)) in
    let faults_3 : g.L.Library.faults start ≤ g.L.Library.faults c.finish.new.library = (let more = c.finish.ensures.faults in omega (arith, faults_2, more)) in
    let misses_3 : g.L.Library.misses start ≤ g.L.Library.misses c.finish.new.library = (let more = c.finish.ensures.misses in omega (arith, misses_2, more)) in
    let Shown : World → Counts → Type 0 = λ v k. IsCounted run.folders run.world v (counts_at g.L.Library.faults g.L.Library.misses start) k in
    let followed : Shown c.follow.new.run.world (counts_at g.L.Library.faults g.L.Library.misses c.follow.new.library) =
    more_counted g.L.Library.faults g.L.Library.misses run c.construct.new.run c.follow.new.run.world start c.construct.new.library c.follow.new.library
    (same_folders run c.construct.new.run first) faults_1 misses_1 c.follow.ensures.faults c.follow.ensures.misses c.construct.ensures.counts c.follow.ensures.counts in
    let finished : Shown c.finish.new.run.world (counts_at g.L.Library.faults g.L.Library.misses c.finish.new.library) =
    more_counted g.L.Library.faults g.L.Library.misses run c.follow.new.run c.finish.new.run.world start c.follow.new.library c.finish.new.library
    (same_folders run c.follow.new.run second) faults_2 misses_2 c.finish.ensures.faults c.finish.ensures.misses followed c.finish.ensures.counts in
    let finalised : Shown c.finalise.new.run.world (counts_at g.L.Library.faults g.L.Library.misses c.finalise.new.library) =
    more_counted g.L.Library.faults g.L.Library.misses run c.finish.new.run c.finalise.new.run.world start c.finish.new.library c.finalise.new.library
    (same_folders run c.finish.new.run third) faults_3 misses_3 c.finalise.ensures.faults c.finalise.ensures.misses finished c.finalise.ensures.counts in
    let faults_4 : g.L.Library.faults start ≤ g.L.Library.faults c.finalise.new.library = (let more = c.finalise.ensures.faults in omega (arith, faults_3, more)) in
    let misses_4 : g.L.Library.misses start ≤ g.L.Library.misses c.finalise.new.library = (let more = c.finalise.ensures.misses in omega (arith, misses_3, more)) in
    let settles : RefusesNone c.finalise.new.run.world c.settle.new.self.world =
    subst (λ (v : World). RefusesNone c.finalise.new.run.world v) (sym (ap (λ (t : WorldTable). t.world) c.settle.ensures)) (settled_refuses c.finalise.new.run.world) in
    counted_more run.folders run.world c.finalise.new.run.world c.settle.new.self.world (counts_at g.L.Library.faults g.L.Library.misses start)
    (counts_at g.L.Library.faults g.L.Library.misses c.finalise.new.library) (counts_at g.L.Library.faults g.L.Library.misses c.finalise.new.library)
    (goes_up g.L.Library.faults g.L.Library.misses start c.finalise.new.library faults_4 misses_4)
    (same_counts (counts_at g.L.Library.faults g.L.Library.misses c.finalise.new.library)) finalised
    (no_count run.folders c.finalise.new.run.world c.settle.new.self.world (counts_at g.L.Library.faults g.L.Library.misses c.finalise.new.library) settles)
