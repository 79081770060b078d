-- What the keeper keeps where a run has started: it may go behind its lock.
use Rattle.std.proofs.Common.{◌≡◌, ◌≤◌, ◌<◌, ℕ, List, ◌∷◌, ◌++◌, append_assoc, drop, length, Option, sym, ap, subst, ◌∙◌, arith}
use Rattle.std.specs.Prelude.{IsTrue}
use Rattle.std.proofs.lemmas.List.{drop_all}
use Rattle.std.proofs.lemmas.Option.{none-some}
use Rattle.ld_base.specs.declared.linking.File.{File}
use Rattle.history_event.specs.declared.event.Event.{Event}
use Rattle.history_event.specs.declared.state.Ending.{Ending}
use Rattle.history_calls.specs.declared.link_served.startup.Setup.{Setup}
use Rattle.history_calls.specs.declared.link_served.startup.Started.{Started}
use Rattle.history_calls.specs.Startup.{Starts, harts_of}
use Rattle.history_journal.specs.Following.{machine_of}
use Rattle.history_state.specs.After.{after}
use Rattle.history_state.specs.Setting.{Setting, have_exited}
use Rattle.link_keeper.specs.Keeping.{FirstGoesOn, LockKeeps}
use Rattle.link_keeper.specs.Rounds.{AreRounds}
use Rattle.link_state.specs.Table.{LinkTable}
use Rattle.word_rule.specs.declared.view.KeeperView.{KeeperView}
use Rattle.word_rule.specs.declared.view.OpenRow.{OpenRow}
use Rattle.word_rule.specs.declared.view.Row.{Row}
use Rattle.world_threads.specs.Setting.{IsSetUp}
use Rattle.world_threads.proofs.Finished.{ended_in, ends_grow, exited_many}
use Rattle.world_threads.proofs.Started.{machine_harts, none_ended}
use Rattle.world_turns.specs.Counts.{Counts, NothingShows, ShowInCounts}

module _ (w : Setting) (setup : Setup) (begun : List Event) (started : Started) (starts : Starts w setup begun started) where
  some_harts : 0 < w.machine.harts
  some_harts = (let many : w.machine.harts ≡ harts_of setup = machine_harts w setup begun started starts in omega (arith, many))

  -- at no moment had every hart ended
  never_over : (front since : List Event) → begun ≡ front ++ since → IsTrue (have_exited w (after front)) → ⊥
  never_over front since are over =
      let many = exited_many w (after front) over in
      let grown : ended_in front ≤ ended_in begun = subst (λ (es : List Event). ended_in front ≤ ended_in es) (sym are) (ends_grow front since) in
      let none : ended_in begun ≡ 0 = ap (λ (es : List Ending). length es) (none_ended w setup begun started starts) in
      let some = some_harts in
      omega (arith, many, grown, none, some)

  first_goes_on : FirstGoesOn w begun
  first_goes_on past e rest are over =
      absurd (never_over over.0 (over.1 ++ e ∷ rest) (are ∙ ap (λ (es : List Event). es ++ e ∷ rest) over.2 ∙ append_assoc over.0 over.1 (e ∷ rest)) over.3)

  pub is_kept : NothingShows → (first : Counts) (state : LinkTable) (k : KeeperView) (folders : List (List ℕ)) (files : Option (List File)) → IsSetUp w begun k
      → begun ≡ state.events → w.machine ≡ machine_of state.harts → w.folders ≡ folders → w.files ≡ files → LockKeeps w begun first state k folders files first
  is_kept nothing first state k folders files at same machine folders_are files_are = record {
    keeps = record {
      view = record {
        kept = at.kept;
        pending = λ m g low pending. absurd (none-some g (sym (ap (λ (r : Row). r.pending) (at.rows m)) ∙ pending));
        last = subst (FirstGoesOn w) (sym at.events) first_goes_on;
      };
      machine = machine;
      same = at.events ∙ same;
    };
    folders_are = folders_are;
    files_are = files_are;
    shown = subst (λ (es : List Event). ShowInCounts w.folders es first first) (sym (ap (drop (length begun)) at.events ∙ drop_all (length begun) begun (omega arith))) (nothing w.folders first);
    rounds = subst (λ (p : List Event × List OpenRow). AreRounds w begun p.0 p.1) (λ i. (sym at.events i, sym at.none_open i)) AreRounds.none_yet;
  }
