use Rattle.std.proofs.Common.{ℕ, ◌++◌, ◌∷◌, [], List, refl}
use Rattle.history_event.specs.declared.event.Event.{Event}
use Rattle.word_rule.specs.declared.entry.Grant.{Grant}
use Rattle.word_rule.specs.declared.view.KeeperView.{KeeperView}
use Rattle.history_state.specs.After.{after}
use Rattle.history_state.specs.Legal.{Lawful}
use Rattle.history_state.specs.Setting.{Setting}
use Rattle.history_state.specs.Lemmas.Brought.{LoadLaws}
use Rattle.history_state.specs.Lemmas.History.{lawful_push}
use Rattle.history_state.specs.Lemmas.Lazy.{PageLaws}
use Rattle.history_state.specs.Lemmas.LoadWords.{load_word}
use Rattle.history_state.specs.Lemmas.Map.{mapped_after, ranges_apart}
use Rattle.history_state.specs.Lemmas.Ranges.{apart_after}
use Rattle.history_state.specs.Lemmas.Tidy.{tidy_after}
use Rattle.word_installs.specs.Remaking.{ComesNext}
use Rattle.word_installs.proofs.Coming.{Knows, installed_view, knows_of, may_install, remade}
use Rattle.word_installs.proofs.law.installs_remake.Goals as goal

pub returns : goal.returns
returns c = record {
  may = λ w past e k number installs comes are. may_install (after past) e (knows w past e k number comes) k comes.words.role installs are;
  remade = λ w past e k l number installs comes are none_taken installed.
      remade (after past) e (knows w past e k number comes) k comes.words.role installs are l none_taken installed;
  view = λ w past e k l number installs comes are none_taken installed long generation.
      installed_view (after past) e k l installs none_taken
      (remade (after past) e (knows w past e k number comes) k comes.words.role installs are l none_taken installed) installed long generation;
}
  where
    loads : LoadLaws
    loads = record { serials = c.serials_follow.ensures; leads = c.found_stands.ensures.names; founds = c.found_stands.ensures.founds }

    pages : PageLaws
    pages = record {
      low = c.pages_hold_segments.ensures.low;
      high = c.pages_hold_segments.ensures.high;
      from = c.pages_hold_segments.ensures.from;
      to = c.pages_hold_segments.ensures.to;
      some = c.pages_hold_segments.ensures.some;
      few = c.pages_hold_segments.ensures.few;
      one = c.pages_hold_segments.ensures.one;
    }

    knows : (w : Setting) (past : List Event) (e : Event) (k : KeeperView) (number : ℕ → Grant → ℕ) → ComesNext w past e k number → Knows (after past) e
    knows w past e k number comes =
        let m = w.machine in
        let lawful : Lawful w.machine (past ++ e ∷ []) = lawful_push w.machine w past e refl comes.lawful comes.may in
        knows_of w past e comes.may
        (λ hart id root ask added ranges may. c.serials_are_in_order.ensures.new w.machine w past hart id root ask added ranges refl comes.lawful may)
        pages (mapped_after loads c.reads_candidates.ensures.candidates w.machine comes.accepts past comes.lawful)
        (c.memory_changes.ensures w.machine w past e refl comes.accepts comes.lawful comes.may)
        (record {
          laws = record {
            mapped = mapped_after loads c.reads_candidates.ensures.candidates w.machine comes.accepts (past ++ e ∷ []) lawful;
            begins = c.slots_begin.ensures w.machine (past ++ e ∷ []) comes.accepts lawful;
            images = c.images_are_mapped.ensures w.machine (past ++ e ∷ []) lawful;
            lazy = c.none_is_lazy.ensures w.machine (past ++ e ∷ []) comes.accepts lawful;
            tidy = tidy_after w.machine (past ++ e ∷ []) lawful;
            fits = λ owner slot. load_word w.machine (past ++ e ∷ []) lawful owner slot;
          };
          slots = record {
            there = λ i slot r. c.slots_stand.ensures.there w.machine (past ++ e ∷ []) i slot r comes.accepts lawful;
            whole = λ i slot r. c.slots_stand.ensures.whole w.machine (past ++ e ∷ []) i slot r comes.accepts lawful;
          };
          leads = c.slots_lead_to_rx.ensures w.machine (past ++ e ∷ []) comes.accepts lawful;
          areas = c.areas_are_data.ensures w.machine (past ++ e ∷ []) comes.accepts lawful;
          code = λ a. c.code_is_whole.ensures w.machine (past ++ e ∷ []) a comes.accepts lawful;
          ranges = ranges_apart w.machine (past ++ e ∷ []) lawful;
          apart = apart_after w.machine (past ++ e ∷ []) lawful;
        })
