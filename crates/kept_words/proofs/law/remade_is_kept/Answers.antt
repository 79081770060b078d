use Rattle.std.proofs.Common.{List, ◌∷◌, ◌++◌, [], refl, subst}
use Rattle.std.specs.List.{Contains}
use Rattle.history_event.specs.declared.event.Event.{Event}
use Rattle.history_event.specs.declared.event.Range.{Range}
use Rattle.word_rule.specs.KeeperSteps.{AreDecided}
use Rattle.word_rule.specs.Views.{row_of}
use Rattle.history_state.specs.Accepted.{AcceptsOnly}
use Rattle.history_state.specs.After.{after}
use Rattle.history_state.specs.Allowed.{Allowed}
use Rattle.history_state.specs.Changes.{taken}
use Rattle.history_state.specs.Legal.{Lawful}
use Rattle.history_state.specs.Setting.{Machine}
use Rattle.history_state.specs.Lemmas.Brought.{LoadLaws}
use Rattle.history_state.specs.Lemmas.History.{after_push, lawful_push, legal_is_lawful}
use Rattle.history_state.specs.Lemmas.Lazy.{PageLaws}
use Rattle.history_state.specs.Lemmas.LoadWords.{load_word}
use Rattle.history_state.specs.Lemmas.Map.{Mapped, mapped_after}
use Rattle.history_state.specs.Lemmas.Steps.{good_after}
use Rattle.history_state.specs.Lemmas.Tidy.{tidy_after}
use Rattle.history_memory.specs.Lemmas.Images.{images_back}
use Rattle.kept_words.specs.Staying.{number_in}
use Rattle.kept_words.proofs.RemadeKept.{grants_same, pending_stays, remade_kept, seen_then, stands_granted, unmapping_settles}
use Rattle.kept_words.proofs.Settling.{StateLaws}
use Rattle.kept_words.proofs.law.remade_is_kept.Goals as goal

pub returns : goal.returns
returns c = record {
  pending = λ w past e k number m g accepts lawful may is low pending of.
      pending_stays pages w past (after past) (mapped_after loads c.reads_candidates.ensures.candidates w.machine accepts past lawful) e may
      (c.memory_changes.ensures w.machine w past e refl accepts lawful may) k number is m low g pending of;
  kept = λ w begun k l h e entry accepts kept own_low own remakes may view entry_is.
      let lawful = legal_is_lawful w k.events kept.legal in
      remade_kept w begun k l kept h own_low e own remakes may view (c.memory_changes.ensures w.machine w k.events e refl accepts lawful may)
      (λ m g low pending.
      pending_stays pages w k.events (after k.events) (mapped_after loads c.reads_candidates.ensures.candidates w.machine accepts k.events lawful) e may
      (c.memory_changes.ensures w.machine w k.events e refl accepts lawful may) k (number_in k.events) kept.words m low g pending (kept.rows.pending m g low pending))
      (c.remade_stays.ensures w.machine w k.events e k l (number_in k.events) _ refl accepts lawful may (grants_same (after k.events) e remakes) kept.words view.remade
      (λ m g low stands. kept.rows.counted m g low (stands_granted (row_of k m) g stands)))
      (seen_then pages w k.events (after k.events) (mapped_after loads c.reads_candidates.ensures.candidates w.machine accepts k.events lawful) e
      (subst Mapped (after_push k.events e) (mapped_after loads c.reads_candidates.ensures.candidates w.machine accepts (k.events ++ e ∷ []) (lawful_push w.machine w k.events e refl lawful may)))
      may (c.memory_changes.ensures w.machine w k.events e refl accepts lawful may) (good_after loads w.machine k.events lawful)
      (images_back loads w k.events (after k.events) (good_after loads w.machine k.events lawful) e may) k l (number_in k.events) kept.words _ view.remade (grants_same (after k.events) e remakes) kept.seen)
      (λ hart set is.
      unmapping_settles w k.events (after k.events) (laws w.machine accepts k.events lawful) k (number_in k.events) hart set kept.words kept.seen
      (subst (Allowed w k.events) is may) (subst (λ (d : Event). (r : Range) → Contains (taken (after k.events) d) r → AreDecided k) is view.decided))
      entry entry_is;
}
  where
    loads : LoadLaws
    loads = record { serials = c.serials_follow.ensures; leads = c.found_stands.ensures.names; founds = c.found_stands.ensures.founds }

    laws : (m : Machine) → AcceptsOnly m → (journal : List Event) → Lawful m journal → StateLaws (after journal)
    laws m accepts journal lawful = record {
      mapped = mapped_after loads c.reads_candidates.ensures.candidates m accepts journal lawful;
      begins = c.slots_begin.ensures m journal accepts lawful;
      images = c.images_are_mapped.ensures m journal lawful;
      lazy = c.none_is_lazy.ensures m journal accepts lawful;
      tidy = tidy_after m journal lawful;
      fits = λ owner slot. load_word m journal lawful owner slot;
    }

    pages : PageLaws
    pages = record {
      low = c.pages_hold_segments.ensures.low;
      high = c.pages_hold_segments.ensures.high;
      from = c.pages_hold_segments.ensures.from;
      to = c.pages_hold_segments.ensures.to;
      some = c.pages_hold_segments.ensures.some;
      few = c.pages_hold_segments.ensures.few;
      one = c.pages_hold_segments.ensures.one;
    }
