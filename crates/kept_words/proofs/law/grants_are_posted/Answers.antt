use Rattle.std.proofs.Common.{◌∷◌, [], ◌++◌, List, refl, subst}
use Rattle.history_event.specs.declared.event.Event.{Event}
use Rattle.word_rule.specs.declared.view.KeeperView.{KeeperView}
use Rattle.history_state.specs.After.{after}
use Rattle.history_state.specs.Legal.{Lawful}
use Rattle.history_state.specs.Setting.{Setting}
use Rattle.history_state.specs.Step.{step}
use Rattle.history_state.specs.Lemmas.Brought.{LoadLaws}
use Rattle.history_state.specs.Lemmas.History.{after_push, lawful_push, legal_is_lawful}
use Rattle.history_state.specs.Lemmas.LoadWords.{grant_word}
use Rattle.history_state.specs.Lemmas.Map.{mapped_after}
use Rattle.hart_moves.specs.Harts.{Offered}
use Rattle.kept_words.specs.Posting.{IsNew, NewGrant, event_of}
use Rattle.kept_words.proofs.PostedKept.{posted_kept}
use Rattle.kept_words.proofs.Posting.{Granted, Places, entry, grant_in, may_post, posts, slot_of}
use Rattle.kept_words.proofs.law.grants_are_posted.Goals as goal

pub returns : goal.returns
returns c = record {
  may = λ w begun k g o since is waits before. may_post w begun k g o is (places w begun k g o is) (granted w begun k g o is) since waits before;
  kept = λ w begun k g o is.
      posted_kept w begun k g (grant_in w begun k g o is (places w begun k g o is) (granted w begun k g o is)) is.kept is.hart is.may
      (posts w begun k g o is (places w begun k g o is) (granted w begun k g o is))
      (slot_of w begun k g o is (places w begun k g o is) (granted w begun k g o is))
      (entry w begun k g o is (places w begun k g o is) (granted w begun k g o is));
}
  where
    loads : LoadLaws
    loads = record { serials = c.serials_follow.ensures; leads = c.found_stands.ensures.names; founds = c.found_stands.ensures.founds }

    places : (w : Setting) (begun : List Event) (k : KeeperView) (g : NewGrant) (o : Offered) → IsNew w begun k g o → Places (after k.events)
    places w begun k g o is =
        let lawful = legal_is_lawful w k.events is.kept.legal in
        record {
          mapped = mapped_after loads c.reads_candidates.ensures.candidates w.machine is.accepts k.events lawful;
          begins = c.slots_begin.ensures w.machine k.events is.accepts lawful;
          images = c.images_are_mapped.ensures w.machine k.events lawful;
          there = λ i slot r. c.slots_stand.ensures.there w.machine k.events i slot r is.accepts lawful;
          whole = λ i slot r. c.slots_stand.ensures.whole w.machine k.events i slot r is.accepts lawful;
        }

    granted : (w : Setting) (begun : List Event) (k : KeeperView) (g : NewGrant) (o : Offered) → IsNew w begun k g o → Granted (step (after k.events) (event_of g))
    granted w begun k g o is =
        let lawful : Lawful w.machine (k.events ++ event_of g ∷ []) = lawful_push w.machine w k.events (event_of g) refl (legal_is_lawful w k.events is.kept.legal) is.may in
        subst Granted (after_push k.events (event_of g)) (record {
          lazy = c.none_is_lazy.ensures w.machine (k.events ++ event_of g ∷ []) is.accepts lawful;
          leads = c.slots_lead_to_rx.ensures w.machine (k.events ++ event_of g ∷ []) is.accepts lawful;
          code = λ a. c.code_is_whole.ensures w.machine (k.events ++ event_of g ∷ []) a is.accepts lawful;
          small = grant_word loads w.machine (k.events ++ event_of g ∷ []) lawful;
        })
