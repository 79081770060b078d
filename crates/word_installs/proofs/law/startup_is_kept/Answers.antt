use Rattle.std.proofs.Common.{ℕ, List, length, [], refl}
use Rattle.history_event.specs.declared.event.Event.{Event}
use Rattle.word_rule.specs.declared.entry.Grant.{Grant}
use Rattle.word_rule.specs.declared.view.KeeperView.{KeeperView}
use Rattle.history_calls.specs.declared.link_served.installs.Installs.{Installs}
use Rattle.history_state.specs.After.{after}
use Rattle.history_state.specs.Setting.{Setting}
use Rattle.history_state.specs.Step.{step}
use Rattle.kept_words.specs.Remade.{IsRemade}
use Rattle.kept_words.specs.Staying.{number_in}
use Rattle.word_installs.specs.Installed.{IsInstalled}
use Rattle.word_installs.specs.Remaking.{ComesNext}
use Rattle.word_installs.specs.Starting.{IsFresh, IsStartup}
use Rattle.word_installs.proofs.Starting.{behind, first_installs, fresh_is, lawful_none, may, none_stands, none_taken, remakes_grants, startup_kept}
use Rattle.word_installs.proofs.law.startup_is_kept.Goals as goal

comes : (w : Setting) (begun : List Event) (installs : Installs) (k : KeeperView) (start : IsStartup w begun installs) → IsFresh w begun k → (number : ℕ → Grant → ℕ) → ComesNext w [] start.first k number
comes w begun installs k start fresh number = record {
  accepts = start.accepts;
  lawful = lawful_none w.machine;
  may = may w begun installs start;
  words = fresh_is k fresh.words fresh.rows number;
}

pub returns : goal.returns
returns c = record {
  may = λ w begun installs k start fresh.
      c.installs_remake.ensures.may w [] start.first k (number_in k.events) installs (comes w begun installs k start fresh (number_in k.events)) (first_installs w begun installs start);
  kept = λ w begun installs k l start fresh long installed generation.
      startup_kept w begun installs start k l fresh long installed generation (remade w begun installs k l start fresh installed)
      (c.states_stay.ensures.stay (step (after []) start.first) (after begun) l l (number_in l.events) (number_in l.events)
      (record {
        role = λ a word. (behind w begun installs start).role a;
        word = λ a word roles. (behind w begun installs start).word a;
        images = (behind w begun installs start).images;
        grants = (behind w begun installs start).grants;
      })
      (record { words = λ d. refl; pending = λ m. refl; settled = λ m. refl }) (λ m g low stands. refl)
      (c.remade_stays.ensures w.machine w [] start.first k l (number_in l.events) (length k.events) refl start.accepts (lawful_none w.machine) (may w begun installs start)
      (remakes_grants (after []) start.first start.brings) (fresh_is k fresh.words fresh.rows (number_in l.events)) (remade w begun installs k l start fresh installed)
      (λ h g low stands. absurd (none_stands k fresh.rows h g stands))));
}
  where
    remade : (w : Setting) (begun : List Event) (installs : Installs) (k l : KeeperView) (start : IsStartup w begun installs) → IsFresh w begun k → IsInstalled installs k l
        → IsRemade (after []) start.first (length k.events) k l
    remade w begun installs k l start fresh installed =
        c.installs_remake.ensures.remade w [] start.first k l (number_in k.events) installs (comes w begun installs k start fresh (number_in k.events)) (first_installs w begun installs start)
        (none_taken start.first) installed
