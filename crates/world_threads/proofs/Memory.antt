-- Memory with what startup brings.
use Rattle.std.proofs.Common.{◌≡◌, ℕ, List, [], refl, sym, ap, subst, ◌∙◌}
use Rattle.history_event.specs.declared.event.Event.{Event}
use Rattle.history_calls.specs.declared.link_served.installs.Installs.{Installs}
use Rattle.history_state.specs.After.{after}
use Rattle.history_state.specs.Setting.{Setting}
use Rattle.word_installs.specs.Installed.{IsInstalled}
use Rattle.word_installs.specs.Starting.{IsFresh, IsStartup, StartupKept}
use Rattle.word_memory.specs.WordSeats.Making.{IsMade}
use Rattle.word_rule.specs.declared.view.KeeperView.{KeeperView}
use Rattle.word_rule.specs.Views.{IsLong, row_of}
use Rattle.world_threads.specs.Setting.{IsSetUp}

-- a new memory whose events are counted
pub fresh_at : (w : Setting) (begun : List Event) (harts : ℕ) (k l : KeeperView) → IsMade k 512 harts → w.machine.harts ≡ harts → l ≡ record k { events = begun } → IsFresh w begun l
fresh_at w begun harts k l made count is = subst (IsFresh w begun) (sym is) (record {
  words = made.words;
  rows = made.rows;
  harts = made.harts_are ∙ sym count;
  events = refl;
  none_retired = made.none_retired;
})

-- and once its objects are installed
pub is_set_up : StartupKept → (w : Setting) (begun : List Event) (installs : Installs) (k l : KeeperView) → IsStartup w begun installs → IsFresh w begun k → k.joined ≡ []
    → k.opens ≡ [] → IsLong l
    → IsInstalled installs k l → l.generation ≡ (after begun).generation → IsSetUp w begun l
is_set_up kept w begun installs k l start fresh none unasked long installed generation = record {
  kept = kept w begun installs k l start fresh long installed generation;
  events = ap (λ (v : KeeperView). v.events) installed.only ∙ fresh.events;
  rows = λ m. ap (λ (v : KeeperView). row_of v m) installed.only ∙ fresh.rows m;
  none_joined = ap (λ (v : KeeperView). v.joined) installed.only ∙ none;
  none_open = ap (λ (v : KeeperView). v.opens) installed.only ∙ unasked;
}
