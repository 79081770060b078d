-- What is lent of the state is lent for new objects, once startup is over.
use Rattle.std.proofs.Common.{ℕ, ◌||◌, Bool, List, Option, None, sym, ap, ◌∙◌}
use Rattle.std.specs.Prelude.{if◌then◌else◌}
use Rattle.ld_base.specs.declared.linking.File.{File}
use Rattle.history_event.specs.declared.event.Event.{Event}
use Rattle.history_event.specs.declared.event.OpenAsk.{OpenAsk}
use Rattle.history_state.specs.After.{after}
use Rattle.history_state.specs.Flags.{is_now}
use Rattle.history_state.specs.Setting.{Setting}
use Rattle.link_open_plan.specs.Before.{IsBefore, IsLent}
use Rattle.link_open_plan.specs.declared.before.Before.{Before}

pub lent : (w : Setting) (past : List Event) (ask : OpenAsk) (name : List ℕ) (id : ℕ) (b : Before) (folders : List (List ℕ)) (files : Option (List File))
    → IsBefore w past ask name id b folders files → IsLent w past ask name id None b
lent w past ask name id b folders files is = record {
  lawful = is.lawful;
  named = is.made.named;
  startup = is.made.started;
  count = λ n e. absurd cc;
  namespace = is.made.namespace;
  free = is.free;
  modules = is.modules;
  statics = is.statics;
  binds_are =
      ap (λ (n : Bool). n || is_now ask.flags) is.binds
      ∙ sym (ap (λ (first : Bool). (if first then is_now ask.flags else (after past).now) || is_now ask.flags) is.made.started);
}
