-- What dlerror tells.
use Rattle.std.proofs.Common.{◌≡◌, ℕ, List, [], ◌∷◌, Option, sym, ap, ◌∙◌}
use Rattle.std.specs.Option.{option_map}
use Rattle.ld_base.specs.declared.fault.DlFault.{DlFault}
use Rattle.history_event.specs.declared.event.Event.TheVariants.{Told}
use Rattle.history_state.specs.After.{after}
use Rattle.history_state.specs.Allowed.{kept_for}
use Rattle.history_calls.specs.Answer.{told}
use Rattle.history_calls.specs.Call.{asks_fault}
use Rattle.history_calls.specs.Gives.{by_event, is_told}
use Rattle.history_calls.specs.Served.{answer_text}
use Rattle.link_state.specs.Table.{LinkTable, appended}
use Rattle.link_calls.specs.Coming.{TellsIn}

pub tells_so : (old new : LinkTable) (hart : ℕ) (text : Option (List ℕ)) (fault : Option DlFault) → fault ≡ kept_for (after old.events) hart
    → text ≡ option_map answer_text (kept_for (after old.events) hart) → new ≡ appended old (Told hart fault) → TellsIn old hart text new
tells_so old new hart text fault kept text_is is = record {
  given = Told hart fault ∷ [];
  are = ap (λ (t : LinkTable). t.events) is;
  told = λ w on. record {
    fault = fault;
    gives = by_event asks_fault (Told hart fault) (told fault) (is_told fault) kept;
    is = text_is ∙ ap (option_map answer_text) (sym kept);
  };
}
