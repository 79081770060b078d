-- What is refused for what it asks.
use Rattle.std.proofs.Common.{◌≡◌, ℕ, ◌≤◌, Bool, true, false, not, ◌&&◌, List, length, Option, Some, None, refl, sym, ap, ◌∙◌, arith}
use Rattle.std.proofs.lemmas.Bool.{leb-true, true≢false}
use Rattle.ld_base.specs.declared.fault.DlFault.{DlFault}
use Rattle.ld_base.specs.declared.fault.DlFault.TheVariants as faults
use Rattle.history_event.specs.declared.event.OpenAsk.{OpenAsk}
use Rattle.history_state.specs.Asking.{asks_too_long, is_too_long}
use Rattle.history_state.specs.Objects.{is_startup}
use Rattle.history_state.specs.Opening.{Refuses}
use Rattle.history_state.specs.Opening.Refuses.{name_too_long, bad_flags, bad_namespace, namespaces_full}
use Rattle.history_state.specs.Setting.{Setting}
use Rattle.history_state.specs.State.{State}
use Rattle.history_calls.specs.Laws.{RefusesAsk}
use Rattle.history_calls.specs.Laws.RefusesAsk.{long, flags, space, full}

second : (a b : Bool) → (a && b) ≡ true → b ≡ true
second true b e = e
second false b e = absurd (true≢false (sym e))

exactly : (n : ℕ) → 256 ≤ n → n ≤ 256 → n ≡ 256
exactly n low high = omega (arith, low, high)

too_long : (w : Setting) (s : State) (hart : ℕ) (ask : OpenAsk) (name : Option (List ℕ)) → ask.name ≡ name → asks_too_long s name ≡ true → ((n : List ℕ) → ask.name ≡ Some n → length n ≤ 256)
    → Refuses w s hart ask faults.NameTooLong
too_long w s hart ask None is e few = absurd (true≢false (sym e))
too_long w s hart ask (Some name) is e few =
    name_too_long name is
    (exactly (length name) (leb-true 256 (length name) (second (not (is_startup s)) (is_too_long name) e)) (few name is))
    (ap (asks_too_long s) is ∙ e)

pub refused_by_asking : (w : Setting) (s : State) (hart : ℕ) (ask : OpenAsk) (fault : DlFault) → RefusesAsk s ask fault → ((name : List ℕ) → ask.name ≡ Some name → length name ≤ 256)
    → Refuses w s hart ask fault
refused_by_asking w s hart ask fault (long is) few = too_long w s hart ask ask.name refl is few
refused_by_asking w s hart ask fault (flags short bad) few = bad_flags short bad
refused_by_asking w s hart ask fault (space number short good bad) few = bad_namespace number short good bad
refused_by_asking w s hart ask fault (full short good none) few = namespaces_full short good none
