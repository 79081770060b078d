-- Whether an address is executable.
use Rattle.std.proofs.Common.{◌≡◌, ℕ, ◌<◌, Bool, true, false, List, Option, Some, None, refl, sym, ap, ◌∙◌}
use Rattle.std.specs.Prelude.{◌^◌, if◌then◌else◌}
use Rattle.std.proofs.lemmas.Bool.{true≢false}
use Rattle.ld_base.specs.declared.linking.Loaded.{Loaded}
use Rattle.ld_base.specs.declared.linking.Role.TheVariants.{None as NoRole, Rx, Rw}
use Rattle.ld_base.specs.declared.object.Object.{Object}
use Rattle.history_event.specs.declared.event.Event.{Event}
use Rattle.history_event.specs.declared.event.Range.{Range}
use Rattle.scope_rule.specs.declared.namespace.Namespace.{Namespace}
use Rattle.seg_image.specs.Pages.{own_address}
use Rattle.seg_image.specs.Roles.{role_of}
use Rattle.history_state.specs.Accepted.{AcceptsOnly}
use Rattle.history_state.specs.Addresses.{is_linkers_page, is_rx}
use Rattle.history_state.specs.After.{after}
use Rattle.history_state.specs.Laws.{IsIn}
use Rattle.history_state.specs.Legal.{Lawful}
use Rattle.history_state.specs.Memory.{data_at, holds, image_at, is_in, role_at}
use Rattle.history_state.specs.Setting.{Machine}
use Rattle.history_state.specs.State.{Linked}
use Rattle.history_state.specs.Lemmas.Accepting.{ReadLaw}
use Rattle.history_state.specs.Lemmas.Brought.{LoadLaws}
use Rattle.history_state.specs.Lemmas.Holders.{holders}
use Rattle.history_state.specs.Lemmas.Imaged.{images_mapped}
use Rattle.history_state.specs.Lemmas.Lazy.{PageLaws}
use Rattle.history_state.specs.Lemmas.Lists.{found_in}
use Rattle.history_state.specs.Lemmas.Map.{mapped_after, one_image, role_in_image}
use Rattle.history_calls.specs.Startup.{is_executable}

role_by : ℕ → Object → ℕ → Bool
role_by a object base = is_rx (role_of object (own_address base a))

pub held : PageLaws → LoadLaws → ReadLaw → (m : Machine) (events : List Event) → AcceptsOnly m → Lawful m events → (ns : Namespace) (o : Loaded) (a : ℕ) → a < 2 ^ 64 → IsIn (after events) ns o
    → holds o a ≡ true → is_executable (after events) a ≡ is_rx (role_of o.object (own_address o.base a))
unfolding role_by
held pages loads read m events only lawful ns o a word inside e =
    let at = (holders pages loads read m only events lawful).image ns o a word inside e in
    let found = found_in (λ (i : Linked). is_in i a) (after events).images at.0 at.1 in
    let its = (images_mapped m events lawful).mapped ns o inside in
    let one : its.image ≡ at.0 = one_image loads m events lawful its.image at.0 its.there found.0 (its.serial ∙ sym at.2) in
    ap is_rx (role_in_image pages (after events) (mapped_after loads read m only events lawful) at.0 found.0 a word found.1)
    ∙ ap (λ (i : Linked). role_by a i.object i.base) (sym one) ∙ ap (λ (object : Object). role_by a object its.image.base) its.object ∙ ap (role_by a o.object) its.base

rx_by : (linkers : Bool) (area : Option Range) → is_rx (if linkers then Rx else elim area [ Some r ↦ Rw | None ↦ NoRole ]) ≡ linkers
rx_by true area = refl
rx_by false (Some r) = refl
rx_by false None = refl

pub elsewhere : PageLaws → LoadLaws → ReadLaw → (m : Machine) (events : List Event) → AcceptsOnly m → Lawful m events → (a : ℕ)
    → ((ns : Namespace) (o : Loaded) → IsIn (after events) ns o → holds o a ≡ false) → is_executable (after events) a ≡ is_linkers_page a
unfolding role_at
elsewhere pages loads read m events only lawful a none = by (image_at (after events) a) refl
  where
    by : (found : Option Linked) → image_at (after events) a ≡ found
        → is_rx (if is_linkers_page a then Rx else elim found [ Some i ↦ role_of i.object (own_address i.base a) | None ↦ elim (data_at (after events) a) [ Some r ↦ Rw | None ↦ NoRole ] ]) ≡ is_linkers_page a
    by None e = rx_by (is_linkers_page a) (data_at (after events) a)
    by (Some i) e =
        let at = (holders pages loads read m only events lawful).object i a e in
        absurd (true≢false (sym at.4 ∙ none at.0 at.1 at.2))
