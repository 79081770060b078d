-- Events of harts of the machine.
use Rattle.std.proofs.Common.{◌≡◌, ⊎_elim, ℕ, ◌+◌, ◌<◌, List, [], ◌∷◌, ◌++◌, length, Some, refl, sym, ap, subst, ◌∙◌, append-nil, arith}
use Rattle.std.specs.List.{Contains}
use Rattle.std.proofs.lemmas.List.Elements.{Contains-append_cases}
use Rattle.history_event.specs.declared.event.Event.{Event}
use Rattle.history_event.specs.declared.state.Ending.{Ending}
use Rattle.history_state.specs.After.{after, after_from}
use Rattle.history_state.specs.Lemmas.History.{after_push, one_behind}
use Rattle.history_state.specs.Lemmas.Lists.{first_or_later, here, later, none_in, only_in}
use Rattle.history_state.specs.Setting.{Setting}
use Rattle.history_state.specs.State.{State}
use Rattle.history_state.specs.Step.{step}
use Rattle.history_calls.specs.Laws.{hart_of}
use Rattle.history_calls.specs.Startup.{FindHarts, found_at, opening}
use Rattle.hart_trails.specs.Owners.{AreOfHarts}
use Rattle.hart_fits.specs.Lemmas.Ending.{Ends, ends}
use Rattle.hart_fits.specs.Over.{EndsWithin}
use Rattle.hart_fits.specs.Owners.{OwnersEnd, StartHasOwners}

-- ---- ends

one_ends : (w : Setting) (past : List Event) (e : Event) → ((m : ℕ) → hart_of e ≡ Some m → m < w.machine.harts) → EndsWithin w past → EndsWithin w (past ++ e ∷ [])
one_ends w past e of within = by (ends (after past) e)
  where
    by : Ends (after past) e → EndsWithin w (past ++ e ∷ [])
    by (Ends.none same) x there = within x (subst (λ (es : List Ending). Contains es x) (ap (λ (s : State). s.endings) (after_push past e) ∙ same) there)
    by (Ends.one h reason is) x there = ⊎_elim
        (λ (old : Contains (after past).endings x). within x old)
        (λ (new : Contains (record { hart = h; «end» = reason } ∷ []) x).
        subst (λ (y : Ending). y.hart < w.machine.harts) (only_in (record { hart = h; «end» = reason }) x new) (of h (ap hart_of is)))
        (Contains-append_cases (after past).endings (record { hart = h; «end» = reason } ∷ []) x
        (subst (λ (es : List Ending). Contains es x) (ap (λ (s : State). s.endings) (after_push past e) ∙ ap (λ (d : Event). (step (after past) d).endings) is) there))

all_end : (w : Setting) (past more : List Event) → AreOfHarts w more → EndsWithin w past → EndsWithin w (past ++ more)
all_end w past [] of within = subst (EndsWithin w) (sym (append-nil past)) within
all_end w past (e ∷ rest) of within = subst (EndsWithin w) (one_behind past e rest)
    (all_end w (past ++ e ∷ []) rest (λ d m there. of d m (later e rest d there)) (one_ends w past e (λ m. of e m (here e rest)) within))

first_endings : (after []).endings ≡ []
unfolding after_from
first_endings = refl

pub owners_end : OwnersEnd
owners_end w journal of = all_end w [] journal of (λ x there. absurd (none_in x (subst (λ (es : List Ending). Contains es x) first_endings there)))

-- ---- startup

found_of : (w : Setting) (past : List Event) (h : ℕ) (names : List (List ℕ)) (found : List Event) (addresses : List ℕ) → FindHarts w past h names found addresses
    → (e : Event) (m : ℕ) → Contains found e → hart_of e ≡ Some m → m < h + length names
found_of w past h names found addresses (FindHarts.no_more _ _) e m there is = absurd (none_in e there)
found_of w past h names found addresses (FindHarts.one_more _ _ name rest serial index value events more start finds) e m there is = ⊎_elim
    (λ (new : found_at h name serial index value ≡ e).
    let same : Some h ≡ Some m = ap hart_of new ∙ is in
    let hart : h ≡ m = cc in
    omega (arith, hart))
    (λ (old : Contains events e). let low : m < h + 1 + length rest = found_of w (past ++ found_at h name serial index value ∷ []) (h + 1) rest events more finds e m old is in omega (arith, low))
    (first_or_later (found_at h name serial index value) events e there)

pub start_has_owners : StartHasOwners
start_has_owners w setup past started start e m there is = ⊎_elim
    (λ (new : opening setup start.root start.added start.ranges ≡ e).
    let same : Some 0 ≡ Some m = ap hart_of new ∙ is in
    let hart : 0 ≡ m = cc in
    omega (arith, hart, harts))
    (λ (old : Contains start.found e). let low : m < 1 + length setup.harts = found_of w _ 1 setup.harts start.found start.addresses start.finds e m old is in omega (arith, low, harts))
    (first_or_later (opening setup start.root start.added start.ranges) start.found e (subst (λ (es : List Event). Contains es e) start.are there))
  where
    harts : w.machine.harts ≡ length setup.harts + 1
    harts = ap (λ (v : Setting). v.machine.harts) start.set_up
