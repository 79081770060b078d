-- What callers of the linker rely on: nothing is startup's again, images are found by their serials, and fewer destructors are some of more.
use Rattle.std.proofs.Common.{◌≡◌, inr, ℕ, Bool, true, false, not, map, List, [], ◌∷◌, ◌++◌, reverse, Option, Some, None, refl, sym, ap, ◌∙◌}
use Rattle.std.specs.Prelude.{◌==◌}
use Rattle.std.specs.List.{Contains, filter}
use Rattle.std.proofs.lemmas.Bool.{eq-eqb, eqb-true, true≢false}
use Rattle.std.proofs.lemmas.List.Elements.{Contains-append_left}
use Rattle.ld_base.specs.declared.linking.Loaded.{Loaded}
use Rattle.history_event.specs.declared.event.CloseAnswer.TheVariants as closes
use Rattle.history_event.specs.declared.event.Event.{Event}
use Rattle.history_event.specs.declared.event.Event.TheVariants as events
use Rattle.history_event.specs.declared.event.OpenAnswer.TheVariants as opens
use Rattle.history_event.specs.declared.event.SymAnswer.TheVariants as syms
use Rattle.history_event.specs.declared.state.Loading.{Loading}
use Rattle.scope_rule.specs.declared.namespace.Namespace.{Namespace}
use Rattle.history_state.specs.State.{State, Linked, empty_state}
use Rattle.history_state.specs.After.{after, after_from}
use Rattle.history_graph.specs.Initialised.{is_one_of}
use Rattle.history_state.specs.Allowed.{Allowed, IsFirst}
use Rattle.history_state.specs.Laws.{FindsImage, HasAll, IsImageOf}
use Rattle.history_state.specs.Legal.{Lawful}
use Rattle.history_state.specs.Links.{finis_of, unfinished}
use Rattle.history_state.specs.Memory.{image_of}
use Rattle.history_state.specs.Objects.{IsMapped, has, is_none_loaded, is_startup, mapped, serial_of}
use Rattle.history_state.specs.Setting.{Machine, Setting, have_exited}
use Rattle.history_state.specs.Step.{die, initialise, loaded, lower, step, unmap}
use Rattle.history_state.specs.Lemmas.Brought.{LoadLaws}
use Rattle.history_state.specs.Lemmas.Imaged.{images_mapped}
use Rattle.history_state.specs.Lemmas.Finalised.{from_reverse}
use Rattle.history_state.specs.Lemmas.Lists.{at_in, from_filter, found_in, from_flat, has_in, in_has, not_found}
use Rattle.history_state.specs.Lemmas.Map.{one_image}

-- ---- startup is past

still_loaded : (loadings more : List Loading) → is_none_loaded loadings ≡ false → is_none_loaded (loadings ++ more) ≡ false
still_loaded [] more later = absurd (true≢false later)
still_loaded (l ∷ rest) more later = refl

past_step : (s : State) (e : Event) → is_startup s ≡ false → is_startup (step s e) ≡ false
unfolding die initialise loaded lower unmap
past_step s (events.Open hart ask (opens.Done id root added ranges)) later = still_loaded s.loadings _ later
past_step s (events.Open hart ask opens.Absent) later = later
past_step s (events.Open hart ask (opens.Refused fault)) later = later
past_step s (events.Close hart handle (closes.Done set)) later = later
past_step s (events.Close hart handle (closes.Refused fault)) later = later
past_step s (events.Unmapped hart set) later = later
past_step s (events.Grant number hart owner slot choice value) later = later
past_step s (events.Bound number) later = later
past_step s (events.Lost number saw) later = later
past_step s (events.Unresolved hart owner slot choice) later = later
past_step s (events.Sym hart ask (syms.Found serial index value)) later = later
past_step s (events.Sym hart ask (syms.Refused fault)) later = later
past_step s (events.Tls hart owner address) later = later
past_step s (events.Init hart object) later = later
past_step s (events.Fini hart object) later = later
past_step s (events.Wrote hart bytes) later = later
past_step s (events.Told hart fault) later = later
past_step s (events.Ended hart reason) later = later

past_from : (s : State) (events more : List Event) → is_startup (after_from s events) ≡ false → is_startup (after_from s (events ++ more)) ≡ false
unfolding after_from
past_from s [] [] later = later
past_from s [] (e ∷ more) later = past_from (step s e) [] more (past_step s e later)
past_from s (e ∷ events) more later = past_from (step s e) events more later

pub startup_is_past : (events more : List Event) → is_startup (after events) ≡ false → is_startup (after (events ++ more)) ≡ false
startup_is_past events more later = past_from empty_state events more later

-- ---- what was initialised stays so

inits_step : (s : State) (e : Event) (o : ℕ) → Contains s.inits o → Contains (step s e).inits o
unfolding die initialise loaded lower unmap
inits_step s (events.Open hart ask (opens.Done id root added ranges)) o was = was
inits_step s (events.Open hart ask opens.Absent) o was = was
inits_step s (events.Open hart ask (opens.Refused fault)) o was = was
inits_step s (events.Close hart handle (closes.Done set)) o was = was
inits_step s (events.Close hart handle (closes.Refused fault)) o was = was
inits_step s (events.Unmapped hart set) o was = was
inits_step s (events.Grant number hart owner slot choice value) o was = was
inits_step s (events.Bound number) o was = was
inits_step s (events.Lost number saw) o was = was
inits_step s (events.Unresolved hart owner slot choice) o was = was
inits_step s (events.Sym hart ask (syms.Found serial index value)) o was = was
inits_step s (events.Sym hart ask (syms.Refused fault)) o was = was
inits_step s (events.Tls hart owner address) o was = was
inits_step s (events.Init hart object) o was = Contains-append_left s.inits (object ∷ []) o was
inits_step s (events.Fini hart object) o was = was
inits_step s (events.Wrote hart bytes) o was = was
inits_step s (events.Told hart fault) o was = was
inits_step s (events.Ended hart reason) o was = was

inits_from : (s : State) (events more : List Event) (o : ℕ) → Contains (after_from s events).inits o → Contains (after_from s (events ++ more)).inits o
unfolding after_from
inits_from s [] [] o was = was
inits_from s [] (e ∷ more) o was = inits_from (step s e) [] more o (inits_step s e o was)
inits_from s (e ∷ events) more o was = inits_from (step s e) events more o was

-- what was next of all mapped objects, after every hart had ended by exit, may be finalised at the end
pub finals_follow : (w : Setting) (before since : List Event) (o : ℕ) → have_exited w (after before) ≡ true → IsFirst (finis_of (after before) (map serial_of (mapped (after before)))) o
    → IsMapped (after (before ++ since)) o → has (after (before ++ since)).finis o ≡ false → Allowed w (before ++ since) (events.Fini 0 o)
finals_follow w before since o over first mapped_still unfinished_still =
    let listed = from_filter (is_one_of (map serial_of (mapped (after before)))) (reverse (unfinished (after before))) o (at_in (finis_of (after before) (map serial_of (mapped (after before)))) 0 o first) in
    let was = from_filter (λ (d : ℕ). not (has (after before).finis d)) (after before).inits o (from_reverse (unfinished (after before)) o listed.0) in
    inr (record {
      first_hart = refl;
      mapped = mapped_still;
      initialised = in_has (after (before ++ since)).inits o (inits_from empty_state before since o was.0);
      unfinished = unfinished_still;
      was = record { before = before; since = since; are = refl; over = over; next = first };
    })

-- ---- images are found

pub images_found : LoadLaws → (m : Machine) (journal : List Event) → Lawful m journal → (o : Loaded) → Contains (mapped (after journal)) o → FindsImage (after journal) o
images_found laws m journal lawful o inside = by (image_of (after journal) o.serial) refl
  where
    i : IsImageOf (after journal).images o
    i = let there = from_flat (λ (ns : Namespace). ns.objects) (after journal).namespaces o inside in (images_mapped m journal lawful).mapped there.0 o (record { there = there.1; inside = there.2 })

    by : (found : Option Linked) → image_of (after journal) o.serial ≡ found → FindsImage (after journal) o
    by None e = absurd (true≢false (sym (eq-eqb i.image.serial o.serial i.serial) ∙ not_found (λ (k : Linked). k.serial == o.serial) (after journal).images i.image e i.there))
    by (Some k) e =
        let at = found_in (λ (j : Linked). j.serial == o.serial) (after journal).images k e in
        let same : k ≡ i.image = one_image laws m journal lawful k i.image at.0 i.there (eqb-true k.serial o.serial at.1 ∙ sym i.serial) in
        record { image = k; found = e; object = ap (λ (j : Linked). j.object) same ∙ i.object; base = ap (λ (j : Linked). j.base) same ∙ i.base }

-- ---- fewer destructors

chosen_twice : (p q : ℕ → Bool) → ((x : ℕ) → p x ≡ true → q x ≡ true) → (xs : List ℕ) → filter p xs ≡ filter p (filter q xs)
chosen_twice p q also [] = refl
chosen_twice p q also (x ∷ xs) = by (p x) (q x) refl refl (chosen_twice p q also xs)
  where
    by : (a b : Bool) → p x ≡ a → q x ≡ b → filter p xs ≡ filter p (filter q xs) → filter p (x ∷ xs) ≡ filter p (filter q (x ∷ xs))
    by true true e f rest = rw (f, e) (ap (λ (ys : List ℕ). x ∷ ys) rest)
    by true false e f rest = absurd (true≢false (sym (also x e) ∙ f))
    by false true e f rest = rw (f, e) rest
    by false false e f rest = rw (f, e) rest

pub fewer_finalised : (s : State) (all set : List ℕ) → HasAll all set → finis_of s set ≡ filter (has set) (finis_of s all)
fewer_finalised s all set each = chosen_twice (has set) (has all) (λ x e. in_has all x (each x (has_in set x e))) (reverse (unfinished s))
