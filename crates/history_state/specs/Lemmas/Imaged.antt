-- Each mapped object has its image, and each image is of a mapped object.
use Rattle.std.proofs.Common.{◌≡◌, ◌⊎◌, inl, inr, ⊎_elim, ℕ, Bool, true, false, not, List, [], ◌∷◌, ◌++◌, map, length, refl, sym, ap, subst, ◌∙◌, arith}
use Rattle.std.specs.Prelude.{if◌then◌else◌}
use Rattle.std.specs.List.{Contains, filter, list_any}
use Rattle.std.proofs.lemmas.Bool.{not-true, true≢false}
use Rattle.std.proofs.lemmas.List.{take_all}
use Rattle.std.proofs.lemmas.List.Elements.{Contains-append_cases, Contains-append_left, Contains-append_right, Contains-push_cases}
use Rattle.ld_base.specs.declared.linking.Loaded.{Loaded}
use Rattle.history_event.specs.declared.event.CloseAnswer.{CloseAnswer}
use Rattle.history_event.specs.declared.event.CloseAnswer.TheVariants as closes
use Rattle.history_event.specs.declared.event.Event.{Event}
use Rattle.history_event.specs.declared.event.Event.TheVariants as events
use Rattle.history_event.specs.declared.event.OpenAnswer.{OpenAnswer}
use Rattle.history_event.specs.declared.event.OpenAnswer.TheVariants as opens
use Rattle.history_event.specs.declared.event.OpenAsk.{OpenAsk}
use Rattle.history_event.specs.declared.event.SymAnswer.{SymAnswer}
use Rattle.history_event.specs.declared.event.SymAnswer.TheVariants as syms
use Rattle.history_event.specs.declared.event.SymAsk.{SymAsk}
use Rattle.scope_rule.specs.Opening.{opened}
use Rattle.scope_rule.specs.Seen.{Seen}
use Rattle.scope_rule.specs.declared.namespace.Namespace.{Namespace}
use Rattle.history_state.specs.State.{Linked, State, empty_namespace}
use Rattle.history_state.specs.After.{after}
use Rattle.history_state.specs.Bound.{linked_with, uncopied, with_copies}
use Rattle.history_state.specs.Flags.{is_global}
use Rattle.history_state.specs.Laws.{ImagesAreMapped, IsImageOf}
use Rattle.history_state.specs.Legal.{Lawful}
use Rattle.history_state.specs.Objects.{has, has_id, serial_of}
use Rattle.history_state.specs.Setting.{Machine}
use Rattle.history_state.specs.Step.{binds, changed_at, die, dying_in, dying_object, gone_in, initialise, is_left, loaded, lower, lowered_in, ready_in, ready_object, seen_after, step, unmap, with_namespace}
use Rattle.history_state.specs.Lemmas.History.{by_history}
use Rattle.history_state.specs.Lemmas.Lists.{any_in, from_filter, from_map, has_not, here, in_filter, in_map, none_in, only_in}
use Rattle.history_state.specs.Lemmas.Good.{Has, each_mapped}
use Rattle.history_state.specs.Lemmas.Changed.{Leaves, leaves_dying, leaves_ready}
use Rattle.history_state.specs.Lemmas.Closed.{each_left}
use Rattle.history_state.specs.Lemmas.Dangling.{Mapped, mapped_open, mapped_unmap}
use Rattle.history_state.specs.Lemmas.Startup.{changed_there}

pub record Laid (all : List Namespace) (images : List Linked) : Type 0 where
  pub mapped : (ns : Namespace) (o : Loaded) → Contains all ns → Contains ns.objects o → IsImageOf images o
  pub image : (m : Linked) → Contains images m → Mapped all m.serial

more_images : (images more : List Linked) (o : Loaded) → IsImageOf images o → IsImageOf (images ++ more) o
more_images images more o i = record { image = i.image; there = Contains-append_left images more i.image i.there; serial = i.serial; object = i.object; base = i.base }

-- ---- an opening

-- an object of a namespace after was there, or is new
pub objects_open : (id : ℕ) (added : List Loaded) (root : ℕ) (g : Bool) (all : List Namespace) (ns : Namespace) (o : Loaded)
    → Contains (with_namespace id (λ n. opened n added root g) all) ns → Contains ns.objects o → ((ms : Namespace) × Contains all ms × Contains ms.objects o) ⊎ Contains added o
objects_open id added root g all ns o there inside = by (list_any (has_id id) all) there
  where
    parts : (ms : Namespace) → Contains all ms → Contains (ms.objects ++ added) o → ((ls : Namespace) × Contains all ls × Contains ls.objects o) ⊎ Contains added o
    parts ms at h = ⊎_elim
        (λ (i : Contains ms.objects o). inl (ms, at, i))
        (λ (i : Contains added o). inr i)
        (Contains-append_cases ms.objects added o h)

    changed : (ms : Namespace) → Contains all ms → (t : Bool) → Contains (if t then opened ms added root g else ms).objects o → ((ls : Namespace) × Contains all ls × Contains ls.objects o) ⊎ Contains added o
    changed ms at true h = parts ms at h
    changed ms at false h = inl (ms, at, h)

    by : (t : Bool) → Contains (if t then map (changed_at id (λ n. opened n added root g)) all else all ++ opened (empty_namespace id) added root g ∷ []) ns
        → ((ls : Namespace) × Contains all ls × Contains ls.objects o) ⊎ Contains added o
    by true h =
        let at = from_map (changed_at id (λ n. opened n added root g)) all ns h in
        changed at.0 at.1 (has_id id at.0) (subst (λ (n : Namespace). Contains n.objects o) (sym at.2) inside)
    by false h = ⊎_elim
        (λ (i : Contains all ns). inl (ns, i, inside))
        (λ (e : opened (empty_namespace id) added root g ≡ ns). inr (subst (λ (n : Namespace). Contains n.objects o) (sym e) inside))
        (Contains-push_cases all (opened (empty_namespace id) added root g) ns h)

-- and each is there: one that was, and a new one
pub reached_open : (id : ℕ) (added : List Loaded) (root : ℕ) (g : Bool) (all : List Namespace)
    → ((ns : Namespace) (o : Loaded) → Contains all ns → Contains ns.objects o → (ms : Namespace) × Contains (with_namespace id (λ n. opened n added root g) all) ms × Contains ms.objects o)
    × ((o : Loaded) → Contains added o → (ms : Namespace) × Contains (with_namespace id (λ n. opened n added root g) all) ms × Contains ms.objects o)
reached_open id added root g all = by (list_any (has_id id) all) refl
  where
    kept : (ns : Namespace) (o : Loaded) → Contains ns.objects o → (t : Bool) → Contains (if t then opened ns added root g else ns).objects o
    kept ns o h true = Contains-append_left ns.objects added o h
    kept ns o h false = h

    changed : (ns : Namespace) (o : Loaded) → Contains added o → (t : Bool) → t ≡ true → Contains (if t then opened ns added root g else ns).objects o
    changed ns o h true e = Contains-append_right ns.objects added o h
    changed ns o h false e = absurd (true≢false (sym e))

    by : (t : Bool) → list_any (has_id id) all ≡ t
        → ((ns : Namespace) (o : Loaded) → Contains all ns → Contains ns.objects o
        → (ms : Namespace) × Contains (if t then map (changed_at id (λ n. opened n added root g)) all else all ++ opened (empty_namespace id) added root g ∷ []) ms × Contains ms.objects o)
        × ((o : Loaded) → Contains added o
        → (ms : Namespace) × Contains (if t then map (changed_at id (λ n. opened n added root g)) all else all ++ opened (empty_namespace id) added root g ∷ []) ms × Contains ms.objects o)
    by true e = (
      λ ns o there inside. (changed_at id (λ n. opened n added root g) ns, in_map (changed_at id (λ n. opened n added root g)) all ns there, kept ns o inside (has_id id ns)),
      λ o new. let at = any_in (has_id id) all e in
          (changed_at id (λ n. opened n added root g) at.0, in_map (changed_at id (λ n. opened n added root g)) all at.0 at.1, changed at.0 o new (has_id id at.0) at.2),
    )
    by false e = (
      λ ns o there inside. (ns, Contains-append_left all (opened (empty_namespace id) added root g ∷ []) ns there, inside),
      λ o new. (opened (empty_namespace id) added root g, Contains-append_right all (opened (empty_namespace id) added root g ∷ []) _ (here _ []), new),
    )

laid_open : (s : State) (ns : Seen) (now : Bool) (id root : ℕ) (g : Bool) (added : List Loaded) (all : List Namespace) (images : List Linked) → Laid all images
    → Laid (with_namespace id (λ n. opened n added root g) all) (images ++ linked_with images (map (uncopied s ns now) added))
unfolding linked_with
laid_open s ns now id root g added all images laid = record {
  mapped = λ ms o there inside. ⊎_elim
      (λ (old : (ls : Namespace) × Contains all ls × Contains ls.objects o). more_images images news o (laid.mapped old.0 o old.1 old.2))
      (λ (new : Contains added o). record {
        image = with_copies (images ++ map (uncopied s ns now) added) (uncopied s ns now o);
        there = Contains-append_right images news _ (in_map (with_copies (images ++ map (uncopied s ns now) added)) (map (uncopied s ns now) added) (uncopied s ns now o) (in_map (uncopied s ns now) added o new));
        serial = refl;
        object = refl;
        base = refl;
      })
      (objects_open id added root g all ms o there inside);
  image = λ m there. ⊎_elim
      (λ (old : Contains images m). mapped_open id added root g all m.serial (laid.image m old))
      (λ (new : Contains news m).
      let at = from_map (with_copies (images ++ map (uncopied s ns now) added)) (map (uncopied s ns now) added) m new in
      let by = from_map (uncopied s ns now) added at.0 at.1 in
      let serial : by.0.serial ≡ m.serial = ap (λ (q : Linked). q.serial) by.2 ∙ ap (λ (q : Linked). q.serial) at.2 in
      let home = changed_there id added root g all in
      (home.0, home.1, subst (Has home.0) serial (home.3 by.0 by.1)))
      (Contains-append_cases images news m there);
}
  where
    news : List Linked
    news = map (with_copies (images ++ map (uncopied s ns now) added)) (map (uncopied s ns now) added)

-- ---- changes in place

laid_map : (change : Namespace → Namespace) (each : Loaded → Loaded) → Leaves each → ((ns : Namespace) → (change ns).objects ≡ map each ns.objects)
    → (all : List Namespace) (images : List Linked) → Laid all images → Laid (map change all) images
laid_map change each leaves is all images laid = record {
  mapped = λ ms o there inside. each_mapped change all (λ n. Contains n.objects o → IsImageOf images o)
      (λ ns at h.
      let q = from_map each ns.objects o (subst (λ (os : List Loaded). Contains os o) (is ns) h) in
      let i = laid.mapped ns q.0 at q.1 in
      subst (IsImageOf images) (sym (leaves q.0).1 ∙ q.2) (record { image = i.image; there = i.there; serial = i.serial; object = i.object; base = i.base }))
      ms there inside;
  image = λ m there.
      let at = laid.image m there in (
        change at.0,
        in_map change all at.0 at.1,
        (each at.2.0, subst (λ (os : List Loaded). Contains os (each at.2.0)) (sym (is at.0)) (in_map each at.0.objects at.2.0 at.2.1), ap serial_of (leaves at.2.0).1 ∙ at.2.2),
      );
}

laid_lower : (handle : ℕ) (all : List Namespace) (images : List Linked) → Laid all images → Laid (map (lowered_in handle) all) images
laid_lower handle all images laid = record {
  mapped = λ ms o there inside. each_mapped (lowered_in handle) all (λ n. Contains n.objects o → IsImageOf images o) (λ ns at h. laid.mapped ns o at h) ms there inside;
  image = λ m there. let at = laid.image m there in (lowered_in handle at.0, in_map (lowered_in handle) all at.0 at.1, at.2);
}

laid_unmap : (set : List ℕ) (all : List Namespace) (images : List Linked) → Laid all images → Laid (filter is_left (map (gone_in set) all)) (filter (λ m. not (has set m.serial)) images)
laid_unmap set all images laid = record {
  mapped = λ ms o there inside. each_left set all (λ n. Contains n.objects o → IsImageOf (filter (λ (m : Linked). not (has set m.serial)) images) o)
      (λ ns at h.
      let was = from_filter (λ (q : Loaded). not (has set q.serial)) ns.objects o h in
      let i = laid.mapped ns o at was.0 in
      record { image = i.image; there = in_filter (λ (m : Linked). not (has set m.serial)) images i.image i.there (ap (λ (n : ℕ). not (has set n)) i.serial ∙ was.1); serial = i.serial; object = i.object; base = i.base })
      ms there inside;
  image = λ m there.
      let kept = from_filter (λ (q : Linked). not (has set q.serial)) images m there in
      mapped_unmap set all m.serial (laid.image m kept.0) (has_not set m.serial (not-true (has set m.serial) kept.1));
}

-- ---- each event

abbrev LaidIn : State → Type 0
LaidIn s = Laid s.namespaces s.images

open_laid : (s : State) (hart : ℕ) (ask : OpenAsk) (answer : OpenAnswer) → LaidIn s → LaidIn (step s (events.Open hart ask answer))
unfolding loaded
open_laid s hart ask (opens.Done id root added ranges) laid =
    laid_open (loaded s hart ask id root added ranges) (seen_after s ask id root added) (binds s ask) id root (is_global ask.flags) added s.namespaces s.images laid
open_laid s hart ask opens.Absent laid = laid
open_laid s hart ask (opens.Refused fault) laid = laid

close_laid : (s : State) (hart handle : ℕ) (answer : CloseAnswer) → LaidIn s → LaidIn (step s (events.Close hart handle answer))
unfolding die lower
close_laid s hart handle (closes.Done set) laid =
    laid_map (dying_in hart set) (dying_object hart set) (leaves_dying hart set) (λ ns. refl) (map (lowered_in handle) s.namespaces) s.images (laid_lower handle s.namespaces s.images laid)
close_laid s hart handle (closes.Refused fault) laid = laid

sym_laid : (s : State) (hart : ℕ) (ask : SymAsk) (answer : SymAnswer) → LaidIn s → LaidIn (step s (events.Sym hart ask answer))
sym_laid s hart ask (syms.Found serial index value) laid = laid
sym_laid s hart ask (syms.Refused fault) laid = laid

laid_step : (s : State) (e : Event) → LaidIn s → LaidIn (step s e)
unfolding unmap initialise
laid_step s (events.Open hart ask answer) laid = open_laid s hart ask answer laid
laid_step s (events.Close hart handle answer) laid = close_laid s hart handle answer laid
laid_step s (events.Unmapped hart set) laid = laid_unmap set s.namespaces s.images laid
laid_step s (events.Grant number hart owner slot choice value) laid = laid
laid_step s (events.Bound number) laid = laid
laid_step s (events.Lost number saw) laid = laid
laid_step s (events.Unresolved hart owner slot choice) laid = laid
laid_step s (events.Sym hart ask answer) laid = sym_laid s hart ask answer laid
laid_step s (events.Tls hart owner address) laid = laid
laid_step s (events.Init hart object) laid = laid_map (ready_in object) (ready_object object) (leaves_ready object) (λ ns. refl) s.namespaces s.images laid
laid_step s (events.Fini hart object) laid = laid
laid_step s (events.Wrote hart bytes) laid = laid
laid_step s (events.Told hart fault) laid = laid
laid_step s (events.Ended hart reason) laid = laid

pub images_mapped : (m : Machine) (journal : List Event) → Lawful m journal → ImagesAreMapped (after journal)
images_mapped m journal lawful =
    let laid : LaidIn (after journal) =
    subst (λ (es : List Event). LaidIn (after es)) (take_all (length journal) journal (omega arith))
    (by_history m LaidIn
    (record {
      mapped = λ ns o there inside. absurd (none_in o (subst (λ (n : Namespace). Contains n.objects o) (sym (only_in (empty_namespace 0) ns there)) inside));
      image = λ i there. absurd (none_in i there);
    })
    (λ w past e same laid may. laid_step (after past) e laid) journal lawful (length journal)) in
    record {
      mapped = λ ns o inside. laid.mapped ns o inside.there inside.inside;
      image = λ i there. let at = laid.image i there in record { namespace = at.0; object = at.2.0; there = at.1; inside = at.2.1; is = at.2.2 };
    }
