-- The images of new objects, found by their serials.
use Rattle.std.proofs.Common.{◌≡◌, ℕ, zero, suc, ◌+◌, Bool, false, cond, eqb, List, [], ◌∷◌, map, length, Option, Some, None, refl, ap, ◌∙◌, arith}
use Rattle.std.specs.List.{Contains, find, range_with_len, slice_get}
use Rattle.std.specs.Option.{option_or}
use Rattle.std.proofs.lemmas.Bool.{eq-eqb, ne_eqb}
use Rattle.std.proofs.lemmas.List.Folds.{find-append}
use Rattle.ld_base.specs.declared.linking.Loaded.{Loaded}
use Rattle.history_event.specs.declared.event.OpenAsk.{OpenAsk}
use Rattle.history_event.specs.declared.event.Range.{Range}
use Rattle.history_state.specs.Laws.{ImagesAreMapped, SerialsAreInOrder}
use Rattle.history_state.specs.Memory.{image_of}
use Rattle.history_state.specs.Objects.{IsMapped, serial_of}
use Rattle.history_state.specs.State.{Linked, State}
use Rattle.history_state.specs.Step.{open_done}
use Rattle.history_state.specs.Lemmas.Lists.{at_in, here, later, none_in}
use Rattle.link_open_laws.specs.Laws.{image_made}
use Rattle.link_open_laws.specs.OpeningFollows.Lemmas.Found.{images_after}
use Rattle.link_open_laws.proofs.OpeningFollows.Counted.{new_at}

none_found : {X : Type 0} (p : X → Bool) (xs : List X) → ((x : X) → Contains xs x → p x ≡ false) → find p xs ≡ None
none_found p [] none = refl
none_found {X} p (x ∷ xs) none =
    ap (λ (b : Bool). cond b (Some x) (find p xs)) (none x (here x xs)) ∙ none_found p xs (λ y inside. none y (later x xs y inside))

-- of records made of objects with serials in a row
found_at : (made : Loaded → Linked) → ((o : Loaded) → (made o).serial ≡ o.serial) → (added : List Loaded) (next : ℕ) → map serial_of added ≡ range_with_len next (length added)
    → (k : ℕ) (o : Loaded) → slice_get added k ≡ Some o → find (λ (m : Linked). eqb m.serial o.serial) (map made added) ≡ Some (made o)
found_at made same [] next are k o at = absurd (none_in o (at_in [] k o at))
found_at made same (x ∷ added) next are zero o at =
    let is : x ≡ o = cc in
    ap (λ (b : Bool). cond b (Some (made x)) (find (λ (m : Linked). eqb m.serial o.serial) (map made added))) (eq-eqb (made x).serial o.serial (same x ∙ ap serial_of is)) ∙ ap (λ (y : Loaded). Some (made y)) is
found_at made same (x ∷ added) next are (suc k) o at =
    let rest : map serial_of added ≡ range_with_len (next + 1) (length added) = cc in
    let first : x.serial ≡ next = cc in
    let behind : o.serial ≡ (next + 1) + k = new_at added (next + 1) rest k o at in
    ap (λ (b : Bool). cond b (Some (made x)) (find (λ (m : Linked). eqb m.serial o.serial) (map made added))) (ne_eqb (made x).serial o.serial (λ e. apart (same x) first behind e))
    ∙ found_at made same added (next + 1) rest k o at
  where
    apart : (made x).serial ≡ x.serial → x.serial ≡ next → o.serial ≡ (next + 1) + k → (made x).serial ≡ o.serial → ⊥
    apart a b c e = omega (arith, a, b, c, e)

pub image_found : (s : State) (hart : ℕ) (ask : OpenAsk) (id root : ℕ) (added : List Loaded) (ranges : List Range) → SerialsAreInOrder s → ImagesAreMapped s
    → map serial_of added ≡ range_with_len s.next (length added) → (k : ℕ) (o : Loaded) → slice_get added k ≡ Some o
    → image_of (open_done s hart ask id root added ranges) o.serial ≡ Some (image_made s hart ask id root added ranges o)
image_found s hart ask id root added ranges order mapped row k o at =
    ap (find (λ (m : Linked). eqb m.serial o.serial)) (images_after s hart ask id root added ranges)
    ∙ find-append (λ (m : Linked). eqb m.serial o.serial) s.images (map (image_made s hart ask id root added ranges) added)
    ∙ ap (λ (found : Option Linked). option_or found (find (λ (m : Linked). eqb m.serial o.serial) (map (image_made s hart ask id root added ranges) added)))
    (none_found (λ (m : Linked). eqb m.serial o.serial) s.images old)
    ∙ found_at (image_made s hart ask id root added ranges) (λ x. refl) added s.next row k o at
  where
    old : (i : Linked) → Contains s.images i → eqb i.serial o.serial ≡ false
    old i there = ne_eqb i.serial o.serial (λ e. below (mapped.image i there) e)
      where
        below : IsMapped s i.serial → i.serial ≡ o.serial → ⊥
        below is e =
            omega (arith, order.below is.namespace is.object (record { there = is.there; inside = is.inside }), is.is, e, new_at added s.next row k o at)
