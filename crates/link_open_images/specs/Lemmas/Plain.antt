-- Images of objects without copies.
use Rattle.std.proofs.Common.{◌≡◌, ℕ, zero, suc, ◌+◌, ◌*◌, ◌/◌, ◌%◌, ◌<◌, Bool, true, false, ◌&&◌, List, [], ◌∷◌, ◌++◌, map, length, None, nat_le, nat_lt, refl, sym, ap, subst, ◌∙◌, arith}
use Rattle.std.specs.Prelude.{if◌then◌else◌}
use Rattle.std.specs.Int.{byte_at}
use Rattle.std.specs.List.{find, zip}
use Rattle.ld_base.specs.declared.linking.Loaded.{Loaded}
use Rattle.ld_base.specs.declared.object.Object.{Object}
use Rattle.ld_base.specs.declared.object.Reloc.{Reloc}
use Rattle.history_state.specs.Bound.{binds_now, no_binding}
use Rattle.relocator.specs.Bindings.{is_copy}
use Rattle.relocator.specs.Relocated.{copied_at, image_byte, image_word, settled_word, with_copies}
use Rattle.relocator.specs.declared.binding.Binding.{Binding}
use Rattle.relocator.specs.declared.binding.ModulePlace.{ModulePlace}
use Rattle.scope_rule.specs.Relocation.{choice_at}
use Rattle.scope_rule.specs.Seen.{Seen}
use Rattle.seg_image.specs.Images.{AreBytes, IsImage}
use Rattle.seg_image.specs.Words.{byte_of, word_of}
use Rattle.seg_image.specs.declared.image.Image.{Image}
use Rattle.link_open_images.specs.ObjectBindings.Bindings.{binding_in, bindings_in, none_copied, plain_byte, rela_binding, slot_binding}

-- no binding has bytes to copy
abbrev pub AllPlain : List Binding → Type 0
AllPlain [] = Unit {0}
AllPlain (b ∷ bindings) = (b.copied ≡ []) × AllPlain bindings

plain_mapped : (f : Reloc → Binding) → ((r : Reloc) → (f r).copied ≡ []) → (relocs : List Reloc) (rest : List Binding) → AllPlain rest → AllPlain (map f relocs ++ rest)
plain_mapped f plain [] rest all = all
plain_mapped f plain (r ∷ relocs) rest all = (plain r, plain_mapped f plain relocs rest all)

pub bindings_plain : (ns : Seen) (now : Bool) (o : Loaded) → AllPlain (bindings_in none_copied ns now o)
unfolding bindings_in
bindings_plain ns now o = plain_mapped (rela_binding none_copied ns o) rela o.object.relocs (map (slot_binding ns now o) o.object.plt_relocs)
    (subst AllPlain (nothing_behind (map (slot_binding ns now o) o.object.plt_relocs)) (plain_mapped (slot_binding ns now o) slot o.object.plt_relocs [] tt))
  where
    nothing_behind : (bs : List Binding) → bs ++ [] ≡ bs
    nothing_behind [] = refl
    nothing_behind (b ∷ bs) = ap (λ (rest : List Binding). b ∷ rest) (nothing_behind bs)

    rela : (r : Reloc) → (rela_binding none_copied ns o r).copied ≡ []
    rela r = at (is_copy r)
      where
        at : (b : Bool) → (if b then record (binding_in ns r (choice_at ns o r)) { copied = [] } else binding_in ns r (choice_at ns o r)).copied ≡ []
        at true = refl
        at false = refl

    slot : (r : Reloc) → (slot_binding ns now o r).copied ≡ []
    slot r = at (binds_now now o.object)
      where
        at : (b : Bool) → (if b then binding_in ns r (choice_at ns o r) else no_binding).copied ≡ []
        at true = refl
        at false = refl

abbrev covers : ℕ → Reloc × Binding → Bool
covers v x = is_copy x.0 && (nat_le x.0.place v && nat_lt v (x.0.place + length x.1.copied))

none_covers : (v : ℕ) (relocs : List Reloc) (bindings : List Binding) → AllPlain bindings → find (covers v) (zip relocs bindings) ≡ None
none_covers v [] bindings all = refl
none_covers v (r ∷ relocs) [] all = refl
none_covers v (r ∷ relocs) (b ∷ bindings) all = rw (misses, none_covers v relocs bindings all.1)
  where
    test : (x y z : Bool) → (y && z) ≡ false → (x && (y && z)) ≡ false
    test true y z e = e
    test false y z e = refl

    empty : (p w : ℕ) → (nat_le p w && nat_lt w (p + 0)) ≡ false
    empty p w = grind arith

    misses : covers v (r, b) ≡ false
    misses = test (is_copy r) (nat_le r.place v) (nat_lt v (r.place + length b.copied)) (ap (λ (bs : List ℕ). nat_le r.place v && nat_lt v (r.place + length bs)) all.0 ∙ empty r.place v)

byte_small : (i n : ℕ) → byte_at i n < 256
byte_small zero n = omega arith
byte_small (suc i) n = omega arith

-- the bytes of such an image are those of its words before copies
pub plain_settled : (o : Object) (base serial : ℕ) (bindings : List Binding) (places : List ModulePlace) → AllPlain bindings → (v : ℕ)
    → image_byte o base serial bindings places v ≡ byte_of (settled_word o base serial bindings places (v / 8 * 8)) v
unfolding image_byte with_copies copied_at
plain_settled o base serial bindings places all v = rw (none_covers v o.relocs bindings all)

pub plain_bytes : (ns : Seen) (now : Bool) (places : List ModulePlace) (o : Loaded) → AreBytes (plain_byte ns now places o)
unfolding byte_of
plain_bytes ns now places o v =
    let bindings : List Binding = bindings_in none_copied ns now o in
    subst (λ (n : ℕ). n < 256) (sym (plain_settled o.object o.base o.serial bindings places (bindings_plain ns now o) v))
    (byte_small (v % 8) (settled_word o.object o.base o.serial bindings places (v / 8 * 8)))

pub plain_image : (ns : Seen) (now : Bool) (places : List ModulePlace) (o : Loaded) (image : Image)
    → IsImage o.object o.base (image_word o.object o.base o.serial (bindings_in none_copied ns now o) places) image → IsImage o.object o.base (word_of (plain_byte ns now places o)) image
unfolding image_word
plain_image ns now places o image is = is
