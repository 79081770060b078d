-- What copies take are bytes, and so are those of each image.
use Rattle.std.proofs.Common.{◌≡◌, ◌⊎◌, inl, inr, ℕ, zero, suc, ◌+◌, ◌-◌, ◌*◌, ◌/◌, ◌%◌, ◌^◌, ◌<◌, ◌≤◌, Bool, true, false, List, [], ◌∷◌, ◌++◌, map, get_or, length, Option, Some, None, sym, subst, arith, zero-add}
use Rattle.std.specs.Prelude.{if◌then◌else◌, min, unwrap_or}
use Rattle.std.specs.Int.{byte_at}
use Rattle.std.specs.List.{find, range_with_len, zip}
use Rattle.std.specs.Option.{option_map, option_map_or}
use Rattle.std.proofs.lemmas.Bool.{cases_lt}
use Rattle.std.proofs.lemmas.List.{get_or_past}
use Rattle.std.proofs.lemmas.List.FromFn.{get_or-map-range_with_len, length-map-range_with_len}
use Rattle.ld_base.specs.declared.linking.Loaded.{Loaded}
use Rattle.ld_base.specs.declared.object.Reloc.{Reloc}
use Rattle.link_images.specs.ImageReads.Reads.{byte_within, bytes_within}
use Rattle.link_open_images.specs.ObjectBindings.Bindings.{binding_in, bindings_in, copies_from, none_copied, plain_byte, rela_binding, size_in, slot_binding, value_in}
use Rattle.relocator.specs.Bindings.{chosen, is_copy}
use Rattle.relocator.specs.Relocated.{copied_at, image_byte, settled_word, with_copies}
use Rattle.relocator.specs.declared.binding.Binding.{Binding}
use Rattle.relocator.specs.declared.binding.ModulePlace.{ModulePlace}
use Rattle.scope_rule.specs.Loading.{with_serial}
use Rattle.scope_rule.specs.Relocation.{choice_at}
use Rattle.scope_rule.specs.Seen.{Seen}
use Rattle.seg_image.specs.Accepted.{symbol_size}
use Rattle.seg_image.specs.Images.{AreBytes}
use Rattle.seg_image.specs.Pages.{own_address}
use Rattle.seg_image.specs.Words.{byte_of}
use Rattle.link_open_images.specs.Lemmas.Plain.{bindings_plain, plain_settled}

byte_small : (i n : ℕ) → byte_at i n < 256
byte_small zero n = omega arith
byte_small (suc i) n = omega arith

word_byte : (w v : ℕ) → byte_of w v < 256
unfolding byte_of
word_byte w v = byte_small (v % 8) w

-- a list of bytes
abbrev Small : List ℕ → Type 0
Small xs = (k : ℕ) → get_or xs k 0 < 256

small_none : Small []
small_none k = omega arith

small_mapped : (g : ℕ → ℕ) (n : ℕ) → ((k : ℕ) → g k < 256) → Small (map g (range_with_len 0 n))
small_mapped g n each k = by (cases_lt k n)
  where
    by : (k < n) ⊎ (n ≤ k) → get_or (map g (range_with_len 0 n)) k 0 < 256
    by (inl less) = subst (λ (x : ℕ). x < 256) (sym (get_or-map-range_with_len g 0 n k k 0 less (zero-add k))) (each k)
    by (inr past) =
        subst (λ (x : ℕ). x < 256) (sym (get_or_past (map g (range_with_len 0 n)) k 0 (let long : length (map g (range_with_len 0 n)) ≡ n = length-map-range_with_len g 0 n in omega (arith, long, past)))) (omega arith)

plain_small : (ns : Seen) (now : Bool) (places : List ModulePlace) (o : Loaded) (v : ℕ) → plain_byte ns now places o v < 256
plain_small ns now places o v =
    subst (λ (x : ℕ). x < 256) (sym (plain_settled o.object o.base o.serial (bindings_in none_copied ns now o) places (bindings_plain ns now o) v))
    (word_byte (settled_word o.object o.base o.serial (bindings_in none_copied ns now o) places (v / 8 * 8)) v)

-- what copies take of images
copies_small : (ns : Seen) (now : Bool) (places : List ModulePlace) (objects : List Loaded) (object : Option ℕ) (a count : ℕ) → Small (copies_from ns now places objects object a count)
copies_small ns now places objects None a count = small_none
copies_small ns now places objects (Some serial) a count = by (with_serial objects serial)
  where
    within : (o : Loaded) (v : ℕ) (b : Bool) → (if b then plain_byte ns now places o v else 0) < 256
    within o v true = plain_small ns now places o v
    within o v false = omega arith

    by : (found : Option Loaded) → Small (option_map_or (λ o. bytes_within o.object (plain_byte ns now places o) (own_address o.base a) count) found [])
    by None = small_none
    by (Some o) = small_mapped (λ k. byte_within o.object (plain_byte ns now places o) ((own_address o.base a + k) % 2 ^ 64)) count (λ k. within o ((own_address o.base a + k) % 2 ^ 64) _)

rela_small : (ns : Seen) (now : Bool) (places : List ModulePlace) (objects : List Loaded) (o : Loaded) (r : Reloc) → Small (rela_binding (copies_from ns now places objects) ns o r).copied
rela_small ns now places objects o r = by (is_copy r)
  where
    by : (b : Bool) → Small (if b then record (binding_in ns r (choice_at ns o r)) {
      copied = copies_from ns now places objects (chosen (choice_at ns o r)) (value_in ns r (choice_at ns o r)) (min (symbol_size o.object r) (size_in ns (choice_at ns o r)));
    }
        else binding_in ns r (choice_at ns o r)).copied
    by true = copies_small ns now places objects (chosen (choice_at ns o r)) (value_in ns r (choice_at ns o r)) (min (symbol_size o.object r) (size_in ns (choice_at ns o r)))
    by false = small_none

-- the byte that a copy gives, where one does
found_small : (p : Reloc × Binding → Bool) (f : Reloc → Binding) → ((r : Reloc) → Small (f r).copied) → (relocs : List Reloc) (rest : List Binding) (v w : ℕ) → w < 256
    → unwrap_or (option_map (λ x. get_or x.1.copied (v - x.0.place) 0) (find p (zip relocs (map f relocs ++ rest)))) w < 256
found_small p f small [] [] v w less = less
found_small p f small [] (b ∷ rest) v w less = less
found_small p f small (r ∷ relocs) rest v w less = by (found_small p f small relocs rest v w less) (p (r, f r))
  where
    by : unwrap_or (option_map (λ x. get_or x.1.copied (v - x.0.place) 0) (find p (zip relocs (map f relocs ++ rest)))) w < 256
        → (b : Bool) → unwrap_or (option_map (λ x. get_or x.1.copied (v - x.0.place) 0) (if b then Some (r, f r) else find p (zip relocs (map f relocs ++ rest)))) w < 256
    by later true = small r (v - r.place)
    by later false = later

pub bytes_are : (ns : Seen) (now : Bool) (places : List ModulePlace) (objects : List Loaded) (o : Loaded)
    → AreBytes (image_byte o.object o.base o.serial (bindings_in (copies_from ns now places objects) ns now o) places)
unfolding image_byte with_copies copied_at bindings_in
bytes_are ns now places objects o v =
    found_small _ (rela_binding (copies_from ns now places objects) ns o) (rela_small ns now places objects o) o.object.relocs (map (slot_binding ns now o) o.object.plt_relocs) v
    (byte_of (settled_word o.object o.base o.serial (map (rela_binding (copies_from ns now places objects) ns o) o.object.relocs ++ map (slot_binding ns now o) o.object.plt_relocs) places (v / 8 * 8)) v)
    (word_byte _ v)
