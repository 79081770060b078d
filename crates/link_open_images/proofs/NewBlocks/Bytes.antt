-- The bytes of a block.
use Rattle.std.proofs.Common.{◌≡◌, ℕ, zero, suc, ◌+◌, ◌-◌, ◌<◌, ◌≤◌, ◌&&◌, Bool, true, false, cond, leb, ltb, List, [], Some, None, map, length, refl, sym, ap, ◌∙◌, arith}
use Rattle.std.specs.Prelude.{if◌then◌else◌, nat_le, nat_lt, slice_index}
use Rattle.std.specs.Int.{w64, from_le_bytes}
use Rattle.std.specs.List.{range_with_len}
use Rattle.std.proofs.lemmas.Bool.{and_from, and_parts, leb-true, lt-ltb, ltb-true, true≢false}
use Rattle.std.proofs.lemmas.List.FromFn.{get_or-map-range_with_len, length-map-range_with_len}
use Rattle.link_open_images.specs.AreaImages.Areas.{byte_among}
use Rattle.link_images.specs.Parts.{storage_of}
use Rattle.ld_base.specs.declared.object.TlsSeg.{TlsSeg}
use Rattle.history_state.specs.Memory.{segment_byte}
use Rattle.history_state.specs.State.{Linked}
use Rattle.relocator.specs.Relocated.{image_byte}
use Rattle.seg_image.specs.Words.{word_of}

same_on_range : (f g : ℕ → ℕ) (a n : ℕ) → ((i : ℕ) → i < a + n → f i ≡ g i) → map f (range_with_len a n) ≡ map g (range_with_len a n)
same_on_range f g a zero same = refl
same_on_range f g a (suc n) same = rw (same a (omega arith), same_on_range f g (a + 1) n (λ i less. same i (omega arith)))

-- bytes that are the same make the same word
pub word_alike : (f g : ℕ → ℕ) (v : ℕ) → ((i : ℕ) → i < 8 → f (v + i) ≡ g (v + i)) → word_of f v ≡ word_of g v
unfolding word_of
word_alike f g v same = ap (from_le_bytes w64) (same_on_range (λ i. f (v + i)) (λ i. g (v + i)) 0 8 (λ i less. same i (omega arith)))

abbrev storage_byte_of : Linked → TlsSeg → ℕ → ℕ
storage_byte_of i seg k = image_byte i.object i.base i.serial i.bindings i.places (seg.vaddr + k)

-- the bytes that an image gives for a block
storage_is : (i : Linked) (seg : TlsSeg) → i.object.tls ≡ Some seg → storage_of i ≡ map (storage_byte_of i seg) (range_with_len 0 seg.filesz)
unfolding storage_of
storage_is i seg is = ap (λ tls. elim tls [ None ↦ [] | Some s ↦ map (λ k. image_byte i.object i.base i.serial i.bindings i.places (s.vaddr + k)) (range_with_len 0 s.filesz) ]) is

pub storage_long : (i : Linked) (seg : TlsSeg) → i.object.tls ≡ Some seg → length (storage_of i) ≡ seg.filesz
storage_long i seg is = ap (λ (bytes : List ℕ). length bytes) (storage_is i seg is) ∙ length-map-range_with_len (storage_byte_of i seg) 0 seg.filesz

pub among_segment : (i : Linked) (seg : TlsSeg) (block a : ℕ) → i.object.tls ≡ Some seg → byte_among block (storage_of i) a ≡ segment_byte i seg block a
unfolding byte_among
among_segment i seg block a is =
    ap (λ (bytes : List ℕ). if nat_le block a && nat_lt a (block + length bytes) then slice_index bytes (a - block) else 0) (storage_is i seg is)
    ∙ ap (λ n. if nat_le block a && nat_lt a (block + n) then slice_index bytes (a - block) else 0) (length-map-range_with_len (storage_byte_of i seg) 0 seg.filesz)
    ∙ by (nat_le block a && nat_lt a (block + seg.filesz)) refl
  where
    bytes : List ℕ
    bytes = map (storage_byte_of i seg) (range_with_len 0 seg.filesz)

    by : (b : Bool) → (nat_le block a && nat_lt a (block + seg.filesz)) ≡ b → cond b (slice_index bytes (a - block)) 0 ≡ cond b (storage_byte_of i seg (a - block)) 0
    by false e = refl
    by true e =
        let parts = and_parts (leb block a) (ltb a (block + seg.filesz)) e in
        let from : block ≤ a = leb-true block a parts.0 in
        let to : a < block + seg.filesz = ltb-true a (block + seg.filesz) parts.1 in
        get_or-map-range_with_len (storage_byte_of i seg) 0 seg.filesz (a - block) (a - block) 0 (omega (arith, from, to)) (omega arith)

-- beside the block there is no byte of it
pub beside : (i : Linked) (seg : TlsSeg) (block a : ℕ) → seg.filesz ≤ seg.memsz → (nat_le block a && nat_lt a (block + seg.memsz)) ≡ false → segment_byte i seg block a ≡ 0
beside i seg block a few out = by (nat_le block a && nat_lt a (block + seg.filesz)) refl
  where
    by : (b : Bool) → (nat_le block a && nat_lt a (block + seg.filesz)) ≡ b → cond b (storage_byte_of i seg (a - block)) 0 ≡ 0
    by false e = refl
    by true e =
        let parts = and_parts (leb block a) (ltb a (block + seg.filesz)) e in
        let to : a < block + seg.filesz = ltb-true a (block + seg.filesz) parts.1 in
        let inside : (nat_le block a && nat_lt a (block + seg.memsz)) ≡ true = and_from (leb block a) (ltb a (block + seg.memsz)) parts.0 (lt-ltb a (block + seg.memsz) (omega (arith, to, few))) in
        absurd (true≢false (sym inside ∙ out))
