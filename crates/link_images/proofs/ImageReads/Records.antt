-- Images by their records.
use Rattle.std.proofs.Common.{◌≡◌, Result, Ok, Err, IfOk, ◌++◌, reverse, ℕ, ◌+◌, ◌*◌, ◌/◌, ◌%◌, ◌^◌, ◌<◌, ◌≤◌, List, [], ◌∷◌, map, Option, Some, None, refl, sym, ap, ◌∙◌, arith}
use Rattle.std.specs.List.{range_with_len}
use Rattle.ld_base.specs.declared.object.Object.{Object}
use Rattle.ld_base.specs.declared.object.Span.{Span}
use Rattle.ld_base.specs.declared.object.TlsSeg.{TlsSeg}
use Rattle.relocator.specs.Relocated.{image_byte, image_word}
use Rattle.seg_image.specs.Images.{IsImage}
use Rattle.seg_image.specs.Pages.{guest_address, low_of, own_address, pages_of}
use Rattle.seg_image.specs.Words.{word_of}
use Rattle.seg_image.specs.declared.image.Image.{Image}
use Rattle.history_state.specs.Memory.{word_in}
use Rattle.history_state.specs.State.{Linked}
use Rattle.history_calls.specs.Functions.{constructors, destructors, entries, entry, preinits}
use Rattle.link_images.specs.Parts.{storage_of}
use Rattle.link_images.specs.ImageReads.Reads.{byte_within, bytes_within, entry_at, words_of}
use Rattle.link_images.proofs.ImageReads.Places.{inside_is, same_on_range}

back : (base v : ℕ) → base < 2 ^ 64 → v < 2 ^ 64 → own_address base (guest_address base v) ≡ v
unfolding own_address guest_address
back base v one two = omega (arith, one, two)

abbrev storage_by : Linked → Object → ℕ → Option TlsSeg → List ℕ
storage_by m p b tls = elim tls [
  | None ↦ []
  | Some g ↦ map (λ k. image_byte p b m.serial m.bindings m.places (g.vaddr + k)) (range_with_len 0 g.filesz)
]

module _ (m : Linked) (o : Object) (base : ℕ) (same : m.object ≡ o) (at : m.base ≡ base) (short : base < 2 ^ 64) where
  abbrev value : ℕ → ℕ
  value = image_word o base m.serial m.bindings m.places

  word_by : (v : ℕ) → v < 2 ^ 64 → value v ≡ word_in m (guest_address m.base v)
  unfolding word_in
  word_by v less =
      sym (ap (λ (p : Object). image_word p m.base m.serial m.bindings m.places (own_address m.base (guest_address m.base v))) same
      ∙ ap (λ (b : ℕ). image_word o b m.serial m.bindings m.places (own_address b (guest_address b v))) at
      ∙ ap value (back base v short less))

  entries_read : (array : Option Span) → ((s : Span) → array ≡ Some s → s.start + s.size ≤ 2 ^ 32) → words_of value array ≡ entries m array
  entries_read None low = refl
  entries_read (Some s) low =
      let high : s.start + s.size ≤ 2 ^ 32 = low s refl in
      same_on_range (λ k. value (s.start + 8 * k)) (λ k. word_in m (guest_address m.base (s.start + 8 * k))) 0 (s.size / 8)
      (λ k less. word_by (s.start + 8 * k) (below s.start s.size k high less))
    where
      below : (a n k : ℕ) → a + n ≤ 2 ^ 32 → k < 0 + n / 8 → a + 8 * k < 2 ^ 64
      below a n k high less = omega (arith, high, less)

  entry_read : (function : Option ℕ) → entry_at base function ≡ entry m function
  entry_read None = refl
  entry_read (Some v) = ap (λ (b : ℕ). guest_address b v ∷ []) (sym at)

  pub constructors_read : ((s : Span) → o.init_array ≡ Some s → s.start + s.size ≤ 2 ^ 32) → entry_at base o.init ++ words_of value o.init_array ≡ constructors m
  unfolding constructors
  constructors_read low =
      ap (λ (es : List ℕ). es ++ words_of value o.init_array) (entry_read o.init) ∙ ap (λ (es : List ℕ). entry m o.init ++ es) (entries_read o.init_array low)
      ∙ ap (λ (p : Object). entry m p.init ++ entries m p.init_array) (sym same)

  pub destructors_read : ((s : Span) → o.fini_array ≡ Some s → s.start + s.size ≤ 2 ^ 32) → reverse (words_of value o.fini_array) ++ entry_at base o.fini ≡ destructors m
  unfolding destructors
  destructors_read low =
      ap (λ (es : List ℕ). reverse (words_of value o.fini_array) ++ es) (entry_read o.fini) ∙ ap (λ (es : List ℕ). reverse es ++ entry m o.fini) (entries_read o.fini_array low)
      ∙ ap (λ (p : Object). reverse (entries m p.fini_array) ++ entry m p.fini) (sym same)

  pub preinits_read : ((s : Span) → o.preinit ≡ Some s → s.start + s.size ≤ 2 ^ 32) → words_of value o.preinit ≡ preinits m
  unfolding preinits
  preinits_read low = entries_read o.preinit low ∙ ap (λ (p : Object). entries m p.preinit) (sym same)

small : (a n k : ℕ) → a + n ≤ 2 ^ 32 → k < 0 + n → (a + k) % 2 ^ 64 ≡ a + k
small a n k high less = omega (arith, high, less)

module _ (m : Linked) (o : Object) (base : ℕ) (same : m.object ≡ o) (at : m.base ≡ base) where
  abbrev byte : ℕ → ℕ
  byte = image_byte o base m.serial m.bindings m.places

  pub storage_read : (seg : TlsSeg) → o.tls ≡ Some seg → seg.vaddr + seg.filesz ≤ 2 ^ 32
      → ((k : ℕ) → k < seg.filesz → (low_of o ≤ seg.vaddr + k) × (seg.vaddr + k < low_of o + 4096 * pages_of o)) → bytes_within o byte seg.vaddr seg.filesz ≡ storage_of m
  unfolding storage_of
  storage_read seg is low inside =
      same_on_range (λ k. byte_within o byte ((seg.vaddr + k) % 2 ^ 64)) (λ k. byte (seg.vaddr + k)) 0 seg.filesz each
      ∙ sym (ap (λ (p : Object). storage_by m p m.base p.tls) same ∙ ap (λ (b : ℕ). storage_by m o b o.tls) at ∙ ap (storage_by m o base) is)
    where
      each : (k : ℕ) → k < 0 + seg.filesz → byte_within o byte ((seg.vaddr + k) % 2 ^ 64) ≡ byte (seg.vaddr + k)
      each k less =
          let within : (low_of o ≤ seg.vaddr + k) × (seg.vaddr + k < low_of o + 4096 * pages_of o) = inside k (omega (arith, less)) in
          ap (byte_within o byte) (small seg.vaddr seg.filesz k low less) ∙ inside_is o byte (seg.vaddr + k) within.0 within.1

  pub storage_none : o.tls ≡ None → [] ≡ storage_of m
  unfolding storage_of
  storage_none is = sym (ap (λ (p : Object). storage_by m p m.base p.tls) same ∙ ap (storage_by m o m.base) is)

pub if_ok : {A E : Type 0} (r : Result A E) (P Q : A → Type 0) → ((x : A) → P x → Q x) → IfOk r P → IfOk r Q
if_ok (Ok x) P Q f h = f x h
if_ok (Err e) P Q f h = h

-- an image's words are made of its bytes
pub words_by_bytes : (o : Object) (base : ℕ) (m : Linked) (image : Image) → IsImage o base (image_word o base m.serial m.bindings m.places) image
    → IsImage o base (word_of (image_byte o base m.serial m.bindings m.places)) image
unfolding image_word
words_by_bytes o base m image is = is
