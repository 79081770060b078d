-- A doubleword that was copied, and a text that is told, by what a hart has in the code.
use Rattle.std.proofs.Common.{◌≡◌, inl, inr, ℕ, ◌+◌, ◌-◌, ◌/◌, Bool, true, false, cond, List, ◌∷◌, length, map, refl, sym, ap, ◌∙◌, arith, add-one}
use Rattle.std.specs.List.{range_with_len}
use Rattle.rv_hart.specs.Registers.{registers_of}
use Rattle.hart_moves.specs.Copying.{Copy, after_name, before_end, grown, is_copied, text_words, with_bytes}
use Rattle.hart_moves.specs.Due.{name_start, write_count}
use Rattle.hart_moves.specs.Harts.{HartState, Naming, Phase}
use Rattle.hart_moves.specs.Moves.{telling}
use Rattle.hart_moves.specs.Registers.{a0, a1, a2}
use Rattle.ld_base.specs.declared.fault.Shown.{Shown}
use Rattle.hart_seat.specs.HartParts.Turns.{HasName}
use Rattle.hart_seat.specs.HartParts.Views.{naming_of}
use Rattle.hart_seat.specs.declared.hart_parts.due.Naming.{Naming as code_naming}
use Rattle.hart_seat.specs.Copied.{copied_phase, more_bytes, with_word}
use Rattle.hart_seat.specs.Inside.{hart_of}
use Rattle.hart_seat.specs.Phases.{phase_of, text_word}
use Rattle.hart_seat.specs.declared.hart.LinkedHart.TheInside.{Inside}
use Rattle.hart_seat.specs.declared.phase.Phase.{Phase as code_phase}
use Rattle.hart_seat.specs.declared.phase.Phase.TheVariants as phase

-- ---- a doubleword

-- where it leaves the hart, by what the hart had
abbrev pub Takes : Inside → ℕ → Phase → Type 0
Takes h word p = p ≡ copied_phase (registers_of h.registers) (phase_of h.bytes h.version h.message h.phase) word

-- a name, and a version, with one more
abbrev name_phase : Naming → List ℕ → Phase
name_phase n bytes = cond (is_copied bytes) (after_name n (before_end bytes)) (Phase.naming n bytes)

abbrev version_phase : (name bytes : List ℕ) → Phase
version_phase name bytes = cond (is_copied bytes) (Phase.named Naming.dlvsym name (before_end bytes)) (Phase.versioning name bytes)

name_not : (n : Naming) (bytes : List ℕ) → is_copied bytes ≡ false → name_phase n bytes ≡ Phase.naming n bytes
name_not n bytes e = ap (λ (t : Bool). cond t (after_name n (before_end bytes)) (Phase.naming n bytes)) e

name_is : (n : Naming) (bytes : List ℕ) → is_copied bytes ≡ true → name_phase n bytes ≡ after_name n (before_end bytes)
name_is n bytes e = ap (λ (t : Bool). cond t (after_name n (before_end bytes)) (Phase.naming n bytes)) e

version_not : (name bytes : List ℕ) → is_copied bytes ≡ false → version_phase name bytes ≡ Phase.versioning name bytes
version_not name bytes e = ap (λ (t : Bool). cond t (Phase.named Naming.dlvsym name (before_end bytes)) (Phase.versioning name bytes)) e

version_is : (name bytes : List ℕ) → is_copied bytes ≡ true → version_phase name bytes ≡ Phase.named Naming.dlvsym name (before_end bytes)
version_is name bytes e = ap (λ (t : Bool). cond t (Phase.named Naming.dlvsym name (before_end bytes)) (Phase.versioning name bytes)) e

with_name : (n : Naming) (start : ℕ) (bytes : List ℕ) (word : ℕ) → with_word (Copy.of_name n) start bytes word ≡ name_phase n (more_bytes 256 start bytes word)
unfolding with_bytes grown
with_name n start bytes word = refl

with_version : (name : List ℕ) (start : ℕ) (bytes : List ℕ) (word : ℕ)
    → with_word (Copy.of_version name) start bytes word ≡ version_phase name (more_bytes 256 start bytes word)
unfolding with_bytes grown
with_version name start bytes word = refl

with_pair : (start : ℕ) (bytes : List ℕ) (word : ℕ) → with_word Copy.of_pair start bytes word ≡ Phase.pairing (more_bytes 16 start bytes word)
unfolding with_bytes grown
with_pair start bytes word = refl

with_text : (count start : ℕ) (bytes : List ℕ) (word : ℕ) → with_word (Copy.of_text count) start bytes word ≡ Phase.writing (more_bytes count start bytes word)
unfolding with_bytes grown
with_text count start bytes word = refl

module _ (h : Inside) (start word : ℕ) (new : List ℕ) where
  -- the phase that the hart had is known, and what is copied then, from there on
  took : (now : code_phase) (copy : Copy) (from : ℕ) (bytes : List ℕ) (p : Phase) → h.phase ≡ now → start ≡ from
      → copied_phase (registers_of h.registers) (phase_of h.bytes h.version h.message now) word ≡ with_word copy from bytes word
      → p ≡ with_word copy start bytes word → Takes h word p
  took now copy from bytes p is at row same =
      same ∙ ap (λ (s : ℕ). with_word copy s bytes word) at ∙ sym row
      ∙ ap (λ (q : code_phase). copied_phase (registers_of h.registers) (phase_of h.bytes h.version h.message q) word) (sym is)

  pub name_left : (n : code_naming) → h.phase ≡ phase.Naming n → start ≡ name_start (naming_of n) (registers_of h.registers)
      → is_copied (more_bytes 256 start h.bytes word) ≡ false → new ≡ more_bytes 256 start h.bytes word
      → Takes h word (phase_of new h.version h.message h.phase)
  name_left n is at unfinished same =
      took (phase.Naming n) (Copy.of_name (naming_of n)) (name_start (naming_of n) (registers_of h.registers)) h.bytes (phase_of new h.version h.message h.phase) is at refl
      (ap (λ (q : code_phase). phase_of new h.version h.message q) is ∙ ap (λ (bs : List ℕ). Phase.naming (naming_of n) bs) same
      ∙ sym (name_not (naming_of n) (more_bytes 256 start h.bytes word) unfinished) ∙ sym (with_name (naming_of n) start h.bytes word))

  pub name_over : (n : code_naming) (p : Phase) → h.phase ≡ phase.Naming n → start ≡ name_start (naming_of n) (registers_of h.registers)
      → is_copied (more_bytes 256 start h.bytes word) ≡ true → p ≡ after_name (naming_of n) (before_end (more_bytes 256 start h.bytes word))
      → Takes h word p
  name_over n p is at finished same =
      took (phase.Naming n) (Copy.of_name (naming_of n)) (name_start (naming_of n) (registers_of h.registers)) h.bytes p is at refl
      (same ∙ sym (name_is (naming_of n) (more_bytes 256 start h.bytes word) finished) ∙ sym (with_name (naming_of n) start h.bytes word))

  pub version_left : h.phase ≡ phase.Versioning → start ≡ a2 (registers_of h.registers) → is_copied (more_bytes 256 start h.version word) ≡ false
      → new ≡ more_bytes 256 start h.version word → Takes h word (phase_of h.bytes new h.message h.phase)
  version_left is at unfinished same =
      took phase.Versioning (Copy.of_version h.bytes) (a2 (registers_of h.registers)) h.version (phase_of h.bytes new h.message h.phase) is at refl
      (ap (λ (q : code_phase). phase_of h.bytes new h.message q) is ∙ ap (λ (bs : List ℕ). Phase.versioning h.bytes bs) same
      ∙ sym (version_not h.bytes (more_bytes 256 start h.version word) unfinished) ∙ sym (with_version h.bytes start h.version word))

  pub version_over : h.phase ≡ phase.Versioning → start ≡ a2 (registers_of h.registers) → is_copied (more_bytes 256 start h.version word) ≡ true
      → new ≡ before_end (more_bytes 256 start h.version word) → Takes h word (Phase.named Naming.dlvsym h.bytes new)
  version_over is at finished same =
      took phase.Versioning (Copy.of_version h.bytes) (a2 (registers_of h.registers)) h.version (Phase.named Naming.dlvsym h.bytes new) is at refl
      (ap (λ (bs : List ℕ). Phase.named Naming.dlvsym h.bytes bs) same
      ∙ sym (version_is h.bytes (more_bytes 256 start h.version word) finished) ∙ sym (with_version h.bytes start h.version word))

  pub pair_left : h.phase ≡ phase.Pairing → start ≡ a0 (registers_of h.registers) → new ≡ more_bytes 16 start h.bytes word
      → Takes h word (phase_of new h.version h.message h.phase)
  pair_left is at same =
      took phase.Pairing Copy.of_pair (a0 (registers_of h.registers)) h.bytes (phase_of new h.version h.message h.phase) is at refl
      (ap (λ (q : code_phase). phase_of new h.version h.message q) is ∙ ap (λ (bs : List ℕ). Phase.pairing bs) same ∙ sym (with_pair start h.bytes word))

  pub text_left : (count : ℕ) → h.phase ≡ phase.Writing → start ≡ a1 (registers_of h.registers) → count ≡ write_count (registers_of h.registers)
      → new ≡ more_bytes count start h.bytes word → Takes h word (phase_of new h.version h.message h.phase)
  text_left count is at most same =
      took phase.Writing (Copy.of_text (write_count (registers_of h.registers))) (a1 (registers_of h.registers)) h.bytes (phase_of new h.version h.message h.phase) is at refl
      (ap (λ (q : code_phase). phase_of new h.version h.message q) is ∙ ap (λ (bs : List ℕ). Phase.writing bs) same
      ∙ sym (with_text count start h.bytes word) ∙ ap (λ (k : ℕ). with_word (Copy.of_text k) start h.bytes word) most)

-- the hart with it
pub taken : (h : Inside) (b : HartState) (word : ℕ) (p : Phase) → hart_of h ≡ b → Takes h word p
    → record (hart_of h) { phase = p } ≡ record b { phase = copied_phase b.registers b.phase word }
taken h b word p view takes =
    ap (λ (q : Phase). record (hart_of h) { phase = q }) takes ∙ ap (λ (x : HartState). record x { phase = copied_phase x.registers x.phase word }) view

-- ---- a text

words_of : (text : List ℕ) → text_words text ≡ text_word text 0 ∷ map (text_word text) (range_with_len (0 + 1) (length text / 8 - 0))
unfolding text_words
words_of text =
    let same : length text / 8 ≡ length text / 8 - 0 = omega arith in
    rw add-one (ap (λ (n : ℕ). text_word text 0 ∷ map (text_word text) (range_with_len (0 + 1) n)) same)

pub told : (at : ℕ) (text : List ℕ) (b : HartState)
    → record b { phase = Phase.storing at 0 (text_word text 0) (map (text_word text) (range_with_len (0 + 1) (length text / 8 - 0))) } ≡ telling at (text_words text) b
told at text b = ap (λ (words : List ℕ). telling at words b) (sym (words_of text))

-- ---- a name

named_bytes : (bytes version message : List ℕ) (p : code_phase) (n : Naming) (name other : List ℕ)
    → phase_of bytes version message p ≡ Phase.named n name other → (bytes ≡ name) × (version ≡ other)
named_bytes bytes version message (phase.Named taker) n name other is = (cc, cc)
named_bytes bytes version message phase.AtPc n name other is = absurd cc
named_bytes bytes version message (phase.Naming taker) n name other is = absurd cc
named_bytes bytes version message phase.Versioning n name other is = absurd cc
named_bytes bytes version message (phase.Waiting taker for) n name other is = absurd cc
named_bytes bytes version message phase.Pairing n name other is = absurd cc
named_bytes bytes version message phase.Writing n name other is = absurd cc
named_bytes bytes version message (phase.Storing text stored) n name other is = absurd cc

waiting_bytes : (bytes version message : List ℕ) (p : code_phase) (n : Naming) (name other : List ℕ) (for : Shown)
    → phase_of bytes version message p ≡ Phase.waiting n name other for → (bytes ≡ name) × (version ≡ other)
waiting_bytes bytes version message (phase.Waiting taker shown) n name other for is = (cc, cc)
waiting_bytes bytes version message (phase.Named taker) n name other for is = absurd cc
waiting_bytes bytes version message phase.AtPc n name other for is = absurd cc
waiting_bytes bytes version message (phase.Naming taker) n name other for is = absurd cc
waiting_bytes bytes version message phase.Versioning n name other for is = absurd cc
waiting_bytes bytes version message phase.Pairing n name other for is = absurd cc
waiting_bytes bytes version message phase.Writing n name other for is = absurd cc
waiting_bytes bytes version message (phase.Storing text stored) n name other for is = absurd cc

pub name_bytes : (bytes version message : List ℕ) (p : code_phase) (n : Naming) (name other : List ℕ)
    → HasName (phase_of bytes version message p) n name other → (bytes ≡ name) × (version ≡ other)
name_bytes bytes version message p n name other (inl is) = named_bytes bytes version message p n name other is
name_bytes bytes version message p n name other (inr (for, is)) = waiting_bytes bytes version message p n name other for is
