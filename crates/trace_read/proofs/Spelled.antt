-- Names and bytes are read back.
use Rattle.std.proofs.Common.{◌≡◌, ◌≢◌, ℕ, ◌+◌, ◌-◌, ◌*◌, ◌/◌, ◌%◌, ◌<◌, true}
use Rattle.std.proofs.Common.{false, not, ◌&&◌, ◌||◌, ◌==◌, nat_le, List, [], ◌∷◌, ◌++◌, length, Option, Some, None}
use Rattle.std.proofs.Common.{flat_map}
use Rattle.std.proofs.Common.{refl, sym, ap, ◌∙◌, subst, arith, inl, inr, bytes_eq}
use Rattle.std.proofs.lemmas.Bool.{and_parts, and_from, eqb-true, ne_eqb, cases_Bool, leb-true, true≢false, false_from_ne_true}
use Rattle.std.proofs.lemmas.List.Elements.{All-nil, All-cons, All-head, All-tail}
use Rattle.std.proofs.lemmas.Option.{none-some, same_Some}
use Rattle.std.proofs.lemmas.Slice.Eq.{bytes_eq-Decides}
use Rattle.std.specs.Fmt.{digit_glyph}
use Rattle.ld_base.specs.Text.{hex_digit, is_plain, byte_text, name_text, name_or_none}
use Rattle.trace_text.specs.Lists.{byte_digits}
use Rattle.trace_read.specs.Names.{Stage, bytes_of, unescape, name_of, some_name}
use Rattle.trace_read.specs.Names.Stage.{plain, percent, high}
use Rattle.trace_read.specs.Fits.{AreBytes, AreBytesIfSome}
use Rattle.trace_read.specs.Numbers.{digit}
use Rattle.trace_read.specs.Pieces.{◌>>=◌}
use Rattle.trace_read.proofs.Digits.{digit-there, digit-back, is_digit_byte, glyph_free}
use Rattle.trace_read.proofs.Parts.{Reads, bound, mapped, free, free-append, if_true, if_false}

abbrev IsByte : ℕ → Type 0
IsByte b = b < 256

high_digit : (b : ℕ) → b < 256 → digit 16 (hex_digit (b / 16)) ≡ Some (b / 16)
high_digit b h = digit-there 16 (b / 16) (omega arith) (omega arith)

low_digit : (b : ℕ) → digit 16 (hex_digit (b % 16)) ≡ Some (b % 16)
low_digit b = digit-there 16 (b % 16) (omega arith) (omega arith)

together : (b : ℕ) → 16 * (b / 16) + b % 16 ≡ b
together b = omega arith

-- the digits of a byte of two digits
apart : (c e h l : ℕ) → c ≡ digit_glyph false h → h < 16 → e ≡ digit_glyph false l → l < 16 → byte_digits (16 * h + l) ≡ c ∷ e ∷ []
apart c e h l same_c small_h same_e small_l =
    let front : (16 * h + l) / 16 ≡ h = omega arith in
    let last : (16 * h + l) % 16 ≡ l = omega arith in
    λ i. (ap (digit_glyph false) front ∙ sym same_c) i ∷ (ap (digit_glyph false) last ∙ sym same_e) i ∷ []

-- bytes

bytes-there : (bytes : List ℕ) → AreBytes bytes → bytes_of None (flat_map byte_digits bytes) ≡ Some bytes
bytes-there [] h = refl
bytes-there (b ∷ bytes) h =
    rw (high_digit b (All-head IsByte b bytes h), low_digit b, bytes-there bytes (All-tail IsByte b bytes h), together b) refl

bytes-back : (w bytes : List ℕ) → bytes_of None w ≡ Some bytes → AreBytes bytes × (flat_map byte_digits bytes ≡ w)
bytes-back [] bytes e = subst (λ x. AreBytes x × (flat_map byte_digits x ≡ [])) (same_Some _ _ e) (All-nil IsByte, refl)
bytes-back (c ∷ []) bytes e = bound (digit 16 c) _ bytes e (λ h eh none. absurd (none-some bytes none))
bytes-back (c ∷ d ∷ w) bytes e =
    bound (digit 16 c) _ bytes e (λ h eh e1.
    bound (digit 16 d) _ bytes e1 (λ l el e2.
    mapped _ (bytes_of None w) bytes e2 (λ others eo same.
    let at_h = digit-back 16 c h eh in
    let at_l = digit-back 16 d l el in
    let rest = bytes-back w others eo in
    subst (λ x. AreBytes x × (flat_map byte_digits x ≡ c ∷ d ∷ w)) same (
      All-cons IsByte (16 * h + l) others (omega (arith, at_h.1, at_l.1)) rest.0,
      λ i. apart c d h l at_h.0 at_h.1 at_l.0 at_l.1 i ++ rest.1 i,
    ))))

pub bytes_reads : Reads (bytes_of None) (flat_map byte_digits) AreBytes
bytes_reads = record { there = bytes-there; back = bytes-back }

-- names

plain-ne : (c m : ℕ) → is_plain c ≡ true → is_plain m ≡ false → (c == m) ≡ false
plain-ne c m p q = ne_eqb c m (λ same. true≢false (sym p ∙ ap is_plain same ∙ q))

plain_small : (c : ℕ) → is_plain c ≡ true → c < 256
plain_small c p =
    let a = nat_le 0x21 c && nat_le c 0x7e in
    let at = and_parts (a && not (c == 37) && not (c == 44) && not (c == 58) && not (c == 61)) (not (c == 64)) p in
    let equals = and_parts (a && not (c == 37) && not (c == 44) && not (c == 58)) (not (c == 61)) at.0 in
    let colon = and_parts (a && not (c == 37) && not (c == 44)) (not (c == 58)) equals.0 in
    let comma = and_parts (a && not (c == 37)) (not (c == 44)) colon.0 in
    let percent = and_parts a (not (c == 37)) comma.0 in
    let visible = and_parts (nat_le 0x21 c) (nat_le c 0x7e) percent.0 in
    omega (arith, leb-true c 0x7e visible.1)

plain_text : (c : ℕ) → is_plain c ≡ true → byte_text c ≡ c ∷ []
plain_text c p = rw p refl

escaped_text : (c : ℕ) → is_plain c ≡ false → byte_text c ≡ 37 ∷ byte_digits c
escaped_text c p = rw p refl

unescape_plain : (c : ℕ) (w name : List ℕ) → is_plain c ≡ true → unescape plain w ≡ Some name → unescape plain (c ∷ w) ≡ Some (c ∷ name)
unescape_plain c w name p e = rw (p, plain-ne c 37 p refl, e) refl

unescape_high : (h c l : ℕ) (w name : List ℕ) → digit 16 c ≡ Some l → is_plain (16 * h + l) ≡ false → unescape plain w ≡ Some name
    → unescape (high h) (c ∷ w) ≡ Some ((16 * h + l) ∷ name)
unescape_high h c l w name el off e = rw (el, off, e) refl

unescape-there : (name : List ℕ) → AreBytes name → unescape plain (flat_map byte_text name) ≡ Some name
unescape-there [] h = refl
unescape-there (c ∷ cs) h = elim (cases_Bool (is_plain c)) [
  | inl p ↦ ap (λ t. unescape plain (t ++ flat_map byte_text cs)) (plain_text c p)
      ∙ unescape_plain c (flat_map byte_text cs) cs p (unescape-there cs (All-tail IsByte c cs h))
  | inr p ↦
      let whole = together c in
      ap (λ t. unescape plain (t ++ flat_map byte_text cs)) (escaped_text c p)
      ∙ ap (λ o. o >>= (λ h. unescape (high h) (hex_digit (c % 16) ∷ flat_map byte_text cs))) (high_digit c (All-head IsByte c cs h))
      ∙ unescape_high (c / 16) (hex_digit (c % 16)) (c % 16) (flat_map byte_text cs) cs (low_digit c) (ap is_plain whole ∙ p)
      (unescape-there cs (All-tail IsByte c cs h))
      ∙ ap (λ b. Some (b ∷ cs)) whole
]

-- what is read already of an escaped byte
abbrev read_of : Stage → List ℕ
read_of plain = []
read_of percent = 37 ∷ []
read_of (high h) = 37 ∷ digit_glyph false h ∷ []

abbrev IsDigit : Stage → Type 0
IsDigit plain = Unit {0}
IsDigit percent = Unit {0}
IsDigit (high h) = h < 16

unescape-back : (w : List ℕ) (s : Stage) (name : List ℕ) → IsDigit s → unescape s w ≡ Some name
    → AreBytes name × (flat_map byte_text name ≡ read_of s ++ w)
unescape-back [] plain name d e = subst (λ x. AreBytes x × (flat_map byte_text x ≡ [])) (same_Some _ _ e) (All-nil IsByte, refl)
unescape-back [] percent name d e = absurd (none-some name e)
unescape-back [] (high h) name d e = absurd (none-some name e)
unescape-back (c ∷ w) percent name d e =
    bound (digit 16 c) _ name e (λ h eh e1.
    let at = digit-back 16 c h eh in
    let rest = unescape-back w (high h) name at.1 e1 in
    (rest.0, rest.1 ∙ ap (λ x. 37 ∷ x ∷ w) (sym at.0)))
unescape-back (c ∷ w) (high h) name d e =
    bound (digit 16 c) _ name e (λ l el e1. elim (cases_Bool (is_plain (16 * h + l))) [
      | inl p ↦ absurd (none-some name (if_true _ _ _ p e1))
      | inr p ↦
          mapped _ (unescape plain w) name (if_false _ _ _ p e1) (λ others eo same.
          let at = digit-back 16 c l el in
          let rest = unescape-back w plain others tt eo in
          let text = escaped_text (16 * h + l) p ∙ ap (λ t. 37 ∷ t) (apart (digit_glyph false h) c h l refl d at.0 at.1) in
          subst (λ x. AreBytes x × (flat_map byte_text x ≡ 37 ∷ digit_glyph false h ∷ c ∷ w)) same
          (All-cons IsByte (16 * h + l) others (omega (arith, at.1, d)) rest.0, λ i. text i ++ rest.1 i))
    ])
unescape-back (c ∷ w) plain name d e = elim (cases_Bool (c == 37)) [
  | inl t ↦
      let rest = unescape-back w percent name tt (if_true _ _ _ t e) in
      (rest.0, rest.1 ∙ ap (λ x. x ∷ w) (sym (eqb-true c 37 t)))
  | inr f ↦ elim (cases_Bool (is_plain c)) [
    | inl p ↦
        mapped _ (unescape plain w) name (if_true _ _ _ p (if_false _ _ _ f e)) (λ others eo same.
        let rest = unescape-back w plain others tt eo in
        subst (λ x. AreBytes x × (flat_map byte_text x ≡ c ∷ w)) same
        (All-cons IsByte c others (plain_small c p) rest.0, λ i. plain_text c p i ++ rest.1 i))
    | inr p ↦ absurd (none-some name (if_false _ _ _ p (if_false _ _ _ f e)))
  ]
]

-- a text that is read so isn't one that is read in another way
other : (t s name : List ℕ) → unescape plain t ≡ Some name → (unescape plain s ≡ Some name → ⊥) → bytes_eq t s ≡ false
other t s name e off = false_from_ne_true (bytes_eq t s) (λ same. off (sym (ap (unescape plain) ((bytes_eq-Decides t s).0 same)) ∙ e))

filled : (c : ℕ) (cs : List ℕ) → (length (c ∷ cs) == 0) ≡ false
filled c cs = ne_eqb (length (c ∷ cs)) 0 (λ e. omega (arith, e))

name_by : (t name : List ℕ) → unescape plain t ≡ Some name → name ≢ [] → name ≢ 45 ∷ [] → name_of t ≡ Some name
unfolding name_of
name_by [] name e some off = absurd (some (sym (same_Some _ _ e)))
name_by (c ∷ cs) name e some off =
    rw (
      other (c ∷ cs) (37 ∷ []) name e (λ r. none-some name r),
      other (c ∷ cs) (37 ∷ 50 ∷ 100 ∷ []) name e (λ r. none-some name (sym escaped_minus ∙ r)),
      filled c cs,
      other (c ∷ cs) (45 ∷ []) name e (λ r. off (sym (same_Some _ _ r))),
    ) e
  where
    escaped_minus : unescape plain (37 ∷ 50 ∷ 100 ∷ []) ≡ None
    escaped_minus = rw (digit-there 16 2 (omega arith) (omega arith), digit-there 16 13 (omega arith) (omega arith)) refl

name-there : (name : List ℕ) → AreBytes name → name_of (name_text name) ≡ Some name
unfolding name_of name_text
name-there [] h = refl
name-there (c ∷ cs) h = elim (cases_Bool (bytes_eq (c ∷ cs) (45 ∷ []))) [
  | inl t ↦ rw (filled c cs, t) (ap (λ n. Some n) (sym ((bytes_eq-Decides (c ∷ cs) (45 ∷ [])).0 t)))
  | inr f ↦ rw (filled c cs, f) (name_by (flat_map byte_text (c ∷ cs)) (c ∷ cs) (unescape-there (c ∷ cs) h) (λ e. cons-nil e)
      (λ e. true≢false (sym ((bytes_eq-Decides (c ∷ cs) (45 ∷ [])).1 e) ∙ f)))
]
  where
    cons-nil : {x : ℕ} {xs : List ℕ} → x ∷ xs ≡ [] → ⊥
    cons-nil e = omega (arith, ap length e)

name-back : (w name : List ℕ) → name_of w ≡ Some name → AreBytes name × (name_text name ≡ w)
unfolding name_of name_text
name-back w name e = elim (cases_Bool (bytes_eq w (37 ∷ []))) [
  | inl t ↦ subst (λ x. AreBytes x × (name_text x ≡ w)) (same_Some _ _ (if_true _ _ _ t e)) (All-nil IsByte, sym ((bytes_eq-Decides w (37 ∷ [])).0 t))
  | inr f ↦ elim (cases_Bool (bytes_eq w (37 ∷ 50 ∷ 100 ∷ []))) [
    | inl t ↦ subst (λ x. AreBytes x × (name_text x ≡ w)) (same_Some _ _ (if_true _ _ _ t (if_false _ _ _ f e)))
        (All-cons IsByte 45 [] (omega arith) (All-nil IsByte), sym ((bytes_eq-Decides w (37 ∷ 50 ∷ 100 ∷ [])).0 t))
    | inr g ↦ elim (cases_Bool (length w == 0 || bytes_eq w (45 ∷ []))) [
      | inl t ↦ absurd (none-some name (if_true _ _ _ t (if_false _ _ _ g (if_false _ _ _ f e))))
      | inr k ↦
          let it = unescape-back w plain name tt (if_false _ _ _ k (if_false _ _ _ g (if_false _ _ _ f e))) in
          (it.0, plainly w name k it.1)
    ]
  ]
]
  where
    plainly : (w name : List ℕ) → (length w == 0 || bytes_eq w (45 ∷ [])) ≡ false → flat_map byte_text name ≡ w → name_text name ≡ w
    plainly w [] k e = absurd (true≢false (sym (ap (λ x. length x == 0 || bytes_eq x (45 ∷ [])) (sym e)) ∙ k))
    plainly w (c ∷ cs) k e = elim (cases_Bool (bytes_eq (c ∷ cs) (45 ∷ []))) [
      | inl t ↦ absurd (true≢false (sym
          (ap (λ x. length x == 0 || bytes_eq x (45 ∷ [])) (sym e ∙ ap (flat_map byte_text) ((bytes_eq-Decides (c ∷ cs) (45 ∷ [])).0 t))) ∙ k))
      | inr f ↦ rw (filled c cs, f) e
    ]

pub name_reads : Reads name_of name_text AreBytes
name_reads = record { there = name-there; back = name-back }

minus_none : name_of (45 ∷ []) ≡ None
unfolding name_of
minus_none = refl

name-ne : (name : List ℕ) → AreBytes name → bytes_eq (name_text name) (45 ∷ []) ≡ false
name-ne name h = false_from_ne_true (bytes_eq (name_text name) (45 ∷ []))
    (λ same. none-some name (sym minus_none ∙ sym (ap name_of ((bytes_eq-Decides (name_text name) (45 ∷ [])).0 same)) ∙ name-there name h))

pub some_name_reads : Reads some_name name_or_none AreBytesIfSome
unfolding some_name
some_name_reads = record { there = forward; back = backward }
  where
    forward : (name : Option (List ℕ)) → AreBytesIfSome name → some_name (name_or_none name) ≡ Some name
    forward None h = refl
    forward (Some name) h = rw (name-ne name h, name-there name h) refl

    backward : (w : List ℕ) (name : Option (List ℕ)) → some_name w ≡ Some name → AreBytesIfSome name × (name_or_none name ≡ w)
    backward w name e = elim (cases_Bool (bytes_eq w (45 ∷ []))) [
      | inl t ↦ subst (λ x. AreBytesIfSome x × (name_or_none x ≡ w)) (same_Some _ _ (if_true _ _ _ t e))
          (tt, sym ((bytes_eq-Decides w (45 ∷ [])).0 t))
      | inr f ↦ mapped _ (name_of w) name (if_false _ _ _ f e) (λ n en same.
          subst (λ x. AreBytesIfSome x × (name_or_none x ≡ w)) same (name-back w n en))
    ]

-- no byte of a name's text is a mark

module _ (mark : ℕ) (no_plain : is_plain mark ≡ false) (no_digit : is_digit_byte mark ≡ false)
    (escapes : free mark (37 ∷ 50 ∷ 100 ∷ []) ≡ true) where
  no_percent : free mark (37 ∷ []) ≡ true
  no_percent = and_from _ _ (and_parts _ _ escapes).0 refl

  digit_free : (d : ℕ) → d < 16 → free mark (hex_digit d ∷ []) ≡ true
  digit_free d h = rw (ne_eqb (digit_glyph false d) mark (glyph_free mark d h no_digit)) refl

  byte_free : (c : ℕ) → c < 256 → free mark (byte_text c) ≡ true
  byte_free c h = elim (cases_Bool (is_plain c)) [
    | inl p ↦ ap (free mark) (plain_text c p) ∙ rw (plain-ne c mark p no_plain) refl
    | inr p ↦ ap (free mark) (escaped_text c p) ∙ free-append mark (37 ∷ []) (byte_digits c) no_percent
        (free-append mark (hex_digit (c / 16) ∷ []) (hex_digit (c % 16) ∷ []) (digit_free (c / 16) (omega arith)) (digit_free (c % 16) (omega arith)))
  ]

  escaped_free : (name : List ℕ) → AreBytes name → free mark (flat_map byte_text name) ≡ true
  escaped_free [] h = refl
  escaped_free (c ∷ cs) h =
      free-append mark (byte_text c) (flat_map byte_text cs) (byte_free c (All-head IsByte c cs h)) (escaped_free cs (All-tail IsByte c cs h))

  pub name_free : (name : List ℕ) → AreBytes name → free mark (name_text name) ≡ true
  unfolding name_text
  name_free [] h = no_percent
  name_free (c ∷ cs) h = elim (cases_Bool (bytes_eq (c ∷ cs) (45 ∷ []))) [
    | inl t ↦ rw (filled c cs, t) escapes
    | inr f ↦ rw (filled c cs, f) (escaped_free (c ∷ cs) h)
  ]

  pub some_name_free : free mark (45 ∷ []) ≡ true → (name : Option (List ℕ)) → AreBytesIfSome name → free mark (name_or_none name) ≡ true
  some_name_free minus None h = minus
  some_name_free minus (Some name) h = name_free name h
