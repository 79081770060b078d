-- What stands before an equals sign.
use Rattle.std.proofs.Common.{◌≡◌, ℕ, ◌<◌, ◌+◌, ◌||◌, ◌==◌, Bool, true, false, not, cond, List, [], ◌∷◌, drop, length, Option, Some, None, Bor, refl, sym, ap, ◌∙◌, arith}
use Rattle.std.proofs.lemmas.List.{length-take-le}
use Rattle.std.specs.List.{before_first, list_any, position_or_len}
use Rattle.std.specs.Prelude.{MatchOption}
use Rattle.cli_words.specs.Options.{front_of, value_of}
use Rattle.cli_read.specs.SaidWords.Words.{joined_front, joined_value}

any_from : (bs : List ℕ) → position_or_len (λ b. b == 61) bs < length bs → list_any (λ b. b == 61) bs ≡ true
any_from [] less = absurd (omega (arith, less))
any_from (b ∷ bs) less = either (b == 61) refl (any_from bs)
  where
    either : (t : Bool) → (b == 61) ≡ t → (position_or_len (λ b. b == 61) bs < length bs → list_any (λ b. b == 61) bs ≡ true) → ((b == 61) || list_any (λ b. b == 61) bs) ≡ true
    either true is later = ap (λ (t : Bool). t || list_any (λ b. b == 61) bs) is
    either false is later =
        let len : position_or_len (λ b. b == 61) (b ∷ bs) ≡ 1 + position_or_len (λ b. b == 61) bs = ap (λ (t : Bool). cond (not t) (1 + position_or_len (λ b. b == 61) bs) 0) is in
        ap (λ (t : Bool). t || list_any (λ b. b == 61) bs) is ∙ later (omega (arith, len, less))

none_from : (bs : List ℕ) → position_or_len (λ b. b == 61) bs ≡ length bs → list_any (λ b. b == 61) bs ≡ false
none_from [] same = refl
none_from (b ∷ bs) same = either (b == 61) refl (none_from bs)
  where
    either : (t : Bool) → (b == 61) ≡ t → (position_or_len (λ b. b == 61) bs ≡ length bs → list_any (λ b. b == 61) bs ≡ false) → ((b == 61) || list_any (λ b. b == 61) bs) ≡ false
    either true is later =
        let len : position_or_len (λ b. b == 61) (b ∷ bs) ≡ 0 = ap (λ (t : Bool). cond (not t) (1 + position_or_len (λ b. b == 61) bs) 0) is in
        absurd (omega (arith, len, same))
    either false is later =
        let len : position_or_len (λ b. b == 61) (b ∷ bs) ≡ 1 + position_or_len (λ b. b == 61) bs = ap (λ (t : Bool). cond (not t) (1 + position_or_len (λ b. b == 61) bs) 0) is in
        ap (λ (t : Bool). t || list_any (λ b. b == 61) bs) is ∙ later (omega (arith, len, same))

abbrev Cut : Type 0
Cut = Bor (List ℕ) × Bor (List ℕ)

abbrev pub AtSign : List ℕ → Option Cut → Type 0
AtSign word r = MatchOption r (position_or_len (λ b. b == 61) word ≡ length word)
    (λ x. (position_or_len (λ b. b == 61) word < length word) × (x.0.now ≡ before_first (λ b. b == 61) word) × (x.1.now ≡ drop (position_or_len (λ b. b == 61) word + 1) word))

pub front_is : (word : List ℕ) (x : Cut) → AtSign word (Some x) → Some x.0.now ≡ joined_front word
front_is word x at = ap (λ (f : List ℕ). Some f) at.1 ∙ sym (ap (λ (t : Bool). cond t (Some (front_of word)) None) (any_from word at.0))

pub no_front : (word : List ℕ) → AtSign word None → None ≡ joined_front word
no_front word at = sym (ap (λ (t : Bool). cond t (Some (front_of word)) None) (none_from word at))

pub value_is : (word : List ℕ) (x : Cut) → AtSign word (Some x) → Some x.1.now ≡ joined_value word
value_is word x at =
    ap (λ (v : List ℕ). Some v) (at.2 ∙ ap (λ (n : ℕ). drop (n + 1) word) (sym (length-take-le (position_or_len (λ b. b == 61) word) word (omega (arith, at.0)))))
    ∙ sym (ap (λ (t : Bool). cond t (Some (value_of word)) None) (any_from word at.0))

pub no_value : (word : List ℕ) → AtSign word None → None ≡ joined_value word
no_value word at = sym (ap (λ (t : Bool). cond t (Some (value_of word)) None) (none_from word at))
