-- How the words of pieces begin.
use Rattle.std.proofs.Common.{◌≡◌, ℕ, suc, ◌&&◌, ◌||◌, ◌==◌, ◌+◌, nat_lt, Bool, true, false, not, cond, List, [], ◌∷◌, ◌++◌, drop, length, Some, None, refl, sym, ap, subst, ◌∙◌, arith}
use Rattle.std.specs.Prelude.{option_and_then}
use Rattle.std.specs.Str.{bytes_eq}
use Rattle.std.proofs.lemmas.Bool.{true≢false}
use Rattle.std.proofs.lemmas.Bool.Decides.{Decides-eqb}
use Rattle.std.proofs.lemmas.List.Sums.{take_while-cons}
use Rattle.std.proofs.lemmas.Slice.Eq.{bytes_eq-Decides}
use Rattle.clap.specs.Lexer.{long_of, long_of_rest, short_of, short_of_rest, strip_byte}
use Rattle.clap.specs.Walk.{Text}
use Rattle.cli_words.specs.declared.switch.Switch.{Switch}
use Rattle.cli_words.specs.declared.switch.Switch.TheVariants as switches
use Rattle.cli_words.specs.Options.{front_of, has_dash, is_joined, is_option, name_of, option_in, value_of}
use Rattle.cli_read.specs.ClapWords.Forms.{id_of}

abbrev pub dashes : Text
dashes = 45 ∷ 45 ∷ []

-- a word that isn't an option, a flag or two dashes
pub record IsPlain (word : Text) : Type 0 where
  pub no_end : bytes_eq word dashes ≡ false
  pub no_long : long_of word ≡ None
  pub no_short : short_of word ≡ None

stripped : (x : ℕ) (rest : Text) → (x == 45) ≡ false → IsPlain (x ∷ rest)
stripped x rest none = record {
  no_end = ap (λ (t : Bool). t && bytes_eq rest (45 ∷ [])) none;
  no_long = ap (λ (t : Bool). option_and_then long_of_rest (option_and_then (strip_byte 45) (cond t (Some rest) None))) none;
  no_short = ap (λ (t : Bool). option_and_then short_of_rest (cond t (Some rest) None)) none;
}

alone : (x : ℕ) → IsPlain (x ∷ [])
alone x = either (x == 45) refl
  where
    either : (b : Bool) → (x == 45) ≡ b → IsPlain (x ∷ [])
    either true is = record {
      no_end = ap (λ (t : Bool). t && bytes_eq [] (45 ∷ [])) is;
      no_long = ap (λ (t : Bool). option_and_then long_of_rest (option_and_then (strip_byte 45) (cond t (Some []) None))) is;
      no_short = ap (λ (t : Bool). option_and_then short_of_rest (cond t (Some []) None)) is;
    }
    either false is = stripped x [] is

pub no_option : (word : Text) → is_option word ≡ false → IsPlain word
no_option [] none = record { no_end = refl; no_long = refl; no_short = refl }
no_option (x ∷ []) none = alone x
no_option (x ∷ y ∷ rest) none = stripped x (y ∷ rest) (first (x == 45) (nat_lt 1 (length (x ∷ y ∷ rest))) (long rest) none)
  where
    long : (rest : Text) → nat_lt 1 (length (x ∷ y ∷ rest)) ≡ true
    long rest = search (arith)

    first : (a b : Bool) → b ≡ true → (a && b) ≡ false → a ≡ false
    first true b some none = absurd (true≢false (sym some ∙ none))
    first false b some none = refl

pub no_dash : (word : Text) → has_dash word ≡ false → IsPlain word
no_dash [] none = record { no_end = refl; no_long = refl; no_short = refl }
no_dash (x ∷ rest) none = stripped x rest none

-- ---- names of options

pub named : (known : List Switch) (word : Text) (c : Switch) → option_in known word ≡ Some c → name_of c ≡ word
named [] word c e = absurd (none_some c e)
  where
    none_some : (c : Switch) → None ≡ Some c → ⊥
    none_some c e = let d : None ≡ Some c = e in cc
named (d ∷ known) word c e = either (bytes_eq (name_of d) word) refl (named known word c)
  where
    some_is : (x y : Switch) → Some x ≡ Some y → x ≡ y
    some_is x y e = cc

    either : (b : Bool) → bytes_eq (name_of d) word ≡ b → (option_in known word ≡ Some c → name_of c ≡ word) → name_of c ≡ word
    either true is later =
        let same : d ≡ c = some_is d c (sym (ap (λ (t : Bool). cond t (Some d) (option_in known word)) is) ∙ e) in
        subst (λ (x : Switch). name_of x ≡ word) same ((bytes_eq-Decides (name_of d) word).0 is)
    either false is later = later (sym (ap (λ (t : Bool). cond t (Some d) (option_in known word)) is) ∙ e)

pub long_is : (c : Switch) → long_of (name_of c) ≡ Some (id_of c, None)
long_is switches.Lib = refl
long_is switches.Preload = refl
long_is switches.Harts = refl
long_is switches.Fuel = refl
long_is switches.Now = refl
long_is switches.Trace = refl

pub no_end_is : (c : Switch) → bytes_eq (name_of c) dashes ≡ false
no_end_is switches.Lib = refl
no_end_is switches.Preload = refl
no_end_is switches.Harts = refl
no_end_is switches.Fuel = refl
no_end_is switches.Now = refl
no_end_is switches.Trace = refl

-- with a value behind an equals sign
abbrev pub joined : Switch → Text → Text
joined c value = name_of c ++ 61 ∷ value

pub long_joined : (c : Switch) (value : Text) → long_of (joined c value) ≡ Some (id_of c, Some value)
long_joined switches.Lib value = refl
long_joined switches.Preload value = refl
long_joined switches.Harts value = refl
long_joined switches.Fuel value = refl
long_joined switches.Now value = refl
long_joined switches.Trace value = refl

pub no_end_joined : (c : Switch) (value : Text) → bytes_eq (joined c value) dashes ≡ false
no_end_joined switches.Lib value = refl
no_end_joined switches.Preload value = refl
no_end_joined switches.Harts value = refl
no_end_joined switches.Fuel value = refl
no_end_joined switches.Now value = refl
no_end_joined switches.Trace value = refl

-- ---- a word with an equals sign is its front, the sign and its value

split : (word : Text) → is_joined word ≡ true → word ≡ front_of word ++ 61 ∷ value_of word
split [] is = absurd (true≢false (sym is))
split (x ∷ xs) is = either (x == 61) refl (split xs)
  where
    front : (b : Bool) → (x == 61) ≡ b → front_of (x ∷ xs) ≡ cond (not b) (x ∷ front_of xs) []
    front b e = take_while-cons (λ (y : ℕ). not (y == 61)) x xs ∙ ap (λ (t : Bool). cond (not t) (x ∷ front_of xs) []) e

    from : (f g : Text) → f ≡ g → f ++ 61 ∷ drop (length f + 1) (x ∷ xs) ≡ g ++ 61 ∷ drop (length g + 1) (x ∷ xs)
    from f g e = ap (λ (h : Text). h ++ 61 ∷ drop (length h + 1) (x ∷ xs)) e

    behind : (f : Text) → drop (length (x ∷ f) + 1) (x ∷ xs) ≡ drop (length f + 1) xs
    behind f =
        let n : length (x ∷ f) + 1 ≡ suc (length f + 1) = omega arith in
        ap (λ (k : ℕ). drop k (x ∷ xs)) n

    either : (b : Bool) → (x == 61) ≡ b → (is_joined xs ≡ true → xs ≡ front_of xs ++ 61 ∷ value_of xs) → x ∷ xs ≡ front_of (x ∷ xs) ++ 61 ∷ value_of (x ∷ xs)
    either true e later =
        let sign : x ≡ 61 = (Decides-eqb x 61).0 e in
        ap (λ (y : ℕ). y ∷ xs) sign ∙ sym (from (front_of (x ∷ xs)) [] (front true e))
    either false e later =
        let more : is_joined xs ≡ true = sym (ap (λ (t : Bool). t || is_joined xs) e) ∙ is in
        ap (λ (l : Text). x ∷ l) (later more ∙ ap (λ (l : Text). front_of xs ++ 61 ∷ l) (sym (behind (front_of xs)))) ∙ sym (from (front_of (x ∷ xs)) (x ∷ front_of xs) (front false e))

pub is_joined_word : (known : List Switch) (word : Text) (c : Switch) → is_joined word ≡ true → option_in known (front_of word) ≡ Some c → joined c (value_of word) ≡ word
is_joined_word known word c is option = ap (λ (f : Text). f ++ 61 ∷ value_of word) (named known (front_of word) c option) ∙ sym (split word is)
