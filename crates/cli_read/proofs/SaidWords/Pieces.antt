-- Pieces, and one more at the end.
use Rattle.std.proofs.Common.{◌≡◌, ◌+◌, ◌||◌, Bool, true, false, cond, List, [], ◌∷◌, ◌++◌, find, length, Option, Some, None, is_some, Bor, refl, sym, ap, ap₂, subst, ◌∙◌, arith}
use Rattle.std.specs.Bool.{⊤}
use Rattle.std.specs.List.{list_any, slice_get}
use Rattle.std.specs.Option.{option_copied, option_or}
use Rattle.std.proofs.lemmas.Bool.{true≢false}
use Rattle.std.proofs.lemmas.List.{append-nil, length-append}
use Rattle.std.proofs.lemmas.List.Folds.{find-append, list_any-append}
use Rattle.cli_words.specs.declared.switch.Switch.{Switch}
use Rattle.cli_words.specs.declared.switch.Switch.TheVariants as switches
use Rattle.cli_words.specs.Lemmas.Switches.{one_switch}
use Rattle.cli_words.specs.Options.{Piece, given, has_value, is_switch, is_of, stands, value_in, words_of}
use Rattle.cli_read.specs.SaidWords.Said.{Tells, has_option, with_option}
use Rattle.cli_read.specs.SaidWords.Words.{Text}
use Rattle.cli_read.specs.declared.said_words.said.Said.{Said}

-- ---- a piece of an option

pub data IsPieceOf (c : Switch) : Piece → Type 0 where
  flag : IsPieceOf c (Piece.flag c)
  valued : (value : Text) → IsPieceOf c (Piece.valued c value)

-- which has a value where its option has one
abbrev pub IsRight : Piece → Type 0
IsRight (Piece.flag c) = has_value c ≡ false
IsRight (Piece.valued c value) = has_value c ≡ true
IsRight (Piece.other word) = ⊤

abbrev pub AreRight : List Piece → Type 0
AreRight [] = ⊤
AreRight (piece ∷ pieces) = IsRight piece × AreRight pieces

pub right_end : (front more : List Piece) → AreRight front → AreRight more → AreRight (front ++ more)
right_end [] more right last = last
right_end (piece ∷ front) more right last = (right.0, right_end front more right.1 last)

of_is : (c d : Switch) (piece : Piece) → IsPieceOf c piece → is_of d piece ≡ is_switch d c
of_is c d piece IsPieceOf.flag = refl
of_is c d piece (IsPieceOf.valued value) = refl

pub no_words : (c : Switch) (piece : Piece) → IsPieceOf c piece → words_of (piece ∷ []) ≡ []
no_words c piece IsPieceOf.flag = refl
no_words c piece (IsPieceOf.valued value) = refl

-- its option and its value say which it is
pub same_piece : (c : Switch) (piece own : Piece) → IsPieceOf c piece → IsPieceOf c own → value_in piece ≡ value_in own → piece ≡ own
same_piece c piece own IsPieceOf.flag IsPieceOf.flag same = refl
same_piece c piece own IsPieceOf.flag (IsPieceOf.valued value) same = let e : None ≡ Some value = same in absurd cc
same_piece c piece own (IsPieceOf.valued value) IsPieceOf.flag same = let e : Some value ≡ None = same in absurd cc
same_piece c piece own (IsPieceOf.valued value) (IsPieceOf.valued value') same =
    let e : Some value ≡ Some value' = same in
    let values : value ≡ value' = cc in
    ap (Piece.valued c) values

-- ---- what pieces give an option

abbrev of_found : Option Piece → Option Text
of_found found = elim found [ Some piece ↦ value_in piece | None ↦ None ]

or_none : {X : Type 0} (o : Option X) → option_or o None ≡ o
or_none None = refl
or_none (Some x) = refl

none_found : (p : Piece → Bool) (pieces : List Piece) → list_any p pieces ≡ false → find p pieces ≡ None
none_found p [] none = refl
none_found p (piece ∷ pieces) none = either (p piece) refl (none_found p pieces)
  where
    either : (b : Bool) → p piece ≡ b → (list_any p pieces ≡ false → find p pieces ≡ None) → find p (piece ∷ pieces) ≡ None
    either true is later = absurd (true≢false (sym (ap (λ (t : Bool). t || list_any p pieces) is) ∙ none))
    either false is later =
        ap (λ (t : Bool). cond t (Some piece) (find p pieces)) is ∙ later (sym (ap (λ (t : Bool). t || list_any p pieces) is) ∙ none)

-- pieces of other options, and other words, give it nothing
pub given_kept : (d : Switch) (front more : List Piece) → stands d more ≡ false → given d (front ++ more) ≡ given d front
given_kept d front more none =
    ap of_found (find-append (is_of d) front more ∙ ap (option_or (find (is_of d) front)) (none_found (is_of d) more none) ∙ or_none (find (is_of d) front))

pub stands_kept : (d : Switch) (front more : List Piece) → stands d more ≡ false → stands d (front ++ more) ≡ stands d front
stands_kept d front more none = list_any-append (is_of d) front more ∙ ap (λ (t : Bool). stands d front || t) none ∙ or_false (stands d front)
  where
    or_false : (b : Bool) → (b || false) ≡ b
    or_false true = refl
    or_false false = refl

-- a piece of an option that doesn't stand yet gives it its value
given_end : (c d : Switch) (piece : Piece) (front : List Piece) (o value : Option Text) → IsPieceOf c piece → value_in piece ≡ value → stands c front ≡ false → o ≡ given d front
    → cond (is_switch d c) value o ≡ given d (front ++ piece ∷ [])
given_end c d piece front o value of is none so_far = either (is_switch d c) refl
  where
    either : (b : Bool) → is_switch d c ≡ b → cond (is_switch d c) value o ≡ given d (front ++ piece ∷ [])
    either true same =
        let free : stands d front ≡ false = ap (λ (x : Switch). stands x front) (one_switch d c same) ∙ none in
        ap (λ (t : Bool). cond t value o) same ∙ sym is
        ∙ sym
        (ap of_found
        (find-append (is_of d) front (piece ∷ [])
        ∙ ap₂ (λ (f : Option Piece) (t : Bool). option_or f (cond t (Some piece) None)) (none_found (is_of d) front free) (of_is c d piece of ∙ same)))
    either false same =
        ap (λ (t : Bool). cond t value o) same ∙ so_far ∙ sym (given_kept d front (piece ∷ []) (ap (λ (t : Bool). t || false) (of_is c d piece of ∙ same)))

stands_end : (c d : Switch) (piece : Piece) (front : List Piece) (b : Bool) → IsPieceOf c piece → b ≡ stands d front → cond (is_switch d c) true b ≡ stands d (front ++ piece ∷ [])
stands_end c d piece front b of so_far =
    either (is_switch d c) b ∙ ap (λ (t : Bool). t || (is_switch d c || false)) so_far
    ∙ ap (λ (t : Bool). stands d front || (t || false)) (sym (of_is c d piece of)) ∙ sym (list_any-append (is_of d) front (piece ∷ []))
  where
    either : (t u : Bool) → cond t true u ≡ (u || (t || false))
    either true true = refl
    either true false = refl
    either false true = refl
    either false false = refl

-- an option that has a value stands where it has one
given_stands : (c : Switch) (pieces : List Piece) → AreRight pieces → has_value c ≡ true → is_some (given c pieces) ≡ stands c pieces
given_stands c [] right some = refl
given_stands c (Piece.flag d ∷ rest) right some = either (is_switch c d) refl (given_stands c rest right.1 some)
  where
    either : (b : Bool) → is_switch c d ≡ b → is_some (given c rest) ≡ stands c rest → is_some (of_found (cond (is_switch c d) (Some (Piece.flag d)) (find (is_of c) rest))) ≡ (is_switch c d || stands c rest)
    either true same later = absurd (true≢false (sym some ∙ ap has_value (one_switch c d same) ∙ right.0))
    either false same later =
        ap (λ (t : Bool). is_some (of_found (cond t (Some (Piece.flag d)) (find (is_of c) rest)))) same ∙ later ∙ sym (ap (λ (t : Bool). t || stands c rest) same)
given_stands c (Piece.valued d value ∷ rest) right some = either (is_switch c d) refl (given_stands c rest right.1 some)
  where
    either : (b : Bool) → is_switch c d ≡ b → is_some (given c rest) ≡ stands c rest
        → is_some (of_found (cond (is_switch c d) (Some (Piece.valued d value)) (find (is_of c) rest))) ≡ (is_switch c d || stands c rest)
    either true same later =
        ap (λ (t : Bool). is_some (of_found (cond t (Some (Piece.valued d value)) (find (is_of c) rest)))) same ∙ sym (ap (λ (t : Bool). t || stands c rest) same)
    either false same later =
        ap (λ (t : Bool). is_some (of_found (cond t (Some (Piece.valued d value)) (find (is_of c) rest)))) same ∙ later ∙ sym (ap (λ (t : Bool). t || stands c rest) same)
given_stands c (Piece.other word ∷ rest) right some = given_stands c rest right.1 some

-- ---- what is told of pieces

copied_some : {X : Type 0} (o : Option (Bor X)) → is_some (option_copied o) ≡ is_some o
copied_some None = refl
copied_some (Some x) = refl

pub has_is : (pieces : List Piece) (said : Said) → AreRight pieces → Tells pieces said → (c : Switch) → has_option said c ≡ stands c pieces
has_is pieces said right tells switches.Lib = sym (copied_some said.lib) ∙ ap (λ (o : Option Text). is_some o) tells.lib ∙ given_stands switches.Lib pieces right refl
has_is pieces said right tells switches.Preload = sym (copied_some said.preload) ∙ ap (λ (o : Option Text). is_some o) tells.preload ∙ given_stands switches.Preload pieces right refl
has_is pieces said right tells switches.Harts = sym (copied_some said.harts) ∙ ap (λ (o : Option Text). is_some o) tells.harts ∙ given_stands switches.Harts pieces right refl
has_is pieces said right tells switches.Fuel = sym (copied_some said.fuel) ∙ ap (λ (o : Option Text). is_some o) tells.fuel ∙ given_stands switches.Fuel pieces right refl
has_is pieces said right tells switches.Now = tells.now
has_is pieces said right tells switches.Trace = tells.trace

-- no words say anything
abbrev pub nothing : Said
nothing = record { lib = None; preload = None; harts = None; fuel = None; now = false; trace = false; others = 0; first = None }

pub told_nothing : Tells [] nothing
told_nothing = record { lib = refl; preload = refl; harts = refl; fuel = refl; now = refl; trace = refl; others = refl; first = refl }

-- each option has the new value, or its own
abbrev merged : Said → Switch → Option (Bor Text) → Said
merged said c value = record {
  lib = cond (is_switch switches.Lib c) value said.lib;
  preload = cond (is_switch switches.Preload c) value said.preload;
  harts = cond (is_switch switches.Harts c) value said.harts;
  fuel = cond (is_switch switches.Fuel c) value said.fuel;
  now = cond (is_switch switches.Now c) true said.now;
  trace = cond (is_switch switches.Trace c) true said.trace;
  others = said.others;
  first = said.first;
}

merged_is : (said : Said) (c : Switch) (value : Option (Bor Text)) → merged said c value ≡ with_option said c value
merged_is said switches.Lib value = refl
merged_is said switches.Preload value = refl
merged_is said switches.Harts value = refl
merged_is said switches.Fuel value = refl
merged_is said switches.Now value = refl
merged_is said switches.Trace value = refl

copied_cond : {X : Type 0} (b : Bool) (o o' : Option (Bor X)) → option_copied (cond b o o') ≡ cond b (option_copied o) (option_copied o')
copied_cond true o o' = refl
copied_cond false o o' = refl

pub words_end : (front more : List Piece) → words_of (front ++ more) ≡ words_of front ++ words_of more
words_end [] more = refl
words_end (Piece.flag c ∷ front) more = words_end front more
words_end (Piece.valued c value ∷ front) more = words_end front more
words_end (Piece.other word ∷ front) more = ap (λ (ws : List Text). word ∷ ws) (words_end front more)

pub told_option : (c : Switch) (piece : Piece) (front : List Piece) (said : Said) (value : Option (Bor Text)) → IsPieceOf c piece → value_in piece ≡ option_copied value
    → stands c front ≡ false → Tells front said → Tells (front ++ piece ∷ []) (with_option said c value)
told_option c piece front said value of is none tells = subst (Tells (front ++ piece ∷ [])) (merged_is said c value) (record {
  lib = slot switches.Lib said.lib tells.lib;
  preload = slot switches.Preload said.preload tells.preload;
  harts = slot switches.Harts said.harts tells.harts;
  fuel = slot switches.Fuel said.fuel tells.fuel;
  now = stands_end c switches.Now piece front said.now of tells.now;
  trace = stands_end c switches.Trace piece front said.trace of tells.trace;
  others = tells.others ∙ ap (λ (ws : List Text). length ws) (sym words);
  first = tells.first ∙ ap (λ (ws : List Text). slice_get ws 0) (sym words);
})
  where
    slot : (d : Switch) (own : Option (Bor Text)) → option_copied own ≡ given d front → option_copied (cond (is_switch d c) value own) ≡ given d (front ++ piece ∷ [])
    slot d own so_far = copied_cond (is_switch d c) value own ∙ given_end c d piece front (option_copied own) (option_copied value) of is none so_far

    words : words_of (front ++ piece ∷ []) ≡ words_of front
    words = words_end front (piece ∷ []) ∙ ap (λ (ws : List Text). words_of front ++ ws) (no_words c piece of) ∙ append-nil (words_of front)

-- ---- other words

abbrev pub others_of : List Text → List Piece
others_of [] = []
others_of (word ∷ words) = Piece.other word ∷ others_of words

none_stand : (c : Switch) (words : List Text) → stands c (others_of words) ≡ false
none_stand c [] = refl
none_stand c (word ∷ words) = none_stand c words

all_words : (words : List Text) → words_of (others_of words) ≡ words
all_words [] = refl
all_words (word ∷ words) = ap (λ (ws : List Text). word ∷ ws) (all_words words)

first_end : (xs ys : List Text) → slice_get (xs ++ ys) 0 ≡ option_or (slice_get xs 0) (slice_get ys 0)
first_end [] ys = refl
first_end (x ∷ xs) ys = refl

-- with these words, too
pub record Grows (said : Said) (words : List Text) (new : Said) : Type 0 where
  pub kept : new ≡ record said { others = new.others; first = new.first }
  pub count : new.others ≡ said.others + length words
  pub start : option_copied new.first ≡ option_or (option_copied said.first) (slice_get words 0)

pub told_words : (front : List Piece) (said new : Said) (words : List Text) → Tells front said → Grows said words new → Tells (front ++ others_of words) new
told_words front said new words tells grows = record {
  lib = ap (λ (s : Said). option_copied s.lib) grows.kept ∙ tells.lib ∙ sym (given_kept switches.Lib front (others_of words) (none_stand switches.Lib words));
  preload = ap (λ (s : Said). option_copied s.preload) grows.kept ∙ tells.preload ∙ sym (given_kept switches.Preload front (others_of words) (none_stand switches.Preload words));
  harts = ap (λ (s : Said). option_copied s.harts) grows.kept ∙ tells.harts ∙ sym (given_kept switches.Harts front (others_of words) (none_stand switches.Harts words));
  fuel = ap (λ (s : Said). option_copied s.fuel) grows.kept ∙ tells.fuel ∙ sym (given_kept switches.Fuel front (others_of words) (none_stand switches.Fuel words));
  now = ap (λ (s : Said). s.now) grows.kept ∙ tells.now ∙ sym (stands_kept switches.Now front (others_of words) (none_stand switches.Now words));
  trace = ap (λ (s : Said). s.trace) grows.kept ∙ tells.trace ∙ sym (stands_kept switches.Trace front (others_of words) (none_stand switches.Trace words));
  others = (let n : said.others ≡ length (words_of front) = tells.others in let m : length (words_of (front ++ others_of words)) ≡ length (words_of front ++ words) = ap (λ (ws : List Text). length ws) all in let k : length (words_of front ++ words) ≡ length (words_of front) + length words = length-append (words_of front) words in omega (arith, n, m, k, grows.count));
  first = grows.start ∙ ap (λ (o : Option Text). option_or o (slice_get words 0)) tells.first ∙ sym (first_end (words_of front) words) ∙ ap (λ (ws : List Text). slice_get ws 0) (sym all);
}
  where
    all : words_of (front ++ others_of words) ≡ words_of front ++ words
    all = words_end front (others_of words) ∙ ap (λ (ws : List Text). words_of front ++ ws) (all_words words)
