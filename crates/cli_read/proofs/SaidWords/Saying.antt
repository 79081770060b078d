-- What stands at the front of words, and what words say then.
use Rattle.std.proofs.Common.{◌≡◌, ◌≤◌, Bool, true, false, cond, List, [], ◌∷◌, length, Option, Some, None, codes, refl, sym, ap, subst, ◌∙◌, arith}
use Rattle.std.specs.Bool.{⊤}
use Rattle.std.specs.List.{slice_get}
use Rattle.std.specs.Prelude.{option_and_then, option_map}
use Rattle.std.specs.Str.{bytes_eq}
use Rattle.std.proofs.lemmas.Bool.{true≢false}
use Rattle.std.proofs.lemmas.Slice.Eq.{bytes_eq-Decides}
use Rattle.cli_words.specs.declared.switch.Switch.{Switch}
use Rattle.cli_words.specs.declared.switch.Switch.TheVariants as switches
use Rattle.cli_words.specs.Options.{Piece, Says, front_of, has_dash, has_value, is_joined, is_option, option_in, value_in, value_of}
use Rattle.cli_read.specs.SaidWords.Words.{Text, at_option, behind_value, option_at, option_named, read_front, taking_front, taking_next, value_at}
use Rattle.cli_read.specs.declared.said_words.front.Front.{Front}
use Rattle.cli_read.specs.declared.said_words.front.Front.TheVariants as fronts
use Rattle.cli_read.proofs.SaidWords.Pieces.{IsPieceOf, IsRight}

-- ---- an option, and what it takes

abbrev Taken : Type 0
Taken = Option (Switch × List Text)

flag_at : (known : List Switch) (word : Text) (rest : List Text) (c : Switch) → is_joined word ≡ false → option_in known word ≡ Some c → has_value c ≡ false → option_at known word rest ≡ Some (c, rest)
unfolding option_at
flag_at known word rest c plain is flag =
    ap (λ (t : Bool). option_named known word rest (cond t (Some (front_of word)) None)) plain ∙ ap (option_and_then (taking_next rest)) is
    ∙ ap (λ (t : Bool). cond t (option_map (λ (more : List Text). (c, more)) (behind_value rest)) (Some (c, rest))) flag

valued_at : (known : List Switch) (word value : Text) (rest : List Text) (c : Switch) → is_joined word ≡ false → option_in known word ≡ Some c → has_value c ≡ true → has_dash value ≡ false
    → option_at known word (value ∷ rest) ≡ Some (c, rest)
unfolding option_at
valued_at known word value rest c plain is valued dash =
    ap (λ (t : Bool). option_named known word (value ∷ rest) (cond t (Some (front_of word)) None)) plain ∙ ap (option_and_then (taking_next (value ∷ rest))) is
    ∙ ap (λ (t : Bool). cond t (option_map (λ (more : List Text). (c, more)) (behind_value (value ∷ rest))) (Some (c, value ∷ rest))) valued
    ∙ ap (λ (t : Bool). option_map (λ (more : List Text). (c, more)) (cond t None (Some rest))) dash

joined_at : (known : List Switch) (word : Text) (rest : List Text) (c : Switch) → is_joined word ≡ true → option_in known (front_of word) ≡ Some c → has_value c ≡ true → option_at known word rest ≡ Some (c, rest)
unfolding option_at
joined_at known word rest c signed is valued =
    ap (λ (t : Bool). option_named known word rest (cond t (Some (front_of word)) None)) signed ∙ ap (option_and_then (taking_front rest)) is
    ∙ ap (λ (t : Bool). cond t (Some (c, rest)) None) valued

-- ---- the front

no_end : (word : Text) → is_option word ≡ false → bytes_eq word (codes "--") ≡ false
no_end word none = either (bytes_eq word (codes "--")) refl
  where
    either : (t : Bool) → bytes_eq word (codes "--") ≡ t → bytes_eq word (codes "--") ≡ false
    either true is = absurd (true≢false (sym (ap is_option ((bytes_eq-Decides word (codes "--")).0 is)) ∙ none))
    either false is = is

word_at : (known : List Switch) (word : Text) (rest : List Text) → is_option word ≡ false → read_front known word rest ≡ Some (fronts.Word, rest)
word_at known word rest none =
    ap (λ (t : Bool). cond t (Some (fronts.End, rest)) (cond (is_option word) (at_option (option_at known word rest)) (Some (fronts.Word, rest)))) (no_end word none)
    ∙ ap (λ (t : Bool). cond t (at_option (option_at known word rest)) (Some (fronts.Word, rest))) none

-- no option is called by two dashes alone
no_name : (known : List Switch) → option_in known (codes "--") ≡ None
no_name [] = refl
no_name (switches.Lib ∷ rest) = no_name rest
no_name (switches.Preload ∷ rest) = no_name rest
no_name (switches.Harts ∷ rest) = no_name rest
no_name (switches.Fuel ∷ rest) = no_name rest
no_name (switches.Now ∷ rest) = no_name rest
no_name (switches.Trace ∷ rest) = no_name rest

some_none : {X A : Type 0} (x : X) → Some x ≡ None → A
some_none x e = let d : Some x ≡ None = e in absurd cc

no_end_named : (known : List Switch) (word : Text) (c : Switch) → option_in known word ≡ Some c → bytes_eq word (codes "--") ≡ false
no_end_named known word c named = either (bytes_eq word (codes "--")) refl
  where
    either : (t : Bool) → bytes_eq word (codes "--") ≡ t → bytes_eq word (codes "--") ≡ false
    either true is = some_none c (sym named ∙ ap (option_in known) ((bytes_eq-Decides word (codes "--")).0 is) ∙ no_name known)
    either false is = is

no_end_joined : (word : Text) → is_joined word ≡ true → bytes_eq word (codes "--") ≡ false
no_end_joined word signed = either (bytes_eq word (codes "--")) refl
  where
    either : (t : Bool) → bytes_eq word (codes "--") ≡ t → bytes_eq word (codes "--") ≡ false
    either true is = absurd (true≢false (sym signed ∙ ap is_joined ((bytes_eq-Decides word (codes "--")).0 is)))
    either false is = is

option_front : (known : List Switch) (word : Text) (rest behind : List Text) (c : Switch) → bytes_eq word (codes "--") ≡ false → is_option word ≡ true → option_at known word rest ≡ Some (c, behind)
    → read_front known word rest ≡ Some (fronts.Option c, behind)
option_front known word rest behind c none dashed at =
    ap (λ (t : Bool). cond t (Some (fronts.End, rest)) (cond (is_option word) (at_option (option_at known word rest)) (Some (fronts.Word, rest)))) none
    ∙ ap (λ (t : Bool). cond t (at_option (option_at known word rest)) (Some (fronts.Word, rest))) dashed
    ∙ ap at_option at

-- ---- what is said is at the front

-- the piece of an option that stands at a word, with the value that it takes
pub record StandsAt (c : Switch) (word : Text) (rest : List Text) (piece : Piece) : Type 0 where
  pub of : IsPieceOf c piece
  pub value : value_in piece ≡ value_at c word rest
  pub right : IsRight piece

flag_stands : (c : Switch) (word : Text) (rest : List Text) → has_value c ≡ false → StandsAt c word rest (Piece.flag c)
flag_stands c word rest alone = record {
  of = IsPieceOf.flag;
  value = sym (ap (λ (t : Bool). cond t (cond (is_joined word) (Some (value_of word)) (slice_get rest 0)) None) alone);
  right = alone;
}

next_stands : (c : Switch) (word value : Text) (rest : List Text) → is_joined word ≡ false → has_value c ≡ true → StandsAt c word (value ∷ rest) (Piece.valued c value)
next_stands c word value rest plain some = record {
  of = IsPieceOf.valued value;
  value = sym
      (ap (λ (t : Bool). cond t (cond (is_joined word) (Some (value_of word)) (Some value)) None) some
      ∙ ap (λ (t : Bool). cond t (Some (value_of word)) (Some value)) plain);
  right = some;
}

own_stands : (c : Switch) (word : Text) (rest : List Text) → is_joined word ≡ true → has_value c ≡ true → StandsAt c word rest (Piece.valued c (value_of word))
own_stands c word rest signed some = record {
  of = IsPieceOf.valued (value_of word);
  value = sym
      (ap (λ (t : Bool). cond t (cond (is_joined word) (Some (value_of word)) (slice_get rest 0)) None) some
      ∙ ap (λ (t : Bool). cond t (Some (value_of word)) (slice_get rest 0)) signed);
  right = some;
}

-- behind what stands at the front words say the other pieces
pub data Follow (known : List Switch) : Front → Text → List Text → List Text → List Piece → Type 0 where
  at_end : (word : Text) (rest behind : List Text) (pieces : List Piece) → Says known true behind pieces → Follow known fronts.End word rest behind pieces
  at_word : (word : Text) (rest behind : List Text) (pieces : List Piece) → Says known false behind pieces
      → Follow known fronts.Word word rest behind (Piece.other word ∷ pieces)
  at_switch : (c : Switch) (piece : Piece) (word : Text) (rest behind : List Text) (pieces : List Piece) → StandsAt c word rest piece → Says known false behind pieces
      → Follow known (fronts.Option c) word rest behind (piece ∷ pieces)

pub record HasFront (known : List Switch) (word : Text) (rest : List Text) (pieces : List Piece) : Type 0 where
  pub front : Front
  pub behind : List Text
  pub is : read_front known word rest ≡ Some (front, behind)
  pub follow : Follow known front word rest behind pieces

pub has_front : (known : List Switch) (word : Text) (rest : List Text) (pieces : List Piece) → Says known false (word ∷ rest) pieces → HasFront known word rest pieces
has_front known word rest pieces (Says.ends _ _ says) =
    record { front = fronts.End; behind = rest; is = refl; follow = Follow.at_end (codes "--") rest rest pieces says }
has_front known word rest pieces (Says.is_word _ _ others plain says) =
    record { front = fronts.Word; behind = rest; is = word_at known word rest plain; follow = Follow.at_word word rest rest others says }
has_front known word rest pieces (Says.is_flag c _ _ others dashed plain named alone says) = record {
  front = fronts.Option c;
  behind = rest;
  is = option_front known word rest rest c (no_end_named known word c named) dashed (flag_at known word rest c plain named alone);
  follow = Follow.at_switch c (Piece.flag c) word rest rest others (flag_stands c word rest alone) says;
}
has_front known word rest pieces (Says.is_valued c _ value more others dashed plain named some dash says) = record {
  front = fronts.Option c;
  behind = more;
  is = option_front known word (value ∷ more) more c (no_end_named known word c named) dashed (valued_at known word value more c plain named some dash);
  follow = Follow.at_switch c (Piece.valued c value) word (value ∷ more) more others (next_stands c word value more plain some) says;
}
has_front known word rest pieces (Says.is_joined_value c _ _ others dashed signed named some says) = record {
  front = fronts.Option c;
  behind = rest;
  is = option_front known word rest rest c (no_end_joined word signed) dashed (joined_at known word rest c signed named some);
  follow = Follow.at_switch c (Piece.valued c (value_of word)) word rest rest others (own_stands c word rest signed some) says;
}

-- ---- what stands at the front leads words

abbrev pub Leads : List Switch → Front → Text → List Text → List Text → Type 0
Leads known fronts.End word rest behind = (pieces : List Piece) → Says known true behind pieces → Says known false (word ∷ rest) pieces
Leads known fronts.Word word rest behind = (pieces : List Piece) → Says known false behind pieces → Says known false (word ∷ rest) (Piece.other word ∷ pieces)
Leads known (fronts.Option c) word rest behind =
    (piece : Piece) × StandsAt c word rest piece × ((pieces : List Piece) → Says known false behind pieces → Says known false (word ∷ rest) (piece ∷ pieces))

-- and takes no more words than there are
abbrev pub FrontLeads : List Switch → Text → List Text → Option (Front × List Text) → Type 0
FrontLeads known word rest None = ⊤
FrontLeads known word rest (Some f) = (length f.1 ≤ length rest) × Leads known f.0 word rest f.1

module _ (known : List Switch) (word : Text) (rest : List Text) where
  abbrev Switches : Taken → Type 0
  Switches o = FrontLeads known word rest (at_option o)

  by_flag : (c : Switch) → is_option word ≡ true → is_joined word ≡ false → option_in known word ≡ Some c → (b : Bool) → has_value c ≡ b
      → (values : List Text) → rest ≡ values → Switches (option_at known word rest)
  unfolding option_at
  by_flag c dashed plain named false alone values is =
      subst Switches (sym (flag_at known word rest c plain named alone))
      (omega arith, (Piece.flag c, flag_stands c word rest alone, λ pieces says. Says.is_flag c word rest pieces dashed plain named alone says))
  by_flag c dashed plain named true some [] is =
      subst Switches (sym (
      ap (λ (t : Bool). option_named known word rest (cond t (Some (front_of word)) None)) plain ∙ ap (option_and_then (taking_next rest)) named
      ∙ ap (λ (t : Bool). cond t (option_map (λ (more : List Text). (c, more)) (behind_value rest)) (Some (c, rest))) some
      ∙ ap (λ (r : List Text). option_map (λ (more : List Text). (c, more)) (behind_value r)) is)) tt
  by_flag c dashed plain named true some (value ∷ more) is = next_value (has_dash value) refl
    where
      next_value : (b : Bool) → has_dash value ≡ b → Switches (option_at known word rest)
      next_value true dash =
          subst Switches (sym (
          ap (λ (t : Bool). option_named known word rest (cond t (Some (front_of word)) None)) plain ∙ ap (option_and_then (taking_next rest)) named
          ∙ ap (λ (t : Bool). cond t (option_map (λ (m : List Text). (c, m)) (behind_value rest)) (Some (c, rest))) some
          ∙ ap (λ (r : List Text). option_map (λ (m : List Text). (c, m)) (behind_value r)) is
          ∙ ap (λ (t : Bool). option_map (λ (m : List Text). (c, m)) (cond t None (Some more))) dash)) tt
      next_value false dash =
          let at : option_at known word rest ≡ Some (c, more) = ap (option_at known word) is ∙ valued_at known word value more c plain named some dash in
          let len : length rest ≡ length (value ∷ more) = ap (λ (r : List Text). length r) is in
          subst Switches (sym at) (
            omega (arith, len),
            (
              Piece.valued c value,
              subst (λ (r : List Text). StandsAt c word r (Piece.valued c value)) (sym is) (next_stands c word value more plain some),
              λ pieces says. subst (λ (r : List Text). Says known false (word ∷ r) (Piece.valued c value ∷ pieces)) (sym is) (Says.is_valued c word value more pieces dashed plain named some dash says),
            ),
          )

  by_sign : (c : Switch) → is_option word ≡ true → is_joined word ≡ true → option_in known (front_of word) ≡ Some c → (b : Bool) → has_value c ≡ b → Switches (option_at known word rest)
  unfolding option_at
  by_sign c dashed signed named true some =
      subst Switches (sym (joined_at known word rest c signed named some))
      (omega arith, (Piece.valued c (value_of word), own_stands c word rest signed some, λ pieces says. Says.is_joined_value c word rest pieces dashed signed named some says))
  by_sign c dashed signed named false alone =
      subst Switches (sym (
      ap (λ (t : Bool). option_named known word rest (cond t (Some (front_of word)) None)) signed ∙ ap (option_and_then (taking_front rest)) named
      ∙ ap (λ (t : Bool). cond t (Some (c, rest)) None) alone)) tt

  plain_name : is_option word ≡ true → is_joined word ≡ false → (o : Option Switch) → option_in known word ≡ o → Switches (option_at known word rest)
  unfolding option_at
  plain_name dashed plain None named =
      subst Switches (sym (ap (λ (t : Bool). option_named known word rest (cond t (Some (front_of word)) None)) plain ∙ ap (option_and_then (taking_next rest)) named)) tt
  plain_name dashed plain (Some c) named = by_flag c dashed plain named (has_value c) refl rest refl

  signed_name : is_option word ≡ true → is_joined word ≡ true → (o : Option Switch) → option_in known (front_of word) ≡ o → Switches (option_at known word rest)
  unfolding option_at
  signed_name dashed signed None named =
      subst Switches (sym (ap (λ (t : Bool). option_named known word rest (cond t (Some (front_of word)) None)) signed ∙ ap (option_and_then (taking_front rest)) named)) tt
  signed_name dashed signed (Some c) named = by_sign c dashed signed named (has_value c) refl

  by_option : is_option word ≡ true → (b : Bool) → is_joined word ≡ b → Switches (option_at known word rest)
  by_option dashed true signed = signed_name dashed signed (option_in known (front_of word)) refl
  by_option dashed false plain = plain_name dashed plain (option_in known word) refl

  by_word : (b : Bool) → is_option word ≡ b → FrontLeads known word rest (cond (is_option word) (at_option (option_at known word rest)) (Some (fronts.Word, rest)))
  by_word true dashed =
      subst (λ (t : Bool). FrontLeads known word rest (cond t (at_option (option_at known word rest)) (Some (fronts.Word, rest)))) (sym dashed) (by_option dashed (is_joined word) refl)
  by_word false plain =
      subst (λ (t : Bool). FrontLeads known word rest (cond t (at_option (option_at known word rest)) (Some (fronts.Word, rest)))) (sym plain)
      (omega arith, λ pieces says. Says.is_word word rest pieces plain says)

  by_front : (b : Bool) → bytes_eq word (codes "--") ≡ b → FrontLeads known word rest (read_front known word rest)
  by_front true is =
      subst (λ (t : Bool). FrontLeads known word rest (cond t (Some (fronts.End, rest)) (cond (is_option word) (at_option (option_at known word rest)) (Some (fronts.Word, rest))))) (sym is)
      (omega arith, λ pieces says. subst (λ (w : Text). Says known false (w ∷ rest) pieces) (sym ((bytes_eq-Decides word (codes "--")).0 is)) (Says.ends rest pieces says))
  by_front false is =
      subst (λ (t : Bool). FrontLeads known word rest (cond t (Some (fronts.End, rest)) (cond (is_option word) (at_option (option_at known word rest)) (Some (fronts.Word, rest))))) (sym is)
      (by_word (is_option word) refl)

  pub front_leads : FrontLeads known word rest (read_front known word rest)
  front_leads = by_front (bytes_eq word (codes "--")) refl
