-- Words say one list of pieces.
use Rattle.std.proofs.Common.{◌≡◌, ℕ, Bool, true, false, cond, List, [], ◌∷◌, map, Option, Some, None, codes, refl, sym, ap, ◌∙◌}
use Rattle.std.specs.Option.{option_map}
use Rattle.cli_words.specs.declared.switch.Switch.{Switch}
use Rattle.cli_words.specs.declared.switch.Switch.TheVariants as switches
use Rattle.cli_words.specs.Options.{Piece, Says, front_of, has_dash, has_value, is_end, is_joined, is_option, option_in, value_of}

abbrev pub Pieces : Type 0
Pieces = Option (List Piece)

abbrev more : Piece → Pieces → Pieces
more piece rest = option_map (λ pieces. piece ∷ pieces) rest

-- behind two dashes
abbrev behind : List (List ℕ) → List Piece
behind words = map (λ w. Piece.other w) words

-- an option with the word behind it
abbrev with_value : Switch → List (List ℕ) → Pieces → Pieces
with_value switch [] rest = None
with_value switch (value ∷ words) rest = cond (has_dash value) None (more (Piece.valued switch value) rest)

abbrev at_front : List ℕ → Pieces → Option Switch → Pieces
at_front word rest None = None
at_front word rest (Some switch) = cond (has_value switch) (more (Piece.valued switch (value_of word)) rest) None

abbrev at_name : List ℕ → List (List ℕ) → Pieces → Pieces → Option Switch → Pieces
at_name word words rest valued None = cond (is_end word) (Some (behind words)) None
at_name word words rest valued (Some switch) = cond (has_value switch) (with_value switch words valued) (more (Piece.flag switch) rest)

abbrev at_word : List Switch → List ℕ → List (List ℕ) → Pieces → Pieces → Pieces
at_word known word words rest valued =
    cond (is_option word)
    (cond (is_joined word) (at_front word rest (option_in known (front_of word))) (at_name word words rest valued (option_in known word)))
    (more (Piece.other word) rest)

-- of words, and of the words behind the first
abbrev pub both : List Switch → List (List ℕ) → Pieces × Pieces
both known [] = (Some [], None)
both known (word ∷ words) = (at_word known word words (both known words).0 (both known words).1, (both known words).0)

-- ---- what is said is read

behind_says : (known : List Switch) (words : List (List ℕ)) (pieces : List Piece) → Says known true words pieces → pieces ≡ behind words
behind_says known words pieces (Says.no_more _) = refl
behind_says known words pieces (Says.is_behind word rest others says) = ap (λ (ps : List Piece). Piece.other word ∷ ps) (behind_says known rest others says)

no_name : (known : List Switch) → option_in known (codes "--") ≡ None
no_name [] = refl
no_name (switches.Lib ∷ rest) = no_name rest
no_name (switches.Preload ∷ rest) = no_name rest
no_name (switches.Harts ∷ rest) = no_name rest
no_name (switches.Fuel ∷ rest) = no_name rest
no_name (switches.Now ∷ rest) = no_name rest
no_name (switches.Trace ∷ rest) = no_name rest

pub read_says : (known : List Switch) (words : List (List ℕ)) (pieces : List Piece) → Says known false words pieces → (both known words).0 ≡ Some pieces
read_says known words pieces (Says.no_more _) = refl
read_says known words pieces (Says.ends rest others says) =
    ap (at_name (codes "--") rest (both known rest).0 (both known rest).1) (no_name known) ∙ ap (λ (ps : List Piece). Some ps) (sym (behind_says known rest others says))
read_says known words pieces (Says.is_word word rest others plain says) =
    ap (λ (t : Bool). cond t (cond (is_joined word) (at_front word (both known rest).0 (option_in known (front_of word))) (at_name word rest (both known rest).0 (both known rest).1 (option_in known word))) (more (Piece.other word) (both known rest).0)) plain
    ∙ ap (more (Piece.other word)) (read_says known rest others says)
read_says known words pieces (Says.is_flag switch word rest others option plain named flag says) =
    ap (λ (t : Bool). cond t (cond (is_joined word) (at_front word (both known rest).0 (option_in known (front_of word))) (at_name word rest (both known rest).0 (both known rest).1 (option_in known word))) (more (Piece.other word) (both known rest).0)) option
    ∙ ap (λ (t : Bool). cond t (at_front word (both known rest).0 (option_in known (front_of word))) (at_name word rest (both known rest).0 (both known rest).1 (option_in known word))) plain
    ∙ ap (at_name word rest (both known rest).0 (both known rest).1) named
    ∙ ap (λ (t : Bool). cond t (with_value switch rest (both known rest).1) (more (Piece.flag switch) (both known rest).0)) flag
    ∙ ap (more (Piece.flag switch)) (read_says known rest others says)
read_says known words pieces (Says.is_valued switch word value rest others option plain named valued dash says) =
    ap (λ (t : Bool). cond t (cond (is_joined word) (at_front word (both known (value ∷ rest)).0 (option_in known (front_of word))) (at_name word (value ∷ rest) (both known (value ∷ rest)).0 (both known rest).0 (option_in known word))) (more (Piece.other word) (both known (value ∷ rest)).0)) option
    ∙ ap (λ (t : Bool). cond t (at_front word (both known (value ∷ rest)).0 (option_in known (front_of word))) (at_name word (value ∷ rest) (both known (value ∷ rest)).0 (both known rest).0 (option_in known word))) plain
    ∙ ap (at_name word (value ∷ rest) (both known (value ∷ rest)).0 (both known rest).0) named
    ∙ ap (λ (t : Bool). cond t (with_value switch (value ∷ rest) (both known rest).0) (more (Piece.flag switch) (both known (value ∷ rest)).0)) valued
    ∙ ap (λ (t : Bool). cond t None (more (Piece.valued switch value) (both known rest).0)) dash
    ∙ ap (more (Piece.valued switch value)) (read_says known rest others says)
read_says known words pieces (Says.is_joined_value switch word rest others option joined named valued says) =
    ap (λ (t : Bool). cond t (cond (is_joined word) (at_front word (both known rest).0 (option_in known (front_of word))) (at_name word rest (both known rest).0 (both known rest).1 (option_in known word))) (more (Piece.other word) (both known rest).0)) option
    ∙ ap (λ (t : Bool). cond t (at_front word (both known rest).0 (option_in known (front_of word))) (at_name word rest (both known rest).0 (both known rest).1 (option_in known word))) joined
    ∙ ap (at_front word (both known rest).0) named
    ∙ ap (λ (t : Bool). cond t (more (Piece.valued switch (value_of word)) (both known rest).0) None) valued
    ∙ ap (more (Piece.valued switch (value_of word))) (read_says known rest others says)

some_is : {X : Type 0} (x y : X) → Some x ≡ Some y → x ≡ y
some_is x y e = cc

pub one_saying : (known : List Switch) (words : List (List ℕ)) (pieces others : List Piece) → Says known false words pieces → Says known false words others → pieces ≡ others
one_saying known words pieces others x y = some_is pieces others (sym (read_says known words pieces x) ∙ read_says known words others y)

none_is : {X : Type 0} (x : X) → None ≡ Some x → ⊥
none_is x e = let d : None ≡ Some x = e in cc

pub not_said : (known : List Switch) (words : List (List ℕ)) → (both known words).0 ≡ None → (pieces : List Piece) → Says known false words pieces → ⊥
not_said known words none pieces says = none_is pieces (sym none ∙ read_says known words pieces says)

pub said_as : (known : List Switch) (words : List (List ℕ)) (pieces others : List Piece) → (both known words).0 ≡ Some others → Says known false words pieces → pieces ≡ others
said_as known words pieces others is says = some_is pieces others (sym (read_says known words pieces says) ∙ is)
