-- The rows of pieces: one row for each.
use Rattle.std.proofs.Common.{◌≡◌, ℕ, ◌≤◌, ◌&&◌, ◌||◌, ◌+◌, Bool, true, false, not, cond, List, [], ◌∷◌, ◌++◌, length, filter, Some, None, codes, refl, sym, ap, subst, ◌∙◌, arith}
use Rattle.std.specs.Bool.{⊤}
use Rattle.std.specs.List.{list_any}
use Rattle.std.specs.Str.{bytes_eq}
use Rattle.std.proofs.lemmas.Bool.{true≢false}
use Rattle.std.proofs.lemmas.List.{append-nil}
use Rattle.std.proofs.lemmas.List.Folds.{list_any-append}
use Rattle.clap.specs.Simple.{filled, new_rule, with_index}
use Rattle.clap.specs.Takes.{use_passes}
use Rattle.clap.specs.Walk.{Row, Rule, Text, at_row, has_row, more_values, used, with_values, without}
use Rattle.clap.specs.declared.builder.value_parser.Reading.TheVariants as reading
use Rattle.clap.specs.declared.parser.matches.ValueSource.{ValueSource}
use Rattle.clap.specs.declared.parser.matches.ValueSource.TheVariants.{CommandLine}
use Rattle.cli_words.specs.declared.switch.Switch.{Switch}
use Rattle.cli_words.specs.declared.switch.Switch.TheVariants as switches
use Rattle.cli_words.specs.Options.{Piece, has_value, is_switch, is_of}
use Rattle.cli_read.specs.ClapWords.Forms.{id_of, option_rule}

-- ---- the arguments, once they are built

abbrev pub built_option : Switch → Rule
built_option c = filled (option_rule c)

abbrev pub built_word : ℕ → Text → Rule
built_word k name = with_index k (filled (new_rule name))

-- ---- rows

abbrev pub row : Text → Text → Row
row id value = record { id = id; values = value ∷ []; count = None; source = Some CommandLine; reading = reading.AsWritten }

-- the other words take the names in turn
abbrev pub rows : List Piece → List Text → List Row
rows [] names = []
rows (Piece.flag c ∷ rest) names = row (id_of c) (codes "true") ∷ rows rest names
rows (Piece.valued c value ∷ rest) names = row (id_of c) value ∷ rows rest names
rows (Piece.other word ∷ rest) [] = rows rest []
rows (Piece.other word ∷ rest) (name ∷ names) = row name word ∷ rows rest names

-- ---- an argument that has no row gets one at the end

pub missing_at : (id : Text) (change : Row → List Row) (missing rs : List Row) → has_row id rs ≡ false → at_row id change missing rs ≡ rs ++ missing
missing_at id change missing [] none = refl
missing_at id change missing (r ∷ rs) none = either (bytes_eq r.id id) refl (missing_at id change missing rs)
  where
    either : (b : Bool) → bytes_eq r.id id ≡ b → (has_row id rs ≡ false → at_row id change missing rs ≡ rs ++ missing) → at_row id change missing (r ∷ rs) ≡ (r ∷ rs) ++ missing
    either true is later = absurd (true≢false (sym (ap (λ (t : Bool). t || has_row id rs) is) ∙ none))
    either false is later =
        ap (λ (t : Bool). cond t (change r ++ rs) (r ∷ at_row id change missing rs)) is
        ∙ ap (λ (l : List Row). r ∷ l) (later (sym (ap (λ (t : Bool). t || has_row id rs) is) ∙ none))

appended : (id : Text) (s : ValueSource) (value : Text) (rs : List Row) → has_row id rs ≡ false
    → with_values id reading.AsWritten s (value ∷ []) (without id rs) ≡ rs ++ record { id = id; values = value ∷ []; count = None; source = Some s; reading = reading.AsWritten } ∷ []
appended id s value rs none =
    let same : without id rs ≡ rs = missing_at id (λ _. []) [] rs none ∙ append-nil rs in
    ap (with_values id reading.AsWritten s (value ∷ [])) same
    ∙ missing_at id (more_values s (value ∷ [])) (record { id = id; values = value ∷ []; count = None; source = Some s; reading = reading.AsWritten } ∷ []) rs none

-- ---- a first use passes, and makes its row

passes : (b again : Bool) → b ≡ false → ((not b || again) && true) ≡ true
passes b again none = ap (λ (t : Bool). (not t || again) && true) none

pub flag_passes : (c : Switch) (again : Bool) (rs : List Row) → has_value c ≡ false → has_row (id_of c) rs ≡ false → use_passes again (built_option c) [] rs ≡ true
flag_passes switches.Lib again rs flag none = absurd (true≢false flag)
flag_passes switches.Preload again rs flag none = absurd (true≢false flag)
flag_passes switches.Harts again rs flag none = absurd (true≢false flag)
flag_passes switches.Fuel again rs flag none = absurd (true≢false flag)
flag_passes switches.Now again rs flag none = passes (has_row (codes "now") rs) again none
flag_passes switches.Trace again rs flag none = passes (has_row (codes "trace") rs) again none

pub flag_used : (c : Switch) (rs : List Row) → has_value c ≡ false → has_row (id_of c) rs ≡ false → used (built_option c) [] rs ≡ rs ++ row (id_of c) (codes "true") ∷ []
flag_used switches.Lib rs flag none = absurd (true≢false flag)
flag_used switches.Preload rs flag none = absurd (true≢false flag)
flag_used switches.Harts rs flag none = absurd (true≢false flag)
flag_used switches.Fuel rs flag none = absurd (true≢false flag)
flag_used switches.Now rs flag none = appended (codes "now") CommandLine (codes "true") rs none
flag_used switches.Trace rs flag none = appended (codes "trace") CommandLine (codes "true") rs none

no_value : {A : Type 0} → false ≡ true → A
no_value e = absurd (true≢false (sym e))

pub value_passes : (c : Switch) (again : Bool) (value : Text) (rs : List Row) → has_value c ≡ true → has_row (id_of c) rs ≡ false
    → use_passes again (built_option c) (value ∷ []) rs ≡ true
value_passes switches.Lib again value rs valued none = passes (has_row (codes "lib") rs) again none
value_passes switches.Preload again value rs valued none = passes (has_row (codes "preload") rs) again none
value_passes switches.Harts again value rs valued none = passes (has_row (codes "harts") rs) again none
value_passes switches.Fuel again value rs valued none = passes (has_row (codes "fuel") rs) again none
value_passes switches.Now again value rs valued none = no_value valued
value_passes switches.Trace again value rs valued none = no_value valued

pub value_used : (c : Switch) (value : Text) (rs : List Row) → has_value c ≡ true → has_row (id_of c) rs ≡ false
    → used (built_option c) (value ∷ []) rs ≡ rs ++ row (id_of c) value ∷ []
value_used switches.Lib value rs valued none = appended (codes "lib") CommandLine value rs none
value_used switches.Preload value rs valued none = appended (codes "preload") CommandLine value rs none
value_used switches.Harts value rs valued none = appended (codes "harts") CommandLine value rs none
value_used switches.Fuel value rs valued none = appended (codes "fuel") CommandLine value rs none
value_used switches.Now value rs valued none = no_value valued
value_used switches.Trace value rs valued none = no_value valued

pub word_passes : (k : ℕ) (name word : Text) (again : Bool) (rs : List Row) → has_row name rs ≡ false → use_passes again (built_word k name) (word ∷ []) rs ≡ true
word_passes k name word again rs none = passes (has_row name rs) again none

pub word_used : (k : ℕ) (name word : Text) (rs : List Row) → has_row name rs ≡ false → used (built_word k name) (word ∷ []) rs ≡ rs ++ row name word ∷ []
word_used k name word rs none = appended name CommandLine word rs none

-- ---- what has no row yet

-- an option that has a row stands no more
pub record IsOnce (c : Switch) (rs : List Row) (pieces : List Piece) : Type 0 where
  pub free : has_row (id_of c) rs ≡ true → length (filter (is_of c) pieces) ≡ 0
  pub once : length (filter (is_of c) pieces) ≤ 1

abbrev pub AreOnce : List Row → List Piece → Type 0
AreOnce rs pieces = (c : Switch) → IsOnce c rs pieces

-- the names that are left have no row
abbrev pub AreFresh : List Text → List Row → Type 0
AreFresh [] rs = ⊤
AreFresh (name ∷ names) rs = (has_row name rs ≡ false) × AreFresh names rs

-- no name is another's, or an option's
abbrev pub AreApart : List Text → Type 0
AreApart [] = ⊤
AreApart (name ∷ names) = ((c : Switch) → bytes_eq (id_of c) name ≡ false) × ((c : Switch) → bytes_eq name (id_of c) ≡ false) × (list_any (bytes_eq name) names ≡ false) × AreApart names

-- the option of a piece
pub data IsPieceOf : Switch → Piece → Text → Type 0 where
  flag : (c : Switch) → IsPieceOf c (Piece.flag c) (codes "true")
  valued : (c : Switch) (value : Text) → IsPieceOf c (Piece.valued c value) value

same_switch : (c : Switch) → is_switch c c ≡ true
same_switch switches.Lib = refl
same_switch switches.Preload = refl
same_switch switches.Harts = refl
same_switch switches.Fuel = refl
same_switch switches.Now = refl
same_switch switches.Trace = refl

abbrev Alike : Switch → Switch → Type 0
Alike c d = bytes_eq (id_of d) (id_of c) ≡ is_switch c d

elim_switch : (c : Switch) → Alike c switches.Lib → Alike c switches.Preload → Alike c switches.Harts → Alike c switches.Fuel → Alike c switches.Now → Alike c switches.Trace
    → (d : Switch) → Alike c d
elim_switch c lib preload harts fuel now trace switches.Lib = lib
elim_switch c lib preload harts fuel now trace switches.Preload = preload
elim_switch c lib preload harts fuel now trace switches.Harts = harts
elim_switch c lib preload harts fuel now trace switches.Fuel = fuel
elim_switch c lib preload harts fuel now trace switches.Now = now
elim_switch c lib preload harts fuel now trace switches.Trace = trace

-- names are alike where the options are the same
pub alike : (c d : Switch) → bytes_eq (id_of d) (id_of c) ≡ is_switch c d
alike switches.Lib = elim_switch switches.Lib refl refl refl refl refl refl
alike switches.Preload = elim_switch switches.Preload refl refl refl refl refl refl
alike switches.Harts = elim_switch switches.Harts refl refl refl refl refl refl
alike switches.Fuel = elim_switch switches.Fuel refl refl refl refl refl refl
alike switches.Now = elim_switch switches.Now refl refl refl refl refl refl
alike switches.Trace = elim_switch switches.Trace refl refl refl refl refl refl

of_piece : (c d : Switch) (piece : Piece) (value : Text) → IsPieceOf d piece value → is_of c piece ≡ is_switch c d
of_piece c d piece value (IsPieceOf.flag _) = refl
of_piece c d piece value (IsPieceOf.valued _ _) = refl

or_false : (t : Bool) → (t || false) ≡ t
or_false true = refl
or_false false = refl

has_last : (id : Text) (rs : List Row) (r : Row) → has_row id (rs ++ r ∷ []) ≡ (has_row id rs || bytes_eq r.id id)
has_last id rs r = list_any-append (λ (x : Row). bytes_eq x.id id) rs (r ∷ []) ∙ ap (λ (t : Bool). has_row id rs || t) (or_false (bytes_eq r.id id))

still : (c : Switch) (pieces : List Piece) (piece : Piece) (b : Bool) → is_of c piece ≡ b → length (filter (is_of c) (piece ∷ pieces)) ≡ cond b (length (filter (is_of c) pieces) + 1) (length (filter (is_of c) pieces))
still c pieces piece true is = ap (λ (t : Bool). length (cond t (piece ∷ filter (is_of c) pieces) (filter (is_of c) pieces))) is ∙ omega arith
still c pieces piece false is = ap (λ (t : Bool). length (cond t (piece ∷ filter (is_of c) pieces) (filter (is_of c) pieces))) is

-- the option of the first piece has no row
pub fresh_option : (d : Switch) (piece : Piece) (value : Text) (pieces : List Piece) (rs : List Row) → IsPieceOf d piece value → AreOnce rs (piece ∷ pieces) → has_row (id_of d) rs ≡ false
fresh_option d piece value pieces rs of once = either (has_row (id_of d) rs) refl
  where
    either : (b : Bool) → has_row (id_of d) rs ≡ b → has_row (id_of d) rs ≡ false
    either true is =
        let none : length (filter (is_of d) (piece ∷ pieces)) ≡ 0 = (once d).free is in
        let some : length (filter (is_of d) (piece ∷ pieces)) ≡ length (filter (is_of d) pieces) + 1 = still d pieces piece true (of_piece d d piece value of ∙ same_switch d) in
        absurd (omega (arith, none, some))
    either false is = is

-- with its row it stands no more
pub once_more : (d : Switch) (piece : Piece) (value : Text) (pieces : List Piece) (rs : List Row) → IsPieceOf d piece value → AreOnce rs (piece ∷ pieces)
    → AreOnce (rs ++ row (id_of d) value ∷ []) pieces
once_more d piece value pieces rs of once c = either (is_switch c d) refl
  where
    either : (b : Bool) → is_switch c d ≡ b → IsOnce c (rs ++ row (id_of d) value ∷ []) pieces
    either true is =
        let count : length (filter (is_of c) (piece ∷ pieces)) ≡ length (filter (is_of c) pieces) + 1 = still c pieces piece true (of_piece c d piece value of ∙ is) in
        let most : length (filter (is_of c) (piece ∷ pieces)) ≤ 1 = (once c).once in
        record { free = λ has. omega (arith, count, most); once = omega (arith, count, most) }
    either false is =
        let count : length (filter (is_of c) (piece ∷ pieces)) ≡ length (filter (is_of c) pieces) = still c pieces piece false (of_piece c d piece value of ∙ is) in
        let old : has_row (id_of c) (rs ++ row (id_of d) value ∷ []) ≡ has_row (id_of c) rs = has_last (id_of c) rs (row (id_of d) value) ∙ ap (λ (t : Bool). has_row (id_of c) rs || t) (alike c d ∙ is) ∙ or_false (has_row (id_of c) rs) in
        record { free = λ has. sym count ∙ (once c).free (sym old ∙ has); once = subst (λ (n : ℕ). n ≤ 1) count (once c).once }

pub once_word : (word name : Text) (pieces : List Piece) (rs : List Row) → ((c : Switch) → bytes_eq name (id_of c) ≡ false) → AreOnce rs (Piece.other word ∷ pieces)
    → AreOnce (rs ++ row name word ∷ []) pieces
once_word word name pieces rs apart once c =
    let old : has_row (id_of c) (rs ++ row name word ∷ []) ≡ has_row (id_of c) rs = has_last (id_of c) rs (row name word) ∙ ap (λ (t : Bool). has_row (id_of c) rs || t) (apart c) ∙ or_false (has_row (id_of c) rs) in
    record { free = λ has. (once c).free (sym old ∙ has); once = (once c).once }

still_fresh : (name : Text) (rs : List Row) (r : Row) → bytes_eq r.id name ≡ false → has_row name rs ≡ false → has_row name (rs ++ r ∷ []) ≡ false
still_fresh name rs r apart none = has_last name rs r ∙ ap (λ (t : Bool). has_row name rs || t) apart ∙ ap (λ (t : Bool). t || false) none

pub fresh_names : (names : List Text) (d : Switch) (value : Text) (rs : List Row) → AreApart names → AreFresh names rs → AreFresh names (rs ++ row (id_of d) value ∷ [])
fresh_names [] d value rs apart fresh = tt
fresh_names (name ∷ names) d value rs apart fresh = (still_fresh name rs (row (id_of d) value) (apart.0 d) fresh.0, fresh_names names d value rs apart.3 fresh.1)

pub fresh_after : (names : List Text) (name word : Text) (rs : List Row) → list_any (bytes_eq name) names ≡ false → AreFresh names rs → AreFresh names (rs ++ row name word ∷ [])
fresh_after [] name word rs apart fresh = tt
fresh_after (next ∷ names) name word rs apart fresh =
    let both = split (bytes_eq name next) (list_any (bytes_eq name) names) apart in
    (still_fresh next rs (row name word) both.0 fresh.0, fresh_after names name word rs both.1 fresh.1)
  where
    split : (a b : Bool) → (a || b) ≡ false → (a ≡ false) × (b ≡ false)
    split true b e = absurd (true≢false e)
    split false b e = (refl, e)
