-- What is found in the rows of pieces.
use Rattle.std.proofs.Common.{◌≡◌, ◌&&◌, ◌||◌, Bool, true, false, not, cond, List, [], ◌∷◌, ◌++◌, find, fold, length, Option, Some, None, codes, refl, sym, ap, ◌∙◌, arith}
use Rattle.std.specs.Bool.{⊤}
use Rattle.std.specs.List.{list_all, list_any, slice_get}
use Rattle.std.specs.Prelude.{option_and_then}
use Rattle.std.specs.Str.{bytes_eq}
use Rattle.std.proofs.lemmas.Bool.{true≢false}
use Rattle.std.proofs.lemmas.Slice.Eq.{bytes_eq-Decides}
use Rattle.clap.specs.Walk.{Row, Rule, Text, arg_by_id, default_rows, first_of, has_row, is_empty, more_values, reading_by, with_default}
use Rattle.clap.specs.declared.builder.value_parser.Reading.{Reading}
use Rattle.clap.specs.declared.parser.matches.ValueSource.TheVariants.{DefaultValue}
use Rattle.cli_words.specs.declared.switch.Switch.{Switch}
use Rattle.cli_words.specs.declared.switch.Switch.TheVariants as switches
use Rattle.cli_words.specs.Options.{Piece, Says, all_switches, given, has_value, is_switch, is_of, name_of, option_in, stands, value_in, words_of}
use Rattle.cli_read.specs.ClapWords.Forms.{id_of}
use Rattle.cli_read.specs.ClapWords.Taken.{AreNamed}
use Rattle.cli_read.proofs.ClapWords.Rows.{AreApart, alike, missing_at, row, rows}

-- ---- pieces of words have values where their options have

abbrev pub AreFormed : List Piece → Type 0
AreFormed [] = ⊤
AreFormed (Piece.flag c ∷ rest) = (has_value c ≡ false) × AreFormed rest
AreFormed (Piece.valued c v ∷ rest) = (has_value c ≡ true) × AreFormed rest
AreFormed (Piece.other word ∷ rest) = AreFormed rest

pub formed : (known : List Switch) (ended : Bool) (words : List Text) (pieces : List Piece) → Says known ended words pieces → AreFormed pieces
formed known ended words pieces (Says.no_more _) = tt
formed known ended words pieces (Says.ends rest others says) = formed known true rest others says
formed known ended words pieces (Says.is_word word rest others plain says) = formed known false rest others says
formed known ended words pieces (Says.is_behind word rest others says) = formed known true rest others says
formed known ended words pieces (Says.is_flag c word rest others dashed plain is flag says) = (flag, formed known false rest others says)
formed known ended words pieces (Says.is_valued c word v rest others dashed plain is valued dash says) = (valued, formed known false rest others says)
formed known ended words pieces (Says.is_joined_value c word rest others dashed signed is valued says) = (valued, formed known false rest others says)

-- ---- options of one name

by_name : (c : Switch) → option_in all_switches (name_of c) ≡ Some c
by_name switches.Lib = refl
by_name switches.Preload = refl
by_name switches.Harts = refl
by_name switches.Fuel = refl
by_name switches.Now = refl
by_name switches.Trace = refl

same_is : (c d : Switch) → is_switch c d ≡ true → c ≡ d
same_is c d same = some_is c d (sym (by_name c) ∙ ap (option_in all_switches) ((bytes_eq-Decides (name_of c) (name_of d)).0 same) ∙ by_name d)
  where
    some_is : (x y : Switch) → Some x ≡ Some y → x ≡ y
    some_is x y e = cc

differ : (c d : Switch) (v : Bool) → has_value c ≡ v → has_value d ≡ not v → is_switch c d ≡ false
differ c d v one other = either (is_switch c d) refl
  where
    no_both : (b : Bool) → b ≡ not b → ⊥
    no_both true e = true≢false e
    no_both false e = true≢false (sym e)

    either : (b : Bool) → is_switch c d ≡ b → is_switch c d ≡ false
    either true is = absurd (no_both v (sym one ∙ ap has_value (same_is c d is) ∙ other))
    either false is = is

-- ---- rows

abbrev pub row_in : Text → List Row → Option Row
row_in id rs = find (λ r. bytes_eq r.id id) rs

abbrev first_value : Option Row → Option Text
first_value = option_and_then (λ r. slice_get r.values 0)

abbrev piece_value : Option Piece → Option Text
piece_value o = elim o [ Some piece ↦ value_in piece | None ↦ None ]

pub value_found : (c : Switch) → has_value c ≡ true → (pieces : List Piece) (names : List Text) → AreFormed pieces → AreApart names → first_of (id_of c) (rows pieces names) ≡ given c pieces
value_found c valued [] names form apart = refl
value_found c valued (Piece.flag d ∷ rest) names form apart =
    let no : is_switch c d ≡ false = differ c d true valued form.0 in
    ap (λ (t : Bool). first_value (cond t (Some (row (id_of d) (codes "true"))) (row_in (id_of c) (rows rest names)))) (alike c d ∙ no)
    ∙ value_found c valued rest names form.1 apart
    ∙ sym (ap (λ (t : Bool). piece_value (cond t (Some (Piece.flag d)) (find (is_of c) rest))) no)
value_found c valued (Piece.valued d v ∷ rest) names form apart = either (is_switch c d) refl (value_found c valued rest names form.1 apart)
  where
    either : (b : Bool) → is_switch c d ≡ b → first_of (id_of c) (rows rest names) ≡ given c rest
        → first_of (id_of c) (rows (Piece.valued d v ∷ rest) names) ≡ given c (Piece.valued d v ∷ rest)
    either true is later =
        ap (λ (t : Bool). first_value (cond t (Some (row (id_of d) v)) (row_in (id_of c) (rows rest names)))) (alike c d ∙ is)
        ∙ sym (ap (λ (t : Bool). piece_value (cond t (Some (Piece.valued d v)) (find (is_of c) rest))) is)
    either false is later =
        ap (λ (t : Bool). first_value (cond t (Some (row (id_of d) v)) (row_in (id_of c) (rows rest names)))) (alike c d ∙ is)
        ∙ later
        ∙ sym (ap (λ (t : Bool). piece_value (cond t (Some (Piece.valued d v)) (find (is_of c) rest))) is)
value_found c valued (Piece.other word ∷ rest) [] form apart = value_found c valued rest [] form apart
value_found c valued (Piece.other word ∷ rest) (name ∷ names) form apart =
    ap (λ (t : Bool). first_value (cond t (Some (row name word)) (row_in (id_of c) (rows rest names)))) (apart.1 c)
    ∙ value_found c valued rest names form apart.3

-- a flag's row, where it stands
abbrev pub flag_row : Switch → Bool → Option Row
flag_row c b = cond b (Some (row (id_of c) (codes "true"))) None

pub flag_found : (c : Switch) → has_value c ≡ false → (pieces : List Piece) (names : List Text) → AreFormed pieces → AreApart names
    → row_in (id_of c) (rows pieces names) ≡ flag_row c (stands c pieces)
flag_found c flag [] names form apart = refl
flag_found c flag (Piece.valued d v ∷ rest) names form apart =
    let no : is_switch c d ≡ false = differ c d false flag form.0 in
    ap (λ (t : Bool). cond t (Some (row (id_of d) v)) (row_in (id_of c) (rows rest names))) (alike c d ∙ no)
    ∙ flag_found c flag rest names form.1 apart
    ∙ sym (ap (λ (t : Bool). flag_row c (t || list_any (is_of c) rest)) no)
flag_found c flag (Piece.flag d ∷ rest) names form apart = either (is_switch c d) refl (flag_found c flag rest names form.1 apart)
  where
    either : (b : Bool) → is_switch c d ≡ b → row_in (id_of c) (rows rest names) ≡ flag_row c (stands c rest)
        → row_in (id_of c) (rows (Piece.flag d ∷ rest) names) ≡ flag_row c (stands c (Piece.flag d ∷ rest))
    either true is later =
        ap (λ (t : Bool). cond t (Some (row (id_of d) (codes "true"))) (row_in (id_of c) (rows rest names))) (alike c d ∙ is)
        ∙ ap (λ (x : Switch). Some (row (id_of x) (codes "true"))) (sym (same_is c d is))
        ∙ sym (ap (λ (t : Bool). flag_row c (t || list_any (is_of c) rest)) is)
    either false is later =
        ap (λ (t : Bool). cond t (Some (row (id_of d) (codes "true"))) (row_in (id_of c) (rows rest names))) (alike c d ∙ is)
        ∙ later
        ∙ sym (ap (λ (t : Bool). flag_row c (t || list_any (is_of c) rest)) is)
flag_found c flag (Piece.other word ∷ rest) [] form apart = flag_found c flag rest [] form apart
flag_found c flag (Piece.other word ∷ rest) (name ∷ names) form apart =
    ap (λ (t : Bool). cond t (Some (row name word)) (row_in (id_of c) (rows rest names))) (apart.1 c) ∙ flag_found c flag rest names form apart.3

-- ---- the other words

passed_over : (names others : List Text) (r : Row) (rs : List Row) → list_any (bytes_eq r.id) names ≡ false → AreNamed names others rs → AreNamed names others (r ∷ rs)
passed_over [] others r rs none named = named
passed_over (name ∷ names) [] r rs none named = named
passed_over (name ∷ names) (word ∷ words) r rs none named =
    let both = split (bytes_eq r.id name) (list_any (bytes_eq r.id) names) none in
    (ap (λ (t : Bool). first_value (cond t (Some r) (row_in name rs))) both.0 ∙ named.0, passed_over names words r rs both.1 named.1)
  where
    split : (a b : Bool) → (a || b) ≡ false → (a ≡ false) × (b ≡ false)
    split true b e = absurd (true≢false e)
    split false b e = (refl, e)

no_name : (c : Switch) (names : List Text) → AreApart names → list_any (bytes_eq (id_of c)) names ≡ false
no_name c [] apart = refl
no_name c (name ∷ names) apart = ap (λ (t : Bool). t || list_any (bytes_eq (id_of c)) names) (apart.0 c) ∙ no_name c names apart.3

pub words_found : (pieces : List Piece) (names : List Text) → AreApart names → length (words_of pieces) ≡ length names → AreNamed names (words_of pieces) (rows pieces names)
words_found [] [] apart count = refl
words_found [] (name ∷ names) apart count = absurd (omega (arith, count))
words_found (Piece.flag c ∷ rest) names apart count =
    passed_over names (words_of rest) (row (id_of c) (codes "true")) (rows rest names) (no_name c names apart) (words_found rest names apart count)
words_found (Piece.valued c v ∷ rest) names apart count =
    passed_over names (words_of rest) (row (id_of c) v) (rows rest names) (no_name c names apart) (words_found rest names apart count)
words_found (Piece.other word ∷ rest) [] apart count = absurd (omega (arith, count))
words_found (Piece.other word ∷ rest) (name ∷ names) apart count = (
  ap (λ (t : Bool). first_value (cond t (Some (row name word)) (row_in name (rows rest names)))) ((bytes_eq-Decides name name).1 refl),
  passed_over names (words_of rest) (row name word) (rows rest names) apart.2 (words_found rest names apart.3 (omega (arith, count))),
)

-- ---- defaults

find_later : (id : Text) (rs : List Row) (r : Row) → bytes_eq r.id id ≡ false → row_in id (rs ++ r ∷ []) ≡ row_in id rs
find_later id [] r none = ap (λ (t : Bool). cond t (Some r) None) none
find_later id (x ∷ rs) r none = ap (λ (o : Option Row). cond (bytes_eq x.id id) (Some x) o) (find_later id rs r none)

find_still : (id : Text) (rs more : List Row) (r : Row) → row_in id rs ≡ Some r → row_in id (rs ++ more) ≡ Some r
find_still id [] more r is = absurd (none_some r is)
  where
    none_some : (x : Row) → None ≡ Some x → ⊥
    none_some x e = let d : None ≡ Some x = e in cc
find_still id (x ∷ rs) more r is = either (bytes_eq x.id id) refl (find_still id rs more r)
  where
    either : (b : Bool) → bytes_eq x.id id ≡ b → (row_in id rs ≡ Some r → row_in id (rs ++ more) ≡ Some r) → cond (bytes_eq x.id id) (Some x) (row_in id (rs ++ more)) ≡ Some r
    either true e later = ap (λ (t : Bool). cond t (Some x) (row_in id (rs ++ more))) e ∙ sym (ap (λ (t : Bool). cond t (Some x) (row_in id rs)) e) ∙ is
    either false e later = ap (λ (t : Bool). cond t (Some x) (row_in id (rs ++ more))) e ∙ later (sym (ap (λ (t : Bool). cond t (Some x) (row_in id rs)) e) ∙ is)

find_last : (id : Text) (rs : List Row) (r : Row) → row_in id rs ≡ None → bytes_eq r.id id ≡ true → row_in id (rs ++ r ∷ []) ≡ Some r
find_last id [] r none is = ap (λ (t : Bool). cond t (Some r) None) is
find_last id (x ∷ rs) r none is = either (bytes_eq x.id id) refl (λ e. find_last id rs r e is)
  where
    some_none : (y : Row) → Some y ≡ None → ⊥
    some_none y e = let d : Some y ≡ None = e in cc

    either : (b : Bool) → bytes_eq x.id id ≡ b → (row_in id rs ≡ None → row_in id (rs ++ r ∷ []) ≡ Some r) → cond (bytes_eq x.id id) (Some x) (row_in id (rs ++ r ∷ [])) ≡ Some r
    either true e later = absurd (some_none x (sym (ap (λ (t : Bool). cond t (Some x) (row_in id rs)) e) ∙ none))
    either false e later = ap (λ (t : Bool). cond t (Some x) (row_in id (rs ++ r ∷ []))) e ∙ later (sym (ap (λ (t : Bool). cond t (Some x) (row_in id rs)) e) ∙ none)

none_found : (id : Text) (rs : List Row) → row_in id rs ≡ None → has_row id rs ≡ false
none_found id [] none = refl
none_found id (x ∷ rs) none = either (bytes_eq x.id id) refl (none_found id rs)
  where
    some_none : (y : Row) → Some y ≡ None → ⊥
    some_none y e = let d : Some y ≡ None = e in cc

    either : (b : Bool) → bytes_eq x.id id ≡ b → (row_in id rs ≡ None → has_row id rs ≡ false) → (bytes_eq x.id id || has_row id rs) ≡ false
    either true e later = absurd (some_none x (sym (ap (λ (t : Bool). cond t (Some x) (row_in id rs)) e) ∙ none))
    either false e later = ap (λ (t : Bool). t || has_row id rs) e ∙ later (sym (ap (λ (t : Bool). cond t (Some x) (row_in id rs)) e) ∙ none)

abbrev pub default_row : Text → Reading → Text → List Text → Row
default_row id how v vs = record { id = id; values = v ∷ vs; count = None; source = Some DefaultValue; reading = how }

abbrev values_row : Rule → List Text → Row
values_row a xs = record { id = a.id; values = xs; count = None; source = Some DefaultValue; reading = reading_by a }

-- an argument leaves the rows as they are, or adds a row of its own
data Defaults (a : Rule) (rs after : List Row) : Type 0 where
  has_one : has_row a.id rs ≡ true → after ≡ rs → Defaults a rs after
  has_none : a.defaults ≡ [] → after ≡ rs → Defaults a rs after
  adds : (v : Text) (vs : List Text) → a.defaults ≡ v ∷ vs → has_row a.id rs ≡ false → after ≡ rs ++ default_row a.id (reading_by a) v vs ∷ [] → Defaults a rs after

by_default : (a : Rule) (rs : List Row) → Defaults a rs (with_default rs a)
by_default a rs = either (has_row a.id rs) refl a.defaults refl
  where
    either : (b : Bool) → has_row a.id rs ≡ b → (values : List Text) → a.defaults ≡ values → Defaults a rs (with_default rs a)
    either true has values is = Defaults.has_one has (ap (λ (t : Bool). cond t rs (default_rows a.id (reading_by a) a.defaults rs)) has)
    either false has [] is =
        Defaults.has_none is (ap (λ (t : Bool). cond t rs (default_rows a.id (reading_by a) a.defaults rs)) has ∙ ap (λ (vs : List Text). default_rows a.id (reading_by a) vs rs) is)
    either false has (v ∷ vs) is =
        Defaults.adds v vs is has
        (ap (λ (t : Bool). cond t rs (default_rows a.id (reading_by a) a.defaults rs)) has ∙ ap (λ (xs : List Text). default_rows a.id (reading_by a) xs rs) is
        ∙ missing_at a.id (more_values DefaultValue (v ∷ vs)) (default_row a.id (reading_by a) v vs ∷ []) rs has)

-- an argument that has no default, or another name
abbrev pub is_quiet : Text → Rule → Bool
is_quiet id a = is_empty a.defaults || not (bytes_eq a.id id)

not_empty : (v : Text) (vs : List Text) → is_empty (v ∷ vs) ≡ false
not_empty v vs = search (arith)

quiet_step : (id : Text) (a : Rule) (rs after : List Row) → is_quiet id a ≡ true → Defaults a rs after → row_in id after ≡ row_in id rs
quiet_step id a rs after quiet (Defaults.has_one has is) = ap (row_in id) is
quiet_step id a rs after quiet (Defaults.has_none none is) = ap (row_in id) is
quiet_step id a rs after quiet (Defaults.adds v vs some has is) =
    ap (row_in id) is ∙ find_later id rs (default_row a.id (reading_by a) v vs) (other (bytes_eq a.id id) (sym (ap (λ (xs : List Text). is_empty xs || not (bytes_eq a.id id)) some) ∙ quiet))
  where
    other : (b : Bool) → (is_empty (v ∷ vs) || not b) ≡ true → b ≡ false
    other true e = absurd (true≢false (sym e ∙ ap (λ (t : Bool). t || false) (not_empty v vs)))
    other false e = refl

pub quiet_kept : (id : Text) (rules : List Rule) (rs : List Row) → list_all (is_quiet id) rules ≡ true → row_in id (fold with_default rs rules) ≡ row_in id rs
quiet_kept id [] rs quiet = refl
quiet_kept id (a ∷ rules) rs quiet =
    let both = split (is_quiet id a) (list_all (is_quiet id) rules) quiet in
    quiet_kept id rules (with_default rs a) both.1 ∙ quiet_step id a rs (with_default rs a) both.0 (by_default a rs)
  where
    split : (a b : Bool) → (a && b) ≡ true → (a ≡ true) × (b ≡ true)
    split true b e = (refl, e)
    split false b e = absurd (true≢false (sym e))

still_step : (id : Text) (a : Rule) (rs after : List Row) (r : Row) → row_in id rs ≡ Some r → Defaults a rs after → row_in id after ≡ Some r
still_step id a rs after r some (Defaults.has_one has is) = ap (row_in id) is ∙ some
still_step id a rs after r some (Defaults.has_none none is) = ap (row_in id) is ∙ some
still_step id a rs after r some (Defaults.adds v vs values has is) = ap (row_in id) is ∙ find_still id rs (default_row a.id (reading_by a) v vs ∷ []) r some

pub row_kept : (id : Text) (rules : List Rule) (rs : List Row) (r : Row) → row_in id rs ≡ Some r → row_in id (fold with_default rs rules) ≡ Some r
row_kept id [] rs r some = some
row_kept id (a ∷ rules) rs r some = row_kept id rules (with_default rs a) r (still_step id a rs (with_default rs a) r some (by_default a rs))

-- the first argument with this name gives its default
pub default_given : (id : Text) (rules : List Rule) (rs : List Row) (a : Rule) (v : Text) → row_in id rs ≡ None → arg_by_id rules id ≡ Some a → a.defaults ≡ v ∷ []
    → row_in id (fold with_default rs rules) ≡ Some (default_row a.id (reading_by a) v [])
default_given id [] rs a v none is values = absurd (none_some a is)
  where
    none_some : (x : Rule) → None ≡ Some x → ⊥
    none_some x e = let d : None ≡ Some x = e in cc
default_given id (b ∷ rules) rs a v none is values = either (bytes_eq b.id id) refl (λ rs' none' is'. default_given id rules rs' a v none' is' values)
  where
    some_is : (x y : Rule) → Some x ≡ Some y → x ≡ y
    some_is x y e = cc

    from : (xs ys : List Text) → xs ≡ ys → values_row b xs ≡ values_row b ys
    from xs ys e = ap (values_row b) e

    empty : (w : Text) → [] ≡ w ∷ [] → ⊥
    empty w e = let n : 0 ≡ 1 = ap (λ (xs : List Text). length xs) e in omega (arith, n)

    -- it has no row, so it adds its own
    first : bytes_eq b.id id ≡ true → a ≡ b → Defaults b rs (with_default rs b) → row_in id (with_default rs b) ≡ Some (default_row a.id (reading_by a) v [])
    first e same (Defaults.adds w ws some has made) =
        ap (row_in id) made ∙ find_last id rs (default_row b.id (reading_by b) w ws) none e
        ∙ ap (λ (r : Row). Some r) (from (w ∷ ws) (v ∷ []) (sym some ∙ ap (λ (x : Rule). x.defaults) (sym same) ∙ values)) ∙ ap (λ (x : Rule). Some (default_row x.id (reading_by x) v [])) (sym same)
    first e same (Defaults.has_one has made) =
        absurd (true≢false (sym has ∙ ap (λ (t : Text). has_row t rs) ((bytes_eq-Decides b.id id).0 e) ∙ none_found id rs none))
    first e same (Defaults.has_none nothing made) = absurd (empty v (sym nothing ∙ ap (λ (x : Rule). x.defaults) (sym same) ∙ values))

    quiet : (m t : Bool) → t ≡ false → (m || not t) ≡ true
    quiet true t e = refl
    quiet false t e = ap not e

    either : (t : Bool) → bytes_eq b.id id ≡ t
        → ((rs' : List Row) → row_in id rs' ≡ None → arg_by_id rules id ≡ Some a → row_in id (fold with_default rs' rules) ≡ Some (default_row a.id (reading_by a) v []))
        → row_in id (fold with_default (with_default rs b) rules) ≡ Some (default_row a.id (reading_by a) v [])
    either true e later =
        let same : b ≡ a = some_is b a (sym (ap (λ (t : Bool). cond t (Some b) (arg_by_id rules id)) e) ∙ is) in
        row_kept id rules (with_default rs b) _ (first e (sym same) (by_default b rs))
    either false e later =
        let rest : arg_by_id rules id ≡ Some a = sym (ap (λ (t : Bool). cond t (Some b) (arg_by_id rules id)) e) ∙ is in
        later (with_default rs b) (quiet_step id b rs (with_default rs b) (quiet (is_empty b.defaults) (bytes_eq b.id id) e) (by_default b rs) ∙ none) rest
