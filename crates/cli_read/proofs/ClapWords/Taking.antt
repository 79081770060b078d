-- Words that are a form's are taken.
use Rattle.std.proofs.Common.{◌≡◌, ◌≤◌, ◌&&◌, Bool, true, false, nat_le, List, [], ◌∷◌, filter, length, map, Some, fold, codes, refl, sym, ap, ap₂, subst, ◌∙◌, rules}
use Rattle.std.specs.List.{list_all, slice_get}
use Rattle.std.specs.Prelude.{option_and_then}
use Rattle.std.proofs.lemmas.Bool.{true≢false}
use Rattle.clap.proofs.TakesLemmas.{leaf_takes}
use Rattle.clap.specs.Simple.{Shape, built, label_of, matches_of}
use Rattle.clap.specs.Takes.{takes}
use Rattle.clap.specs.Values.{bool_text}
use Rattle.clap.specs.Walk.{Row, Rule, Text, finished, nothing_held, one_of, reading_by, row_text, rows_after, walk, with_default}
use Rattle.cli_words.specs.declared.switch.Switch.{Switch}
use Rattle.cli_words.specs.declared.switch.Switch.TheVariants as switches
use Rattle.cli_words.specs.Options.{Piece, all_switches, has_value, is_of, name_of, option_in, stand_once, stands, words_of}
use Rattle.cli_words.specs.Reads.{Are}
use Rattle.cli_read.specs.declared.clap_words.form.Form.{Form}
use Rattle.cli_read.specs.ClapWords.Forms.{app_of, id_of, names_of, options_of}
use Rattle.cli_read.specs.ClapWords.Taken.{AreNamed, IsTaken, Match}
use Rattle.cli_read.proofs.ClapWords.Fits.{AreQuiet, Fits, fits, rules_of}
use Rattle.cli_read.proofs.ClapWords.Found.{default_given, default_row, flag_found, flag_row, formed, quiet_kept, row_in, row_kept, value_found, words_found}
use Rattle.cli_read.proofs.ClapWords.Rows.{AreFresh, AreOnce, built_option, row, rows}
use Rattle.cli_read.proofs.ClapWords.Walks.{Goes, walk_at, walks}

split : (a b : Bool) → (a && b) ≡ true → (a ≡ true) × (b ≡ true)
split true b e = (refl, e)
split false b e = absurd (true≢false (sym e))

-- ---- before the words

first : (p : Switch → Bool) (c : Switch) (more : List Switch) → list_all p (c ∷ more) ≡ true → (p c ≡ true) × (list_all p more ≡ true)
first p c more all = split (p c) (list_all p more) all

each : (p : Switch → Bool) → list_all p all_switches ≡ true → (c : Switch) → p c ≡ true
each p all c =
    let lib = first p switches.Lib (switches.Preload ∷ switches.Harts ∷ switches.Fuel ∷ switches.Now ∷ switches.Trace ∷ []) all in
    let preload = first p switches.Preload (switches.Harts ∷ switches.Fuel ∷ switches.Now ∷ switches.Trace ∷ []) lib.1 in
    let harts = first p switches.Harts (switches.Fuel ∷ switches.Now ∷ switches.Trace ∷ []) preload.1 in
    let fuel = first p switches.Fuel (switches.Now ∷ switches.Trace ∷ []) harts.1 in
    let now = first p switches.Now (switches.Trace ∷ []) fuel.1 in
    let trace = first p switches.Trace [] now.1 in
    of_each lib.0 preload.0 harts.0 fuel.0 now.0 trace.0 c
  where
    of_each : p switches.Lib ≡ true → p switches.Preload ≡ true → p switches.Harts ≡ true → p switches.Fuel ≡ true → p switches.Now ≡ true → p switches.Trace ≡ true → (d : Switch) → p d ≡ true
    of_each lib preload harts fuel now trace switches.Lib = lib
    of_each lib preload harts fuel now trace switches.Preload = preload
    of_each lib preload harts fuel now trace switches.Harts = harts
    of_each lib preload harts fuel now trace switches.Fuel = fuel
    of_each lib preload harts fuel now trace switches.Now = now
    of_each lib preload harts fuel now trace switches.Trace = trace

once : (pieces : List Piece) → stand_once pieces ≡ true → AreOnce [] pieces
once pieces all c = record { free = λ has. absurd (true≢false (sym has)); once = most (each (λ d. nat_le (length (filter (is_of d) pieces)) 1) all c) }
  where
    most : nat_le (length (filter (is_of c) pieces)) 1 ≡ true → length (filter (is_of c) pieces) ≤ 1
    most e = search (rules, e)

fresh : (names : List Text) → AreFresh names []
fresh [] = tt
fresh (name ∷ names) = (refl, fresh names)

-- ---- after the words

kept_names : (names others : List Text) (rs : List Row) (rules : List Rule) → AreQuiet names rules → AreNamed names others rs → AreNamed names others (fold with_default rs rules)
kept_names [] others rs rules quiet named = named
kept_names (name ∷ names) [] rs rules quiet named = named
kept_names (name ∷ names) (word ∷ words) rs rules quiet named =
    (ap (option_and_then (λ (r : Row). slice_get r.values 0)) (quiet_kept name rules rs quiet.0) ∙ named.0, kept_names names words rs rules quiet.1 named.1)

no_value : {A : Type 0} → true ≡ false → A
no_value e = absurd (true≢false e)

falsely : (c : Switch) → has_value c ≡ false → (built_option c).defaults ≡ codes "false" ∷ []
falsely switches.Lib flag = no_value flag
falsely switches.Preload flag = no_value flag
falsely switches.Harts flag = no_value flag
falsely switches.Fuel flag = no_value flag
falsely switches.Now flag = refl
falsely switches.Trace flag = refl

default_text : (c : Switch) → has_value c ≡ false → row_text (default_row (built_option c).id (reading_by (built_option c)) (codes "false") []) ≡ Some (codes "false")
default_text switches.Lib flag = no_value flag
default_text switches.Preload flag = no_value flag
default_text switches.Harts flag = no_value flag
default_text switches.Fuel flag = no_value flag
default_text switches.Now flag = refl
default_text switches.Trace flag = refl

flag_given : (form : Form) (name : Text) (fit : Fits form name) (pieces : List Piece) (rs : List Row) (c : Switch) → has_value c ≡ false → option_in (options_of form) (name_of c) ≡ Some c
    → (b : Bool) → row_in (id_of c) rs ≡ flag_row c b → one_of (id_of c) (fold with_default rs (rules_of form name)) ≡ Some (bool_text b)
flag_given form name fit pieces rs c flag known true found = ap (option_and_then row_text) (row_kept (id_of c) (rules_of form name) rs (row (id_of c) (codes "true")) found)
flag_given form name fit pieces rs c flag known false found =
    ap (option_and_then row_text) (default_given (id_of c) (rules_of form name) rs (built_option c) (codes "false") found (fit.options c known).1 (falsely c flag))
    ∙ default_text c flag

module _ (form : Form) (name : Text) (words : List Text) (pieces : List Piece) (others : List Text) (are : Are (options_of form) words pieces others) (count : length others ≡ length (names_of form)) where
  fit : Fits form name
  fit = fits form name

  abbrev s : Shape
  s = (built (app_of name form)).top

  count_is : length (words_of pieces) ≡ length (names_of form)
  count_is = ap (λ (ws : List Text). length ws) are.left ∙ count

  abbrev own : List Row
  own = rows pieces (names_of form)

  goes : Goes s (options_of form) fit.options (walk_at nothing_held 0 false) words own
  goes = walks s (options_of form) fit.options false words pieces are.says 0 (names_of form) nothing_held [] fit.words fit.apart (record { settled = refl; passes = refl })
      (once pieces are.once) (fresh (names_of form)) count_is

  taken : (word : Text) → takes (app_of name form) (word ∷ words) ≡ true
  taken word =
      ap₂ (λ (a b : Bool). a && b) fit.simple
      (leaf_takes (built (app_of name form)) nothing_held words fit.alone
      (ap₂ (λ (a b : Bool). a && b) goes.1
      (ap₂ (λ (a b : Bool). a && b) goes.0.comes.passes
      (ap₂ (λ (a b : Bool). a && b) fit.defaults (fit.valid (finished s.rules (walk s.rules [] nothing_held words).held))))))

  matched : (word : Text) → matches_of (app_of name form) (word ∷ words) ≡ fold with_default own s.rules
  matched word =
      ap (λ (subs : List Shape). rows_after s.rules (map label_of subs) words) fit.alone
      ∙ ap (λ (rs : List Row). fold with_default rs s.rules) goes.0.comes.settled

  has : Match form pieces others (fold with_default own s.rules)
  has = record {
    values = λ c valued. ap (option_and_then (λ (r : Row). slice_get r.values 0)) (quiet_kept (id_of c) s.rules own (fit.quiet c valued))
        ∙ value_found c valued pieces (names_of form) (formed (options_of form) false words pieces are.says) fit.apart;
    flags = λ c flag known. flag_given form name fit pieces own c flag known (stands c pieces)
        (flag_found c flag pieces (names_of form) (formed (options_of form) false words pieces are.says) fit.apart);
    words = kept_names (names_of form) others own s.rules fit.quiet_words
        (subst (λ (ws : List Text). AreNamed (names_of form) ws own) are.left (words_found pieces (names_of form) fit.apart count_is));
  }

pub is_taken : (form : Form) (name word : Text) (words : List Text) (pieces : List Piece) (others : List Text) → Are (options_of form) words pieces others
    → length others ≡ length (names_of form) → IsTaken form name (word ∷ words) pieces others
is_taken form name word words pieces others are count = record {
  simple = (fits form name).simple;
  takes = taken form name words pieces others are count word;
  matches = subst (λ (rs : List Row). Match form pieces others rs) (sym (matched form name words pieces others are count word)) (has form name words pieces others are count);
}
