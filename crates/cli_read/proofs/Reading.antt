-- What is read of words that are of a form.
use Rattle.std.proofs.Common.{◌≡◌, ℕ, ◌^◌, ◌-◌, Bool, true, false, cond, List, [], ◌∷◌, find, length, Option, Some, None, IsSome, codes, refl, sym, ap, ap₂, subst, ◌∙◌, arith}
use Rattle.std.specs.List.{slice_get}
use Rattle.std.proofs.lemmas.Slice.Eq.{bytes_eq-Decides}
use Rattle.std.specs.Str.{bytes_eq}
use Rattle.clap.specs.Matches.{first_value, one_text}
use Rattle.clap.specs.Values.{bool_text}
use Rattle.clap.specs.Walk.{rows_of}
use Rattle.clap.specs.declared.parser.matches.Found.{Found}
use Rattle.clap.proofs.WalkLemmas.{first_value-rows, one_text-rows}
use Rattle.history_calls.specs.declared.link_served.startup.Setup.{Setup}
use Rattle.cli_words.specs.declared.switch.Switch.{Switch}
use Rattle.cli_words.specs.declared.switch.Switch.TheVariants as switches
use Rattle.cli_words.specs.declared.command.Bind.{Bind}
use Rattle.cli_words.specs.declared.command.Check.{Check}
use Rattle.cli_words.specs.declared.command.Command.{Command}
use Rattle.cli_words.specs.declared.command.Command.TheVariants as commands
use Rattle.cli_words.specs.declared.command.Run.{Run}
use Rattle.cli_words.specs.declared.command.Turns.{Turns}
use Rattle.cli_words.specs.Lemmas.Switches.{one_switch}
use Rattle.cli_words.specs.Lemmas.Commands.{ReadsBehind, begin_with_word, begins_with_word, word_of}
use Rattle.cli_words.specs.Options.{Piece, Says, front_of, given, has_value, is_switch, is_of, name_of, option_in, stands, value_in, value_of}
use Rattle.cli_words.specs.Reads.{Are, IsSetup, Reads, ReadsBind, ReadsCheck, ReadsNumber, ReadsRun, ReadsTurns, ReadsWord, bind_options, check_options, run_options, turns_options}
use Rattle.cli_words.specs.Values.{AreFolders, AreHarts, ArePreloads, IsFuel, IsNumber}
use Rattle.cli_read.specs.declared.clap_words.form.Form.{Form}
use Rattle.cli_read.specs.declared.clap_words.form.Form.TheVariants as forms
use Rattle.cli_read.specs.ClapWords.Forms.{id_of, names_of, options_of}
use Rattle.cli_read.specs.ClapWords.Taken.{AreNamed}
use Rattle.cli_read.specs.Judged.{GivenValues, HasFolders, HasFuel, HasHarts, HasNumber, HasPreloads, IsOf, IsSomeNumber, parts_in}
use Rattle.cli_read.specs.Found.{FoundBind, FoundCheck, FoundCommand, FoundNumber, FoundRun, FoundSetup, FoundTurns, HasCommand, HasFlag, HasSetup}
use Rattle.cli_read.specs.Matched.{IsMatched}
use Rattle.cli_read.specs.Verbs.{form_of, verb_for, verb_of}
use Rattle.cli_read.specs.declared.verb.Verb.{Verb}
use Rattle.cli_read.specs.declared.verb.Verb.TheVariants as verbs
use Rattle.cli_read.specs.SaidWords.Words.{Text}

-- ---- options that a form doesn't have

named_so : (known : List Switch) (name : Text) (c : Switch) → option_in known name ≡ Some c → bytes_eq (name_of c) name ≡ true
named_so [] name c is = let e : None ≡ Some c = is in absurd cc
named_so (d ∷ known) name c is = either (bytes_eq (name_of d) name) refl (named_so known name c)
  where
    either : (b : Bool) → bytes_eq (name_of d) name ≡ b → (option_in known name ≡ Some c → bytes_eq (name_of c) name ≡ true) → bytes_eq (name_of c) name ≡ true
    either true here later =
        let e : Some d ≡ Some c = sym (ap (λ (t : Bool). cond t (Some d) (option_in known name)) here) ∙ is in
        let same : d ≡ c = cc in
        sym (ap (λ (x : Switch). bytes_eq (name_of x) name) same) ∙ here
    either false here later = later (sym (ap (λ (t : Bool). cond t (Some d) (option_in known name)) here) ∙ is)

-- an option of which no word is known isn't the one of a word
other_switch : (known : List Switch) (name : Text) (c d : Switch) → option_in known name ≡ Some d → option_in known (name_of c) ≡ None → is_switch c d ≡ false
other_switch known name c d is none = either (is_switch c d) refl
  where
    either : (b : Bool) → is_switch c d ≡ b → is_switch c d ≡ false
    either true same =
        let names : name_of c ≡ name = ap name_of (one_switch c d same) ∙ (bytes_eq-Decides (name_of d) name).0 (named_so known name d is) in
        let e : None ≡ Some d = sym none ∙ ap (option_in known) names ∙ is in
        absurd cc
    either false same = same

find_none : (c : Switch) (known : List Switch) (ended : Bool) (words : List Text) (pieces : List Piece) → Says known ended words pieces → option_in known (name_of c) ≡ None → find (is_of c) pieces ≡ None
find_none c known ended words pieces (Says.no_more _) none = refl
find_none c known ended words pieces (Says.ends rest _ says) none = find_none c known true rest pieces says none
find_none c known ended words pieces (Says.is_word word rest others plain says) none = find_none c known false rest others says none
find_none c known ended words pieces (Says.is_behind word rest others says) none = find_none c known true rest others says none
find_none c known ended words pieces (Says.is_flag d word rest others dashed plain is alone says) none =
    ap (λ (t : Bool). cond t (Some (Piece.flag d)) (find (is_of c) others)) (other_switch known word c d is none) ∙ find_none c known false rest others says none
find_none c known ended words pieces (Says.is_valued d word value rest others dashed plain is some dash says) none =
    ap (λ (t : Bool). cond t (Some (Piece.valued d value)) (find (is_of c) others)) (other_switch known word c d is none) ∙ find_none c known false rest others says none
find_none c known ended words pieces (Says.is_joined_value d word rest others dashed signed is some says) none =
    ap (λ (t : Bool). cond t (Some (Piece.valued d (value_of word))) (find (is_of c) others)) (other_switch known (front_of word) c d is none) ∙ find_none c known false rest others says none

given_none : (c : Switch) (known : List Switch) (words : List Text) (pieces : List Piece) → Says known false words pieces → option_in known (name_of c) ≡ None → given c pieces ≡ None
given_none c known words pieces says none =
    ap (λ (found : Option Piece). elim found [ Some piece ↦ value_in piece | None ↦ None ]) (find_none c known false words pieces says none)

-- ---- from what is read to the form

no_folders : {value : Option Text} → value ≡ None → HasFolders value
no_folders is = subst HasFolders (sym is) ([], refl)

no_preloads : {value : Option Text} → value ≡ None → HasPreloads value
no_preloads is = subst HasPreloads (sym is) ([], refl)

no_harts : {value : Option Text} → value ≡ None → HasHarts value
no_harts is = subst HasHarts (sym is) ([], refl)

no_fuel : {value : Option Text} → value ≡ None → HasFuel value
no_fuel is = subst HasFuel (sym is) (1000000, refl)

bind_is_of : (words : List Text) (bind : Bind) → ReadsBind words bind → IsOf forms.Bind words
bind_is_of words bind reads = record {
  pieces = reads.pieces;
  others = bind.program ∷ [];
  are = reads.are;
  count = refl;
  values = record {
    folders = (bind.folders, reads.folders);
    preloads = (bind.preload, reads.preload);
    names = no_harts (given_none switches.Harts bind_options words reads.pieces reads.are.says refl);
    turns = no_fuel (given_none switches.Fuel bind_options words reads.pieces reads.are.says refl);
  };
  number = tt;
}

setup_values : (pieces : List Piece) (program : Text) (setup : Setup) → IsSetup pieces program setup → GivenValues pieces
setup_values pieces program setup is =
    record { folders = (setup.folders, is.folders); preloads = (setup.preload, is.preload); names = (setup.harts, is.harts); turns = (setup.fuel, is.fuel) }

turns_are_of : (words : List Text) (turns : Turns) → ReadsTurns words turns → IsOf forms.Turns words
turns_are_of words turns reads = record {
  pieces = reads.pieces;
  others = turns.schedule ∷ turns.setup.program ∷ [];
  are = reads.are;
  count = refl;
  values = setup_values reads.pieces turns.setup.program turns.setup reads.setup;
  number = tt;
}

run_is_of : (words : List Text) (run : Run) → ReadsRun words run → IsOf forms.Run words
run_is_of words run reads = record {
  pieces = reads.pieces;
  others = run.setup.program ∷ [];
  are = reads.are;
  count = refl;
  values = setup_values reads.pieces run.setup.program run.setup reads.setup;
  number = tt;
}

check_is_of : (words : List Text) (check : Check) → ReadsCheck words check → IsOf forms.Check words
check_is_of words check reads = record {
  pieces = reads.pieces;
  others = check.trace ∷ [];
  are = reads.are;
  count = refl;
  values = record {
    folders = (check.folders, reads.folders);
    preloads = no_preloads (given_none switches.Preload check_options words reads.pieces reads.are.says refl);
    names = no_harts (given_none switches.Harts check_options words reads.pieces reads.are.says refl);
    turns = no_fuel (given_none switches.Fuel check_options words reads.pieces reads.are.says refl);
  };
  number = tt;
}

no_values : (words : List Text) (pieces : List Piece) → Says [] false words pieces → GivenValues pieces
no_values words pieces says = record {
  folders = no_folders (given_none switches.Lib [] words pieces says refl);
  preloads = no_preloads (given_none switches.Preload [] words pieces says refl);
  names = no_harts (given_none switches.Harts [] words pieces says refl);
  turns = no_fuel (given_none switches.Fuel [] words pieces says refl);
}

path_is_of : (words : List Text) (path : Text) → ReadsWord words path → IsOf forms.Path words
path_is_of words path reads = record {
  pieces = reads.pieces;
  others = path ∷ [];
  are = reads.are;
  count = refl;
  values = no_values words reads.pieces reads.are.says;
  number = tt;
}

number_is_of : (words : List Text) (number : ℕ) → ReadsNumber words number → IsOf forms.Number words
number_is_of words number reads = record {
  pieces = reads.reads.pieces;
  others = reads.word ∷ [];
  are = reads.reads.are;
  count = refl;
  values = no_values words reads.reads.pieces reads.reads.are.says;
  number = (number, reads.is);
}

-- ---- from the form to what is read

one_word : (others : List Text) → length others ≡ 1 → (word : Text) × (others ≡ word ∷ [])
one_word [] count = absurd (omega (arith, count))
one_word (word ∷ []) count = (word, refl)
one_word (word ∷ more ∷ rest) count = absurd (omega (arith, count))

two_words : (others : List Text) → length others ≡ 2 → (first : Text) × (second : Text) × (others ≡ first ∷ second ∷ [])
two_words [] count = absurd (omega (arith, count))
two_words (word ∷ []) count = absurd (omega (arith, count))
two_words (first ∷ second ∷ []) count = (first, second, refl)
two_words (first ∷ second ∷ more ∷ rest) count = absurd (omega (arith, count))

some_bind : (words : List Text) → IsOf forms.Bind words → (bind : Bind) × ReadsBind words bind
some_bind words of =
    let program = one_word of.others of.count in (
      record { folders = of.values.folders.0; preload = of.values.preloads.0; now = stands switches.Now of.pieces; program = program.0 },
      record { pieces = of.pieces; are = subst (Are bind_options words of.pieces) program.1 of.are; folders = of.values.folders.1; preload = of.values.preloads.1; now = refl },
    )

some_setup : (pieces : List Piece) (program : Text) → GivenValues pieces → (setup : Setup) × (setup.program ≡ program) × IsSetup pieces setup.program setup
some_setup pieces program values = (
  record {
    program = program;
    folders = values.folders.0;
    preload = values.preloads.0;
    bind_now = stands switches.Now pieces;
    harts = values.names.0;
    fuel = values.turns.0;
  },
  refl,
  record { path = refl; folders = values.folders.1; preload = values.preloads.1; now = refl; harts = values.names.1; fuel = values.turns.1 },
)

some_turns : (words : List Text) → IsOf forms.Turns words → (turns : Turns) × ReadsTurns words turns
some_turns words of =
    let others = two_words of.others of.count in
    let setup = some_setup of.pieces others.1 of.values in (
      record { setup = setup.0; schedule = others.0 },
      record {
        pieces = of.pieces;
        are = subst (Are turns_options words of.pieces) (others.2 ∙ ap (λ (w : Text). others.0 ∷ w ∷ []) (sym setup.1)) of.are;
        setup = setup.2;
      },
    )

some_run : (words : List Text) → IsOf forms.Run words → (run : Run) × ReadsRun words run
some_run words of =
    let program = one_word of.others of.count in
    let setup = some_setup of.pieces program.0 of.values in (
      record { setup = setup.0; trace = stands switches.Trace of.pieces },
      record {
        pieces = of.pieces;
        are = subst (Are run_options words of.pieces) (program.1 ∙ ap (λ (w : Text). w ∷ []) (sym setup.1)) of.are;
        setup = setup.2;
        trace = refl;
      },
    )

some_check : (words : List Text) → IsOf forms.Check words → (check : Check) × ReadsCheck words check
some_check words of =
    let path = one_word of.others of.count in (
      record { folders = of.values.folders.0; trace = path.0 },
      record { pieces = of.pieces; are = subst (Are check_options words of.pieces) path.1 of.are; folders = of.values.folders.1 },
    )

some_path : (words : List Text) → IsOf forms.Path words → (path : Text) × ReadsWord words path
some_path words of =
    let path = one_word of.others of.count in
    (path.0, record { pieces = of.pieces; are = subst (Are [] words of.pieces) path.1 of.are })

some_number : (words : List Text) → IsOf forms.Number words → (number : ℕ) × ReadsNumber words number
some_number words of =
    let word = one_word of.others of.count in
    let has : (number : ℕ) × IsNumber 0 (2 ^ 32 - 1) word.0 number = subst (λ (ws : List Text). HasNumber forms.Number (slice_get ws 0)) word.1 of.number in
    (has.0, record { word = word.0; reads = record { pieces = of.pieces; are = subst (Are [] words of.pieces) word.1 of.are }; is = has.1 })

-- ---- values that are found

module _ (form : Form) (words : List Text) (found : Found) (m : IsMatched form words found) where
  value_found : (c : Switch) → has_value c ≡ true → first_value found (id_of c) ≡ given c m.of.pieces
  value_found c some = first_value-rows found (id_of c) ∙ m.matches.values c some

  flag_found : (c : Switch) → has_value c ≡ false → option_in (options_of form) (name_of c) ≡ Some c → one_text found (id_of c) ≡ Some (bool_text (stands c m.of.pieces))
  flag_found c alone known = one_text-rows found (id_of c) ∙ m.matches.flags c alone known

  -- the one other word
  word_found : (name : Text) → names_of form ≡ name ∷ [] → (word : Text) × (m.of.others ≡ word ∷ []) × (first_value found name ≡ Some word)
  word_found name is =
      let word = one_word m.of.others (m.of.count ∙ ap (λ (ns : List Text). length ns) is) in
      let named : AreNamed (name ∷ []) (word.0 ∷ []) (rows_of found) =
      subst (λ (ns : List Text). AreNamed ns (word.0 ∷ []) (rows_of found)) is (subst (λ (ws : List Text). AreNamed (names_of form) ws (rows_of found)) word.1 m.matches.words) in
      (word.0, word.1, first_value-rows found name ∙ named.0)

-- the two of a schedule and a program
words_found : (words : List Text) (found : Found) (m : IsMatched forms.Turns words found)
    → (schedule : Text) × (program : Text) × (m.of.others ≡ schedule ∷ program ∷ []) × (first_value found (codes "schedule") ≡ Some schedule) × (first_value found (codes "program") ≡ Some program)
words_found words found m =
    let both = two_words m.of.others m.of.count in
    let named : AreNamed (codes "schedule" ∷ codes "program" ∷ []) (both.0 ∷ both.1 ∷ []) (rows_of found) =
    subst (λ (ws : List Text). AreNamed (names_of forms.Turns) ws (rows_of found)) both.2 m.matches.words in
    (both.0, both.1, both.2, first_value-rows found (codes "schedule") ∙ named.0, first_value-rows found (codes "program") ∙ named.1.0)

same_some : {A : Type 0} (x y : A) → Some x ≡ Some y → x ≡ y
same_some x y e = cc

is_some_of : {A : Type 0} (o : Option A) (x : A) → o ≡ Some x → IsSome o
is_some_of None x e = let d : None ≡ Some x = e in absurd cc
is_some_of (Some y) x e = refl

-- ---- flags

same_text : (a b : Bool) → bool_text a ≡ bool_text b → a ≡ b
same_text true true e = refl
same_text false false e = refl
same_text true false e = let n : 4 ≡ 5 = ap (λ (t : Text). length t) e in absurd (omega (arith, n))
same_text false true e = let n : 5 ≡ 4 = ap (λ (t : Text). length t) e in absurd (omega (arith, n))

same_flag : (a b : Bool) → Some (bool_text a) ≡ Some (bool_text b) → a ≡ b
same_flag a b e = same_text a b (same_some (bool_text a) (bool_text b) e)

-- ---- parts that are found

folders_are : (value : Option Text) (names : List Text) → HasFolders value → names ≡ parts_in 58 value → AreFolders value names
folders_are None names has is = is
folders_are (Some value) names has is = subst (AreFolders (Some value)) (has.1.are ∙ sym is) has.1

preloads_are : (value : Option Text) (names : List Text) → HasPreloads value → names ≡ parts_in 58 value → ArePreloads value names
preloads_are None names has is = is
preloads_are (Some value) names has is = subst (ArePreloads (Some value)) (has.1.are ∙ sym is) has.1

harts_are : (value : Option Text) (names : List Text) → HasHarts value → names ≡ parts_in 44 value → AreHarts value names
harts_are None names has is = is
harts_are (Some value) names has is = subst (AreHarts (Some value)) (has.1.are ∙ sym is) has.1

-- ---- commands

module _ (form : Form) (words : List Text) (found : Found) (m : IsMatched form words found) where
  has_flag : (c : Switch) → has_value c ≡ false → option_in (options_of form) (name_of c) ≡ Some c → HasFlag found (id_of c)
  has_flag c alone known = (stands c m.of.pieces, flag_found form words found m c alone known)

  has_setup : (program : Text) → first_value found (codes "program") ≡ Some program → option_in (options_of form) (codes "--now") ≡ Some switches.Now → HasSetup found
  has_setup program is known = record {
    program = is_some_of (first_value found (codes "program")) program is;
    turns = subst HasFuel (sym (value_found form words found m switches.Fuel refl)) m.of.values.turns;
    now = has_flag switches.Now refl known;
  }

  is_setup : option_in (options_of form) (codes "--now") ≡ Some switches.Now → (setup : Setup) → FoundSetup found setup → IsSetup m.of.pieces setup.program setup
  is_setup known setup given_setup = record {
    path = refl;
    folders = folders_are (given switches.Lib m.of.pieces) setup.folders m.of.values.folders (given_setup.folders ∙ ap (parts_in 58) (value_found form words found m switches.Lib refl));
    preload = preloads_are (given switches.Preload m.of.pieces) setup.preload m.of.values.preloads (given_setup.preload ∙ ap (parts_in 58) (value_found form words found m switches.Preload refl));
    now = same_flag setup.bind_now (stands switches.Now m.of.pieces) (sym given_setup.now ∙ flag_found form words found m switches.Now refl known);
    harts = harts_are (given switches.Harts m.of.pieces) setup.harts m.of.values.names (given_setup.harts ∙ ap (parts_in 44) (value_found form words found m switches.Harts refl));
    fuel = subst (λ (v : Option Text). IsFuel v setup.fuel) (value_found form words found m switches.Fuel refl) given_setup.fuel;
  }

  -- the one other word is what is found
  is_word : (name : Text) → names_of form ≡ name ∷ [] → (known : List Switch) → options_of form ≡ known → (word : Text) → first_value found name ≡ Some word → Are known words m.of.pieces (word ∷ [])
  is_word name named known has word is =
      let one = word_found form words found m name named in
      let same : one.0 ≡ word = same_some one.0 word (sym one.2 ∙ is) in
      subst (λ (cs : List Switch). Are cs words m.of.pieces (word ∷ [])) has
      (subst (λ (ws : List Text). Are (options_of form) words m.of.pieces ws) (one.1 ∙ ap (λ (w : Text). w ∷ []) same) m.of.are)

  some_word : (name : Text) → names_of form ≡ name ∷ [] → IsSome (first_value found name)
  some_word name named = (let one = word_found form words found m name named in is_some_of (first_value found name) one.0 one.2)

pub has_command : (verb : Verb) (words : List Text) (found : Found) → IsMatched (form_of verb) words found → HasCommand verb found
has_command verbs.Bind words found m = record { program = some_word forms.Bind words found m (codes "program") refl; now = has_flag forms.Bind words found m switches.Now refl refl }
has_command verbs.Turns words found m =
    let both = words_found words found m in
    record { setup = has_setup forms.Turns words found m both.1 both.4 refl; schedule = is_some_of (first_value found (codes "schedule")) both.0 both.3 }
has_command verbs.Run words found m =
    let one = word_found forms.Run words found m (codes "program") refl in
    record { setup = has_setup forms.Run words found m one.0 one.2 refl; trace = has_flag forms.Run words found m switches.Trace refl refl }
has_command verbs.Assemble words found m = some_word forms.Path words found m (codes "path") refl
has_command verbs.Dump words found m = some_word forms.Path words found m (codes "path") refl
has_command verbs.Check words found m = some_word forms.Check words found m (codes "path") refl
has_command verbs.Generate words found m =
    let one = word_found forms.Number words found m (codes "number") refl in
    subst IsSomeNumber (ap (λ (ws : List Text). slice_get ws 0) one.1 ∙ sym one.2) m.of.number

bind_reads : (words : List Text) (found : Found) (m : IsMatched forms.Bind words found) (bind : Bind) → FoundBind found bind → ReadsBind words bind
bind_reads words found m bind f = record {
  pieces = m.of.pieces;
  are = is_word forms.Bind words found m (codes "program") refl bind_options refl bind.program f.program;
  folders = folders_are (given switches.Lib m.of.pieces) bind.folders m.of.values.folders (f.folders ∙ ap (parts_in 58) (value_found forms.Bind words found m switches.Lib refl));
  preload = preloads_are (given switches.Preload m.of.pieces) bind.preload m.of.values.preloads (f.preload ∙ ap (parts_in 58) (value_found forms.Bind words found m switches.Preload refl));
  now = same_flag bind.now (stands switches.Now m.of.pieces) (sym f.now ∙ flag_found forms.Bind words found m switches.Now refl refl);
}

turns_reads : (words : List Text) (found : Found) (m : IsMatched forms.Turns words found) (turns : Turns) → FoundTurns found turns → ReadsTurns words turns
turns_reads words found m turns f =
    let both = words_found words found m in
    let schedules : both.0 ≡ turns.schedule = same_some both.0 turns.schedule (sym both.3 ∙ f.schedule) in
    let programs : both.1 ≡ turns.setup.program = same_some both.1 turns.setup.program (sym both.4 ∙ f.setup.path) in
    record {
      pieces = m.of.pieces;
      are = subst (Are turns_options words m.of.pieces) (both.2 ∙ ap₂ (λ (s p : Text). s ∷ p ∷ []) schedules programs) m.of.are;
      setup = is_setup forms.Turns words found m refl turns.setup f.setup;
    }

run_reads : (words : List Text) (found : Found) (m : IsMatched forms.Run words found) (run : Run) → FoundRun found run → ReadsRun words run
run_reads words found m run f = record {
  pieces = m.of.pieces;
  are = is_word forms.Run words found m (codes "program") refl run_options refl run.setup.program f.setup.path;
  setup = is_setup forms.Run words found m refl run.setup f.setup;
  trace = same_flag run.trace (stands switches.Trace m.of.pieces) (sym f.trace ∙ flag_found forms.Run words found m switches.Trace refl refl);
}

check_reads : (words : List Text) (found : Found) (m : IsMatched forms.Check words found) (check : Check) → FoundCheck found check → ReadsCheck words check
check_reads words found m check f = record {
  pieces = m.of.pieces;
  are = is_word forms.Check words found m (codes "path") refl check_options refl check.trace f.trace;
  folders = folders_are (given switches.Lib m.of.pieces) check.folders m.of.values.folders (f.folders ∙ ap (parts_in 58) (value_found forms.Check words found m switches.Lib refl));
}

number_reads : (words : List Text) (found : Found) (m : IsMatched forms.Number words found) (number : ℕ) → FoundNumber found number → ReadsNumber words number
number_reads words found m number f = record {
  word = f.word;
  reads = record { pieces = m.of.pieces; are = is_word forms.Number words found m (codes "number") refl [] refl f.word f.is };
  is = f.says;
}

reads_behind : (words : List Text) (found : Found) (command : Command) → IsMatched (form_of (verb_for command)) words found → FoundCommand found command → ReadsBehind words command
reads_behind words found (commands.Bind bind) m f = bind_reads words found m bind f
reads_behind words found (commands.Turns turns) m f = turns_reads words found m turns f
reads_behind words found (commands.Run run) m f = run_reads words found m run f
reads_behind words found (commands.Assemble path) m f = record { pieces = m.of.pieces; are = is_word forms.Path words found m (codes "path") refl [] refl path f }
reads_behind words found (commands.Dump path) m f = record { pieces = m.of.pieces; are = is_word forms.Path words found m (codes "path") refl [] refl path f }
reads_behind words found (commands.Check check) m f = check_reads words found m check f
reads_behind words found (commands.Generate number) m f = number_reads words found m number f

command_is_of : (words : List Text) (command : Command) → ReadsBehind words command → IsOf (form_of (verb_for command)) words
command_is_of words (commands.Bind bind) reads = bind_is_of words bind reads
command_is_of words (commands.Turns turns) reads = turns_are_of words turns reads
command_is_of words (commands.Run run) reads = run_is_of words run reads
command_is_of words (commands.Assemble path) reads = path_is_of words path reads
command_is_of words (commands.Dump path) reads = path_is_of words path reads
command_is_of words (commands.Check check) reads = check_is_of words check reads
command_is_of words (commands.Generate number) reads = number_is_of words number reads

some_command : (verb : Verb) (words : List Text) → IsOf (form_of verb) words → (command : Command) × (verb_for command ≡ verb) × ReadsBehind words command
some_command verbs.Bind words of = (let some = some_bind words of in (commands.Bind some.0, refl, some.1))
some_command verbs.Turns words of = (let some = some_turns words of in (commands.Turns some.0, refl, some.1))
some_command verbs.Run words of = (let some = some_run words of in (commands.Run some.0, refl, some.1))
some_command verbs.Assemble words of = (let some = some_path words of in (commands.Assemble some.0, refl, some.1))
some_command verbs.Dump words of = (let some = some_path words of in (commands.Dump some.0, refl, some.1))
some_command verbs.Check words of = (let some = some_check words of in (commands.Check some.0, refl, some.1))
some_command verbs.Generate words of = (let some = some_number words of in (commands.Generate some.0, refl, some.1))

-- ---- a command's own word

verb_is : (command : Command) → verb_of (word_of command) ≡ Some (verb_for command)
verb_is (commands.Bind bind) = refl
verb_is (commands.Turns turns) = refl
verb_is (commands.Run run) = refl
verb_is (commands.Assemble path) = refl
verb_is (commands.Dump path) = refl
verb_is (commands.Check check) = refl
verb_is (commands.Generate number) = refl

abbrev word_for : Verb → Text
word_for verbs.Bind = codes "bind"
word_for verbs.Turns = codes "turns"
word_for verbs.Run = codes "run"
word_for verbs.Assemble = codes "asm"
word_for verbs.Dump = codes "dump"
word_for verbs.Check = codes "check"
word_for verbs.Generate = codes "gen"

one_word_of : (command : Command) → word_for (verb_for command) ≡ word_of command
one_word_of (commands.Bind bind) = refl
one_word_of (commands.Turns turns) = refl
one_word_of (commands.Run run) = refl
one_word_of (commands.Assemble path) = refl
one_word_of (commands.Dump path) = refl
one_word_of (commands.Check check) = refl
one_word_of (commands.Generate number) = refl

tested : (word : Text) (own verb : Verb) (rest : Option Verb) → cond (bytes_eq word (word_for own)) (Some own) rest ≡ Some verb → (rest ≡ Some verb → word ≡ word_for verb) → word ≡ word_for verb
tested word own verb rest is later = either (bytes_eq word (word_for own)) refl
  where
    either : (b : Bool) → bytes_eq word (word_for own) ≡ b → word ≡ word_for verb
    either true here =
        let e : own ≡ verb = same_some own verb (sym (ap (λ (t : Bool). cond t (Some own) rest) here) ∙ is) in
        (bytes_eq-Decides word (word_for own)).0 here ∙ ap word_for e
    either false here = later (sym (ap (λ (t : Bool). cond t (Some own) rest) here) ∙ is)

word_is : (word : Text) (verb : Verb) → verb_of word ≡ Some verb → word ≡ word_for verb
word_is word verb is =
    tested word verbs.Bind verb _ is
    (λ e. tested word verbs.Turns verb _ e
    (λ e. tested word verbs.Run verb _ e
    (λ e. tested word verbs.Assemble verb _ e
    (λ e. tested word verbs.Dump verb _ e
    (λ e. tested word verbs.Check verb _ e
    (λ e. tested word verbs.Generate verb None e
    (λ e. let no_verb : None ≡ Some verb = e in absurd cc)))))))

-- ---- all words

head_of : (x y : Text) (xs ys : List Text) → x ∷ xs ≡ y ∷ ys → x ≡ y
head_of x y xs ys e = cc

tail_of : (x y : Text) (xs ys : List Text) → x ∷ xs ≡ y ∷ ys → xs ≡ ys
tail_of x y xs ys e = cc

module _ (words : List Text) (word : Text) (rest : List Text) (are : words ≡ word ∷ rest) where
  verb_read : (command : Command) → Reads words command → verb_of word ≡ Some (verb_for command)
  verb_read command reads = (let b = begins_with_word words command reads in ap verb_of (head_of word (word_of command) rest b.rest (sym are ∙ b.is)) ∙ verb_is command)

  module _ (verb : Verb) (own : verb_of word ≡ Some verb) where
    same_verb : (command : Command) → Reads words command → verb_for command ≡ verb
    same_verb command reads = same_some (verb_for command) verb (sym (verb_read command reads) ∙ own)

    read_is_of : (command : Command) → Reads words command → IsOf (form_of verb) rest
    read_is_of command reads =
        let b = begins_with_word words command reads in
        let same : b.rest ≡ rest = sym (tail_of word (word_of command) rest b.rest (sym are ∙ b.is)) in
        subst (λ (v : Verb). IsOf (form_of v) rest) (same_verb command reads) (subst (IsOf (form_of (verb_for command))) same (command_is_of b.rest command b.reads))

    begun : (command : Command) → verb_for command ≡ verb → ReadsBehind rest command → Reads words command
    begun command same reads =
        let word_same : word_of command ≡ word = sym (one_word_of command) ∙ ap word_for same ∙ sym (word_is word verb own) in
        subst (λ (ws : List Text). Reads ws command) (ap (λ (w : Text). w ∷ rest) word_same ∙ sym are) (begin_with_word rest command reads)

    pub none_read : (IsOf (form_of verb) rest → ⊥) → (command : Command) → Reads words command → ⊥
    none_read none command reads = none (read_is_of command reads)

    pub some_read : IsOf (form_of verb) rest → (command : Command) × Reads words command
    some_read of =
        let some = some_command verb rest of in
        (some.0, begun some.0 some.1 some.2)

    pub is_read : (found : Found) (command : Command) → IsMatched (form_of verb) rest found → verb_for command ≡ verb → FoundCommand found command → Reads words command
    is_read found command m same f =
        begun command same (reads_behind rest found command (subst (λ (v : Verb). IsMatched (form_of v) rest found) (sym same) m) f)
