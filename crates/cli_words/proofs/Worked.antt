-- The worked command lines.
use Rattle.std.proofs.Common.{◌≡◌, ⊎_elim, ℕ, zero, suc, ◌^◌, ◌-◌, ◌<◌, ◌≤◌, get_or, true, false, List, [], ◌∷◌, length, Some, codes, refl, sym, ap, subst, ◌∙◌, arith, true≢false}
use Rattle.std.specs.List.{Contains}
use Rattle.std.specs.Fmt.{decimal, digits}
use Rattle.std.specs.Str.{bytes_eq}
use Rattle.std.proofs.lemmas.Bool.{cases_lt}
use Rattle.std.proofs.lemmas.Fmt.{decimal_digit, decimal_injective, first_decimal}
use Rattle.cli_words.specs.declared.command.Command.{Command}
use Rattle.cli_words.specs.declared.command.Command.TheVariants as commands
use Rattle.cli_words.specs.declared.switch.Switch.{Switch}
use Rattle.cli_words.specs.declared.switch.Switch.TheVariants as switches
use Rattle.cli_words.specs.Options.{Piece, Says, given, stand_once, words_of}
use Rattle.cli_words.specs.Lemmas.Commands.{begins_with_word, word_of}
use Rattle.cli_words.specs.Reads.{Reads, bind_options, run_options}
use Rattle.cli_words.specs.Values.{AreFolders, AreParts, IsFuel, IsNumber}
use Rattle.cli_words.specs.Worked.{Behind, Ended, Generated, IsNone, Joined, Plain, Scheduled, dashed, empty_part, help_option, help_word, leading_zero, no_fuel, no_program, no_words, twice}
use Rattle.cli_words.proofs.Pieces.{not_said, said_as}

-- ---- commands

-- the one element of a list
only_one : (x y : List ℕ) → Contains (x ∷ []) y → x ≡ y
only_one x y (zero, less, is) = is
only_one x y (suc k, less, is) = absurd (omega (arith, less))

only_lib : (part : List ℕ) → Contains (codes "lib" ∷ []) part → codes "lib" ≡ part
only_lib part there = only_one (codes "lib") part there

folders : AreFolders (Some (codes "lib")) (codes "lib" ∷ [])
folders = record {
  are = refl;
  few = omega arith;
  some = λ part there empty. (let e : codes "lib" ≡ [] = only_lib part there ∙ empty in no_letters e);
  short = λ part there. subst (λ (p : List ℕ). length p ≤ 1000) (only_lib part there) (omega arith);
}
  where
    no_letters : codes "lib" ≡ [] → ⊥
    no_letters e = let n : 3 ≡ 0 = ap (λ (xs : List ℕ). length xs) e in omega (arith, n)

abbrev pieces : List Piece
pieces = Piece.valued switches.Lib (codes "lib") ∷ Piece.other (codes "prog") ∷ []

says_program : (known : List Switch) → Says known false (codes "prog" ∷ []) (Piece.other (codes "prog") ∷ [])
says_program known = Says.is_word (codes "prog") [] [] refl (Says.no_more false)

pub plain : Plain
plain = Reads.bind _ _ (record { pieces = pieces; are = record { says = Says.is_valued switches.Lib (codes "--lib") (codes "lib") (codes "prog" ∷ []) _ refl refl refl refl refl (says_program bind_options); once = refl; left = refl }; folders = folders; preload = refl; now = refl })

pub joined : Joined
joined = Reads.bind _ _ (record { pieces = pieces; are = record { says = Says.is_joined_value switches.Lib (codes "--lib=lib") (codes "prog" ∷ []) _ refl refl refl refl (says_program bind_options); once = refl; left = refl }; folders = folders; preload = refl; now = refl })

pub behind : Behind
behind = Reads.bind _ _ (record {
  pieces = Piece.other (codes "prog") ∷ Piece.valued switches.Lib (codes "lib") ∷ [];
  are = record { says = Says.is_word (codes "prog") _ _ refl (Says.is_valued switches.Lib (codes "--lib") (codes "lib") [] [] refl refl refl refl refl (Says.no_more false)); once = refl; left = refl };
  folders = folders;
  preload = refl;
  now = refl;
})

pub ended : Ended
ended = Reads.bind _ _ (record {
  pieces = pieces;
  are = record { says = Says.is_valued switches.Lib (codes "--lib") (codes "lib") (codes "--" ∷ codes "prog" ∷ []) _ refl refl refl refl refl (Says.ends (codes "prog" ∷ []) _ (Says.is_behind (codes "prog") [] [] (Says.no_more true))); once = refl; left = refl };
  folders = folders;
  preload = refl;
  now = refl;
})

pub generated : Generated
unfolding digits
generated = Reads.gen (codes "3875" ∷ []) 3875 (record { word = codes "3875"; reads = record { pieces = Piece.other (codes "3875") ∷ []; are = record { says = Says.is_word (codes "3875") [] [] refl (Says.no_more false); once = refl; left = refl } }; is = record { is = refl; from = omega arith; to = omega arith } })

pub scheduled : Scheduled
scheduled = Reads.turns _ _ (record {
  pieces = Piece.other (codes "1*3") ∷ Piece.other (codes "prog") ∷ [];
  are = record { says = Says.is_word (codes "1*3") _ _ refl (Says.is_word (codes "prog") [] [] refl (Says.no_more false)); once = refl; left = refl };
  setup = record { path = refl; folders = refl; preload = refl; now = refl; harts = refl; fuel = refl };
})

-- ---- none

differ : (word : List ℕ) (rest : List (List ℕ)) → codes "help" ∷ [] ≡ word ∷ rest → bytes_eq (codes "help") word ≡ false → ⊥
differ word rest e not = let same : codes "help" ≡ word = cc in true≢false (sym (ap (bytes_eq (codes "help")) (sym same)) ∙ not)

pub none_no_words : IsNone no_words
none_no_words command reads = (let b = begins_with_word no_words command reads in nothing (word_of command) b.rest b.is)
  where
    nothing : (word : List ℕ) (rest : List (List ℕ)) → [] ≡ word ∷ rest → ⊥
    nothing word rest e = cc

-- no command has this word
pub none_help_word : IsNone help_word
none_help_word command reads = (let b = begins_with_word help_word command reads in other command b.rest b.is)
  where
    other : (c : Command) (rest : List (List ℕ)) → codes "help" ∷ [] ≡ word_of c ∷ rest → ⊥
    other (commands.Bind bind) rest e = differ (codes "bind") rest e refl
    other (commands.Turns turns) rest e = differ (codes "turns") rest e refl
    other (commands.Run run) rest e = differ (codes "run") rest e refl
    other (commands.Assemble path) rest e = differ (codes "asm") rest e refl
    other (commands.Dump path) rest e = differ (codes "dump") rest e refl
    other (commands.Check check) rest e = differ (codes "check") rest e refl
    other (commands.Generate number) rest e = differ (codes "gen") rest e refl

-- an option that isn't there, a value with a dash
pub none_help_option : IsNone help_option
none_help_option command (Reads.bind rest bind x) = not_said bind_options (codes "--help" ∷ []) refl x.pieces x.are.says

pub none_dashed : IsNone dashed
none_dashed command (Reads.bind rest bind x) = not_said bind_options (codes "--lib" ∷ codes "-x" ∷ codes "prog" ∷ []) refl x.pieces x.are.says

-- an option that stands twice
pub none_twice : IsNone twice
none_twice command (Reads.bind rest bind x) =
    let pieces : x.pieces ≡ Piece.valued switches.Lib (codes "lib") ∷ Piece.valued switches.Lib (codes "lib") ∷ Piece.other (codes "prog") ∷ [] =
    said_as bind_options (codes "--lib" ∷ codes "lib" ∷ codes "--lib" ∷ codes "lib" ∷ codes "prog" ∷ []) x.pieces _ refl x.are.says in
    true≢false (sym x.are.once ∙ ap (λ (ps : List Piece). stand_once ps) pieces)

-- no program
pub none_no_program : IsNone no_program
none_no_program command (Reads.run rest run x) =
    let pieces : x.pieces ≡ [] = said_as run_options [] x.pieces [] refl x.are.says in
    none_left run.setup.program (sym (ap (λ (ps : List Piece). words_of ps) pieces) ∙ x.are.left)
  where
    none_left : (program : List ℕ) → [] ≡ program ∷ [] → ⊥
    none_left program e = cc

-- a folder without a name
pub none_empty_part : IsNone empty_part
none_empty_part command (Reads.bind rest bind x) =
    let pieces : x.pieces ≡ Piece.valued switches.Lib (codes "a::b") ∷ Piece.other (codes "prog") ∷ [] =
    said_as bind_options (codes "--lib" ∷ codes "a::b" ∷ codes "prog" ∷ []) x.pieces _ refl x.are.says in
    let folders : AreParts 58 16 1000 (codes "a::b") bind.folders = subst (λ (ps : List Piece). AreFolders (given switches.Lib ps) bind.folders) pieces x.folders in
    folders.some [] (subst (λ (ps : List (List ℕ)). Contains ps []) (sym folders.are) (1, omega arith, refl)) refl

-- no turn
pub none_no_fuel : IsNone no_fuel
none_no_fuel command (Reads.run rest run x) =
    let pieces : x.pieces ≡ Piece.valued switches.Fuel (codes "0") ∷ Piece.other (codes "prog") ∷ [] =
    said_as run_options (codes "--fuel" ∷ codes "0" ∷ codes "prog" ∷ []) x.pieces _ refl x.are.says in
    let number : IsNumber 1 (2 ^ 32) (codes "0") run.setup.fuel = subst (λ (ps : List Piece). IsFuel (given switches.Fuel ps) run.setup.fuel) pieces x.setup.fuel in
    none (run.setup.fuel) number
  where
    none : (fuel : ℕ) → IsNumber 1 (2 ^ 32) (codes "0") fuel → ⊥
    none fuel n =
        let below : fuel ≤ 2 ^ 32 = n.to in
        let above : 1 ≤ fuel = n.from in
        let zero_is : fuel ≡ 0 = decimal_injective fuel 0 (omega (arith, below)) (omega arith) (sym n.is ∙ sym (decimal_digit 0 (omega arith))) in
        omega (arith, above, zero_is)

-- a zero before a number
pub none_leading_zero : IsNone leading_zero
none_leading_zero command (Reads.gen rest number x) =
    let pieces : x.reads.pieces ≡ Piece.other (codes "01") ∷ [] = said_as [] (codes "01" ∷ []) x.reads.pieces _ refl x.reads.are.says in
    let word : codes "01" ≡ x.word = same (sym (ap (λ (ps : List Piece). words_of ps) pieces) ∙ x.reads.are.left) in
    none number (word ∙ x.is.is) x.is.to
  where
    same : {a b : List ℕ} → a ∷ [] ≡ b ∷ [] → a ≡ b
    same e = cc

    none : (n : ℕ) → codes "01" ≡ decimal n → n ≤ 2 ^ 32 - 1 → ⊥
    none n is high = ⊎_elim
        (λ (some : 0 < n).
        let above : 48 < get_or (decimal n) 0 0 = first_decimal n some (omega (arith, high)) in
        let first : get_or (decimal n) 0 0 ≡ 48 = ap (λ (ds : List ℕ). get_or ds 0 0) (sym is) in
        omega (arith, above, first))
        (λ (zero_is : n ≤ 0).
        let no : n ≡ 0 = omega (arith, zero_is) in
        let short : length (decimal n) ≡ 1 = ap (λ (k : ℕ). length (decimal k)) no ∙ ap (λ (ds : List ℕ). length ds) (decimal_digit 0 (omega arith)) in
        let long : length (decimal n) ≡ 2 = ap (λ (ds : List ℕ). length ds) (sym is) in
        omega (arith, short, long))
        (cases_lt 0 n)
