-- Words of a form are taken.
use Rattle.std.proofs.Common.{◌≡◌, ℕ, ◌-◌, ◌<◌, true, List, [], ◌∷◌, drop, length, take, refl, sym, ap, subst, ◌∙◌, arith, String, Global}
use Rattle.std.proofs.Math.Seq.{take-length}
use Rattle.clap.specs.Matches.{found_of}
use Rattle.clap.specs.Simple.{App, HasMatchesOf, is_simple, matches_of}
use Rattle.clap.specs.Takes.{takes}
use Rattle.clap.specs.Walk.{Row, rows_of}
use Rattle.clap.specs.declared.parser.matches.ArgMatches.{ArgMatches}
use Rattle.cli_read.specs.declared.clap_words.form.Form.{Form}
use Rattle.cli_read.specs.ClapWords.Forms.{app_of}
use Rattle.cli_read.specs.ClapWords.Taken.{AreTaken, IsTaken, Match}
use Rattle.cli_read.specs.Judged.{IsOf}
use Rattle.cli_read.specs.Matched.{IsMatched}
use Rattle.cli_read.specs.SaidWords.Words.{Text, texts}

-- words have a first one
pub first_word : (words : List Text) → 0 < length words → (word : Text) × (words ≡ word ∷ drop 1 words)
first_word [] some = absurd (omega (arith, some))
first_word (word ∷ words) some = (word, refl)

-- the words behind the first
pub rest_is : (words : List (String Global)) → texts (take (length words - 1) (drop 1 words)) ≡ drop 1 (texts words)
rest_is [] = refl
rest_is (word ∷ words) =
    let len : length (word ∷ words) - 1 ≡ length words = omega arith in
    ap (λ (ws : List (String Global)). texts ws) (ap (λ (n : ℕ). take n words) len ∙ take-length words)

module _ (law : AreTaken) (form : Form) (name : Text) (words : List Text) (some : 0 < length words) (of : IsOf form (drop 1 words)) where
  own : IsTaken form name words of.pieces of.others
  own =
      let first = first_word words some in
      subst (λ (ws : List Text). IsTaken form name ws of.pieces of.others) (sym first.1) (law form name first.0 (drop 1 words) of.pieces of.others of.are of.count)

  pub takes_them : (app : App) → app ≡ app_of name form → takes app words ≡ true
  takes_them app app_is = ap (λ (a : App). takes a words) app_is ∙ own.takes

  pub matched : (app : App) (m : ArgMatches) → app ≡ app_of name form → HasMatchesOf app words m → IsMatched form (drop 1 words) (found_of m)
  matched app m app_is has =
      let rows : rows_of (found_of m) ≡ matches_of (app_of name form) words = (has (ap is_simple app_is ∙ own.simple)).0 ∙ ap (λ (a : App). matches_of a words) app_is in
      record { of = of; matches = subst (λ (rs : List Row). Match form of.pieces of.others rs) (sym rows) own.matches }
