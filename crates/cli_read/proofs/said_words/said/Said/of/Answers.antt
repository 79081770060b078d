use Rattle.std.proofs.Common.{rules, ◌≡◌, ℕ, Some, None, List, [], ◌∷◌, length, Bool, true, false, cond, refl, sym, ap, subst, ◌∙◌, arith, ◌+◌, ◌≤◌, Global, String}
use Rattle.std.specs.String.{string_bytes}
use Rattle.std.proofs.lemmas.List.{length-map}
use Rattle.cli_read.specs.SaidWords.Said.{has_option, with_option}
use Rattle.cli_read.specs.SaidWords.Words.{Text, read_front, texts}
use Rattle.cli_read.specs.declared.said_words.front.Front.TheVariants as fronts
use Rattle.cli_read.specs.declared.said_words.said.Said.{Said}
use Rattle.cli_read.proofs.SaidWords.Counting.{At, another, chosen, done, ended, shorter, stuck, twice}
use Rattle.cli_read.proofs.said_words.said.Said.of.Goals as goal

was_there : (b : Bool) (s : Said) → cond b None (Some s) ≡ None → b ≡ true
was_there true s e = refl
was_there false s e = let d : Some s ≡ None = e in absurd cc

was_free : (b : Bool) (s t : Said) → cond b None (Some s) ≡ Some t → (b ≡ false) × (s ≡ t)
was_free true s t e = let d : None ≡ Some t = e in absurd cc
was_free false s t e = let d : Some s ≡ Some t = e in (refl, cc)

pub returns-in_err-front-clause-none : goal.returns-in_err-front-clause-none
returns-in_err-front-clause-none c e =
    let spelled : texts c.loop-word.rest.now ≡ string_bytes c.in-Some.word.now ∷ texts c.in-Some.more.now = search rules in
    let none : read_front c.args.known.now (string_bytes c.in-Some.word.now) (texts c.in-Some.more.now) ≡ None = search rules in
    stuck c.args.known.now (texts c.args.words.now) c.loop-word.said (string_bytes c.in-Some.word.now) (texts c.in-Some.more.now)
    (subst (At c.args.known.now (texts c.args.words.now) c.loop-word.said) spelled c.loop-word.invariant) none

pub returns-in-End-clause-some : goal.returns-in-End-clause-some
returns-in-End-clause-some c =
    let spelled : texts c.loop-word.rest.now ≡ string_bytes c.in-Some.word.now ∷ texts c.in-Some.more.now = search rules in
    let is : read_front c.args.known.now (string_bytes c.in-Some.word.now) (texts c.in-Some.more.now) ≡ Some (fronts.End, texts c.in_ok-front.behind.now) = search rules in
    let len : length (texts c.in_ok-front.behind.now) ≡ length c.in_ok-front.behind.now = length-map c.in_ok-front.behind.now string_bytes in
    let others : c.with_words.result.others ≡ c.loop-word.said.others + length c.in_ok-front.behind.now = search rules in
    ended c.args.known.now (texts c.args.words.now) c.loop-word.said (string_bytes c.in-Some.word.now) (texts c.in-Some.more.now) (texts c.in_ok-front.behind.now)
    (subst (At c.args.known.now (texts c.args.words.now) c.loop-word.said) spelled c.loop-word.invariant) is c.with_words.result
    (record { kept = search rules; count = others ∙ ap (λ (n : ℕ). c.loop-word.said.others + n) (sym len); start = c.with_words.ensures.first })

pub returns-in_err-said-in-Option-clause-none : goal.returns-in_err-said-in-Option-clause-none
returns-in_err-said-in-Option-clause-none c e =
    let spelled : texts c.loop-word.rest.now ≡ string_bytes c.in-Some.word.now ∷ texts c.in-Some.more.now = search rules in
    let is : read_front c.args.known.now (string_bytes c.in-Some.word.now) (texts c.in-Some.more.now) ≡ Some (fronts.Option c.in-Option.switch, texts c.in_ok-front.behind.now) = search rules in
    let none : cond (has_option c.loop-word.said c.in-Option.switch) None (Some (with_option c.loop-word.said c.in-Option.switch c.value_at.result)) ≡ None = search rules in
    twice c.args.known.now (texts c.args.words.now) c.loop-word.said (string_bytes c.in-Some.word.now) (texts c.in-Some.more.now) (texts c.in_ok-front.behind.now)
    (subst (At c.args.known.now (texts c.args.words.now) c.loop-word.said) spelled c.loop-word.invariant) c.in-Option.switch is (was_there (has_option c.loop-word.said c.in-Option.switch) (with_option c.loop-word.said c.in-Option.switch c.value_at.result) none)

pub loop-word-preserved-in-Word : goal.loop-word-preserved-in-Word
loop-word-preserved-in-Word c =
    let spelled : texts c.loop-word.rest.now ≡ string_bytes c.in-Some.word.now ∷ texts c.in-Some.more.now = search rules in
    let is : read_front c.args.known.now (string_bytes c.in-Some.word.now) (texts c.in-Some.more.now) ≡ Some (fronts.Word, texts c.in_ok-front.behind.now) = search rules in
    subst (λ (s : Said). At c.args.known.now (texts c.args.words.now) s (texts c.in_ok-front.behind.now)) (sym c.with_word-said.ensures)
    (another c.args.known.now (texts c.args.words.now) c.loop-word.said (string_bytes c.in-Some.word.now) (texts c.in-Some.more.now) (texts c.in_ok-front.behind.now)
    (subst (At c.args.known.now (texts c.args.words.now) c.loop-word.said) spelled c.loop-word.invariant) is c.deref-in-Word.result (search rules))

pub loop-word-smaller : goal.loop-word-smaller
loop-word-smaller c =
    let spelled : texts c.loop-word.rest.now ≡ string_bytes c.in-Some.word.now ∷ texts c.in-Some.more.now = search rules in
    let is : read_front c.args.known.now (string_bytes c.in-Some.word.now) (texts c.in-Some.more.now) ≡ Some (fronts.Option c.in-Option.switch, texts c.in_ok-front.behind.now) = search rules in
    let less : length (texts c.in_ok-front.behind.now) ≤ length (texts c.in-Some.more.now) = shorter c.args.known.now (texts c.args.words.now) c.loop-word.said (string_bytes c.in-Some.word.now) (texts c.in-Some.more.now) (texts c.in_ok-front.behind.now)
    (subst (At c.args.known.now (texts c.args.words.now) c.loop-word.said) spelled c.loop-word.invariant) (fronts.Option c.in-Option.switch) is in
    let before : length (texts c.loop-word.rest.now) ≡ length c.loop-word.rest.now = length-map c.loop-word.rest.now string_bytes in
    let after : length (texts c.in_ok-front.behind.now) ≡ length c.in_ok-front.behind.now = length-map c.in_ok-front.behind.now string_bytes in
    let one : length (texts c.loop-word.rest.now) ≡ length (string_bytes c.in-Some.word.now ∷ texts c.in-Some.more.now) = ap (λ (ws : List Text). length ws) spelled in
    omega (arith, less, before, after, one)

pub loop-word-preserved : goal.loop-word-preserved
loop-word-preserved c =
    let spelled : texts c.loop-word.rest.now ≡ string_bytes c.in-Some.word.now ∷ texts c.in-Some.more.now = search rules in
    let is : read_front c.args.known.now (string_bytes c.in-Some.word.now) (texts c.in-Some.more.now) ≡ Some (fronts.Option c.in-Option.switch, texts c.in_ok-front.behind.now) = search rules in
    let some : cond (has_option c.loop-word.said c.in-Option.switch) None (Some (with_option c.loop-word.said c.in-Option.switch c.value_at.result)) ≡ Some c.in_ok-said-in-Option.said = search rules in
    let free = was_free (has_option c.loop-word.said c.in-Option.switch) (with_option c.loop-word.said c.in-Option.switch c.value_at.result) c.in_ok-said-in-Option.said some in
    subst (λ (s : Said). At c.args.known.now (texts c.args.words.now) s (texts c.in_ok-front.behind.now)) free.1
    (chosen c.args.known.now (texts c.args.words.now) c.loop-word.said (string_bytes c.in-Some.word.now) (texts c.in-Some.more.now) (texts c.in_ok-front.behind.now)
    (subst (At c.args.known.now (texts c.args.words.now) c.loop-word.said) spelled c.loop-word.invariant) c.in-Option.switch is free.0 c.value_at.result (search rules))

no_texts : (words : List (String Global)) → length words ≡ 0 → texts words ≡ []
no_texts [] e = refl
no_texts (word ∷ words) e = absurd (omega (arith, e))

pub returns-clause-some : goal.returns-clause-some
returns-clause-some c =
    let none : texts c.loop-word.rest.now ≡ [] = no_texts c.loop-word.rest.now (search rules) in
    done c.args.known.now (texts c.args.words.now) c.loop-word.said (subst (At c.args.known.now (texts c.args.words.now) c.loop-word.said) none c.loop-word.invariant)
