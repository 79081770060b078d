use Rattle.std.proofs.Common.{rules, ◌≡◌, IfErr, List, [], ◌∷◌, drop, Some, None, Result, Ok, Err, sym, ap, subst, String, Global}
use Rattle.std.specs.List.{slice_get}
use Rattle.std.specs.String.{string_bytes}
use Rattle.clap.specs.Matches.{found_of}
use Rattle.cli_words.specs.Reads.{Reads}
use Rattle.cli_words.specs.declared.command.Command.{Command}
use Rattle.cli_read.specs.declared.clap_words.form.Form.{Form}
use Rattle.cli_read.specs.Judged.{IsOf}
use Rattle.cli_read.specs.Matched.{IsMatched}
use Rattle.cli_read.specs.Verbs.{verb_of}
use Rattle.cli_read.specs.declared.fault.WordsFault.{WordsFault}
use Rattle.cli_read.specs.declared.fault.WordsFault.TheVariants.{Memory, Usage}
use Rattle.cli_read.specs.SaidWords.Words.{texts}
use Rattle.cli_read.proofs.Reading.{has_command, is_read, none_read, some_read}
use Rattle.cli_read.proofs.read.read_command.Goals as goal

-- words begin with the first
first_is : (words : List (String Global)) (word : String Global) → slice_get words 0 ≡ Some word → texts words ≡ string_bytes word ∷ drop 1 (texts words)
first_is [] word is = let e : None ≡ Some word = is in absurd cc
first_is (own ∷ words) word is =
    let e : Some own ≡ Some word = is in
    let same : own ≡ word = cc in
    ap (λ (w : String Global). string_bytes w ∷ texts words) same

any_fault : {A E : Type 0} (P : E → Type 0) (r : Result A E) → ((e : E) → P e) → IfErr r P
any_fault P (Ok a) holds = tt
any_fault P (Err e) holds = holds e

pub returns-in_err-matches-clause-usage : goal.returns-in_err-matches-clause-usage
returns-in_err-matches-clause-usage c =
    let first : slice_get c.args.words.now 0 ≡ Some c.in-Some.word.now = search rules in
    let own : verb_of (string_bytes c.in-Some.word.now) ≡ Some c.in-Some-verb_of.verb = search rules in
    let err : c.from_residual.result ≡ Err c.in_err-matches.field-0.0 = search rules in
    let none = none_read (texts c.args.words.now) (string_bytes c.in-Some.word.now) (drop 1 (texts c.args.words.now)) (first_is c.args.words.now c.in-Some.word.now first) c.in-Some-verb_of.verb own in
    subst (λ (r : Result Command WordsFault). IfErr r (λ e. e ≡ Usage → (command : Command) → Reads (texts c.args.words.now) command → ⊥)) (sym err)
    (λ usage. none (λ of. c.in_err-matches.ensures.usage usage (subst (λ (form : Form). IsOf form (drop 1 (texts c.args.words.now))) (sym c.form.ensures) of)))

pub returns-in_err-matches-clause-memory : goal.returns-in_err-matches-clause-memory
returns-in_err-matches-clause-memory c =
    let first : slice_get c.args.words.now 0 ≡ Some c.in-Some.word.now = search rules in
    let own : verb_of (string_bytes c.in-Some.word.now) ≡ Some c.in-Some-verb_of.verb = search rules in
    let err : c.from_residual.result ≡ Err c.in_err-matches.field-0.0 = search rules in
    let some = some_read (texts c.args.words.now) (string_bytes c.in-Some.word.now) (drop 1 (texts c.args.words.now)) (first_is c.args.words.now c.in-Some.word.now first) c.in-Some-verb_of.verb own in
    subst (λ (r : Result Command WordsFault). IfErr r (λ e. e ≡ Memory → (command : Command) × Reads (texts c.args.words.now) command)) (sym err)
    (λ memory. some (subst (λ (form : Form). IsOf form (drop 1 (texts c.args.words.now))) c.form.ensures (c.in_err-matches.ensures.memory memory)))

pub command_of-requires : goal.command_of-requires
command_of-requires c = has_command c.in-Some-verb_of.verb (drop 1 (texts c.args.words.now)) (found_of c.in_ok-matches.matches)
    (subst (λ (form : Form). IsMatched form (drop 1 (texts c.args.words.now)) (found_of c.in_ok-matches.matches)) c.form.ensures c.in_ok-matches.ensures.ok)

pub returns-in_err-command_of-clause-memory : goal.returns-in_err-command_of-clause-memory
returns-in_err-command_of-clause-memory c =
    let first : slice_get c.args.words.now 0 ≡ Some c.in-Some.word.now = search rules in
    let own : verb_of (string_bytes c.in-Some.word.now) ≡ Some c.in-Some-verb_of.verb = search rules in
    let matched : IsMatched c.form.result (drop 1 (texts c.args.words.now)) (found_of c.in_ok-matches.matches) = c.in_ok-matches.ensures.ok in
    let some = some_read (texts c.args.words.now) (string_bytes c.in-Some.word.now) (drop 1 (texts c.args.words.now)) (first_is c.args.words.now c.in-Some.word.now first) c.in-Some-verb_of.verb own
    (subst (λ (form : Form). IsOf form (drop 1 (texts c.args.words.now))) c.form.ensures matched.of) in
    any_fault (λ e. e ≡ Memory → (command : Command) × Reads (texts c.args.words.now) command) c.from_residual-in_err-command_of.result (λ e memory. some)

pub returns-clause-is : goal.returns-clause-is
returns-clause-is c =
    let first : slice_get c.args.words.now 0 ≡ Some c.in-Some.word.now = search rules in
    let own : verb_of (string_bytes c.in-Some.word.now) ≡ Some c.in-Some-verb_of.verb = search rules in
    is_read (texts c.args.words.now) (string_bytes c.in-Some.word.now) (drop 1 (texts c.args.words.now)) (first_is c.args.words.now c.in-Some.word.now first) c.in-Some-verb_of.verb own
    (found_of c.in_ok-matches.matches) c.in_ok-command_of.field-0
    (subst (λ (form : Form). IsMatched form (drop 1 (texts c.args.words.now)) (found_of c.in_ok-matches.matches)) c.form.ensures c.in_ok-matches.ensures.ok)
    c.in_ok-command_of.ensures.verb c.in_ok-command_of.ensures.found
