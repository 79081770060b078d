use Rattle.std.proofs.Common.{rules, ◌≡◌, ◌<◌, true, drop, length, subst, ◌∙◌, arith}
use Rattle.std.specs.String.{string_bytes}
use Rattle.std.proofs.lemmas.List.{length-map}
use Rattle.clap.specs.Simple.{app_of}
use Rattle.cli_read.specs.Judged.{IsOf}
use Rattle.cli_read.specs.Matched.{program_name}
use Rattle.cli_read.specs.SaidWords.Words.{texts}
use Rattle.cli_read.proofs.Taking.{matched, rest_is, takes_them}
use Rattle.cli_read.proofs.taken.taken.Goals as goal

pub unreachable-requires : goal.unreachable-requires
unreachable-requires c =
    let passed : c.are_of.result ≡ true = search rules in
    let of : IsOf c.args.form (drop 1 (texts c.args.words.now)) = subst (IsOf c.args.form) (rest_is c.args.words.now) (c.are_of.ensures.0 passed) in
    let some : 0 < length (texts c.args.words.now) = omega (arith, c.requires, length-map c.args.words.now string_bytes) in
    c.in_default.not-OutOfMemory
    (c.kind.ensures
    ∙ c.in-Err.ensures.passes
    (takes_them c.words_are_taken.ensures c.args.form program_name (texts c.args.words.now) some of (app_of c.in_ok-command.command) c.in_ok-command.ensures))

pub returns-in-Ok-clause-ok : goal.returns-in-Ok-clause-ok
returns-in-Ok-clause-ok c =
    let passed : c.are_of.result ≡ true = search rules in
    let of : IsOf c.args.form (drop 1 (texts c.args.words.now)) = subst (IsOf c.args.form) (rest_is c.args.words.now) (c.are_of.ensures.0 passed) in
    let some : 0 < length (texts c.args.words.now) = omega (arith, c.requires, length-map c.args.words.now string_bytes) in
    matched c.words_are_taken.ensures c.args.form program_name (texts c.args.words.now) some of (app_of c.in_ok-command.command) c.in-Ok.matches c.in_ok-command.ensures c.in-Ok.ensures.matches

pub returns-in-OutOfMemory-clause-memory : goal.returns-in-OutOfMemory-clause-memory
returns-in-OutOfMemory-clause-memory c e =
    let passed : c.are_of.result ≡ true = search rules in
    subst (IsOf c.args.form) (rest_is c.args.words.now) (c.are_of.ensures.0 passed)
