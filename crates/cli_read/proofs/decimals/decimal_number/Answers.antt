use Rattle.std.proofs.Common.{rules, ◌≡◌, Ok, sym, subst, ap, ◌∙◌}
use Rattle.std.proofs.lemmas.Fmt.{IsAscii-decimal, parse-decimal}
use Rattle.std.proofs.lemmas.Str.{IsUtf8-from_ascii}
use Rattle.std.specs.Fmt.{decimal}
use Rattle.std.specs.Str.{IsUtf8}
use Rattle.cli_read.proofs.decimals.decimal_number.Goals as goal

-- src/lib.rt:15:16
pub returns-in_err-text-clause-every : goal.returns-in_err-text-clause-every
returns-in_err-text-clause-every c n h e =
    let utf8 : IsUtf8 c.args.text.now = subst IsUtf8 (sym e) (IsUtf8-from_ascii (decimal n) (IsAscii-decimal n h)) in
    search rules

-- src/lib.rt:16:18
pub returns-in_err-number-clause-every : goal.returns-in_err-number-clause-every
returns-in_err-number-clause-every c n h e =
    let text : c.in_ok-text.text.now ≡ decimal n = search (rules, e) in
    let read : c.parse.result ≡ Ok n = parse-decimal 64 n _ _ h h text c.parse.ensures.value.0 in
    search (rules, read)

-- src/lib.rt:11:1
pub returns-clause-every : goal.returns-clause-every
returns-clause-every c n h e =
    let text : c.in_ok-text.text.now ≡ decimal n = search (rules, e) in
    let read : c.parse.result ≡ Ok n = parse-decimal 64 n _ _ h h text c.parse.ensures.value.0 in
    let number : c.in_ok-number.number ≡ n = search (rules, read) in
    let same : c.format.result.now ≡ c.in_ok-text.text.now = c.format.ensures.text ∙ ap decimal number ∙ sym text in
    search (rules, number, same)
