use Rattle.std.proofs.Common.{rules, ◌≡◌, ◌==◌, ◌+◌, true, false, length, sym, subst, ◌∙◌}
use Rattle.std.specs.Prelude.{is_none}
use Rattle.std.proofs.lemmas.Bool.{true≢false}
use Rattle.std.proofs.lemmas.List.{length-map}
use Rattle.trace_check.specs.Judged.{Judged, at}
use Rattle.trace_check.specs.Split.{lines_of}
use Rattle.trace_check.proofs.Ended.{cut_short, has_more, no_bytes_left, none_of, passes, some_bytes, some_of, unfinished}
use Rattle.trace_check.proofs.check.judge_end.Goals as goal

pub returns-then-is_none-clause-refused : goal.returns-then-is_none-clause-refused
returns-then-is_none-clause-refused c =
    let items : c.len-count.result ≡ length c.args.lines.now.events.items = search rules in
    let count : c.len-count.result ≡ length (lines_of c.args.lines.now).events = items ∙ sym (length-map c.args.lines.now.events.items (λ line. line.now)) in
    let none : is_none c.args.lines.now.last ≡ true = search rules in
    λ w events machine says shows.
    subst (λ cause. Judged w (lines_of c.args.lines.now) (at (c.len-count.result + 1) cause)) (sym c.end_cause.ensures)
    (cut_short w (lines_of c.args.lines.now) events c.len-count.result count says (none_of (λ line. line.now) c.args.lines.now.last none))

pub returns-then-not-is_whole-clause-refused : goal.returns-then-not-is_whole-clause-refused
returns-then-not-is_whole-clause-refused c =
    let items : c.len-count.result ≡ length c.args.lines.now.events.items = search rules in
    let count : c.len-count.result ≡ length (lines_of c.args.lines.now).events = items ∙ sym (length-map c.args.lines.now.events.items (λ line. line.now)) in
    let some : is_none c.args.lines.now.last ≡ false = search rules in
    let not : c.is_whole.result ≡ false = search rules in
    λ w events machine says shows.
    unfinished w (lines_of c.args.lines.now) events c.len-count.result count says (some_of (λ line. line.now) c.args.lines.now.last some)
    (λ whole. true≢false (sym ((c.is_whole.ensures w events machine shows).1 whole) ∙ not))

pub returns-then-not-is_empty-clause-refused : goal.returns-then-not-is_empty-clause-refused
returns-then-not-is_empty-clause-refused c =
    let items : c.len-count.result ≡ length c.args.lines.now.events.items = search rules in
    let count : c.len-count.result ≡ length (lines_of c.args.lines.now).events = items ∙ sym (length-map c.args.lines.now.events.items (λ line. line.now)) in
    let some : is_none c.args.lines.now.last ≡ false = search rules in
    let is : c.is_whole.result ≡ true = search rules in
    let more : (length c.args.lines.now.rest.now == 0) ≡ false = search rules in
    λ w events machine says shows.
    has_more w (lines_of c.args.lines.now) events c.len-count.result count says (some_of (λ line. line.now) c.args.lines.now.last some) ((c.is_whole.ensures w events machine shows).0 is)
    (some_bytes c.args.lines.now.rest.now more)

pub returns-clause-passed : goal.returns-clause-passed
returns-clause-passed c =
    let items : c.len-count.result ≡ length c.args.lines.now.events.items = search rules in
    let count : c.len-count.result ≡ length (lines_of c.args.lines.now).events = items ∙ sym (length-map c.args.lines.now.events.items (λ line. line.now)) in
    let some : is_none c.args.lines.now.last ≡ false = search rules in
    let is : c.is_whole.result ≡ true = search rules in
    let none : (length c.args.lines.now.rest.now == 0) ≡ true = search rules in
    λ w events machine says shows.
    passes w (lines_of c.args.lines.now) events c.len-count.result count says (some_of (λ line. line.now) c.args.lines.now.last some) ((c.is_whole.ensures w events machine shows).0 is)
    (no_bytes_left c.args.lines.now.rest.now none)

pub returns-then-is_none-clause-line : goal.returns-then-is_none-clause-line
returns-then-is_none-clause-line c = λ path is. absurd cc

pub returns-then-not-is_whole-clause-line : goal.returns-then-not-is_whole-clause-line
returns-then-not-is_whole-clause-line c = λ path is. absurd cc

pub returns-then-not-is_empty-clause-line : goal.returns-then-not-is_empty-clause-line
returns-then-not-is_empty-clause-line c = λ path is. absurd cc
