use Rattle.std.proofs.Common.{◌≡◌, ◌∙◌, length, rules, tests}
use Rattle.std.specs.List.{filter}
use Rattle.std.proofs.lemmas.Iterator.{YieldsList-from_slice}
use Rattle.std.proofs.lemmas.Iterator.Consumers.{YieldsList-from_filter, count_from_yields_List}
use Rattle.std.proofs.lemmas.List.Sums.{length-filter}
use Rattle.trace_text.specs.RunTexts.Counting.{is_grant}
use Rattle.trace_text.proofs.run_texts.record.grants_among.Goals as goal

pub returns : goal.returns
returns c =
    let counted : c.count.result ≡ length (filter is_grant c.args.events.now) =
    count_from_yields_List c.filter.result _ c.count.ensures.ran
    (YieldsList-from_filter _ is_grant (YieldsList-from_slice c.args.events.now cc) c.filter.ensures.closure (λ x r q k. search (rules, tests))) in
    counted ∙ length-filter is_grant c.args.events.now
