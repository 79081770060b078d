use Rattle.std.proofs.Common.{rules, tests, ◌≡◌, length}
use Rattle.std.specs.List.{list_all}
use Rattle.std.proofs.lemmas.Iterator.Consumers.{count_from_yields_List}
use Rattle.std.proofs.lemmas.Iterator.Search.{all_from_yields_List}
use Rattle.std.proofs.lemmas.Iterator.Splits.{YieldsList-from_str_split}
use Rattle.cli_words.specs.Values.{parts_by}
use Rattle.cli_read.proofs.Parts.{are_parts, fits, too_many}
use Rattle.cli_read.proofs.values.are_parts.Goals as goal

pub returns-then-count-most : goal.returns-then-count-most
returns-then-count-most c =
    let count : c.count.result ≡ length (parts_by c.args.separator c.args.value.now) =
    count_from_yields_List c.split.result _ c.count.ensures.ran
    (YieldsList-from_str_split c.args.separator c.args.value.now c.requires c.split.ensures.text c.split.ensures.has_more c.split.ensures.pattern) in
    let all : c.all.result ≡ list_all (fits c.args.longest) (parts_by c.args.separator c.args.value.now) =
    all_from_yields_List (fits c.args.longest) _ _ _ c.all.ensures.ran
    (YieldsList-from_str_split c.args.separator c.args.value.now c.requires c.split-then-count-most.ensures.text c.split-then-count-most.ensures.has_more c.split-then-count-most.ensures.pattern)
    (λ x b q k. search (rules, tests)) in
    are_parts c.args.separator c.args.most c.args.longest c.args.value.now c.count.result c.all.result count c.if-count-most.true all

pub returns-else-count-most : goal.returns-else-count-most
returns-else-count-most c =
    let count : c.count.result ≡ length (parts_by c.args.separator c.args.value.now) =
    count_from_yields_List c.split.result _ c.count.ensures.ran
    (YieldsList-from_str_split c.args.separator c.args.value.now c.requires c.split.ensures.text c.split.ensures.has_more c.split.ensures.pattern) in
    too_many c.args.separator c.args.most c.args.longest c.args.value.now c.count.result count c.if-count-most.false
