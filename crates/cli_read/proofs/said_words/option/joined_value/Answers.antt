use Rattle.std.proofs.Common.{subst, arith}
use Rattle.std.proofs.lemmas.Str.Pattern.{split_once_first}
use Rattle.cli_read.proofs.SaidWords.Fronts.{AtSign, no_value, value_is}
use Rattle.cli_read.proofs.said_words.option.joined_value.Goals as goal

pub returns-in-Some : goal.returns-in-Some
returns-in-Some c = value_is c.args.word.now (c.in-Some._name, c.in-Some.value)
    (subst (AtSign c.args.word.now) c.in-Some.is (split_once_first 61 c.args.word.now c.split_once.result c.split_once.ensures.cases (omega arith)))

pub returns-in-None : goal.returns-in-None
returns-in-None c = no_value c.args.word.now
    (subst (AtSign c.args.word.now) c.in-None.is (split_once_first 61 c.args.word.now c.split_once.result c.split_once.ensures.cases (omega arith)))
