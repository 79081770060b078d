use Rattle.asm_grammar.proofs.Sources.{source_says, says_source, source_breaks, breaks_source}
use Rattle.asm_grammar.proofs.law.one_source.Goals as goal

pub returns-clause-says : goal.returns-clause-says
returns-clause-says c source says = (source_says source says, says_source source says)

pub returns-clause-breaks : goal.returns-clause-breaks
returns-clause-breaks c source line cause = (source_breaks source line cause, breaks_source source line cause)
