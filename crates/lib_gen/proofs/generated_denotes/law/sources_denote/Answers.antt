use Rattle.std.proofs.lemmas.List.Elements.{All-weaker}
use Rattle.lib_gen.specs.GeneratedSources.Sources.{sources}
use Rattle.lib_gen.specs.GeneratedDenotes.Accepted.{HasObject, IsUnrefused}
use Rattle.lib_gen.proofs.GeneratedDenotes.Sources.{denote, unrefused}
use Rattle.lib_gen.proofs.generated_denotes.law.sources_denote.Goals as goal

pub returns-clause-denote : goal.returns-clause-denote
returns-clause-denote c =
    denote c.sources_are_short.ensures c.alignments_divide_pages.ensures c.strings_are_said.ensures c.sources_say.ensures.library c.sources_say.ensures.program

pub returns-clause-unrefused : goal.returns-clause-unrefused
returns-clause-unrefused c = λ number.
    All-weaker (λ file. HasObject file.bytes) (λ file. IsUnrefused file.bytes) (λ file. unrefused c.one_answer.ensures.never_both file.bytes) (sources number)
    (denote c.sources_are_short.ensures c.alignments_divide_pages.ensures c.strings_are_said.ensures c.sources_say.ensures.library c.sources_say.ensures.program number)
