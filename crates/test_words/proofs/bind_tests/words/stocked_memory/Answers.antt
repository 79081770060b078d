use Rattle.std.proofs.Common.{◌∙◌}
use Rattle.test_words.proofs.BindTests.Posting.{first_new, two_left}
use Rattle.test_words.proofs.bind_tests.words.stocked_memory.Goals as goal

pub returns-clause-zero : goal.returns-clause-zero
returns-clause-zero g c = first_new _ 0 (two_left _ _ _ _ _ (c.into_vec-harts.ensures ∙ c.in_ok-memory.ensures.harts) c.in-Some-Some.ensures.items c.in-Some-Some.ensures'.items).0

pub returns-clause-one : goal.returns-clause-one
returns-clause-one g c = first_new _ 1 (two_left _ _ _ _ _ (c.into_vec-harts.ensures ∙ c.in_ok-memory.ensures.harts) c.in-Some-Some.ensures.items c.in-Some-Some.ensures'.items).1
