use Rattle.std.proofs.Common.{rules}
use Rattle.slot_bind.specs.Grants.{grant_of}
use Rattle.test_words.proofs.BindTests.Posting.{has_posted, may_post}
use Rattle.test_words.proofs.bind_tests.calls.grant.Goals as goal

pub post-requires-clause-may : goal.post-requires-clause-may
post-requires-clause-may g c = may_post c.args.keeper.now c.args.hart c.calling.ensures.long c.requires.hart c.calling.result c.calling.new.keeper c.count_up.new.keeper c.args.granted.now c.args.event.now (search rules)
    c.calling.ensures.known c.count_up.ensures c.requires.stocked c.requires.free c.requires.granted

pub returns-clause-posted : goal.returns-clause-posted
returns-clause-posted g c = has_posted c.args.keeper.now c.args.hart c.calling.ensures.long c.requires.hart c.calling.result c.calling.new.keeper c.count_up.new.keeper c.post.new.keeper
    (grant_of c.args.granted.now c.count_up.new.keeper.generation) c.args.event.now (search rules) c.calling.ensures.known c.count_up.ensures c.post.ensures.posted
