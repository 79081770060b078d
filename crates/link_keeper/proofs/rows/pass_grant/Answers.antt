use Rattle.std.proofs.Common.{ℕ, sym, ap, ◌∙◌}
use Rattle.word_rule.specs.declared.view.KeeperView.{KeeperView}
use Rattle.word_rule.specs.Views.{row_of}
use Rattle.slot_bind.specs.Grants.{grant_of, posted}
use Rattle.link_keeper.proofs.Kept.{posted_lazy}
use Rattle.link_keeper.proofs.rows.pass_grant.Goals as goal

pub read_grant-requires-clause-lazy : goal.read_grant-requires-clause-lazy
read_grant-requires-clause-lazy g c =
    ap (λ (k : KeeperView). (row_of k c.args.seat.now.number).lazy) c.post.ensures.posted
    ∙ ap (λ (m : ℕ). (row_of (posted c.args.hart (grant_of c.args.offer.now c.count_up.new.keeper.generation) c.count_up.new.keeper) m).lazy) (sym c.requires.hart)
    ∙ posted_lazy c.count_up.new.keeper c.args.hart (grant_of c.args.offer.now c.count_up.new.keeper.generation) c.post.ensures.long c.requires.may.waits.1.0
