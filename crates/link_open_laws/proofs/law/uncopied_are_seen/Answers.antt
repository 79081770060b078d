use Rattle.history_state.specs.After.{after}
use Rattle.link_open_laws.proofs.Uncopied.{uncopied_made}
use Rattle.link_open_laws.proofs.law.uncopied_are_seen.Goals as goal

pub returns : goal.returns
returns c harts past hart id root ask added ranges lawful next o new none bytes =
    uncopied_made (after past) hart ask id root added ranges o bytes none (c.new_bindings_are_seen.ensures harts past hart id root ask added ranges lawful next o new)
