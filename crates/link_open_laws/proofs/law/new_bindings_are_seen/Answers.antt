use Rattle.history_journal.specs.Following.{machine_of}
use Rattle.link_open_laws.proofs.Seen.{new_bindings}
use Rattle.link_open_laws.proofs.law.new_bindings_are_seen.Goals as goal

pub returns : goal.returns
returns c harts past hart id root ask added ranges lawful next o new =
    new_bindings (record { serials = c.serials_follow.ensures; leads = c.found_stands.ensures.names; founds = c.found_stands.ensures.founds })
    (machine_of harts) next.setting next.machine past lawful hart ask id root added ranges next.may o new
