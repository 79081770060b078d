use Rattle.std.proofs.Common.{subst}
use Rattle.history_state.specs.After.{after}
use Rattle.history_state.specs.Read.{WasRead}
use Rattle.history_state.specs.Setting.{Machine}
use Rattle.history_state.specs.Lemmas.Begun.{begins_untouched}
use Rattle.history_state.proofs.WasRead.{objects_read, opens_read}
use Rattle.history_state.proofs.law.objects_are_read.Goals as goal

pub returns-clause-mapped : goal.returns-clause-mapped
returns-clause-mapped c m events lawful = objects_read m
    (record { serials = c.serials_follow.ensures; leads = c.found_stands.ensures.names; founds = c.found_stands.ensures.founds })
    c.reads_candidates.ensures.candidates c.reads_candidates.ensures.once events lawful

pub returns-clause-new : goal.returns-clause-new
returns-clause-new c m w past hart id root ask added ranges same lawful may o new =
    subst (λ (n : Machine). WasRead n o) same (opens_read c.reads_candidates.ensures.candidates c.reads_candidates.ensures.once w (after past)
    (begins_untouched (record { serials = c.serials_follow.ensures; leads = c.found_stands.ensures.names; founds = c.found_stands.ensures.founds }) m past lawful)
    hart ask id root added ranges ask.name may.name o new)
