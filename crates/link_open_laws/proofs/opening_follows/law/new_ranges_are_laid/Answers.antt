use Rattle.history_state.specs.After.{after}
use Rattle.link_open_laws.proofs.OpeningFollows.Given.{are_laid}
use Rattle.link_open_laws.proofs.opening_follows.law.new_ranges_are_laid.Goals as goal

pub returns : goal.returns
returns c harts past hart id root ask added ranges lawful next = are_laid next.setting (after past) hart ask id root added ranges ask.name next.may.name
