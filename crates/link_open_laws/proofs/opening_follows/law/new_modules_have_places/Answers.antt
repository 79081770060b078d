use Rattle.history_state.specs.After.{after}
use Rattle.link_open_laws.proofs.OpeningFollows.Given.{have_places}
use Rattle.link_open_laws.proofs.opening_follows.law.new_modules_have_places.Goals as goal

pub returns : goal.returns
returns c harts past hart id root ask added ranges lawful next = have_places next.setting (after past) hart ask id root added ranges ask.name next.may.name
