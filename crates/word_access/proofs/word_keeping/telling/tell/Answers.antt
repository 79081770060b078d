use Rattle.word_access.proofs.WordKeeping.Told.{tells}
use Rattle.word_access.proofs.word_keeping.telling.tell.Goals as goal

pub returns-clause-heard : goal.returns-clause-heard
returns-clause-heard g c =
    (tells c.args.hand.now c.take_note.new.hand c.take_note-2.new.self c.load_word-2.new.self c.args.desk.now c.take_note.new.self c.load_word.new.self c.load_word.result c.load_word-2.result c.requires.resting c.requires.idle
    c.take_note.ensures.hand c.take_note.ensures.told c.load_word.ensures.view c.load_word.ensures.learns c.take_note-2.ensures.told c.load_word-2.ensures.view c.load_word-2.ensures.learns).heard

pub returns-clause-issued : goal.returns-clause-issued
returns-clause-issued g c =
    (tells c.args.hand.now c.take_note.new.hand c.take_note-2.new.self c.load_word-2.new.self c.args.desk.now c.take_note.new.self c.load_word.new.self c.load_word.result c.load_word-2.result c.requires.resting c.requires.idle
    c.take_note.ensures.hand c.take_note.ensures.told c.load_word.ensures.view c.load_word.ensures.learns c.take_note-2.ensures.told c.load_word-2.ensures.view c.load_word-2.ensures.learns).issued

pub returns-clause-lazy : goal.returns-clause-lazy
returns-clause-lazy g c =
    (tells c.args.hand.now c.take_note.new.hand c.take_note-2.new.self c.load_word-2.new.self c.args.desk.now c.take_note.new.self c.load_word.new.self c.load_word.result c.load_word-2.result c.requires.resting c.requires.idle
    c.take_note.ensures.hand c.take_note.ensures.told c.load_word.ensures.view c.load_word.ensures.learns c.take_note-2.ensures.told c.load_word-2.ensures.view c.load_word-2.ensures.learns).lazy

pub returns-clause-readings : goal.returns-clause-readings
returns-clause-readings g c =
    (tells c.args.hand.now c.take_note.new.hand c.take_note-2.new.self c.load_word-2.new.self c.args.desk.now c.take_note.new.self c.load_word.new.self c.load_word.result c.load_word-2.result c.requires.resting c.requires.idle
    c.take_note.ensures.hand c.take_note.ensures.told c.load_word.ensures.view c.load_word.ensures.learns c.take_note-2.ensures.told c.load_word-2.ensures.view c.load_word-2.ensures.learns).readings
