use Rattle.asm_text.proofs.Told.{says, refused}
use Rattle.asm_text.proofs.lines.parse.Goals as goal

pub returns-clause-says : goal.returns-clause-says
returns-clause-says c = says c.args.source.now c.read_source.result c.one_source.ensures.says c.read_source.ensures.statements

pub returns-clause-refused : goal.returns-clause-refused
returns-clause-refused c = refused c.args.source.now c.read_source.result c.one_source.ensures.breaks c.read_source.ensures.refused
