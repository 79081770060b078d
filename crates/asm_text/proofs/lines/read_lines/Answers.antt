use Rattle.std.proofs.Common.{◌∙◌, sym, rules}
use Rattle.asm_text.proofs.Reading.{stepped, ended}
use Rattle.asm_text.proofs.lines.read_lines.Goals as goal

pub loop-rest-preserved : goal.loop-rest-preserved
loop-rest-preserved c = record {
  whole = stepped (λ line. line.now) c.loop-rest.number c.loop-rest.statements c.push.new.self c.in_ok-read.read c.loop-rest.rest.now c.in-len1-up.len_at_least (λ d. search rules) (search rules) ∙ c.loop-rest.invariant.whole;
  count = let known = c.loop-rest.invariant.count in let some = c.in-len1-up.len_at_least in search rules;
}

pub returns-clause-statements : goal.returns-clause-statements
returns-clause-statements c = sym c.loop-rest.invariant.whole ∙ ended (λ line. line.now) c.loop-rest.number c.loop-rest.statements c.loop-rest.rest.now c.in_default.len_below
