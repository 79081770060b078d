use Rattle.std.proofs.Common.{◌≡◌, sym, subst, ◌∙◌, ◌+◌, length, arith}
use Rattle.sym_lookup.specs.SymFind.Best.{Knows, precedes}
use Rattle.sym_lookup.specs.SymFind.Walks.{Linked}
use Rattle.sym_lookup.specs.declared.sym_find.best.Best.{Best}
use Rattle.sym_lookup.proofs.SymFind.SysvWalks.{Way, at_bucket, goes_on, linked_more, over, walk_begins, way_on}
use Rattle.sym_lookup.proofs.sym_find.sysv.walk.Goals as goal

pub loop-passed-init : goal.loop-passed-init
loop-passed-init c = record {
  way = at_bucket c.args.chain.now c.args.bucket;
  knows = walk_begins c.args.chain.now c.args.bucket c.args.search.now c.new-best.result c.new-best.ensures;
}

pub returns-then-is_over : goal.returns-then-is_over
returns-then-is_over c =
    over c.args.chain.now c.args.bucket c.loop-passed.passed c.loop-passed.at c.loop-passed.invariant.way c.args.search.now c.loop-passed.best (length c.args.chain.now) (sym c.is_over.ensures ∙ c.if-is_over.true) (omega arith)
    c.loop-passed.invariant.knows

pub loop-passed-preserved : goal.loop-passed-preserved
loop-passed-preserved c =
    let some = goes_on c.loop-passed.at (precedes c.loop-passed.best c.args.search.now.object.now.first_exported) (sym c.is_over.ensures ∙ c.if-is_over.false) in
    record {
      way = subst (λ n. Way c.args.chain.now c.args.bucket (c.loop-passed.passed + 1) n) (sym c.link-at.ensures)
          (way_on c.args.chain.now c.args.bucket c.loop-passed.passed c.loop-passed.at c.loop-passed.invariant.way some);
      knows = subst (λ (b : Best). Knows c.args.search.now (Linked c.args.chain.now c.args.bucket (c.loop-passed.passed + 1)) b) (sym c.after_link-best.ensures)
          (linked_more c.args.chain.now c.args.bucket c.loop-passed.passed c.loop-passed.at c.loop-passed.invariant.way c.args.search.now c.loop-passed.best some c.loop-passed.invariant.knows);
    }

pub returns : goal.returns
returns c =
    let all : c.loop-passed.passed ≡ length c.args.chain.now = omega (arith, c.loop-passed-test.false, c.loop-passed.auto.passed-end) in
    subst (λ n. Knows c.args.search.now (Linked c.args.chain.now c.args.bucket n) c.loop-passed.best) all c.loop-passed.invariant.knows
