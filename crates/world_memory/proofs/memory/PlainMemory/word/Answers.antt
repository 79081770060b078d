use Rattle.std.proofs.Common.{◌≡◌, List, subst, arith}
use Rattle.rv_hart.specs.Doublewords.{nowhere, word_at}
use Rattle.rv_hart.specs.declared.doubleword.Doubleword.{Doubleword}
use Rattle.world_turns.specs.Memory.{lowest}
use Rattle.world_memory.proofs.Spreading.{IsIndex, in_between, in_front, in_page, past_all}
use Rattle.world_memory.proofs.memory.PlainMemory.word.Goals as goal

pub returns-then-index-len : goal.returns-then-index-len
returns-then-index-len c =
    let is : IsIndex c.args.address c.index_of-index.result = record { above = c.index_of-index.ensures.above; below = c.index_of-index.ensures.below } in
    subst (λ (ws : List Doubleword). c.index.result.now ≡ word_at lowest ws c.args.address) c.self.view_is
    (in_front c.self.inside c.self.invariant c.args.address c.index_of-index.result is c.index.result.now (omega (arith, c.len.ensures, c.if-index-len.true)) c.index.ensures)

pub returns-then-index-lt-FRONT_COUNT : goal.returns-then-index-lt-FRONT_COUNT
returns-then-index-lt-FRONT_COUNT c =
    let is : IsIndex c.args.address c.index_of-index.result = record { above = c.index_of-index.ensures.above; below = c.index_of-index.ensures.below } in
    subst (λ (ws : List Doubleword). nowhere ≡ word_at lowest ws c.args.address) c.self.view_is
    (in_between c.self.inside c.self.invariant c.args.address c.index_of-index.result is (omega (arith, c.len.ensures, c.if-index-len.false)) c.if-index-lt-FRONT_COUNT.true)

pub returns-then-index-len-2 : goal.returns-then-index-len-2
returns-then-index-len-2 c =
    let is : IsIndex c.args.address c.index_of-index.result = record { above = c.index_of-index.ensures.above; below = c.index_of-index.ensures.below } in
    subst (λ (ws : List Doubleword). c.index-then-index-len-2.result.now ≡ word_at lowest ws c.args.address) c.self.view_is
    (in_page c.self.inside c.self.invariant c.args.address c.index_of-index.result is c.index-then-index-len-2.result.now c.if-index-lt-FRONT_COUNT.false
    (omega (arith, c.len-else-index-lt-FRONT_COUNT.ensures, c.if-index-len-2.true)) c.index-then-index-len-2.ensures)

pub returns-else-index-len-2 : goal.returns-else-index-len-2
returns-else-index-len-2 c =
    let is : IsIndex c.args.address c.index_of-index.result = record { above = c.index_of-index.ensures.above; below = c.index_of-index.ensures.below } in
    subst (λ (ws : List Doubleword). nowhere ≡ word_at lowest ws c.args.address) c.self.view_is
    (past_all c.self.inside c.self.invariant c.args.address c.index_of-index.result is c.if-index-lt-FRONT_COUNT.false (omega (arith, c.if-index-len-2.false)))
