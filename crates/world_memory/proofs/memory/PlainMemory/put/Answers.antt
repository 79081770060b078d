use Rattle.std.proofs.Common.{◌≡◌, List, length, subst, ap, ◌∙◌, arith}
use Rattle.rv_hart.specs.Doublewords.{with_word_at}
use Rattle.rv_hart.specs.declared.doubleword.Doubleword.{Doubleword}
use Rattle.world_turns.specs.Memory.{lowest, word_count}
use Rattle.world_memory.specs.Front.{spread}
use Rattle.world_memory.specs.Inside.{words_of}
use Rattle.world_memory.proofs.Spreading.{IsIndex, put_by, put_front, put_page, put_past, whole_words}
use Rattle.world_memory.proofs.memory.PlainMemory.put.Goals as goal

pub returns-then-index-len-clause-put : goal.returns-then-index-len-clause-put
returns-then-index-len-clause-put c =
    let is : IsIndex c.args.address c.index_of-index.result = record { above = c.index_of-index.ensures.above; below = c.index_of-index.ensures.below } in
    put_front c.self.inside c.self.invariant c.args.address c.index_of-index.result is c.args.word (omega (arith, c.len.ensures, c.if-index-len.true))
    ∙ ap (λ (ws : List Doubleword). with_word_at lowest ws c.args.address c.args.word) c.self.view_is

pub returns-then-index-len-clause-whole : goal.returns-then-index-len-clause-whole
returns-then-index-len-clause-whole c =
    subst (λ (ws : List Doubleword). length ws ≡ word_count) c.self.view_is (whole_words c.self.inside c.self.invariant)

pub returns-then-index-lt-FRONT_COUNT-clause-put : goal.returns-then-index-lt-FRONT_COUNT-clause-put
returns-then-index-lt-FRONT_COUNT-clause-put c =
    let is : IsIndex c.args.address c.index_of-index.result = record { above = c.index_of-index.ensures.above; below = c.index_of-index.ensures.below } in
    put_by (words_of c.self.inside) (spread c.put_behind.new.front.items c.self.inside.page.items) c.args.address c.index_of-index.result c.args.word
    (whole_words c.self.inside c.self.invariant) is (c.put_behind.ensures.put c.self.inside.page.items)
    ∙ ap (λ (ws : List Doubleword). with_word_at lowest ws c.args.address c.args.word) c.self.view_is

pub returns-then-index-lt-FRONT_COUNT-clause-whole : goal.returns-then-index-lt-FRONT_COUNT-clause-whole
returns-then-index-lt-FRONT_COUNT-clause-whole c =
    subst (λ (ws : List Doubleword). length ws ≡ word_count) c.self.view_is (whole_words c.self.inside c.self.invariant)

pub returns-then-index-len-2-clause-put : goal.returns-then-index-len-2-clause-put
returns-then-index-len-2-clause-put c =
    let is : IsIndex c.args.address c.index_of-index.result = record { above = c.index_of-index.ensures.above; below = c.index_of-index.ensures.below } in
    put_page c.self.inside c.self.invariant c.args.address c.index_of-index.result is c.args.word c.if-index-lt-FRONT_COUNT.false
    ∙ ap (λ (ws : List Doubleword). with_word_at lowest ws c.args.address c.args.word) c.self.view_is

pub returns-then-index-len-2-clause-whole : goal.returns-then-index-len-2-clause-whole
returns-then-index-len-2-clause-whole c =
    subst (λ (ws : List Doubleword). length ws ≡ word_count) c.self.view_is (whole_words c.self.inside c.self.invariant)

pub returns-else-index-len-2-clause-put : goal.returns-else-index-len-2-clause-put
returns-else-index-len-2-clause-put c =
    let is : IsIndex c.args.address c.index_of-index.result = record { above = c.index_of-index.ensures.above; below = c.index_of-index.ensures.below } in
    subst (λ (ws : List Doubleword). ws ≡ with_word_at lowest ws c.args.address c.args.word) c.self.view_is
    (put_past c.self.inside c.self.invariant c.args.address c.index_of-index.result is c.args.word c.if-index-lt-FRONT_COUNT.false
    (omega (arith, c.len-else-index-lt-FRONT_COUNT.ensures, c.if-index-len-2.false)))

pub returns-else-index-len-2-clause-whole : goal.returns-else-index-len-2-clause-whole
returns-else-index-len-2-clause-whole c =
    subst (λ (ws : List Doubleword). length ws ≡ word_count) c.self.view_is (whole_words c.self.inside c.self.invariant)
