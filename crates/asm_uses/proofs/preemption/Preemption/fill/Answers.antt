use Rattle.std.proofs.Common.{List, ℕ, ◌∙◌, ap, sym}
use Rattle.std.specs.Prelude.{option_map}
use Rattle.std.proofs.lemmas.List.{take_all}
use Rattle.asm_statement.specs.declared.line.Line.{Line}
use Rattle.asm_layout.specs.Names.{is_exported, is_kept, is_library, statement_exports, statement_keeps}
use Rattle.asm_layout.specs.Once.{is_among}
use Rattle.asm_layout.proofs.Among.{among_added_if}
use Rattle.asm_layout.proofs.Firsts.{any_further}
use Rattle.asm_uses.proofs.preemption.Preemption.fill.Goals as goal

pub loop-line-preserved : goal.loop-line-preserved
loop-line-preserved c =
    let lines = c.as_slice-line-items.result.now in
    let n = c.loop-line.line-index in
    let line = c.line-item.result in
    record {
      exported = λ name. ap (λ (names : List (List ℕ)). is_among names name) c.in_ok-add_found.ensures
          ∙ among_added_if c.loop-line.self.exported (option_map (λ n. n.now) c.exported_name.result) name
          ∙ rw (c.loop-line.invariant.exported name, ← c.exported_name.ensures name)
          (sym (any_further (λ line. statement_exports name line.statement) lines n line c.loop-line-test.true c.line-item.is));
      kept = λ name. ap (λ (names : List (List ℕ)). is_among names name) c.in_ok-add_found-2.ensures
          ∙ among_added_if c.loop-line.self.kept (option_map (λ n. n.now) c.kept_name.result) name
          ∙ rw (c.loop-line.invariant.kept name, ← c.kept_name.ensures name)
          (sym (any_further (λ line. statement_keeps name line.statement) lines n line c.loop-line-test.true c.line-item.is));
    }

pub returns : goal.returns
returns c =
    let all = take_all c.loop-line.line-index c.as_slice-line-items.result.now c.loop-line-test.false ∙ c.as_slice-line-items.ensures in
    record {
      kind = c.is_library-self.ensures ∙ ap is_library c.kind_of.ensures;
      exported = λ name. c.loop-line.invariant.exported name ∙ ap (λ (lines : List Line). is_exported lines name) all;
      kept = λ name. c.loop-line.invariant.kept name ∙ ap (λ (lines : List Line). is_kept lines name) all;
    }
