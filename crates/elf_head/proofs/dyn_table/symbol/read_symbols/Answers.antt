use Rattle.std.proofs.Common.{◌∙◌, ap, ◌+◌, [], ◌∷◌, length, length-append}
use Rattle.elf_head.proofs.DynTable.Symbols.{next_symbol}
use Rattle.elf_head.proofs.dyn_table.symbol.read_symbols.Goals as goal

pub loop-index-preserved : goal.loop-index-preserved
loop-index-preserved c = record {
  read = next_symbol c.args.bytes.now c.args.strings.now c.loop-index.symbols c.loop-index.index c.into.result c.in_ok-name.name _ c.symbol_at.result c.loop-index.invariant.read c.in_ok-push.ensures.ok c.symbol_at.ensures c.in_ok-name.ensures (c.into.ensures ∙ c.field32.ensures);
  len = ap length c.in_ok-push.ensures.ok ∙ length-append c.loop-index.symbols (c.symbol_at.result ∷ []) ∙ ap (λ n. n + 1) c.loop-index.invariant.len;
}
