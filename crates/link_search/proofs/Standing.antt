-- Where a hart's block stands.
use Rattle.std.proofs.Common.{◌≡◌, ℕ, ◌+◌, eqb, List, Option, Some, None, Result, Ok, Err, IfOk, sym, ap, ◌∙◌}
use Rattle.std.specs.List.{find}
use Rattle.std.specs.Option.{option_map_or}
use Rattle.link_lists.specs.LateBlocksPart.Blocks.{BlockList, block_of}
use Rattle.history_event.specs.declared.event.Range.{Range}
use Rattle.history_event.specs.declared.state.Module.{Module}
use Rattle.history_state.specs.State.{State}
use Rattle.history_state.specs.Storage.{is_static_area, late_block, module_of, tls_block, tp_of}
use Rattle.tls_blocks.specs.Numbers.{ModuleTable}
use Rattle.link_search.specs.Blocks.{ShowsBlocks, static_at}

abbrev by_module : State → ℕ → ℕ → Option Module → Option ℕ
by_module s hart serial (Some m) = option_map_or (λ offset. Some (tp_of s hart + offset)) m.offset (late_block s hart serial)
by_module s hart serial None = None

of_module : (s : State) (hart serial : ℕ) (found : Option Module) → module_of s serial ≡ found → by_module s hart serial found ≡ tls_block s hart serial
unfolding tls_block
of_module s hart serial None is = ap (λ (f : Option Module). elim f [ Some m ↦ option_map_or (λ offset. Some (tp_of s hart + offset)) m.offset (late_block s hart serial) | None ↦ None ]) (sym is)
of_module s hart serial (Some m) is = ap (λ (f : Option Module). elim f [ Some k ↦ option_map_or (λ offset. Some (tp_of s hart + offset)) k.offset (late_block s hart serial) | None ↦ None ]) (sym is)

tp_is : (s : State) (reserved : List Range) (tp hart : ℕ) → s.ranges ≡ reserved → s.statics.tp ≡ tp
    → option_map_or (λ (r : Range). r.address + tp) (find (λ (r : Range). is_static_area hart r.purpose) reserved) 0 ≡ tp_of s hart
unfolding tp_of
tp_is s reserved tp hart ranges is =
    ap (λ n. option_map_or (λ (r : Range). r.address + n) (find (λ (r : Range). is_static_area hart r.purpose) reserved) 0) (sym is)
    ∙ ap (λ (rs : List Range). option_map_or (λ (r : Range). r.address + s.statics.tp) (find (λ (r : Range). is_static_area hart r.purpose) rs) 0) (sym ranges)

module _ (s : State) (reserved : List Range) (table : ModuleTable) (late : BlockList) (hart serial : ℕ) (shows : ShowsBlocks s reserved table late) where
  found_of : (found : Option Module) → found ≡ find (λ (m : Module). eqb m.serial serial) table.modules → module_of s serial ≡ found
  found_of found is = ap (find (λ (m : Module). eqb m.serial serial)) shows.modules ∙ sym is

  pub no_module : None ≡ find (λ (m : Module). eqb m.serial serial) table.modules → None ≡ tls_block s hart serial
  no_module none = of_module s hart serial None (found_of None none)

  pub at_offset : (m : Module) (offset : ℕ) → Some m ≡ find (λ (k : Module). eqb k.serial serial) table.modules → m.offset ≡ Some offset
      → Some (static_at reserved table.tp hart offset) ≡ tls_block s hart serial
  at_offset m offset is at =
      ap (λ n. Some (n + offset)) (tp_is s reserved table.tp hart shows.ranges shows.tp)
      ∙ ap (λ (o : Option ℕ). option_map_or (λ k. Some (tp_of s hart + k)) o (late_block s hart serial)) (sym at)
      ∙ of_module s hart serial (Some m) (found_of (Some m) is)

  pub late_at : (m : Module) → Some m ≡ find (λ (k : Module). eqb k.serial serial) table.modules → m.offset ≡ None → block_of hart serial late.blocks ≡ tls_block s hart serial
  late_at m is none =
      ap (block_of hart serial) (sym shows.blocks)
      ∙ ap (λ (o : Option ℕ). option_map_or (λ k. Some (tp_of s hart + k)) o (late_block s hart serial)) (sym none)
      ∙ of_module s hart serial (Some m) (found_of (Some m) is)

pub if_ok : {X E : Type 0} (r : Result X E) (P Q : X → Type 0) → ((x : X) → P x → Q x) → IfOk r P → IfOk r Q
if_ok (Ok x) P Q every is = every x is
if_ok (Err e) P Q every is = tt
