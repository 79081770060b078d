use Rattle.std.proofs.Common.{◌≡◌, ◌∙◌, ◌+◌, ◌<◌, ◌||◌, Bool, true, false, ℕ, List, [], length, refl, sym, ap, map, take, get_or, append-nil, below_more, arith}
use Rattle.std.specs.Prelude.{Some, option_map}
use Rattle.std.specs.List.{list_any}
use Rattle.std.proofs.lemmas.List.{map-append, take_all, take_more}
use Rattle.std.proofs.lemmas.Option.{slice_get-get_or, slice_get_within}
use Rattle.ld_base.specs.declared.object.Reloc.{Reloc}
use Rattle.ld_base.specs.declared.object.Symbol.{Symbol}
use Rattle.ld_base.specs.declared.parts.Header.{Header}
use Rattle.elf_head.specs.AcceptancePart.Lemmas.Finds.{finds_is, finds_none, same_some}
use Rattle.elf_dynamic.specs.Judged.{broken_at, rela_broken}
use Rattle.elf_dynamic.specs.Memory.{overlaps}
use Rattle.elf_dynamic.specs.Named.{named_by}
use Rattle.elf_dynamic.specs.Rules.{bad_rela, is_bad_reloc}
use Rattle.elf_dynamic.proofs.Again.{again_finds, Again}
use Rattle.elf_dynamic.proofs.Ranges.{nothing}
use Rattle.elf_dynamic.proofs.reloc_rules.judge_rela.Goals as goal

module _ (headers : List Header) (symbols : List Symbol) (relocs : List Reloc) (i : ℕ) (d : Reloc) (within : i < length relocs)
    (none : (k : ℕ) → k < i → Again (is_bad_reloc headers symbols) (named_by symbols) [] relocs k → ⊥) where
  -- the next one is bad by itself, or names a byte that one before it names
  abbrev fails : Bool
  fails = is_bad_reloc headers symbols (get_or relocs i d) || list_any (overlaps (named_by symbols (get_or relocs i d)))
      (map (named_by symbols) (take i relocs))

  found : fails ≡ true → rela_broken headers symbols relocs ≡ Some (broken_at 14 i)
  unfolding bad_rela
  found bad =
      ap (option_map (broken_at 14)) ((finds_is _ _ i (again_finds _ _ [] relocs)).1
      (record { bad = (get_or relocs i d, slice_get-get_or relocs i d within, bad); before = none }))

  one_more : fails ≡ false → (k : ℕ) → k < i + 1 → Again (is_bad_reloc headers symbols) (named_by symbols) [] relocs k → ⊥
  one_more good = below_more _ i none (λ (r, is, bad). let own = same_some (sym is ∙ slice_get-get_or relocs i d within) in let never = rw own at bad in cc)

pub returns-then-is_bad_reloc : goal.returns-then-is_bad_reloc
returns-then-is_bad_reloc c =
    let bad = sym c.is_bad_reloc.ensures ∙ c.if-is_bad_reloc.true in
    rw c.broken.ensures (found _ _ c.args.relocs.now c.loop-index.index nothing c.loop-index-test.true c.loop-index.invariant.none (rw bad refl))

pub returns-then-not-put : goal.returns-then-not-put
returns-then-not-put c =
    let good = sym c.is_bad_reloc.ensures ∙ c.if-is_bad_reloc.false in
    let met = rw c.named_by.ensures at (c.in_ok-put.ensures.met _ c.loop-index.invariant.apart c.if-not-put.true) in
    rw c.broken-then-not-put.ensures (found _ _ c.args.relocs.now c.loop-index.index nothing c.loop-index-test.true c.loop-index.invariant.none
    (rw (good, met) refl))

pub loop-index-preserved : goal.loop-index-preserved
loop-index-preserved c =
    let good = sym c.is_bad_reloc.ensures ∙ c.if-is_bad_reloc.false in
    let put = c.in_ok-put.ensures.put _ c.loop-index.invariant.apart c.if-not-put.false in
    let clear = rw c.named_by.ensures at put.0 in
    record {
      none = one_more _ _ c.args.relocs.now c.loop-index.index nothing c.loop-index-test.true c.loop-index.invariant.none (rw (good, clear) refl);
      apart = rw (take_more c.args.relocs.now c.loop-index.index nothing c.loop-index-test.true, map-append, ← c.named_by.ensures) put.1;
    }

pub returns : goal.returns
unfolding bad_rela
returns c =
    let apart = rw (take_all c.loop-index.index c.args.relocs.now c.loop-index-test.false) at c.loop-index.invariant.apart in (
      finds_none _ _ (again_finds _ _ [] c.args.relocs.now)
          (λ k (r, is, bad). c.loop-index.invariant.none k (omega (arith, slice_get_within c.args.relocs.now k r is)) (r, is, bad)),
      record { none = refl; marks = λ d. rw append-nil (apart.marks d); are = record { listed = λ few. c.new.ensures; count = refl } },
    )
