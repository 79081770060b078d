-- The blocks that a hart keeps, behind the answers that it got.
use Rattle.std.proofs.Common.{◌≡◌, ℕ, ◌<◌, ◌≤◌, ◌==◌, ◌&&◌, Bool, true, false, cond, if◌then◌else◌, List, [], ◌∷◌, ◌++◌, Option, None, Some, append_assoc, refl, sym, ap, ◌∙◌, eq-eqb, ne_eqb, arith}
use mathlib.Core.Logic.{dite}
use native.Mathlib.Decide.{ℕ_discrete}
use Rattle.std.proofs.Math.Bool.{and-false, and-true}
use Rattle.std.specs.List.{Contains}
use Rattle.word_rule.specs.declared.entry.Entry.{Entry}
use Rattle.word_rule.specs.declared.view.HartView.{HartView}
use Rattle.word_rule.specs.Views.{is_block, known_of, last_block, later_block}
use Rattle.tls_blocks.specs.Blocks.{BlockTable, block_at}
use Rattle.hart_linker.specs.Between.{BlocksFit}
use Rattle.link_keeper.specs.Handing.{KeepsAnswer, is_stored}
use Rattle.link_keeper.proofs.Ending.{IsPlain, last_plain}

-- the last of some answers, with one more at their end
last_new : (t : Bool) (v : ℕ) → later_block None t v ≡ cond t (Some v) None
last_new true v = refl
last_new false v = refl

last_more : (before : Option ℕ) (t s : Bool) (v x : ℕ) → later_block (cond t (Some v) before) s x ≡ cond t (Some v) (later_block before s x)
last_more before true s v x = refl
last_more before false s v x = refl

last_one : (xs : List Entry) (first : Entry) (generation number : ℕ) → last_block generation number (xs ++ first ∷ []) ≡ cond (is_block generation number first) (Some first.value) (last_block generation number xs)
last_one [] first generation number = last_new (is_block generation number first) first.value
last_one (x ∷ xs) first generation number =
    ap (λ (o : Option ℕ). later_block o (is_block generation number x) x.value) (last_one xs first generation number)
    ∙ last_more (last_block generation number xs) (is_block generation number first) (is_block generation number x) first.value x.value

last_behind : (xs : List Entry) (first : Entry) (more : List Entry) → ((e : Entry) → Contains more e → IsPlain e) → (generation number : ℕ)
    → last_block generation number (xs ++ first ∷ more) ≡ cond (is_block generation number first) (Some first.value) (last_block generation number xs)
last_behind xs first more plain generation number =
    ap (last_block generation number) (sym (append_assoc xs (first ∷ []) more)) ∙ last_plain more plain (xs ++ first ∷ []) generation number ∙ last_one xs first generation number

-- of its own generation, and of another one
at_its : (e : Entry) (generation number : ℕ) → e.generation ≡ generation → is_block generation number e ≡ ((e.slot == number) && is_stored e)
at_its e generation number same = ap (λ (t : Bool). (e.slot == number) && t && is_stored e) (eq-eqb e.generation generation same) ∙ ap (λ (t : Bool). t && is_stored e) (and-true (e.slot == number))

at_another : (e : Entry) (generation number : ℕ) → (e.generation ≡ generation → ⊥) → is_block generation number e ≡ false
at_another e generation number apart = ap (λ (t : Bool). (e.slot == number) && t && is_stored e) (ne_eqb e.generation generation apart) ∙ ap (λ (t : Bool). t && is_stored e) (and-false (e.slot == number))

module _ (d now : BlockTable) (before j : HartView) (first : Entry) (more : List Entry) (generation : ℕ) (fit : BlocksFit d before) (early : d.generation ≤ generation) (of : first.generation ≡ generation)
    (known : known_of j.lane ≡ known_of before.lane ++ first ∷ more) (plain : (e : Entry) → Contains more e → IsPlain e) (keeps : KeepsAnswer generation first d now) where
  -- what was kept at this generation
  old_last : (number : ℕ) → last_block generation number (known_of before.lane) ≡ (if d.generation == generation then block_at d.entries number else None)
  old_last number = dite (ℕ_discrete d.generation generation)
      (λ (same : d.generation ≡ generation).
      ap (λ (g : ℕ). last_block g number (known_of before.lane)) (sym same) ∙ sym (fit.same number) ∙ ap (λ (t : Bool). cond t (block_at d.entries number) None) (sym (eq-eqb d.generation generation same)))
      (λ (apart : d.generation ≡ generation → ⊥).
      let earlier : d.generation < generation = omega (arith, early, apart) in
      fit.latest generation number earlier ∙ ap (λ (t : Bool). cond t (block_at d.entries number) None) (sym (ne_eqb d.generation generation apart)))

  pub blocks_fit : BlocksFit now j
  blocks_fit = record {
    same = λ number.
        keeps.blocks number
        ∙ ap (λ (t : Bool). cond t (Some first.value) (if d.generation == generation then block_at d.entries number else None)) (sym (at_its first generation number of))
        ∙ ap (λ (o : Option ℕ). cond (is_block generation number first) (Some first.value) o) (sym (old_last number))
        ∙ sym (last_behind (known_of before.lane) first more plain generation number)
        ∙ ap (last_block generation number) (sym known)
        ∙ ap (λ (g : ℕ). last_block g number (known_of j.lane)) (sym keeps.generation_is);
    latest = λ g number later.
        let above : generation < g = (let is : now.generation ≡ generation = keeps.generation_is in omega (arith, later, is)) in
        let long : d.generation < g = omega (arith, early, above) in
        ap (last_block g number) known ∙ last_behind (known_of before.lane) first more plain g number
        ∙ ap (λ (t : Bool). cond t (Some first.value) (last_block g number (known_of before.lane))) (at_another first g number (λ (same : first.generation ≡ g). (let is : first.generation ≡ generation = of in omega (arith, same, is, above))))
        ∙ fit.latest g number long;
  }
