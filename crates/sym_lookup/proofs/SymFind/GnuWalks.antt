-- Walks of a GNU table.
use Rattle.std.proofs.Common.{◌≡◌, ◌∙◌, ap, sym, subst, ℕ, zero, suc, ◌+◌, ◌-◌, ◌/◌, ◌<◌, ◌≤◌, Bool, true, false, List, [], ◌∷◌, length, drop, get_or, refl, arith, inl, inr, add-zero, length-drop}
use Rattle.std.specs.Prelude.{◌⊎◌, ◌==◌, ◌||◌, if◌then◌else◌, Some, None}
use Rattle.std.specs.List.{slice_get}
use Rattle.std.specs.Option.{is_some}
use Rattle.std.proofs.lemmas.Bool.{cases_lt, eq-eqb, eqb-true, or_cases}
use Rattle.std.proofs.lemmas.Option.{slice_get-get_or, slice_get_within}
use Rattle.ld_base.specs.declared.parts.GnuPart.{GnuPart}
use Rattle.sym_hash.specs.Gnu.{is_end}
use Rattle.sym_hash.specs.Hash.{gnu_hash}
use Rattle.sym_hash.specs.Reached.{GoesOn, IsChainWord, ReachedByGnu}
use Rattle.sym_lookup.specs.SymFind.Best.{Knows, after, nothing}
use Rattle.sym_lookup.specs.SymFind.Walks.{BeginsAt, Met, Walked}
use Rattle.sym_lookup.specs.declared.sym_find.best.Best.{Best}
use Rattle.sym_lookup.specs.declared.sym_find.best.Search.{Search}
use Rattle.sym_lookup.proofs.SymFind.Kept.{knows_after, knows_early, knows_nothing, knows_same}

-- ---- the chain

slice_get-drop : (n : ℕ) (xs : List ℕ) (i : ℕ) → slice_get (drop n xs) i ≡ slice_get xs (i + n)
slice_get-drop zero xs i = ap (slice_get xs) (sym (add-zero i))
slice_get-drop (suc n) [] i = refl
slice_get-drop (suc n) (x ∷ xs) i =
    let same : suc (i + n) ≡ i + suc n = omega arith in
    slice_get-drop n xs i ∙ ap (slice_get (x ∷ xs)) same

pub word_at : (g : GnuPart) (first passed word : ℕ) → slice_get (drop first g.chain) passed ≡ Some word → IsChainWord g (g.symoffset + first + passed) word
word_at g first passed word at =
    let place : passed + first ≡ g.symoffset + first + passed - g.symoffset = omega arith in
    record { from = omega arith; stands = ap (slice_get g.chain) (sym place) ∙ sym (slice_get-drop first g.chain passed) ∙ at }

same_word : (g : GnuPart) (k one other : ℕ) → IsChainWord g k one → IsChainWord g k other → one ≡ other
same_word g k one other a b = cc (a.stands, b.stands)

module _ (g : GnuPart) (hash first past word : ℕ) (at : IsChainWord g past word) where
  met_before : (k : ℕ) → Met g hash first past k → Met g hash first (past + 1) k
  met_before k met = let low = met.before in record { from = met.from; before = omega arith; word = met.word }

  -- a chain word more
  pub met_more : (w : Search) (b : Best) → first ≤ past → Knows w (Met g hash first past) b → Knows w (Met g hash first (past + 1)) (if word / 2 == hash / 2 then after w b past else b)
  met_more w b order knows = by_hash (word / 2 == hash / 2) refl
    where
      one_of : (k : ℕ) → Met g hash first (past + 1) k → Met g hash first past k ⊎ (k ≡ past)
      one_of k met =
          elim (cases_lt k past) [
            | inl before ↦ inl (record { from = met.from; before = before; word = met.word })
            | inr behind ↦ inr (let low = met.before in omega arith)
          ]

      here : (word / 2 == hash / 2) ≡ true → Met g hash first (past + 1) past
      here same = record { from = order; before = omega arith; word = record { word = word; stands = at; agrees = eqb-true (word / 2) (hash / 2) same } }

      not_here : (word / 2 == hash / 2) ≡ false → Met g hash first (past + 1) past → ⊥
      not_here other met =
          let is : met.word.word ≡ word = same_word g past met.word.word word met.word.stands at in
          let same : (word / 2 == hash / 2) ≡ true = eq-eqb (word / 2) (hash / 2) (ap (λ n. n / 2) (sym is) ∙ met.word.agrees) in
          cc

      before_of : (word / 2 == hash / 2) ≡ false → (k : ℕ) → Met g hash first (past + 1) k → Met g hash first past k
      before_of other k met = elim (one_of k met) [ inl before ↦ before | inr is ↦ absurd (not_here other (subst (Met g hash first (past + 1)) is met)) ]

      by_hash : (same : Bool) → (word / 2 == hash / 2) ≡ same → Knows w (Met g hash first (past + 1)) (if same then after w b past else b)
      by_hash true same = knows_after w (Met g hash first past) (Met g hash first (past + 1)) b met_before knows past (here same) one_of
      by_hash false other = knows_same w (Met g hash first past) (Met g hash first (past + 1)) b met_before knows (before_of other)

  -- the chain goes on behind it
  pub goes_further : GoesOn g first past → is_end word ≡ false → GoesOn g first (past + 1)
  goes_further goes on = record {
    order = let order = goes.order in omega arith;
    on = λ k from below.
        elim (cases_lt k past) [
          | inl before ↦ goes.on k from before
          | inr behind ↦ (let is : past ≡ k = omega arith in (word, subst (λ n. IsChainWord g n word) is at, on))
        ];
  }

  to_chain : GoesOn g first past → (k : ℕ) → Met g hash first (past + 1) k → Walked g hash first k
  to_chain goes k met = record { goes_on = record { order = met.from; on = λ j from below. goes.on j from (let low = met.before in omega arith) }; word = met.word }

  of_chain : GoesOn g first past → is_end word ≡ true → (k : ℕ) → Walked g hash first k → Met g hash first (past + 1) k
  of_chain goes ended k walked =
      elim (cases_lt past k) [
        | inl behind ↦
            (let other = walked.goes_on.on past goes.order behind in
            let same : other.0 ≡ word = same_word g past other.0 word other.1 at in
            absurd (cc (other.2, ap is_end same, ended)))
        | inr within ↦ record { from = walked.goes_on.order; before = omega arith; word = walked.word }
      ]

  met_or_behind : (k j : ℕ) → Met g hash first (past + 1) k → Walked g hash first j → Met g hash first (past + 1) j ⊎ (k ≤ j)
  met_or_behind k j met walked =
      elim (cases_lt past j) [
        | inl behind ↦ inr (let low = met.before in omega arith)
        | inr within ↦ inl (record { from = walked.goes_on.order; before = omega arith; word = walked.word })
      ]

  -- the end of the chain, or the first that fits
  pub over : (w : Search) (b : Best) → GoesOn g first past → Knows w (Met g hash first (past + 1)) b → (is_end word || is_some b.first) ≡ true → Knows w (Walked g hash first) b
  over w b goes knows last =
      elim (or_cases (is_end word) (is_some b.first) last) [
        | inl ended ↦ knows_same w (Met g hash first (past + 1)) (Walked g hash first) b (to_chain goes) knows (of_chain goes ended)
        | inr some ↦ knows_early w (Met g hash first (past + 1)) (Walked g hash first) b (to_chain goes) knows met_or_behind some
      ]

pub no_end : (ended some : Bool) → (ended || some) ≡ false → ended ≡ false
no_end true some none = cc
no_end false some none = refl

-- no chain word is left
pub at_last : (g : GnuPart) (hash first past : ℕ) (w : Search) (b : Best) → g.symoffset + length g.chain ≤ past → GoesOn g first past → Knows w (Met g hash first past) b → Knows w (Walked g hash first) b
at_last g hash first past w b all goes knows =
    knows_same w (Met g hash first past) (Walked g hash first) b
    (λ k met. record { goes_on = record { order = met.from; on = λ j from below. goes.on j from (let low = met.before in omega arith) }; word = met.word }) knows
    (λ k walked.
    let within = slice_get_within g.chain (k - g.symoffset) walked.word.word walked.word.stands.stands in
    record { from = walked.goes_on.order; before = omega arith; word = walked.word })

no_chain : (g : GnuPart) (hash first past k : ℕ) → past ≡ first → Met g hash first past k → ⊥
no_chain g hash first past k is met = let from = met.from in let before = met.before in absurd (omega arith)

-- ---- the walk

module _ (g : GnuPart) (hash first : ℕ) (items : List ℕ) (are : items ≡ drop first g.chain) (w : Search) where
  abbrev Start : ℕ
  Start = g.symoffset + first

  pub walk_begins : (b : Best) → b ≡ nothing → Knows w (Met g hash Start (Start + 0)) b
  walk_begins b is = rw is (knows_nothing w (Met g hash Start (Start + 0)) (λ k. no_chain g hash Start (Start + 0) k (omega arith)))

  pub goes_nowhere : GoesOn g Start (Start + 0)
  goes_nowhere = record { order = omega arith; on = λ k from below. absurd (omega arith) }

  module _ (passed : ℕ) (within : passed < length items) (b new : Best) (goes : GoesOn g Start (Start + passed)) (knows : Knows w (Met g hash Start (Start + passed)) b)
      (is : new ≡ (if get_or items passed 0 / 2 == hash / 2 then after w b (Start + passed) else b)) where
    here : IsChainWord g (Start + passed) (get_or items passed 0)
    here = word_at g first passed (get_or items passed 0) (ap (λ xs. slice_get xs passed) (sym are) ∙ slice_get-get_or items passed 0 within)

    met : Knows w (Met g hash Start (Start + passed + 1)) new
    met = rw is (met_more g hash Start (Start + passed) (get_or items passed 0) here w b (omega arith) knows)

    pub walk_more : Knows w (Met g hash Start (Start + (passed + 1))) new
    walk_more = (let next : Start + passed + 1 ≡ Start + (passed + 1) = omega arith in subst (λ n. Knows w (Met g hash Start n) new) next met)

    pub walk_on : (is_end (get_or items passed 0) || is_some new.first) ≡ false → GoesOn g Start (Start + (passed + 1))
    walk_on more =
        let next : Start + passed + 1 ≡ Start + (passed + 1) = omega arith in
        subst (λ n. GoesOn g Start n) next (goes_further g hash Start (Start + passed) (get_or items passed 0) here goes (no_end (is_end (get_or items passed 0)) (is_some new.first) more))

    pub walk_over : (is_end (get_or items passed 0) || is_some new.first) ≡ true → Knows w (Walked g hash Start) new
    walk_over last = over g hash Start (Start + passed) (get_or items passed 0) here w new goes met last

  pub walk_ends : (passed : ℕ) (b : Best) → length items ≤ passed → GoesOn g Start (Start + passed) → Knows w (Met g hash Start (Start + passed)) b → Knows w (Walked g hash Start) b
  walk_ends passed b past goes knows =
      let all : length items ≡ length g.chain - first = ap length are ∙ length-drop first g.chain in
      at_last g hash Start (Start + passed) w b (omega arith) goes knows

-- ---- from the hash

pub reached : (g : GnuPart) (hash first : ℕ) (w : Search) (b : Best) → BeginsAt g hash (Some first) → Knows w (Walked g hash (g.symoffset + first)) b → (name : List ℕ) → hash ≡ gnu_hash name → Knows w (ReachedByGnu g name) b
reached g hash first w b begins knows name is = knows_same w (Walked g hash (g.symoffset + first)) (ReachedByGnu g name) b (λ k. (begins name is k).1) knows (λ k. (begins name is k).0)

pub not_reached : (g : GnuPart) (hash : ℕ) (w : Search) (b : Best) → b ≡ nothing → BeginsAt g hash None → (name : List ℕ) → hash ≡ gnu_hash name → Knows w (ReachedByGnu g name) b
not_reached g hash w b empty begins name is = rw empty (knows_nothing w (ReachedByGnu g name) (λ k. begins name is k))
