-- Walks of a System V table.
use Rattle.std.proofs.Common.{◌≡◌, ◌≢◌, sym, subst, ℕ, suc, ◌+◌, ◌-◌, ◌%◌, ◌≤◌, Bool, true, false, List, length, refl, arith, inl, inr}
use Rattle.std.specs.Prelude.{◌⊎◌, ◌==◌, ◌||◌, if◌then◌else◌, Some, slice_index}
use Rattle.std.specs.List.{slice_get}
use Rattle.std.proofs.lemmas.Bool.{cases_lt, eq-eqb, eqb-true, or_cases}
use Rattle.std.proofs.lemmas.List.{get_or_past}
use Rattle.std.proofs.lemmas.Option.{get_or_from_slice_get, slice_get-get_or}
use Rattle.ld_base.specs.declared.parts.SysvPart.{SysvPart}
use Rattle.sym_hash.specs.Hash.{sysv_hash}
use Rattle.sym_hash.specs.Reached.{Leads, ReachedBySysv}
use Rattle.sym_hash.specs.Reached.Leads.{here, on}
use Rattle.sym_lookup.specs.SymFind.Best.{Knows, after, nothing, precedes}
use Rattle.sym_lookup.specs.SymFind.Walks.{Linked}
use Rattle.sym_lookup.specs.declared.sym_find.best.Best.{Best}
use Rattle.sym_lookup.specs.declared.sym_find.best.Search.{Search}
use Rattle.sym_lookup.proofs.SymFind.Kept.{knows_after, knows_nothing, knows_past, knows_same}

-- how far a walk has come: so many links lead from the bucket, and what they all lead to is led to from here
pub record Way (chain : List ℕ) (bucket passed at : ℕ) : Type 0 where
  pub come : at ≢ 0 → Leads chain bucket passed at
  pub rest : (links k : ℕ) → passed ≤ links → k ≢ 0 → Leads chain bucket links k → Leads chain at (links - passed) k

pub at_bucket : (chain : List ℕ) (bucket : ℕ) → Way chain bucket 0 bucket
at_bucket chain bucket = record { come = λ some. here bucket; rest = λ links k from some leads. (let same : links ≡ links - 0 = omega arith in subst (λ n. Leads chain bucket n k) same leads) }

-- a link more at the end
one_further : (chain : List ℕ) (from links at next : ℕ) → Leads chain from links at → at ≢ 0 → slice_get chain at ≡ Some next → Leads chain from (suc links) next
one_further chain from links at next (here i) some link = on at next 0 next some link (here next)
one_further chain from links at next (on start second rest to begun first leads) some link = on start second (suc rest) next begun first (one_further chain second rest at next leads some link)

-- it begins with the link from where it begins
first_link : (chain : List ℕ) (from links k : ℕ) → Leads chain from (suc links) k → Leads chain (slice_index chain from) links k
first_link chain from links k (on start next rest to begun first leads) =
    let is : slice_index chain start ≡ next = get_or_from_slice_get chain start next 0 first in
    subst (λ x. Leads chain x rest to) (sym is) leads

at_once : (chain : List ℕ) (from links k : ℕ) → links ≡ 0 → Leads chain from links k → k ≡ from
at_once chain from links k none (here i) = refl
at_once chain from links k none (on start next rest to begun first leads) = absurd (omega arith)

-- none leads on from 0
off_zero : (chain : List ℕ) (from links k : ℕ) → from ≡ 0 → Leads chain from links k → k ≡ 0
off_zero chain from links k is (here i) = is
off_zero chain from links k is (on start next rest to begun first leads) = absurd (begun is)

link_there : (chain : List ℕ) (at : ℕ) → slice_index chain at ≢ 0 → slice_get chain at ≡ Some (slice_index chain at)
link_there chain at some =
    elim (cases_lt at (length chain)) [
      | inl within ↦ slice_get-get_or chain at 0 within
      | inr past ↦ absurd (some (get_or_past chain at 0 past))
    ]

module _ (chain : List ℕ) (bucket passed at : ℕ) (way : Way chain bucket passed at) where
  pub way_on : at ≢ 0 → Way chain bucket (passed + 1) (slice_index chain at)
  way_on some = record {
    come = λ next. subst (λ n. Leads chain bucket n (slice_index chain at)) (omega arith) (one_further chain bucket passed at (slice_index chain at) (way.come some) some (link_there chain at next));
    rest = λ links k from end leads.
        let more : links - passed ≡ suc (links - (passed + 1)) = omega arith in
        first_link chain at (links - (passed + 1)) k (subst (λ n. Leads chain at n k) more (way.rest links k (omega arith) end leads));
  }

  linked_before : (k : ℕ) → Linked chain bucket passed k → Linked chain bucket (passed + 1) k
  linked_before k l = let few = l.few in record { links = l.links; few = omega arith; leads = l.leads; some = l.some }

  one_of : (k : ℕ) → Linked chain bucket (passed + 1) k → Linked chain bucket passed k ⊎ (k ≡ at)
  one_of k l =
      elim (cases_lt l.links passed) [
        | inl before ↦ inl (record { links = l.links; few = before; leads = l.leads; some = l.some })
        | inr last ↦
            inr
            (let few = l.few in
            let none : l.links - passed ≡ 0 = omega arith in
            at_once chain at (l.links - passed) k none (way.rest l.links k last l.some l.leads))
      ]

  pub linked_more : (w : Search) (b : Best) → at ≢ 0 → Knows w (Linked chain bucket passed) b → Knows w (Linked chain bucket (passed + 1)) (if precedes b at then b else after w b at)
  linked_more w b some knows = by_first (precedes b at) refl
    where
      by_first : (past : Bool) → precedes b at ≡ past → Knows w (Linked chain bucket (passed + 1)) (if past then b else after w b at)
      by_first true past =
          knows_past w (Linked chain bucket passed) (Linked chain bucket (passed + 1)) b linked_before knows at past
          (λ k low l. elim (one_of k l) [ inl before ↦ inl before | inr is ↦ inr (omega arith) ])
      by_first false past =
          knows_after w (Linked chain bucket passed) (Linked chain bucket (passed + 1)) b linked_before knows at (record { links = passed; few = omega arith; leads = way.come some; some = some }) one_of

  -- the walk is at its end
  ended : (w : Search) (b : Best) (most : ℕ) → at ≡ 0 → passed ≤ most → Knows w (Linked chain bucket passed) b → Knows w (Linked chain bucket most) b
  ended w b most over order knows =
      knows_same w (Linked chain bucket passed) (Linked chain bucket most) b
      (λ k l. let few = l.few in record { links = l.links; few = omega arith; leads = l.leads; some = l.some }) knows
      (λ k l.
      elim (cases_lt l.links passed) [
        | inl before ↦ record { links = l.links; few = before; leads = l.leads; some = l.some }
        | inr last ↦ absurd (l.some (off_zero chain at (l.links - passed) k over (way.rest l.links k last l.some l.leads)))
      ])

  -- or nothing before the first that fits may be exported
  pub settled : (w : Search) (b : Best) (most : ℕ) → precedes b w.object.now.first_exported ≡ true → passed ≤ most → Knows w (Linked chain bucket passed) b → Knows w (Linked chain bucket most) b
  settled w b most first order knows =
      knows_past w (Linked chain bucket passed) (Linked chain bucket most) b (λ k l. let few = l.few in record { links = l.links; few = omega arith; leads = l.leads; some = l.some }) knows
      w.object.now.first_exported first (λ k low l. inr low)

  pub over : (w : Search) (b : Best) (most : ℕ) → (at == 0 || precedes b w.object.now.first_exported) ≡ true → passed ≤ most → Knows w (Linked chain bucket passed) b → Knows w (Linked chain bucket most) b
  over w b most is order knows =
      elim (or_cases (at == 0) (precedes b w.object.now.first_exported) is) [
        | inl end ↦ ended w b most (eqb-true at 0 end) order knows
        | inr first ↦ settled w b most first order knows
      ]

-- a walk that isn't over is at a symbol
pub goes_on : (at : ℕ) (first : Bool) → (at == 0 || first) ≡ false → at ≢ 0
goes_on at first is = λ zero. absurd (let over : (at == 0) ≡ true = eq-eqb at 0 zero in cc)

-- no link yet
not_linked : (chain : List ℕ) (bucket k : ℕ) → Linked chain bucket 0 k → ⊥
not_linked chain bucket k l = let few = l.few in absurd (omega arith)

pub walk_begins : (chain : List ℕ) (bucket : ℕ) (w : Search) (b : Best) → b ≡ nothing → Knows w (Linked chain bucket 0) b
walk_begins chain bucket w b is = rw is (knows_nothing w (Linked chain bucket 0) (not_linked chain bucket))

-- ---- from the bucket of a hash

pub reached : (s : SysvPart) (hash bucket : ℕ) (w : Search) (b : Best) → slice_get s.buckets (hash % length s.buckets) ≡ Some bucket → Knows w (Linked s.chain bucket (length s.chain)) b → (name : List ℕ) → hash ≡ sysv_hash name → Knows w (ReachedBySysv s name) b
reached s hash bucket w b at knows name is =
    let own : slice_get s.buckets (sysv_hash name % length s.buckets) ≡ Some bucket = subst (λ h. slice_get s.buckets (h % length s.buckets) ≡ Some bucket) is at in
    knows_same w (Linked s.chain bucket (length s.chain)) (ReachedBySysv s name) b
    (λ k l. record { bucket = bucket; begins = own; links = l.links; few = l.few; leads = l.leads; some = l.some }) knows
    (λ k r.
    let same : r.bucket ≡ bucket = cc (own, r.begins) in
    record { links = r.links; few = r.few; leads = subst (λ x. Leads s.chain x r.links k) same r.leads; some = r.some })
