-- What a keeper's note and a hart's tell each other.
use Rattle.std.proofs.Common.{◌≡◌, ℕ, ◌+◌, List, [], ◌∷◌, ◌++◌, append-nil, length, Some, refl, sym, ap, subst, ◌∙◌, arith}
use Rattle.std.proofs.lemmas.List.{length-append}
use Rattle.word_rule.specs.declared.kind.HartKind.TheVariants as harts
use Rattle.word_rule.specs.declared.kind.KeeperKind.TheVariants as keepers
use Rattle.word_rule.specs.declared.view.HartView.{HartView}
use Rattle.word_rule.specs.declared.view.KeeperView.{KeeperView}
use Rattle.word_rule.specs.declared.view.Offer.{Offer}
use Rattle.word_rule.specs.HartSteps.{HartLearns, hart_after}
use Rattle.word_rule.specs.KeeperSteps.{KeeperLearns, keeper_after}
use Rattle.word_rule.specs.Views.{BeginsWith, known_of, longer, NoneAbove, readings_of, row_of}
use Rattle.word_steps.specs.Knowing.{told_by, told_of}
use Rattle.word_steps.specs.Views.{IsIdle, IsResting}
use Rattle.word_rule.specs.Lemmas.Heeding.{heeds}

-- ---- lists

longer_whole : {A : Type 0} (xs ys : List A) → BeginsWith xs ys → longer ys xs ≡ xs
longer_whole xs [] b = refl
longer_whole [] (y ∷ ys) b = let e : [] ≡ y ∷ (ys ++ b.0) = b.1 in absurd (cc)
longer_whole (x ∷ xs) (y ∷ ys) b =
    let e : x ∷ xs ≡ y ∷ (ys ++ b.0) = b.1 in
    let head : x ≡ y = cc in
    let tail : xs ≡ ys ++ b.0 = cc in λ i. sym head i ∷ longer_whole xs ys (b.0, tail) i

nothing : {A : Type 0} (l : List A) → length l ≡ 0 → l ≡ []
nothing [] e = refl
nothing (x ∷ l) e = absurd (omega arith)

-- lists that begin with each other are equal
each_other : {A : Type 0} (xs ys : List A) → BeginsWith xs ys → BeginsWith ys xs → xs ≡ ys
each_other xs ys a b = a.1 ∙ (ap (λ l. ys ++ l) (nothing a.0 short) ∙ append-nil ys)
  where
    short : length a.0 ≡ 0
    short =
        let p : length xs ≡ length ys + length a.0 = ap length a.1 ∙ length-append ys a.0 in
        let q : length ys ≡ length xs + length b.0 = ap length b.1 ∙ length-append xs b.0 in omega arith

-- ---- what is told

-- the keeper was told of a hart, and loads
pub told_keeper : (h : HartView) (k k1 k2 : KeeperView) (n : ℕ) → IsResting k → k1 ≡ told_of h k → k2 ≡ keeper_after keepers.Listen k1 n → k2 ≡ k
told_keeper h k k1 k2 n r taken is = is ∙ (ap (λ k. keeper_after keepers.Listen k n) taken ∙ heeds k r.note)

first : (h : HartView) (k k1 : KeeperView) (n : ℕ) → k1 ≡ told_of h k → KeeperLearns keepers.Listen k1 n → BeginsWith k.events h.heard × BeginsWith (row_of k h.number).issued (known_of h.lane) × NoneAbove k.generation (readings_of h.trail)
first h k k1 n taken learns = subst (λ k. KeeperLearns keepers.Listen k n) taken learns

-- a hart was told of the keeper, and loads
told_hart : (h h1 h2 : HartView) (k : KeeperView) (n : ℕ) → IsIdle h → BeginsWith k.events h.heard → h1 ≡ told_by k h → h2 ≡ hart_after harts.Listen h1 n → h2 ≡ record h { heard = k.events }
told_hart h h1 h2 k n idle begun taken is = is ∙ (ap (λ h. hart_after harts.Listen h n) taken ∙ (λ i. record h { heard = longer_whole k.events h.heard begun i; note = sym idle.note i }))

second : (h h1 : HartView) (k : KeeperView) (n : ℕ) → h1 ≡ told_by k h → HartLearns harts.Listen h1 n → BeginsWith (known_of h.lane) (row_of k h.number).issued
second h h1 k n taken learns = (subst (λ h. HartLearns harts.Listen h n) taken learns).2

third : (h h1 : HartView) (k : KeeperView) (n : ℕ) → h1 ≡ told_by k h → HartLearns harts.Listen h1 n → (o : Offer) (x : ℕ) → known_of h.lane ≡ (row_of k h.number).issued → h.lane.offer ≡ Some o → o.lazy ≡ Some x → x ≡ (row_of k h.number).lazy
third h h1 k n taken learns = (subst (λ h. HartLearns harts.Listen h n) taken learns).3

-- a hart knows just what was issued to it
told_issued : (h : HartView) (k : KeeperView) → BeginsWith (row_of k h.number).issued (known_of h.lane) → BeginsWith (known_of h.lane) (row_of k h.number).issued → known_of h.lane ≡ (row_of k h.number).issued
told_issued h k a b = each_other (known_of h.lane) (row_of k h.number).issued b a

-- a hart after it was told
pub record Telling (h h2 : HartView) (k : KeeperView) : Type 0 where
  pub heard : h2 ≡ record h { heard = k.events }
  pub issued : known_of h.lane ≡ (row_of k h.number).issued
  pub lazy : (o : Offer) (x : ℕ) → h.lane.offer ≡ Some o → o.lazy ≡ Some x → x ≡ (row_of k h.number).lazy
  pub readings : NoneAbove k.generation (readings_of h.trail)

pub tells : (h h0 h1 h2 : HartView) (k k1 k2 : KeeperView) (n1 n2 : ℕ) → IsResting k → IsIdle h → h0 ≡ h → k1 ≡ told_of h k → k2 ≡ keeper_after keepers.Listen k1 n1 → KeeperLearns keepers.Listen k1 n1
    → h1 ≡ told_by k2 h0 → h2 ≡ hart_after harts.Listen h1 n2 → HartLearns harts.Listen h1 n2 → Telling h h2 k
tells h h0 h1 h2 k k1 k2 n1 n2 resting idle still taken1 after1 learns1 taken2 after2 learns2 =
    let told = first h k k1 n1 taken1 learns1 in
    let taken : h1 ≡ told_by k h = taken2 ∙ (λ i. told_by (told_keeper h k k1 k2 n1 resting taken1 after1 i) (still i)) in
    let issued : known_of h.lane ≡ (row_of k h.number).issued = told_issued h k told.1 (second h h1 k n2 taken learns2) in record {
      heard = told_hart h h1 h2 k n2 idle told.0 taken after2;
      issued = issued;
      lazy = λ o x has read. third h h1 k n2 taken learns2 o x issued has read;
      readings = told.2;
    }
