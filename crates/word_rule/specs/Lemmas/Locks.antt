-- What the part on words and locks keeps, over functions.
use Rattle.std.proofs.Common.{◌≡◌, ◌≢◌, ◌⊎◌, ⊎_elim, ℕ, ◌+◌, ◌-◌, ◌%◌, ◌<◌, Some, None, refl, sym, ap, subst, ◌∙◌, arith}
use mathlib.Core.Logic.{dite}
use native.Mathlib.Decide.{ℕ_discrete}
use Rattle.ld_base.specs.declared.linking.Role.{Role}
use Rattle.ld_base.specs.declared.linking.Role.TheVariants.{None as NoRole, Ro, Rx, Rw, Slot as SlotRole}
use Rattle.word_rule.specs.declared.kind.HartKind.{HartKind}
use Rattle.word_rule.specs.declared.kind.HartKind.TheVariants.{Exchange}
use Rattle.word_rule.specs.declared.view.Access.{Access}
use Rattle.word_rule.specs.declared.view.Kept.{Kept}
use Rattle.word_rule.specs.Layout.{doublewords, place_of, value_at, control_at, role_code, lock_bit}
use Rattle.word_rule.specs.Allowed.{IsSlot}
use Rattle.word_rule.specs.Views.{put}
use Rattle.word_rule.specs.Words.{Owner, nobody, keeper, hart, Holds, WordIs, LockIs, Words}
use Rattle.word_rule.specs.Lemmas.Put.{put_here, put_else, put_each, put_same}

-- words that differ at one doubleword alone, or at none
pub record Beside (word word' : ℕ → ℕ) (d : ℕ) : Type 0 where
  pub value : (e : ℕ) → e ≢ d → word' (value_at e) ≡ word (value_at e)
  pub control : (e : ℕ) → e ≢ d → word' (control_at e) ≡ word (control_at e)

pub beside_value : (word : ℕ → ℕ) (d x : ℕ) → Beside word (put word (value_at d) x) d
beside_value word d x = record {
  value = λ e apart. put_else word (value_at d) x (value_at e) (λ (h : value_at e ≡ value_at d). apart (omega arith));
  control = λ e apart. put_else word (value_at d) x (control_at e) (λ (h : control_at e ≡ value_at d). omega arith);
}

pub beside_control : (word : ℕ → ℕ) (d x : ℕ) → Beside word (put word (control_at d) x) d
beside_control word d x = record {
  value = λ e apart. put_else word (control_at d) x (value_at e) (λ (h : value_at e ≡ control_at d). omega arith);
  control = λ e apart. put_else word (control_at d) x (control_at e) (λ (h : control_at e ≡ control_at d). apart (omega arith));
}

-- a seat that owns the doubleword neither before nor after keeps its knowledge
pub other_lock : (word word' : ℕ → ℕ) (d : ℕ) (owner : ℕ → Owner) (o me : Owner) (a : Access) → Beside word word' d → owner d ≢ me → o ≢ me
    → LockIs word owner me a → LockIs word' (put owner d o) me a
other_lock word word' d owner o me a beside before after l = record {
  owns = λ e is. dite (ℕ_discrete e d)
      (λ (same : e ≡ d). absurd (after (sym (put_here owner d o) ∙ (ap (put owner d o) (sym same) ∙ is))))
      (λ (apart : e ≢ d). l.owns e (sym (put_else owner d o e apart) ∙ is));
  named = λ e is. ((l.named e is).0, put_else owner d o e (elsewhere e is) ∙ (l.named e is).1);
  held = λ e x is has. beside.value e (elsewhere e is) ∙ l.held e x is has;
}
  where
    elsewhere : (e : ℕ) → a.locked ≡ Some e → e ≢ d
    elsewhere e is same = before (ap owner (sym same) ∙ (l.named e is).1)

-- a seat that has nothing locked before and after
pub nothing_lock : (word : ℕ → ℕ) (owner : ℕ → Owner) (me : Owner) (a b : Access) → a.locked ≡ None → b.locked ≡ None → LockIs word owner me a → LockIs word owner me b
nothing_lock word owner me a b none' none'' l = record {
  owns = λ e is. let h : Some e ≡ None = sym (l.owns e is) ∙ none' in absurd (cc);
  named = λ e is. let h : Some e ≡ None = sym is ∙ none'' in absurd (cc);
  held = λ e x is has. let h : Some e ≡ None = sym is ∙ none'' in absurd (cc);
}

-- the doublewords: one may change
pub words_change : (word word' : ℕ → ℕ) (known : ℕ → Kept) (owner : ℕ → Owner) (d : ℕ) (o : Owner) (k : Kept) → Beside word word' d
    → WordIs (word' (value_at d)) (word' (control_at d)) o k
    → ((e : ℕ) → e < doublewords → WordIs (word (value_at e)) (word (control_at e)) (owner e) (known e))
    → (e : ℕ) → e < doublewords → WordIs (word' (value_at e)) (word' (control_at e)) (put owner d o e) (put known d k e)
words_change word word' known owner d o k beside mine others e low = dite (ℕ_discrete e d)
    (λ (same : e ≡ d). subst (λ n. WordIs (word' (value_at n)) (word' (control_at n)) (put owner d o n) (put known d k n)) (sym same)
    (subst (λ (p : Owner × Kept). WordIs (word' (value_at d)) (word' (control_at d)) p.0 p.1) (λ i. (sym (put_here owner d o) i, sym (put_here known d k) i)) mine))
    (λ (apart : e ≢ d). subst (λ (p : ℕ × ℕ × Owner × Kept). WordIs p.0 p.1 p.2 p.3)
    (λ i. (sym (beside.value e apart) i, sym (beside.control e apart) i, sym (put_else owner d o e apart) i, sym (put_else known d k e apart) i))
    (others e low))

-- a word below 128 changes
pub aside : (word : ℕ → ℕ) (i x : ℕ) (known : ℕ → Kept) (access : Access) (harts : ℕ → Access) → i < 128
    → Words word known access harts → Words (put word i x) known access harts
aside word i x known access harts low w = record {
  owner = w.owner;
  each_word = λ d here. subst (λ (p : ℕ × ℕ). WordIs p.0 p.1 (w.owner d) (known d)) (λ k. (sym (value_stays d) k, sym (control_stays d) k)) (w.each_word d here);
  keepers = lock_stays keeper access w.keepers;
  of_hart = λ m. lock_stays (hart m) (harts m) (w.of_hart m);
  only_rw = w.only_rw;
  steady = λ d control here last other. control_stays d ∙ w.steady d control here last other;
}
  where
    value_stays : (d : ℕ) → put word i x (value_at d) ≡ word (value_at d)
    value_stays d = put_else word i x (value_at d) (λ (h : value_at d ≡ i). omega arith)

    control_stays : (d : ℕ) → put word i x (control_at d) ≡ word (control_at d)
    control_stays d = put_else word i x (control_at d) (λ (h : control_at d ≡ i). omega arith)

    lock_stays : (me : Owner) (a : Access) → LockIs word w.owner me a → LockIs (put word i x) w.owner me a
    lock_stays me a l = record { owns = l.owns; named = l.named; held = λ d y is has. value_stays d ∙ l.held d y is has }

-- the value of a slot changes that the keeper hasn't locked
pub slot_aside : (word : ℕ → ℕ) (d x : ℕ) (known : ℕ → Kept) (access : Access) (harts : ℕ → Access) → (known d).role ≡ SlotRole → access.locked ≢ Some d
    → Words word known access harts → Words (put word (value_at d) x) known access harts
slot_aside word d x known access harts slot free w = record {
  owner = w.owner;
  each_word = λ e low. dite (ℕ_discrete e d)
      (λ (same : e ≡ d). subst (λ n. WordIs (word' (value_at n)) (word' (control_at n)) (w.owner n) (known n)) (sym same) (slot_word (subst (λ n. n < doublewords) same low)))
      (λ (apart : e ≢ d). subst (λ (p : ℕ × ℕ). WordIs p.0 p.1 (w.owner e) (known e)) (λ i. (sym (beside.value e apart) i, sym (beside.control e apart) i)) (w.each_word e low));
  keepers = lock_stays keeper access (λ e is same. free (is ∙ ap Some same)) w.keepers;
  of_hart = λ m. lock_stays (hart m) (harts m) (λ e is same. let h : Rw ≡ SlotRole = sym (w.only_rw m e is) ∙ (ap (λ n. (known n).role) same ∙ slot) in absurd (cc)) (w.of_hart m);
  only_rw = w.only_rw;
  steady = λ e control low last other. control_stays e ∙ w.steady e control low last other;
}
  where
    word' : ℕ → ℕ
    word' = put word (value_at d) x

    beside : Beside word word' d
    beside = beside_value word d x

    control_stays : (e : ℕ) → word' (control_at e) ≡ word (control_at e)
    control_stays e = put_else word (value_at d) x (control_at e) (λ (h : control_at e ≡ value_at d). omega arith)

    slot_word : d < doublewords → WordIs (word' (value_at d)) (word' (control_at d)) (w.owner d) (known d)
    slot_word low = let at = w.each_word d low in subst (λ n. WordIs (word' (value_at d)) n (w.owner d) (known d)) (sym (control_stays d))
        (record { role = at.role; free = at.free; taken = at.taken; holds = subst (λ r. Holds r (known d).value (word' (value_at d))) (sym slot) tt })

    lock_stays : (me : Owner) (a : Access) → ((e : ℕ) → a.locked ≡ Some e → e ≢ d) → LockIs word w.owner me a → LockIs word' w.owner me a
    lock_stays me a elsewhere l = record { owns = l.owns; named = l.named; held = λ e y is has. beside.value e (elsewhere e is) ∙ l.held e y is has }

-- what an exchange asks of its doubleword: it is a slot that the keeper hasn't locked
abbrev pub Aims : (ℕ → Kept) → Access → HartKind → Type 0
Aims known access (Exchange g) = IsSlot known (place_of g.entry.slot) × (access.locked ≢ Some (place_of g.entry.slot))
Aims known access _ = Unit {0}

-- ---- a doubleword changes, or who has locked it

abbrev pub Own : Owner → Owner → Type 0
Own o me = (o ≡ nobody) ⊎ (o ≡ me)

not_other : (o me other : Owner) → Own o me → me ≢ other → nobody ≢ other → o ≢ other
not_other o me other own apart free e = ⊎_elim (λ (h : o ≡ nobody). free (sym h ∙ e)) (λ (h : o ≡ me). apart (sym h ∙ e)) own

hart_apart : (m j : ℕ) → j ≢ m → hart m ≢ hart j
hart_apart m j apart e = let h : hart m ≡ hart j = e in apart (cc)

pub hart_change : (word word' : ℕ → ℕ) (known : ℕ → Kept) (access : Access) (harts : ℕ → Access) (w : Words word known access harts) (m d : ℕ) (o : Owner) (b : Access)
    → Beside word word' d → Own (w.owner d) (hart m) → Own o (hart m) → (known d).role ≡ Rw
    → WordIs (word' (value_at d)) (word' (control_at d)) o (known d) → LockIs word' (put w.owner d o) (hart m) b → ((e : ℕ) → b.locked ≡ Some e → (known e).role ≡ Rw)
    → Words word' known access (put harts m b)
hart_change word word' known access harts w m d o b beside before after writable mine lock rw' = record {
  owner = put w.owner d o;
  each_word = subst (λ (f : ℕ → Kept). (e : ℕ) → e < doublewords → WordIs (word' (value_at e)) (word' (control_at e)) (put w.owner d o e) (f e)) (put_same known d (known d) refl)
      (words_change word word' known w.owner d o (known d) beside mine w.each_word);
  keepers = other_lock word word' d w.owner o keeper access beside
      (not_other (w.owner d) (hart m) keeper before (λ e. absurd (cc)) (λ e. absurd (cc)))
      (not_other o (hart m) keeper after (λ e. absurd (cc)) (λ e. absurd (cc)))
      w.keepers;
  of_hart = put_each (λ j a. LockIs word' (put w.owner d o) (hart j) a) harts m b
      (λ j apart. other_lock word word' d w.owner o (hart j) (harts j) beside
      (not_other (w.owner d) (hart m) (hart j) before (hart_apart m j apart) (λ e. absurd (cc)))
      (not_other o (hart m) (hart j) after (hart_apart m j apart) (λ e. absurd (cc)))
      (w.of_hart j))
      lock;
  only_rw = put_each (λ j a. (e : ℕ) → a.locked ≡ Some e → (known e).role ≡ Rw) harts m b (λ j _. w.only_rw j) rw';
  steady = λ e control low last other. dite (ℕ_discrete e d)
      (λ (same : e ≡ d). absurd (other (ap (λ n. (known n).role) same ∙ writable)))
      (λ (apart : e ≢ d). beside.control e apart ∙ w.steady e control low last other);
}

pub keeper_change : (word word' : ℕ → ℕ) (known : ℕ → Kept) (access : Access) (harts : ℕ → Access) (w : Words word known access harts) (d : ℕ) (o : Owner) (k : Kept) (b : Access)
    → Beside word word' d → Own (w.owner d) keeper → Own o keeper
    → WordIs (word' (value_at d)) (word' (control_at d)) o k → LockIs word' (put w.owner d o) keeper b → b.last ≡ None
    → Words word' (put known d k) b harts
keeper_change word word' known access harts w d o k b beside before after mine lock forgotten = record {
  owner = put w.owner d o;
  each_word = words_change word word' known w.owner d o k beside mine w.each_word;
  keepers = lock;
  of_hart = λ j. other_lock word word' d w.owner o (hart j) (harts j) beside
      (not_other (w.owner d) keeper (hart j) before (λ e. absurd (cc)) (λ e. absurd (cc)))
      (not_other o keeper (hart j) after (λ e. absurd (cc)) (λ e. absurd (cc)))
      (w.of_hart j);
  only_rw = λ j e is. ap (λ (x : Kept). x.role) (put_else known d k e
      (λ same. not_other (w.owner d) keeper (hart j) before (λ h. absurd (cc)) (λ h. absurd (cc)) (ap w.owner (sym same) ∙ ((w.of_hart j).named e is).1)))
      ∙ w.only_rw j e is;
  steady = λ e control low last other. let h : Some (e, control) ≡ None = sym last ∙ forgotten in absurd (cc);
}

-- ---- control words

pub is_free : (v c : ℕ) (o : Owner) (k : Kept) → WordIs v c o k → lock_bit c ≡ 0 → o ≡ nobody
is_free v c nobody k w free = refl
is_free v c keeper k w free = let h : lock_bit c ≡ 1 = w.taken (λ e. absurd (cc)) in absurd (omega arith)
is_free v c (hart m) k w free = let h : lock_bit c ≡ 1 = w.taken (λ e. absurd (cc)) in absurd (omega arith)

pub lock_word : (v c : ℕ) (o me : Owner) (k : Kept) → WordIs v c o k → lock_bit c ≡ 0 → me ≢ nobody → WordIs v (c + 8) me k
lock_word v c o me k w free apart = record {
  role = keeps c ∙ w.role;
  free = λ e. absurd (apart e);
  taken = λ _. bit c free;
  holds = w.holds;
}
  where
    keeps : (c : ℕ) → (c + 8) % 8 ≡ c % 8
    keeps c = omega arith

    bit : (c : ℕ) → lock_bit c ≡ 0 → lock_bit (c + 8) ≡ 1
    bit c e = omega arith

pub unlocked_role : (c o n : ℕ) → c % 8 ≡ o → lock_bit c ≡ 1 → c < 18446744073709551616 → o < 5 → n < 5 → (c + (8 + n - o)) % 18446744073709551616 % 8 ≡ n
unlocked_role c o n role bit low old new = omega arith

pub unlocked_bit : (c o n : ℕ) → c % 8 ≡ o → lock_bit c ≡ 1 → c < 18446744073709551616 → o < 5 → n < 5 → lock_bit ((c + (8 + n - o)) % 18446744073709551616) ≡ 0
unlocked_bit c o n role bit low old new = omega arith

pub code_low : (r : Role) → role_code r < 5
code_low NoRole = omega arith
code_low Ro = omega arith
code_low Rx = omega arith
code_low Rw = omega arith
code_low SlotRole = omega arith

pub unlock_word : (v c : ℕ) (o : Owner) (k k' : Kept) → WordIs v c o k → o ≢ nobody → c < 18446744073709551616 → Holds k'.role k'.value v
    → WordIs v ((c + (8 + role_code k'.role - role_code k.role)) % 18446744073709551616) nobody k'
unlock_word v c o k k' w locked low holds' = record {
  role = unlocked_role c (role_code k.role) (role_code k'.role) w.role (w.taken locked) low (code_low k.role) (code_low k'.role);
  free = λ _. unlocked_bit c (role_code k.role) (role_code k'.role) w.role (w.taken locked) low (code_low k.role) (code_low k'.role);
  taken = λ e. absurd (e refl);
  holds = holds';
}
