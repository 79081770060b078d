-- Readings: what they give, and how they fail.
use Rattle.std.proofs.Common.{◌≡◌, ◌↔◌, ◌⊎◌, ap, sym, ℕ, zero, suc, Bool, true, false, List, [], Option, Some, None, Result, Ok, Err, refl, inl, inr}
use Rattle.std.specs.Prelude.{Decides, if◌then◌else◌}
use Rattle.std.specs.Option.{ok_or, option_map_or}
use Rattle.ld_base.specs.declared.fault.NotAccepted.{NotAccepted}
use Rattle.elf_head.specs.AcceptancePart.Entries.{◌>>=◌, entries_of, AreEntries}
use Rattle.elf_head.specs.AcceptancePart.Lemmas.Finds.{same_some}
use Rattle.elf_head.specs.AcceptancePart.Lemmas.Reading.{bind_err, bind_ok, done, entries_from-read, entries_map, ok_is, ok_or-some, read_from-entries, some_from-ok_or}

-- a reading gives just the values of which P holds, and no fault but one
pub record Reads {X : Type 0} (bad : NotAccepted) (r : Result X NotAccepted) (P : X → Type 0) : Type 0 where
  pub gives : (x : X) → r ≡ Ok x → P x
  pub given : (x : X) → P x → r ≡ Ok x
  pub fails : (e : NotAccepted) → r ≡ Err e → e ≡ bad

module _ {X : Type 0} {bad : NotAccepted} where
  pub like : {r : Result X NotAccepted} {P Q : X → Type 0} → Reads bad r P → ((x : X) → P x → Q x) → ((x : X) → Q x → P x) → Reads bad r Q
  like d to from = record { gives = λ x e. to x (d.gives x e); given = λ x q. d.given x (from x q); fails = d.fails }

  pub value : (v : X) → Reads bad (Ok v) (λ x. v ≡ x)
  value v = record { gives = λ x e. ok_is NotAccepted v x e; given = λ x e. ap Ok e; fails = λ e err. absurd cc }

  pub wanted_reads : (o : Option X) → Reads bad (ok_or o bad) (λ x. o ≡ Some x)
  wanted_reads o = record { gives = some_from-ok_or o bad; given = ok_or-some o bad; fails = fails o }
    where
      fails : (o : Option X) (e : NotAccepted) → ok_or o bad ≡ Err e → e ≡ bad
      fails None e err = cc
      fails (Some x) e err = absurd cc

  pub next : {Y : Type 0} {r : Result Y NotAccepted} {f : Y → Result X NotAccepted} {P : Y → Type 0} {Q : Y → X → Type 0} → Reads bad r P → ((y : Y) → Reads bad (f y) (Q y)) → Reads bad (r >>= f) (λ x. (y : Y) × P y × Q y x)
  next {Y} {r} {f} d k = record {
    gives = λ x e. let (y, is, rest) = bind_ok r f x e in (y, d.gives y is, (k y).gives x rest);
    given = λ x (y, p, q). rw (d.given y p) ((k y).given x q);
    fails = λ e err. elim (bind_err r f e err) [ inl first ↦ d.fails e first | inr (y, is, rest) ↦ (k y).fails e rest ];
  }

  pub pass_reads : {P : Type 0} {b : Bool} (x : X) → Decides b P → Reads bad (if b then Ok x else Err bad) (λ y. (x ≡ y) × P)
  pass_reads {b = true} x d = like (value x) (λ y is. (is, d.0 refl)) (λ y (is, p). is)
  pass_reads {b = false} x d = record { gives = λ y e. absurd cc; given = λ y (is, p). absurd (let e = d.1 p in cc); fails = λ e err. cc }

  -- so many entries
  pub entries_reads : {entry : ℕ → Result X NotAccepted} {R : ℕ → X → Type 0} → ((i : ℕ) → Reads bad (entry i) (R i)) → (n : ℕ) → Reads bad (entries_of entry n) (AreEntries R n)
  entries_reads {entry} {R} each n = record {
    gives = λ xs e. entries_map (λ i x. entry i ≡ Ok x) R n xs (λ i x. (each i).gives x) (entries_from-read entry n xs e);
    given = λ xs are. read_from-entries entry n xs (entries_map R (λ i x. entry i ≡ Ok x) n xs (λ i x. (each i).given x) are);
    fails = fail n;
  }
    where
      fail : (n : ℕ) (e : NotAccepted) → entries_of entry n ≡ Err e → e ≡ bad
      fail zero e err = absurd cc
      fail (suc n) e err =
          elim (bind_err (entries_of entry n) _ e err) [
            | inl first ↦ fail n e first
            | inr (front, is, rest) ↦ elim (bind_err (entry n) _ e rest) [ inl last ↦ (each n).fails e last | inr (last, there, none) ↦ absurd cc ]
          ]

-- a table that may not be there, and then has no entry
pub table_reads : {X : Type 0} {bad : NotAccepted} {read : ℕ → Result (List X) NotAccepted} {P : ℕ → List X → Type 0} (found : Option ℕ) → ((start : ℕ) → Reads bad (read start) (P start))
    → Reads bad (option_map_or read found (Ok [])) (λ xs. ((found ≡ None) × (xs ≡ [])) ⊎ ((start : ℕ) × (found ≡ Some start) × P start xs))
table_reads None each = like (value []) (λ xs e. inl (refl, sym e)) (λ xs there. elim there [ inl (none, e) ↦ sym e | inr (start, at, p) ↦ absurd cc ])
table_reads (Some start) each =
    like (each start) (λ xs p. inr (start, refl, p)) (λ xs there. elim there [ inl (none, e) ↦ absurd cc | inr (other, at, p) ↦ rw (same_some at) p ])

-- a reading gives just the values of which P holds, and just the faults of which B holds
pub record Judges {X E : Type 0} (r : Result X E) (P : X → Type 0) (B : E → Type 0) : Type 0 where
  pub accepted : (x : X) → (r ≡ Ok x) ↔ P x
  pub refused : (e : E) → (r ≡ Err e) ↔ B e

pub judged : {X : Type 0} {bad : NotAccepted} {r : Result X NotAccepted} {P : X → Type 0} → Reads bad r P → Judges r P (λ e. (bad ≡ e) × ((x : X) → P x → ⊥))
judged {X} {bad} {r} {P} d = record {
  accepted = λ x. (d.gives x, d.given x);
  refused = λ e. (λ err. (sym (d.fails e err), λ x p. not_both err (d.given x p)), λ (is, never). erred r refl e is never);
}
  where
    not_both : {x : X} {e : NotAccepted} → r ≡ Err e → r ≡ Ok x → ⊥
    not_both err ok = cc

    erred : (o : Result X NotAccepted) → r ≡ o → (e : NotAccepted) → bad ≡ e → ((x : X) → P x → ⊥) → r ≡ Err e
    erred (Ok x) at e is never = absurd (never x (d.gives x at))
    erred (Err other) at e is never = rw (at, d.fails other at, is) refl

module _ {X E : Type 0} where
  pub judged_like : {r : Result X E} {P Q : X → Type 0} {B C : E → Type 0} → Judges r P B → ((x : X) → P x → Q x) → ((x : X) → Q x → P x) → ((e : E) → B e → C e) → ((e : E) → C e → B e) → Judges r Q C
  judged_like d to from breaks broken = record {
    accepted = λ x. (λ e. to x ((d.accepted x).0 e), λ q. (d.accepted x).1 (from x q));
    refused = λ e. (λ err. breaks e ((d.refused e).0 err), λ c. (d.refused e).1 (broken e c));
  }

  pub made : (v : X) → Judges (done E v) (λ x. v ≡ x) (λ e. ⊥)
  made v = record { accepted = λ x. (ok_is E v x, λ e. ap Ok e); refused = λ e. (λ err. cc, λ none. absurd none) }

  pub judged_next : {Y : Type 0} {r : Result Y E} {f : Y → Result X E} {P : Y → Type 0} {Q : Y → X → Type 0} {B : E → Type 0} {C : Y → E → Type 0}
      → Judges r P B → ((y : Y) → Judges (f y) (Q y) (C y)) → Judges (r >>= f) (λ x. (y : Y) × P y × Q y x) (λ e. B e ⊎ ((y : Y) × P y × C y e))
  judged_next {Y} {r} {f} {P} {Q} {B} {C} d k = record {
    accepted = λ x. (λ e. (let (y, is, rest) = bind_ok r f x e in (y, (d.accepted y).0 is, ((k y).accepted x).0 rest)), λ (y, p, q). rw ((d.accepted y).1 p) (((k y).accepted x).1 q));
    refused = λ e. (λ err. elim (bind_err r f e err) [ inl first ↦ inl ((d.refused e).0 first) | inr (y, is, rest) ↦ inr (y, (d.accepted y).0 is, ((k y).refused e).0 rest) ], erred e);
  }
    where
      erred : (e : E) → B e ⊎ ((y : Y) × P y × C y e) → (r >>= f) ≡ Err e
      erred e (inl first) = rw ((d.refused e).1 first) refl
      erred e (inr (y, p, c)) = rw ((d.accepted y).1 p) (((k y).refused e).1 c)
