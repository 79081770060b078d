-- What unlocks a control word raises its version.
use Rattle.std.proofs.Common.{◌≡◌, ℕ, ◌+◌, ◌-◌, ◌/◌, ◌%◌, ◌^◌, ◌<◌, ne_eqb, sym, ap, ◌∙◌, arith}
use Rattle.ld_base.specs.declared.linking.Role.{Role}
use Rattle.ld_base.specs.declared.linking.Role.TheVariants.{None as NoRole, Ro, Rx, Rw, Slot as SlotRole}
use Rattle.word_rule.specs.Layout.{lock_bit, role_code, role_in, to_lock, to_unlock}
use prog.Atomic.{either}
use Rattle.word_rule.specs.Operations.{add, becomes, exchange, load}
use Rattle.word_rule.specs.Owners.{RaisesIfUnlocks}
use Rattle.word_rule.specs.Lemmas.Locks.{code_low}

-- a control word with a role's code has that role
pub role_is : (n : ℕ) (r : Role) → n % 8 ≡ role_code r → role_in n ≡ r
role_is n NoRole e = ap (λ c. Rattle.std.specs.Prelude.slice_index_or Rattle.word_rule.specs.Layout.roles c NoRole) e
role_is n Ro e = ap (λ c. Rattle.std.specs.Prelude.slice_index_or Rattle.word_rule.specs.Layout.roles c NoRole) e
role_is n Rx e = ap (λ c. Rattle.std.specs.Prelude.slice_index_or Rattle.word_rule.specs.Layout.roles c NoRole) e
role_is n Rw e = ap (λ c. Rattle.std.specs.Prelude.slice_index_or Rattle.word_rule.specs.Layout.roles c NoRole) e
role_is n SlotRole e = ap (λ c. Rattle.std.specs.Prelude.slice_index_or Rattle.word_rule.specs.Layout.roles c NoRole) e

raised : (c o n : ℕ) → c % 8 ≡ o → lock_bit c ≡ 1 → c < 18446744073709551616 → o < 5 → n < 5 → (c + (8 + n - o)) % 18446744073709551616 / 16 ≡ (c / 16 + 1) % 2 ^ 60
raised c o n role bit low old new = omega arith

-- what is added to give a role, or to keep the one that is there
pub roles_raise : (old new : Role) (n : ℕ) → n < 18446744073709551616 → n % 8 ≡ role_code old → RaisesIfUnlocks (add (to_unlock old new)) n
roles_raise old new n small is bit freed = raised n (role_code old) (role_code new) is bit small (code_low old) (code_low new)

pub adds_raise : (n : ℕ) → n < 18446744073709551616 → RaisesIfUnlocks (add to_lock) n
adds_raise n small bit freed = omega arith

-- a load unlocks nothing, nor does a lock
pub loads_raise : (n : ℕ) → RaisesIfUnlocks load n
loads_raise n bit freed = absurd (omega arith)

pub stays : (control n : ℕ) → lock_bit control ≡ 0 → lock_bit n ≡ 1 → becomes (exchange control (control + to_lock)) n ≡ n
stays control n free taken = ap (λ b. either b (control + to_lock) n) (ne_eqb n control (λ (e : n ≡ control). let q : lock_bit n ≡ lock_bit control = ap lock_bit e in absurd (omega arith)))

pub locks_raise : (control n : ℕ) → lock_bit control ≡ 0 → RaisesIfUnlocks (exchange control (control + to_lock)) n
locks_raise control n free bit freed = let q : lock_bit n ≡ 0 = sym (ap lock_bit (stays control n free bit)) ∙ freed in absurd (omega arith)
