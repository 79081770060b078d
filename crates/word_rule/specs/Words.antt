-- Words and locks.
use Rattle.std.specs.Prelude.{◌≡◌, ◌≢◌, ℕ, ◌%◌, ◌<◌, Some}
use Rattle.ld_base.specs.declared.linking.Role.{Role}
use Rattle.ld_base.specs.declared.linking.Role.TheVariants.{Ro, Rx, Rw}
use Rattle.word_rule.specs.declared.view.Access.{Access}
use Rattle.word_rule.specs.declared.view.Kept.{Kept}
use Rattle.word_rule.specs.Layout.{doublewords, value_at, control_at, role_code, lock_bit}

-- an RO or RX doubleword has the value that the keeper knows, be it locked or not; what a slot holds is said beside slots
abbrev pub Holds : Role → ℕ → ℕ → Type 0
Holds Ro known value = value ≡ known
Holds Rx known value = value ≡ known
Holds _ known value = Unit {0}

-- who has locked a doubleword: nobody, the keeper, or a hart
pub data Owner : Type 0 where
  nobody : Owner
  keeper : Owner
  hart : ℕ → Owner

-- of a doubleword: its value, its control word, its owner, and what the keeper knows
pub record WordIs (value control : ℕ) (owner : Owner) (known : Kept) : Type 0 where
  pub role : control % 8 ≡ role_code known.role
  pub free : owner ≡ nobody → lock_bit control ≡ 0
  pub taken : owner ≢ nobody → lock_bit control ≡ 1
  pub holds : Holds known.role known.value value

-- of a seat: it names a doubleword as locked exactly where it owns it; the value that it knows of it is right
pub record LockIs (word : ℕ → ℕ) (owner : ℕ → Owner) (me : Owner) (a : Access) : Type 0 where
  pub owns : (d : ℕ) → owner d ≡ me → a.locked ≡ Some d
  pub named : (d : ℕ) → a.locked ≡ Some d → (d < doublewords) × (owner d ≡ me)
  pub held : (d x : ℕ) → a.locked ≡ Some d → a.held ≡ Some x → word (value_at d) ≡ x

pub record Words (word : ℕ → ℕ) (known : ℕ → Kept) (access : Access) (harts : ℕ → Access) : Type 0 where
  pub owner : ℕ → Owner
  pub each_word : (d : ℕ) → d < doublewords → WordIs (word (value_at d)) (word (control_at d)) (owner d) (known d)
  pub keepers : LockIs word owner keeper access
  pub of_hart : (m : ℕ) → LockIs word owner (hart m) (harts m)
  -- a hart locks only RW doublewords
  pub only_rw : (m d : ℕ) → (harts m).locked ≡ Some d → (known d).role ≡ Rw
  -- harts leave the control words of doublewords that they may not write
  pub steady : (d control : ℕ) → d < doublewords → access.last ≡ Some (d, control) → (known d).role ≢ Rw → word (control_at d) ≡ control
