-- The next address of a residue.
use Rattle.std.proofs.Common.{◌≡◌, ℕ, ◌+◌, ◌-◌, ◌*◌, ◌/◌, ◌%◌, ◌<◌, ◌≤◌, ⊎_elim, ap, ◌∙◌, arith}
use Rattle.std.proofs.lemmas.Bool.{cases_lt}
use Rattle.std.proofs.lemmas.Nat.{mod-mul-add}
use Rattle.std.proofs.Math.Nat.{mul-le-mul_left, div-add-mod}
use Rattle.ld_base.specs.declared.object.TlsSeg.{TlsSeg}
use Rattle.tls_blocks.specs.Places.{IsOffset, MayStand, alignment_of}

-- an address that is so many steps and the residue
has_residue : (align steps residue address : ℕ) → residue < align → address ≡ align * steps + residue → address % align ≡ residue
has_residue align steps residue address small is =
    let turned : address ≡ steps * align + residue = omega arith in
    ap (λ (n : ℕ). n % align) turned ∙ mod-mul-add steps align residue small

pub residue_ahead : (align address residue : ℕ) → residue < align → address % align ≤ residue → (address + (residue - address % align)) % align ≡ residue
residue_ahead align address residue small le =
    let parts = div-add-mod address align in
    has_residue align (address / align) residue (address + (residue - address % align)) small (omega arith)

pub residue_behind : (align address residue : ℕ) → residue < align → residue < address % align → address % align < align
    → (address + ((align - address % align) + residue)) % align ≡ residue
residue_behind align address residue small lt below =
    let parts = div-add-mod address align in
    has_residue align (address / align + 1) residue (address + ((align - address % align) + residue)) small (omega arith)

-- so many steps further on is no less than the next one
steps_apart : (align low high : ℕ) → low < high → align * low + align ≤ align * high
steps_apart align low high lt = let more : align * (low + 1) ≤ align * high = mul-le-mul_left align (let le : low + 1 ≤ high = omega arith in le) in omega arith

pub least_ahead : (align address residue more : ℕ) → residue < align → address % align ≤ residue → (address + more) % align ≡ residue → residue - address % align ≤ more
least_ahead align address residue more small le same =
    let here = div-add-mod address align in
    let there = div-add-mod (address + more) align in
    ⊎_elim
    (λ (before : (address + more) / align < address / align).
    let apart = steps_apart align ((address + more) / align) (address / align) before in
    absurd (omega arith))
    (λ (behind : address / align ≤ (address + more) / align).
    let apart : align * (address / align) ≤ align * ((address + more) / align) = mul-le-mul_left align behind in
    omega arith)
    (cases_lt ((address + more) / align) (address / align))

pub least_behind : (align address residue more : ℕ) → residue < align → residue < address % align → (address + more) % align ≡ residue
    → (align - address % align) + residue ≤ more
least_behind align address residue more small lt same =
    let here = div-add-mod address align in
    let there = div-add-mod (address + more) align in
    ⊎_elim
    (λ (behind : address / align < (address + more) / align).
    let apart = steps_apart align (address / align) ((address + more) / align) behind in
    omega arith)
    (λ (before : (address + more) / align ≤ address / align).
    let apart : align * ((address + more) / align) ≤ align * (address / align) = mul-le-mul_left align before in
    absurd (omega arith))
    (cases_lt (address / align) ((address + more) / align))

pub offset_is : (tp size gap : ℕ) (seg : TlsSeg) → ((tp + size) + gap) % alignment_of seg ≡ seg.vaddr % alignment_of seg
    → ((more : ℕ) → ((tp + size) + more) % alignment_of seg ≡ seg.vaddr % alignment_of seg → gap ≤ more) → IsOffset tp size seg (size + gap)
offset_is tp size gap seg fits least = record {
  stands = record { behind = omega arith; aligned = ap (λ (n : ℕ). n % alignment_of seg) (regroup gap) ∙ fits };
  least = λ other stands. let behind = stands.behind in not_before other (other - size) stands (omega arith);
}
  where
    regroup : (n : ℕ) → tp + (size + n) ≡ (tp + size) + n
    regroup n = omega arith

    not_before : (other more : ℕ) → MayStand tp size seg other → other ≡ size + more → size + gap ≤ other
    not_before other more stands is =
        let same : (tp + size) + more ≡ tp + other = omega arith in
        let le : gap ≤ more = least more (ap (λ (n : ℕ). n % alignment_of seg) same ∙ stands.aligned) in
        omega arith
