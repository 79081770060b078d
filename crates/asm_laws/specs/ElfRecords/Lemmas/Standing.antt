-- Bytes that stand in others: parts of parts, and fields.
use Rattle.std.proofs.Common.{◌≡◌, ◌∙◌, ap, sym, subst, ℕ, zero, suc, ◌+◌, ◌*◌, ◌<◌, ◌≤◌, List, [], ◌∷◌, ◌++◌, length, refl, arith, slice_index, slice_range, take, drop, ◌-◌}
use Rattle.std.specs.Prelude.{Some}
use Rattle.std.specs.List.{slice_get}
use Rattle.std.proofs.lemmas.Option.{slice_get-get_or, get_or_from_slice_get, slice_get_within}
use Rattle.std.proofs.lemmas.List.{take-append-drop}
use Rattle.ld_base.specs.Field.{little, field}
use Rattle.asm_laws.specs.ElfRecords.Standing.{StandAt}

front_byte : (xs ys : List ℕ) (k byte : ℕ) → slice_get xs k ≡ Some byte → slice_get (xs ++ ys) k ≡ Some byte
front_byte [] ys k byte is = absurd cc
front_byte (x ∷ xs) ys zero byte is = is
front_byte (x ∷ xs) ys (suc k) byte is = front_byte xs ys k byte is

pub front : (xs ys : List ℕ) → StandAt (xs ++ ys) 0 xs
front xs ys k byte is = let same : k ≡ 0 + k = omega arith in subst (λ n. slice_get (xs ++ ys) n ≡ Some byte) same (front_byte xs ys k byte is)

pub behind : (xs ys : List ℕ) → StandAt (xs ++ ys) (length xs) ys
behind [] ys k byte is = let same : k ≡ 0 + k = omega arith in subst (λ n. slice_get ys n ≡ Some byte) same is
behind (x ∷ xs) ys k byte is =
    let same : suc (length xs + k) ≡ suc (length xs) + k = omega arith in
    subst (λ n. slice_get (x ∷ xs ++ ys) n ≡ Some byte) same (behind xs ys k byte is)

pub within : (bytes part inner : List ℕ) (at place : ℕ) → StandAt bytes at part → StandAt part place inner → StandAt bytes (at + place) inner
within bytes part inner at place outer inside k byte is =
    let same : at + (place + k) ≡ at + place + k = omega arith in
    subst (λ n. slice_get bytes n ≡ Some byte) same (outer (place + k) byte (inside k byte is))

byte_read : (bytes part : List ℕ) (at k : ℕ) → StandAt bytes at part → k < length part → slice_index bytes (at + k) ≡ slice_index part k
byte_read bytes part at k stand inside = get_or_from_slice_get bytes (at + k) (slice_index part k) 0 (stand k (slice_index part k) (slice_get-get_or part k 0 inside))

little_read : (n : ℕ) (bytes part : List ℕ) (at k : ℕ) → StandAt bytes at part → k + n ≤ length part → little n bytes (at + k) ≡ little n part k
little_read zero bytes part at k stand inside = refl
little_read (suc n) bytes part at k stand inside =
    let first = byte_read bytes part at k stand (omega arith) in
    let rest = little_read n bytes part at (k + 1) stand (omega arith) in
    let place : at + k + 1 ≡ at + (k + 1) = omega arith in
    ap (λ byte. byte + 256 * little n bytes (at + k + 1)) first ∙ ap (λ place. slice_index part k + 256 * little n bytes place) place ∙ ap (λ low. slice_index part k + 256 * low) rest

pub field_read : (n : ℕ) (bytes part : List ℕ) (at k : ℕ) → StandAt bytes at part → k + n ≤ length part → field n bytes (at + k) ≡ field n part k
unfolding field
field_read n bytes part at k stand inside = little_read n bytes part at k stand inside

dropped : (bytes : List ℕ) (at k : ℕ) → slice_get (drop at bytes) k ≡ slice_get bytes (at + k)
dropped bytes zero k = let same : k ≡ 0 + k = omega arith in ap (slice_get bytes) same
dropped [] (suc at) k = refl
dropped (byte ∷ bytes) (suc at) k = let same : suc (at + k) ≡ suc at + k = omega arith in dropped bytes at k ∙ ap (slice_get (byte ∷ bytes)) same

taken : (part bytes : List ℕ) → ((k byte : ℕ) → slice_get part k ≡ Some byte → slice_get bytes k ≡ Some byte) → take (length part) bytes ≡ part
taken [] bytes same = refl
taken (byte ∷ part) [] same = absurd (let none = same 0 byte refl in cc)
taken (byte ∷ part) (other ∷ bytes) same =
    let first : other ≡ byte = let is = same 0 byte refl in cc in
    ap (λ n. n ∷ take (length part) bytes) first ∙ ap (λ (all : List ℕ). byte ∷ all) (taken part bytes (λ k. same (suc k)))

pub cut_out : (bytes part : List ℕ) (at : ℕ) → StandAt bytes at part → slice_range bytes at (at + length part) ≡ part
cut_out bytes part at stand =
    let size : at + length part - at ≡ length part = omega arith in
    ap (λ n. take n (drop at bytes)) size ∙ taken part (drop at bytes) (λ k byte is. dropped bytes at k ∙ stand k byte is)

pub begun : (bytes part : List ℕ) → StandAt bytes 0 part → bytes ≡ part ++ drop (length part) bytes
begun bytes part stand =
    let front : take (length part) bytes ≡ part = taken part bytes (λ k byte is. (let same : k ≡ 0 + k = omega arith in ap (slice_get bytes) same ∙ stand k byte is)) in
    sym (take-append-drop (length part) bytes) ∙ ap (λ (all : List ℕ). all ++ drop (length part) bytes) front

taken_byte : (bytes : List ℕ) (n k : ℕ) → k < n → slice_get (take n bytes) k ≡ slice_get bytes k
taken_byte bytes zero k inside = absurd (omega (arith, inside))
taken_byte [] (suc n) k inside = refl
taken_byte (byte ∷ bytes) (suc n) zero inside = refl
taken_byte (byte ∷ bytes) (suc n) (suc k) inside = taken_byte bytes n k (omega (arith, inside))

-- bytes that stand at a place stand at the begin of what is cut out there, if enough is
pub cut_stands : (bytes part : List ℕ) (at end : ℕ) → StandAt bytes at part → at + length part ≤ end → StandAt (slice_range bytes at end) 0 part
cut_stands bytes part at end stand room k byte is =
    let inside = slice_get_within part k byte is in
    let same : 0 + k ≡ k = omega arith in
    ap (slice_get (slice_range bytes at end)) same ∙ taken_byte (drop at bytes) (end - at) k (omega (arith, inside, room)) ∙ dropped bytes at k ∙ stand k byte is
