-- The symbol at a place, before those behind it.
use Rattle.std.proofs.Common.{◌≡◌, ◌∙◌, ap, sym, ℕ, ◌+◌, ◌<◌, ◌%◌, List, ◌∷◌, length, get_or, set, drop, arith, add-one, drop-cons}
use Rattle.std.proofs.lemmas.List.{drop-set}
use Rattle.asm_write.specs.HashBuild.Hashed.{word, bucket_of, buckets_of, links_of}
use Rattle.asm_write.proofs.HashBuild.Buckets.{one_more, bucket_at, buckets_length}

behind : (hashes : List ℕ) (k : ℕ) → k < length hashes → drop k hashes ≡ get_or hashes k 0 ∷ drop (k + 1) hashes
behind hashes k below = rw add-one (drop-cons hashes k 0 below)

pub buckets_before : (first count k : ℕ) (hashes buckets : List ℕ) → 0 < count → k < length hashes
    → buckets ≡ buckets_of (first + (k + 1)) count (drop (k + 1) hashes)
    → set buckets (get_or hashes k 0 % length buckets) (word (first + k)) ≡ buckets_of (first + k) count (drop k hashes)
buckets_before first count k hashes buckets some below was =
    let next : first + (k + 1) ≡ (first + k) + 1 = omega arith in
    let rest = drop (k + 1) hashes in
    let hash = get_or hashes k 0 in
    let was_next = was ∙ ap (λ index. buckets_of index count rest) next in
    let size = ap length was_next ∙ buckets_length ((first + k) + 1) count rest in
    ap (λ n. set buckets (hash % n) (word (first + k))) size
    ∙ ap (λ list. set list (hash % count) (word (first + k))) was_next
    ∙ one_more (first + k) count hash rest some
    ∙ ap (buckets_of (first + k) count) (sym (behind hashes k below))

pub links_before : (first count k : ℕ) (hashes buckets links : List ℕ) → 0 < count → k < length hashes → length links ≡ length hashes
    → buckets ≡ buckets_of (first + (k + 1)) count (drop (k + 1) hashes)
    → drop (k + 1) links ≡ links_of (first + (k + 1)) count (drop (k + 1) hashes)
    → drop k (set links k (get_or buckets (get_or hashes k 0 % length buckets) 0)) ≡ links_of (first + k) count (drop k hashes)
links_before first count k hashes buckets links some below room was was_links =
    let next : first + (k + 1) ≡ (first + k) + 1 = omega arith in
    let rest = drop (k + 1) hashes in
    let hash = get_or hashes k 0 in
    let was_next = was ∙ ap (λ index. buckets_of index count rest) next in
    let size = ap length was_next ∙ buckets_length ((first + k) + 1) count rest in
    let within : hash % count < count = omega arith in
    let fits : k < length links = omega arith in
    let value = ap (λ n. get_or buckets (hash % n) 0) size ∙ ap (λ list. get_or list (hash % count) 0) was_next
    ∙ bucket_at ((first + k) + 1) count rest (hash % count) within in
    drop-set links k (get_or buckets (hash % length buckets) 0) fits
    ∙ ap (λ x. x ∷ drop (k + 1) links) value
    ∙ ap (λ list. word (bucket_of ((first + k) + 1) count rest (hash % count)) ∷ list) (was_links ∙ ap (λ index. links_of index count rest) next)
    ∙ ap (links_of (first + k) count) (sym (behind hashes k below))
