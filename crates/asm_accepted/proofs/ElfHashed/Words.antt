-- The words of hash tables, from where their bytes begin.
use Rattle.std.proofs.Common.{◌≡◌, ◌∙◌, ap, sym, subst, refl, ℕ, zero, suc, ◌+◌, ◌-◌, ◌*◌, ◌/◌, ◌^◌, ◌<◌, ◌≤◌, ◌==◌, Bool, true, false, not, nat_le, nat_lt, max, List, [], ◌∷◌, ◌++◌, length, fold, take, drop, arith, length-append, append-nil, append_assoc}
use Rattle.std.specs.Prelude.{Some, option_map, position}
use Rattle.std.specs.List.{AllPass, position_or_len}
use Rattle.std.proofs.Math.Seq.{take-append-add, drop-append_seam}
use Rattle.std.proofs.lemmas.Bool.{le-leb, lt-ltb, ne_eqb, le-ltb}
use Rattle.ld_base.specs.Field.{field}
use Rattle.ld_base.specs.declared.parts.GnuPart.{GnuPart}
use Rattle.ld_base.specs.declared.parts.SysvPart.{SysvPart}
use Rattle.elf_head.specs.DynTable.HashWords.{buckets_at, chain_at, chain_words, gnu_chain, gnu_part, gnu_words, ints, is_end, longs, sysv_words}
use Rattle.asm_write.specs.Values.{count_word, doublewords, gnu_bytes, sysv_bytes, words}
use Rattle.asm_laws.specs.ElfWritten.Lemmas.Lengths.{doublewords_length, words_length}
use Rattle.asm_laws.specs.ElfRecords.Standing.{StandAt}
use Rattle.asm_laws.specs.ElfRecords.Lemmas.Standing.{behind, front, within}
use Rattle.asm_laws.specs.ElfSpelled.Lemmas.Rows.{doublewords_read, reaches, words_read}
use Rattle.asm_accepted.specs.ElfHashed.Hashes.{EndsWithGreatest, GnuFits, SysvFits, greatest}

-- Bytes that stand one behind the other

front_of : (bytes xs ys : List ℕ) (at : ℕ) → StandAt bytes at (xs ++ ys) → StandAt bytes at xs
front_of bytes xs ys at stand = let same : at + 0 ≡ at = omega arith in subst (λ n. StandAt bytes n xs) same (within bytes (xs ++ ys) xs at 0 stand (front xs ys))

behind_of : (bytes xs ys : List ℕ) (at : ℕ) → StandAt bytes at (xs ++ ys) → StandAt bytes (at + length xs) ys
behind_of bytes xs ys at stand = within bytes (xs ++ ys) ys at (length xs) stand (behind xs ys)

-- The System V table

count_is : (numbers : List ℕ) → length numbers < 2 ^ 32 → count_word numbers ≡ length numbers
count_is numbers few = omega arith

module _ (bytes : List ℕ) (s : SysvPart) (fits : SysvFits s) (stand : StandAt bytes 0 (sysv_bytes s)) where
  abbrev sysv_head : List ℕ
  sysv_head = words (count_word s.buckets ∷ count_word s.chain ∷ [])

  sysv_counts : (field 4 bytes 0 ≡ length s.buckets) × (field 4 bytes 4 ≡ length s.chain)
  unfolding sysv_bytes
  sysv_counts =
      let head_stands = front_of bytes sysv_head (words s.buckets) 0 (front_of bytes (sysv_head ++ words s.buckets) (words s.chain) 0 stand) in
      let read = words_read bytes 0 (count_word s.buckets ∷ count_word s.chain ∷ []) (omega arith, (omega arith, tt)) head_stands in
      let buckets : field 4 bytes 0 ≡ count_word s.buckets = cc in
      let chain : field 4 bytes 4 ≡ count_word s.chain = cc in
      (buckets ∙ count_is s.buckets fits.bucket_count, chain ∙ count_is s.chain fits.chain_count)

  sysv_long : 8 + 4 * length s.buckets + 4 * length s.chain ≤ length bytes
  unfolding sysv_bytes
  sysv_long =
      let one = length-append (sysv_head ++ words s.buckets) (words s.chain) in
      let two = length-append sysv_head (words s.buckets) in
      let buckets = words_length s.buckets in
      let chain = words_length s.chain in
      let end = reaches bytes (sysv_bytes s) 0 stand (omega (arith, one, two)) in
      omega (arith, one, two, buckets, chain, end)

  pub sysv_read : sysv_words bytes ≡ Some s
  unfolding sysv_words sysv_bytes
  sysv_read =
      let (buckets_count, chain_count) = sysv_counts in
      let long = sysv_long in
      let eight : nat_le 8 (length bytes) ≡ true = le-leb 8 (length bytes) (omega (arith, long)) in
      let all : nat_le (8 + 4 * field 4 bytes 0 + 4 * field 4 bytes 4) (length bytes) ≡ true
      = le-leb (8 + 4 * field 4 bytes 0 + 4 * field 4 bytes 4) (length bytes) (omega (arith, long, buckets_count, chain_count)) in
      let buckets_stand : StandAt bytes 8 (words s.buckets) = behind_of bytes sysv_head (words s.buckets) 0 (front_of bytes (sysv_head ++ words s.buckets) (words s.chain) 0 stand) in
      let place : 0 + length (sysv_head ++ words s.buckets) ≡ 8 + 4 * length s.buckets = let two = length-append sysv_head (words s.buckets) in let n = words_length s.buckets in omega (arith, two, n) in
      let chain_stands : StandAt bytes (8 + 4 * length s.buckets) (words s.chain)
      = subst (λ n. StandAt bytes n (words s.chain)) place (behind_of bytes (sysv_head ++ words s.buckets) (words s.chain) 0 stand) in
      let buckets : ints bytes 8 (field 4 bytes 0) ≡ s.buckets = ap (ints bytes 8) buckets_count ∙ words_read bytes 8 s.buckets fits.buckets buckets_stand in
      let chain : ints bytes (8 + 4 * field 4 bytes 0) (field 4 bytes 4) ≡ s.chain
      = ap (λ n. ints bytes (8 + 4 * n) (field 4 bytes 4)) buckets_count ∙ ap (ints bytes (8 + 4 * length s.buckets)) chain_count ∙ words_read bytes (8 + 4 * length s.buckets) s.chain fits.chain chain_stands in
      let make : List ℕ → List ℕ → SysvPart = λ bs cs. record { buckets = bs; chain = cs } in
      rw (eight, all) (ap (λ bs. Some (make bs (ints bytes (8 + 4 * field 4 bytes 0) (field 4 bytes 4)))) buckets ∙ ap (λ cs. Some (make s.buckets cs)) chain)

-- The GNU table: its chain ends by itself

ends_at : (on rest : List ℕ) (end : ℕ) → AllPass (λ word. not (is_end word)) on → is_end end ≡ true → position_or_len is_end (on ++ end ∷ rest) ≡ length on
ends_at [] rest end passes ended = rw ended refl
ends_at (word ∷ on) rest end passes ended =
    let first : is_end word ≡ false = not_is (is_end word) (passes 0 word (omega arith)) in
    let others : AllPass (λ word. not (is_end word)) on = λ k d inside. passes (suc k) d (omega arith) in
    let one : 1 + length on ≡ suc (length on) = omega arith in
    rw first (ap (λ n. 1 + n) (ends_at on rest end others ended) ∙ one)
  where
    not_is : (b : Bool) → not b ≡ true → b ≡ false
    not_is true is = absurd cc
    not_is false is = refl

end_found : (on rest : List ℕ) (end : ℕ) → AllPass (λ word. not (is_end word)) on → is_end end ≡ true → position is_end (on ++ end ∷ rest) ≡ Some (length on)
end_found on rest end passes ended =
    let at = ends_at on rest end passes ended in
    let inside : nat_lt (length on) (length (on ++ end ∷ rest)) ≡ true = lt-ltb (length on) (length (on ++ end ∷ rest)) (let long = length-append on (end ∷ rest) in omega (arith, long)) in
    rw (at, inside) refl

pub chain_found : (g : GnuPart) (rest : List ℕ) → EndsWithGreatest g → chain_words g.symoffset (greatest g) (g.chain ++ rest) ≡ Some g.chain
chain_found g rest (EndsWithGreatest.none none empty) = rw none (ap Some (sym empty))
chain_found g rest (EndsWithGreatest.last before on end some place parts passes ended) =
    let some_bucket : (greatest g == 0) ≡ false = ne_eqb (greatest g) 0 (λ is. absurd (omega (arith, is, some))) in
    let inside : nat_lt (greatest g) g.symoffset ≡ false = le-ltb (greatest g) g.symoffset (omega (arith, place)) in
    let first : greatest g - g.symoffset ≡ length before = omega (arith, place) in
    let all = before ++ (on ++ (end ∷ rest)) in
    let words_are : g.chain ++ rest ≡ all
    = ap (λ (ws : List ℕ). ws ++ rest) parts ∙ append_assoc before (on ++ end ∷ []) rest ∙ ap (λ (ws : List ℕ). before ++ ws) (append_assoc on (end ∷ []) rest) in
    let dropped : drop (length before) all ≡ on ++ (end ∷ rest) = drop-append_seam before (on ++ (end ∷ rest)) in
    let found : position is_end (drop (length before) all) ≡ Some (length on) = ap (position is_end) dropped ∙ end_found on rest end passes ended in
    let taken : take (length before + length on + 1) all ≡ g.chain = until_end before on rest end ∙ sym parts in
    rw (some_bucket, inside, first, words_are) (ap (option_map (λ k. take (length before + k + 1) all)) found ∙ ap Some taken)
  where
    until_end : (before on rest : List ℕ) (end : ℕ) → take (length before + length on + 1) (before ++ (on ++ (end ∷ rest))) ≡ before ++ (on ++ end ∷ [])
    until_end before on rest end =
        let count : length before + length on + 1 ≡ length before + (length on + 1) = omega arith in
        ap (λ n. take n (before ++ (on ++ (end ∷ rest)))) count ∙ take-append-add before (on ++ (end ∷ rest)) (length on + 1)
        ∙ ap (λ (ws : List ℕ). before ++ ws) (take-append-add on (end ∷ rest) 1)

-- so many words, and as many behind them
table_split : (bytes : List ℕ) (at n m : ℕ) → ints bytes at (n + m) ≡ ints bytes at n ++ ints bytes (at + 4 * n) m
table_split bytes at n zero = let none : n + 0 ≡ n = omega arith in ap (ints bytes at) none ∙ sym (append-nil (ints bytes at n))
table_split bytes at n (suc m) =
    let count : n + suc m ≡ suc (n + m) = omega arith in
    let place : at + 4 * (n + m) ≡ at + 4 * n + 4 * m = omega arith in
    let last : List ℕ = field 4 bytes (at + 4 * n + 4 * m) ∷ [] in
    ap (ints bytes at) count ∙ ap (λ (ws : List ℕ). ws ++ field 4 bytes (at + 4 * (n + m)) ∷ []) (table_split bytes at n m)
    ∙ ap (λ k. (ints bytes at n ++ ints bytes (at + 4 * n) m) ++ field 4 bytes k ∷ []) place ∙ append_assoc (ints bytes at n) (ints bytes (at + 4 * n) m) last

module _ (bytes : List ℕ) (g : GnuPart) (fits : GnuFits g) (stand : StandAt bytes 0 (gnu_bytes g)) where
  abbrev gnu_head : List ℕ
  gnu_head = words (count_word g.buckets ∷ g.symoffset ∷ count_word g.bloom ∷ g.shift ∷ [])

  abbrev to_bloom : List ℕ
  to_bloom = gnu_head ++ doublewords g.bloom

  abbrev to_buckets : List ℕ
  to_buckets = to_bloom ++ words g.buckets

  record Heads : Type 0 where
    buckets : field 4 bytes 0 ≡ length g.buckets
    symoffset : field 4 bytes 4 ≡ g.symoffset
    bloom : field 4 bytes 8 ≡ length g.bloom
    shift : field 4 bytes 12 ≡ g.shift

  heads : Heads
  unfolding gnu_bytes
  heads =
      let head_stands = front_of bytes gnu_head (doublewords g.bloom) 0 (front_of bytes to_bloom (words g.buckets) 0 (front_of bytes to_buckets (words g.chain) 0 stand)) in
      let symoffset = fits.symoffset in
      let shift = fits.shift in
      let read = words_read bytes 0 (count_word g.buckets ∷ g.symoffset ∷ count_word g.bloom ∷ g.shift ∷ []) (omega arith, (symoffset, (omega arith, (shift, tt)))) head_stands in
      let buckets_is : field 4 bytes 0 ≡ count_word g.buckets = cc in
      let bloom_is : field 4 bytes 8 ≡ count_word g.bloom = cc in
      record {
        buckets = buckets_is ∙ count_is g.buckets fits.bucket_count;
        symoffset = cc;
        bloom = bloom_is ∙ count_is g.bloom fits.bloom_size;
        shift = cc;
      }

  bloom_end : length to_bloom ≡ 16 + 8 * length g.bloom
  bloom_end = let two = length-append gnu_head (doublewords g.bloom) in let n = doublewords_length g.bloom in omega (arith, two, n)

  buckets_end : length to_buckets ≡ 16 + 8 * length g.bloom + 4 * length g.buckets
  buckets_end = let two = length-append to_bloom (words g.buckets) in let n = words_length g.buckets in let before = bloom_end in omega (arith, two, n, before)

  gnu_long : 16 + 8 * length g.bloom + 4 * length g.buckets + 4 * length g.chain ≤ length bytes
  unfolding gnu_bytes
  gnu_long =
      let one = length-append to_buckets (words g.chain) in
      let chain = words_length g.chain in
      let before = buckets_end in
      let end = reaches bytes (gnu_bytes g) 0 stand (omega (arith, one, before)) in
      omega (arith, one, before, chain, end)

  bloom_stands : StandAt bytes 16 (doublewords g.bloom)
  unfolding gnu_bytes
  bloom_stands = behind_of bytes gnu_head (doublewords g.bloom) 0 (front_of bytes to_bloom (words g.buckets) 0 (front_of bytes to_buckets (words g.chain) 0 stand))

  buckets_stand : StandAt bytes (16 + 8 * length g.bloom) (words g.buckets)
  unfolding gnu_bytes
  buckets_stand =
      let place : 0 + length to_bloom ≡ 16 + 8 * length g.bloom = let end = bloom_end in omega (arith, end) in
      subst (λ n. StandAt bytes n (words g.buckets)) place (behind_of bytes to_bloom (words g.buckets) 0 (front_of bytes to_buckets (words g.chain) 0 stand))

  chain_stands : StandAt bytes (16 + 8 * length g.bloom + 4 * length g.buckets) (words g.chain)
  unfolding gnu_bytes
  chain_stands =
      let place : 0 + length to_buckets ≡ 16 + 8 * length g.bloom + 4 * length g.buckets = let end = buckets_end in omega (arith, end) in
      subst (λ n. StandAt bytes n (words g.chain)) place (behind_of bytes to_buckets (words g.chain) 0 stand)

  buckets_place : buckets_at bytes ≡ 16 + 8 * length g.bloom
  buckets_place = ap (λ n. 16 + 8 * n) heads.bloom

  chain_place : chain_at bytes ≡ 16 + 8 * length g.bloom + 4 * length g.buckets
  chain_place = ap (λ n. n + 4 * field 4 bytes 0) buckets_place ∙ ap (λ n. 16 + 8 * length g.bloom + 4 * n) heads.buckets

  buckets_are : ints bytes (buckets_at bytes) (field 4 bytes 0) ≡ g.buckets
  buckets_are = ap (λ n. ints bytes n (field 4 bytes 0)) buckets_place ∙ ap (ints bytes (16 + 8 * length g.bloom)) heads.buckets
      ∙ words_read bytes (16 + 8 * length g.bloom) g.buckets fits.buckets buckets_stand

  chain_is : gnu_chain bytes ≡ Some g.chain
  unfolding gnu_chain
  chain_is =
      let at = 16 + 8 * length g.bloom + 4 * length g.buckets in
      let long = gnu_long in
      let more = (length bytes - at) / 4 - length g.chain in
      let rest = ints bytes (at + 4 * length g.chain) more in
      let count : (length bytes - at) / 4 ≡ length g.chain + more = omega (arith, long) in
      let words_are : ints bytes (chain_at bytes) ((length bytes - chain_at bytes) / 4) ≡ g.chain ++ rest
      = ap (λ n. ints bytes n ((length bytes - n) / 4)) chain_place ∙ ap (ints bytes at) count ∙ table_split bytes at (length g.chain) more
      ∙ ap (λ (ws : List ℕ). ws ++ rest) (words_read bytes at g.chain fits.chain chain_stands) in
      ap (λ n. chain_words n (fold max 0 (ints bytes (buckets_at bytes) (field 4 bytes 0))) (ints bytes (chain_at bytes) ((length bytes - chain_at bytes) / 4))) heads.symoffset
      ∙ ap (λ (bs : List ℕ). chain_words g.symoffset (fold max 0 bs) (ints bytes (chain_at bytes) ((length bytes - chain_at bytes) / 4))) buckets_are
      ∙ ap (chain_words g.symoffset (greatest g)) words_are ∙ chain_found g rest fits.ends

  part_is : gnu_part bytes g.chain ≡ g
  part_is =
      let make : ℕ → ℕ → List ℕ → List ℕ → GnuPart = λ symoffset shift bloom buckets. record { symoffset = symoffset; shift = shift; bloom = bloom; buckets = buckets; chain = g.chain } in
      let bloom_is : longs bytes 16 (field 4 bytes 8) ≡ g.bloom = ap (longs bytes 16) heads.bloom ∙ doublewords_read bytes 16 g.bloom fits.bloom bloom_stands in
      let buckets = ints bytes (buckets_at bytes) (field 4 bytes 0) in
      let bloom = longs bytes 16 (field 4 bytes 8) in
      ap (λ n. make n (field 4 bytes 12) bloom buckets) heads.symoffset ∙ ap (λ n. make g.symoffset n bloom buckets) heads.shift
      ∙ ap (λ ls. make g.symoffset g.shift ls buckets) bloom_is ∙ ap (make g.symoffset g.shift g.bloom) buckets_are

  pub gnu_read : gnu_words bytes ≡ Some g
  unfolding gnu_words
  gnu_read =
      let long = gnu_long in
      let place = chain_place in
      let sixteen : nat_le 16 (length bytes) ≡ true = le-leb 16 (length bytes) (omega (arith, long)) in
      let all : nat_le (chain_at bytes) (length bytes) ≡ true = le-leb (chain_at bytes) (length bytes) (omega (arith, long, place)) in
      rw (sixteen, all, chain_is) (ap Some part_is)
