-- From the last symbol to the first.
use Rattle.std.proofs.Common.{◌≡◌, ◌∙◌, ap, sym, ◌+◌, ◌-◌, ◌%◌, ◌<◌, length, get_or, drop, replicate, arith}
use Rattle.std.proofs.Math.ListN.{length-set, length-replicate}
use Rattle.asm_write.specs.HashBuild.Hashed.{word, buckets_of, links_of}
use Rattle.asm_write.proofs.HashBuild.Buckets.{none, emptied}
use Rattle.asm_write.proofs.HashBuild.Before.{buckets_before, links_before}
use Rattle.asm_write.proofs.hash_build.chains.chains_of.Goals as goal

pub loop-at-init : goal.loop-at-init
loop-at-init c =
    let hashes = c.args.hashes.now in
    let count = c.args.count in
    let index = c.args.first + length hashes in
    record {
      buckets = c.in_ok-zeros.ensures ∙ sym (none index count) ∙ ap (buckets_of index count) (sym (emptied hashes));
      links =
          ap (drop (length hashes)) c.in_ok-zeros-2.ensures ∙ ap (λ n. drop n (replicate (length hashes) 0)) (sym (length-replicate (length hashes) 0))
          ∙ emptied (replicate (length hashes) 0) ∙ ap (links_of index count) (sym (emptied hashes));
      count = ap length c.in_ok-zeros.ensures ∙ length-replicate count 0;
      room = ap length c.in_ok-zeros-2.ensures ∙ length-replicate (length hashes) 0;
    }

pub loop-at-preserved : goal.loop-at-preserved
loop-at-preserved c =
    let first = c.args.first in
    let count = c.args.count in
    let hashes = c.args.hashes.now in
    let at = c.loop-at.at in
    let k = at - 1 in
    let next : at ≡ k + 1 = omega arith in
    let below : k < length hashes = omega (arith, c.loop-at.auto.at) in
    let buckets = c.loop-at.chains.buckets.items in
    let links = c.loop-at.chains.links.items in
    let held = c.loop-at.invariant in
    let was = held.buckets ∙ ap (λ n. buckets_of (first + n) count (drop n hashes)) next in
    let was_links = ap (λ n. drop n links) (sym next) ∙ held.links ∙ ap (λ n. links_of (first + n) count (drop n hashes)) next in
    record {
      buckets = c.add.ensures.buckets ∙ buckets_before first count k hashes buckets c.requires below was;
      links =
          ap (drop k) c.add.ensures.links ∙ links_before first count k hashes buckets links c.requires below held.room was was_links;
      count = ap length c.add.ensures.buckets ∙ length-set buckets (get_or hashes k 0 % length buckets) (word (first + k)) ∙ held.count;
      room = ap length c.add.ensures.links ∙ length-set links k (get_or buckets (get_or hashes k 0 % length buckets) 0) ∙ held.room;
    }
