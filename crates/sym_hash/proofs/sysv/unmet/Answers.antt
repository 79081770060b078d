use Rattle.std.proofs.Common.{◌∙◌, sym, refl}
use Rattle.std.proofs.lemmas.List.{length-map}
use Rattle.ld_base.specs.Symbol.{is_visible_definition}
use Rattle.sym_hash.proofs.Following.{all_found, walks_are}
use Rattle.sym_hash.proofs.sysv.unmet.Goals as goal

pub returns-then-not-all_end : goal.returns-then-not-all_end
returns-then-not-all_end c =
    let walks = walks_are c.args.sysv.now c.in_ok-trips.trips.items (rw c.as_slice-chain.ensures at c.in_ok-trips.ensures) in
    let ends = rw (c.deref.ensures.value, c.as_slice.ensures, walks) at c.all_end.ensures in
    rw (← ends, c.if-not-all_end.true) refl

pub returns : goal.returns
returns c =
    let are = rw c.as_slice-chain.ensures at c.in_ok-trips.ensures in
    let walks = walks_are c.args.sysv.now c.in_ok-trips.trips.items are in
    let ends = rw (c.deref.ensures.value, c.as_slice.ensures, walks) at c.all_end.ensures in
    let begun = rw c.deref-2.ensures.value at c.in_ok-starts.ensures.starts in
    let arrived = rw (c.as_slice-chain.ensures, c.deref-3.ensures.value) at c.in_ok-arrived.ensures in
    let count = c.requires.same ∙ sym (length-map c.args.symbols.now is_visible_definition) in
    rw (← ends, c.if-not-all_end.false) (c.first_lost.ensures
    ∙ rw c.deref-4.ensures.value (all_found _ _ are c.in_ok-starts.starts.items _ c.args.hashes.now _ c.args.first c.requires.chain begun arrived count))
