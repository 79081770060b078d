use Rattle.std.proofs.Common.{◌≡◌, ◌∙◌, ◌%◌, ◌^◌, length, refl, arith}
use Rattle.std.proofs.lemmas.List.{length-map}
use Rattle.std.proofs.lemmas.Option.{slice_get-map}
use Rattle.std.proofs.lemmas.Result.{IfOk-weaker}
use Rattle.sym_hash.proofs.Following.{travelled}
use Rattle.sym_hash.proofs.sysv.full_trips.Goals as goal

pub returns : goal.returns
returns c =
    let end : c.loop-from.from ≡ length c.args.chain.now = omega arith in
    let f = travelled c.args.chain.now in
    let small : length c.args.chain.now % 2 ^ 32 ≡ length c.args.chain.now = (let few = c.requires in omega arith) in
    IfOk-weaker c.follow_all.result _ _ (λ trips is. rw (rw c.deref.ensures.value at is) (record {
      len = length-map c.loop-from.starts.items f ∙ c.loop-from.invariant.len ∙ end;
      each = λ at below. rw (slice_get-map f c.loop-from.starts.items at, c.loop-from.invariant.each at (rw end below), small) refl;
    })) c.follow_all.ensures
