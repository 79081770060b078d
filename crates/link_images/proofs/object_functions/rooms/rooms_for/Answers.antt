use Rattle.std.proofs.Common.{◌≡◌, ℕ, ◌+◌, ◌++◌, [], ◌∷◌, take, sym, ap, ◌∙◌}
use Rattle.std.proofs.lemmas.List.{take_more}
use Rattle.link_images.proofs.ObjectFunctions.Filling.{objects_more, rooms_more}
use Rattle.link_images.proofs.object_functions.rooms.rooms_for.Goals as goal

pub loop-serial-preserved : goal.loop-serial-preserved
loop-serial-preserved c =
    let order = c.args.order.now in
    let i : ℕ = c.loop-serial.serial-index in
    let serial : ℕ = c.serial-item.result in
    let room = c.in_ok-new.field-0 in
    let more : take (i + 1) order ≡ take i order ++ serial ∷ [] = take_more order i serial c.loop-serial-test.true ∙ ap (λ (d : ℕ). take i order ++ d ∷ []) (sym c.serial-item.is) in
    record {
      objects = objects_more c.loop-serial.rooms.items c.push.new.self.items room (take i order) serial c.in_ok-push.ensures.items c.loop-serial.invariant.objects c.in_ok-new.ensures.object ∙ sym more;
      enough = rooms_more c.args.added.now c.loop-serial.rooms.items c.push.new.self.items room c.in_ok-push.ensures.items c.loop-serial.invariant.enough c.in_ok-new.ensures.enough;
    }
