-- How a call returns, by what is due.
use Rattle.std.proofs.Common.{◌≡◌, Bool, true, false, cond, sym, ap, ◌∙◌}
use Rattle.ld_base.specs.declared.fault.Shown.{Shown}
use Rattle.history_calls.specs.Call.{Call}
use Rattle.history_state.specs.State.{State}
use Rattle.hart_moves.specs.Due.{Due, Return, due}
use Rattle.hart_moves.specs.Harts.{HartState}
use Rattle.hart_moves.specs.Waiting.{is_still}
use Rattle.hart_seat.specs.HartParts.Views.{back_of, call_in, due_in}
use Rattle.hart_seat.specs.declared.hart_parts.due.Call.{Call as code_call}
use Rattle.hart_seat.specs.declared.hart_parts.due.Due.TheVariants as code
use Rattle.world_answers.specs.ReturnsPart.Steps.{ReturnsAs, return_by, return_of}
use Rattle.world_answers.specs.declared.returns.returning.CallReturn.{CallReturn}

module _ (s : State) (b : HartState) (asked : code_call) (call : Call) (to : Return) (kind : CallReturn) (by : kind ≡ return_by (call_in s asked))
    (at : back_of b asked ≡ return_of b kind) where
  by_same : Due.serve (call_in s asked) (back_of b asked) ≡ Due.serve call to → ReturnsAs b call to kind
  by_same same =
      let calls : call_in s asked ≡ call = cc in
      let tos : back_of b asked ≡ to = cc in
      record { by_call = by ∙ ap return_by calls; is = sym tos ∙ at }

  pub serves_so : due_in s b (code.Serve asked) ≡ due s b → due s b ≡ Due.serve call to → ReturnsAs b call to kind
  serves_so ours is = by_same (ours ∙ is)

  made_of : (t : Bool) (shown : Shown) → cond t (Due.wait shown) (Due.serve (call_in s asked) (back_of b asked)) ≡ Due.serve call to → ReturnsAs b call to kind
  made_of true shown same = absurd (let no : Due.wait shown ≡ Due.serve call to = same in cc)
  made_of false shown same = by_same same

  pub waits_so : (shown : Shown) → due_in s b (code.Wait shown asked) ≡ due s b → due s b ≡ Due.serve call to → ReturnsAs b call to kind
  waits_so shown ours is = made_of (is_still s shown) shown (ours ∙ is)
