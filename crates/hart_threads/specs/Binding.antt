-- A hart that was granted a slot exchanges its word, and goes on where the slot leads.
use Rattle.std.specs.Prelude.{◌≡◌, ℕ}
use Rattle.word_rule.specs.declared.entry.Grant.{Grant}
use Rattle.word_rule.specs.declared.view.HartView.{HartView}
use Rattle.slot_bind.specs.Grants.{exchange_of, exchanged as exchanged_view, found_by, given_back}
use Rattle.slot_bind.specs.Rows.{IsRowOf, offer_of}
use Rattle.slot_bind.specs.declared.slot.Bound.{Bound}
use Rattle.hart_moves.specs.Harts.{HartState, Offered, Resolving}
use Rattle.hart_moves.specs.Moves.{spent, word_left}
use Rattle.hart_moves.specs.Registers.{at}

-- the hart after an exchange of this offer that found this word
abbrev pub exchanged_to : Offered → ℕ → HartState → HartState
exchanged_to o found b = spent (record b { resolving = Resolving.to_finish o found })

-- and after the end of the offer
abbrev pub done_to : Offered → ℕ → HartState → HartState
done_to o found b = spent (record b { registers = at (word_left o found) b.registers; resolving = Resolving.to_settle o found })

-- the exchange of the grant in the hart's row, and the end of its offer
pub record BindsSlot (before now : HartView) (b c : HartState) : Type 0 where
  pub grant : Grant
  pub bound : Bound
  pub row : IsRowOf (offer_of before) grant
  pub view : now ≡ given_back (exchange_of grant bound) (exchanged_view (exchange_of grant bound) before)
  pub hart : (o : Offered) → b.resolving ≡ Resolving.to_exchange o → c ≡ done_to o (found_by grant bound) (exchanged_to o (found_by grant bound) b)
