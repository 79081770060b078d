use Rattle.std.proofs.Common.{◌≡◌, ◌++◌, take}
use Rattle.std.specs.List.{flat_map}
use Rattle.std.specs.String.{string_bytes}
use Rattle.trace_view.specs.Picture.{row_text}
use Rattle.trace_view.proofs.picture.write_rows.Given as goal

-- the rows so far are written
abbrev pub invariant-loop-step : goal.invariant-loop-step
invariant-loop-step l = string_bytes l.text ≡ string_bytes l.fn.text ++ flat_map (row_text l.members l.lanes) (take l.step-index l.steps)
