use Rattle.std.proofs.Common.{◌∷◌, take}
use Rattle.std.specs.List.{flat_map}
use Rattle.std.specs.Fmt.{HasWritten, IsPlainFormatter}
use Rattle.trace_view.specs.Names.{new_name}
use Rattle.trace_view.proofs.names.write_more_news.Given as goal

-- the news so far are written
abbrev pub invariant-loop-new : goal.invariant-loop-new
invariant-loop-new g l =
    IsPlainFormatter l.initial.f → HasWritten g.W.Write.write_str_gives l.initial.f (flat_map (λ n. 44 ∷ 32 ∷ new_name n) (take l.new-index l.news)) l.f
