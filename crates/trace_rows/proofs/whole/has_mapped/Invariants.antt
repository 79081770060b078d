use Rattle.std.proofs.Common.{◌≡◌, drop}
use Rattle.std.specs.List.{list_any}
use Rattle.history_graph.specs.Initialised.{is_one_of}
use Rattle.trace_replay.specs.Heads.{serials_in}
use Rattle.trace_rows.proofs.whole.has_mapped.Given as goal

-- the search of the rest is the search of the whole
abbrev pub invariant-loop-object : goal.invariant-loop-object
invariant-loop-object l =
    list_any (is_one_of (serials_in l.replay.namespaces)) (drop l.object-index l.objects) ≡ list_any (is_one_of (serials_in l.replay.namespaces)) l.objects
