use Rattle.link_names.proofs.kept.listed_home.Given as goal

-- nothing changes
abbrev pub invariant-loop-place : goal.invariant-loop-place
invariant-loop-place l = Unit {0}
