use Rattle.std.proofs.Common.{◌≡◌, ◌++◌, map, take}
use Rattle.trace_view.specs.Members.{member_for}
use Rattle.trace_view.proofs.members.push_news.Given as goal

-- the objects so far stand behind the others
abbrev pub invariant-loop-new : goal.invariant-loop-new
invariant-loop-new l = l.members ≡ l.fn.members ++ map (member_for l.ns) (take l.new-index l.news)
