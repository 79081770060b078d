use Rattle.std.proofs.Common.{◌≡◌, ◌≤◌, ◌<◌, ℕ, get_or}
use Rattle.hart_linker.specs.Between.{Hears}
use Rattle.word_rule.specs.Views.{BeginsWith}
use Rattle.hart_threads.specs.Run.{HearsUpTo}
use Rattle.hart_threads.proofs.harts.tell_others.Given as goal

abbrev pub invariant-loop-other : goal.invariant-loop-other
invariant-loop-other g l = record {
  first : Hears g.J.RunNaming.setting g.J.RunNaming.journal l.fn.first l.first;
  told : (i : ℕ) (d : _) → i < l.other-index → HearsUpTo g.J.RunNaming.setting g.J.RunNaming.journal l.first (get_or l.fn.others i d).seat (get_or l.others i d).seat;
  since : (i : ℕ) (d : _) → i < l.other-index → BeginsWith (get_or l.others i d).seat.heard l.fn.first.heard;
  rest : (i : ℕ) (d : _) → l.other-index ≤ i → get_or l.others i d ≡ get_or l.fn.others i d;
  harts : (i : ℕ) (d : _) → (get_or l.others i d).hart ≡ (get_or l.fn.others i d).hart;
  blocks : (i : ℕ) (d : _) → (get_or l.others i d).blocks ≡ (get_or l.fn.others i d).blocks;
}
