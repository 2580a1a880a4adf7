use Rattle.std.proofs.Common.{◌≡◌, map}
use Rattle.std.specs.List.{range_with_len}
use Rattle.case_file.specs.Sections.{pair_in}
use Rattle.case_file.proofs.surface_section.pairs_in.Given as goal

abbrev pub invariant-loop-low : goal.invariant-loop-low
invariant-loop-low l = l.diagonals.items ≡ map (pair_in l.bytes) (range_with_len 0 l.low-index)
