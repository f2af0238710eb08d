use Rattle.range_list.specs.Ranges.{read, flat, over}
use Rattle.range_edit.specs.Edits.{clipped}
use mathlib.Core.Path.{◌≡◌}
use lib.ListN.{length}
use Rattle.range_edit.proofs.clip.Given as goal

abbrev pub invariant-loop-k : goal.invariant-loop-k
invariant-loop-k l = (length l.out ≡ length l.fn.out) × (l.out ≡ over (flat (clipped l.s l.e (read l.list l.from l.k))) l.fn.out)
