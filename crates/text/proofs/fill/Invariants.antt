use mathlib.Core.Path.{◌≡◌}
use Prim.Native.Nat.{◌+◌, ◌*◌}
use mathlib.Core.Bool.{true}
use lib.ListN.{drop}
use lib.Seq.{sets}
use Rattle.text.specs.Bytes.{is_hex, unhexed}
use Rattle.text.proofs.fill.Given as goal

abbrev pub invariant-loop-i : goal.invariant-loop-i
invariant-loop-i l = record {
  hex : is_hex (drop (2 * l.i) l.s) ≡ true;
  all : sets l.out (l.at + l.i) (unhexed (drop (2 * l.i) l.s)) ≡ sets l.fn.out l.at (unhexed l.s);
}
