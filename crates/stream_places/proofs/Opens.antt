-- A stream of ours is opened, case by case.
-- Assumes nothing.
use mathlib.Core.Path.{◌≡◌, sym, ◌∙◌}
use mathlib.Core.Bool.{Bool, true, false, not}
use mathlib.Core.List.{List}
use Prim.Native.Nat.{ℕ, ◌+◌, ◌*◌, ◌≤◌, ◌<◌}
use native.Mathlib.Omega.{arith}
use borrow.Author.Tests.{not-false}
use Rattle.stream_record.specs.declared.Stream.{Stream}
use Rattle.stream_conn.specs.declared.Counts.{Counts}
use Rattle.stream_conn.specs.declared.Conn.{Conn}
use Rattle.stream_conn.specs.Books.{counts_of}
use Rattle.stream_table.specs.Table.{sound_b, has_place, inserted, inserted_at}
use Rattle.stream_table.proofs.Shape.{inserted_is, has_room, has_few}
use Rattle.stream_places.proofs.Wants.{ready}

module _ (c : Conn) (l : List ℕ) (n dir : ℕ) {g : Bool} (h : dir ≤ 1) (eg : g ≡ sound_b c l n) (e : not g ≡ false) {k : Counts} (ek : k ≡ counts_of c dir) where
  pub open_id : 4 * k.next + 2 * dir + c.side < 18446744073709551616
  open_id =
      let w = ready c l n dir eg e ek in
      omega (arith, w.us, w.own)

  pub open_four : 4 * k.next + 2 * dir < 18446744073709551616
  open_four =
      let w = ready c l n dir eg e ek in
      omega (arith, w.own)

  pub open_mul : 4 * k.next < 18446744073709551616
  open_mul =
      let w = ready c l n dir eg e ek in
      omega (arith, w.own)

  pub open_sum : n + 1 < 18446744073709551616
  open_sum =
      let w = ready c l n dir eg e ek in
      omega (arith, w.few)

pub ruleset opens = (open_id, open_four, open_mul, open_sum)

-- a place that there is takes the record
pub open_in_place : (l : List ℕ) (n : ℕ) (t : Stream) {f : Bool} {l' : List ℕ} → f ≡ has_place l n → not f ≡ false → l' ≡ inserted_at l n t → l' ≡ inserted l n t
open_in_place l n t {f} ef m el =
    let p : has_place l n ≡ true = sym ef ∙ not-false f m in
    el ∙ inserted_is l n t (has_few l n p) (has_room l n p)
