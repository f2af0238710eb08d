-- What `commit` asks of a step at a place, and what it leaves.
-- Assumes nothing.
use mathlib.Core.Path.{◌≡◌, ap, ◌∙◌}
use mathlib.Core.Bool.{Bool, cond}
use mathlib.Core.List.{List}
use Prim.Native.Nat.{ℕ, ◌+◌, ◌*◌, ◌≤◌, ◌<◌}
use native.Mathlib.Omega.{arith}
use lib.ListN.{length}
use Rattle.std.specs.Prelude.{Option, Some, Result, Ok}
use Rattle.answers.specs.declared.Refusal.{Refusal}
use Rattle.stream_record.specs.declared.Stream.{Stream}
use Rattle.stream_record.specs.declared.Step.{Step}
use Rattle.stream_record.specs.Record.{on_step}
use Rattle.stream_conn.specs.declared.Conn.{Conn}
use Rattle.stream_conn.specs.Books.{raised}
use Rattle.stream_table.specs.declared.Place.{Place}
use Rattle.stream_table.specs.Table.{stored_at, entered}
use Rattle.stream_table.proofs.Shape.{stored_is}
use Rattle.stream_table.proofs.Entries.{place_below, place_few, place_room, place_flow, place_end}
use Rattle.streams.specs.Calls.{after, booked, done_of, committed, room, Fair}

-- a step at place i, put into the table and the books
pub commit_done : (c : Conn) (l : List ℕ) (i id : ℕ) (peer : Bool) (p : Step) {l' : List ℕ} {d d' : Conn} → i < 256 → 7 * i + 7 ≤ length l
    → l' ≡ stored_at l i p.stream → d ≡ booked c p.charge p.shut p.credit → d' ≡ cond peer (raised d id) d → after (Ok (done_of p d')) l' ≡ committed c l i id peer p
unfolding committed
commit_done c l i id peer p h k el ed ed' = rw (el ∙ stored_is l i p.stream h k, ed', ed)

-- what a place tells: the books have room, and a fair step fits them and the table
module _ (c : Conn) (l : List ℕ) (n id : ℕ) {x : Result (Option Place) Refusal} {f : Option Place} {p : Place} (ex : x ≡ entered c l n id) (ef : x ≡ Ok f) (ep : f ≡ Some p) where
  at_place : x ≡ Ok (Some p)
  at_place = ef ∙ ap Ok ep

  pub has_flow : c.charged ≤ c.grant
  has_flow = place_flow c l n id ex at_place

  pub step_fits : {q : Result (Option Step) Refusal} {o : Option Step} {t : Step} → q ≡ Ok o → o ≡ Some t → Fair p.stream (room c) q
      → (p.at < 256) × (7 * p.at + 7 ≤ length l) × (c.charged + t.charge ≤ c.grant) × (c.closed + t.shut ≤ c.grant)
  step_fits {q} {o} {t} eo et h =
      let e : q ≡ Ok (Some t) = eo ∙ ap Ok et in
      let a : on_step 0 (λ (y : Step). y.charge) q ≡ t.charge = ap (on_step 0 (λ (y : Step). y.charge)) e in
      let b : on_step 0 (λ (y : Step). y.shut) q ≡ t.shut = ap (on_step 0 (λ (y : Step). y.shut)) e in
      let k : c.charged ≤ c.grant = has_flow in
      let j : c.closed + p.stream.end ≤ c.charged = place_end c l n id ex at_place in
      (omega (arith, place_below c l n id ex at_place, place_few c l n id ex at_place), place_room c l n id ex at_place, omega (arith, h.0, a, k), omega (arith, h.0, h.1, a, b, k, j))

-- what is equal to something fair is fair
pub fair_of : (s : Stream) (m : ℕ) (r q : Result (Option Step) Refusal) → r ≡ q → Fair s m q → Fair s m r
fair_of s m r q e h = rw e h
