-- The promise is one equation for the result and the lent records, so two outcomes that meet it are equal; and by `stops_agree` an outcome that meets the promise of the table in words is the same too.
use mathlib.Core.Path.{◌≡◌, sym, ap, ◌∙◌}
use mathlib.Core.List.{List}
use Prim.Native.Nat.{ℕ, ◌*◌, ◌≤◌}
use lib.ListN.{length, take}
use contract.Lifetimes.{Lfts}
use denote.Ref.{MutBor, at_last}
use Rattle.std.specs.Prelude.{Result}
use Rattle.answers.proofs.Promise.{Whole}
use Rattle.answers.specs.declared.Refusal.{Refusal}
use Rattle.stream_record.specs.declared.Stream.{Stream}
use Rattle.stream_conn.specs.declared.Conn.{Conn}
use Rattle.stream_conn.specs.declared.Done.{Done}
use Rattle.stream_table.specs.Table.{records}
use Rattle.streams.specs.Calls.{After}
use Rattle.streams.proofs.stop as words
use Rattle.stop_table.specs.Slice.{OnSlice}
use Rattle.stop_table.proofs.Agree.{stops_agree}
use Rattle.stop_table.proofs.stop as stop

pub stop_whole : Whole stop.Kinds.ps stop.Kinds.r stop.Reads.Pre stop.Reads.Post
stop_whole = (λ κs a. tt, λ κs a x y v w p q. let e = p ∙ sym q in (ap (λ d. d.done) e, λ i. (tt, ((ap (λ d. d.table) e) i, v.1.1))))

-- of the same connection, count and id, and tables that hold the same records: what meets the one promise and what meets the other are the same
module _ (κs : Lfts 1) (c : Conn) (n id : ℕ) (x : MutBor (List ℕ)) (y : MutBor (List Stream)) where
  pub promises_agree : (r s : Result Done Refusal) (l : List ℕ) (ss : List Stream)
      → 7 * n ≤ length x.now → n ≤ length y.now → records n x.now ≡ take n y.now
      → words.Reads.Post κs (c, (x, (n, (id, tt)))) r (c, (at_last x l, (n, (id, tt))))
      → stop.Reads.Post κs (c, (y, (n, (id, tt)))) s (c, (at_last y ss, (n, (id, tt))))
      → (r ≡ s) × (records n l ≡ take n ss)
  promises_agree r s l ss lent held same p q =
      let k = stops_agree c x.now y.now n id lent held same in (
        ap (λ (d : After). d.done) p ∙ k.done ∙ sym (ap (λ (d : OnSlice). d.done) q),
        ap (λ (d : After). records n d.words) p ∙ k.table ∙ sym (ap (λ (d : OnSlice). take n d.table) q),
      )
