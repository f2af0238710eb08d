-- Wrong versions that the promises exclude, of the contracts themselves, whatever the code: each follows from the histories.
use mathlib.Core.Path.{◌≡◌}
use mathlib.Core.Bool.{false, true}
use lib.Dec.{lit<}
use Rattle.std.specs.Prelude.{Result}
use Rattle.answers.specs.declared.Refusal.{Refusal}
use Rattle.dedup.specs.declared.Dedup.{Dedup}
use Rattle.dedup.specs.declared.Inserted.{Inserted}
use Rattle.dedup.specs.Dedup.{told}
use Rattle.dedup.specs.History.{left, seen_after}
use Rattle.dedup.proofs.History.{New, Insert, start, call, insert_history}

module _ (w : Dedup) (r s : Result Inserted Refusal) (p : New w) where
  -- one that always refuses, or always says seen: the first number is taken, and is new
  pub first_is_new : Insert w 5 r → r ≡ told false (left w r)
  unfolding seen_after
  first_is_new q = insert_history (start p) q (lit< tt)

  -- one that forgets: the same number again is seen
  pub again_is_seen : Insert w 5 r → Insert (left w r) 5 s → s ≡ told true (left (left w r) s)
  unfolding seen_after
  again_is_seen q t = insert_history (call (start p) q) t (lit< tt)

  -- one too narrow: 128 below the highest is new where it was not noted
  pub edge_is_new : Insert w 128 r → Insert (left w r) 0 s → s ≡ told false (left (left w r) s)
  unfolding seen_after
  edge_is_new q t = insert_history (call (start p) q) t (lit< tt)

  -- one too wide: 129 below it is seen, noted or not
  pub past_is_seen : Insert w 129 r → Insert (left w r) 0 s → s ≡ told true (left (left w r) s)
  unfolding seen_after
  past_is_seen q t = insert_history (call (start p) q) t (lit< tt)
