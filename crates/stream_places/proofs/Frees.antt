-- A place is given back, case by case.
-- Assumes nothing.
use mathlib.Core.Path.{◌≡◌, ◌∙◌}
use mathlib.Core.List.{List}
use Prim.Native.Nat.{ℕ, ◌*◌, ◌-◌, ◌≤◌, ◌<◌}
use native.Mathlib.Omega.{arith}
use lib.ListN.{length}
use Rattle.stream_record.specs.declared.Stream.{Stream}
use Rattle.stream_record.specs.Record.{fresh}
use Rattle.stream_conn.specs.declared.Conn.{Conn}
use Rattle.stream_conn.specs.declared.Release.{Release}
use Rattle.std.specs.Prelude.{Option, Some, None, Result, Ok}
use Rattle.answers.specs.declared.Refusal.{Refusal}
use Rattle.stream_table.specs.declared.Place.{Place}
use Rattle.stream_table.specs.Table.{entered, inserted_at, removed, removed_at}
use Rattle.stream_table.proofs.Shape.{inserted_is, removed_is, length_removed}
use Rattle.stream_table.proofs.Entries.{place_below, place_few, place_all}
use Rattle.stream_places.specs.declared.Changed.{Changed}
use Rattle.stream_places.specs.Places.{grown, changed, freed}

-- ---- `give_back`
module _ (c : Conn) (l : List ℕ) (n i : ℕ) (g : Release) (h : i < n) (k : n ≤ 256) (m : 7 * n ≤ length l) {l' : List ℕ} (el : l' ≡ removed_at l n i) where
  gone : l' ≡ removed l n i
  gone = el ∙ removed_is l n i h k m

  pub give_again : {id : ℕ} {t : Stream} {l'' : List ℕ} {r : Changed} → g.granted ≡ Some id → t ≡ fresh c.swindow id → l'' ≡ inserted_at l' (n - 1) t → r ≡ changed 1 n g.conn
      → grown (Ok r) l'' ≡ freed c l n i (Ok g)
  give_again {id} {t} a et e er =
      let e'' = e ∙ inserted_is l' (n - 1) t (omega arith) (omega (arith, length_removed l n i gone)) in
      rw (er, e'', gone, et, a)

  pub give_less : {r : Changed} → g.granted ≡ None → r ≡ changed 0 (n - 1) g.conn → grown (Ok r) l' ≡ freed c l n i (Ok g)
  give_less a er = rw (er, gone, a)

pub ruleset givesback = (give_again, give_less)

-- ---- `free`
pub free_fits : (c : Conn) (l : List ℕ) (n id : ℕ) {p : Place} {x : Result (Option Place) Refusal} → x ≡ entered c l n id → x ≡ Ok (Some p) → (p.at < n) × (n ≤ 256) × (7 * n ≤ length l)
free_fits c l n id ex ei = (place_below c l n id ex ei, place_few c l n id ex ei, place_all c l n id ex ei)
