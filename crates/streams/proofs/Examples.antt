-- The worked examples of 01 for data, by computing the definitions: a version that always refuses fails on the 100 accepted bytes.
use mathlib.Core.Path.{◌≡◌, refl}
use mathlib.Core.Bool.{Bool, true, false, ◌||◌}
use mathlib.Core.List.{List, [], ◌∷◌}
use Prim.Native.Nat.{ℕ, ◌^◌}
use lib.Dec.{leb}
use Rattle.stream_record.specs.Record.{kept, took}
use Rattle.stream_conn.specs.declared.Conn.{Conn}
use Rattle.stream_conn.specs.declared.Done.{Done}
use Rattle.stream_conn.specs.Books.{no_counts, admitted, good_counts, good_conn, paid, raised}
use Rattle.stream_table.specs.Table.{theirs, good_numbers, good_rec, records, find_in, sound_b, entered}
use Rattle.std.specs.Prelude.{None, Result, Ok, Err, is_ok}
use Rattle.answers.specs.declared.Refusal.{Refusal}
use Rattle.answers.specs.declared.Refusal.TheVariants.{Flow}
use Rattle.streams.specs.Calls.{unchanged, conn_after, booked, committed, on_stream, data_after}

-- a server with two one-way streams of the client, at 600 and 300, granted 1,000
abbrev pub server : Conn
server =
    record { side = 1; bi = no_counts; uni = record { next = 0; max = 0; rmax = 2; ralloc = 2; rwant = 2; rnext = 2 }; charged = 900; closed = 0; grant = 1000; window = 1000; debt = 0; swindow = 1000 }

abbrev pub table : List ℕ
table = 2 ∷ 600 ∷ 0 ∷ 1000 ∷ 1 ∷ 0 ∷ 0 ∷ 6 ∷ 300 ∷ 0 ∷ 1000 ∷ 1 ∷ 0 ∷ 0 ∷ []

-- what a call charges; nothing where it is refused
abbrev charge : Result Done Refusal → ℕ
charge (Ok d) = d.charge
charge (Err why) = 0

pub accepted_100 : is_ok (data_after server table 2 2 600 100 false).done ≡ true
unfolding data_after on_stream entered sound_b good_conn good_counts good_rec good_numbers admitted theirs records find_in committed took kept booked paid raised
accepted_100 = refl

pub charged_100 : (conn_after server (data_after server table 2 2 600 100 false).done).charged ≡ 1000
unfolding data_after on_stream entered sound_b good_conn good_counts good_rec good_numbers admitted theirs records find_in committed took kept booked paid raised
charged_100 = refl

pub words_100 : (data_after server table 2 2 600 100 false).words ≡ 2 ∷ 700 ∷ 0 ∷ 1000 ∷ 1 ∷ 0 ∷ 0 ∷ 6 ∷ 300 ∷ 0 ∷ 1000 ∷ 1 ∷ 0 ∷ 0 ∷ []
unfolding data_after on_stream entered sound_b good_conn good_counts good_rec good_numbers admitted theirs records find_in committed took kept booked paid raised
words_100 = refl

pub refused_101 : (data_after server table 2 2 600 101 false).done ≡ Err Flow
unfolding data_after on_stream entered sound_b good_conn good_counts good_rec good_numbers admitted theirs records find_in committed took kept booked paid raised
refused_101 = refl

-- 100 bytes seen already cost nothing
pub again_free : charge (data_after server table 2 2 500 100 false).done ≡ 0
unfolding data_after on_stream entered sound_b good_conn good_counts good_rec good_numbers admitted theirs records find_in committed took kept booked paid raised
again_free = refl

-- data for a stream that is closed are OK, and charge and change nothing
pub closed_free : (c : Conn) (l : List ℕ) (n id offset len : ℕ) (fin : Bool) → (leb (2 ^ 62) offset || leb (2 ^ 62) len) ≡ false → entered c l n id ≡ Ok None → data_after c l n id offset len fin ≡ unchanged c l
unfolding data_after on_stream
closed_free c l n id offset len fin h e = rw (h, e)
