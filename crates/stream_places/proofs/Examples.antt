-- The worked examples of 01 for the grant, a place given back and 0-RTT rejection, by computing the definitions.
use mathlib.Core.Path.{◌≡◌, refl}
use mathlib.Core.List.{List, [], ◌∷◌, ◌++◌}
use Prim.Native.Nat.{ℕ}
use Rattle.stream_conn.specs.declared.Conn.{Conn}
use Rattle.stream_conn.specs.Books.{no_counts, admitted, good_counts, good_conn, given, alike, released}
use Rattle.stream_table.specs.Table.{theirs, good_numbers, good_rec, records, find_in, sound_b, entered, has_place, inserted, removed, stripped}
use Rattle.std.specs.Prelude.{Result, Ok, Err}
use Rattle.answers.specs.declared.Refusal.{Refusal}
use Rattle.answers.specs.declared.Refusal.TheVariants.{Full, Limit}
use Rattle.stream_places.specs.declared.Changed.{Changed}
use Rattle.stream_places.specs.Places.{conn_after, count_after, free_after, grant_after, wanted, want_after, open_in, open_after, reject_after}

-- the value that a call gives: 0 where it was refused
abbrev value : Result Changed Refusal → ℕ
value (Ok x) = x.value
value (Err why) = 0

-- the grant: desired 10, allocated 7, maximum 100 give 10 and 103
abbrev granter : Conn
granter =
    record { side = 1; bi = no_counts; uni = record { next = 0; max = 0; rmax = 100; ralloc = 7; rwant = 7; rnext = 95 }; charged = 0; closed = 0; grant = 1000; window = 1000; debt = 0; swindow = 1000 }

abbrev one : ℕ → List ℕ
one id = id ∷ 0 ∷ 0 ∷ 1000 ∷ 1 ∷ 0 ∷ 0 ∷ []

abbrev blank : List ℕ
blank = 0 ∷ 0 ∷ 0 ∷ 0 ∷ 0 ∷ 0 ∷ 0 ∷ []

abbrev places : List ℕ
places = one 374 ++ (one 378 ++ (one 382 ++ (one 386 ++ (one 390 ++ (one 394 ++ (one 398 ++ (blank ++ (blank ++ blank))))))))

pub grant_allocated : (conn_after granter (want_after granter places 7 1 10).out).uni.ralloc ≡ 10
unfolding want_after wanted grant_after sound_b good_conn good_counts good_rec good_numbers admitted theirs records inserted
grant_allocated = refl

pub grant_maximum : (conn_after granter (want_after granter places 7 1 10).out).uni.rmax ≡ 103
unfolding want_after wanted grant_after sound_b good_conn good_counts good_rec good_numbers admitted theirs records inserted
grant_maximum = refl

pub grant_count : count_after 7 (want_after granter places 7 1 10).out ≡ 10
unfolding want_after wanted grant_after sound_b good_conn good_counts good_rec good_numbers admitted theirs records inserted
grant_count = refl

-- one place too few: FULL, and nothing is granted
pub grant_full : (want_after granter places 7 1 11).out ≡ Err Full
unfolding want_after wanted grant_after sound_b good_conn good_counts good_rec good_numbers admitted theirs records inserted
grant_full = refl

pub grant_none : (conn_after granter (want_after granter places 7 1 11).out).uni.rmax ≡ 100
unfolding want_after wanted grant_after sound_b good_conn good_counts good_rec good_numbers admitted theirs records inserted
grant_none = refl

-- the client's streams 2 and 6, the first closed at 700: its place goes to stream 10
abbrev later : Conn
later =
    record { side = 1; bi = no_counts; uni = record { next = 0; max = 0; rmax = 2; ralloc = 2; rwant = 2; rnext = 2 }; charged = 1000; closed = 700; grant = 1700; window = 1000; debt = 0; swindow = 1000 }

abbrev shut : List ℕ
shut = 2 ∷ 0 ∷ 0 ∷ 0 ∷ 0 ∷ 0 ∷ 0 ∷ 6 ∷ 300 ∷ 0 ∷ 1000 ∷ 1 ∷ 0 ∷ 0 ∷ []

pub freed_words : (free_after later shut 2 2).words ≡ 6 ∷ 300 ∷ 0 ∷ 1000 ∷ 1 ∷ 0 ∷ 0 ∷ 10 ∷ 0 ∷ 0 ∷ 1000 ∷ 1 ∷ 0 ∷ 0 ∷ []
unfolding free_after released given alike inserted removed entered sound_b good_conn good_counts good_rec good_numbers admitted theirs records find_in
freed_words = refl

pub freed_maximum : (conn_after later (free_after later shut 2 2).out).uni.rmax ≡ 3
unfolding free_after released given alike inserted removed entered sound_b good_conn good_counts good_rec good_numbers admitted theirs records find_in
freed_maximum = refl

-- a client whose two-way stream 0 had 40 bytes: 0-RTT is rejected, the stream goes, and its charge stays
abbrev client : Conn
client =
    record { side = 0; bi = record { next = 1; max = 5; rmax = 1; ralloc = 1; rwant = 1; rnext = 0 }; uni = no_counts; charged = 40; closed = 0; grant = 100; window = 100; debt = 0; swindow = 100 }

abbrev early : List ℕ
early = 0 ∷ 40 ∷ 0 ∷ 100 ∷ 1 ∷ 1 ∷ 0 ∷ 1 ∷ 0 ∷ 0 ∷ 100 ∷ 1 ∷ 1 ∷ 0 ∷ []

pub rejected_removed : value (reject_after client early 2).out ≡ 1
unfolding reject_after stripped sound_b good_conn good_counts good_rec good_numbers admitted theirs records
rejected_removed = refl

pub rejected_charged : (conn_after client (reject_after client early 2).out).charged ≡ 40
unfolding reject_after stripped sound_b good_conn good_counts good_rec good_numbers admitted theirs records
rejected_charged = refl

pub rejected_closed : (conn_after client (reject_after client early 2).out).closed ≡ 40
unfolding reject_after stripped sound_b good_conn good_counts good_rec good_numbers admitted theirs records
rejected_closed = refl

-- with no place left one of ours both ways is FULL, and past the number that the peer allows it is LIMIT
pub opened_full : (open_after client early 2 0).out ≡ Err Full
unfolding open_after open_in has_place sound_b good_conn good_counts good_rec good_numbers admitted theirs records
opened_full = refl

pub opened_limit : (open_after client early 2 1).out ≡ Err Limit
unfolding open_after open_in has_place sound_b good_conn good_counts good_rec good_numbers admitted theirs records
opened_limit = refl
