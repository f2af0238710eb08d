-- What an event of dd, rs and pa gives: its library's call, and nothing else (docs/EVENTS.md). The calls are those of dedup (01, Duplicate window),
-- range_set (01, Range set) and pending_acks (01, Ack recording). Assumes nothing.
use Rattle.std.specs.Prelude.{Result, Ok, Err, ℕ, zero, suc, ◌+◌, ◌/◌, cond, List, [], ◌∷◌, get_or, eqb}
use Rattle.answers.specs.Answers.{OK, RANGE, number}
use Rattle.answers.specs.declared.Refusal.{Refusal}
use Rattle.answers.specs.declared.Refusal.TheVariants.{Range as OutOfRange}
use Rattle.codes.specs.Codes.{DD_NEW, PA_NEW, PA_INSERT, RS_ONE, RS_INSERT, RS_REMOVE, RS_REPLACE, RS_POP, RS_ADD, RS_SUB, RS_CONTAINS, RS_MIN, RS_MAX}
use Rattle.dedup.specs.declared.Dedup.{Dedup}
use Rattle.dedup.specs.declared.Inserted.{Inserted}
use Rattle.dedup.specs.Dedup.{fresh, inserted}
use Rattle.range_list.specs.Ranges.{read}
use Rattle.range_edit.specs.declared.Changed.{Changed}
use Rattle.range_edit.specs.declared.Replaced.{Replaced}
use Rattle.range_edit.specs.Edits as edits
use Rattle.range_set.specs.declared.Popped.{Popped}
use Rattle.range_set.specs.Set.{insert_range, remove_range, replace_range, add_set, subtract_set, held_of, least, greatest, bound_of, size_of, Pop, pop_min}
use Rattle.pending_acks.specs.declared.Recorded.{Recorded}
use Rattle.pending_acks.specs.Acks.{Left, insert_one, subtract_below}
use Rattle.said.specs.Said.{said_plain, said_number, said_two, bit_of}
use Rattle.drive_sets.specs.declared.Noted.{Noted}
use Rattle.drive_sets.specs.declared.Did.{Did}

-- ---- dd: the duplicate window

-- the fresh window
abbrev pub began : Noted
began = record { said = said_plain OK; dedup = fresh }

-- what the window's insert gave, of the window d: 1 where the number was seen; a refusal has the value 0, and the window is as it was
abbrev pub noted_of : Dedup → Result Inserted Refusal → Noted
noted_of d (Ok i) = record { said = said_number OK (bit_of i.seen); dedup = i.dedup }
noted_of d (Err why) = record { said = said_number (number why) 0; dedup = d }

-- dd.new is the fresh window; dd.insert n is the window's insert of n
unfoldable pub note_of : ℕ → ℕ → Dedup → Noted
note_of code n d = cond (eqb code DD_NEW) began (noted_of d (inserted d n))

-- ---- lists of ranges

-- an answer with no value or with one, the count of ranges, and no reported parts
abbrev pub plainly : ℕ → ℕ → Did
plainly answer n = record { said = said_plain answer; count = n; parts = 0 }

abbrev pub valued : ℕ → ℕ → ℕ → Did
valued answer x n = record { said = said_number answer x; count = n; parts = 0 }

-- a list at the start
abbrev pub none : Did
none = plainly OK 0

-- RANGE, with the list as it was
abbrev pub refused_of : Did → Did
refused_of d = plainly RANGE d.count

-- a result with f done to its value
abbrev pub ok_map : {A B : Type 0} → (A → B) → Result A Refusal → Result B Refusal
ok_map f (Ok a) = Ok (f a)
ok_map f (Err why) = Err why

-- what a question of n ranges is answered with: its number; a refusal has 0
abbrev pub value_of : Result ℕ Refusal → ℕ → Did
value_of (Ok x) n = valued OK x n
value_of (Err why) n = valued (number why) 0 n

-- what a change is answered with: 1 for yes, and the count after it; a refusal leaves the count that was given
abbrev pub told_of : Result Changed Refusal → ℕ → Did
told_of (Ok r) before = valued OK (bit_of r.changed) r.count
told_of (Err why) before = valued (number why) 0 before

-- a pop: the range taken is the two values
abbrev pub popped_of : Result Popped Refusal → ℕ → Did
popped_of (Ok r) before = record { said = said_two OK r.start r.end; count = r.count; parts = 0 }
popped_of (Err why) before = record { said = said_two (number why) 0 0; count = before; parts = 0 }

-- a replace: how many parts it reported
abbrev pub replaced_of : Result Replaced Refusal → ℕ → Did
replaced_of (Ok r) before = record { said = said_plain OK; count = r.count; parts = r.parts }
replaced_of (Err why) before = plainly (number why) before

-- a new set: no value
abbrev pub became_of : Result Changed Refusal → ℕ → Did
became_of (Ok r) before = plainly OK r.count
became_of (Err why) before = plainly (number why) before

-- what an event leaves: what it gave, and the list
pub record Done : Type 0 where
  pub out : Did
  pub mem : List ℕ

abbrev pub done : Did → List ℕ → Done
done r l = record { out = r; mem = l }

-- ---- pa: the recorder of acknowledgements

-- of n ranges before: whether the number is new, and whether anything went
abbrev pub as_changed : Recorded → Changed
as_changed r = record { count = r.count; changed = r.new }

abbrev pub recorded : Left → ℕ → Done
recorded d n = done (told_of (ok_map as_changed d.out) n) d.mem

abbrev pub subtracted : edits.Done → ℕ → Done
subtracted d n = done (told_of d.out n) d.mem

-- pa.new empties the list, pa.insert x records x, and pa.below x removes what is at or below x
unfoldable pub record_of : ℕ → ℕ → List ℕ → ℕ → Done
record_of code x l n =
    cond (eqb code PA_NEW) (done none l)
    (cond (eqb code PA_INSERT) (recorded (insert_one l n x) n) (subtracted (subtract_below l n x) n))

-- ---- rs: the range set

-- what an event leaves that may write a second list
pub record Both : Type 0 where
  pub out : Did
  pub mem : List ℕ
  pub second : List ℕ

abbrev pub both : Did → List ℕ → List ℕ → Both
both r l m = record { out = r; mem = l; second = m }

-- the second list is as it was
abbrev pub beside : Done → List ℕ → Both
beside d m = both d.out d.mem m

-- of n ranges before: whether the set changed
abbrev pub changes : edits.Done → ℕ → Done
changes d n = done (told_of d.out n) d.mem

-- rs.pop
abbrev pub popped : Pop → ℕ → Done
popped d n = done (popped_of d.out n) d.mem

-- rs.contains, rs.min, rs.max, and else rs.len: they change nothing
unfoldable pub ask_of : ℕ → ℕ → List ℕ → ℕ → Did
ask_of code x l n =
    cond (eqb code RS_CONTAINS) (value_of (ok_map bit_of (held_of l n x)) n)
    (cond (eqb code RS_MIN) (value_of (bound_of l n (least (read l 0 n))) n)
    (cond (eqb code RS_MAX) (value_of (bound_of l n (greatest (read l 0 n))) n)
    (value_of (size_of l n) n)))

-- an event that writes the set alone, with its first two words a and b; rs.add and rs.sub take the first k ranges of the words ws
unfoldable pub edit_of : ℕ → ℕ → ℕ → List ℕ → ℕ → List ℕ → ℕ → Done
edit_of code a b ws k l n =
    cond (eqb code RS_ONE) (changes (insert_range l n a (a + 1)) n)
    (cond (eqb code RS_INSERT) (changes (insert_range l n a b) n)
    (cond (eqb code RS_REMOVE) (changes (remove_range l n a b) n)
    (cond (eqb code RS_ADD) (changes (add_set l n ws k) n)
    (cond (eqb code RS_SUB) (changes (subtract_set l n ws k) n)
    (cond (eqb code RS_POP) (popped (pop_min l n) n)
    (done (ask_of code a l n) l))))))

-- rs.replace: the parts that were there go to the second list
abbrev pub replaced : edits.Both → ℕ → Both
replaced d n = both (replaced_of d.out n) d.mem d.parts

-- an event of the range set but rs.new; w words are given in ws
unfoldable pub set_of : ℕ → List ℕ → ℕ → List ℕ → ℕ → List ℕ → Both
set_of code ws w l n m =
    cond (eqb code RS_REPLACE) (replaced (replace_range l n (get_or ws 0 0) (get_or ws 1 0) m) n)
    (beside (edit_of code (get_or ws 0 0) (get_or ws 1 0) ws (w / 2) l n) m)

-- what the making of a set leaves: how many ranges it has, and the list
pub record Made : Type 0 where
  pub out : Result ℕ Refusal
  pub mem : List ℕ

abbrev pub made : Result ℕ Refusal → List ℕ → Made
made r l = record { out = r; mem = l }

-- where a call went through, what comes next, of the list that it leaves and its count
abbrev pub next_of : Result Changed Refusal → List ℕ → (List ℕ → ℕ → Made) → Made
next_of (Ok r) m next = next m r.count
next_of (Err why) m next = made (Err why) m

-- the first k pairs of ws, put as ranges into the n ranges of m one by one, up to the first that is refused; Range where ws has too few
unfoldable pub filled : ℕ → List ℕ → List ℕ → ℕ → Made
filled zero ws m n = made (Ok n) m
filled (suc k) [] m n = made (Err OutOfRange) m
filled (suc k) (a ∷ []) m n = made (Err OutOfRange) m
filled (suc k) (a ∷ b ∷ ws) m n = next_of (insert_range m n a b).out (insert_range m n a b).mem (filled k ws)

-- the list, of n ranges before, becomes the set that was made in the spare list f, as added to the empty set: Full where it has too few places
abbrev pub taken : ℕ → edits.Done → List ℕ → Both
taken n d f = both (became_of d.out n) d.mem f

-- where a range is refused, the list is as it was
abbrev pub renewed : List ℕ → ℕ → Result ℕ Refusal → List ℕ → Both
renewed l n (Ok k) f = taken n (add_set l 0 f k) f
renewed l n (Err why) f = both (plainly (number why) n) l f

-- rs.new: the set of the w / 2 ranges that are given in ws, made in the spare list m
unfoldable pub renew_of : List ℕ → ℕ → List ℕ → ℕ → List ℕ → Both
renew_of ws w l n m = renewed l n (filled (w / 2) ws m 0).out (filled (w / 2) ws m 0).mem
