-- What an event of the range set of one connection does (docs/EVENTS.md): its step of drive_sets, on the first words of the lent memory, as many as the set's
-- places take; the reported parts go to the first words of the lent list. Assumes nothing.
use Rattle.std.specs.Prelude.{ℕ, ◌*◌, cond, List, ◌++◌, eqb, leb, ltb, take, drop, get_or}
use Rattle.codes.specs.Codes.{RS_CAP, RS_NEW}
use Rattle.drive_sets.specs.declared.Did.{Did}
use Rattle.drive_sets.specs.Sets as sets
use Rattle.drive_rs.specs.declared.Ranges.{Ranges}

-- the empty set, with 256 places for it and for its reported parts
abbrev pub begun : Ranges
begun = record { did = sets.none; places = 256; parts = 256 }

-- the words of so many places, two a place; a record that says more places than there are has none
unfoldable pub words_of : ℕ → ℕ
words_of places = cond (leb places 256) (2 * places) 0

-- the same places, and what an event gave
abbrev pub with_did : Ranges → Did → Ranges
with_did r d = record { did = d; places = r.places; parts = r.parts }

-- a list with its first e words replaced
abbrev pub put_front : ℕ → List ℕ → List ℕ → List ℕ
put_front e l ys = ys ++ drop e l

-- what an event leaves: the record, the memory and the list
pub record Both : Type 0 where
  pub out : Ranges
  pub memory : List ℕ
  pub list : List ℕ

abbrev pub both : Ranges → List ℕ → List ℕ → Both
both r m l = record { out = r; memory = m; list = l }

-- rs.cap: other places, and the set empty; more than 256 are RANGE
unfoldable pub cap_of : ℕ → ℕ → Ranges → Ranges
cap_of a b r =
    cond (ltb 256 a) (with_did r (sets.refused_of r.did))
    (cond (ltb 256 b) (with_did r (sets.refused_of r.did)) (record { did = sets.none; places = a; parts = b }))

-- rs.new: the set is made in the list, and then put into the first e words of the memory
abbrev pub renew_in : ℕ → Ranges → List ℕ → sets.Both → Both
renew_in e r m d = both (with_did r d.out) (put_front e m d.mem) d.second

unfoldable pub renew_of : ℕ → List ℕ → Ranges → List ℕ → List ℕ → Both
renew_of n ns r m l = renew_in (words_of r.places) r m (sets.renew_of ns n (take (words_of r.places) m) r.did.count l)

-- the others: the set has e words of the memory, its reported parts u words of the list
abbrev pub change_in : ℕ → ℕ → Ranges → List ℕ → List ℕ → sets.Both → Both
change_in e u r m l d = both (with_did r d.out) (put_front e m d.mem) (put_front u l d.second)

unfoldable pub change_of : ℕ → ℕ → List ℕ → Ranges → List ℕ → List ℕ → Both
change_of code n ns r m l =
    change_in (words_of r.places) (words_of r.parts) r m l
    (sets.set_of code ns n (take (words_of r.places) m) r.did.count (take (words_of r.parts) l))

-- an event; n words are given in ns
unfoldable pub step_of : ℕ → ℕ → List ℕ → Ranges → List ℕ → List ℕ → Both
step_of code n ns r m l =
    cond (eqb code RS_CAP) (both (cap_of (get_or ns 0 0) (get_or ns 1 0) r) m l)
    (cond (eqb code RS_NEW) (renew_of n ns r m l) (change_of code n ns r m l))
