-- One law for each return: what the calls before it promise is what the definition says. Assumes nothing.
use mathlib.Core.Path.{◌≡◌}
use mathlib.Core.List.{List}
use Prim.Native.Nat.{ℕ, ◌≤◌, ◌<◌, ◌*◌}
use lib.ListN.{take}
use borrow.Author.Tests.{le-leb, lt-leb, lt-ltb, le-ltb}
use Rattle.drive_sets.specs.declared.Did.{Did}
use Rattle.drive_sets.specs.Sets as sets
use Rattle.drive_rs.specs.declared.Ranges.{Ranges}
use Rattle.drive_rs.specs.Step.{begun, words_of, with_did, put_front, both, cap_of, renew_of, change_of}

pub begins : {d : Did} → d ≡ sets.none → record { did = d; places = 256; parts = 256 } ≡ begun
begins e = rw e

pub words_few : (p : ℕ) → p ≤ 256 → 2 * p ≡ words_of p
unfolding words_of
words_few p h = rw (le-leb p 256 h)

pub words_many : (p : ℕ) → 256 < p → 0 ≡ words_of p
unfolding words_of
words_many p h = rw (lt-leb p 256 h)

module _ (a b : ℕ) (r : Ranges) {d : Did} {x : Ranges} where
  pub cap_first : 256 < a → d ≡ sets.refused_of r.did → x ≡ with_did r d → x ≡ cap_of a b r
  unfolding cap_of
  cap_first h e f = rw (lt-ltb 256 a h, ← e) f

  pub cap_second : a ≤ 256 → 256 < b → d ≡ sets.refused_of r.did → x ≡ with_did r d → x ≡ cap_of a b r
  unfolding cap_of
  cap_second h k e f = rw (le-ltb 256 a h, lt-ltb 256 b k, ← e) f

pub cap_taken : (a b : ℕ) (r : Ranges) {d : Did} → a ≤ 256 → b ≤ 256 → d ≡ sets.none → record { did = d; places = a; parts = b } ≡ cap_of a b r
unfolding cap_of
cap_taken a b r h k e = rw (le-ltb 256 a h, le-ltb 256 b k, e)

module _ (n : ℕ) (ns : List ℕ) (r : Ranges) (m l : List ℕ) {d : Did} {x : Ranges} {m' l' : List ℕ} {p : ℕ} where
  pub renew_in_law : p ≡ words_of r.places → sets.both d m' l' ≡ sets.renew_of ns n (take p m) r.did.count l → x ≡ with_did r d
      → both x (put_front p m m') l' ≡ renew_of n ns r m l
  unfolding renew_of
  renew_in_law e f g = rw (g, ← e, ← f)

  pub change_in_law : {q : ℕ} (code : ℕ) → p ≡ words_of r.places → q ≡ words_of r.parts
      → sets.both d m' l' ≡ sets.set_of code ns n (take p m) r.did.count (take q l) → x ≡ with_did r d
      → both x (put_front p m m') (put_front q l l') ≡ change_of code n ns r m l
  unfolding change_of
  change_in_law code e f g h = rw (h, ← e, ← f, ← g)

pub ruleset laws = (begins, words_few, words_many, cap_first, cap_second, cap_taken, renew_in_law, change_in_law)
