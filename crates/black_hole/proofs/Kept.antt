-- Every event keeps a detector well formed: what `good` tests, as facts, holds of what each definition yields, the arguments being in their limits.
-- At most four bursts are kept, each above the minimum. Assumes nothing.
use mathlib.Core.Path.{◌≡◌, refl, ◌∙◌}
use mathlib.Core.Bool.{Bool, true, false, cond, ◌&&◌}
use mathlib.Core.Logic.{◌⊎◌, inl, inr, ⊎_elim}
use mathlib.Core.List.{List}
use Prim.Native.Nat.{ℕ, zero, suc, ◌+◌, ◌^◌, ◌≤◌, ◌<◌, min, max}
use native.Mathlib.Omega.{arith}
use lib.Dec.{eqb, ltb, leb}
use lib.ListN.{length, get_or, set, length-set}
use lib.Seq.{get_or-set_same, get_or-set_other}
use borrow.Author.Tests.{ltb-true, lt-ltb, le-ltb, le-leb, lt-leb}
use Rattle.answers.proofs.Tests.{fst, both, split}
use Rattle.black_hole.specs.declared.Bursts.{Bursts}
use Rattle.black_hole.specs.declared.BlackHoleDetector.{BlackHoleDetector}
use Rattle.black_hole.specs.declared.Detected.{Detected}
use Rattle.black_hole.specs.BlackHole.{none, pushed, passed, retained, retained_first, least_of, least_first, kept, begun, suspicious, suspected, dropped, finished, fresh, probe_acked, delivered, follows, grown, lost, cleared, detected, good_place, good_first, good_bursts, good}

-- ---- the bursts
pub record Kept (b : Bursts) (least : ℕ) : Type 0 where
  pub few : b.count ≤ 4
  pub four : length b.sizes ≡ 4
  pub above : (i : ℕ) → i < b.count → (least < get_or b.sizes i 0) × (get_or b.sizes i 0 ≤ 65527)

pub none_kept : (least : ℕ) → Kept none least
none_kept least = record { few = omega arith; four = refl; above = λ i h. absurd (omega arith) }

-- x put at place i, which is the next free one or one in use
put_kept : (b : Bursts) (least x i n : ℕ) → Kept b least → least < x → x ≤ 65527 → i < 4 → n ≤ 4 → ((j : ℕ) → j < n → (j ≡ i → ⊥) → j < b.count)
    → Kept (record { sizes = set b.sizes i x; count = n }) least
put_kept b least x i n k l h hi hn used =
    record {
      few = hn;
      four = length-set b.sizes i x ∙ k.four;
      above = λ j hj. by j hj (split j i) (split i j);
    }
  where
    other : (j : ℕ) → j < n → (j ≡ i → ⊥) → (least < get_or (set b.sizes i x) j 0) × (get_or (set b.sizes i x) j 0 ≤ 65527)
    other j hj d = rw (get_or-set_other b.sizes i j x 0 d) (k.above j (used j hj d))

    by : (j : ℕ) → j < n → (j < i) ⊎ (i ≤ j) → (i < j) ⊎ (j ≤ i) → (least < get_or (set b.sizes i x) j 0) × (get_or (set b.sizes i x) j 0 ≤ 65527)
    by j hj (inl a) c = other j hj (λ e. omega arith)
    by j hj (inr a) (inl c) = other j hj (λ e. omega arith)
    by j hj (inr a) (inr c) =
        let e : j ≡ i = omega arith in
        let w : i < length b.sizes = omega (arith, k.four) in
        rw (e, get_or-set_same b.sizes i x 0 w) (l, h)

pub push_kept : (b : Bursts) (least x : ℕ) → Kept b least → least < x → x ≤ 65527 → Kept (pushed b x) least
unfolding pushed
push_kept b least x k l h =
    ⊎_elim
    (λ c. rw (lt-ltb b.count 4 c) (put_kept b least x b.count (b.count + 1) k l h c (omega arith) (λ j hj d. omega arith)))
    (λ c. rw (le-ltb b.count 4 c) k)
    (split b.count 4)

pass_kept : (b : Bursts) (least len : ℕ) (on : Bursts) (i : ℕ) → Kept b least → Kept on least → Kept (passed b len on i) least
pass_kept b least len on i k o = by (ltb i b.count && ltb len (get_or b.sizes i 0)) refl
  where
    by : (t : Bool) → (ltb i b.count && ltb len (get_or b.sizes i 0)) ≡ t → Kept (cond t (pushed on (get_or b.sizes i 0)) on) least
    by false e = o
    by true e =
        let h : i < b.count = ltb-true _ _ (fst (ltb i b.count) (ltb len (get_or b.sizes i 0)) e) in
        push_kept on least (get_or b.sizes i 0) o (k.above i h).0 (k.above i h).1

retain_first_kept : (n : ℕ) (b : Bursts) (least len : ℕ) → Kept b least → Kept (retained_first n b len) least
unfolding retained_first
retain_first_kept zero b least len k = none_kept least
retain_first_kept (suc n) b least len k = pass_kept b least len (retained_first n b len) n k (retain_first_kept n b least len k)

pub retain_kept : (b : Bursts) (least len : ℕ) → Kept b least → Kept (retained b len) least
retain_kept b least len k = retain_first_kept 4 b least len k

one_of : (n a : ℕ) (b : Bool) → a < suc n → cond b (suc n) a < suc (suc n)
one_of n a true h = omega arith
one_of n a false h = omega arith

same_zero : (b : Bool) → cond {A = ℕ} b 0 0 < 1
same_zero true = omega arith
same_zero false = omega arith

-- the first place of the smallest of the first places is one of them
least_first_lt : (n : ℕ) (s : List ℕ) → least_first (suc n) s < suc n
unfolding least_first
least_first_lt zero s = same_zero (ltb (get_or s 0 0) (get_or s 0 0))
least_first_lt (suc n) s = one_of n (least_first (suc n) s) (ltb (get_or s (suc n) 0) (get_or s (least_first (suc n) s) 0)) (least_first_lt n s)

least_lt : (s : List ℕ) → least_of s < 4
least_lt s = least_first_lt 3 s

pub keep_kept : (b : Bursts) (least x : ℕ) → Kept b least → least < x → x ≤ 65527 → Kept (kept b x) least
unfolding kept
keep_kept b least x k l h =
    ⊎_elim
    (λ c. rw (lt-ltb b.count 4 c) (push_kept b least x k l h))
    (λ c.
    rw (le-ltb b.count 4 c)
    (⊎_elim
    (λ w. rw (lt-ltb (get_or b.sizes (least_of b.sizes) 0) x w) (put_kept b least x (least_of b.sizes) b.count k l h (least_lt b.sizes) k.few (λ j hj d. hj)))
    (λ w. rw (le-ltb (get_or b.sizes (least_of b.sizes) 0) x w) k)
    (split (get_or b.sizes (least_of b.sizes) 0) x)))
    (split b.count 4)

-- ---- the detector
pub record Sound (d : BlackHoleDetector) : Type 0 where
  pub low : 1200 ≤ d.minimum
  pub high : d.minimum ≤ 65527
  pub acked : d.acked ≤ 65527
  pub post : d.post < 2 ^ 62
  pub latest : d.current.latest < 2 ^ 62
  pub smallest : d.current.smallest ≤ 65527
  pub bursts : Kept d.bursts d.minimum

pub fresh_sound : (x : ℕ) → 1200 ≤ x → x ≤ 65527 → Sound (fresh x)
unfolding fresh
fresh_sound x l h = record { low = l; high = h; acked = h; post = omega arith; latest = omega arith; smallest = omega arith; bursts = none_kept x }

module _ (d : BlackHoleDetector) (k : Sound d) where
  pub probe_sound : (n x : ℕ) → n < 2 ^ 62 → x ≤ 65527 → Sound (probe_acked d n x)
  unfolding probe_acked
  probe_sound n x hn hx =
      record { low = k.low; high = k.high; acked = hx; post = hn; latest = k.latest; smallest = k.smallest; bursts = none_kept d.minimum }

  pub delivered_sound : (n x : ℕ) → n < 2 ^ 62 → x ≤ 65527 → Sound (delivered d n x)
  unfolding delivered
  delivered_sound n x hn hx =
      ⊎_elim (λ l. rw (lt-ltb x d.acked l) k) (λ l. rw (le-ltb x d.acked l) (by (eqb x d.acked))) (split x d.acked)
    where
      by : (b : Bool)
          → Sound
          (cond b (record { bursts = d.bursts; current = d.current; post = max d.post n; acked = d.acked; minimum = d.minimum })
          (record { bursts = retained d.bursts x; current = d.current; post = n; acked = x; minimum = d.minimum }))
      by true = record { low = k.low; high = k.high; acked = k.acked; post = omega (arith, k.post); latest = k.latest; smallest = k.smallest; bursts = k.bursts }
      by false = record { low = k.low; high = k.high; acked = hx; post = hn; latest = k.latest; smallest = k.smallest; bursts = retain_kept d.bursts d.minimum x k.bursts }

  suspected_sound : d.minimum < d.current.smallest → Sound (suspected d)
  unfolding suspected
  suspected_sound l =
      record {
        low = k.low;
        high = k.high;
        acked = pick (ltb d.post d.current.latest);
        post = k.post;
        latest = omega arith;
        smallest = omega arith;
        bursts = keep_kept d.bursts d.minimum d.current.smallest k.bursts l k.smallest;
      }
    where
      pick : (b : Bool) → cond b d.minimum d.acked ≤ 65527
      pick true = k.high
      pick false = k.acked

  -- a suspicious burst has no packet as small as the minimum
  suspicious_above : suspicious d ≡ true → d.minimum < d.current.smallest
  unfolding suspicious
  suspicious_above e = ltb-true _ _ (fst (ltb d.minimum d.current.smallest) _ e)

  pub finished_sound : Sound (finished d)
  unfolding finished
  finished_sound = by d.current.has (suspicious d) refl
    where
      by : (b c : Bool) → suspicious d ≡ c → Sound (cond b (cond c (suspected d) (dropped d)) d)
      by false c e = k
      by true true e = suspected_sound (suspicious_above e)
      by true false e = record { low = k.low; high = k.high; acked = k.acked; post = k.post; latest = omega arith; smallest = omega arith; bursts = k.bursts }

  finished_minimum : (finished d).minimum ≡ d.minimum
  unfolding finished suspected
  finished_minimum = by d.current.has (suspicious d)
    where
      by : (b c : Bool) → (cond b (cond c (suspected d) (dropped d)) d).minimum ≡ d.minimum
      by false c = refl
      by true true = refl
      by true false = refl

begun_sound : (d : BlackHoleDetector) (n x : ℕ) → Sound d → n < 2 ^ 62 → x ≤ 65527 → Sound (begun d n x)
begun_sound d n x k hn hx = record { low = k.low; high = k.high; acked = k.acked; post = k.post; latest = hn; smallest = hx; bursts = k.bursts }

pub lost_sound : (d : BlackHoleDetector) (n x : ℕ) → Sound d → n < 2 ^ 62 → x ≤ 65527 → Sound (lost d n x)
unfolding lost
lost_sound d n x k hn hx = by (follows d n)
  where
    by : (b : Bool) → Sound (cond b (grown d n x) (begun (finished d) n x))
    by true = begun_sound d n (min d.current.smallest x) k hn (omega arith)
    by false = begun_sound (finished d) n x (finished_sound d k) hn hx

pub detected_sound : (d : BlackHoleDetector) → Sound d → Sound (detected d).detector
unfolding detected
detected_sound d k = by (leb (finished d).bursts.count 3)
  where
    f : Sound (finished d)
    f = finished_sound d k

    by : (b : Bool) → Sound (cond {A = Detected} b (record { found = false; detector = finished d }) (record { found = true; detector = cleared (finished d) })).detector
    by true = f
    by false = record { low = f.low; high = f.high; acked = f.acked; post = f.post; latest = f.latest; smallest = f.smallest; bursts = none_kept (finished d).minimum }

-- ---- `good` tests these facts: of any detector whose array has its four places, it says yes exactly if it is sound
place_good : (b : Bursts) (least i : ℕ) → Kept b least → good_place b least i ≡ true
unfolding good_place
place_good b least i k =
    ⊎_elim
    (λ h. rw (lt-leb b.count i h, lt-ltb least (get_or b.sizes i 0) (k.above i h).0, le-leb (get_or b.sizes i 0) 65527 (k.above i h).1))
    (λ h. rw (le-leb b.count i h))
    (split i b.count)

first_good : (n : ℕ) (b : Bursts) (least : ℕ) → Kept b least → good_first n b least ≡ true
unfolding good_first
first_good zero b least k = le-leb _ _ k.few
first_good (suc n) b least k = both (first_good n b least k) (place_good b least n k)

pub sound_good : (d : BlackHoleDetector) → Sound d → good d ≡ true
unfolding good good_bursts
sound_good d k =
    both (both (le-leb _ _ k.low) (le-leb _ _ k.high))
    (both (both (le-leb _ _ k.acked) (lt-ltb _ _ k.post)) (both (both (lt-ltb _ _ k.latest) (le-leb _ _ k.smallest)) (first 4)))
  where
    first : (n : ℕ) → good_first n d.bursts d.minimum ≡ true
    first n = first_good n d.bursts d.minimum k.bursts
