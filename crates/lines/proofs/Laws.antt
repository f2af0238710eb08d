-- One law for each arm, and for what a read leaves: its premises are the tests of the code and what the calls before it promise. Assumes nothing.
use mathlib.Core.Path.{◌≡◌, refl, sym, ap, ◌∙◌}
use mathlib.Core.List.{List, ◌++◌}
use mathlib.Core.Bool.{Bool, true, false, cond, not}
use mathlib.Core.Logic.{inl, inr, ⊎_elim}
use Prim.Native.Nat.{ℕ, zero, suc, ◌+◌, ◌-◌, ◌≤◌, ◌<◌}
use native.Mathlib.Omega.{arith}
use native.Mathlib.Nat.{zero-add, add-zero, le_refl, le-add_right}
use native.Mathlib.Numerals.{add-one}
use lib.ListN.{length, take, drop, get_or, length-drop}
use lib.Seq.{paste, take_at, drop-cons, length-take-le}
use lib.Dec.{ltb}
use borrow.Author.Tests.{lt-ltb, le-ltb, eq-eqb, ne_eqb}
use Rattle.std.specs.Prelude.{◌==◌, position, slice_range, Option, Some, None}
use Rattle.std.specs.List.{position_or_len}
use Rattle.std.proofs.lemmas.List.Sums.{prefix_len-le-length}
use Rattle.answers.proofs.Tests.{split}
use Rattle.lines.specs.declared.Feed.{Feed}
use Rattle.lines.specs.declared.Kind.TheVariants.{More, Failed}
use Rattle.lines.specs.Lines.{Next, Read, fitted, part, line_of, end_from, found_of, long_of, none_of, last_of, kept, line_end, settles, settled}

-- ---- the end of a line

turn : (b : Bool) (i e n : ℕ) → e ≡ suc i + n → cond b i e ≡ i + cond (not b) (1 + n) 0
turn true i e n h = sym (add-zero i)
turn false i e n h = omega arith

-- the first line end of k bytes, by its place among them
end_at : (k : ℕ) (s : List ℕ) (i : ℕ) → i + k ≤ length s → end_from k s i ≡ i + position_or_len (λ b. b == 10) (take k (drop i s))
unfolding end_from
end_at zero s i h = sym (add-zero i)
end_at (suc k) s i h = rw (add-one, drop-cons s i 0 (omega arith)) (turn (get_or s i 0 == 10) i _ _ (rw add-one at (end_at k s (i + 1) (omega arith))))

found_at : (l m n : ℕ) → ◌≡◌ {A = Option ℕ} (cond (ltb l m) (Some l) None) (Some n) → l ≡ n
found_at l m n h =
    ⊎_elim
    (λ a. let e : ◌≡◌ {A = Option ℕ} (Some l) (Some n) = rw (lt-ltb l m a) at h in cc)
    (λ a. let e : ◌≡◌ {A = Option ℕ} None (Some n) = rw (le-ltb l m a) at h in cc)
    (split l m)

none_at : (l m : ℕ) → ◌≡◌ {A = Option ℕ} (cond (ltb l m) (Some l) None) None → m ≤ l
none_at l m h =
    ⊎_elim
    (λ a. let e : ◌≡◌ {A = Option ℕ} (Some l) None = rw (lt-ltb l m a) at h in cc)
    (λ a. a)
    (split l m)

module _ (s : List ℕ) (from to : ℕ) (h : from ≤ to) (k : to ≤ length s) where
  pub end_some : (n : ℕ) → Some n ≡ position (λ b. b == 10) (slice_range s from to) → from + n ≡ end_from (to - from) s from
  end_some n e =
      let p : position_or_len (λ b. b == 10) (take (to - from) (drop from s)) ≡ n = found_at _ _ n (sym e) in
      let q : end_from (to - from) s from ≡ from + position_or_len (λ b. b == 10) (take (to - from) (drop from s)) = end_at (to - from) s from (omega arith) in
      omega arith

  pub end_none : None ≡ position (λ b. b == 10) (slice_range s from to) → to ≡ end_from (to - from) s from
  end_none e =
      let d = length-drop from s in
      let l : length (take (to - from) (drop from s)) ≡ to - from = length-take-le (to - from) (drop from s) (omega arith) in
      let p : length (take (to - from) (drop from s)) ≤ position_or_len (λ b. b == 10) (take (to - from) (drop from s)) = none_at _ _ (sym e) in
      let m = prefix_len-le-length (λ b. not (b == 10)) (take (to - from) (drop from s)) in
      let q : end_from (to - from) s from ≡ from + position_or_len (λ b. b == 10) (take (to - from) (drop from s)) = end_at (to - from) s from (omega arith) in
      omega arith

pub line_is : (f : Feed) (s : List ℕ) {g : Feed} {t : List ℕ} → g ≡ fitted f → t ≡ part s g.start g.end → t ≡ line_of f s
unfolding line_of
line_is f s e h = rw (← e) h

-- ---- a read

-- what was held stands at the start, also after a read behind it
still : (s : List ℕ) (f : Feed) (t : List ℕ) {s₁ : List ℕ} → f.from ≤ f.to → f.to ≤ 65536 → length s ≡ 65536 → s₁ ≡ paste s 0 (drop f.from s) (f.to - f.from)
    → take (kept f) (take (kept f) s₁ ++ t) ≡ part s f.from f.to
still s f t o w k e =
    let d = length-drop f.from s in
    let n : length (take (kept f) (drop f.from s)) ≡ kept f = length-take-le (kept f) (drop f.from s) (omega arith) in
    let m : paste s 0 (drop f.from s) (f.to - f.from) ≡ take (kept f) (drop f.from s) ++ drop (kept f) s = simp zero-add in
    rw (e, m, take_at (take (kept f) (drop f.from s)) (drop (kept f) s) (kept f) n) (take_at (take (kept f) (drop f.from s)) t (kept f) n)

module _ (s : List ℕ) (f : Feed) (t : List ℕ) {s₁ : List ℕ} (o : f.from ≤ f.to) (w : f.to ≤ 65536) (k : length s ≡ 65536)
    (e : s₁ ≡ paste s 0 (drop f.from s) (f.to - f.from)) where
  pub read_failed : {r : Feed} → r ≡ none_of f Failed (f.to - f.from) true → Read s f (take (f.to - f.from) s₁ ++ t) r
  read_failed q = rw q (record { kind = inr refl; rest = refl; more = le_refl _; held = still s f t o w k e; none = λ _. refl; fail = λ _. refl })

  pub read_none : {r : Feed} → r ≡ none_of f More (f.to - f.from) true → Read s f (take (f.to - f.from) s₁ ++ t) r
  read_none q = rw q (record { kind = inl refl; rest = refl; more = le_refl _; held = still s f t o w k e; none = λ _. refl; fail = λ _. refl })

  pub read_some : (n : ℕ) {r : Feed} → (n ≡ 0 → ⊥) → r ≡ none_of f More (f.to - f.from + n) false → Read s f (take (f.to - f.from) s₁ ++ t) r
  read_some n z q =
      rw q (record { kind = inl refl; rest = refl; more = le-add_right _ n; held = still s f t o w k e; none = λ h. absurd (z (omega arith)); fail = λ h. cc })

pub ruleset reads = (read_failed, read_none, read_some)

-- ---- the next line

settled_next : (s : List ℕ) (f r : Feed) → settles s f ≡ true → r ≡ settled s f → Next s f s r
settled_next s f r e g = record { feed = λ _. g; same = λ _. refl; read = λ h. absurd (let z : ◌≡◌ {A = Bool} true false = sym e ∙ h in let y : ◌≡◌ {A = ℕ} 0 1 = cc in omega arith) }

-- with no line end in what is held, an input that goes on and room behind it
module _ (s : List ℕ) (f : Feed) (g : f.to ≡ line_end s f) (d : f.ended ≡ false) (k : kept f ≡ 65536 → ⊥) where
  unsettled : settles s f ≡ false
  unfolding settles
  unsettled = rw (← g, le-ltb f.to f.to (le_refl f.to), d, ne_eqb (kept f) 65536 k)

  never_settles : settles s f ≡ true → ⊥
  never_settles w = let z : ◌≡◌ {A = Bool} true false = sym w ∙ unsettled in cc

  -- where a source is read, what is held does not say what comes next
  pub unread : {R : Type 0} {x y : R} → settles s f ≡ true → x ≡ y
  unread w = absurd (never_settles w)

  pub next_read : {r : Feed} {s' : List ℕ} → Read s f s' r → Next s f s' r
  next_read q = record { feed = λ w. absurd (never_settles w); same = λ w. absurd (never_settles w); read = λ _. q }

module _ (s : List ℕ) (f : Feed) {r : Feed} where
  at_end : {e : ℕ} → e ≡ line_end s f → e < f.to → r ≡ found_of f e (e + 1) → Next s f s r
  unfolding settles settled
  at_end {e} g h q =
      let t = lt-ltb e f.to h in
      settled_next s f r (rw (← g, t)) (rw (← g, t) q)

  pub next_found : (n : ℕ) → f.from ≤ f.to → f.to ≤ length s → Some n ≡ position (λ b. b == 10) (slice_range s f.from f.to) → n < f.to - f.from
      → r ≡ found_of f (f.from + n) (f.from + n + 1) → Next s f s r
  next_found n o k e h q = at_end (end_some s f.from f.to o k n e) (omega arith) q

  pub next_last : f.to ≡ line_end s f → f.ended ≡ true → r ≡ last_of f → Next s f s r
  unfolding settles settled
  next_last g d q =
      let t = le-ltb f.to f.to (le_refl f.to) in
      settled_next s f r (rw (← g, t, d)) (rw (← g, t) (q ∙ ap (λ b. cond b (last_of f) (long_of f)) (sym d)))

  pub next_long : f.to ≡ line_end s f → f.ended ≡ false → kept f ≡ 65536 → r ≡ long_of f → Next s f s r
  unfolding settles settled
  next_long g d k q =
      let t = le-ltb f.to f.to (le_refl f.to) in
      settled_next s f r (rw (← g, t, d, eq-eqb (kept f) 65536 k)) (rw (← g, t) (q ∙ ap (λ b. cond b (last_of f) (long_of f)) (sym d)))

module _ (s : List ℕ) (f : Feed) {g : Feed} (e : g ≡ fitted f) where
  pub next_fitted : {r : Feed} {s' : List ℕ} → Next s g s' r → Next s (fitted f) s' r
  next_fitted q = rw (← e) q

  pub unread_fitted : {R : Type 0} {x y : R} → (settles s g ≡ true → x ≡ y) → settles s (fitted f) ≡ true → x ≡ y
  unread_fitted {x = x} {y = y} q = rw (← e) q

pub ruleset nexts = (end_none, next_found, next_last, next_long, next_read)
