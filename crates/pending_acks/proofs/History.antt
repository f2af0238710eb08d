-- After any calls of `insert_one` and `subtract_below` on a list that began empty: at most 64 ranges, well formed, with exactly the numbers that
-- were recorded and neither removed nor dropped since; so the sorted, shortest list of them. Each call does to the set what the range set's laws
-- say of `insert` and `remove`, and a drop takes the first range of a sound list. A history is made of what the functions' own contracts allow,
-- `insert_one_fn.Reads.Post` and `subtract_below_fn.Reads.Post`. Assumes nothing.
use mathlib.Core.Path.{◌≡◌, refl, sym, ap, subst}
use mathlib.Core.Bool.{true, false}
use mathlib.Core.Logic.{◌⊎◌, inl, inr, ⊎_elim}
use mathlib.Core.List.{List, [], ◌∷◌}
use Prim.Native.Nat.{ℕ, ◌+◌, ◌/◌, ◌^◌, ◌≤◌, ◌<◌}
use native.Mathlib.Omega.{arith}
use lib.ListN.{length}
use lib.Dec.{leb}
use contract.Lifetimes.{Lfts}
use denote.Ref.{MutBor, at_last}
use borrow.Author.Tests.{leb-true, leb-false, lt-ltb, le-leb}
use Prim.{Unit, tt}
use Rattle.std.specs.Prelude.{Result, Ok, Err, Some, None, IsOk}
use Rattle.answers.specs.declared.Refusal.{Refusal}
use Rattle.range_list.specs.Ranges.{Range, read, flat, over, sound, well_formed, In}
use Rattle.range_list.proofs.Sound.{by_bool, Sound, sound_parts, sound_weaker, formed}
use Rattle.range_list.proofs.Canon.{canonical, in_least}
use Rattle.range_list.proofs.Kept.{well_formed_is, read_over, formed_over}
use Rattle.range_list.proofs.Laws.{length_read}
use Rattle.range_edit.specs.Edits.{insert, covers, remove, Done}
use Rattle.range_edit.proofs.Insert.{insert_to, insert_from, insert_sound}
use Rattle.range_edit.proofs.Remove.{remove_to, remove_from_law, remove_sound}
use Rattle.pending_acks.specs.declared.Recorded.{Recorded}
use Rattle.range_edit.specs.declared.Changed.{Changed}
use Rattle.range_set.specs.declared.Span.{Span}
use Rattle.range_set.proofs.AtLimit.{insert_length}
use Rattle.range_edit.proofs.Changes.{covers_in, New, uncovered, clear, Common, met}
use Rattle.pending_acks.specs.Acks.{Left, drop_lowest, keep, insert_one, subtract_below}
use Rattle.pending_acks.specs.History.{Event, recorded, removed, dropped, Holds, Received, with_drop, after_insert, after_below, count_of_insert, count_of_below}
use Rattle.pending_acks.proofs.Sets.{remove_length, insert_cases, below_cases}
use Rattle.range_list.proofs.Shortest.{shortest}
use Rattle.pending_acks.proofs.insert_one as insert_one_fn
use Rattle.pending_acks.proofs.subtract_below as subtract_below_fn

-- a call on the lent list x, of n ranges, may answer r and leave m: the contracts as the source states them
abbrev pub Inserts : (κs : Lfts 1) (x : MutBor (List ℕ)) (n p : ℕ) (r : Result Recorded Refusal) (m : List ℕ) → Type 0
Inserts κs x n p r m = insert_one_fn.Reads.Post κs (x, (n, (p, tt))) r (at_last x m, (n, (p, tt)))

abbrev pub Subtracts : (κs : Lfts 1) (x : MutBor (List ℕ)) (n p : ℕ) (r : Result Changed Refusal) (m : List ℕ) → Type 0
Subtracts κs x n p r m = subtract_below_fn.Reads.Post κs (x, (n, (p, tt))) r (at_last x m, (n, (p, tt)))

-- the list l with n ranges is what the calls left, and h what happened
pub data Run : List Event → List ℕ → ℕ → Type 0 where
  start : (l : List ℕ) → Run [] l 0
  inserted : {h : List Event} {n : ℕ} (κs : Lfts 1) (x : MutBor (List ℕ)) (p : ℕ) (r : Result Recorded Refusal) (m : List ℕ)
      → Run h x.now n → Inserts κs x n p r m → Run (after_insert p r h) m (count_of_insert r n)
  subtracted : {h : List Event} {n : ℕ} (κs : Lfts 1) (x : MutBor (List ℕ)) (p : ℕ) (r : Result Changed Refusal) (m : List ℕ)
      → Run h x.now n → Subtracts κs x n p r m → Run (after_below p r h) m (count_of_below r n)

-- what holds after each call
pub record Kept (h : List Event) (l : List ℕ) (n : ℕ) : Type 0 where
  pub few : n ≤ 64
  pub formed : well_formed l n ≡ true
  pub to : (x : ℕ) → In x (read l 0 n) → Holds x h
  pub from : (x : ℕ) → Holds x h → In x (read l 0 n)

-- the ranges rs over l are a set that holds what h says
settled : (h : List Event) (rs : List Range) (l : List ℕ) → length rs ≤ 64 → length rs ≤ length l / 2 → sound 0 rs ≡ true
    → ((x : ℕ) → In x rs → Holds x h) → ((x : ℕ) → Holds x h → In x rs) → Kept h (over (flat rs) l) (length rs)
settled h rs l few room s to from =
    record {
      few = few;
      formed = formed_over rs l room s;
      to = λ x k. to x (subst (In x) (read_over rs l) k);
      from = λ x k. subst (In x) (sym (read_over rs l)) (from x k);
    }

-- the first range of a sound list is apart from the rest
module _ (r : Range) (rs : List Range) (s : sound 0 (r ∷ rs) ≡ true) where
  abbrev parts : Sound 0 r rs
  parts = sound_parts 0 r rs s

  rest_above : (x : ℕ) → In x rs → r.hi < x
  rest_above x k = omega (arith, in_least (r.hi + 1) x rs parts.rest k)

  rest_from : (x : ℕ) → In x (r ∷ rs) → (x < r.lo) ⊎ (r.hi ≤ x) → In x rs
  rest_from x (inl a) o = absurd (⊎_elim (λ b. omega arith) (λ b. omega arith) o)
  rest_from x (inr k) o = k

module _ (h : List Event) (l : List ℕ) (n p : ℕ) (w : Kept h l n) where
  abbrev AfterInsert : Left → Type 0
  AfterInsert d = Kept (after_insert p d.out h) d.mem (count_of_insert d.out n)

  abbrev AfterBelow : Done → Type 0
  AfterBelow d = Kept (after_below p d.out h) d.mem (count_of_below d.out n)

  is_sound : sound 0 (read l 0 n) ≡ true
  is_sound = (formed l n w.formed).sound

  -- the set with p in it
  abbrev with : List Range
  with = insert p (p + 1) (read l 0 n)

  with_to : (x : ℕ) → In x with → Holds x (recorded p ∷ h)
  with_to x k = ⊎_elim (λ j. inl (w.to x j)) (λ j. inr (omega arith)) (insert_to x p (p + 1) (read l 0 n) k)

  with_from : (x : ℕ) → Holds x (recorded p ∷ h) → In x with
  with_from x k = insert_from x p (p + 1) (read l 0 n) (⊎_elim (λ j. inl (w.from x j)) (λ j. inr (omega arith, omega arith)) k)

  with_sound : p < 2 ^ 62 → sound 0 with ≡ true
  with_sound k = insert_sound 0 p (p + 1) (read l 0 n) (omega arith) (omega arith) (omega arith) is_sound

  step_insert : AfterInsert (insert_one l n p)
  step_insert =
      insert_cases l n p AfterInsert w w
      (λ k u.
      record {
        few = w.few;
        formed = w.formed;
        to = λ x j. inl (w.to x j);
        from = λ x. ⊎_elim (λ j. w.from x j) (λ j. covers_in x p (p + 1) (read l 0 n) u (omega arith) (omega arith));
      })
      (λ g u few room. settled (recorded p ∷ h) with l few room (with_sound g.number) with_to with_from)
      (λ g u r rs e few room.
      let s : sound 0 (r ∷ rs) ≡ true = subst (λ (q : List Range). sound 0 q ≡ true) e (with_sound g.number) in
      settled (dropped r.lo r.hi ∷ recorded p ∷ h) rs l (omega arith) room
      (sound_weaker 0 (r.hi + 1) rs (omega arith) (parts r rs s).rest)
      (λ x j. (with_to x (subst (In x) (sym e) (inr j)), inr (omega (arith, rest_above r rs s x j))))
      (λ x j. rest_from r rs s x (subst (In x) e (with_from x j.0)) j.1))

  step_below : AfterBelow (subtract_below l n p)
  step_below =
      below_cases l n p AfterBelow w
      (λ v u.
      record {
        few = w.few;
        formed = w.formed;
        to = λ x j. (w.to x j, ⊎_elim (λ b. absurd (omega arith)) (λ b. omega arith) (clear x 0 (p + 1) (read l 0 n) u j));
        from = λ x j. w.from x j.0;
      })
      (λ v u.
      let rs = remove 0 (p + 1) (read l 0 n) in
      let g = remove_length (p + 1) (read l 0 n) in
      let z = length_read l 0 n in
      settled (removed p ∷ h) rs l (omega (arith, g, z, w.few)) (omega (arith, g, z, (formed l n w.formed).room))
      (remove_sound 0 0 (p + 1) (read l 0 n) (omega arith) is_sound)
      (λ x j.
      let t = remove_to x 0 (p + 1) (read l 0 n) (omega arith) j in
      (w.to x t.0, ⊎_elim (λ b. absurd (omega arith)) (λ b. omega arith) t.1))
      (λ x j. remove_from_law x 0 (p + 1) (read l 0 n) (w.from x j.0) (inr (omega arith))))

-- the theorem: after any calls, at most 64 ranges, well formed, with exactly the numbers recorded and neither removed nor dropped since
pub kept : {h : List Event} {l : List ℕ} {n : ℕ} → Run h l n → Kept h l n
kept (start l) = record { few = omega arith; formed = sym (well_formed_is l 0 true (omega arith) refl); to = λ x k. k; from = λ x k. k }
kept (inserted {h} {n} κs x p r m a b) = subst (AfterInsert h x.now n p (kept a)) (sym b) (step_insert h x.now n p (kept a))
kept (subtracted {h} {n} κs x p r m a b) = subst (AfterBelow h x.now n p (kept a)) (sym b) (step_below h x.now n p (kept a))

-- it is the only sorted list of these numbers with a number missing between neighbours
pub one_list : {h : List Event} {l : List ℕ} {n : ℕ} → Run h l n → (rs : List Range) → sound 0 rs ≡ true
    → ((x : ℕ) → In x rs → Holds x h) → ((x : ℕ) → Holds x h → In x rs) → rs ≡ read l 0 n
one_list {h} {l} {n} a rs s f g =
    canonical 0 0 rs (read l 0 n) s (formed l n (kept a).formed).sound (λ x k. (kept a).from x (f x k)) (λ x k. g x ((kept a).to x k))

-- and no list of ranges with these numbers is shorter, sorted or not
pub shortest_list : {h : List Event} {l : List ℕ} {n : ℕ} → Run h l n → (rs : List Range)
    → ((x : ℕ) → In x rs → Holds x h) → ((x : ℕ) → Holds x h → In x rs) → n ≤ length rs
shortest_list {h} {l} {n} a rs f g =
    omega (
      arith,
      length_read l 0 n,
      shortest 0 (read l 0 n) rs (formed l n (kept a).formed).sound (λ x k. g x ((kept a).to x k)) (λ x k. (kept a).from x (f x k)),
    )

-- what is held was recorded
held_received : (x : ℕ) (h : List Event) → Holds x h → Received x h
held_received x [] k = k
held_received x (recorded n ∷ h) k = ⊎_elim (λ j. inl (held_received x h j)) (λ j. inr j) k
held_received x (removed m ∷ h) k = held_received x h k.0
held_received x (dropped s e ∷ h) k = held_received x h k.0

-- nothing is ever acknowledged that was not recorded
pub only_received : {h : List Event} {l : List ℕ} {n : ℕ} → Run h l n → (x : ℕ) → In x (read l 0 n) → Received x h
only_received {h} a x k = held_received x h ((kept a).to x k)

-- what is recorded is acknowledged, unless it is dropped at once
pub recorded_is_held : {h : List Event} {n : ℕ} (κs : Lfts 1) (x : MutBor (List ℕ)) (p : ℕ) (r : Recorded) (m : List ℕ)
    → Run h x.now n → Inserts κs x n p (Ok r) m → r.dropped ≡ None → In p (read m 0 r.count)
recorded_is_held {h} {n} κs x p r m a b d =
    let k : Kept (after_insert p (Ok r) h) m r.count = kept (inserted κs x p (Ok r) m a b) in
    let j : Kept (recorded p ∷ h) m r.count = subst (λ o. Kept (with_drop o (recorded p ∷ h)) m r.count) d k in
    j.from p (inr refl)

-- ---- what the values say

-- what is told of a recorded number p, in terms of the numbers held before
pub record Told (h : List Event) (p : ℕ) (r : Recorded) : Type 0 where
  -- `new` says whether p was not held
  pub new : r.new ≡ true → Holds p h → ⊥
  pub old : r.new ≡ false → Holds p h
  -- a drop takes numbers that were held, p among them perhaps, and they are the lowest; 64 ranges are left
  pub took : (d : Span) → r.dropped ≡ Some d → (x : ℕ) → d.start ≤ x → x < d.end → Holds x (recorded p ∷ h)
  pub low : (d : Span) → r.dropped ≡ Some d → (x : ℕ) → Holds x (dropped d.start d.end ∷ recorded p ∷ h) → d.end < x
  pub many : (d : Span) → r.dropped ≡ Some d → r.count ≡ 64

-- the same of a call's result: a refusal tells nothing
abbrev ToldOf : List Event → ℕ → Result Recorded Refusal → Type 0
ToldOf h p (Ok r) = Told h p r
ToldOf h p (Err why) = Unit {0}

never : false ≡ true → ⊥
never e = let z : ◌≡◌ {A = ℕ} 0 1 = cc in omega arith

module _ (h : List Event) (l : List ℕ) (n p : ℕ) (w : Kept h l n) where
  unheld : covers p (p + 1) (read l 0 n) ≡ false → Holds p h → ⊥
  unheld u k =
      let v : New p (p + 1) (read l 0 n) = uncovered 0 p (p + 1) (read l 0 n) (omega arith) (formed l n w.formed).sound u in
      let e : p ≡ v.number = omega (arith, v.from, v.upto) in
      v.new (subst (λ (x : ℕ). In x (read l 0 n)) e (w.from p k))

  tells : ToldOf h p (insert_one l n p).out
  tells =
      insert_cases l n p (λ d. ToldOf h p d.out) tt tt
      (λ k u.
      record {
        new = λ f. absurd (never f);
        old = λ f. w.to p (covers_in p p (p + 1) (read l 0 n) u (omega arith) (omega arith));
        took = λ d e. absurd (cc);
        low = λ d e. absurd (cc);
        many = λ d e. absurd (cc);
      })
      (λ k u few room.
      record { new = λ f. unheld u; old = λ f. absurd (never (sym f)); took = λ d e. absurd (cc); low = λ d e. absurd (cc); many = λ d e. absurd (cc) })
      (λ v u r rs e few room.
      let s : sound 0 (r ∷ rs) ≡ true = subst (λ (q : List Range). sound 0 q ≡ true) e (with_sound h l n p w v.number) in
      record {
        new = λ g. unheld u;
        old = λ g. absurd (never (sym g));
        took = λ d f x a b.
            let z : record { start = r.lo; end = r.hi } ≡ d = cc in
            with_to h l n p w x (subst (In x) (sym e) (inl (omega (arith, ap (λ (q : Span). q.start) z), omega (arith, ap (λ (q : Span). q.end) z))));
        low = λ d f x j.
            let z : d ≡ record { start = r.lo; end = r.hi } = cc in
            let k : Holds x (dropped r.lo r.hi ∷ recorded p ∷ h) = subst (λ (q : Span). Holds x (dropped q.start q.end ∷ recorded p ∷ h)) z j in
            omega (arith, ap (λ (q : Span). q.end) z, rest_above r rs s x (rest_from r rs s x (subst (In x) e (with_from h l n p w x k.0)) k.1));
        many = λ d f. few;
      })

-- with 64 places the set always fits
module _ (l : List ℕ) (room : 64 ≤ length l / 2) where
  drop_fits : (qs : List Range) → length qs ≤ 65 → 64 < length qs → IsOk (drop_lowest qs l).out
  drop_fits [] e f = absurd (omega arith)
  drop_fits (r ∷ rs) e f = rw (le-leb (length rs) (length l / 2) (omega arith))

  keep_fits : (qs : List Range) → length qs ≤ 65 → IsOk (keep qs l).out
  keep_fits qs e =
      by_bool (leb (length qs) 64)
      (λ t. rw (t, le-leb (length qs) (length l / 2) (omega (arith, leb-true (length qs) 64 t))))
      (λ t. rw t (drop_fits qs e (leb-false (length qs) 64 t)))

  takes : (h : List Event) (n p : ℕ) → Kept h l n → p < 2 ^ 62 → IsOk (insert_one l n p).out
  unfolding insert_one
  takes h n p w k =
      let e : length (insert p (p + 1) (read l 0 n)) ≤ 65 = omega (arith, insert_length p (p + 1) (read l 0 n), length_read l 0 n, w.few) in
      rw (lt-ltb p (2 ^ 62) k, le-leb n 64 w.few, w.formed)
      (by_bool (covers p (p + 1) (read l 0 n)) (λ u. rw u) (λ u. rw u (keep_fits (insert p (p + 1) (read l 0 n)) e)))

-- what `insert_one` says is so
pub insert_told : {h : List Event} {n : ℕ} (κs : Lfts 1) (x : MutBor (List ℕ)) (p : ℕ) (r : Recorded) (m : List ℕ)
    → Run h x.now n → Inserts κs x n p (Ok r) m → Told h p r
insert_told {h} {n} κs x p r m a b = subst (λ (d : Left). ToldOf h p d.out) (sym b) (tells h x.now n p (kept a))

-- 64 places suffice: then every packet number is taken
pub places_suffice : {h : List Event} {n : ℕ} (κs : Lfts 1) (x : MutBor (List ℕ)) (p : ℕ) (r : Result Recorded Refusal) (m : List ℕ)
    → Run h x.now n → Inserts κs x n p r m → 64 ≤ length x.now / 2 → p < 2 ^ 62 → IsOk r
places_suffice {h} {n} κs x p r m a b g k = subst (λ (d : Left). IsOk d.out) (sym b) (takes x.now g h n p (kept a) k)

-- what is told of a removal up to p: `changed` says whether a number up to p was held
pub record Went (h : List Event) (p : ℕ) (r : Changed) : Type 0 where
  pub none : r.changed ≡ false → (x : ℕ) → Holds x h → p < x
  pub some : r.changed ≡ true → ((x : ℕ) → Holds x h → p < x) → ⊥

abbrev WentOf : List Event → ℕ → Result Changed Refusal → Type 0
WentOf h p (Ok r) = Went h p r
WentOf h p (Err why) = Unit {0}

goes : (h : List Event) (l : List ℕ) (n p : ℕ) → Kept h l n → WentOf h p (subtract_below l n p).out
goes h l n p w =
    below_cases l n p (λ d. WentOf h p d.out) tt
    (λ v u.
    record {
      none = λ f x k. ⊎_elim (λ b. absurd (omega arith)) (λ b. omega arith) (clear x 0 (p + 1) (read l 0 n) u (w.from x k));
      some = λ f. absurd (never f);
    })
    (λ v u.
    record {
      none = λ f. absurd (never (sym f));
      some = λ f g.
          let c : Common 0 (p + 1) (read l 0 n) = met 0 0 (p + 1) (read l 0 n) (omega arith) (formed l n w.formed).sound u in
          omega (arith, c.upto, g c.number (w.to c.number c.held));
    })

pub below_went : {h : List Event} {n : ℕ} (κs : Lfts 1) (x : MutBor (List ℕ)) (p : ℕ) (r : Changed) (m : List ℕ)
    → Run h x.now n → Subtracts κs x n p (Ok r) m → Went h p r
below_went {h} {n} κs x p r m a b = subst (λ (d : Done). WentOf h p d.out) (sym b) (goes h x.now n p (kept a))
