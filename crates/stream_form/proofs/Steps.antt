-- What each step keeps of a record, and that it charges the rise of `end` and credits the rise of `read`. By the cases of each step.
-- Assumes nothing.
use mathlib.Core.Path.{◌≡◌, refl}
use mathlib.Core.Bool.{Bool, true, ◌&&◌, ◌||◌}
use Prim.Native.Nat.{ℕ, ◌+◌, ◌-◌, ◌/◌, ◌%◌, ◌^◌, ◌≤◌, ◌<◌, max}
use native.Mathlib.Omega.{arith}
use lib.Dec.{eqb, ltb, leb}
use borrow.Author.Tests.{ltb-false, eqb-true, eqb-false}
use Rattle.std.specs.Prelude.{Option, Some, None, Result, Ok, Err}
use Rattle.answers.specs.declared.Refusal.{Refusal}
use Rattle.stream_record.specs.declared.Stream.{Stream}
use Rattle.stream_record.specs.declared.Step.{Step}
use Rattle.stream_record.specs.Record.{with_rec, kept, took, cut, was_reset, halted, read_on, seen_by, new_limit, announced, sent_done}
use Rattle.stream_table.proofs.Tables.{by_cond, and_right}
use Rattle.stream_form.proofs.Facts.{or_case, or_left, or_right, Numbers}

-- what is said of the step that an event comes to; nothing where it comes to none
abbrev pub Of : (Step → Type 0) → Result (Option Step) Refusal → Type 0
Of P (Ok (Some p)) = P p
Of P (Ok None) = Unit {0}
Of P (Err why) = Unit {0}

-- ---- data: no step, or it is within the limits and is kept
pub took_by : (P : Step → Type 0) (s : Stream) (to : ℕ) (fin : Bool) (m : ℕ)
    → ((s.phase ≡ 0 → ⊥) → (s.phase ≡ 3 → ⊥) → to ≤ s.limit → P (kept s (max s.end to) fin)) → Of P (took s to fin m)
unfolding took
took_by P s to fin m take =
    by_cond (Of P) (eqb s.phase 0 || eqb s.phase 3) _ _ (λ _. tt) (λ d.
    by_cond (Of P) (leb (2 ^ 62) to) _ _ (λ _. tt) (λ _.
    by_cond (Of P) (eqb s.phase 2 && ltb s.end to) _ _ (λ _. tt) (λ _.
    by_cond (Of P) (fin && ltb to s.end) _ _ (λ _. tt) (λ _.
    by_cond (Of P) (ltb s.limit to) _ _ (λ _. tt) (λ l.
    by_cond (Of P) (ltb m (to - s.end)) _ _ (λ _. tt) (λ _.
    take (eqb-false s.phase 0 (or_left (eqb s.phase 0) _ d)) (eqb-false s.phase 3 (or_right (eqb s.phase 0) _ d)) (ltb-false s.limit to l)))))))

-- ---- a reset: no step, or it is within the limits and cuts the stream
pub reset_by : (P : Step → Type 0) (s : Stream) (final m : ℕ) → (s.end ≤ final → final ≤ s.limit → Of P (Ok (cut s final))) → Of P (was_reset s final m)
unfolding was_reset
reset_by P s final m take =
    by_cond (Of P) (eqb s.phase 0) _ _ (λ _. tt) (λ _.
    by_cond (Of P) (ltb final s.end || ((eqb s.phase 2 || eqb s.phase 3) && ltb s.end final)) _ _ (λ _. tt) (λ a.
    by_cond (Of P) (ltb s.limit final) _ _ (λ _. tt) (λ l.
    by_cond (Of P) (ltb m (final - s.end)) _ _ (λ _. tt) (λ _.
    take (ltb-false final s.end (or_left (ltb final s.end) _ a)) (ltb-false s.limit final l)))))

max_over : (a b : ℕ) → a ≤ max a b
max_over a b = omega arith

max_under : (a b m : ℕ) → a ≤ m → b ≤ m → max a b ≤ m
max_under a b m h k = omega arith

-- ---- each byte is charged once: what a step charges is the rise of the end, counted where the stream is closed too
abbrev pub Even : Stream → Step → Type 0
Even s p = p.stream.end + p.shut ≡ s.end + p.charge

kept_even : (s : Stream) (e : ℕ) (fin : Bool) → s.end ≤ e → Even s (kept s e fin)
unfolding kept
kept_even s e fin h =
    by_cond (Even s) (eqb s.phase 4) _ _
    (λ _. by_cond (Even s) fin _ _ (λ _. omega arith) (λ _. omega arith))
    (λ _. by_cond (Even s) fin _ _ (λ _. omega arith) (λ _. omega arith))

pub took_even : (s : Stream) (to : ℕ) (fin : Bool) (m : ℕ) → Of (Even s) (took s to fin m)
took_even s to fin m = took_by (Even s) s to fin m (λ _ _ _. kept_even s (max s.end to) fin (max_over s.end to))

cut_even : (s : Stream) (final : ℕ) → s.end ≤ final → Of (Even s) (Ok (cut s final))
unfolding cut
cut_even s final h =
    by_cond (λ (o : Option Step). Of (Even s) (Ok o)) (eqb s.phase 3) _ _ (λ _. tt) (λ _.
    by_cond (λ (o : Option Step). Of (Even s) (Ok o)) (eqb s.phase 4) _ _ (λ _. omega arith) (λ _. omega arith))

pub reset_even : (s : Stream) (final m : ℕ) → Of (Even s) (was_reset s final m)
reset_even s final m = reset_by (Even s) s final m (λ h _. cut_even s final h)

pub stop_even : (s : Stream) → Of (Even s) (halted s)
unfolding halted
stop_even s =
    by_cond (Of (Even s)) (eqb s.phase 0 || eqb s.phase 4) _ _ (λ _. tt) (λ _.
    by_cond (Of (Even s)) (eqb s.phase 1) _ _ (λ _. omega arith) (λ _.
    by_cond (Of (Even s)) (eqb s.phase 2) _ _ (λ _. omega arith) (λ _. omega arith)))

pub read_even : (s : Stream) (n : ℕ) → Of (Even s) (read_on s n)
unfolding read_on
read_even s n =
    by_cond (Of (Even s)) (eqb s.phase 0 || eqb s.phase 4) _ _ (λ _. tt) (λ _.
    by_cond (Of (Even s)) (ltb (s.end - s.read) n) _ _ (λ _. tt) (λ _. omega arith))

pub seen_even : (s : Stream) → Of (Even s) (seen_by s)
unfolding seen_by
seen_even s =
    by_cond (Of (Even s)) (eqb s.phase 0 || eqb s.phase 4) _ _ (λ _. tt) (λ _.
    by_cond (Of (Even s)) (eqb s.phase 3) _ _ (λ _. omega arith) (λ _.
    by_cond (Of (Even s)) (eqb s.phase 2 && eqb s.read s.end) _ _ (λ _. omega arith) (λ _. tt)))

-- ---- each byte is credited once: what a step credits is the rise of what was read, on a stream whose record is in order
abbrev pub Once : Stream → Step → Type 0
Once s p = p.stream.read + p.shut ≡ s.read + p.credit

module _ (s : Stream) (re : s.read ≤ s.end) (r3 : (s.phase ≡ 3 → s.read ≡ s.end)) (r4 : (s.phase ≡ 4 → s.read ≡ s.end)) where
  kept_once : (e : ℕ) (fin : Bool) → s.end ≤ e → Once s (kept s e fin)
  unfolding kept
  kept_once e fin h =
      by_cond (Once s) (eqb s.phase 4) _ _
      (λ p. let q = r4 (eqb-true s.phase 4 p) in by_cond (Once s) fin _ _ (λ _. omega arith) (λ _. omega arith))
      (λ _. by_cond (Once s) fin _ _ (λ _. omega arith) (λ _. omega arith))

  pub took_once : (to : ℕ) (fin : Bool) (m : ℕ) → Of (Once s) (took s to fin m)
  took_once to fin m = took_by (Once s) s to fin m (λ _ _ _. kept_once (max s.end to) fin (max_over s.end to))

  cut_once : (final : ℕ) → s.end ≤ final → Of (Once s) (Ok (cut s final))
  unfolding cut
  cut_once final h =
      by_cond (λ (o : Option Step). Of (Once s) (Ok o)) (eqb s.phase 3) _ _ (λ _. tt) (λ _.
      by_cond (λ (o : Option Step). Of (Once s) (Ok o)) (eqb s.phase 4) _ _ (λ _. omega arith) (λ _. omega arith))

  pub reset_once : (final m : ℕ) → Of (Once s) (was_reset s final m)
  reset_once final m = reset_by (Once s) s final m (λ h _. cut_once final h)

  pub stop_once : Of (Once s) (halted s)
  unfolding halted
  stop_once =
      by_cond (Of (Once s)) (eqb s.phase 0 || eqb s.phase 4) _ _ (λ _. tt) (λ _.
      by_cond (Of (Once s)) (eqb s.phase 1) _ _ (λ _. omega arith) (λ _.
      by_cond (Of (Once s)) (eqb s.phase 2) _ _ (λ _. omega arith) (λ _. omega arith)))

  pub read_once : (n : ℕ) → Of (Once s) (read_on s n)
  unfolding read_on
  read_once n =
      by_cond (Of (Once s)) (eqb s.phase 0 || eqb s.phase 4) _ _ (λ _. tt) (λ _.
      by_cond (Of (Once s)) (ltb (s.end - s.read) n) _ _ (λ _. tt) (λ _. omega arith))

  pub seen_once : Of (Once s) (seen_by s)
  unfolding seen_by
  seen_once =
      by_cond (Of (Once s)) (eqb s.phase 0 || eqb s.phase 4) _ _ (λ _. tt) (λ _.
      by_cond (Of (Once s)) (eqb s.phase 3) _ _ (λ p. omega (arith, r3 (eqb-true s.phase 3 p))) (λ _.
      by_cond (Of (Once s)) (eqb s.phase 2 && eqb s.read s.end) _ _ (λ a. omega (arith, eqb-true s.read s.end (and_right (eqb s.phase 2) _ a))) (λ _. tt)))

pub announce_even : (s : Stream) (w : ℕ) → Of (Even s) (announced s w)
unfolding announced
announce_even s w = by_cond (Of (Even s)) (eqb s.phase 1) _ _ (λ _. omega arith) (λ _. tt)

pub sent_even : (s : Stream) → Of (Even s) (sent_done s)
unfolding sent_done
sent_even s = by_cond (Of (Even s)) (eqb s.sending 1) _ _ (λ _. omega arith) (λ _. tt)

pub announce_once : (s : Stream) (w : ℕ) → Of (Once s) (announced s w)
unfolding announced
announce_once s w = by_cond (Of (Once s)) (eqb s.phase 1) _ _ (λ _. omega arith) (λ _. tt)

pub sent_once : (s : Stream) → Of (Once s) (sent_done s)
unfolding sent_done
sent_once s = by_cond (Of (Once s)) (eqb s.sending 1) _ _ (λ _. omega arith) (λ _. tt)

-- the same stream with other numbers
good_with : (s : Stream) (e r m p : ℕ) → Numbers s → r ≤ e → e ≤ m → m < 2 ^ 62 → p < 5 → (p ≡ 0 → m ≡ 0) → (3 ≤ p → r ≡ e) → Numbers (with_rec s e r m p)
good_with s e r m p g a b d f h k = record { idl = g.idl; re = a; el = b; lv = d; ph = f; se = g.se; p0 = h; p3 = k; un = g.un; cl = g.cl }

-- a step leaves a record in good form, of the same stream
abbrev pub Fit : Stream → Step → Type 0
Fit s p = (p.stream.id ≡ s.id) × Numbers p.stream

module _ (s : Stream) (g : Numbers s) where
  fit_closed : Numbers (with_rec s 0 0 0 0)
  fit_closed = good_with s 0 0 0 0 g (omega arith) (omega arith) (omega arith) (omega arith) (λ _. refl) (λ _. refl)

  fit_kept : (e : ℕ) (fin : Bool) → s.end ≤ e → e ≤ s.limit → (s.phase ≡ 0 → ⊥) → (s.phase ≡ 3 → ⊥) → Fit s (kept s e fin)
  unfolding kept
  fit_kept e fin h k n0 n3 =
      let lv : s.limit < 2 ^ 62 = g.lv in
      let ph : s.phase < 5 = g.ph in
      let re : s.read ≤ s.end = g.re in
      by_cond (Fit s) (eqb s.phase 4) _ _
      (λ _. by_cond (Fit s) fin _ _ (λ _. (refl, fit_closed)) (λ _. (refl, good_with s e e s.limit 4 g (omega arith) k lv (omega arith) (λ z. absurd (omega arith)) (λ _. refl))))
      (λ q. by_cond (Fit s) fin _ _
      (λ _. (refl, good_with s e s.read s.limit 2 g (omega arith) k lv (omega arith) (λ z. absurd (omega arith)) (λ z. absurd (omega arith))))
      (λ _. (refl, good_with s e s.read s.limit s.phase g (omega arith) k lv ph (λ z. absurd (n0 z)) (λ z. absurd (omega (arith, n3, eqb-false s.phase 4 q))))))

  pub took_fit : (to : ℕ) (fin : Bool) (m : ℕ) → Of (Fit s) (took s to fin m)
  took_fit to fin m = took_by (Fit s) s to fin m (λ z r l. fit_kept (max s.end to) fin (max_over s.end to) (max_under s.end to s.limit g.el l) z r)

  fit_cut : (final : ℕ) → final ≤ s.limit → Of (Fit s) (Ok (cut s final))
  unfolding cut
  fit_cut final l =
      by_cond (λ (o : Option Step). Of (Fit s) (Ok o)) (eqb s.phase 3) _ _ (λ _. tt) (λ _.
      by_cond (λ (o : Option Step). Of (Fit s) (Ok o)) (eqb s.phase 4) _ _ (λ _. (refl, fit_closed))
      (λ _. (refl, good_with s final final s.limit 3 g (omega arith) l g.lv (omega arith) (λ z. absurd (omega arith)) (λ _. refl))))

  pub reset_fit : (final m : ℕ) → Of (Fit s) (was_reset s final m)
  reset_fit final m = reset_by (Fit s) s final m (λ _ l. fit_cut final l)

  pub stop_fit : Of (Fit s) (halted s)
  unfolding halted
  stop_fit =
      by_cond (Of (Fit s)) (eqb s.phase 0 || eqb s.phase 4) _ _ (λ _. tt) (λ _.
      by_cond (Of (Fit s)) (eqb s.phase 1) _ _ (λ _. (refl, good_with s s.end s.end s.limit 4 g (omega arith) g.el g.lv (omega arith) (λ z. absurd (omega arith)) (λ _. refl))) (λ _.
      by_cond (Of (Fit s)) (eqb s.phase 2) _ _ (λ _. (refl, fit_closed)) (λ _. (refl, fit_closed))))

  pub read_fit : (n : ℕ) → Of (Fit s) (read_on s n)
  unfolding read_on
  read_fit n =
      by_cond (Of (Fit s)) (eqb s.phase 0 || eqb s.phase 4) _ _ (λ _. tt) (λ d.
      by_cond (Of (Fit s)) (ltb (s.end - s.read) n) _ _ (λ _. tt) (λ l.
      let h : n ≤ s.end - s.read = ltb-false (s.end - s.read) n l in
      let re : s.read ≤ s.end = g.re in
      (refl, good_with s s.end (s.read + n) s.limit s.phase g (omega arith) g.el g.lv g.ph g.p0 (λ z. omega (arith, g.p3 z)))))

  pub seen_fit : Of (Fit s) (seen_by s)
  unfolding seen_by
  seen_fit =
      by_cond (Of (Fit s)) (eqb s.phase 0 || eqb s.phase 4) _ _ (λ _. tt) (λ _.
      by_cond (Of (Fit s)) (eqb s.phase 3) _ _ (λ _. (refl, fit_closed)) (λ _.
      by_cond (Of (Fit s)) (eqb s.phase 2 && eqb s.read s.end) _ _ (λ _. (refl, fit_closed)) (λ _. tt)))

  pub announce_fit : (w : ℕ) → Of (Fit s) (announced s w)
  unfolding announced
  announce_fit w =
      let el : s.end ≤ s.limit = g.el in
      let lv : s.limit < 2 ^ 62 = g.lv in
      by_cond (Of (Fit s)) (eqb s.phase 1) _ _
      (λ _. (refl, good_with s s.end s.read (new_limit s w) 1 g g.re (omega arith) (omega arith) (omega arith) (λ z. absurd (omega arith)) (λ z. absurd (omega arith))))
      (λ _. tt)

  pub sent_fit : Of (Fit s) (sent_done s)
  unfolding sent_done
  sent_fit =
      by_cond (Of (Fit s)) (eqb s.sending 1) _ _
      (λ _. (refl, record { idl = g.idl; re = g.re; el = g.el; lv = g.lv; ph = g.ph; se = omega arith; p0 = g.p0; p3 = g.p3; un = or_case (eqb (s.id / 2 % 2) 0) true (λ _. refl); cl = g.cl }))
      (λ _. tt)
