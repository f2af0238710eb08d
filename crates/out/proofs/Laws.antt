-- The ways that a text can go: it had room, or it had none, and then what was gathered was written out first. Assumes nothing.
use mathlib.Core.Path.{◌≡◌, refl, sym, ap, ◌∙◌}
use mathlib.Core.List.{List}
use mathlib.Core.Bool.{Bool, true, false, cond}
use mathlib.Core.Logic.{inl, inr}
use Prim.Native.Nat.{ℕ, ◌+◌, ◌≤◌}
use native.Mathlib.Omega.{arith}
use lib.ListN.{length}
use lib.Seq.{sets}
use lib.Dec.{leb}
use borrow.Author.Tests.{lt-leb}
use Rattle.std.specs.Prelude.{Result, Ok, Err}
use Rattle.std.specs.Result.{IsOk, IsErr}
use Rattle.answers.specs.declared.Refusal.{Refusal}
use Rattle.answers.specs.declared.Refusal.TheVariants.{Room as NoRoom}
use Rattle.print.specs.Print.{put_at, done}
use Rattle.out.specs.Went.{Room, Went, Later, FAILED, Written, Flushed}
use Rattle.out.specs.Went.Later.{failed, start, long}

same_if : (b : Bool) (buf m : List ℕ) (n : ℕ) → IsErr (cond b (done (Ok n) m) (done (Err NoRoom) buf)).out
    → (cond b (done (Ok n) m) (done (Err NoRoom) buf)).mem ≡ buf
same_if true buf m n f = absurd (let z : ◌≡◌ {A = Bool} false true = f in cc)
same_if false buf m n f = refl

-- a text that has no room leaves the buffer as it was
no_room : (buf : List ℕ) (at : ℕ) (s : List ℕ) → IsErr (put_at buf at s).out → (put_at buf at s).mem ≡ buf
unfolding put_at
no_room buf at s f = same_if (leb (at + length s) (length buf)) buf (sets buf at s) (at + length s) f

-- there is no room past the buffer
past : (buf : List ℕ) (s : List ℕ) → length buf ≡ 65536 → IsErr (put_at buf FAILED s).out
unfolding put_at
past buf s h = rw (lt-leb (FAILED + length s) (length buf) (omega arith)) refl

never : (r : Result ℕ Refusal) → IsErr r → IsOk r → ⊥
never (Ok n) e f = let z : ◌≡◌ {A = Bool} false true = e in cc
never (Err y) e f = let z : ◌≡◌ {A = Bool} false true = f in cc

-- what a try gave, as the definition has it
module _ (buf : List ℕ) (at : ℕ) (s : List ℕ) {m : List ℕ} where
  pub went_in : {n : ℕ} → done (Ok n) m ≡ put_at buf at s → Went buf at s m n
  went_in {n} e =
      record {
        room = record { place = λ _. sym (ap (λ d. d.out) e); bytes = λ _. ap (λ d. d.mem) e };
        later = λ f _. absurd (never _ f (rw (← e) refl));
      }

  module _ {why : Refusal} (e : done (Err why) m ≡ put_at buf at s) where
    no : IsErr (put_at buf at s).out
    no = rw (← e) refl

    pub room_out : (buf' : List ℕ) (at' : ℕ) → Room buf at s buf' at'
    room_out buf' at' = record { place = λ h. absurd (never _ no h); bytes = λ h. absurd (never _ no h) }

    went_out : (buf' : List ℕ) (at' : ℕ) → (at ≤ 65536 → Later buf s buf' at') → Went buf at s buf' at'
    went_out buf' at' l = record { room = room_out buf' at'; later = λ _ h. l h }

    -- what the flush is given is what was there
    was : m ≡ buf
    was = ap (λ d. d.mem) e ∙ no_room buf at s no

pub room_in : (buf : List ℕ) (at : ℕ) (s : List ℕ) {m : List ℕ} {n : ℕ} → done (Ok n) m ≡ put_at buf at s → Room buf at s m n
room_in buf at s e = (went_in buf at s e).room

-- a second try, after what was gathered was written out to the place at₁
second_in : (buf s : List ℕ) (at₁ n : ℕ) (m : List ℕ) → length buf ≡ 65536 → Written at₁ → done (Ok n) m ≡ put_at buf at₁ s → Later buf s m n
second_in buf s at₁ n m l (inl z) e = let g : done (Ok n) m ≡ put_at buf 0 s = e ∙ ap (λ k. put_at buf k s) z in start (sym (ap (λ d. d.out) g)) (ap (λ d. d.mem) g)
second_in buf s at₁ n m l (inr z) e =
    let g : done (Ok n) m ≡ put_at buf FAILED s = e ∙ ap (λ k. put_at buf k s) z in
    absurd (never _ (past buf s l) (rw (← g) refl))

module _ (buf s : List ℕ) (at₁ : ℕ) {why : Refusal} {m : List ℕ} (e : done (Err why) m ≡ put_at buf at₁ s) where
  second_out : at₁ ≡ FAILED → Later buf s m at₁
  second_out z = failed z (was buf at₁ s e)

  second_none : Written at₁ → Later buf s m at₁
  second_none (inl z) = long (no buf 0 s (e ∙ ap (λ k. put_at buf k s) z)) (inl z) (was buf at₁ s e)
  second_none (inr z) = failed z (was buf at₁ s e)

  second_long : (at₂ : ℕ) → Written at₁ → (at₁ ≡ FAILED → ⊥) → Written at₂ → Later buf s m at₂
  second_long at₂ (inl z) k w = long (no buf 0 s (e ∙ ap (λ k. put_at buf k s) z)) w (was buf at₁ s e)
  second_long at₂ (inr z) k w = absurd (k z)

module _ (buf : List ℕ) (at : ℕ) (s : List ℕ) {why : Refusal} {m m₁ : List ℕ} {at₁ : ℕ} {r : Result ℕ Refusal} {m₂ : List ℕ} (e : done (Err why) m ≡ put_at buf at s)
    (g : Flushed m at m₁ at₁) (e₂ : done r m₂ ≡ put_at m₁ at₁ s) where
  again : done r m₂ ≡ put_at buf at₁ s
  again = e₂ ∙ ap (λ l. put_at l at₁ s) (g.bytes ∙ was buf at s e)

module _ (buf : List ℕ) (at : ℕ) (s : List ℕ) {why : Refusal} {m m₁ : List ℕ} {at₁ : ℕ} {m₂ : List ℕ} (e : done (Err why) m ≡ put_at buf at s)
    (g : Flushed m at m₁ at₁) where
  pub later_in : {n : ℕ} → length m₁ ≡ 65536 → done (Ok n) m₂ ≡ put_at m₁ at₁ s → Went buf at s m₂ n
  later_in {n} l e₂ = went_out buf at s e m₂ n (λ k. second_in buf s at₁ n m₂ (ap length (sym (g.bytes ∙ was buf at s e)) ∙ l) (g.place k) (again buf at s e g e₂))

  pub later_out : {no : Refusal} → done (Err no) m₂ ≡ put_at m₁ at₁ s → at₁ ≡ FAILED → Went buf at s m₂ at₁
  later_out e₂ z = went_out buf at s e m₂ at₁ (λ k. second_out buf s at₁ (again buf at s e g e₂) z)

  -- no room for it either way, and no third try
  pub later_none : {no : Refusal} → done (Err no) m₂ ≡ put_at m₁ at₁ s → Went buf at s m₂ at₁
  later_none e₂ = went_out buf at s e m₂ at₁ (λ k. second_none buf s at₁ (again buf at s e g e₂) (g.place k))

  pub later_long : {no : Refusal} {at₂ : ℕ} → done (Err no) m₂ ≡ put_at m₁ at₁ s → (at₁ ≡ FAILED → ⊥) → Written at₂ → Went buf at s m₂ at₂
  later_long {at₂ = at₂} e₂ n w = went_out buf at s e m₂ at₂ (λ k. second_long buf s at₁ (again buf at s e g e₂) at₂ (g.place k) n w)
