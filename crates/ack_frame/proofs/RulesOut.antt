-- What the contract itself rules out, whatever the code: a reader that always refuses, and one that writes half a list before it finds a fault. Any
-- outcome that meets it on 01's frame has these values and this list, and on a frame whose last pair is below zero leaves the list as it was.
use mathlib.Core.Path.{◌≡◌, ap, ◌∙◌}
use mathlib.Core.List.{List, [], ◌∷◌}
use Prim.Native.Nat.{ℕ}
use contract.Lifetimes.{Lfts}
use denote.Ref.{Bor, MutBor, at_last}
use Rattle.std.specs.Prelude.{Result, Ok, Err}
use Rattle.answers.specs.declared.Refusal.{Refusal}
use Rattle.answers.specs.declared.Refusal.TheVariants.{Malformed}
use Rattle.varint.specs.Varint.{read_varint, width, size_of, log_of}
use Rattle.ack_frame.specs.declared.Ack.{Ack}
use Rattle.ack_frame.specs.Read.{int_at, kind_at, step_at, walk_of, below, fields_at, head_of, done, accepted, read_ack}
use Rattle.ack_frame.proofs.read as read
use Rattle.ack_frame.proofs.Examples.{frame, list}

-- what `read` may answer of the frame f, and leave in the list l
abbrev Outcome : Lfts 2 → Bor (List ℕ) → MutBor (List ℕ) → Result Ack Refusal → List ℕ → Type 0
Outcome κs f l r m = read.Reads.Post κs (f, (l, tt)) r (f, (at_last l m, tt))

module _ (κs : Lfts 2) (f : Bor (List ℕ)) (l : MutBor (List ℕ)) (r : Result Ack Refusal) (m : List ℕ) (e : l.now ≡ list) (p : Outcome κs f l r m) where
  pub no_refusal : f.now ≡ frame → (r ≡ Ok (accepted 3 9 0 9)) × (m ≡ 0 ∷ 4 ∷ 5 ∷ 6 ∷ 8 ∷ 10 ∷ 7 ∷ [])
  unfolding read_ack head_of kind_at fields_at walk_of below step_at int_at read_varint width size_of log_of
  no_refusal g =
      let d : done r m ≡ done (Ok (accepted 3 9 0 9)) (0 ∷ 4 ∷ 5 ∷ 6 ∷ 8 ∷ 10 ∷ 7 ∷ []) = p.0 ∙ rw (e, g) in
      (ap (λ x. x.out) d, ap (λ x. x.mem) d)

  pub no_half_list : f.now ≡ 0x02 ∷ 0x09 ∷ 0x00 ∷ 0x02 ∷ 0x01 ∷ 0x01 ∷ 0x00 ∷ 0x00 ∷ 0x04 ∷ [] → (r ≡ Err Malformed) × (m ≡ list)
  unfolding read_ack head_of kind_at fields_at walk_of below step_at int_at read_varint width size_of log_of
  no_half_list g =
      let d : done r m ≡ done (Err Malformed) list = p.0 ∙ rw (e, g) in
      (ap (λ x. x.out) d, ap (λ x. x.mem) d)
