-- What was written is read back: 17.1's purpose. The distance is below half a window, so the number sent lies in the window of every
-- receiver whose largest number is at least the one acknowledged, and below the one sent. Assumes nothing.
use Prim.Native.Nat.{ℕ, zero, suc, ◌+◌, ◌*◌, ◌/◌, ◌%◌, ◌<◌, ◌≤◌}
use mathlib.Core.Path.{◌≡◌, refl, ap, sym, ◌∙◌}
use mathlib.Core.Bool.{Bool, true, false}
use mathlib.Core.Logic.{⊎_elim}
use mathlib.Core.List.{List, [], ◌∷◌, ◌++◌, append_assoc}
use native.Mathlib.Omega.{arith}
use native.Mathlib.Nat.{mod-lt}
use lib.Dec.{lit<}
use lib.ListN.{get_or, length, take, drop, length-append}
use lib.Seq.{get_or_at, take_at}
use lib.Arith.{mod-mul}
use borrow.Author.Tests.{le-leb, lt-leb, lt-ltb}
use contract.Lifetimes.{Lfts}
use denote.Ref.{Bor, MutBor, at_last}
use Rattle.answers.proofs.Tests.{split}
use Rattle.std.specs.Prelude.{Result, Ok}
use Rattle.answers.specs.declared.Refusal.{Refusal}
use Rattle.big_endian.specs.Bytes.{bytes}
use Rattle.big_endian.proofs.Laws.{length_bytes}
use Rattle.packet_number.specs.declared.Encoded.{Encoded}
use Rattle.packet_number.specs.PacketNumber.{limit, distance, writable, window, fewest, len_of, taken, digits, choice, readable, expand_of, done, encode_of}
use Rattle.packet_number.proofs.Laws.{window_suc, window_pos, fewest_low, fewest_high, writable_limit, writable_near, expand_reads}
use Rattle.packet_number.proofs.Shortest.{fewest_enough}
use Rattle.packet_number.proofs.Nearest.{choice_bits, choice_window, window_only}
use Rattle.packet_number.proofs.Reading.{window_even}
use Rattle.packet_number.proofs.encode as encode
use Rattle.packet_number.proofs.expand as expand

-- the low bytes of x are read as x without its high ones, whatever follows
pub digits_bytes : (k x : ℕ) (rest : List ℕ) → digits (bytes k x ++ rest) k ≡ x % window k
unfolding window
digits_bytes zero x rest = omega arith
digits_bytes (suc k) x rest =
    let a : bytes (suc k) x ++ rest ≡ bytes k (x / 256) ++ (x % 256 ∷ rest) = append_assoc (bytes k (x / 256)) (x % 256 ∷ []) rest in
    let i : digits (bytes (suc k) x ++ rest) k ≡ x / 256 % window k = ap (λ (s : List ℕ). digits s k) a ∙ digits_bytes k (x / 256) (x % 256 ∷ rest) in
    let g : get_or (bytes (suc k) x ++ rest) k 0 ≡ x % 256 = ap (λ (s : List ℕ). get_or s k 0) a ∙ get_or_at (bytes k (x / 256)) (x % 256) rest 0 k (length_bytes k (x / 256)) in
    let m : x % (window k * 256) ≡ x / 256 % window k * 256 + x % 256 = mod-mul x {m = window k} {c = 256} (window_pos k) (lit< tt) in
    ap (λ (d : ℕ). d * 256 + get_or (bytes (suc k) x ++ rest) k 0) i ∙ ap (λ (d : ℕ). x / 256 % window k * 256 + d) g ∙ sym (ap (λ (d : ℕ). x % d) (window_suc k) ∙ m)

-- A receiver finds every packet number that is less than half a window below the expected one, or up to half a window above it.
module _ (number len largest : ℕ) (low : 1 ≤ len) (high : len ≤ 4) (known : number < limit) (had : largest < limit)
    (above : largest + 1 < number + window len / 2) (below : number ≤ largest + 1 + window len / 2) where
  choice_back : choice (largest + 1) (window len) (number % window len) ≡ number
  choice_back =
      let fits : number % window len < window len = mod-lt number (window_pos len) in
      window_only (largest + 1) (window len) _ number (window_even len low high)
      (choice_window (largest + 1) (window len) (number % window len) fits (window_even len low high)) known
      (sym (choice_bits (largest + 1) (window len) (number % window len) fits)) above below

  may : readable len largest ≡ true
  may = rw (le-leb 1 len low, le-leb len 4 high, lt-ltb largest limit had)

  pub reads_back : (rest : List ℕ) → expand_of (bytes len number ++ rest) len largest ≡ Ok number
  reads_back rest =
      sym
      (expand_reads (bytes len number ++ rest) len largest may
      (simp (length-append, length_bytes) (omega arith)) refl (sym (digits_bytes len number rest)) (sym choice_back) known)

-- the number sent is no further from the acknowledged one than the distance: all that a receiver needs of it
distance_covers : (number acked : ℕ) → number ≤ acked + distance number acked
unfolding distance
distance_covers number acked = omega arith

-- What was written is read back by a receiver whose largest number lies anywhere from the acknowledged one to the one before it.
pub round : (number acked largest : ℕ) → writable number acked ≡ true → acked ≤ largest → largest < number
    → (rest : List ℕ) → expand_of (bytes (len_of number acked) number ++ rest) (len_of number acked) largest ≡ Ok number
round number acked largest can from upto =
    let d = distance number acked in
    let k = fewest d in
    let even = window_even k (fewest_low d) (fewest_high d) in
    let enough = fewest_enough d (writable_near number acked can) in
    let near = distance_covers number acked in
    let known = writable_limit number acked can in
    reads_back number k largest (fewest_low d) (fewest_high d) known (omega arith) (omega arith) (omega arith)

-- an OK of the writer: the number could be written, and its low bytes stand at the start of the buffer
pub encode_ok : (out : List ℕ) (number acked : ℕ) (r : Encoded) → (encode_of out number acked).out ≡ Ok r
    → (writable number acked ≡ true)
    × (encode_of out number acked ≡ done (Ok (taken (len_of number acked) number)) (bytes (len_of number acked) number ++ drop (len_of number acked) out))
unfolding encode_of
encode_ok out number acked r e = by_writable (writable number acked) refl where
  by_writable : (b : Bool) → writable number acked ≡ b
      → (writable number acked ≡ true)
      × (encode_of out number acked ≡ done (Ok (taken (len_of number acked) number)) (bytes (len_of number acked) number ++ drop (len_of number acked) out))
  by_writable true h =
      ⊎_elim
      (λ l. let f = rw (h, lt-leb (len_of number acked) (length out) l) at e in let z : ⊥ = cc in absurd z)
      (λ l. (h, rw (h, le-leb (len_of number acked) (length out) l)))
      (split (length out) (len_of number acked))
  by_writable false h = let f = rw h at e in let z : ⊥ = cc in absurd z

-- the contracts as the source states them: `encode` may answer r and leave m in the buffer, `expand` may answer x
abbrev pub Sends : Lfts 1 → MutBor (List ℕ) → ℕ → ℕ → Result Encoded Refusal → List ℕ → Type 0
Sends κs out number acked r m = encode.Reads.Post κs (out, (number, (acked, tt))) r (at_last out m, (number, (acked, tt)))

abbrev pub Gets : Lfts 1 → Bor (List ℕ) → ℕ → ℕ → Result ℕ Refusal → Type 0
Gets κs s len largest x = expand.Reads.Post κs (s, (len, (largest, tt))) x (s, (len, (largest, tt)))

-- So of the two functions: the bytes that `encode` wrote, whatever follows them, `expand` turns back into the number.
pub sent_is_got :
    (κs κt : Lfts 1) (out : MutBor (List ℕ)) (s : Bor (List ℕ)) (number acked largest : ℕ) (r : Encoded) (m rest : List ℕ) (x : Result ℕ Refusal)
    → Sends κs out number acked (Ok r) m → s.now ≡ take r.len m ++ rest → acked ≤ largest → largest < number
    → Gets κt s r.len largest x → x ≡ Ok number
sent_is_got κs κt out s number acked largest r m rest x sends same from upto gets =
    let can = encode_ok out.now number acked r (sym (ap (λ d. d.out) sends)) in
    let k = len_of number acked in
    let wrote = sends ∙ can.1 in
    let took : r ≡ taken k number = cc (ap (λ d. d.out) wrote) in
    let len : r.len ≡ k = ap (λ d. d.len) took in
    let mem : m ≡ bytes k number ++ drop k out.now = ap (λ d. d.mem) wrote in
    gets ∙ rw (same, len, mem, take_at (bytes k number) (drop k out.now) k (length_bytes k number)) (round number acked largest can.0 from upto rest)
