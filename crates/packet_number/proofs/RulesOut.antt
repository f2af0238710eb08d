-- Wrong versions that the contracts themselves exclude, whatever their code: each outcome that a contract allows is the one that the example computes.
use mathlib.Core.Path.{◌≡◌, ap, ◌∙◌}
use mathlib.Core.List.{List, [], ◌∷◌}
use Prim.Native.Nat.{ℕ}
use contract.Lifetimes.{Lfts}
use denote.Ref.{Bor, MutBor}
use Rattle.std.specs.Prelude.{Result, Ok, Err}
use Rattle.answers.specs.declared.Refusal.{Refusal}
use Rattle.answers.specs.declared.Refusal.TheVariants.{Range}
use Rattle.packet_number.specs.declared.Encoded.{Encoded}
use Rattle.packet_number.specs.PacketNumber.{encode_of, expand_of}
use Rattle.packet_number.proofs.Examples.{difference_128, sends_ac5c02, range_first, reads_a82f9b32, near_limit}
use Rattle.packet_number.proofs.RoundTrip.{Sends, Gets}
use Rattle.packet_number.proofs.new as new

-- one byte at distance 128
pub two_at_128 : (r : Result Encoded Refusal) → new.Reads.Post tt (128, (0, tt)) r (128, (0, tt)) → r ≡ Ok (record { len = 2; value = 128 })
two_at_128 r p = p ∙ difference_128

-- a writer that always refuses, or writes other bytes, or touches what lies past them
pub writes_two : (κs : Lfts 1) (out : MutBor (List ℕ)) (r : Result Encoded Refusal) (m : List ℕ) → out.now ≡ 0 ∷ 0 ∷ 0 ∷ [] → Sends κs out 0xac5c02 0xabe8b3 r m
    → (r ≡ Ok (record { len = 2; value = 0x5c02 })) × (m ≡ 0x5c ∷ 0x02 ∷ 0 ∷ [])
writes_two κs out r m e p =
    let q = p ∙ ap (λ l. encode_of l 0xac5c02 0xabe8b3) e ∙ sends_ac5c02 in
    (ap (λ d. d.out) q, ap (λ d. d.mem) q)

-- ROOM before RANGE: a number that cannot be written, and no room
pub range_before_room : (κs : Lfts 1) (out : MutBor (List ℕ)) (r : Result Encoded Refusal) (m : List ℕ) → out.now ≡ [] → Sends κs out 4 5 r m → r ≡ Err Range
range_before_room κs out r m e p = ap (λ d. d.out) (p ∙ ap (λ l. encode_of l 4 5) e ∙ range_first)

-- a reader that always refuses
pub reads_two : (κs : Lfts 1) (s : Bor (List ℕ)) (x : Result ℕ Refusal) → s.now ≡ 0x9b ∷ 0x32 ∷ [] → Gets κs s 2 0xa82f30ea x
    → x ≡ Ok 0xa82f9b32
reads_two κs s x e p = p ∙ ap (λ l. expand_of l 2 0xa82f30ea) e ∙ reads_a82f9b32

-- A.3 without its guard near 2 ^ 62, as in the Rust
pub guarded : (κs : Lfts 1) (s : Bor (List ℕ)) (x : Result ℕ Refusal) → s.now ≡ 0 ∷ [] → Gets κs s 1 4611686018427387775 x
    → x ≡ Ok 4611686018427387648
guarded κs s x e p = p ∙ ap (λ l. expand_of l 1 4611686018427387775) e ∙ near_limit
