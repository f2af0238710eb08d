-- The calls of a connection's MTU search with what they were given and what they answered, and what can be read off a list of them, the newest first, with no
-- look at the record. Assumes nothing.
use Rattle.std.specs.Prelude.{ℕ, min, ◌≡◌, Bool, cond, List, [], ◌∷◌, eqb, Option, Result, Ok, Err, unwrap_or}
use Rattle.answers.specs.Answers.{number}
use Rattle.answers.specs.declared.Refusal.{Refusal}
use Rattle.mtu_phase.specs.declared.MtuDiscoveryConfig.{MtuDiscoveryConfig}
use Rattle.mtud.specs.declared.MtuDiscovery.{MtuDiscovery}
use Rattle.mtud.specs.declared.Polled.{Polled}
use Rattle.mtud.specs.declared.Acked.{Acked}
use Rattle.mtud.specs.declared.Asked.{Asked}
use Rattle.mtud_history.specs.Bounds.{peer_of}
use Rattle.mtud_history.specs.Left.{probe_of, was_probe, was_hole}

-- what was called, with its arguments
pub data Call : Type 0 where
  new : (initial least : ℕ) (q : Option ℕ) (c : MtuDiscoveryConfig) → Call
  disabled : (x least : ℕ) → Call
  reset : (x least : ℕ) → Call
  poll : (now n : ℕ) → Call
  peer : (x : ℕ) → Call
  acked : (n x : ℕ) → Call
  probe_lost : Call
  lost : (n x : ℕ) → Call
  hole : (now : ℕ) → Call

-- and what it answered: the answer's number, 0 for OK, and the value, 0 where there is none: the size of the probe that is asked for; 1 where the packet was
-- the probe, or there is a black hole
pub record Said : Type 0 where
  pub call : Call
  pub answer : ℕ
  pub value : ℕ

-- what a call and its outcome say
abbrev answered : {X : Type 0} → Result X Refusal → ℕ
answered (Ok x) = 0
answered (Err e) = number e

abbrev one : Bool → ℕ
one b = cond b 1 0

abbrev pub say : Call → Result MtuDiscovery Refusal → Said
say c r = record { call = c; answer = answered r; value = 0 }

abbrev pub say_polled : Call → Result Polled Refusal → Said
say_polled c r = record { call = c; answer = answered r; value = unwrap_or (probe_of r) 0 }

abbrev pub say_acked : Call → Result Acked Refusal → Said
say_acked c r = record { call = c; answer = answered r; value = one (was_probe r) }

abbrev pub say_asked : Call → Result Asked Refusal → Said
say_asked c r = record { call = c; answer = answered r; value = one (was_hole r) }

-- what the list comes to: the MTU, the peer's maximum, the minimum size, and the packet number and the size of the probe that was asked for last, 0 for none
pub record Facts : Type 0 where
  pub mtu : ℕ
  pub peer : ℕ
  pub least : ℕ
  pub number : ℕ
  pub size : ℕ

-- the same with another MTU
abbrev sized : Facts → ℕ → Facts
sized k x = record { mtu = x; peer = k.peer; least = k.least; number = k.number; size = k.size }

-- a fresh record: no probe was asked for
abbrev fresh : ℕ → ℕ → ℕ → Facts
fresh x top least = record { mtu = min x top; peer = top; least = least; number = 0; size = 0 }

-- what one call with its answer a and value v makes of it: a start and a reset give the size that they are given, capped by the peer's maximum; a new maximum
-- caps the MTU; the probe that is acknowledged gives its size; a black hole gives the minimum, or the peer's maximum if that is smaller. What is refused gives nothing
unfoldable pub after : Call → ℕ → ℕ → Facts → Facts
after (new initial least q c) a v k = cond (eqb a 0) (fresh initial (peer_of q) least) k
after (disabled x least) a v k = cond (eqb a 0) (fresh x 65527 least) k
after (reset x least) a v k = cond (eqb a 0) (record { mtu = min x k.peer; peer = k.peer; least = least; number = k.number; size = k.size }) k
after (poll now n) a v k = cond (eqb v 0) k (record { mtu = k.mtu; peer = k.peer; least = k.least; number = n; size = v })
after (peer x) a v k = cond (eqb a 0) (record { mtu = min k.mtu x; peer = x; least = k.least; number = k.number; size = k.size }) k
after (acked n x) a v k = cond (eqb v 1) (sized k k.size) k
after probe_lost a v k = k
after (lost n x) a v k = k
after (hole now) a v k = cond (eqb v 1) (sized k (min k.least k.peer)) k

-- and the whole list, the newest call first
unfoldable pub known : List Said → Facts
known [] = record { mtu = 0; peer = 0; least = 0; number = 0; size = 0 }
known (e ∷ es) = after e.call e.answer e.value (known es)

-- where a size comes from, of what was called and answered
pub data Source : List Said → ℕ → Type 0 where
  -- the start, capped by the peer's maximum
  begun : (initial least : ℕ) (q : Option ℕ) (c : MtuDiscoveryConfig) (v : ℕ) (es : List Said)
      → Source (record { call = new initial least q c; answer = 0; value = v } ∷ es) (min initial (peer_of q))
  off : (x least v : ℕ) (es : List Said) → Source (record { call = disabled x least; answer = 0; value = v } ∷ es) (min x 65527)
  -- a reset, capped too
  again : (x least v : ℕ) (es : List Said) → Source (record { call = reset x least; answer = 0; value = v } ∷ es) (min x (known es).peer)
  -- a black hole: the minimum, or the peer's maximum if that is smaller
  fell : (now : ℕ) (es : List Said) → Source (record { call = hole now; answer = 0; value = 1 } ∷ es) (min (known es).least (known es).peer)
  -- a peer's maximum
  cap : (x v : ℕ) (es : List Said) → Source (record { call = peer x; answer = 0; value = v } ∷ es) x
  -- a probe that was sent, and whose number was then acknowledged: the probe sent last
  probe : (x : ℕ) (es : List Said) → ((known es).size ≡ 0 → ⊥) → Source (record { call = acked (known es).number x; answer = 0; value = 1 } ∷ es) (known es).size
  -- before the newest call
  before : {x : ℕ} (e : Said) (es : List Said) → Source es x → Source (e ∷ es) x
