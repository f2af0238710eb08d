-- What the public functions may answer, by their own contracts: each name below is the contract of one of them, as Rattle makes it of the source.
-- Assumes nothing.
use Prim.Native.Nat.{ℕ}
use Rattle.std.specs.Prelude.{Option, Result}
use Rattle.answers.specs.declared.Refusal.{Refusal}
use Rattle.mtu_phase.specs.declared.MtuDiscoveryConfig.{MtuDiscoveryConfig}
use Rattle.mtud.specs.declared.MtuDiscovery.{MtuDiscovery}
use Rattle.mtud.specs.declared.Polled.{Polled}
use Rattle.mtud.specs.declared.Acked.{Acked}
use Rattle.mtud.specs.declared.Asked.{Asked}
use Rattle.mtud.specs.declared.View.{View}
use Rattle.mtud.proofs.MtuDiscovery.new as new
use Rattle.mtud.proofs.MtuDiscovery.disabled as disabled
use Rattle.mtud.proofs.MtuDiscovery.reset as reset
use Rattle.mtud.proofs.MtuDiscovery.current_mtu as current_mtu
use Rattle.mtud.proofs.MtuDiscovery.poll_transmit as poll_transmit
use Rattle.mtud.proofs.MtuDiscovery.on_peer_max_udp_payload_size_received as on_peer_max_udp_payload_size_received
use Rattle.mtud.proofs.MtuDiscovery.on_acked as on_acked
use Rattle.mtud.proofs.MtuDiscovery.in_flight_mtu_probe as in_flight_mtu_probe
use Rattle.mtud.proofs.MtuDiscovery.on_probe_lost as on_probe_lost
use Rattle.mtud.proofs.MtuDiscovery.on_non_probe_lost as on_non_probe_lost
use Rattle.mtud.proofs.MtuDiscovery.black_hole_detected as black_hole_detected
use Rattle.mtud.proofs.MtuDiscovery.view as view

abbrev pub New : ℕ → ℕ → Option ℕ → MtuDiscoveryConfig → Result MtuDiscovery Refusal → Type 0
New initial least q c r = new.Reads.Post tt (initial, (least, (q, (c, tt)))) r (initial, (least, (q, (c, tt))))

abbrev pub Disabled : ℕ → ℕ → Result MtuDiscovery Refusal → Type 0
Disabled x least r = disabled.Reads.Post tt (x, (least, tt)) r (x, (least, tt))

abbrev pub Reset : MtuDiscovery → ℕ → ℕ → Result MtuDiscovery Refusal → Type 0
Reset m x least r = reset.Reads.Post tt (m, (x, (least, tt))) r (m, (x, (least, tt)))

abbrev pub Poll : MtuDiscovery → ℕ → ℕ → Result Polled Refusal → Type 0
Poll m now n r = poll_transmit.Reads.Post tt (m, (now, (n, tt))) r (m, (now, (n, tt)))

abbrev pub Peer : MtuDiscovery → ℕ → Result MtuDiscovery Refusal → Type 0
Peer m x r = on_peer_max_udp_payload_size_received.Reads.Post tt (m, (x, tt)) r (m, (x, tt))

abbrev pub OnAcked : MtuDiscovery → ℕ → ℕ → Result Acked Refusal → Type 0
OnAcked m n x r = on_acked.Reads.Post tt (m, (n, (x, tt))) r (m, (n, (x, tt)))

abbrev pub ProbeLost : MtuDiscovery → Result MtuDiscovery Refusal → Type 0
ProbeLost m r = on_probe_lost.Reads.Post tt (m, tt) r (m, tt)

abbrev pub Lost : MtuDiscovery → ℕ → ℕ → Result MtuDiscovery Refusal → Type 0
Lost m n x r = on_non_probe_lost.Reads.Post tt (m, (n, (x, tt))) r (m, (n, (x, tt)))

abbrev pub Hole : MtuDiscovery → ℕ → Result Asked Refusal → Type 0
Hole m now r = black_hole_detected.Reads.Post tt (m, (now, tt)) r (m, (now, tt))

abbrev pub CurrentMtu : MtuDiscovery → Result ℕ Refusal → Type 0
CurrentMtu m r = current_mtu.Reads.Post tt (m, tt) r (m, tt)

abbrev pub Flying : MtuDiscovery → Result (Option ℕ) Refusal → Type 0
Flying m r = in_flight_mtu_probe.Reads.Post tt (m, tt) r (m, tt)

abbrev pub Viewed : MtuDiscovery → Result View Refusal → Type 0
Viewed m r = view.Reads.Post tt (m, tt) r (m, tt)
