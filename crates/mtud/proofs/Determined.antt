-- Each public promise fixes its outcome, and asks nothing: it is an equation of the result.
use mathlib.Core.Path.{refl, sym, ◌∙◌}
use Rattle.answers.proofs.Promise.{Whole}
use Rattle.mtud.proofs.MtuDiscovery.new as new
use Rattle.mtud.proofs.MtuDiscovery.disabled as disabled
use Rattle.mtud.proofs.MtuDiscovery.reset as reset
use Rattle.mtud.proofs.MtuDiscovery.current_mtu as current_mtu
use Rattle.mtud.proofs.MtuDiscovery.poll_transmit as poll_transmit
use Rattle.mtud.proofs.MtuDiscovery.on_peer_max_udp_payload_size_received as on_peer_max_udp_payload_size_received
use Rattle.mtud.proofs.MtuDiscovery.on_acked as on_acked
use Rattle.mtud.proofs.MtuDiscovery.in_flight_mtu_probe as in_flight_mtu_probe
use Rattle.mtud.proofs.MtuDiscovery.on_probe_lost as on_probe_lost
use Rattle.mtud.proofs.MtuDiscovery.on_non_probe_lost as on_non_probe_lost
use Rattle.mtud.proofs.MtuDiscovery.black_hole_detected as black_hole_detected
use Rattle.mtud.proofs.MtuDiscovery.view as view

pub new_whole : Whole new.Kinds.ps new.Kinds.r new.Reads.Pre new.Reads.Post
new_whole = (λ κs a. tt, λ κs a x y v w p q. (p ∙ sym q, refl))

pub disabled_whole : Whole disabled.Kinds.ps disabled.Kinds.r disabled.Reads.Pre disabled.Reads.Post
disabled_whole = (λ κs a. tt, λ κs a x y v w p q. (p ∙ sym q, refl))

pub reset_whole : Whole reset.Kinds.ps reset.Kinds.r reset.Reads.Pre reset.Reads.Post
reset_whole = (λ κs a. tt, λ κs a x y v w p q. (p ∙ sym q, refl))

pub current_mtu_whole : Whole current_mtu.Kinds.ps current_mtu.Kinds.r current_mtu.Reads.Pre current_mtu.Reads.Post
current_mtu_whole = (λ κs a. tt, λ κs a x y v w p q. (p ∙ sym q, refl))

pub poll_transmit_whole : Whole poll_transmit.Kinds.ps poll_transmit.Kinds.r poll_transmit.Reads.Pre poll_transmit.Reads.Post
poll_transmit_whole = (λ κs a. tt, λ κs a x y v w p q. (p ∙ sym q, refl))

pub on_peer_max_udp_payload_size_received_whole : Whole on_peer_max_udp_payload_size_received.Kinds.ps on_peer_max_udp_payload_size_received.Kinds.r on_peer_max_udp_payload_size_received.Reads.Pre on_peer_max_udp_payload_size_received.Reads.Post
on_peer_max_udp_payload_size_received_whole = (λ κs a. tt, λ κs a x y v w p q. (p ∙ sym q, refl))

pub on_acked_whole : Whole on_acked.Kinds.ps on_acked.Kinds.r on_acked.Reads.Pre on_acked.Reads.Post
on_acked_whole = (λ κs a. tt, λ κs a x y v w p q. (p ∙ sym q, refl))

pub in_flight_mtu_probe_whole : Whole in_flight_mtu_probe.Kinds.ps in_flight_mtu_probe.Kinds.r in_flight_mtu_probe.Reads.Pre in_flight_mtu_probe.Reads.Post
in_flight_mtu_probe_whole = (λ κs a. tt, λ κs a x y v w p q. (p ∙ sym q, refl))

pub on_probe_lost_whole : Whole on_probe_lost.Kinds.ps on_probe_lost.Kinds.r on_probe_lost.Reads.Pre on_probe_lost.Reads.Post
on_probe_lost_whole = (λ κs a. tt, λ κs a x y v w p q. (p ∙ sym q, refl))

pub on_non_probe_lost_whole : Whole on_non_probe_lost.Kinds.ps on_non_probe_lost.Kinds.r on_non_probe_lost.Reads.Pre on_non_probe_lost.Reads.Post
on_non_probe_lost_whole = (λ κs a. tt, λ κs a x y v w p q. (p ∙ sym q, refl))

pub black_hole_detected_whole : Whole black_hole_detected.Kinds.ps black_hole_detected.Kinds.r black_hole_detected.Reads.Pre black_hole_detected.Reads.Post
black_hole_detected_whole = (λ κs a. tt, λ κs a x y v w p q. (p ∙ sym q, refl))

pub view_whole : Whole view.Kinds.ps view.Kinds.r view.Reads.Pre view.Reads.Post
view_whole = (λ κs a. tt, λ κs a x y v w p q. (p ∙ sym q, refl))
