-- Each public promise fixes its outcome, and asks nothing: it is an equation of the result.
use mathlib.Core.Path.{refl, sym, ◌∙◌}
use Rattle.answers.proofs.Promise.{Whole}
use Rattle.mtu_phase.proofs.is_size as is_size
use Rattle.mtu_phase.proofs.is_packet as is_packet
use Rattle.mtu_phase.proofs.MtuDiscoveryConfig.good as config_good
use Rattle.mtu_phase.proofs.MtuDiscoveryConfig.none as config_none
use Rattle.mtu_phase.proofs.Phase.good as phase_good
use Rattle.mtu_phase.proofs.Phase.restart as restart
use Rattle.mtu_phase.proofs.Phase.searching as searching
use Rattle.mtu_phase.proofs.Phase.flying as flying
use Rattle.mtu_phase.proofs.Phase.off as off

pub is_size_whole : Whole is_size.Kinds.ps is_size.Kinds.r is_size.Reads.Pre is_size.Reads.Post
is_size_whole = (λ κs a. tt, λ κs a x y v w p q. (p ∙ sym q, refl))

pub is_packet_whole : Whole is_packet.Kinds.ps is_packet.Kinds.r is_packet.Reads.Pre is_packet.Reads.Post
is_packet_whole = (λ κs a. tt, λ κs a x y v w p q. (p ∙ sym q, refl))

pub config_good_whole : Whole config_good.Kinds.ps config_good.Kinds.r config_good.Reads.Pre config_good.Reads.Post
config_good_whole = (λ κs a. tt, λ κs a x y v w p q. (p ∙ sym q, refl))

pub config_none_whole : Whole config_none.Kinds.ps config_none.Kinds.r config_none.Reads.Pre config_none.Reads.Post
config_none_whole = (λ κs a. tt, λ κs a x y v w p q. (p ∙ sym q, refl))

pub phase_good_whole : Whole phase_good.Kinds.ps phase_good.Kinds.r phase_good.Reads.Pre phase_good.Reads.Post
phase_good_whole = (λ κs a. tt, λ κs a x y v w p q. (p ∙ sym q, refl))

pub restart_whole : Whole restart.Kinds.ps restart.Kinds.r restart.Reads.Pre restart.Reads.Post
restart_whole = (λ κs a. tt, λ κs a x y v w p q. (p ∙ sym q, refl))

pub searching_whole : Whole searching.Kinds.ps searching.Kinds.r searching.Reads.Pre searching.Reads.Post
searching_whole = (λ κs a. tt, λ κs a x y v w p q. (p ∙ sym q, refl))

pub flying_whole : Whole flying.Kinds.ps flying.Kinds.r flying.Reads.Pre flying.Reads.Post
flying_whole = (λ κs a. tt, λ κs a x y v w p q. (p ∙ sym q, refl))

pub off_whole : Whole off.Kinds.ps off.Kinds.r off.Reads.Pre off.Reads.Post
off_whole = (λ κs a. tt, λ κs a x y v w p q. (p ∙ sym q, refl))
