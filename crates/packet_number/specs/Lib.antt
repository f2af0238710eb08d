pub mod PacketNumber
