pub mod BlackHole
