-- `window` meets its contract: a shift by eight bits for each byte, which stays in 64 bits.
use native.Mathlib.Omega.{arith}
use Rattle.packet_number.proofs.Laws.{window_shift}
use Rattle.packet_number.proofs.window.Goals as goal

pub returns : goal.returns
returns c = window_shift _ (omega arith)
