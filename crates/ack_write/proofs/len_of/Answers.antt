-- A number below the limit has the size of its shortest length.
use mathlib.Core.Path.{◌∙◌}
use Rattle.varint.proofs.Laws.{size_fits}
use Rattle.ack_write.proofs.len_of.Goals as goal

pub returns : goal.returns
returns c = c.size.ensures ∙ size_fits c.args.v c.requires
