-- What `commit` leaves is the step in the table and in the books.
use Rattle.streams.proofs.Laws.{commit_done}
use Rattle.streams.proofs.commit.Goals as goal

pub returns : goal.returns
returns c = commit_done _ _ _ _ _ _ c.requires.0 c.requires.1 c.put.ensures c.book-d.ensures c.touch-e.ensures
