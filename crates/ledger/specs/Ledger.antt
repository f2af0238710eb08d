-- What an event does to the state of one connection (docs/EVENTS.md): it is its module's step on its part of the state, and what is no event leaves all as
-- it was. The module is told by the code, 16 codes a module. The words of the line are the numbers `ns`, its bytes `bs`; the lent memory `m` holds
-- the range set's list, the recorder's and the table of streams, `l` is the lent list and `x` the lent scratch.
-- Assumes nothing.
use Rattle.std.specs.Prelude.{ℕ, ◌/◌, cond, ◌||◌, List, eqb, ltb}
use Rattle.answers.specs.Answers.{OK}
use Rattle.codes.specs.Codes.{CT_EQ}
use Rattle.events.specs.declared.Event.{Event}
use Rattle.drive_leaf.specs.declared.Gave as leaf_declared
use Rattle.drive_leaf.specs.Step as leaf
use Rattle.ledger_lists.specs.declared.Lists.{Lists}
use Rattle.ledger_lists.specs.Step as lists
use Rattle.ledger_peers.specs.declared.Peers.{Peers}
use Rattle.ledger_peers.specs.Step as peers
use Rattle.ledger.specs.declared.State.{State}

-- ---- the state

-- each part's start
abbrev pub begun : State
begun = record { code = 0; leaf = leaf.plainly OK; lists = lists.begun; peers = peers.begun }

-- the state with another part
abbrev pub with_code : State → ℕ → State
with_code s c = record { code = c; leaf = s.leaf; lists = s.lists; peers = s.peers }

abbrev pub with_leaf : State → leaf_declared.Gave → State
with_leaf s g = record { code = s.code; leaf = g; lists = s.lists; peers = s.peers }

abbrev pub with_lists : State → Lists → State
with_lists s p = record { code = s.code; leaf = s.leaf; lists = p; peers = s.peers }

abbrev pub with_peers : State → Peers → State
with_peers s p = record { code = s.code; leaf = s.leaf; lists = s.lists; peers = p }

-- ---- the modules without a state: what a step leaves is the state, the scratch and the list

pub record Leafed : Type 0 where
  pub state : State
  pub scratch : List ℕ
  pub list : List ℕ

abbrev pub leafed : State → List ℕ → List ℕ → Leafed
leafed s x l = record { state = s; scratch = x; list = l }

abbrev pub leaf_in : State → leaf.Left → Leafed
leaf_in s d = leafed (with_leaf s d.out) d.scratch d.list

unfoldable pub leaf_of : Event → List ℕ → List ℕ → List ℕ → State → List ℕ → Leafed
leaf_of e ns bs x s l = leaf_in s (leaf.step_of e.code ns e.count bs e.first e.size x l)

-- ---- one event

pub record Stepped : Type 0 where
  pub state : State
  pub scratch : List ℕ
  pub memory : List ℕ
  pub list : List ℕ

abbrev pub stepped : State → List ℕ → List ℕ → List ℕ → Stepped
stepped s x m l = record { state = s; scratch = x; memory = m; list = l }

abbrev pub from_leaf : List ℕ → Leafed → Stepped
from_leaf m d = stepped d.state d.scratch m d.list

abbrev pub from_lists : State → List ℕ → lists.Listed → Stepped
from_lists s x d = stepped (with_lists s d.out) x d.memory d.list

abbrev pub from_peers : State → List ℕ → List ℕ → peers.Peered → Stepped
from_peers s x l d = stepped (with_peers s d.out) x d.memory l

-- of the module k: 1 to 3 and 7 have no state, 4 to 6 are of the lists, the others of the peer
unfoldable pub event_of : ℕ → Event → List ℕ → List ℕ → List ℕ → State → List ℕ → List ℕ → Stepped
event_of k e ns bs x s m l =
    cond (ltb k 4 || eqb k 7) (from_leaf m (leaf_of e ns bs x s l))
    (cond (ltb k 7) (from_lists s x (lists.step_of k e.code e.count ns s.lists m l))
    (from_peers s x l (peers.step_of k e.code e.first e.size ns bs s.peers m)))

-- what is no event has a code below the first, and leaves all as it was
unfoldable pub step_of : Event → List ℕ → List ℕ → List ℕ → State → List ℕ → List ℕ → Stepped
step_of e ns bs x s m l =
    cond (ltb e.code CT_EQ) (stepped s x m l) (event_of (e.code / 16) e ns bs x (with_code s e.code) m l)
