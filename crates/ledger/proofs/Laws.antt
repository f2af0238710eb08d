-- One law for each return: what the calls before it promise is what the definition says. Assumes nothing.
use mathlib.Core.Path.{◌≡◌}
use mathlib.Core.List.{List}
use Prim.Native.Nat.{ℕ, ◌<◌}
use borrow.Author.Tests.{lt-ltb}
use Rattle.answers.specs.Answers.{OK}
use Rattle.codes.specs.Codes.{CT_EQ}
use Rattle.events.specs.declared.Event.{Event}
use Rattle.drive_leaf.specs.declared.Gave as leaf_declared
use Rattle.drive_leaf.specs.Step as leaf
use Rattle.ledger_lists.specs.declared.Lists.{Lists}
use Rattle.ledger_lists.specs.Step as lists
use Rattle.ledger_peers.specs.declared.Peers.{Peers}
use Rattle.ledger_peers.specs.Step as peers
use Rattle.ledger.specs.declared.State.{State}
use Rattle.ledger.specs.Ledger.{begun, with_leaf, leafed, leaf_of, stepped, step_of}

-- ---- the start

pub begins : {a : leaf_declared.Gave} {p : Lists} {q : Peers} → a ≡ leaf.plainly OK → p ≡ lists.begun → q ≡ peers.begun
    → record { code = 0; leaf = a; lists = p; peers = q } ≡ begun
begins a p q = rw (a, p, q)

-- ---- the modules without a state

pub leaf_in_law : (e : Event) (ns bs x : List ℕ) (s : State) (l : List ℕ) {g : leaf_declared.Gave} {x' l' : List ℕ}
    → leaf.left g x' l' ≡ leaf.step_of e.code ns e.count bs e.first e.size x l → leafed (with_leaf s g) x' l' ≡ leaf_of e ns bs x s l
unfolding leaf_of
leaf_in_law e ns bs x s l f = rw (← f)

-- ---- one event

module _ (e : Event) (ns bs x : List ℕ) (s : State) (m l : List ℕ) where
  -- what is no event leaves the state and all lent memory as they were
  pub step_none : e.code < CT_EQ → stepped s x m l ≡ step_of e ns bs x s m l
  unfolding step_of
  step_none h = rw (lt-ltb e.code CT_EQ h)

pub ruleset laws = (begins, leaf_in_law)
