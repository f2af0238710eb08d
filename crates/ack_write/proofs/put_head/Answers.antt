-- Five writes in a row are one, and the buffer keeps its length.
-- where each write ends
use native.Mathlib.Omega.{arith}
use Prim.Native.Nat.{ℕ, ◌+◌}
use mathlib.Core.Path.{◌≡◌, ap, ◌∙◌}
use lib.ListN.{length, length-set}
use Rattle.varint.specs.Varint.{len_of}
use Rattle.ack_write.proofs.Laws.{head_length, head_put}
use Rattle.ack_write.proofs.put_head.Goals as goal
use Rattle.ack_write.proofs.put_head.Goals.{After-put_at-a, After-put_at-b, After-put_at-d}

end-1 : (c : After-put_at-a) → let a = c.args in (length c.put_at-a.new.out ≡ length a.out.now) × (c.put_at-a.result ≡ 1 + len_of a.largest)
end-1 c = (c.put_at-a.auto.out ∙ length-set c.args.out.now 0 2, c.put_at-a.ensures.0)

end-2 : (c : After-put_at-b) → let a = c.args in (length c.put_at-b.new.out ≡ length a.out.now) × (c.put_at-b.result ≡ 1 + len_of a.largest + len_of a.delay)
end-2 c = (
  c.put_at-b.auto.out ∙ c.put_at-a.auto.out ∙ length-set c.args.out.now 0 2,
  c.put_at-b.ensures.0 ∙ ap (λ (k : ℕ). k + len_of c.args.delay) c.put_at-a.ensures.0,
)

end-3 : (c : After-put_at-d) → let a = c.args in (length c.put_at-d.new.out ≡ length a.out.now) × (c.put_at-d.result ≡ 1 + len_of a.largest + len_of a.delay + len_of a.count)
end-3 c = (
  c.put_at-d.auto.out ∙ c.put_at-b.auto.out ∙ c.put_at-a.auto.out ∙ length-set c.args.out.now 0 2,
  c.put_at-d.ensures.0 ∙ ap (λ (k : ℕ). k + len_of c.args.count) (c.put_at-b.ensures.0 ∙ ap (λ (k : ℕ). k + len_of c.args.delay) c.put_at-a.ensures.0),
)

pub bounds-out-0 : goal.bounds-out-0
bounds-out-0 c = let a = c.args in omega (arith, head_length a.largest a.delay a.count a.first, c.requires)

pub put_at-a-requires : goal.put_at-a-requires
put_at-a-requires c =
    let a = c.args in
    let z = head_length a.largest a.delay a.count a.first in
    (c.requires.0, simp length-set (omega (arith, c.requires)))

pub put_at-b-requires : goal.put_at-b-requires
put_at-b-requires c =
    let a = c.args in
    let z = head_length a.largest a.delay a.count a.first in
    let e = end-1 (goal.at.put_at-b-requires c).After-put_at-a in
    (c.requires.1.0, omega (arith, c.requires))

pub put_at-d-requires : goal.put_at-d-requires
put_at-d-requires c =
    let a = c.args in
    let z = head_length a.largest a.delay a.count a.first in
    let e = end-2 (goal.at.put_at-d-requires c).After-put_at-b in
    (c.requires.1.1.0, omega (arith, c.requires))

pub put_at-requires : goal.put_at-requires
put_at-requires c =
    let a = c.args in
    let z = head_length a.largest a.delay a.count a.first in
    let e = end-3 (goal.at.put_at-requires c).After-put_at-d in
    (c.requires.1.1.1.0, omega (arith, c.requires))

pub shape_of-out : goal.shape_of-out
shape_of-out c = c.put_at.auto.out ∙ (end-3 (goal.at.shape_of-out c).After-put_at-d).0

pub returns : goal.returns
returns c =
    let a = c.args in
    let z = head_length a.largest a.delay a.count a.first in
    let e = end-3 (goal.at.returns c).After-put_at-d in
    let q = c.put_at.ensures in
    let k1 = c.put_at-a.ensures in
    let k2 = c.put_at-b.ensures in
    let k3 = c.put_at-d.ensures in
    (omega arith, q.1 ∙ head_put a.out.now a.largest a.delay a.count a.first c.requires.1.1.1.1 k1.0 k1.1 k2.0 k2.1 k3.0 k3.1)
