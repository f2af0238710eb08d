-- The bits gathered are those of the bytes passed, one turn each.
use Rattle.std.proofs.Common.{◌≡◌, ℕ, ◌∷◌, [], ◌++◌, ◌+◌, length, length-append, arith, ap, sym, ◌∙◌}
use Rattle.constant_time.specs.Agree.{bits_of}
use Rattle.std.specs.Slice.Iter.{iter_rest}
use Rattle.std.specs.Iterator.Adapters.{zip_first, zip_second}
use Rattle.std.proofs.lemmas.Slice.Zip.{zip_turn, zip_end}
use Rattle.constant_time.proofs.Laws.{bits_none_yet, bits_more, passed}
use Rattle.constant_time.proofs.differ.Goals as goal
use borrow.Author.Rules.{rules}

pub loop-x-init : goal.loop-x-init
loop-x-init c = (search rules, bits_none_yet _ _)

pub loop-x-preserved : goal.loop-x-preserved
loop-x-preserved c =
    let a = c.args.a.now in
    let b = c.args.b.now in
    let s = c.into_iter-x-iterator.result in
    let first : iter_rest (zip_first s) ≡ a = search rules in
    let second : iter_rest (zip_second s) ≡ b = search rules in
    let t = zip_turn a b c.loop-x.yielded s c.loop-x.x-iterator c.next.new.self c.next.result first second c.loop-x.yielded_by (c.in-Some.x, c.in-Some.y) c.in-Some.is c.next.ensures.steps in
    let e : length (c.loop-x.yielded ++ ((c.in-Some.x, c.in-Some.y) ∷ [])) ≡ length c.loop-x.yielded + 1 = length-append c.loop-x.yielded ((c.in-Some.x, c.in-Some.y) ∷ []) in
    (ap (λ (n : ℕ). n + 1) c.loop-x.invariant.0 ∙ sym e, bits_more a b (length c.loop-x.yielded) e c.loop-x.invariant.1 (t.2 0) (t.3 0))

pub returns : goal.returns
returns c =
    let a = c.args.a.now in
    let b = c.args.b.now in
    let s = c.into_iter-x-iterator.result in
    let first : iter_rest (zip_first s) ≡ a = search rules in
    let second : iter_rest (zip_second s) ≡ b = search rules in
    let n = zip_end a b c.loop-x.yielded s c.loop-x.x-iterator c.next.new.self c.next.result first second c.loop-x.yielded_by c.in-None.is c.next.ensures.steps in
    passed a b (c.loop-x.invariant.1 ∙ ap (bits_of a b) (sym c.loop-x.invariant.0)) (omega (arith, c.requires, c.loop-x.invariant.0))
