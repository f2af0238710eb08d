-- Two outcomes that both meet a public function's promise are the same, and no public function asks anything of its caller: each promise is one equation.
use mathlib.Core.Path.{refl, sym, ap, ◌∙◌}
use Rattle.answers.proofs.Promise.{Whole}
use Rattle.range_set.proofs.contains as contains
use Rattle.range_set.proofs.insert_one as insert_one_law
use Rattle.range_set.proofs.insert as insert
use Rattle.range_set.proofs.remove as remove
use Rattle.range_set.proofs.replace as replace
use Rattle.range_set.proofs.add as add
use Rattle.range_set.proofs.subtract as subtract
use Rattle.range_set.proofs.min as min
use Rattle.range_set.proofs.max as max
use Rattle.range_set.proofs.len as len
use Rattle.range_set.proofs.pop_min as pop_min_law
use Rattle.range_set.proofs.insert_one_capped as insert_one_capped

pub contains_whole : Whole contains.Kinds.ps contains.Kinds.r contains.Reads.Pre contains.Reads.Post
contains_whole = (λ κs a. tt, λ κs a x y v w p q. (p ∙ sym q, refl))

pub insert_one_whole : Whole insert_one_law.Kinds.ps insert_one_law.Kinds.r insert_one_law.Reads.Pre insert_one_law.Reads.Post
insert_one_whole = (λ κs a. tt, λ κs a x y v w p q. let e = p ∙ sym q in (ap (λ d. d.out) e, λ i. ((ap (λ d. d.mem) e) i, v.1)))

pub insert_whole : Whole insert.Kinds.ps insert.Kinds.r insert.Reads.Pre insert.Reads.Post
insert_whole = (λ κs a. tt, λ κs a x y v w p q. let e = p ∙ sym q in (ap (λ d. d.out) e, λ i. ((ap (λ d. d.mem) e) i, v.1)))

pub remove_whole : Whole remove.Kinds.ps remove.Kinds.r remove.Reads.Pre remove.Reads.Post
remove_whole = (λ κs a. tt, λ κs a x y v w p q. let e = p ∙ sym q in (ap (λ d. d.out) e, λ i. ((ap (λ d. d.mem) e) i, v.1)))

pub replace_whole : Whole replace.Kinds.ps replace.Kinds.r replace.Reads.Pre replace.Reads.Post
replace_whole = (λ κs a. tt, λ κs a x y v w p q. let e = p ∙ sym q in (ap (λ d. d.out) e, λ i. ((ap (λ d. d.mem) e) i, (tt, (tt, (tt, ((ap (λ d. d.parts) e) i, tt)))))))

pub min_whole : Whole min.Kinds.ps min.Kinds.r min.Reads.Pre min.Reads.Post
min_whole = (λ κs a. tt, λ κs a x y v w p q. (p ∙ sym q, refl))

pub max_whole : Whole max.Kinds.ps max.Kinds.r max.Reads.Pre max.Reads.Post
max_whole = (λ κs a. tt, λ κs a x y v w p q. (p ∙ sym q, refl))

pub len_whole : Whole len.Kinds.ps len.Kinds.r len.Reads.Pre len.Reads.Post
len_whole = (λ κs a. tt, λ κs a x y v w p q. (p ∙ sym q, refl))

pub pop_min_whole : Whole pop_min_law.Kinds.ps pop_min_law.Kinds.r pop_min_law.Reads.Pre pop_min_law.Reads.Post
pop_min_whole = (λ κs a. tt, λ κs a x y v w p q. let e = p ∙ sym q in (ap (λ d. d.out) e, λ i. ((ap (λ d. d.mem) e) i, v.1)))

pub insert_one_capped_whole : Whole insert_one_capped.Kinds.ps insert_one_capped.Kinds.r insert_one_capped.Reads.Pre insert_one_capped.Reads.Post
insert_one_capped_whole = (λ κs a. tt, λ κs a x y v w p q. let e = p ∙ sym q in (ap (λ d. d.out) e, λ i. ((ap (λ d. d.mem) e) i, v.1)))

pub add_whole : Whole add.Kinds.ps add.Kinds.r add.Reads.Pre add.Reads.Post
add_whole = (λ κs a. tt, λ κs a x y v w p q. let e = p ∙ sym q in (ap (λ d. d.out) e, λ i. ((ap (λ d. d.mem) e) i, v.1)))

pub subtract_whole : Whole subtract.Kinds.ps subtract.Kinds.r subtract.Reads.Pre subtract.Reads.Post
subtract_whole = (λ κs a. tt, λ κs a x y v w p q. let e = p ∙ sym q in (ap (λ d. d.out) e, λ i. ((ap (λ d. d.mem) e) i, v.1)))
