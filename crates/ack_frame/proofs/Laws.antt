-- Laws of reading: what an integer, the type, the fields, a pair and a walk come to, one law for each return, its premises the code's tests.
use Prim.Native.Nat.{ℕ, zero, suc, ◌+◌, ◌-◌, ◌*◌, ◌/◌, ◌<◌, ◌≤◌}
use mathlib.Core.Path.{◌≡◌, refl, ap, sym, ◌∙◌}
use mathlib.Core.Bool.{true, false}
use mathlib.Core.Logic.{⊎_elim}
use mathlib.Core.List.{List, [], ◌∷◌, ◌++◌, append_assoc, reverse, reverse-cons}
use native.Mathlib.Omega.{arith}
use native.Mathlib.Nat.{eq-zero-or-pos}
use lib.ListN.{length, take, drop, set, length-set, length-append}
use lib.Seq.{drop-cons, get_or-set_same, get_or-set_other, drop-set-lt}
use borrow.Author.Tests.{lt-ltb, le-ltb, eq-eqb, ne_eqb, le-leb, lt-leb}
use Rattle.std.specs.Prelude.{Result, Ok, Err}
use Rattle.answers.specs.declared.Refusal.{Refusal}
use Rattle.answers.specs.declared.Refusal.TheVariants.{Malformed, Kind, Full}
use Rattle.varint.specs.Varint.{read_at, size_of}
use Rattle.varint.specs.declared.Decoded.{Decoded}
use Rattle.range_list.specs.Ranges.{Range, flat, over}
use Rattle.range_list.proofs.Laws.{flat_append, length_flat}
use Rattle.ack_frame.specs.Read.{is, range, int_of, int_at, kind_at, step_at, walk_of, legal, below, known, fields_at, head_of, found, done, accepted, read_ack, taken_of}
use Rattle.ack_frame.specs.declared.Int.{Int}
use Rattle.ack_frame.specs.declared.Below.{Below}
use Rattle.ack_frame.specs.declared.Head.{Head}
use Rattle.ack_frame.specs.declared.Ack.{Ack}

-- an integer, by what is read at its place
module _ (f : List ℕ) (at : ℕ) where
  pub int_err : {w : Refusal} → Err w ≡ read_at f at → Err w ≡ int_at f at
  unfolding int_at read_at
  int_err e = ap (int_of at) e

  pub int_is : {d : Decoded} → Ok d ≡ read_at f at → is d.value (at + d.len) ≡ int_at f at
  unfolding int_at read_at
  int_is e = ap (int_of at) e

-- the type, by the integer that is there and n, what `size` says of its number
module _ (f : List ℕ) where
  pub kind_err : {w : Refusal} → Err w ≡ int_at f 0 → Err w ≡ kind_at f
  unfolding kind_at
  kind_err {w} e = let i : int_at f 0 ≡ Err w = sym e in rw i

  module _ {k : Int} {n : ℕ} (e : Ok k ≡ int_at f 0) (z : n ≡ size_of k.value) where
    pub kind_long : (k.next ≡ n → ⊥) → Err Malformed ≡ kind_at f
    unfolding kind_at
    kind_long h = let i : int_at f 0 ≡ Ok k = sym e in rw (i, sym z, ne_eqb k.next n h)

    pub kind_other : k.next ≡ n → (k.value ≡ 2 → ⊥) → Err Kind ≡ kind_at f
    unfolding kind_at
    kind_other h g = let i : int_at f 0 ≡ Ok k = sym e in rw (i, sym z, eq-eqb k.next n h, ne_eqb k.value 2 g)

    pub kind_is : k.next ≡ n → k.value ≡ 2 → Ok k.next ≡ kind_at f
    unfolding kind_at
    kind_is h g = let i : int_at f 0 ≡ Ok k = sym e in rw (i, sym z, eq-eqb k.next n h, eq-eqb k.value 2 g)

-- a pair: each integer that is refused, each that is too large, and both
module _ (f : List ℕ) (at low : ℕ) where
  pub step_1 : {w : Refusal} → Err w ≡ int_at f at → Err w ≡ step_at f at low
  unfolding step_at
  step_1 {w} e = let i : int_at f at ≡ Err w = sym e in rw i

  module _ {g : Int} (e : Ok g ≡ int_at f at) where
    pub step_gap : low < g.value + 2 → Err Malformed ≡ step_at f at low
    unfolding step_at
    step_gap h = let i : int_at f at ≡ Ok g = sym e in rw (i, lt-ltb low (g.value + 2) h)

    module _ (h : g.value + 2 ≤ low) where
      pub step_2 : {w : Refusal} → Err w ≡ int_at f g.next → Err w ≡ step_at f at low
      unfolding step_at
      step_2 {w} k =
          let i : int_at f at ≡ Ok g = sym e in
          let j : int_at f g.next ≡ Err w = sym k in
          rw (i, le-ltb low (g.value + 2) h, j)

      module _ {l : Int} (k : Ok l ≡ int_at f g.next) where
        pub step_len : low - (g.value + 2) < l.value → Err Malformed ≡ step_at f at low
        unfolding step_at
        step_len o =
            let i : int_at f at ≡ Ok g = sym e in
            let j : int_at f g.next ≡ Ok l = sym k in
            rw (i, le-ltb low (g.value + 2) h, j, lt-ltb (low - (g.value + 2)) l.value o)

        pub step_is : l.value ≤ low - (g.value + 2) → range l.next (low - (g.value + 2) - l.value) (low - (g.value + 2) + 1) ≡ step_at f at low
        unfolding step_at
        step_is o =
            let i : int_at f at ≡ Ok g = sym e in
            let j : int_at f g.next ≡ Ok l = sym k in
            rw (i, le-ltb low (g.value + 2) h, j, le-ltb (low - (g.value + 2)) l.value o)

-- the fields: each that is refused, the first range too long, and all
module _ (f : List ℕ) (at : ℕ) where
  pub fields_1 : {w : Refusal} → Err w ≡ int_at f at → Err w ≡ fields_at f at
  unfolding fields_at
  fields_1 {w} e = let i : int_at f at ≡ Err w = sym e in rw i

  module _ {largest : Int} (e : Ok largest ≡ int_at f at) where
    pub fields_2 : {w : Refusal} → Err w ≡ int_at f largest.next → Err w ≡ fields_at f at
    unfolding fields_at
    fields_2 {w} p =
        let i : int_at f at ≡ Ok largest = sym e in
        let j : int_at f largest.next ≡ Err w = sym p in
        rw (i, j)

    module _ {delay : Int} (p : Ok delay ≡ int_at f largest.next) where
      pub fields_3 : {w : Refusal} → Err w ≡ int_at f delay.next → Err w ≡ fields_at f at
      unfolding fields_at
      fields_3 {w} m =
          let i : int_at f at ≡ Ok largest = sym e in
          let j : int_at f largest.next ≡ Ok delay = sym p in
          let l : int_at f delay.next ≡ Err w = sym m in
          rw (i, j, l)

      module _ {count : Int} (m : Ok count ≡ int_at f delay.next) where
        pub fields_4 : {w : Refusal} → Err w ≡ int_at f count.next → Err w ≡ fields_at f at
        unfolding fields_at
        fields_4 {w} o =
            let i : int_at f at ≡ Ok largest = sym e in
            let j : int_at f largest.next ≡ Ok delay = sym p in
            let l : int_at f delay.next ≡ Ok count = sym m in
            let v : int_at f count.next ≡ Err w = sym o in
            rw (i, j, l, v)

        module _ {first : Int} (o : Ok first ≡ int_at f count.next) where
          pub fields_low : largest.value < first.value → Err Malformed ≡ fields_at f at
          unfolding fields_at
          fields_low h =
              let i : int_at f at ≡ Ok largest = sym e in
              let j : int_at f largest.next ≡ Ok delay = sym p in
              let l : int_at f delay.next ≡ Ok count = sym m in
              let v : int_at f count.next ≡ Ok first = sym o in
              rw (i, j, l, v, lt-ltb largest.value first.value h)

          pub fields_all : first.value ≤ largest.value → known first.next largest.value delay.value count.value (largest.value - first.value) ≡ fields_at f at
          unfolding fields_at
          fields_all h =
              let i : int_at f at ≡ Ok largest = sym e in
              let j : int_at f largest.next ≡ Ok delay = sym p in
              let l : int_at f delay.next ≡ Ok count = sym m in
              let v : int_at f count.next ≡ Ok first = sym o in
              rw (i, j, l, v, le-ltb largest.value first.value h)

-- the head, by its type
module _ (f : List ℕ) where
  pub head_err : {w : Refusal} → Err w ≡ kind_at f → Err w ≡ head_of f
  unfolding head_of
  head_err {w} e = let i : kind_at f ≡ Err w = sym e in rw i

  pub head_is : {a : ℕ} {h : Result Head Refusal} → Ok a ≡ kind_at f → h ≡ fields_at f a → h ≡ head_of f
  unfolding head_of
  head_is {a} e g = let i : kind_at f ≡ Ok a = sym e in rw i g

-- one turn of the walk: the pair at `at` is refused, does not fit, or leads on
module _ (f : List ℕ) (at low room : ℕ) where
  pub walk_stop : (n : ℕ) {w : Refusal} → 0 < n → step_at f at low ≡ Err w → walk_of f n at low room ≡ Err w
  unfolding walk_of
  walk_stop zero p e = let z : ⊥ = omega arith in absurd z
  walk_stop (suc n) p e = rw e

  pub walk_full : (n : ℕ) {b : Below} → 0 < n → step_at f at low ≡ Ok b → room ≡ 0 → walk_of f n at low room ≡ Err Full
  unfolding walk_of
  walk_full zero p e q = let z : ⊥ = omega arith in absurd z
  walk_full (suc n) p e q = rw (e, q)

  pub walk_on : (n : ℕ) {b : Below} → 0 < n → step_at f at low ≡ Ok b → 0 < room →
      walk_of f n at low room ≡ walk_of f (n - 1) b.next b.lo (room - 1)
  unfolding walk_of
  walk_on zero p e q = let z : ⊥ = omega arith in absurd z
  walk_on (suc n) p e q = let m : suc n - 1 ≡ n = omega arith in rw (e, lt-ltb 0 room q, m)

-- two numbers stored side by side
pub two_stores : (l : List ℕ) (p a b : ℕ) → p + 1 < length l → drop p (set (set l p a) (p + 1) b) ≡ a ∷ b ∷ drop (p + 2) l
two_stores l p a b h =
    let e : p + 1 ≡ suc p = omega arith in
    let g : p + 2 ≡ suc (suc p) = omega arith in
    let k : suc p < length l = omega arith in
    let k1 : suc p < length (set l p a) = simp length-set (omega arith) in
    rw (
      e,
      g,
      drop-cons (set (set l p a) (suc p) b) p 0 (simp length-set (omega arith)),
      drop-cons (set (set l p a) (suc p) b) (suc p) 0 (simp length-set (omega arith)),
      get_or-set_same (set l p a) (suc p) b 0 k1,
      get_or-set_other (set l p a) (suc p) p b 0 (omega arith),
      get_or-set_same l p a 0 (omega arith),
      drop-set-lt (suc (suc p)) (set l p a) (suc p) b (omega arith),
      drop-set-lt (suc (suc p)) l p a (omega arith),
    )

-- a range in front of the others, highest first, is the last of the ascending list
pub flat_last : (r : Range) (rs : List Range) (tail : List ℕ) → flat (reverse (r ∷ rs)) ++ tail ≡ flat (reverse rs) ++ (r.lo ∷ r.hi ∷ tail)
flat_last r rs tail =
    ap (λ (x : List Range). flat x ++ tail) (reverse-cons r rs)
    ∙ ap (λ (x : List ℕ). x ++ tail) (flat_append (reverse rs) (r ∷ []))
    ∙ append_assoc (flat (reverse rs)) (r.lo ∷ r.hi ∷ []) tail

-- one turn of the filling pass
module _ (f : List ℕ) (at low : ℕ) where
  pub legal_on : (n : ℕ) {b : Below} → 0 < n → step_at f at low ≡ Ok b → legal f n at low ≡ true → legal f (n - 1) b.next b.lo ≡ true
  unfolding legal
  legal_on zero p e q = let z : ⊥ = omega arith in absurd z
  legal_on (suc n) p e q = let m : suc n - 1 ≡ n = omega arith in rw m (rw e at q)

  pub legal_stop : (n : ℕ) {w : Refusal} → 0 < n → step_at f at low ≡ Err w → legal f n at low ≡ true → ⊥
  unfolding legal
  legal_stop zero p e q = omega arith
  legal_stop (suc n) p e q = let z : false ≡ true = rw e at q in let y : ◌≡◌ {A = ℕ} 0 1 = cc in omega arith

  below_on : (n : ℕ) {b : Below} → step_at f at low ≡ Ok b → below f (suc n) at low ≡ record { lo = b.lo; hi = b.hi } ∷ below f n b.next b.lo
  unfolding below
  below_on n e = rw e

  pub fill_on : (n : ℕ) (l : List ℕ) {b : Below} → 0 < n → step_at f at low ≡ Ok b → 2 * n ≤ length l →
      flat (reverse (below f (n - 1) b.next b.lo)) ++ drop (2 * (n - 1)) (set (set l (2 * (n - 1)) b.lo) (2 * (n - 1) + 1) b.hi) ≡ flat (reverse (below f n at low)) ++ drop (2 * n) l
  fill_on zero l p e h = let z : ⊥ = omega arith in absurd z
  fill_on (suc n) l {b} p e h =
      let m : suc n - 1 ≡ n = omega arith in
      let k : 2 * suc n ≡ 2 * n + 2 = omega arith in
      let t : drop (2 * n) (set (set l (2 * n) b.lo) (2 * n + 1) b.hi) ≡ b.lo ∷ b.hi ∷ drop (2 * n + 2) l = two_stores l (2 * n) b.lo b.hi (omega arith) in
      let q : flat (reverse (below f (suc n) at low)) ++ drop (2 * n + 2) l ≡ flat (reverse (below f n b.next b.lo)) ++ (b.lo ∷ b.hi ∷ drop (2 * n + 2) l) =
      ap (λ (x : List Range). flat (reverse x) ++ drop (2 * n + 2) l) (below_on n e) ∙ flat_last (record { lo = b.lo; hi = b.hi }) (below f n b.next b.lo) (drop (2 * n + 2) l) in
      rw (m, k, t) (sym q)

-- pairs that a walk ends at fit, and are legal
pub walk_legal : (f : List ℕ) (n at low room : ℕ) {e : ℕ} → walk_of f n at low room ≡ Ok e → (n ≤ room) × (legal f n at low ≡ true)
unfolding walk_of legal
walk_legal f zero at low room q = (omega arith, refl)
walk_legal f (suc n) at low room {e} q = more (λ a lo r. walk_legal f n a lo r) (step_at f at low) refl where
  more : ((a lo r : ℕ) → walk_of f n a lo r ≡ Ok e → (n ≤ r) × (legal f n a lo ≡ true)) →
      (s : Result Below Refusal) → step_at f at low ≡ s → (suc n ≤ room) × (legal f (suc n) at low ≡ true)
  more ih (Err w) p = let y : ◌≡◌ {A = ℕ} 0 1 = cc (walk_stop f at low room (suc n) (omega arith) p) in let z : ⊥ = omega arith in absurd z
  more ih (Ok b) p =
      ⊎_elim
      (λ o. let y : ◌≡◌ {A = ℕ} 0 1 = cc (walk_full f at low room (suc n) (omega arith) p o) in let z : ⊥ = omega arith in absurd z)
      (λ o. let m : suc n - 1 ≡ n = omega arith in
      let pos : 0 < suc n = omega arith in
      let u : walk_of f (suc n - 1) b.next b.lo (room - 1) ≡ Ok e = sym (walk_on f at low room (suc n) pos p o) ∙ q in
      let i = ih b.next b.lo (room - 1) (rw m at u) in
      (omega arith, rw p i.1))
      (eq-zero-or-pos room)

-- as many ranges as pairs
pub length_below : (f : List ℕ) (n at low : ℕ) → legal f n at low ≡ true → length (below f n at low) ≡ n
unfolding below legal
length_below f zero at low q = refl
length_below f (suc n) at low q = by_step (λ a lo. length_below f n a lo) (step_at f at low) refl where
  by_step : ((a lo : ℕ) → legal f n a lo ≡ true → length (below f n a lo) ≡ n) → (s : Result Below Refusal) → step_at f at low ≡ s → length (below f (suc n) at low) ≡ suc n
  by_step ih (Ok b) p = rw p (ap suc (ih b.next b.lo (rw p at q)))
  by_step ih (Err w) p = let z : false ≡ true = rw p at q in let y : ◌≡◌ {A = ℕ} 0 1 = cc in let x : ⊥ = omega arith in absurd x

pub length_reverse : (rs : List Range) → length (reverse rs) ≡ length rs
length_reverse [] = refl
length_reverse (r ∷ rs) = ap length (reverse-cons r rs) ∙ simp (length-append, length_reverse rs) (omega arith)

-- what reading comes to, in each of its four cases
module _ (f l : List ℕ) where
  pub read_bad : {w : Refusal} → Err w ≡ head_of f → done (Err w) l ≡ read_ack f l
  unfolding read_ack
  read_bad {w} e = let i : head_of f ≡ Err w = sym e in rw i

  module _ {h : Head} (e : Ok h ≡ head_of f) where
    pub read_full : length l / 2 ≡ 0 → done (Err Full) l ≡ read_ack f l
    unfolding read_ack
    read_full o = let i : head_of f ≡ Ok h = sym e in rw (i, o)

    pub read_stop : {w : Refusal} → 0 < length l / 2 → walk_of f h.count h.at h.low (length l / 2 - 1) ≡ Err w → done (Err w) l ≡ read_ack f l
    unfolding read_ack
    read_stop o g = let i : head_of f ≡ Ok h = sym e in rw (i, lt-ltb 0 (length l / 2) o, g)

    pub read_ok : {x : ℕ} {m : List ℕ} → 0 < length l / 2 → walk_of f h.count h.at h.low (length l / 2 - 1) ≡ Ok x
        → m ≡ over (flat (reverse (found f h.count h.at h.low h.largest))) l
        → done (Ok (accepted (h.count + 1) h.largest h.delay x)) m ≡ read_ack f l
    unfolding read_ack
    read_ok o g p = let i : head_of f ≡ Ok h = sym e in rw (i, lt-ltb 0 (length l / 2) o, g, p)

-- the first range goes behind the others, and what lies past them is as it was
pub list_filled : (f l : List ℕ) (n at low largest : ℕ) → legal f n at low ≡ true → 2 * n + 1 < length l →
    flat (reverse (below f n at low)) ++ drop (2 * n) (set (set l (2 * n) low) (2 * n + 1) (largest + 1)) ≡ over (flat (reverse (found f n at low largest))) l
list_filled f l n at low largest g h =
    let b = below f n at low in
    let r : Range = record { lo = low; hi = largest + 1 } in
    let k : length (flat (reverse (r ∷ b))) ≡ 2 * n + 2 =
    length_flat (reverse (r ∷ b)) ∙ ap (λ (j : ℕ). j * 2) (length_reverse (r ∷ b)) ∙ omega (arith, length_below f n at low g) in
    rw (two_stores l (2 * n) low (largest + 1) h, k) (sym (flat_last r b (drop (2 * n + 2) l)))

-- the part that was taken
pub taken_past : (f : List ℕ) (a : Ack) → length f < a.taken → take (0 - 0) (drop 0 f) ≡ taken_of f a
unfolding taken_of
taken_past f a h = rw (lt-leb a.taken (length f) h)

pub taken_is : (f : List ℕ) (a : Ack) → a.taken ≤ length f → take (a.taken - 0) (drop 0 f) ≡ taken_of f a
unfolding taken_of
taken_is f a h = let e : a.taken - 0 ≡ a.taken = omega arith in rw (le-leb a.taken (length f) h, e)

pub ruleset taken_laws = (taken_past, taken_is)
