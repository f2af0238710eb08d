-- One law for each return: its premises are the code's tests and what the calls before it promise. They hold by rewriting the definition with those.
-- Assumes nothing.
use mathlib.Core.Path.{◌≡◌}
use mathlib.Core.List.{List}
use mathlib.Core.Bool.{Bool, true, false}
use Prim.Native.Nat.{ℕ, suc, ◌+◌, ◌-◌, ◌≤◌, ◌<◌}
use native.Mathlib.Omega.{arith}
use lib.ListN.{length, take, drop, get_or}
use borrow.Author.Tests.{lt-ltb, le-ltb, ne_eqb}
use Rattle.std.specs.Prelude.{Option, Some, None, Ok, Err}
use Rattle.std.proofs.lemmas.List.{take_rest}
use Rattle.text.specs.declared.Word.{Word}
use Rattle.text.specs.Words.{word_at, spelt, is_end, same}
use Rattle.words.specs.declared.Cursor.{Cursor}
use Rattle.events.specs.declared.NoEvent.TheVariants.{Unknown, Unfit}
use Rattle.events.specs.declared.Found.{Found}
use Rattle.events.specs.declared.Module.{Module}
use Rattle.words.specs.Words.{words_taken, Both, both}
use Rattle.events.specs.Modules.{named, module_of, base_of, grammar_of}
use Rattle.events.specs.Events.{Parsed, finished, find_from, find_in, event_in, event_of}

-- ---- the end of an event's words

module _ (s : List ℕ) (code : ℕ) (c : Cursor) where
  pub finish_unfit : c.ok ≡ false → Err Unfit ≡ finished s code c
  unfolding finished
  finish_unfit f = rw f

  module _ {t : Bool} (f : c.ok ≡ true) (e : t ≡ is_end s c.at) where
    pub finish_end : t ≡ true → Ok (record { code = code; count = c.count; first = c.first; size = c.size }) ≡ finished s code c
    unfolding finished
    finish_end h = rw (f, ← e, h)

    pub finish_more : t ≡ false → Err Unfit ≡ finished s code c
    unfolding finished
    finish_more h = rw (f, ← e, h)

-- ---- a name in a grammar

module _ (g name : List ℕ) (at k : ℕ) {w v : Word} {t : Bool} (h : k < 16) (e : w ≡ word_at g at) (f : v ≡ word_at g w.end) (q : t ≡ same (spelt g w) name) where
  pub find_here : t ≡ true → Some (record { index = k; shape = v }) ≡ find_from (16 - k) g at k name
  unfolding find_from
  find_here p = let m : 16 - k ≡ suc (15 - k) = omega arith in rw (m, f, ← e, ← q, p)

  pub find_on : t ≡ false → find_from (16 - (k + 1)) g v.end (k + 1) name ≡ find_from (16 - k) g at k name
  unfolding find_from
  find_on p =
      let m : 16 - k ≡ suc (15 - k) = omega arith in
      let n : 16 - (k + 1) ≡ 15 - k = omega arith in
      rw (m, n, ← e, ← f, ← q, p)

pub find_end : (g name : List ℕ) (at k : ℕ) → 16 ≤ k → None ≡ find_from (16 - k) g at k name
unfolding find_from
find_end g name at k h = let m : 16 - k ≡ 0 = omega arith in rw m

-- ---- the whole event

module _ (s name : List ℕ) (at : ℕ) (m : Module) (l b : List ℕ) {g : List ℕ} {o : Option Found} (p : g ≡ grammar_of m) (e : o ≡ find_in g name) where
  pub event_unknown : o ≡ None → both (Err Unknown) l b ≡ event_in s name at m l b
  unfolding event_in
  event_unknown h = rw (← p, ← e, h)

  pub event_known : {f : Found} {n : ℕ} {c : Cursor} {x y : List ℕ} {r : Parsed} → o ≡ Some f → n ≡ base_of m
      → both c x y ≡ words_taken s at (spelt g f.shape) l b → r ≡ finished s (n + f.index) c → both r x y ≡ event_in s name at m l b
  unfolding event_in
  event_known h k q u = rw (← p, ← e, h, ← p, ← k, ← q, u)

-- ---- the module of a line

module _ (s : List ℕ) where
  pub module_short : length s < 4 → None ≡ module_of s
  unfolding module_of
  module_short h = rw (lt-ltb (length s) 4 h)

  pub module_no_point : 4 ≤ length s → (get_or s 2 0 ≡ 46 → ⊥) → None ≡ module_of s
  unfolding module_of
  module_no_point h k = rw (le-ltb (length s) 4 h, ne_eqb (get_or s 2 0) 46 k)

  pub module_named : {o : Option Module} → 4 ≤ length s → get_or s 2 0 ≡ 46 → o ≡ named (get_or s 0 0) (get_or s 1 0) → o ≡ module_of s
  unfolding module_of
  module_named h k e = rw (le-ltb (length s) 4 h, k, e)

module _ (s l b : List ℕ) {w : Word} {o : Option Module} (e : w ≡ word_at s 0) (f : o ≡ module_of (spelt s w)) where
  pub no_module : o ≡ None → both (Err Unknown) l b ≡ event_of s l b
  unfolding event_of
  no_module h = rw (← e, ← f, h)

  pub in_module_law : {m : Module} {r : Both Parsed} → o ≡ Some m → r ≡ event_in s (take (length (spelt s w) - 3) (drop 3 (spelt s w))) w.end m l b → r ≡ event_of s l b
  unfolding event_of
  in_module_law h q = rw (← e, ← f, h, ← take_rest (spelt s w) 3) q
