-- Which event a line is: the first word, up to its point, names the module, and the module's grammar has the rest of it with the kinds of its words
-- (docs/EVENTS.md). Assumes nothing.
use Rattle.std.specs.Prelude.{ℕ, zero, suc, ◌+◌, List, Option, Some, None, Result, Ok, Err, cond, drop}
use Rattle.text.specs.Words.{word_at, spelt, is_end, same}
use Rattle.words.specs.declared.Cursor.{Cursor}
use Rattle.events.specs.declared.Event.{Event}
use Rattle.events.specs.declared.NoEvent.{NoEvent}
use Rattle.events.specs.declared.NoEvent.TheVariants.{Unknown, Unfit}
use Rattle.events.specs.declared.Found.{Found}
use Rattle.events.specs.declared.Module.{Module}
use Rattle.words.specs.Words.{Both, both, words_taken}
use Rattle.events.specs.Modules.{module_of, base_of, grammar_of}

-- an event, or why there is none
abbrev pub Parsed : Type 0
Parsed = Result Event NoEvent

-- all words fitted, and there are no more; else the line is no event, by its words
unfoldable pub finished : List ℕ → ℕ → Cursor → Parsed
finished s code c =
    cond c.ok (cond (is_end s c.at) (Ok (record { code = code; count = c.count; first = c.first; size = c.size })) (Err Unfit)) (Err Unfit)

-- a name among the first k of what is left of a grammar
unfoldable pub find_from : ℕ → List ℕ → ℕ → ℕ → List ℕ → Option Found
find_from zero g at index name = None
find_from (suc k) g at index name =
    cond (same (spelt g (word_at g at)) name)
    (Some (record { index = index; shape = word_at g (word_at g at).end }))
    (find_from k g (word_at g (word_at g at).end).end (index + 1) name)

unfoldable pub find_in : List ℕ → List ℕ → Option Found
find_in g name = find_from 16 g 0 0 name

abbrev pub worded : List ℕ → ℕ → Both Cursor → Both Parsed
worded s code d = both (finished s code d.out) d.numbers d.bytes

-- a name that the grammar has not is no event
abbrev pub found_in : List ℕ → ℕ → Module → Option Found → List ℕ → List ℕ → Both Parsed
found_in s at m None l b = both (Err Unknown) l b
found_in s at m (Some f) l b = worded s (base_of m + f.index) (words_taken s at (spelt (grammar_of m) f.shape) l b)

unfoldable pub event_in : List ℕ → List ℕ → ℕ → Module → List ℕ → List ℕ → Both Parsed
event_in s name at m l b = found_in s at m (find_in (grammar_of m) name) l b

-- a module that there is not has no event
abbrev pub in_module : Option Module → List ℕ → List ℕ → ℕ → List ℕ → List ℕ → Both Parsed
in_module None s name at l b = both (Err Unknown) l b
in_module (Some m) s name at l b = event_in s name at m l b

-- the event of a line, by its first word: the module, and behind the point the name
unfoldable pub event_of : List ℕ → List ℕ → List ℕ → Both Parsed
event_of s l b = in_module (module_of (spelt s (word_at s 0))) s (drop 3 (spelt s (word_at s 0))) (word_at s 0).end l b
