-- Worked lines, by computing: the event, its numbers and its bytes. Assumes nothing.
use mathlib.Core.Path.{◌≡◌, refl}
use mathlib.Core.List.{[], ◌∷◌}
use Rattle.text.specs.Words.{word_at, skipped, ended, is_end, same}
use Rattle.text.specs.Numbers.{number_at}
use Rattle.text.specs.Bytes.{hex_value, is_hex, unhexed, unhex_at, bytes_at}
use Rattle.words.specs.Words.{pushed, pushed_two, number_taken, option_taken, name_taken, bytes_taken, pairs_from, pairs_taken, numbers_taken, one_taken, words_from, words_taken, both}
use Rattle.std.specs.Prelude.{Ok, Err}
use Rattle.events.specs.declared.NoEvent.TheVariants.{Unknown, Unfit}
use Rattle.events.specs.Modules.{named, module_of, base_of, grammar_of}
use Rattle.events.specs.Events.{finished, find_from, find_in, event_in, event_of}

-- dd.insert 7 is the event 64 with the number 7
pub insert_7 : event_of (100 ∷ 100 ∷ 46 ∷ 105 ∷ 110 ∷ 115 ∷ 101 ∷ 114 ∷ 116 ∷ 32 ∷ 55 ∷ []) (0 ∷ 0 ∷ 0 ∷ []) (0 ∷ 0 ∷ [])
    ≡ both (Ok (record { code = 64; count = 1; first = 0; size = 0 })) (7 ∷ 0 ∷ 0 ∷ []) (0 ∷ 0 ∷ [])
unfolding event_of base_of grammar_of module_of named event_in find_in find_from finished words_taken words_from one_taken numbers_taken pairs_taken pairs_from bytes_taken name_taken option_taken number_taken pushed_two pushed number_at bytes_at unhex_at unhexed is_hex hex_value word_at skipped ended is_end same
insert_7 = refl

-- ct.eq ab - has one byte in its first string and none in its second
pub compared : event_of (99 ∷ 116 ∷ 46 ∷ 101 ∷ 113 ∷ 32 ∷ 97 ∷ 98 ∷ 32 ∷ 45 ∷ []) (0 ∷ 0 ∷ 0 ∷ []) (0 ∷ 0 ∷ [])
    ≡ both (Ok (record { code = 16; count = 0; first = 1; size = 1 })) (0 ∷ 0 ∷ 0 ∷ []) (171 ∷ 0 ∷ [])
unfolding event_of base_of grammar_of module_of named event_in find_in find_from finished words_taken words_from one_taken numbers_taken pairs_taken pairs_from bytes_taken name_taken option_taken number_taken pushed_two pushed number_at bytes_at unhex_at unhexed is_hex hex_value word_at skipped ended is_end same
compared = refl

-- a word too many: no event
pub too_many : event_of (100 ∷ 100 ∷ 46 ∷ 105 ∷ 110 ∷ 115 ∷ 101 ∷ 114 ∷ 116 ∷ 32 ∷ 55 ∷ 32 ∷ 56 ∷ []) (0 ∷ 0 ∷ 0 ∷ []) (0 ∷ 0 ∷ [])
    ≡ both (Err Unfit) (7 ∷ 0 ∷ 0 ∷ []) (0 ∷ 0 ∷ [])
unfolding event_of base_of grammar_of module_of named event_in find_in find_from finished words_taken words_from one_taken numbers_taken pairs_taken pairs_from bytes_taken name_taken option_taken number_taken pushed_two pushed number_at bytes_at unhex_at unhexed is_hex hex_value word_at skipped ended is_end same
too_many = refl

-- no such name: no event
pub no_such : event_of (100 ∷ 100 ∷ 46 ∷ 102 ∷ 111 ∷ 114 ∷ 103 ∷ 101 ∷ 116 ∷ 32 ∷ 55 ∷ []) (0 ∷ 0 ∷ 0 ∷ []) (0 ∷ 0 ∷ [])
    ≡ both (Err Unknown) (0 ∷ 0 ∷ 0 ∷ []) (0 ∷ 0 ∷ [])
unfolding event_of base_of grammar_of module_of named event_in find_in find_from finished words_taken words_from one_taken numbers_taken pairs_taken pairs_from bytes_taken name_taken option_taken number_taken pushed_two pushed number_at bytes_at unhex_at unhexed is_hex hex_value word_at skipped ended is_end same
no_such = refl

-- st.open uni: the second of the two names is 1
pub open_uni : event_of (115 ∷ 116 ∷ 46 ∷ 111 ∷ 112 ∷ 101 ∷ 110 ∷ 32 ∷ 117 ∷ 110 ∷ 105 ∷ []) (0 ∷ 0 ∷ 0 ∷ []) (0 ∷ 0 ∷ [])
    ≡ both (Ok (record { code = 167; count = 1; first = 0; size = 0 })) (1 ∷ 0 ∷ 0 ∷ []) (0 ∷ 0 ∷ [])
unfolding event_of base_of grammar_of module_of named event_in find_in find_from finished words_taken words_from one_taken numbers_taken pairs_taken pairs_from bytes_taken name_taken option_taken number_taken pushed_two pushed number_at bytes_at unhex_at unhexed is_hex hex_value word_at skipped ended is_end same
open_uni = refl

-- a module that there is not: no event
pub no_module : event_of (120 ∷ 120 ∷ 46 ∷ 111 ∷ 112 ∷ 101 ∷ 110 ∷ 32 ∷ 117 ∷ 110 ∷ 105 ∷ []) (0 ∷ 0 ∷ 0 ∷ []) (0 ∷ 0 ∷ [])
    ≡ both (Err Unknown) (0 ∷ 0 ∷ 0 ∷ []) (0 ∷ 0 ∷ [])
unfolding event_of base_of grammar_of module_of named event_in find_in find_from finished words_taken words_from one_taken numbers_taken pairs_taken pairs_from bytes_taken name_taken option_taken number_taken pushed_two pushed number_at bytes_at unhex_at unhexed is_hex hex_value word_at skipped ended is_end same
no_module = refl

-- rs.new 5 is half a pair: no event
pub odd : event_of (114 ∷ 115 ∷ 46 ∷ 110 ∷ 101 ∷ 119 ∷ 32 ∷ 53 ∷ []) (0 ∷ 0 ∷ 0 ∷ []) (0 ∷ 0 ∷ [])
    ≡ both (Err Unfit) (5 ∷ 0 ∷ 0 ∷ []) (0 ∷ 0 ∷ [])
unfolding event_of base_of grammar_of module_of named event_in find_in find_from finished words_taken words_from one_taken numbers_taken pairs_taken pairs_from bytes_taken name_taken option_taken number_taken pushed_two pushed number_at bytes_at unhex_at unhexed is_hex hex_value word_at skipped ended is_end same
odd = refl

-- a number that has no place: no event
pub no_place : event_of (112 ∷ 110 ∷ 46 ∷ 110 ∷ 101 ∷ 119 ∷ 32 ∷ 53 ∷ 32 ∷ 54 ∷ []) (0 ∷ []) (0 ∷ 0 ∷ [])
    ≡ both (Err Unfit) (5 ∷ []) (0 ∷ 0 ∷ [])
unfolding event_of base_of grammar_of module_of named event_in find_in find_from finished words_taken words_from one_taken numbers_taken pairs_taken pairs_from bytes_taken name_taken option_taken number_taken pushed_two pushed number_at bytes_at unhex_at unhexed is_hex hex_value word_at skipped ended is_end same
no_place = refl
