-- Each name of a grammar has the code that the crate `codes` has by that name, and those are all: what a driver does for a code is what the line
-- asked for. By computing. Assumes nothing.
use mathlib.Core.Path.{◌≡◌, refl}
use mathlib.Core.List.{List, [], ◌∷◌}
use Prim.Native.Nat.{ℕ, ◌+◌}
use Rattle.text.specs.Words.{word_at, skipped, ended, same}
use Rattle.codes.specs.Codes.{CT_EQ, VI_DEC, VI_ENC, PN_NEW, PN_READ, DD_INSERT, DD_NEW, RS_INSERT, RS_REMOVE, RS_CONTAINS, RS_ONE, RS_REPLACE, RS_MIN, RS_MAX, RS_LEN, RS_POP, RS_NEW, RS_ADD, RS_SUB, RS_CAP, PA_INSERT, PA_BELOW, PA_NEW, AF_READ, AF_WRITE, CQ_FRAME, CQ_NEXT, CQ_ACTIVE, CQ_RESET, CQ_NEW, CQ_UPDATE, MT_POLL, MT_ACK, MT_LOST, MT_PLOST, MT_HOLE, MT_PEER, MT_NEW, MT_OFF, MT_RESET, ST_DATA, ST_RESET, ST_STOP, ST_READ, ST_SEEN, ST_ANNOUNCE, ST_SENT, ST_OPEN, ST_WANT, ST_MAXSTREAMS, ST_CREDIT, ST_ZREJ, ST_WINDOW, ST_NEW}
use Rattle.std.specs.Prelude.{Option, Some, map, option_map}
use Rattle.events.specs.declared.Found.{Found}
use Rattle.events.specs.declared.Module.{Module}
use Rattle.events.specs.declared.Module.TheVariants.{Ct, Vi, Pn, Dd, Rs, Pa, Af, Cq, Mt, St}
use Rattle.events.specs.Modules.{base_of, grammar_of}
use Rattle.events.specs.Events.{find_from, find_in}

-- the code of a name of a module, if the grammar has the name
unfoldable pub code_of : Module → List ℕ → Option ℕ
code_of m name = option_map (λ (f : Found). base_of m + f.index) (find_in (grammar_of m) name)

unfoldable pub codes_of : Module → List (List ℕ) → List (Option ℕ)
codes_of m [] = []
codes_of m (name ∷ names) = code_of m name ∷ codes_of m names

-- eq
pub ct_codes : codes_of Ct
    ((101 ∷ 113 ∷ []) ∷ [])
    ≡ map Some (CT_EQ ∷ [])
unfolding codes_of code_of base_of grammar_of find_in find_from word_at skipped ended same
ct_codes = refl

-- dec, enc
pub vi_codes : codes_of Vi
    ((100 ∷ 101 ∷ 99 ∷ [])
    ∷ (101 ∷ 110 ∷ 99 ∷ []) ∷ [])
    ≡ map Some (VI_DEC ∷ VI_ENC ∷ [])
unfolding codes_of code_of base_of grammar_of find_in find_from word_at skipped ended same
vi_codes = refl

-- new, read
pub pn_codes : codes_of Pn
    ((110 ∷ 101 ∷ 119 ∷ [])
    ∷ (114 ∷ 101 ∷ 97 ∷ 100 ∷ []) ∷ [])
    ≡ map Some (PN_NEW ∷ PN_READ ∷ [])
unfolding codes_of code_of base_of grammar_of find_in find_from word_at skipped ended same
pn_codes = refl

-- insert, new
pub dd_codes : codes_of Dd
    ((105 ∷ 110 ∷ 115 ∷ 101 ∷ 114 ∷ 116 ∷ [])
    ∷ (110 ∷ 101 ∷ 119 ∷ []) ∷ [])
    ≡ map Some (DD_INSERT ∷ DD_NEW ∷ [])
unfolding codes_of code_of base_of grammar_of find_in find_from word_at skipped ended same
dd_codes = refl

-- insert, remove, contains, one, replace, min, max, len, pop, new, add, sub, cap
pub rs_codes : codes_of Rs
    ((105 ∷ 110 ∷ 115 ∷ 101 ∷ 114 ∷ 116 ∷ [])
    ∷ (114 ∷ 101 ∷ 109 ∷ 111 ∷ 118 ∷ 101 ∷ [])
    ∷ (99 ∷ 111 ∷ 110 ∷ 116 ∷ 97 ∷ 105 ∷ 110 ∷ 115 ∷ [])
    ∷ (111 ∷ 110 ∷ 101 ∷ [])
    ∷ (114 ∷ 101 ∷ 112 ∷ 108 ∷ 97 ∷ 99 ∷ 101 ∷ [])
    ∷ (109 ∷ 105 ∷ 110 ∷ [])
    ∷ (109 ∷ 97 ∷ 120 ∷ [])
    ∷ (108 ∷ 101 ∷ 110 ∷ [])
    ∷ (112 ∷ 111 ∷ 112 ∷ [])
    ∷ (110 ∷ 101 ∷ 119 ∷ [])
    ∷ (97 ∷ 100 ∷ 100 ∷ [])
    ∷ (115 ∷ 117 ∷ 98 ∷ [])
    ∷ (99 ∷ 97 ∷ 112 ∷ []) ∷ [])
    ≡ map Some (RS_INSERT ∷ RS_REMOVE ∷ RS_CONTAINS ∷ RS_ONE ∷ RS_REPLACE ∷ RS_MIN ∷ RS_MAX ∷ RS_LEN ∷ RS_POP ∷ RS_NEW ∷ RS_ADD ∷ RS_SUB ∷ RS_CAP ∷ [])
unfolding codes_of code_of base_of grammar_of find_in find_from word_at skipped ended same
rs_codes = refl

-- insert, below, new
pub pa_codes : codes_of Pa
    ((105 ∷ 110 ∷ 115 ∷ 101 ∷ 114 ∷ 116 ∷ [])
    ∷ (98 ∷ 101 ∷ 108 ∷ 111 ∷ 119 ∷ [])
    ∷ (110 ∷ 101 ∷ 119 ∷ []) ∷ [])
    ≡ map Some (PA_INSERT ∷ PA_BELOW ∷ PA_NEW ∷ [])
unfolding codes_of code_of base_of grammar_of find_in find_from word_at skipped ended same
pa_codes = refl

-- read, write
pub af_codes : codes_of Af
    ((114 ∷ 101 ∷ 97 ∷ 100 ∷ [])
    ∷ (119 ∷ 114 ∷ 105 ∷ 116 ∷ 101 ∷ []) ∷ [])
    ≡ map Some (AF_READ ∷ AF_WRITE ∷ [])
unfolding codes_of code_of base_of grammar_of find_in find_from word_at skipped ended same
af_codes = refl

-- frame, next, active, reset, new, update
pub cq_codes : codes_of Cq
    ((102 ∷ 114 ∷ 97 ∷ 109 ∷ 101 ∷ [])
    ∷ (110 ∷ 101 ∷ 120 ∷ 116 ∷ [])
    ∷ (97 ∷ 99 ∷ 116 ∷ 105 ∷ 118 ∷ 101 ∷ [])
    ∷ (114 ∷ 101 ∷ 115 ∷ 101 ∷ 116 ∷ [])
    ∷ (110 ∷ 101 ∷ 119 ∷ [])
    ∷ (117 ∷ 112 ∷ 100 ∷ 97 ∷ 116 ∷ 101 ∷ []) ∷ [])
    ≡ map Some (CQ_FRAME ∷ CQ_NEXT ∷ CQ_ACTIVE ∷ CQ_RESET ∷ CQ_NEW ∷ CQ_UPDATE ∷ [])
unfolding codes_of code_of base_of grammar_of find_in find_from word_at skipped ended same
cq_codes = refl

-- poll, ack, lost, plost, hole, peer, new, off, reset
pub mt_codes : codes_of Mt
    ((112 ∷ 111 ∷ 108 ∷ 108 ∷ [])
    ∷ (97 ∷ 99 ∷ 107 ∷ [])
    ∷ (108 ∷ 111 ∷ 115 ∷ 116 ∷ [])
    ∷ (112 ∷ 108 ∷ 111 ∷ 115 ∷ 116 ∷ [])
    ∷ (104 ∷ 111 ∷ 108 ∷ 101 ∷ [])
    ∷ (112 ∷ 101 ∷ 101 ∷ 114 ∷ [])
    ∷ (110 ∷ 101 ∷ 119 ∷ [])
    ∷ (111 ∷ 102 ∷ 102 ∷ [])
    ∷ (114 ∷ 101 ∷ 115 ∷ 101 ∷ 116 ∷ []) ∷ [])
    ≡ map Some (MT_POLL ∷ MT_ACK ∷ MT_LOST ∷ MT_PLOST ∷ MT_HOLE ∷ MT_PEER ∷ MT_NEW ∷ MT_OFF ∷ MT_RESET ∷ [])
unfolding codes_of code_of base_of grammar_of find_in find_from word_at skipped ended same
mt_codes = refl

-- data, reset, stop, read, seen, announce, sent, open, want, maxstreams, credit, zrej, window, new
pub st_codes : codes_of St
    ((100 ∷ 97 ∷ 116 ∷ 97 ∷ [])
    ∷ (114 ∷ 101 ∷ 115 ∷ 101 ∷ 116 ∷ [])
    ∷ (115 ∷ 116 ∷ 111 ∷ 112 ∷ [])
    ∷ (114 ∷ 101 ∷ 97 ∷ 100 ∷ [])
    ∷ (115 ∷ 101 ∷ 101 ∷ 110 ∷ [])
    ∷ (97 ∷ 110 ∷ 110 ∷ 111 ∷ 117 ∷ 110 ∷ 99 ∷ 101 ∷ [])
    ∷ (115 ∷ 101 ∷ 110 ∷ 116 ∷ [])
    ∷ (111 ∷ 112 ∷ 101 ∷ 110 ∷ [])
    ∷ (119 ∷ 97 ∷ 110 ∷ 116 ∷ [])
    ∷ (109 ∷ 97 ∷ 120 ∷ 115 ∷ 116 ∷ 114 ∷ 101 ∷ 97 ∷ 109 ∷ 115 ∷ [])
    ∷ (99 ∷ 114 ∷ 101 ∷ 100 ∷ 105 ∷ 116 ∷ [])
    ∷ (122 ∷ 114 ∷ 101 ∷ 106 ∷ [])
    ∷ (119 ∷ 105 ∷ 110 ∷ 100 ∷ 111 ∷ 119 ∷ [])
    ∷ (110 ∷ 101 ∷ 119 ∷ []) ∷ [])
    ≡ map Some (ST_DATA ∷ ST_RESET ∷ ST_STOP ∷ ST_READ ∷ ST_SEEN ∷ ST_ANNOUNCE ∷ ST_SENT ∷ ST_OPEN ∷ ST_WANT ∷ ST_MAXSTREAMS ∷ ST_CREDIT ∷ ST_ZREJ ∷ ST_WINDOW ∷ ST_NEW ∷ [])
unfolding codes_of code_of base_of grammar_of find_in find_from word_at skipped ended same
st_codes = refl
