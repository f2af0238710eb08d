-- The modules: the two letters that name each, the code of its first event, and its grammar. A grammar is a text, a name and then a word of the kinds
-- of its words, by turns; a name's code is its place in it, counted from the module's first code. Assumes nothing.
use Rattle.std.specs.Prelude.{ℕ, List, [], ◌∷◌, Option, Some, None, cond, ◌&&◌, length, get_or, ltb, eqb}
use Rattle.codes.specs.Codes.{CT_EQ, VI_DEC, PN_NEW, DD_INSERT, RS_INSERT, PA_INSERT, AF_READ, CQ_FRAME, MT_POLL, ST_DATA}
use Rattle.events.specs.declared.Module.{Module}
use Rattle.events.specs.declared.Module.TheVariants.{Ct, Vi, Pn, Dd, Rs, Pa, Af, Cq, Mt, St}

-- the module of two letters
unfoldable pub named : ℕ → ℕ → Option Module
named a b =
    cond (eqb a 99 && eqb b 116) (Some Ct)
    (cond (eqb a 118 && eqb b 105) (Some Vi)
    (cond (eqb a 112 && eqb b 110) (Some Pn)
    (cond (eqb a 100 && eqb b 100) (Some Dd)
    (cond (eqb a 114 && eqb b 115) (Some Rs)
    (cond (eqb a 112 && eqb b 97) (Some Pa)
    (cond (eqb a 97 && eqb b 102) (Some Af)
    (cond (eqb a 99 && eqb b 113) (Some Cq)
    (cond (eqb a 109 && eqb b 116) (Some Mt)
    (cond (eqb a 115 && eqb b 116) (Some St)
    None)))))))))

-- the module that a word begins with, two letters and a point; a name follows them
unfoldable pub module_of : List ℕ → Option Module
module_of s = cond (ltb (length s) 4) None (cond (eqb (get_or s 2 0) 46) (named (get_or s 0 0) (get_or s 1 0)) None)

-- the code of a module's first event
unfoldable pub base_of : Module → ℕ
base_of Ct = CT_EQ
base_of Vi = VI_DEC
base_of Pn = PN_NEW
base_of Dd = DD_INSERT
base_of Rs = RS_INSERT
base_of Pa = PA_INSERT
base_of Af = AF_READ
base_of Cq = CQ_FRAME
base_of Mt = MT_POLL
base_of St = ST_DATA

-- eq hg
abbrev pub ct_grammar : List ℕ
ct_grammar = 101 ∷ 113 ∷ 32 ∷ 104 ∷ 103 ∷ []

-- dec h enc n
abbrev pub vi_grammar : List ℕ
vi_grammar = 100 ∷ 101 ∷ 99 ∷ 32 ∷ 104 ∷ 32 ∷ 101 ∷ 110 ∷ 99 ∷ 32 ∷ 110 ∷ []

-- new nn read hn
abbrev pub pn_grammar : List ℕ
pn_grammar = 110 ∷ 101 ∷ 119 ∷ 32 ∷ 110 ∷ 110 ∷ 32 ∷ 114 ∷ 101 ∷ 97 ∷ 100 ∷ 32 ∷ 104 ∷ 110 ∷ []

-- insert n new -
abbrev pub dd_grammar : List ℕ
dd_grammar = 105 ∷ 110 ∷ 115 ∷ 101 ∷ 114 ∷ 116 ∷ 32 ∷ 110 ∷ 32 ∷ 110 ∷ 101 ∷ 119 ∷ 32 ∷ 45 ∷ []

-- insert nn remove nn contains n one n replace nn min - max - len - pop - new * add * sub * cap nn
abbrev pub rs_grammar : List ℕ
rs_grammar = 105 ∷ 110 ∷ 115 ∷ 101 ∷ 114 ∷ 116 ∷ 32 ∷ 110 ∷ 110 ∷ 32 ∷ 114 ∷ 101 ∷ 109 ∷ 111 ∷ 118 ∷ 101 ∷ 32 ∷ 110 ∷ 110 ∷ 32 ∷ 99 ∷ 111 ∷ 110 ∷ 116 ∷ 97 ∷ 105 ∷ 110 ∷ 115 ∷ 32 ∷ 110 ∷ 32 ∷ 111 ∷ 110 ∷ 101 ∷ 32 ∷ 110 ∷ 32 ∷ 114 ∷ 101 ∷ 112 ∷ 108 ∷ 97 ∷ 99 ∷ 101 ∷ 32 ∷ 110 ∷ 110 ∷ 32 ∷ 109 ∷ 105 ∷ 110 ∷ 32 ∷ 45 ∷ 32 ∷ 109 ∷ 97 ∷ 120 ∷ 32 ∷ 45 ∷ 32 ∷ 108 ∷ 101 ∷ 110 ∷ 32 ∷ 45 ∷ 32 ∷ 112 ∷ 111 ∷ 112 ∷ 32 ∷ 45 ∷ 32 ∷ 110 ∷ 101 ∷ 119 ∷ 32 ∷ 42 ∷ 32 ∷ 97 ∷ 100 ∷ 100 ∷ 32 ∷ 42 ∷ 32 ∷ 115 ∷ 117 ∷ 98 ∷ 32 ∷ 42 ∷ 32 ∷ 99 ∷ 97 ∷ 112 ∷ 32 ∷ 110 ∷ 110 ∷ []

-- insert n below n new -
abbrev pub pa_grammar : List ℕ
pa_grammar = 105 ∷ 110 ∷ 115 ∷ 101 ∷ 114 ∷ 116 ∷ 32 ∷ 110 ∷ 32 ∷ 98 ∷ 101 ∷ 108 ∷ 111 ∷ 119 ∷ 32 ∷ 110 ∷ 32 ∷ 110 ∷ 101 ∷ 119 ∷ 32 ∷ 45 ∷ []

-- read hn write nn*
abbrev pub af_grammar : List ℕ
af_grammar = 114 ∷ 101 ∷ 97 ∷ 100 ∷ 32 ∷ 104 ∷ 110 ∷ 32 ∷ 119 ∷ 114 ∷ 105 ∷ 116 ∷ 101 ∷ 32 ∷ 110 ∷ 110 ∷ 42 ∷ []

-- frame nnhg next - active - reset h new h update h
abbrev pub cq_grammar : List ℕ
cq_grammar = 102 ∷ 114 ∷ 97 ∷ 109 ∷ 101 ∷ 32 ∷ 110 ∷ 110 ∷ 104 ∷ 103 ∷ 32 ∷ 110 ∷ 101 ∷ 120 ∷ 116 ∷ 32 ∷ 45 ∷ 32 ∷ 97 ∷ 99 ∷ 116 ∷ 105 ∷ 118 ∷ 101 ∷ 32 ∷ 45 ∷ 32 ∷ 114 ∷ 101 ∷ 115 ∷ 101 ∷ 116 ∷ 32 ∷ 104 ∷ 32 ∷ 110 ∷ 101 ∷ 119 ∷ 32 ∷ 104 ∷ 32 ∷ 117 ∷ 112 ∷ 100 ∷ 97 ∷ 116 ∷ 101 ∷ 32 ∷ 104 ∷ []

-- poll nn ack nn lost nn plost - hole n peer n new nnonnnn off nn reset nn
abbrev pub mt_grammar : List ℕ
mt_grammar = 112 ∷ 111 ∷ 108 ∷ 108 ∷ 32 ∷ 110 ∷ 110 ∷ 32 ∷ 97 ∷ 99 ∷ 107 ∷ 32 ∷ 110 ∷ 110 ∷ 32 ∷ 108 ∷ 111 ∷ 115 ∷ 116 ∷ 32 ∷ 110 ∷ 110 ∷ 32 ∷ 112 ∷ 108 ∷ 111 ∷ 115 ∷ 116 ∷ 32 ∷ 45 ∷ 32 ∷ 104 ∷ 111 ∷ 108 ∷ 101 ∷ 32 ∷ 110 ∷ 32 ∷ 112 ∷ 101 ∷ 101 ∷ 114 ∷ 32 ∷ 110 ∷ 32 ∷ 110 ∷ 101 ∷ 119 ∷ 32 ∷ 110 ∷ 110 ∷ 111 ∷ 110 ∷ 110 ∷ 110 ∷ 110 ∷ 32 ∷ 111 ∷ 102 ∷ 102 ∷ 32 ∷ 110 ∷ 110 ∷ 32 ∷ 114 ∷ 101 ∷ 115 ∷ 101 ∷ 116 ∷ 32 ∷ 110 ∷ 110 ∷ []

-- data nnnn reset nn stop n read nn seen n announce n sent n open d want dn maxstreams dn credit n zrej - window n new snnnn
abbrev pub st_grammar : List ℕ
st_grammar = 100 ∷ 97 ∷ 116 ∷ 97 ∷ 32 ∷ 110 ∷ 110 ∷ 110 ∷ 110 ∷ 32 ∷ 114 ∷ 101 ∷ 115 ∷ 101 ∷ 116 ∷ 32 ∷ 110 ∷ 110 ∷ 32 ∷ 115 ∷ 116 ∷ 111 ∷ 112 ∷ 32 ∷ 110 ∷ 32 ∷ 114 ∷ 101 ∷ 97 ∷ 100 ∷ 32 ∷ 110 ∷ 110 ∷ 32 ∷ 115 ∷ 101 ∷ 101 ∷ 110 ∷ 32 ∷ 110 ∷ 32 ∷ 97 ∷ 110 ∷ 110 ∷ 111 ∷ 117 ∷ 110 ∷ 99 ∷ 101 ∷ 32 ∷ 110 ∷ 32 ∷ 115 ∷ 101 ∷ 110 ∷ 116 ∷ 32 ∷ 110 ∷ 32 ∷ 111 ∷ 112 ∷ 101 ∷ 110 ∷ 32 ∷ 100 ∷ 32 ∷ 119 ∷ 97 ∷ 110 ∷ 116 ∷ 32 ∷ 100 ∷ 110 ∷ 32 ∷ 109 ∷ 97 ∷ 120 ∷ 115 ∷ 116 ∷ 114 ∷ 101 ∷ 97 ∷ 109 ∷ 115 ∷ 32 ∷ 100 ∷ 110 ∷ 32 ∷ 99 ∷ 114 ∷ 101 ∷ 100 ∷ 105 ∷ 116 ∷ 32 ∷ 110 ∷ 32 ∷ 122 ∷ 114 ∷ 101 ∷ 106 ∷ 32 ∷ 45 ∷ 32 ∷ 119 ∷ 105 ∷ 110 ∷ 100 ∷ 111 ∷ 119 ∷ 32 ∷ 110 ∷ 32 ∷ 110 ∷ 101 ∷ 119 ∷ 32 ∷ 115 ∷ 110 ∷ 110 ∷ 110 ∷ 110 ∷ []

unfoldable pub grammar_of : Module → List ℕ
grammar_of Ct = ct_grammar
grammar_of Vi = vi_grammar
grammar_of Pn = pn_grammar
grammar_of Dd = dd_grammar
grammar_of Rs = rs_grammar
grammar_of Pa = pa_grammar
grammar_of Af = af_grammar
grammar_of Cq = cq_grammar
grammar_of Mt = mt_grammar
grammar_of St = st_grammar
