-- The codes of the events, by name (docs/EVENTS.md). Assumes nothing.
use Rattle.std.specs.Prelude.{ℕ}

-- ---- ct
abbrev pub CT_EQ : ℕ
CT_EQ = 16

-- ---- vi
abbrev pub VI_DEC : ℕ
VI_DEC = 32

abbrev pub VI_ENC : ℕ
VI_ENC = 33

-- ---- pn
abbrev pub PN_NEW : ℕ
PN_NEW = 48

abbrev pub PN_READ : ℕ
PN_READ = 49

-- ---- dd
abbrev pub DD_INSERT : ℕ
DD_INSERT = 64

abbrev pub DD_NEW : ℕ
DD_NEW = 65

-- ---- rs
abbrev pub RS_INSERT : ℕ
RS_INSERT = 80

abbrev pub RS_REMOVE : ℕ
RS_REMOVE = 81

abbrev pub RS_CONTAINS : ℕ
RS_CONTAINS = 82

abbrev pub RS_ONE : ℕ
RS_ONE = 83

abbrev pub RS_REPLACE : ℕ
RS_REPLACE = 84

abbrev pub RS_MIN : ℕ
RS_MIN = 85

abbrev pub RS_MAX : ℕ
RS_MAX = 86

abbrev pub RS_LEN : ℕ
RS_LEN = 87

abbrev pub RS_POP : ℕ
RS_POP = 88

abbrev pub RS_NEW : ℕ
RS_NEW = 89

abbrev pub RS_ADD : ℕ
RS_ADD = 90

abbrev pub RS_SUB : ℕ
RS_SUB = 91

abbrev pub RS_CAP : ℕ
RS_CAP = 92

-- ---- pa
abbrev pub PA_INSERT : ℕ
PA_INSERT = 96

abbrev pub PA_BELOW : ℕ
PA_BELOW = 97

abbrev pub PA_NEW : ℕ
PA_NEW = 98

-- ---- af
abbrev pub AF_READ : ℕ
AF_READ = 112

abbrev pub AF_WRITE : ℕ
AF_WRITE = 113

-- ---- cq
abbrev pub CQ_FRAME : ℕ
CQ_FRAME = 128

abbrev pub CQ_NEXT : ℕ
CQ_NEXT = 129

abbrev pub CQ_ACTIVE : ℕ
CQ_ACTIVE = 130

abbrev pub CQ_RESET : ℕ
CQ_RESET = 131

abbrev pub CQ_NEW : ℕ
CQ_NEW = 132

abbrev pub CQ_UPDATE : ℕ
CQ_UPDATE = 133

-- ---- mt
abbrev pub MT_POLL : ℕ
MT_POLL = 144

abbrev pub MT_ACK : ℕ
MT_ACK = 145

abbrev pub MT_LOST : ℕ
MT_LOST = 146

abbrev pub MT_PLOST : ℕ
MT_PLOST = 147

abbrev pub MT_HOLE : ℕ
MT_HOLE = 148

abbrev pub MT_PEER : ℕ
MT_PEER = 149

abbrev pub MT_NEW : ℕ
MT_NEW = 150

abbrev pub MT_OFF : ℕ
MT_OFF = 151

abbrev pub MT_RESET : ℕ
MT_RESET = 152

-- ---- st
abbrev pub ST_DATA : ℕ
ST_DATA = 160

abbrev pub ST_RESET : ℕ
ST_RESET = 161

abbrev pub ST_STOP : ℕ
ST_STOP = 162

abbrev pub ST_READ : ℕ
ST_READ = 163

abbrev pub ST_SEEN : ℕ
ST_SEEN = 164

abbrev pub ST_ANNOUNCE : ℕ
ST_ANNOUNCE = 165

abbrev pub ST_SENT : ℕ
ST_SENT = 166

abbrev pub ST_OPEN : ℕ
ST_OPEN = 167

abbrev pub ST_WANT : ℕ
ST_WANT = 168

abbrev pub ST_MAXSTREAMS : ℕ
ST_MAXSTREAMS = 169

abbrev pub ST_CREDIT : ℕ
ST_CREDIT = 170

abbrev pub ST_ZREJ : ℕ
ST_ZREJ = 171

abbrev pub ST_WINDOW : ℕ
ST_WINDOW = 172

abbrev pub ST_NEW : ℕ
ST_NEW = 173
