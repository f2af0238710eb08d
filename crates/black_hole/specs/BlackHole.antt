-- What the black hole detector does, event by event, as functions of its record (mtud.rs, BlackHoleDetector; 01, MTU search).
-- Losses with consecutive numbers form a burst, of which the latest number and the smallest packet are kept. A burst ends when a loss does not follow
-- on, or when it is asked for a black hole. It is suspicious unless its smallest packet is at most the minimum, or it ended before the newest
-- delivery noted and its smallest packet is at most the acknowledged size. More than three suspicious bursts are a black hole.
-- The acknowledged size is what the caller says of a packet, and may be below the minimum. Assumes nothing.
use Rattle.std.specs.Prelude.{ℕ, zero, suc, ◌+◌, ◌-◌, ◌^◌, min, max, Bool, true, false, cond, ◌&&◌, ◌||◌, List, eqb, ltb, leb, get_or, set, replicate}
use Rattle.black_hole.specs.declared.Bursts.{Bursts}
use Rattle.black_hole.specs.declared.CurrentLossBurst.{CurrentLossBurst}
use Rattle.black_hole.specs.declared.BlackHoleDetector.{BlackHoleDetector}
use Rattle.black_hole.specs.declared.Detected.{Detected}

-- ---- the bursts that are kept: four places, of which the first `count` are used
abbrev pub none : Bursts
none = record { sizes = replicate 4 0; count = 0 }

-- one more, in the next free place
unfoldable pub pushed : Bursts → ℕ → Bursts
pushed b x = cond (ltb b.count 4) (record { sizes = set b.sizes b.count x; count = b.count + 1 }) b

-- place i of b goes on to the bursts `on`, if it is used and above len
abbrev pub passed : Bursts → ℕ → Bursts → ℕ → Bursts
passed b len on i = cond (ltb i b.count && ltb len (get_or b.sizes i 0)) (pushed on (get_or b.sizes i 0)) on

-- of the first k places only those above len
unfoldable pub retained_first : ℕ → Bursts → ℕ → Bursts
retained_first zero b len = none
retained_first (suc k) b len = passed b len (retained_first k b len) k

-- only those above len
abbrev pub retained : Bursts → ℕ → Bursts
retained b len = retained_first 4 b len

-- the place of the smaller of two, the first where they are the same
abbrev pub lower_of : List ℕ → ℕ → ℕ → ℕ
lower_of s i j = cond (ltb (get_or s j 0) (get_or s i 0)) j i

-- the first place of the smallest size of the first k, and of all
unfoldable pub least_first : ℕ → List ℕ → ℕ
least_first zero s = 0
least_first (suc k) s = lower_of s (least_first k s) k

abbrev pub least_of : List ℕ → ℕ
least_of s = least_first 4 s

-- the most suspicious are kept: with four kept already, a larger one takes the place of the first of the smallest
unfoldable pub kept : Bursts → ℕ → Bursts
kept b x =
    cond (ltb b.count 4) (pushed b x)
    (cond (ltb (get_or b.sizes (least_of b.sizes) 0) x) (record { sizes = set b.sizes (least_of b.sizes) x; count = b.count }) b)

-- ---- the burst being gathered
abbrev pub closed : CurrentLossBurst
closed = record { has = false; latest = 0; smallest = 0 }

-- the detector while a burst up to number n, with smallest packet x, is being gathered
abbrev pub begun : BlackHoleDetector → ℕ → ℕ → BlackHoleDetector
begun d n x =
    record {
      bursts = d.bursts;
      current = record { has = true; latest = n; smallest = x };
      post = d.post;
      acked = d.acked;
      minimum = d.minimum;
    }

-- the burst rule
unfoldable pub suspicious : BlackHoleDetector → Bool
suspicious d =
    ltb d.minimum d.current.smallest
    && (leb d.post d.current.latest || ltb d.acked d.current.smallest)

-- a suspicious burst is kept; if it is newer than the newest delivery noted, that delivery counts no more
unfoldable pub suspected : BlackHoleDetector → BlackHoleDetector
suspected d =
    record {
      bursts = kept d.bursts d.current.smallest;
      current = closed;
      post = d.post;
      acked = cond (ltb d.post d.current.latest) d.minimum d.acked;
      minimum = d.minimum;
    }

abbrev pub dropped : BlackHoleDetector → BlackHoleDetector
dropped d =
    record {
      bursts = d.bursts;
      current = closed;
      post = d.post;
      acked = d.acked;
      minimum = d.minimum;
    }

-- the burst being gathered, if any, has ended
unfoldable pub finished : BlackHoleDetector → BlackHoleDetector
finished d = cond d.current.has (cond (suspicious d) (suspected d) (dropped d)) d

-- ---- the events
unfoldable pub fresh : ℕ → BlackHoleDetector
fresh least = record { bursts = none; current = closed; post = 0; acked = least; minimum = least }

-- a probe n of size len is acknowledged
unfoldable pub probe_acked : BlackHoleDetector → ℕ → ℕ → BlackHoleDetector
probe_acked d n len = record { bursts = none; current = d.current; post = n; acked = len; minimum = d.minimum }

-- another packet n of size len is acknowledged: smaller than the acknowledged size it says nothing, as large it may be the newest such delivery, larger
-- it clears the bursts that are not above it
unfoldable pub delivered : BlackHoleDetector → ℕ → ℕ → BlackHoleDetector
delivered d n len =
    cond (ltb len d.acked) d
    (cond (eqb len d.acked)
    (record { bursts = d.bursts; current = d.current; post = max d.post n; acked = d.acked; minimum = d.minimum })
    (record { bursts = retained d.bursts len; current = d.current; post = n; acked = len; minimum = d.minimum }))

-- n is the number after the burst's latest
unfoldable pub follows : BlackHoleDetector → ℕ → Bool
follows d n = d.current.has && eqb (n - d.current.latest) 1

abbrev pub grown : BlackHoleDetector → ℕ → ℕ → BlackHoleDetector
grown d n len = begun d n (min d.current.smallest len)

-- packet n of size len, no probe, is lost
unfoldable pub lost : BlackHoleDetector → ℕ → ℕ → BlackHoleDetector
lost d n len = cond (follows d n) (grown d n len) (begun (finished d) n len)

-- the burst ends, and more than three suspicious ones are a black hole, and are forgotten
abbrev pub cleared : BlackHoleDetector → BlackHoleDetector
cleared d =
    record {
      bursts = none;
      current = d.current;
      post = d.post;
      acked = d.acked;
      minimum = d.minimum;
    }

unfoldable pub detected : BlackHoleDetector → Detected
detected d =
    cond (leb (finished d).bursts.count 3) (record { found = false; detector = finished d }) (record { found = true; detector = cleared (finished d) })

-- ---- a good detector: at most four bursts, each above the minimum; all sizes and numbers in their limits (01, Limits)
unfoldable pub good_place : Bursts → ℕ → ℕ → Bool
good_place b least i = leb b.count i || (ltb least (get_or b.sizes i 0) && leb (get_or b.sizes i 0) 65527)

-- as many as there is room for, and the first k places are good
unfoldable pub good_first : ℕ → Bursts → ℕ → Bool
good_first zero b least = leb b.count 4
good_first (suc k) b least = good_first k b least && good_place b least k

unfoldable pub good_bursts : Bursts → ℕ → Bool
good_bursts b least = good_first 4 b least

unfoldable pub good : BlackHoleDetector → Bool
good d =
    (leb 1200 d.minimum && leb d.minimum 65527)
    && ((leb d.acked 65527 && ltb d.post (2 ^ 62))
    && ((ltb d.current.latest (2 ^ 62) && leb d.current.smallest 65527) && good_bursts d.bursts d.minimum))
