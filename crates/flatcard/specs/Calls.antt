-- The seven calls of the flat card. Each has its table of refusals, in order, and what it does where none applies.
use Rattle.std.specs.Prelude.{ℕ, zero, suc, ◌+◌, ◌-◌, ◌*◌, ◌/◌, ◌%◌, Bool, true, cond, not, ◌&&◌, ◌||◌, ltb, List, [], ◌∷◌, length, ◌==◌, nat_le, nat_lt}
use Rattle.flash.specs.Tables.{first, unless_refused}
use Rattle.flatcard.specs.Card.{Geometry, capacity, zones, chip, start, zone_of, offset_of, Phase, empty, opened, full, threaded, Zone, Card, Flat, unformed, formed, blank, Answer, refused, done, number, Survey, Line}
use Rattle.flatcard.specs.Verbs.{any, range, state, is_empty, is_full, current, marked, with_zone, active, front, taken, given_back, erased, stored, joined, gathered, swept, marks_of, settled, settling, least_lives, printed}

-- what a call answers and leaves: a refused one answers its number and leaves the card as it was
abbrev pub ruled : ℕ → Flat → Answer × Flat → Answer × Flat
ruled n f r = unless_refused n r (refused n, f)

-- ---- form: limit zones open together, zones of width banks
abbrev pub is_width : ℕ → Bool
is_width d = d == 1 || (d == 2 || (d == 4 || (d == 8 || d == 16)))

-- the numbers of a card on a flash of that shape
abbrev pub geometry_on : Survey → ℕ → ℕ → Geometry
geometry_on s limit width = record { limit = limit; width = width; blocks = s.blocks; depth = s.depth; chips = s.banks / width }

abbrev pub bad_shape : Survey → ℕ → ℕ → Bool
bad_shape s limit width =
    (limit == 0 || nat_lt 4 limit) ||
    (not (is_width width) ||
    (not (s.banks % width == 0) ||
    (s.banks == 0 ||
    (nat_le s.blocks limit ||
    nat_lt 64 (s.banks / width * s.blocks)))))

abbrev pub form_checks : Survey → ℕ → ℕ → List (Bool × ℕ)
form_checks s limit width =
    (bad_shape s limit width, 13) ∷
    (printed s, 14) ∷
    []

abbrev pub empty_zone : Zone
empty_zone = record { phase = empty; pointer = 0; sector = λ _. blank }

abbrev pub new_card : Survey → Geometry → Card
new_card s g = record {
  geometry = g;
  lives = least_lives s.lives g.width;
  row = λ k. cond (nat_lt k g.chips) (range g.blocks) [];
  zone = λ z. empty_zone;
}

abbrev pub form_card : Survey → ℕ → ℕ → Answer × Flat
form_card s limit width = (done 0 0 0, formed (new_card s (geometry_on s limit width)))

abbrev pub form : Flat → ℕ → ℕ → Survey → Answer × Flat
form (formed c) limit width s = (refused 12, formed c)
form unformed limit width s = ruled (first (form_checks s limit width)) unformed (form_card s limit width)

-- ---- write: bytes at an address
-- not a whole number of sectors, or none
abbrev pub bad_length : ℕ → Bool
bad_length n = n == 0 || not (n % 512 == 0)

-- n sectors from an address on are not inside one zone
abbrev pub out_of_range : Geometry → ℕ → ℕ → Bool
out_of_range g a n = nat_le (zones g) (zone_of g a) || nat_lt (capacity g) (offset_of g a + n)

abbrev pub write_checks : Card → ℕ → List ℕ → List (Bool × ℕ)
write_checks c a bytes =
    let n : ℕ = length bytes / 512 in
    let z : ℕ = zone_of c.geometry a in
    let s : ℕ = offset_of c.geometry a in
    let v : Zone = c.zone z in
    (bad_length (length bytes), 15) ∷
    (out_of_range c.geometry a n, 16) ∷
    (is_full v.phase, 17) ∷
    (not (s == v.pointer), 18) ∷
    (any n (λ i. marked v.phase (s + i)), 19) ∷
    (is_empty v.phase && nat_le c.geometry.limit (active c), 20) ∷
    (is_empty v.phase && (length (c.row (chip c.geometry z)) == 0), 21) ∷
    []

-- the phase in which a write finds its zone: an empty one is opened with the front of its row
abbrev pub opens : List ℕ → Phase → Phase
opens row empty = opened (front row)
opens row (opened g) = opened g
opens row (full g) = full g
opens row (threaded g old marks) = threaded g old marks

abbrev pub opening : Card → ℕ → Card
opening c z = cond (is_empty (c.zone z).phase) (taken c (chip c.geometry z)) c

abbrev pub write_card : Card → ℕ → List ℕ → Answer × Flat
write_card c a bytes =
    let n : ℕ = length bytes / 512 in
    let z : ℕ = zone_of c.geometry a in
    let v : Zone = c.zone z in
    let phase : Phase = opens (c.row (chip c.geometry z)) v.phase in
    let p : ℕ = v.pointer in
    let q : ℕ = swept (marked phase) (capacity c.geometry - (p + n)) (p + n) in
    (done (q / 4 - p / 4) (q - (p + n)) (settling c z phase q), formed (settled (opening c z) z phase q (stored v.sector p n bytes)))

abbrev pub write : Flat → ℕ → List ℕ → Answer × Flat
write unformed a bytes = (refused 11, unformed)
write (formed c) a bytes = ruled (first (write_checks c a bytes)) (formed c) (write_card c a bytes)

-- ---- read: the number, and the caller's buffer after
abbrev pub read_checks : Card → ℕ → List ℕ → List (Bool × ℕ)
read_checks c a buffer =
    (bad_length (length buffer), 15) ∷
    (out_of_range c.geometry a (length buffer / 512), 16) ∷
    []

abbrev pub read : Flat → ℕ → List ℕ → ℕ × List ℕ
read unformed a buffer = (11, buffer)
read (formed c) a buffer =
    let n : ℕ = first (read_checks c a buffer) in
    (n, unless_refused n (joined (c.zone (zone_of c.geometry a)).sector (offset_of c.geometry a) (length buffer / 512)) buffer)

-- ---- reset: the zone that starts at an address
abbrev pub reset_checks : Card → ℕ → List (Bool × ℕ)
reset_checks c a =
    (not (offset_of c.geometry a == 0) || nat_le (zones c.geometry) (zone_of c.geometry a), 16) ∷
    (not (is_full (c.zone (zone_of c.geometry a)).phase), 17) ∷
    []

abbrev pub reset_zone : Card → ℕ → Card
reset_zone c z = given_back (with_zone c z empty_zone) (chip c.geometry z) (current (c.zone z).phase)

-- the blocks that this erases
abbrev pub resetting : Card → ℕ → ℕ
resetting c z = erased c (chip c.geometry z) (current (c.zone z).phase)

abbrev pub reset_card : Card → ℕ → Answer × Flat
reset_card c a = let z : ℕ = zone_of c.geometry a in (done 0 0 (resetting c z), formed (reset_zone c z))

abbrev pub reset : Flat → ℕ → Answer × Flat
reset unformed a = (refused 11, unformed)
reset (formed c) a = ruled (first (reset_checks c a)) (formed c) (reset_card c a)

-- ---- compact: the listed sectors of a full zone go to the start of an empty one, and the source is reset
abbrev pub all : {A : Type 0} → (A → Bool) → List A → Bool
all p [] = true
all p (x ∷ xs) = p x && all p xs

abbrev pub compact_checks : Card → ℕ → ℕ → List ℕ → List (Bool × ℕ)
compact_checks c source target offsets =
    let n : ℕ = zones c.geometry in
    let most : ℕ = capacity c.geometry in
    (length offsets == 0 || nat_lt most (length offsets), 15) ∷
    ((nat_le n source || nat_le n target) || not (all (λ s. ltb s most) offsets), 16) ∷
    (not (is_full (c.zone source).phase) || not (is_empty (c.zone target).phase), 17) ∷
    (nat_le c.geometry.limit (active c), 20) ∷
    ((length (c.row (chip c.geometry target)) == 0), 21) ∷
    []

-- the target takes its group before the source gives its own back
abbrev pub gather : Card → ℕ → ℕ → List ℕ → Card
gather c source target offsets =
    let k : ℕ = chip c.geometry target in
    settled (taken c k) target (opened (front (c.row k))) (length offsets) (gathered (c.zone source).sector offsets)

abbrev pub compact_card : Card → ℕ → ℕ → List ℕ → Answer × Flat
compact_card c source target offsets =
    (done (length offsets / 4) (length offsets) (resetting c source), formed (reset_zone (gather c source target offsets) source))

abbrev pub compact : Flat → ℕ → ℕ → List ℕ → Answer × Flat
compact unformed source target offsets = (refused 11, unformed)
compact (formed c) source target offsets =
    ruled (first (compact_checks c source target offsets)) (formed c) (compact_card c source target offsets)

-- ---- thread: a full zone is opened to be written over, but for the sectors that the map keeps
abbrev pub thread_checks : Card → ℕ → List ℕ → List (Bool × ℕ)
thread_checks c z map =
    (not (length map == (capacity c.geometry + 7) / 8), 15) ∷
    (nat_le (zones c.geometry) z, 16) ∷
    (not (is_full (c.zone z).phase), 17) ∷
    (nat_le c.geometry.limit (active c), 20) ∷
    ((length (c.row (chip c.geometry z)) == 0), 21) ∷
    []

abbrev pub thread_card : Card → ℕ → List ℕ → Answer × Flat
thread_card c z map =
    let k : ℕ = chip c.geometry z in
    let marks : ℕ → Bool = marks_of (capacity c.geometry) map in
    let phase : Phase = threaded (front (c.row k)) (current (c.zone z).phase) marks in
    let q : ℕ = swept marks (capacity c.geometry) 0 in
    (done (q / 4) q (settling c z phase q), formed (settled (taken c k) z phase q (c.zone z).sector))

abbrev pub thread : Flat → ℕ → List ℕ → Answer × Flat
thread unformed z map = (refused 11, unformed)
thread (formed c) z map = ruled (first (thread_checks c z map)) (formed c) (thread_card c z map)

-- ---- report: the number, and the caller's list after, a line for each zone from the first on
abbrev pub line : Card → ℕ → Line
line c z = record {
  state = state (c.zone z).phase;
  start = start c.geometry z;
  pointer = start c.geometry z + (c.zone z).pointer;
}

abbrev pub lines : Card → ℕ → ℕ → List Line
lines c z zero = []
lines c z (suc n) = line c z ∷ lines c (z + 1) n

abbrev pub report_checks : Card → ℕ → List Line → List (Bool × ℕ)
report_checks c z list = (nat_lt (zones c.geometry) (z + length list), 16) ∷ []

abbrev pub report : Flat → ℕ → List Line → ℕ × List Line
report unformed z list = (11, list)
report (formed c) z list =
    let n : ℕ = first (report_checks c z list) in
    (n, unless_refused n (lines c z (length list)) list)

-- ---- any call
pub data Call : Type 0 where
  forms : ℕ → ℕ → Call
  writes : ℕ → List ℕ → Call
  reads : ℕ → List ℕ → Call
  resets : ℕ → Call
  compacts : ℕ → ℕ → List ℕ → Call
  threads : ℕ → List ℕ → Call
  reports : ℕ → List Line → Call

-- the number that a call answers on a card over a flash of that survey, and the card after it
abbrev pub called : Survey → Flat → Call → ℕ × Flat
called s f (forms limit width) = let r : Answer × Flat = form f limit width s in (number r.0, r.1)
called s f (writes a bytes) = let r : Answer × Flat = write f a bytes in (number r.0, r.1)
called s f (reads a buffer) = ((read f a buffer).0, f)
called s f (resets a) = let r : Answer × Flat = reset f a in (number r.0, r.1)
called s f (compacts source target offsets) = let r : Answer × Flat = compact f source target offsets in (number r.0, r.1)
called s f (threads z map) = let r : Answer × Flat = thread f z map in (number r.0, r.1)
called s f (reports z list) = ((report f z list).0, f)
