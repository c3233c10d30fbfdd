-- The small steps that the calls of the flat card are made of.
use Rattle.std.specs.Prelude.{ℕ, zero, suc, ◌+◌, ◌-◌, ◌*◌, ◌/◌, ◌%◌, ◌^◌, min, Bool, false, cond, ◌&&◌, ◌||◌, ltb, List, [], ◌∷◌, ◌++◌, length, take, drop, ◌==◌, nat_le, nat_lt, slice_index}
use Rattle.flatcard.specs.Card.{capacity, zones, chip, Phase, empty, opened, full, threaded, Zone, Card, blank, Survey}

-- ---- functions of a number
-- some number below n passes
abbrev pub any : ℕ → (ℕ → Bool) → Bool
any zero p = false
any (suc n) p = p n || any n p

-- how many numbers below n pass
abbrev pub count : ℕ → (ℕ → Bool) → ℕ
count zero p = 0
count (suc n) p = cond (p n) 1 0 + count n p

-- the numbers below n, rising
abbrev pub range : ℕ → List ℕ
range zero = []
range (suc n) = range n ++ (n ∷ [])

-- the least of f 0 to f (n - 1)
abbrev pub least : ℕ → (ℕ → ℕ) → ℕ
least zero f = 0
least (suc zero) f = f 0
least (suc (suc n)) f = min (f (suc n)) (least (suc n) f)

-- f with v at i
abbrev pub updated : {A : Type 0} → (ℕ → A) → ℕ → A → ℕ → A
updated f i v j = cond (j == i) v (f j)

-- ---- phases
-- the number of the state that a report shows
abbrev pub state : Phase → ℕ
state empty = 0
state (opened g) = 1
state (full g) = 2
state (threaded g old marks) = 3

abbrev pub is_empty : Phase → Bool
is_empty phase = state phase == 0

abbrev pub is_full : Phase → Bool
is_full phase = state phase == 2

-- open or threaded: the zone takes sectors
abbrev pub is_active : Phase → Bool
is_active phase = state phase == 1 || state phase == 3

-- the group that a zone fills or has filled
abbrev pub current : Phase → ℕ
current empty = 0
current (opened g) = g
current (full g) = g
current (threaded g old marks) = g

-- the sectors that are kept
abbrev pub marked : Phase → ℕ → Bool
marked empty = λ _. false
marked (opened g) = λ _. false
marked (full g) = λ _. false
marked (threaded g old marks) = marks

-- ---- cards with one part changed
abbrev pub with_zone : Card → ℕ → Zone → Card
with_zone c z v = record { geometry = c.geometry; lives = c.lives; row = c.row; zone = updated c.zone z v }

abbrev pub with_row : Card → ℕ → List ℕ → Card
with_row c k r = record { geometry = c.geometry; lives = c.lives; row = updated c.row k r; zone = c.zone }

abbrev pub with_lives : Card → ℕ → ℕ → ℕ → Card
with_lives c k g n = record { geometry = c.geometry; lives = updated c.lives k (updated (c.lives k) g n); row = c.row; zone = c.zone }

-- how many zones are open or threaded
abbrev pub active : Card → ℕ
active c = count (zones c.geometry) (λ z. is_active (c.zone z).phase)

-- ---- taking a group, and giving it back
-- the front of a row, and the card without it
abbrev pub front : List ℕ → ℕ
front row = slice_index row 0

abbrev pub taken : Card → ℕ → Card
taken c k = with_row c k (drop 1 (c.row k))

-- a group that is given back is erased, loses a life and joins the end of its row; one without lives is retired, and nothing happens to it
abbrev pub given_back : Card → ℕ → ℕ → Card
given_back c k g = cond (c.lives k g == 0) c (with_row (with_lives c k g (c.lives k g - 1)) k (c.row k ++ (g ∷ [])))

-- the blocks that this erases
abbrev pub erased : Card → ℕ → ℕ → ℕ
erased c k g = cond (c.lives k g == 0) 0 c.geometry.width

-- ---- sectors
-- the sectors with n of the bytes put in from offset p on
abbrev pub stored : (ℕ → List ℕ) → ℕ → ℕ → List ℕ → ℕ → List ℕ
stored sector p n bytes s = cond (nat_le p s && nat_lt s (p + n)) (take 512 (drop (512 * (s - p)) bytes)) (sector s)

-- the bytes of n sectors from offset s on
abbrev pub joined : (ℕ → List ℕ) → ℕ → ℕ → List ℕ
joined sector s zero = []
joined sector s (suc n) = sector s ++ joined sector (s + 1) n

-- the listed sectors, in the order of the list, from the start on
abbrev pub gathered : (ℕ → List ℕ) → List ℕ → ℕ → List ℕ
gathered sector offsets s = cond (nat_lt s (length offsets)) (sector (slice_index offsets s)) blank

-- the sweep: the first of the n offsets from p on that is not marked, or the offset after them
abbrev pub swept : (ℕ → Bool) → ℕ → ℕ → ℕ
swept marks zero p = p
swept marks (suc n) p = cond (marks p) (swept marks n (p + 1)) p

-- bit i of a map: bit i mod 8 of byte i div 8, the lowest bit first
abbrev pub bit : List ℕ → ℕ → Bool
bit map i = slice_index map (i / 8) / 2 ^ (i % 8) % 2 == 1

-- the marks that a map sets on a zone of n sectors
abbrev pub marks_of : ℕ → List ℕ → ℕ → Bool
marks_of n map s = nat_lt s n && bit map s

-- ---- a zone whose pointer has moved on
-- zone z, in a phase, has its pointer at p: at the end it is full, and its old group is given back
abbrev pub settled : Card → ℕ → Phase → ℕ → (ℕ → List ℕ) → Card
settled c z empty p sector = c
settled c z (opened g) p sector =
    with_zone c z (record { phase = cond (p == capacity c.geometry) (full g) (opened g); pointer = p; sector = sector })
settled c z (full g) p sector = c
settled c z (threaded g old marks) p sector = cond (p == capacity c.geometry)
    (given_back (with_zone c z (record { phase = full g; pointer = p; sector = sector })) (chip c.geometry z) old)
    (with_zone c z (record { phase = threaded g old marks; pointer = p; sector = sector }))

-- the blocks that this erases
abbrev pub settling : Card → ℕ → Phase → ℕ → ℕ
settling c z empty p = 0
settling c z (opened g) p = 0
settling c z (full g) p = 0
settling c z (threaded g old marks) p = cond (p == capacity c.geometry) (erased c (chip c.geometry z) old) 0

-- ---- forming
-- the lives of block group g of chip group k: the least of its blocks' lives
abbrev pub least_lives : (ℕ → ℕ → ℕ) → ℕ → ℕ → ℕ → ℕ
least_lives lives width k g = least width (λ d. lives (k * width + d) g)

-- a page stands somewhere
abbrev pub printed : Survey → Bool
printed s = any s.banks (λ b. any s.blocks (λ k. ltb 0 (s.standing b k)))
