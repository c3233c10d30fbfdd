-- The lines of a report are those of the flat card.
use Rattle.std.proofs.Common.{◌≡◌, ℕ, zero, suc, ◌+◌, ◌<◌, ◌≤◌, false, cond, ltb, List, map, length, get_or, Some, Option, sym, refl, ap, ◌∙◌, add-zero, arith}
use Rattle.std.proofs.lemmas.List.{ext_get_or, get_or-map, length-map}
use Rattle.std.proofs.lemmas.Bool.{le-ltb}
use Rattle.flash.specs.Memory.{Memory}
use Rattle.flash.proofs.Calls.{not_refused}
use Rattle.flatcard.specs.Calls.{line, lines, report}
use Rattle.flatcard.specs.Card.{capacity, start, zones, Line}
use Rattle.flatcard.specs.Card as flat
use Rattle.zones.specs.declared.book.Book.{Book}
use Rattle.zones.specs.declared.report.ZoneReport.{ZoneReport}
use Rattle.zones.specs.Geometries.{geometry_of}
use Rattle.zones.specs.Lines.{no_line}
use Rattle.zones.specs.Numbers.{line_of}
use Rattle.zones.specs.Books.{card_of, flat_of}

-- ---- the lines of the flat card, one by one
length-lines : (c : flat.Card) (z n : ℕ) → length (lines c z n) ≡ n
length-lines c z zero = refl
length-lines c z (suc n) = ap suc (length-lines c (z + 1) n)

get_or-lines : (c : flat.Card) (z n i : ℕ) (d : Line) → i < n → get_or (lines c z n) i d ≡ line c (z + i)
get_or-lines c z zero i d l = absurd (omega arith)
get_or-lines c z (suc n) zero d l = ap (line c) (sym (add-zero z))
get_or-lines c z (suc n) (suc i) d l = get_or-lines c (z + 1) n i d (omega arith) ∙ ap (line c) (omega arith)

module _ (m : Memory) (b : Book) where
  abbrev g : flat.Geometry
  g = geometry_of b.geometry

  -- the list of an accepted report, which has a line for each zone
  pub lines_are : (o : Option Book) (first : ℕ) (before after : List ZoneReport) → o ≡ Some b → first + length before ≤ zones g → length after ≡ length before
      → ((k : ℕ) → k < length before → line_of (get_or after k no_line) ≡ line (card_of m b) (first + k)) → map line_of after ≡ (report (flat_of m o) first (map line_of before)).1
  lines_are o first before after is fits same each =
      let c = card_of m b in
      let n = length (map line_of before) in
      let count : n ≡ length before = length-map before line_of in
      let long : length (map line_of after) ≡ length before = length-map after line_of ∙ same in
      let all : map line_of after ≡ lines c first n = ext_get_or (line_of no_line) (map line_of after) (lines c first n) (long ∙ sym (length-lines c first n ∙ count)) (λ k l.
      let u : k < length before = omega (arith, long) in
      get_or-map line_of after k no_line (line_of no_line) (omega arith) ∙ each k u ∙ sym (get_or-lines c first n k (line_of no_line) (omega arith))) in
      let accepted : ltb (zones g) (first + n) ≡ false = le-ltb _ _ (omega arith) in
      all ∙ sym (not_refused (cond (ltb (zones g) (first + n)) 16 0) (lines c first n) (map line_of before) (ap (λ t. cond t 16 0) accepted)) ∙ ap (λ x. (report (flat_of m x) first (map line_of before)).1) (sym is)
