-- How the start and the end of a line's first word cut it off.
use Rattle.std.proofs.Common.{◌≡◌, ℕ, ◌+◌, ◌-◌, ◌<◌, Bool, true, false, cond, not, List, [], ◌∷◌, filter, length, nat_lt, get_or, take, drop, Some, None, Option, position, unwrap_or, inl, inr, refl, sym, ap, ◌∙◌, add-zero, one-add, arith, lt-ltb, ltb-false}
use Rattle.std.proofs.lemmas.Bool.{cases_Bool}
use Rattle.std.proofs.lemmas.List.{drop_all, get_or-drop, length-drop, take_all}
use Rattle.std.proofs.lemmas.List.Quantifiers.{position-Some}
use Rattle.std.proofs.lemmas.List.Sums.{prefix_len-le-length}
use Rattle.std.specs.List.{position_or_len, slice_split}
use Rattle.session.specs.Lines.{white, words}

-- the place that `position` gives, or the length where it gives none
or_len : (p : ℕ → Bool) (bs : List ℕ) (o : Option ℕ) → o ≡ position p bs → unwrap_or o (length bs) ≡ position_or_len p bs
or_len p bs o e =
    elim (cases_Bool (nat_lt (position_or_len p bs) (length bs))) [
      | inl h ↦ rw (e, h) refl
      | inr h ↦ rw (e, h) (omega (arith, ltb-false, prefix_len-le-length (λ b. not (p b)) bs))
    ]

-- how many bytes stand before the first word, and how many a word at the front has
abbrev start : List ℕ → ℕ
start bs = position_or_len (λ b. not (white b)) bs

abbrev end : List ℕ → ℕ
end bs = position_or_len white bs

-- white space at the front makes no difference
trimmed_words : (bs : List ℕ) → words (drop (start bs) bs) ≡ words bs
trimmed_words [] = refl
trimmed_words (b ∷ bs) = by (white b) refl (trimmed_words bs)
  where
    by : (t : Bool) → white b ≡ t → words (drop (start bs) bs) ≡ words bs → words (drop (cond (not (not t)) (1 + start bs) 0) (b ∷ bs)) ≡ words (b ∷ bs)
    by true e more = rw (one-add, e) more
    by false e more = refl

-- the part of a line before its first white space, and the parts after it
record Parted (bs : List ℕ) : Type 0 where
  parts : List (List ℕ)
  split : slice_split white bs ≡ take (end bs) bs ∷ parts
  left : filter (λ word. nat_lt 0 (length word)) parts ≡ words (drop (end bs) bs)

parted : (bs : List ℕ) → Parted bs
parted [] = record { parts = []; split = refl; left = refl }
parted (b ∷ bs) = by (white b) refl (parted bs)
  where
    by : (t : Bool) → white b ≡ t → Parted bs → Parted (b ∷ bs)
    by true e p = record { parts = slice_split white bs; split = rw e refl; left = rw e (rw e refl) }
    by false e p = record { parts = p.parts; split = rw (e, one-add, p.split) refl; left = rw (e, one-add) p.left }

-- a part that is not empty is kept
kept : (word : List ℕ) (parts : List (List ℕ)) → 0 < length word → filter (λ w. nat_lt 0 (length w)) (word ∷ parts) ≡ word ∷ filter (λ w. nat_lt 0 (length w)) parts
kept word parts h = rw (lt-ltb 0 (length word) h) refl

-- a line with a word at its front
front : (line : List ℕ) → 0 < length line → not (white (get_or line 0 0)) ≡ true → words line ≡ take (end line) line ∷ words (drop (end line) line)
front [] h e = absurd (omega arith)
front (b ∷ bs) h e =
    let p = parted (b ∷ bs) in
    let some : 0 < length (take (end (b ∷ bs)) (b ∷ bs)) = rw (e, one-add) (omega arith) in
    ap (filter (λ w. nat_lt 0 (length w))) p.split ∙ kept (take (end (b ∷ bs)) (b ∷ bs)) p.parts some ∙ ap (λ ws. take (end (b ∷ bs)) (b ∷ bs) ∷ ws) p.left

-- a line with nothing but white space
pub no_word : (bs : List ℕ) → None ≡ position (λ b. not (white b)) bs → words bs ≡ []
no_word bs e = sym (trimmed_words bs) ∙ ap words (drop_all (start bs) bs (omega (arith, or_len _ bs None e)))

-- a line from its place n on
abbrev from : ℕ → List ℕ → List ℕ
from n bs = take (length bs - n) (drop n bs)

-- a line whose first word starts at n
pub first_word : (bs : List ℕ) {n m : ℕ} {stop : Option ℕ} {word rest : List ℕ} → Some n ≡ position (λ b. not (white b)) bs → stop ≡ position white (from n bs) → m ≡ unwrap_or stop (length (from n bs)) → word ≡ take m (from n bs) → rest ≡ drop m (from n bs) → words bs ≡ word ∷ words rest
first_word bs {n} {m} {stop} at e long front_is rest_is =
    let here = position-Some (λ b. not (white b)) bs n 0 (sym at) in
    let whole : from n bs ≡ drop n bs = take_all _ _ (omega (arith, length-drop n bs)) in
    let starts : start bs ≡ n = sym (or_len _ bs (Some n) at) in
    let ends : m ≡ end (from n bs) = long ∙ or_len white (from n bs) stop e in
    let some = front (from n bs) (omega (arith, ap length whole, length-drop n bs, here.0)) (rw (whole, get_or-drop n bs 0 0, add-zero) here.1) in
    let all : words bs ≡ words (from n bs) = sym (trimmed_words bs) ∙ ap (λ k. words (drop k bs)) starts ∙ sym (ap words whole) in
    cc
