-- What the numbers of the refusals, and what the calls make of a flash, come to where the tests are known.
use Rattle.std.proofs.Common.{◌≡◌, ℕ, ◌<◌, true, eqb, List, length, sym, ◌∙◌, arith}
use Rattle.std.proofs.lemmas.Bool.{cond_both, cond-false, cond-true, eq-eqb, eqb-true, ne_eqb}
use Rattle.std.proofs.lemmas.Bool.Decides.{nat_tests}
use Rattle.flash.specs.Memory.{Memory}
use Rattle.flash.specs.Tables.{unless_refused}
use Rattle.flash.specs.Numbers.{number}
use Rattle.flash.specs.declared.Refusal.{Refusal}
use Rattle.flash.specs.declared.Refusal.TheVariants.{Outside, Length, Order, Blank, Worn}
use Rattle.flash.specs.Calls.{Spot, program_number, erase_number}

-- two memories, and two spots, that are the same in each part
pub same_memory : (m n : Memory) → m.banks ≡ n.banks → m.blocks ≡ n.blocks → m.depth ≡ n.depth → ((b k : ℕ) → m.at b k ≡ n.at b k) → m ≡ n
same_memory m n p q r h = λ i. record { banks = p i; blocks = q i; depth = r i; at = λ b k. h b k i }

pub same_spot : (s t : Spot) → s.here ≡ t.here → s.depth ≡ t.depth → s.block ≡ t.block → s ≡ t
same_spot s t p q r = λ i. record { here = p i; depth = q i; block = r i }

-- what comes of a call that is accepted, and of one that is refused
pub not_refused : {A : Type 0} (n : ℕ) (x y : A) → n ≡ 0 → unless_refused n x y ≡ x
not_refused n x y e = cond-true (eqb n 0) x y (eq-eqb n 0 e)

pub refused : {A : Type 0} (n e : ℕ) (x y : A) → n ≡ e → 0 < e → unless_refused n x y ≡ y
refused n e x y h l = cond-false (eqb n 0) x y (ne_eqb n 0 (λ z. omega arith))

pub program_done : (s : Spot) (p : ℕ) (bytes : List ℕ) → s.here ≡ true → p < s.depth → length bytes ≡ 2048 → p ≡ length s.block.pages → program_number s p bytes ≡ 0
program_done s p bytes here low long next = grind (arith, nat_tests)

pub erase_done : (s : Spot) → s.here ≡ true → 0 < s.block.lives → erase_number s ≡ 0
erase_done s here h = grind (arith, nat_tests)

-- what a function makes of a call that is accepted or refused
pub unless_refused_through : {A B : Type 0} (f : A → B) (n : ℕ) (new old : A) (last : B) → (n ≡ 0 → f new ≡ last) → f (unless_refused n new old) ≡ unless_refused n last (f old)
unless_refused_through f n new old last h =
    cond_both (eqb n 0) new old (λ x. f x ≡ unless_refused n last (f old))
    (λ e. h (eqb-true n 0 e) ∙ sym (cond-true (eqb n 0) last (f old) e))
    (λ e. sym (cond-false (eqb n 0) last (f old) e))

-- a refusal's number is not 0
pub number_some : (r : Refusal) → 0 < number r
number_some Outside = omega arith
number_some Length = omega arith
number_some Order = omega arith
number_some Blank = omega arith
number_some Worn = omega arith
