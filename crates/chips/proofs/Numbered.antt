-- What a flash of numbered blocks shows of one block, and of all blocks after one has changed.
use Rattle.std.proofs.Common.{◌≡◌, ℕ, ◌+◌, ◌*◌, ◌<◌, true, cond, ◌&&◌, eqb, ltb, ◌≢◌, sym, refl, ap, ◌∙◌, arith}
use Rattle.std.proofs.lemmas.Bool.{and_from, cond-true, lt-ltb}
use Rattle.std.proofs.lemmas.Bool.Decides.{nat_tests}
use Rattle.flash.specs.Memory.{Block, no_block}
use Rattle.flash.specs.Calls.{spot, with_block}
use Rattle.flash.specs.declared.Shape.{Shape}
use Rattle.flash.proofs.Calls.{same_memory, same_spot}
use Rattle.chips.specs.Numbered.{number_below, numbered}
use Rattle.chips.specs.Shapes.{block_count}
use Rattle.chips.proofs.Pages.{same_column, same_row}

-- two flashes of one shape that are the same but for the block k of the bank b, at the block y of the bank x
one_block : (x y b k banks blocks : ℕ) (new old v : Block) → b < banks → k < blocks → (x ≡ b → y ≡ k → new ≡ v)
    → (x < banks → y < blocks → (x ≡ b → y ≡ k → ⊥) → new ≡ old)
    → cond (ltb x banks && ltb y blocks) new no_block ≡ cond (eqb x b && eqb y k) v (cond (ltb x banks && ltb y blocks) old no_block)
one_block x y b k banks blocks new old v inb ink same other = grind (arith, nat_tests)

-- the block k of the bank b, with the number i
module _ (s : Shape) (f : ℕ → Block) (b k i : ℕ) (bank : b < s.banks) (block : k < s.blocks) (number : i ≡ b * s.blocks + k) where
  pub numbered_spot : spot (numbered s f) b k ≡ record { here = true; depth = s.pages; block = f i }
  numbered_spot =
      let inside = and_from (ltb b s.banks) (ltb k s.blocks) (lt-ltb b s.banks bank) (lt-ltb k s.blocks block) in
      same_spot (spot (numbered s f) b k) (record { here = true; depth = s.pages; block = f i }) inside refl
      (cond-true (ltb b s.banks && ltb k s.blocks) _ no_block inside ∙ ap f (sym number))

  -- blocks that are the same but for this one
  pub numbered_changed : (g : ℕ → Block) → ((j : ℕ) → j < block_count s → j ≢ i → g j ≡ f j) → numbered s g ≡ with_block (numbered s f) b k (g i)
  numbered_changed g same =
      same_memory (numbered s g) (with_block (numbered s f) b k (g i)) refl refl refl (λ x y.
      one_block x y b k s.banks s.blocks _ _ (g i) bank block
      (λ p q. (λ t. g (p t * s.blocks + q t)) ∙ ap g (sym number))
      (λ h l other. same (x * s.blocks + y) (number_below x y s.banks s.blocks h l) (λ e.
      let w : x * s.blocks + y ≡ b * s.blocks + k = e ∙ number in
      other (same_row x b s.blocks y k l block w) (same_column x b s.blocks y k l block w))))
