-- How a call goes through a layer that only moves blocks.
use Rattle.std.proofs.Common.{◌≡◌, ℕ, sym, ap, ◌∙◌}
use Rattle.flash.specs.Calls.{Spot, changed, spot, with_block}
use Rattle.flash.specs.Memory.{Block, Memory}
use Rattle.flash.proofs.Calls.{unless_refused_through}

-- over the flash m the layer shows `show m`; the block k of the bank b that it shows is the block l of the bank c of m
pub record Carried (show : Memory → Memory) (m : Memory) (b k c l : ℕ) : Type 0 where
  -- a call sees the same there
  pub sees : spot (show m) b k ≡ spot m c l
  -- and a change of it is a change of that block alone
  pub changes : (v : Block) → show (with_block m c l v) ≡ with_block (show m) b k v

module _ {show : Memory → Memory} {m : Memory} {b k c l : ℕ} (at : Carried show m b k c l) where
  -- what a call makes of the flash
  pub done : (f : Spot → ℕ) (w : Block → Block) (m' : Memory) → m' ≡ changed m c l (f (spot m c l)) (w (m.at c l))
      → show m' ≡ changed (show m) b k (f (spot (show m) b k)) (w ((show m).at b k))
  done f w m' e =
      ap show e
      ∙ (unless_refused_through show (f (spot m c l)) (with_block m c l (w (m.at c l))) m _ (λ _. at.changes (w (m.at c l)))
      ∙ ap (λ s. changed (show m) b k (f s) (w s.block)) (sym at.sees))
