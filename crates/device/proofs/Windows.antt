-- The part of the memory that a turn lends is the ring's window.
-- Assumes nothing.
use mathlib.Core.Path.{◌≡◌, ap, ◌∙◌, sym}
use mathlib.Core.List.{List, ◌++◌}
use Prim.Native.Nat.{ℕ, ◌+◌, ◌-◌, ◌≤◌}
use native.Mathlib.Omega.{arith}
use lib.ListN.{length, take, drop}
use Rattle.memory.specs.Window.{window_of, put_back}
use Rattle.memory.proofs.Window.{window-length, loan_put_back}

module _ (start n : ℕ) (memory : List ℕ) where
  same : start + n - start ≡ n
  same = omega arith

  pub lent-window : take (start + n - start) (drop start memory) ≡ window_of start n memory
  unfolding window_of
  lent-window = rw same

  -- what came back of it is put back
  pub lent_back : start + n ≤ length memory → (w : List ℕ) → length w ≡ length (take (start + n - start) (drop start memory))
      → take start memory ++ (w ++ drop (start + n - start) (drop start memory)) ≡ put_back start w memory
  lent_back fits w kept =
      loan_put_back start (start + n) memory w (kept ∙ ap length lent-window ∙ window-length start n memory fits ∙ sym same)
