-- A command depends on its own bytes alone.
-- Assumes nothing.
use mathlib.Core.Path.{◌≡◌, refl}
use mathlib.Core.Bool.{Bool, true, false, cond}
use mathlib.Core.List.{List}
use Prim.Native.Nat.{ℕ, ◌+◌, ◌≤◌, ◌<◌}
use native.Mathlib.Omega.{arith}
use lib.ListN.{length, get_or}
use borrow.Author.Tests.{le-leb}
use Rattle.memory.specs.Place.{word_at}
use Rattle.command.specs.declared.flags.Flags.{Flags}
use Rattle.command.specs.Flags.{wait_bit}
use Rattle.command.specs.Header.{wait_size, target_at, command_at, is_whole}

-- two rings agree on the bytes from a up to b
abbrev pub Agree : List ℕ → List ℕ → ℕ → ℕ → Type 0
Agree r₁ r₂ a b = (i : ℕ) → a ≤ i → i < b → get_or r₁ i 0 ≡ get_or r₂ i 0

module _ (r₁ r₂ : List ℕ) where
  pub word-agree : (a : ℕ) → Agree r₁ r₂ a (a + 4) → word_at r₁ a ≡ word_at r₂ a
  unfolding word_at
  word-agree a same =
      cc (same a (omega arith) (omega arith), same (a + 1) (omega arith) (omega arith), same (a + 2) (omega arith) (omega arith), same (a + 3) (omega arith) (omega arith))

  target_agree : (cursor : ℕ) (flags : Flags) → Agree r₁ r₂ cursor (cursor + (16 + wait_size flags)) → target_at r₁ cursor flags ≡ target_at r₂ cursor flags
  unfolding target_at wait_size
  target_agree cursor flags same = go (wait_bit flags) same
    where
      go : (b : Bool) → Agree r₁ r₂ cursor (cursor + (16 + cond b 4 0)) → cond b (word_at r₁ (cursor + 16)) 0 ≡ cond b (word_at r₂ (cursor + 16)) 0
      go true same = word-agree (cursor + 16) (λ i ge lt. same i (omega arith) (omega arith))
      go false same = refl

  module _ (cursor : ℕ) (same : Agree r₁ r₂ cursor (cursor + (command_at r₁ cursor).size)) where
    head : Agree r₁ r₂ cursor (cursor + (16 + wait_size (command_at r₁ cursor).flags))
    unfolding command_at
    head i ge lt = same i ge (omega arith)

    byte : (i : ℕ) → cursor ≤ i → i < cursor + 16 → get_or r₁ i 0 ≡ get_or r₂ i 0
    byte i ge lt = head i ge (omega arith)

    word : (a : ℕ) → cursor ≤ a → a ≤ cursor + 12 → word_at r₁ a ≡ word_at r₂ a
    word a ge le = word-agree a (λ i low high. byte i (omega arith) (omega arith))

    -- two rings that agree on a command's bytes have the same command
    pub command-agree : command_at r₁ cursor ≡ command_at r₂ cursor
    unfolding command_at
    command-agree =
        rw (
          target_agree cursor (command_at r₁ cursor).flags head,
          byte cursor (omega arith) (omega arith),
          byte (cursor + 1) (omega arith) (omega arith),
          byte (cursor + 2) (omega arith) (omega arith),
          byte (cursor + 3) (omega arith) (omega arith),
          word (cursor + 4) (omega arith) (omega arith),
          word (cursor + 8) (omega arith) (omega arith),
          word (cursor + 12) (omega arith) (omega arith),
        )

    -- and it is whole in both, if both are long enough
    pub whole_agree : cursor + (command_at r₁ cursor).size ≤ length r₂ → is_whole r₂ cursor ≡ true
    unfolding is_whole
    whole_agree fits = le-leb _ _ (rw command-agree at fits)
