-- The size of a command: 16 bytes, the target and the payload.
-- Assumes nothing.
use mathlib.Core.Path.{◌≡◌}
use mathlib.Core.Bool.{true}
use mathlib.Core.List.{List}
use Prim.Native.Nat.{ℕ, ◌+◌, ◌*◌, ◌≤◌}
use native.Mathlib.Nat.{le_refl}
use native.Mathlib.Omega.{arith}
use lib.Dec.{lit≤}
use lib.ListN.{length}
use borrow.Author.Tests.{leb-true}
use Rattle.command.specs.declared.flags.Flags.{Flags}
use Rattle.command.specs.Flags.{wait_bit, payload_bit}
use Rattle.command.specs.Header.{wait_size, payload_size, command_at, is_whole}
use Rattle.words.proofs.Choices.{cond_le}

pub wait_size_most : (flags : Flags) → wait_size flags ≤ 4
unfolding wait_size
wait_size_most flags = cond_le (wait_bit flags) (lit≤ tt) (lit≤ tt)

pub payload_size_most : (flags : Flags) (len : ℕ) → payload_size flags len ≤ 4 * len
unfolding payload_size
payload_size_most flags len = cond_le (payload_bit flags) (le_refl _) (omega arith)

module _ (ring : List ℕ) (cursor : ℕ) where
  pub size_least : 16 ≤ (command_at ring cursor).size
  unfolding command_at
  size_least = omega arith

  pub size_by_len : (command_at ring cursor).size ≤ 20 + 4 * (command_at ring cursor).len
  unfolding command_at
  size_by_len =
      let c = command_at ring cursor in
      omega (arith, wait_size_most c.flags, payload_size_most c.flags c.len)

  -- a whole command's payload lies in the ring
  pub payload-inside : is_whole ring cursor ≡ true → payload_bit (command_at ring cursor).flags ≡ true
      → (command_at ring cursor).payload + 4 * (command_at ring cursor).len ≤ length ring
  unfolding is_whole command_at payload_size
  payload-inside whole set =
      let fits : cursor + (command_at ring cursor).size ≤ length ring = leb-true _ _ whole in
      omega (arith, rw set at fits)

-- a whole command ends inside its ring
pub whole-inside : (ring : List ℕ) (cursor : ℕ) → is_whole ring cursor ≡ true → cursor + (command_at ring cursor).size ≤ length ring
unfolding is_whole
whole-inside ring cursor h = leb-true (cursor + (command_at ring cursor).size) (length ring) h
