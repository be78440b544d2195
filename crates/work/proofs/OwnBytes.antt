-- What a command does depends on its own bytes of the ring alone.
-- Assumes nothing.
use Rattle.std.proofs.Common.{Option, Some, None}
use mathlib.Core.Path.{◌≡◌, refl, ap, sym, ◌∙◌}
use mathlib.Core.Bool.{Bool, true, false}
use mathlib.Core.List.{List}
use Prim.Native.Nat.{ℕ, ◌+◌, ◌*◌}
use native.Mathlib.Omega.{arith}
use lib.ListN.{length, set}
use Rattle.memory.specs.Transfer.{transferred}
use Rattle.memory.proofs.After.{after-agree}
use Rattle.command.specs.declared.header.Command.{Command}
use Rattle.command.specs.declared.frame.Frame.{Frame}
use Rattle.command.specs.declared.opcode.Opcode.{Opcode}
use Rattle.command.specs.declared.opcode.Opcode.TheVariants.{WriteMem, ReadMem, FillRect, Blit, Dispatch1d, Barrier, CopyBuffer, SetFb}
use Rattle.command.specs.Outcome.{is_done}
use Rattle.command.specs.Flags.{payload_bit}
use Rattle.command.specs.Table.{row_of}
use Rattle.command.specs.Header.{payload_size, command_at}
use Rattle.command.specs.Faults.{header_fault}
use Rattle.work.specs.Work.{work_by, work_of}
use Rattle.work.specs.Perform.{fault_of, performed_of}
use Rattle.command.proofs.Agree.{Agree}
use Rattle.work.proofs.Faultless.{payload_as_in_table, header_done}
use Rattle.work.proofs.Performs.{performed_work, performed_fault}

module _ (r₁ r₂ : List ℕ) where
  transferred-agree : (start at n : ℕ) (m : List ℕ) → Agree r₁ r₂ start (start + n) → transferred r₁ start at n m ≡ transferred r₂ start at n m
  unfolding transferred
  transferred-agree start at n m same =
      after-agree _ _ n m (λ i x b. ap (set x (at + i)) (same (start + i) (omega arith) (omega arith)))

  work_agree : (c : Command) (window : List ℕ) (frame : Option Frame) (pack pipe : List ℕ) (limit : ℕ)
      → (c.opcode ≡ Some WriteMem → Agree r₁ r₂ c.payload (c.payload + 4 * c.len))
      → work_of c r₁ window frame pack pipe limit ≡ work_of c r₂ window frame pack pipe limit
  unfolding work_of work_by
  work_agree c window frame pack pipe limit same = go c.opcode refl
    where
      go : (o : Option Opcode) → c.opcode ≡ o → work_by o c r₁ window frame pack pipe limit ≡ work_by o c r₂ window frame pack pipe limit
      go (Some WriteMem) e = rw (transferred-agree c.payload c.arg0 (4 * c.len) window (same e))
      go (Some ReadMem) e = refl
      go (Some FillRect) e = refl
      go (Some Blit) e = refl
      go (Some Dispatch1d) e = refl
      go (Some CopyBuffer) e = refl
      go (Some SetFb) e = refl
      go (Some Barrier) e = refl
      go None e = refl

  -- two rings that agree on a command's bytes have it do the same
  module _ (cursor : ℕ) (full : Bool) (window : List ℕ) (frame : Option Frame) (pack pipe : List ℕ) (limit : ℕ) (same : Agree r₁ r₂ cursor (cursor + (command_at r₁ cursor).size)) where
    abbrev c : Command
    c = command_at r₁ cursor

    payload-agree : is_done (header_fault c) ≡ true → c.opcode ≡ Some WriteMem → Agree r₁ r₂ c.payload (c.payload + 4 * c.len)
    unfolding command_at payload_size row_of
    payload-agree fine writes i low high =
        let set : payload_bit c.flags ≡ true = payload_as_in_table c fine ∙ rw writes in
        same i (omega arith) (rw set (omega arith))

    pub performed-agree : performed_of c full r₁ window frame pack pipe limit ≡ performed_of c full r₂ window frame pack pipe limit
    performed-agree = go (is_done (fault_of c full (length window) frame pack)) refl
      where
        go : (b : Bool) → is_done (fault_of c full (length window) frame pack) ≡ b
            → performed_of c full r₁ window frame pack pipe limit ≡ performed_of c full r₂ window frame pack pipe limit
        go true e =
            performed_work c full r₁ window frame pack pipe limit e
            ∙ work_agree c window frame pack pipe limit (payload-agree (header_done c full (length window) frame pack e))
            ∙ sym (performed_work c full r₂ window frame pack pipe limit e)
        go false e =
            performed_fault c full r₁ window frame pack pipe limit e
            ∙ sym (performed_fault c full r₂ window frame pack pipe limit e)
