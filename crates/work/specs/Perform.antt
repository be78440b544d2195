-- A command performed: its faults in order, and its work if there is none.
use Rattle.std.specs.Prelude.{ℕ, ◌+◌, ◌*◌, ◌≤◌, ◌≡◌, Bool, true, cond, List, length, Option, Ok, Err}
use Rattle.command.specs.declared.header.Command.{Command}
use Rattle.command.specs.declared.frame.Frame.{Frame}
use Rattle.command.specs.Outcome.{Outcome, is_done}
use Rattle.command.specs.Flags.{payload_bit}
use Rattle.command.specs.Faults.{header_fault}
use Rattle.work.specs.Checks.{slot_fault, check_of}
use Rattle.work.specs.Work.{Left, leaves, work_of}

-- a fault, or the next if it is none
unfoldable pub or_else : Outcome → Outcome → Outcome
or_else (Ok unit) next = next
or_else (Err fault) next = Err fault

-- the smallest of 1 to 10 that applies
unfoldable pub fault_of : Command → Bool → ℕ → Option Frame → List ℕ → Outcome
fault_of c full length frame pack = or_else (header_fault c) (or_else (slot_fault c full) (check_of c length frame pack))

-- the work if there is no fault; a fault changes no memory, pipe or frame
unfoldable pub guarded : Outcome → Option Frame → List ℕ → List ℕ → Left → Left
guarded fault frame window pipe work = cond (is_done fault) work (leaves fault frame window pipe)

-- a command performed; `full` tells whether its slot is
unfoldable pub performed_of : Command → Bool → List ℕ → List ℕ → Option Frame → List ℕ → List ℕ → ℕ → Left
performed_of c full ring window frame pack pipe limit =
    guarded (fault_of c full (length window) frame pack) frame window pipe (work_of c ring window frame pack pipe limit)

-- what a command needs of what is lent: its payload stands in the ring, and the pipe holds 255 words
pub record Lent (c : Command) (ring pipe : List ℕ) : Type 0 where
  pub payload : payload_bit c.flags ≡ true → c.payload + 4 * c.len ≤ length ring
  pub room : 1020 ≤ length pipe
