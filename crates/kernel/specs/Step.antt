-- One step of a thread. The order is: 14, running off the end (12), 11, then the branch (12) or the address (13).
use Rattle.std.specs.Prelude.{ℕ, ◌%◌, ◌≡◌, Bool, cond, ◌&&◌, List, leb, ltb, eqb, Result}
use Rattle.std.proofs.Math.ListN as ListN
use Rattle.words.specs.Arithmetic.{sum}
use Rattle.memory.specs.declared.address.Outside.{Outside}
use Rattle.memory.specs.Address.{reach_of, if_inside}
use Rattle.memory.specs.Access.{bytes_of, store_of}
use Rattle.memory.specs.Quad.{store_quad_of}
use Rattle.instruction.specs.declared.list.Instr.{Instr}
use Rattle.instruction.specs.declared.effect.Effect.{Effect}
use Rattle.instruction.specs.declared.effect.Effect.TheVariants.{Put, PutQuad, Store, StoreQuad, Go, Next, End, NotListed as WordNotListed, Outside as LoadOutside}
use Rattle.instruction.specs.Decode.{decoded}
use Rattle.instruction.specs.Effect.{effect_of}
use Rattle.pack.specs.declared.kernels.Kernel.{Kernel}
use Rattle.kernel.specs.declared.thread.Thread.{Thread}
use Rattle.kernel.specs.declared.step.Stop.{Stop}
use Rattle.kernel.specs.declared.step.Stop.TheVariants.{NotListed, OffTheKernel, OutsideTheWindow, OutOfSteps}
use Rattle.kernel.specs.declared.step.Stepped.{Stepped}
use Rattle.kernel.specs.declared.step.Progress.TheVariants.{Running, Ended, Stopped}
use Rattle.pack.specs.Kernels.{code_word}
use Rattle.kernel.specs.Registers.{scalar_of}
use Rattle.kernel.specs.Thread.{written, written_vector, moved_to, advanced}

-- a thread with what became of it, and its window
pub record State : Type 0 where
  pub stepped : Stepped
  pub window : List ℕ

-- what a function returns and leaves in the window is this state
pub record Shows (r : Stepped) (left : List ℕ) (s : State) : Type 0 where
  pub answer : r ≡ s.stepped
  pub window : left ≡ s.window

-- the thread stops and takes no step
unfoldable pub stops : Stop → Thread → Stepped
stops why t = record { thread = t; progress = Stopped why }

-- the thread has stopped, and it and the window are as they were
abbrev pub stopped_as : Stop → Thread → List ℕ → State
stopped_as why t window = record { stepped = stops why t; window = window }

-- the thread goes on to the next instruction
unfoldable pub goes_on : Thread → Stepped
goes_on t = record { thread = advanced t; progress = Running }

-- WFI is a step and ends the thread
unfoldable pub ends_thread : Thread → Stepped
ends_thread t = record { thread = advanced t; progress = Ended }

-- a taken branch must land on a multiple of 4 inside the kernel; in a sound pack a place before its start wraps to one past its end
unfoldable pub lands : ℕ → ℕ → Bool
lands length place = eqb (place % 4) 0 && ltb place length

unfoldable pub branched : ℕ → ℕ → Thread → Stepped
branched length offset t =
    cond (lands length (sum 32 t.place offset))
    (record { thread = moved_to t (sum 32 t.place offset); progress = Running })
    (stops OffTheKernel t)

-- a store not wholly in the window stops the thread, and the first address that is not inside is handed on
unfoldable pub after_store : Result Unit Outside → Thread → Stepped
after_store reach t = if_inside reach (goes_on t) (λ o. stops (OutsideTheWindow o.first) t)

-- an effect done to a thread and its window, in a kernel of `length` bytes
unfoldable pub applied : ℕ → ℕ → Effect → Thread → List ℕ → State
applied length rd (Put x) t window = record { stepped = goes_on (written t rd x); window = window }
applied length rd (PutQuad vd q) t window = record { stepped = goes_on (written_vector t (vd % 32) q); window = window }
applied length rd (Store width a x) t window = record {
  stepped = after_store (reach_of (ListN.length window) a (bytes_of width)) t;
  window = store_of window width a x;
}
applied length rd (StoreQuad a q) t window = record {
  stepped = after_store (reach_of (ListN.length window) a 16) t;
  window = store_quad_of window a q;
}
applied length rd (Go offset) t window = record { stepped = branched length offset t; window = window }
applied length rd Next t window = record { stepped = goes_on t; window = window }
applied length rd End t window = record { stepped = ends_thread t; window = window }
applied length rd WordNotListed t window = stopped_as NotListed t window
applied length rd (LoadOutside first) t window = stopped_as (OutsideTheWindow first) t window

-- an instruction on the values of its operands
unfoldable pub executed : ℕ → Instr → Thread → List ℕ → State
executed length i t window =
    applied length i.rd
    (effect_of i.op (scalar_of t.registers i.rs1) (scalar_of t.registers i.rs2) t.registers.vectors window)
    t window

-- one step under a limit
unfoldable pub step_of : ℕ → List ℕ → Kernel → Thread → List ℕ → State
step_of limit pack kernel t window =
    cond (leb limit t.steps) (stopped_as OutOfSteps t window)
    (cond (leb kernel.length t.place) (stopped_as OffTheKernel t window)
    (executed kernel.length (decoded (code_word pack kernel t.place)) t window))
