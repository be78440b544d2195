-- Demand 2, down to each step: a dispatch that is served is its threads in order, each its steps in order, each
-- step the instruction's rule.
use Rattle.std.specs.Prelude.{ℕ, suc, ◌+◌, ◌*◌, ◌^◌, ◌≤◌, ◌<◌, ◌≡◌, true, false, List, ◌↔◌, length, Some, Err}
use Rattle.words.specs.Arithmetic.{sum}
use Rattle.memory.specs.declared.access.Width.{Width}
use Rattle.memory.specs.declared.quad.Quad.{Quad}
use Rattle.memory.specs.Access.{bytes_of}
use Rattle.memory.specs.Address.{outside_at, reach_of}
use Rattle.memory.specs.Window.{window_of, put_back}
use Rattle.instruction.specs.declared.list.Instr.{Instr}
use Rattle.instruction.specs.declared.list.Op.TheVariants.{Load, Vld, Wfi, Unlisted}
use Rattle.instruction.specs.declared.effect.Effect.TheVariants.{Store, StoreQuad, Go}
use Rattle.instruction.specs.Decode.{op_of, decoded}
use Rattle.instruction.specs.Effect.{effect_of}
use Rattle.pack.specs.declared.kernels.Kernel.{Kernel}
use Rattle.kernel.specs.declared.step.Stop.{Stop}
use Rattle.kernel.specs.declared.step.Stop.TheVariants.{NotListed, OffTheKernel, OutsideTheWindow, OutOfSteps}
use Rattle.kernel.specs.declared.thread.Thread.{Thread}
use Rattle.kernel.specs.declared.step.Progress.TheVariants.{Running, Ended, Stopped}
use Rattle.kernel.specs.declared.dispatch.ThreadStop.{ThreadStop}
use Rattle.pack.specs.Kernels.{kernel_of, code_word}
use Rattle.kernel.specs.Registers.{scalar_of}
use Rattle.kernel.specs.Thread.{started}
use Rattle.kernel.specs.Step.{stopped_as, ends_thread, lands, applied, executed, step_of}
use Rattle.kernel.specs.Run.{running, steps_of, run_of}
use Rattle.kernel.specs.Dispatch.{Dispatched, shown, going, thread_of, threads_of}
use Rattle.kernel.specs.Site.{site_of}
use Rattle.command.specs.declared.opcode.Opcode.TheVariants.{Dispatch1d}
use Rattle.command.specs.Outcome.{outcome_number, is_done}
use Rattle.work.specs.Work.{ran_outcome}
use Rattle.work.specs.Perform.{fault_of}
use Rattle.state.specs.declared.device.Device.{Device}
use Rattle.state.specs.Slots.{is_full}
use Rattle.state.specs.Device.{ring_of, slot_of}
use Rattle.device.specs.Turn.{Call, turn_of}
use Rattle.demands.specs.Calls.{head_in, number_in, values_in, ring_served}
use Rattle.demands.specs.Stops.{stop_number, ReachesOut, StoppedThread}

-- ring q's window of the memory that a call lends
abbrev pub window_in : Device → Call → ℕ → List ℕ
window_in d call q = window_of (ring_of d q).window.start (ring_of d q).window.length call.memory

-- ring q's head command is a DISPATCH_1D with no fault
pub record Dispatches (d : Device) (call : Call) (q : ℕ) : Type 0 where
  pub opcode : (head_in d call q).opcode ≡ Some Dispatch1d
  pub no_fault : is_done (fault_of (head_in d call q) (is_full d.edition (slot_of d (head_in d call q).rdst)) (length (window_in d call q)) (ring_of d q).frame call.pack) ≡ true

-- its kernel, number arg2 of the pack
abbrev pub kernel_in : Device → Call → ℕ → Kernel
kernel_in d call q = kernel_of call.pack (head_in d call q).arg2

-- its threads, arg0 groups of arg1, on its ring's window
abbrev pub threads_in : Device → Call → ℕ → Dispatched
threads_in d call q =
    let c = head_in d call q in
    threads_of (c.arg0 * c.arg1) d.limit call.pack (kernel_in d call q) c.arg0 c.arg1 (window_in d call q)

-- thread j of group g as it starts
abbrev pub thread_in : Device → Call → ℕ → ℕ → ℕ → Thread
thread_in d call q g j = started g j (head_in d call q).arg1 (head_in d call q).arg0

-- the turn leaves what the threads leave: the window is put back, and the outcome and where they stopped are theirs
pub record Leaves (d : Device) (call : Call) (threads : Dispatched) : Type 0 where
  pub memory : (turn_of d call).memory ≡ put_back (ring_of d (ring_served d call)).window.start threads.window call.memory
  pub pipe : (turn_of d call).pipe ≡ call.pipe
  pub outcome : (values_in d call).outcome ≡ outcome_number (ran_outcome threads.ran)
  pub site : (values_in d call).site ≡ site_of threads.ran

-- the threads one after another
pub record ThreadsInOrder (limit : ℕ) (pack : List ℕ) (kernel : Kernel) (groups threads : ℕ) (window : List ℕ) : Type 0 where
  -- before the first, nothing has stopped and the window is as it was
  pub none : threads_of 0 limit pack kernel groups threads window ≡ going window
  -- the next runs on the window that those before it left
  pub next : (n : ℕ) (window' : List ℕ) → threads_of n limit pack kernel groups threads window ≡ going window'
      → threads_of (suc n) limit pack kernel groups threads window ≡ thread_of limit pack kernel groups threads n window'
  -- a stop ends the whole dispatch
  pub stop : (n : ℕ) (stop : ThreadStop) → (threads_of n limit pack kernel groups threads window).ran ≡ Err stop
      → threads_of (suc n) limit pack kernel groups threads window ≡ threads_of n limit pack kernel groups threads window
  -- thread j of group g is number g · threads + j, and its result is its run's; a stop is told with its place, g and j
  pub number : (g j : ℕ) (window' : List ℕ) → j < threads
      → thread_of limit pack kernel groups threads (g * threads + j) window'
      ≡ shown g j (run_of limit pack kernel (started g j threads groups) window')

-- a thread's steps one after another
pub record StepsInOrder (limit : ℕ) (pack : List ℕ) (kernel : Kernel) (t : Thread) (window : List ℕ) : Type 0 where
  -- a run is the limit's steps, and one that stops a thread still running
  pub run : run_of limit pack kernel t window ≡ steps_of (limit + 1) limit pack kernel t window
  -- before the first, the thread is as it was, running
  pub none : steps_of 0 limit pack kernel t window ≡ running t window
  -- the next is a step of the thread and the window that those before it left
  pub next : (n : ℕ) (t' : Thread) (window' : List ℕ) → steps_of n limit pack kernel t window ≡ running t' window'
      → steps_of (suc n) limit pack kernel t window ≡ step_of limit pack kernel t' window'
  -- a thread that has ended or stopped takes no more
  pub end : (n : ℕ) → (steps_of n limit pack kernel t window).stepped.progress ≡ Ended
      → steps_of (suc n) limit pack kernel t window ≡ steps_of n limit pack kernel t window
  pub stop : (n : ℕ) (why : Stop) → (steps_of n limit pack kernel t window).stepped.progress ≡ Stopped why
      → steps_of (suc n) limit pack kernel t window ≡ steps_of n limit pack kernel t window

-- one step: 14, then running off the end (12), then 11, then the branch (12) or address (13)
pub record StepByRule (limit : ℕ) (pack : List ℕ) (kernel : Kernel) (t : Thread) (window : List ℕ) : Type 0 where
  -- 14 exactly for a thread that already took the limit's steps
  pub at_the_limit : limit ≤ t.steps → step_of limit pack kernel t window ≡ stopped_as OutOfSteps t window
  pub only_at_the_limit : (step_of limit pack kernel t window).stepped.progress ≡ Stopped OutOfSteps → limit ≤ t.steps
  -- else one that ran off the kernel's end
  pub off_the_end : t.steps < limit → kernel.length ≤ t.place → step_of limit pack kernel t window ≡ stopped_as OffTheKernel t window
  -- else a word that is not in the list
  pub not_listed : t.steps < limit → t.place < kernel.length → op_of (code_word pack kernel t.place) ≡ Unlisted
      → step_of limit pack kernel t window ≡ stopped_as NotListed t window
  -- else the instruction that stands there
  pub instruction : t.steps < limit → t.place < kernel.length
      → step_of limit pack kernel t window ≡ executed kernel.length (decoded (code_word pack kernel t.place)) t window
  -- whose rule goes by the values of its operands
  pub rule : (i : Instr)
      → executed kernel.length i t window
      ≡ applied kernel.length i.rd (effect_of i.op (scalar_of t.registers i.rs1) (scalar_of t.registers i.rs2) t.registers.vectors window) t window
  -- a taken branch to no place of the kernel
  pub branch : (rd offset : ℕ) → lands kernel.length (sum 32 t.place offset) ≡ false
      → applied kernel.length rd (Go offset) t window ≡ stopped_as OffTheKernel t window
  -- a store not wholly in the window: the test's address is passed on
  pub store : (rd : ℕ) (width : Width) (a x first : ℕ) → reach_of (length window) a (bytes_of width) ≡ Err (outside_at first)
      → applied kernel.length rd (Store width a x) t window ≡ stopped_as (OutsideTheWindow first) t window
  pub store_quad : (rd a : ℕ) (q : Quad) (first : ℕ) → reach_of (length window) a 16 ≡ Err (outside_at first)
      → applied kernel.length rd (StoreQuad a q) t window ≡ stopped_as (OutsideTheWindow first) t window
  -- a load not wholly in the window
  pub load : (rd : ℕ) (width : Width) (imm x y first : ℕ) (vectors : List Quad) → reach_of (length window) (sum 32 x imm) (bytes_of width) ≡ Err (outside_at first)
      → applied kernel.length rd (effect_of (Load width imm) x y vectors window) t window ≡ stopped_as (OutsideTheWindow first) t window
  pub load_quad : (rd vd x y first : ℕ) (vectors : List Quad) → reach_of (length window) x 16 ≡ Err (outside_at first)
      → applied kernel.length rd (effect_of (Vld vd) x y vectors window) t window ≡ stopped_as (OutsideTheWindow first) t window
  -- and an address is told of these alone, the first that they reached outside
  pub only_outside : (first : ℕ) → length window < 2 ^ 32 → (step_of limit pack kernel t window).stepped.progress ≡ Stopped (OutsideTheWindow first)
      → ReachesOut pack kernel t window first

-- the step limit of a thread that has taken no step: 14 is tied to the state after that many steps
pub record LimitTied (limit : ℕ) (pack : List ℕ) (kernel : Kernel) (t : Thread) (window : List ℕ) : Type 0 where
  -- its run gives 14 exactly if it is still running after the limit's steps
  pub given : ((run_of limit pack kernel t window).stepped.progress ≡ Stopped OutOfSteps)
      ↔ ((steps_of limit limit pack kernel t window).stepped.progress ≡ Running)
  -- and then the thread and the window are as those steps left them
  pub left : (steps_of limit limit pack kernel t window).stepped.progress ≡ Running
      → run_of limit pack kernel t window
      ≡ stopped_as OutOfSteps (steps_of limit limit pack kernel t window).stepped.thread (steps_of limit limit pack kernel t window).window
  -- a WFI that is step number `limit` ends the thread, and 14 is not given
  pub wfi : (n : ℕ) (t' : Thread) (window' : List ℕ) → n + 1 ≡ limit → steps_of n limit pack kernel t window ≡ running t' window'
      → t'.place < kernel.length → op_of (code_word pack kernel t'.place) ≡ Wfi
      → run_of limit pack kernel t window ≡ record { stepped = ends_thread t'; window = window' }
  -- after any other instruction that is step number `limit` and leaves it running, 14 is given, wherever the thread is then, past
  -- the kernel's last word too: so under a limit of 1 one instruction is run, then 14
  pub last : (n : ℕ) (t' t'' : Thread) (window' window'' : List ℕ) → n + 1 ≡ limit → steps_of n limit pack kernel t window ≡ running t' window'
      → t'.place < kernel.length → executed kernel.length (decoded (code_word pack kernel t'.place)) t' window' ≡ running t'' window''
      → run_of limit pack kernel t window ≡ stopped_as OutOfSteps t'' window''

-- no thread before this one stopped, and on the window that those left it is still running after the limit's steps
pub record FirstOutOfSteps (limit : ℕ) (pack : List ℕ) (kernel : Kernel) (groups threads : ℕ) (window : List ℕ) : Type 0 where
  pub group : ℕ
  pub thread : ℕ
  pub group_below : group < groups
  pub thread_below : thread < threads
  pub window-before : List ℕ
  pub before : threads_of (group * threads + thread) limit pack kernel groups threads window ≡ going window-before
  pub still : (steps_of limit limit pack kernel (started group thread threads groups) window-before).stepped.progress ≡ Running

-- that of the dispatch that is ring q's head command
abbrev pub OutOfStepsIn : Device → Call → ℕ → Type 0
OutOfStepsIn d call q =
    let c = head_in d call q in
    FirstOutOfSteps d.limit call.pack (kernel_in d call q) c.arg0 c.arg1 (window_in d call q)

-- the thread that stopped the dispatch that is ring q's head command, told by what the turn reports
abbrev pub StoppedIn : Device → Call → ℕ → Type 0
StoppedIn d call q =
    let c = head_in d call q in
    StoppedThread d.limit call.pack (kernel_in d call q) c.arg0 c.arg1 (window_in d call q) (values_in d call).outcome (values_in d call).site

-- a turn on any input, down to each step
pub record StepByStep (d : Device) (call : Call) : Type 0 where
  -- a turn that serves a DISPATCH_1D with no fault leaves what its threads leave
  pub served : number_in d call ≡ 0 → Dispatches d call (ring_served d call)
      → Leaves d call (threads_in d call (ring_served d call))
  -- its threads run in order
  pub threads : (kernel : Kernel) (groups threads : ℕ) (window : List ℕ) → ThreadsInOrder d.limit call.pack kernel groups threads window
  -- each takes its steps in order
  pub steps : (kernel : Kernel) (t : Thread) (window : List ℕ) → StepsInOrder d.limit call.pack kernel t window
  -- each step is by the instruction's rule
  pub step : (kernel : Kernel) (t : Thread) (window : List ℕ) → StepByRule d.limit call.pack kernel t window
  -- the limit's last step of each thread of a served dispatch, thread j of group g, is tied to the state after that many steps
  pub limits : number_in d call ≡ 0 → Dispatches d call (ring_served d call) → (g j : ℕ)
      → g < (head_in d call (ring_served d call)).arg0 → j < (head_in d call (ring_served d call)).arg1 → (window : List ℕ)
      → LimitTied d.limit call.pack (kernel_in d call (ring_served d call)) (thread_in d call (ring_served d call) g j) window
  -- and the turn's outcome is 14 exactly if the first of them to stop is still running after the limit's steps
  pub fourteen : number_in d call ≡ 0 → Dispatches d call (ring_served d call)
      → ((values_in d call).outcome ≡ 14) ↔ OutOfStepsIn d call (ring_served d call)
  -- outcomes 11 to 14 are such a dispatch's alone, and what is reported of the stop is the first stopping thread's
  pub stopped : number_in d call ≡ 0 → 11 ≤ (values_in d call).outcome
      → Dispatches d call (ring_served d call) × StoppedIn d call (ring_served d call)
  -- the outcomes that the stops give
  pub numbers : (stop_number NotListed ≡ 11) × (stop_number OffTheKernel ≡ 12) × ((first : ℕ) → stop_number (OutsideTheWindow first) ≡ 13)
      × (stop_number OutOfSteps ≡ 14)

unfoldable pub EachStep : Type 0
EachStep = (d : Device) (call : Call) → StepByStep d call
