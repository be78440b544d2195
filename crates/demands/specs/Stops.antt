-- Demand 2, where a dispatch stopped: the reported group and thread are those of the thread that stopped, the place is that thread's,
-- and the address is its access's.
use Rattle.std.specs.Prelude.{ℕ, ◌+◌, ◌*◌, ◌≤◌, ◌<◌, ◌≡◌, List, length}
use Rattle.words.specs.Arithmetic.{sum}
use Rattle.memory.specs.Access.{bytes_of}
use Rattle.instruction.specs.declared.list.Op.{Op}
use Rattle.instruction.specs.declared.list.Op.TheVariants.{Alu, Unary, AluImm, Lui, Branch, Load, Store, Membar, Wfi, Vector, Vbcast, Vextr, Vld, Vst, Unlisted}
use Rattle.instruction.specs.Decode.{decoded}
use Rattle.pack.specs.declared.kernels.Kernel.{Kernel}
use Rattle.pack.specs.Kernels.{code_word}
use Rattle.kernel.specs.declared.thread.Thread.{Thread}
use Rattle.kernel.specs.declared.step.Stop.{Stop}
use Rattle.kernel.specs.declared.site.Site.{Site}
use Rattle.kernel.specs.Registers.{scalar_of}
use Rattle.kernel.specs.Thread.{started}
use Rattle.kernel.specs.Step.{stopped_as, step_of}
use Rattle.kernel.specs.Run.{running, steps_of}
use Rattle.kernel.specs.Dispatch.{going, threads_of}
use Rattle.command.specs.Outcome.{fault_number}
use Rattle.work.specs.Work.{stop_outcome}

-- the number of the outcome that a stop gives
abbrev pub stop_number : Stop → ℕ
stop_number why = fault_number (stop_outcome why)

-- an instruction whose rs1 holds x loads or stores `count` bytes from `address` on; the address wraps to 32 bits
abbrev pub Accesses : Op → ℕ → ℕ → ℕ → Type 0
Accesses (Load width imm) x address count = (address ≡ sum 32 x imm) × (count ≡ bytes_of width)
Accesses (Store width imm) x address count = (address ≡ sum 32 x imm) × (count ≡ bytes_of width)
Accesses (Vld vd) x address count = (address ≡ x) × (count ≡ 16)
Accesses (Vst v2) x address count = (address ≡ x) × (count ≡ 16)
Accesses (Alu o) x address count = ⊥
Accesses (Unary o) x address count = ⊥
Accesses (AluImm o imm) x address count = ⊥
Accesses (Lui imm) x address count = ⊥
Accesses (Branch c offset) x address count = ⊥
Accesses Membar x address count = ⊥
Accesses Wfi x address count = ⊥
Accesses (Vector op ty vd v1 v2) x address count = ⊥
Accesses (Vbcast vd) x address count = ⊥
Accesses (Vextr v1) x address count = ⊥
Accesses Unlisted x address count = ⊥

-- the instruction at the thread's place loads or stores `count` bytes from `address` on
abbrev pub AccessesAt : List ℕ → Kernel → Thread → ℕ → ℕ → Type 0
AccessesAt pack kernel t address count =
    let i = decoded (code_word pack kernel t.place) in
    Accesses i.op (scalar_of t.registers i.rs1) address count

-- the load or store at the thread's place is not wholly in the window, and `first` is the first address that is not inside
pub record ReachesOut (pack : List ℕ) (kernel : Kernel) (t : Thread) (window : List ℕ) (first : ℕ) : Type 0 where
  pub address : ℕ
  pub count : ℕ
  pub access : AccessesAt pack kernel t address count
  -- its end, not wrapped, is above the window's length
  pub ends : length window < address + count
  -- the access's own address if that is not inside
  pub own : length window ≤ address → first ≡ address
  -- the window's length if it begins inside and ends outside
  pub across : address < length window → first ≡ length window

-- the thread that stopped a dispatch, told by an outcome, an address, a place, a group and a thread
pub record StoppedThread (limit : ℕ) (pack : List ℕ) (kernel : Kernel) (groups threads : ℕ) (window : List ℕ) (outcome : ℕ) (site : Site) : Type 0 where
  -- there is such a group, and such a thread in it
  pub group_below : site.group < groups
  pub thread_below : site.thread < threads
  -- no thread before it stopped
  pub window-before : List ℕ
  pub before : threads_of (site.group * threads + site.thread) limit pack kernel groups threads window ≡ going window-before
  -- on the window that those left it takes some steps and is still running, and it stands at the place
  pub steps : ℕ
  pub standing : Thread
  pub window_there : List ℕ
  pub still : steps_of steps limit pack kernel (started site.group site.thread threads groups) window-before ≡ running standing window_there
  pub place : site.place ≡ standing.place
  -- its next step stops it, and nothing changes any more
  pub why : Stop
  pub stop : step_of limit pack kernel standing window_there ≡ stopped_as why standing window_there
  pub left : (threads_of (groups * threads) limit pack kernel groups threads window).window ≡ window_there
  -- the outcome is that stop's
  pub number : outcome ≡ stop_number why
  -- of 13 the address is the first that the load or store at this place reached outside, of the others 0
  pub reached : outcome ≡ 13 → ReachesOut pack kernel standing window_there site.address
  pub no_address : (outcome ≡ 13 → ⊥) → site.address ≡ 0

-- no second outcome, address, place, group or thread is told of the same dispatch
unfoldable pub OneStop : Type 0
OneStop =
    (limit : ℕ) (pack : List ℕ) (kernel : Kernel) (groups threads : ℕ) (window : List ℕ) (outcome₁ outcome₂ : ℕ) (site₁ site₂ : Site)
    → StoppedThread limit pack kernel groups threads window outcome₁ site₁
    → StoppedThread limit pack kernel groups threads window outcome₂ site₂
    → (outcome₁ ≡ outcome₂) × (site₁ ≡ site₂)
