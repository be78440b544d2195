-- The thread that stopped a dispatch is the one that is told, and no other can be.
-- Assumes nothing.
use mathlib.Core.Path.{◌≡◌, refl, sym, ap, subst, ◌∙◌}
use mathlib.Core.List.{List}
use mathlib.Core.Logic.{⊎_elim}
use Prim.Native.Nat.{ℕ, zero, suc, ◌+◌, ◌*◌, ◌/◌, ◌%◌, ◌^◌, ◌≤◌, ◌<◌}
use native.Mathlib.Decide.{ℕ_discrete}
use native.Mathlib.Nat.{mod-lt, div-lt_iff_lt-mul, div-add-mod', mul-le-mul, suc-mul}
use native.Mathlib.Numerals.{add-one}
use native.Mathlib.Omega.{arith}
use lib.ListN as ListN
use Rattle.words.proofs.Order.{lt_or_ge}
use Rattle.instruction.specs.declared.list.Op.{Op}
use Rattle.instruction.specs.declared.list.Op.TheVariants.{Alu, Unary, AluImm, Lui, Branch, Load, Store, Membar, Wfi, Vector, Vbcast, Vextr, Vld, Vst, Unlisted}
use Rattle.instruction.specs.Decode.{decoded}
use Rattle.pack.specs.declared.kernels.Kernel.{Kernel}
use Rattle.pack.specs.Kernels.{code_word}
use Rattle.kernel.specs.declared.thread.Thread.{Thread}
use Rattle.kernel.specs.declared.step.Stop.{Stop}
use Rattle.kernel.specs.declared.step.Stop.TheVariants.{NotListed, OffTheKernel, OutsideTheWindow, OutOfSteps}
use Rattle.kernel.specs.declared.dispatch.ThreadStop.{ThreadStop}
use Rattle.std.specs.Prelude.{Result, Ok, Err}
use Rattle.kernel.specs.declared.site.Site.{Site}
use Rattle.kernel.specs.Registers.{scalar_of}
use Rattle.kernel.specs.Thread.{started}
use Rattle.kernel.specs.Step.{stops, stopped_as, step_of}
use Rattle.kernel.specs.Run.{running, run_of}
use Rattle.kernel.specs.Dispatch.{Dispatched, stop_at, shown, going, thread_of, threads_of}
use Rattle.kernel.specs.Site.{site_at, address_of, site_of}
use Rattle.kernel.proofs.Dispatches.{threads_positive, no_thread, one_thread-more}
use Rattle.kernel.proofs.StepLimit.{running_within}
use Rattle.kernel.proofs.Stopping.{stopped-run, stopping_step}
use Rattle.kernel.proofs.Threads.{starts_fresh, stopped-shown, shown-stopped, thread-number, stop-ends, stopped_by}
use Rattle.kernel.proofs.Windows.{threads-length}
use Rattle.work.specs.Work.{stop_outcome}
use Rattle.work.proofs.Sites.{stop-no_address}
use Rattle.demands.specs.Stops.{stop_number, Accesses, ReachesOut, StoppedThread, OneStop}
use Rattle.demands.proofs.Reaching.{reaches_out}

-- thread j of group g is one of the dispatch's
pub number_below : (g j groups threads : ℕ) → g < groups → j < threads → g * threads + j < groups * threads
number_below g j groups threads h k =
    let rows : suc g ≤ groups = omega arith in
    let all : suc g * threads ≤ groups * threads = mul-le-mul rows (omega arith) in
    omega (arith, suc-mul g threads)

-- of 13 the address is the first that was reached outside
address-reached : (limit : ℕ) (pack : List ℕ) (kernel : Kernel) (t : Thread) (window : List ℕ) (why : Stop) → ListN.length window < 2 ^ 32
    → step_of limit pack kernel t window ≡ stopped_as why t window → stop_number why ≡ 13 → ReachesOut pack kernel t window (address_of why)
unfolding stop_outcome stops
address-reached limit pack kernel t window NotListed small e n = absurd (omega (arith, n))
address-reached limit pack kernel t window OffTheKernel small e n = absurd (omega (arith, n))
address-reached limit pack kernel t window (OutsideTheWindow first) small e n = reaches_out limit pack kernel t window first small (rw e)
address-reached limit pack kernel t window OutOfSteps small e n = absurd (omega (arith, n))

module _ (limit : ℕ) (pack : List ℕ) (kernel : Kernel) (groups threads : ℕ) (window : List ℕ) where
  -- the first_threads n threads, and all
  abbrev first_threads : ℕ → Dispatched
  first_threads n = threads_of n limit pack kernel groups threads window

  abbrev all : Dispatched
  all = first_threads (groups * threads)

  -- the thread that stopped them
  pub record Stopper (n : ℕ) (stop : ThreadStop) : Type 0 where
    pub number : ℕ
    pub below : number < n
    pub left : List ℕ
    pub before : first_threads number ≡ going left
    pub stopped : (thread_of limit pack kernel groups threads number left).ran ≡ Err stop

  pub stopper : (n : ℕ) (stop : ThreadStop) → (first_threads n).ran ≡ Err stop → Stopper n stop
  stopper zero stop e =
      let none = no_thread limit pack kernel groups threads window in
      absurd (grind arith)
  stopper (suc n) stop e = go (first_threads n).ran refl (stopper n stop)
    where
      go : (r : Result Unit ThreadStop) → (first_threads n).ran ≡ r → ((first_threads n).ran ≡ Err stop → Stopper n stop) → Stopper (suc n) stop
      go (Ok u) now lower =
          let before : first_threads n ≡ going (first_threads n).window = ap (λ r. record { ran = r; window = (first_threads n).window }) now in
          let here = rw add-one at (one_thread-more limit pack kernel groups threads window n (first_threads n).window before) in
          record { number = n; below = omega arith; left = (first_threads n).window; before = before; stopped = rw here at e }
      go (Err other) now lower =
          let same = stop-ends limit pack kernel groups threads window n (suc n) other (omega arith) now in
          let s = lower (rw same at e) in
          record { number = s.number; below = omega arith; left = s.left; before = s.before; stopped = s.stopped }

  -- what is told of a dispatch's stop is the stopping thread's
  pub stopped-thread : (stop : ThreadStop) → all.ran ≡ Err stop → ListN.length window < 2 ^ 32
      → StoppedThread limit pack kernel groups threads window (stop_number stop.why) (site_of (Err stop))
  unfolding thread_of shown run_of site_of stops
  stopped-thread stop e small =
      let s = stopper (groups * threads) stop e in
      let some = threads_positive groups threads s.number s.below in
      let g = s.number / threads in
      let j = s.number % threads in
      let t = started g j threads groups in
      let told = shown-stopped g j (run_of limit pack kernel t s.left) stop s.stopped in
      let step = stopping_step limit pack kernel t s.left (limit + 1) stop.why told.why in
      let by = stopped_by limit pack kernel groups threads window (groups * threads) s.number s.left stop s.below s.before s.stopped in
      let left : all.window ≡ step.window_there = ap (λ a. a.window) by ∙ ap (λ a. a.window) step.left in
      let short : ListN.length step.window_there < 2 ^ 32 =
      rw (← left, threads-length limit pack window (groups * threads) kernel groups threads) small in
      subst (λ (a : ThreadStop). StoppedThread limit pack kernel groups threads window (stop_number a.why) (site_of (Err a))) (sym told.told)
      (record {
        group_below = (div-lt_iff_lt-mul some).1 s.below;
        thread_below = mod-lt s.number some;
        window-before = s.left;
        before = rw (div-add-mod' s.number threads) s.before;
        steps = step.steps;
        standing = step.standing;
        window_there = step.window_there;
        still = step.still;
        place = ap (λ a. a.stepped.thread.place) step.left;
        why = stop.why;
        stop = step.stop;
        left = left;
        number = refl;
        reached = address-reached limit pack kernel step.standing step.window_there stop.why short step.stop;
        no_address = stop-no_address stop.why;
      })

  -- and what is told of a stopping thread is the dispatch's stop
  module _ (outcome : ℕ) (site : Site) (s : StoppedThread limit pack kernel groups threads window outcome site) where
    abbrev start : Thread
    start = started site.group site.thread threads groups

    -- the stop that is told
    abbrev told_stop : ThreadStop
    told_stop = stop_at s.why site.place site.group site.thread

    its_run : run_of limit pack kernel start s.window-before ≡ stopped_as s.why s.standing s.window_there
    unfolding running stops
    its_run =
        let within = running_within limit pack kernel start s.window-before (starts_fresh site.group site.thread threads groups) s.steps (rw s.still) in
        stopped-run limit pack kernel start s.window-before s.steps s.standing s.window_there s.why within s.still (rw s.stop)

    pub told_ran : all.ran ≡ Err told_stop
    unfolding stops
    told_ran =
        let run = its_run in
        let number = thread-number limit pack kernel groups threads site.group site.thread s.window-before s.thread_below in
        let shows = stopped-shown site.group site.thread (run_of limit pack kernel start s.window-before) s.why (rw run) in
        let told : (thread_of limit pack kernel groups threads (site.group * threads + site.thread) s.window-before).ran ≡ Err told_stop =
        rw number (shows ∙ (rw (run, ← s.place))) in
        let below = number_below site.group site.thread groups threads s.group_below s.thread_below in
        ap (λ d. d.ran) (stopped_by limit pack kernel groups threads window (groups * threads) _ s.window-before told_stop below s.before told) ∙ told

-- an instruction accesses one address
one-access : (op : Op) (x address₁ address₂ count₁ count₂ : ℕ) → Accesses op x address₁ count₁ → Accesses op x address₂ count₂ → address₁ ≡ address₂
one-access (Load width imm) x address₁ address₂ count₁ count₂ a b = a.0 ∙ sym b.0
one-access (Store width imm) x address₁ address₂ count₁ count₂ a b = a.0 ∙ sym b.0
one-access (Vld vd) x address₁ address₂ count₁ count₂ a b = a.0 ∙ sym b.0
one-access (Vst v2) x address₁ address₂ count₁ count₂ a b = a.0 ∙ sym b.0
one-access (Alu o) x address₁ address₂ count₁ count₂ a b = absurd a
one-access (Unary o) x address₁ address₂ count₁ count₂ a b = absurd a
one-access (AluImm o imm) x address₁ address₂ count₁ count₂ a b = absurd a
one-access (Lui imm) x address₁ address₂ count₁ count₂ a b = absurd a
one-access (Branch c offset) x address₁ address₂ count₁ count₂ a b = absurd a
one-access Membar x address₁ address₂ count₁ count₂ a b = absurd a
one-access Wfi x address₁ address₂ count₁ count₂ a b = absurd a
one-access (Vector op ty vd v1 v2) x address₁ address₂ count₁ count₂ a b = absurd a
one-access (Vbcast vd) x address₁ address₂ count₁ count₂ a b = absurd a
one-access (Vextr v1) x address₁ address₂ count₁ count₂ a b = absurd a
one-access Unlisted x address₁ address₂ count₁ count₂ a b = absurd a

-- so it reaches out at one first address
one_reach : (pack : List ℕ) (kernel : Kernel) (t : Thread) (window : List ℕ) (first₁ first₂ : ℕ)
    → ReachesOut pack kernel t window first₁ → ReachesOut pack kernel t window first₂ → first₁ ≡ first₂
one_reach pack kernel t window first₁ first₂ a b =
    let i = decoded (code_word pack kernel t.place) in
    let same = one-access i.op (scalar_of t.registers i.rs1) a.address b.address a.count b.count a.access b.access in
    ⊎_elim
    (λ within. a.across within ∙ sym (b.across (omega (arith, same))))
    (λ past. a.own past ∙ same ∙ sym (b.own (omega (arith, same))))
    (lt_or_ge a.address (ListN.length window))

pub one-stop : OneStop
unfolding OneStop stops
one-stop limit pack kernel groups threads window outcome₁ outcome₂ site₁ site₂ a b =
    let ran-a = told_ran limit pack kernel groups threads window outcome₁ site₁ a in
    let ran-b = told_ran limit pack kernel groups threads window outcome₂ site₂ b in
    let stop : told_stop limit pack kernel groups threads window outcome₁ site₁ a ≡ told_stop limit pack kernel groups threads window outcome₂ site₂ b = cc in
    let why : a.why ≡ b.why = ap (λ s. s.why) stop in
    let place : site₁.place ≡ site₂.place = ap (λ s. s.place) stop in
    let group : site₁.group ≡ site₂.group = ap (λ s. s.group) stop in
    let thread : site₁.thread ≡ site₂.thread = ap (λ s. s.thread) stop in
    let outcome : outcome₁ ≡ outcome₂ = a.number ∙ ap stop_number why ∙ sym b.number in
    let before-b : threads_of (site₁.group * threads + site₁.thread) limit pack kernel groups threads window ≡ going b.window-before = rw (group, thread) b.before in
    let before : a.window-before ≡ b.window-before = ap (λ d. d.window) (sym a.before ∙ before-b) in
    let run-a = its_run limit pack kernel groups threads window outcome₁ site₁ a in
    let run-b : run_of limit pack kernel (started site₁.group site₁.thread threads groups) a.window-before ≡ stopped_as b.why b.standing b.window_there =
    rw (group, thread, before) (its_run limit pack kernel groups threads window outcome₂ site₂ b) in
    let standing : a.standing ≡ b.standing = ap (λ s. s.stepped.thread) (sym run-a ∙ run-b) in
    let there : a.window_there ≡ b.window_there = sym a.left ∙ b.left in
    (outcome, same place group thread (address outcome standing there (ℕ_discrete outcome₁ 13)))
  where
    address : outcome₁ ≡ outcome₂ → a.standing ≡ b.standing → a.window_there ≡ b.window_there → Dec (outcome₁ ≡ 13) → site₁.address ≡ site₂.address
    address outcome standing there (yes is) =
        one_reach pack kernel b.standing b.window_there _ _ (rw (← standing, ← there) (a.reached is)) (b.reached (sym outcome ∙ is))
    address outcome standing there (no not) = a.no_address not ∙ sym (b.no_address (λ is. not (outcome ∙ is)))

    same : site₁.place ≡ site₂.place → site₁.group ≡ site₂.group → site₁.thread ≡ site₂.thread → site₁.address ≡ site₂.address → site₁ ≡ site₂
    same place group thread reached =
        let told : site_at site₁.address site₁.place site₁.group site₁.thread
        ≡ site_at site₂.address site₂.place site₂.group site₂.thread = rw (reached, place, group, thread) in
        told
