-- A served dispatch, down to each step of each thread.
-- Assumes nothing.
use mathlib.Core.Path.{◌≡◌, refl, sym, ap, ◌∙◌}
use mathlib.Core.List.{List}
use mathlib.Core.Logic.{◌↔◌}
use Prim.Native.Nat.{ℕ, ◌^◌, ◌≤◌, ◌<◌}
use native.Mathlib.Numerals.{add-one}
use native.Mathlib.Omega.{arith}
use lib.ListN.{length}
use Rattle.memory.specs.Address.{if_inside}
use Rattle.memory.specs.Access.{load_of, store_of}
use Rattle.memory.specs.Quad.{load_quad_of, store_quad_of}
use Rattle.memory.proofs.Window.{window-length}
use Rattle.instruction.specs.Decode.{decoded}
use Rattle.instruction.specs.Effect.{loaded_effect, loaded_quad_effect, effect_of}
use Rattle.pack.specs.declared.kernels.Kernel.{Kernel}
use Rattle.kernel.specs.declared.thread.Thread.{Thread}
use Rattle.std.specs.Prelude.{Result, Ok, Err}
use Rattle.kernel.specs.declared.dispatch.ThreadStop.{ThreadStop}
use Rattle.kernel.specs.Thread.{started}
use Rattle.kernel.specs.Step.{stops, branched, after_store, applied, executed}
use Rattle.kernel.specs.Run.{running, steps_of}
use Rattle.kernel.specs.Dispatch.{if_done, thread_more, dispatch_of}
use Rattle.kernel.specs.Site.{site_of}
use Rattle.kernel.proofs.Runs.{ended_rests, stopped_rests, no_step, one-step_more}
use Rattle.kernel.proofs.Steps.{step_counts, at_the_limit, off_the_end, instruction_done}
use Rattle.kernel.proofs.StepByStep.{more_at_rest, one_more, run_is_steps}
use Rattle.kernel.proofs.Dispatches.{no_thread, one_thread-more}
use Rattle.kernel.proofs.StepLimit.{running_took, running_at_the_limit, out_of_steps, wfi_at_the_limit}
use Rattle.kernel.proofs.Threads.{starts_fresh, thread-number, one_more-thread}
use Rattle.command.specs.declared.header.Command.{Command}
use Rattle.command.specs.Outcome.{outcome_number}
use Rattle.work.specs.Work.{stop_outcome, ran_outcome, ran_as, dispatched_by, after_dispatch}
use Rattle.work.proofs.Works.{work_dispatch}
use Rattle.work.proofs.Performs.{performed_work}
use Rattle.work.proofs.Sites.{performed-stops}
use Rattle.state.specs.declared.device.Device.{Device}
use Rattle.state.specs.Device.{ring_of, slot_of}
use Rattle.device.specs.Answer.{values_of}
use Rattle.device.specs.Turn.{Call, served_of, ring_in, report_of}
use Rattle.device.proofs.Turns.{call_short, picked_servable}
use Rattle.demands.specs.Calls.{head_in, number_in, values_in, ring_served}
use Rattle.demands.specs.EachStep.{window_in, Dispatches, threads_in, kernel_in, Leaves, ThreadsInOrder, StepsInOrder, StepByRule, LimitTied, OutOfStepsIn, StoppedIn, EachStep}
use Rattle.demands.proofs.Turns.{work_in, served_as}
use Rattle.demands.proofs.Reaching.{reaches_out}
use Rattle.demands.proofs.Stops.{stopped-thread}
use Rattle.demands.proofs.OutOfSteps.{first_out_of_steps}
use Rattle.state.specs.Slots.{is_full}

-- the work of a DISPATCH_1D with no fault is what its threads leave
dispatch_work : (d : Device) (call : Call) (q : ℕ) → Dispatches d call q
    → work_in d call q ≡ after_dispatch (ring_of d q).frame call.pipe (threads_in d call q)
unfolding dispatched_by dispatch_of
dispatch_work d call q is =
    let c = head_in d call q in
    performed_work c (is_full d.edition (slot_of d c.rdst)) (ring_in call q) (window_in d call q) (ring_of d q).frame call.pack call.pipe d.limit is.no_fault
    ∙ work_dispatch c (ring_in call q) (window_in d call q) (ring_of d q).frame call.pack call.pipe d.limit is.opcode

dispatch-served : (d : Device) (call : Call) → number_in d call ≡ 0 → Dispatches d call (ring_served d call)
    → Leaves d call (threads_in d call (ring_served d call))
unfolding served_of after_dispatch ran_as values_of report_of
dispatch-served d call number is =
    let s = served_as d call number in
    let ring : ring_served d call ≡ s.report.ring = ap (λ v. v.ring) s.values in
    let told = ap (λ v. v.outcome) s.values ∙ sym (ap (λ r. outcome_number r.outcome) s.was.told) in
    let told-site = ap (λ v. v.site) s.values ∙ sym (ap (λ r. r.site) s.was.told) in
    let work = dispatch_work d call s.report.ring (rw ring at is) in
    record {
      memory = rw (ring, s.was.after, work);
      pipe = rw (s.was.after, work);
      outcome = rw ring (told ∙ ap (λ l. outcome_number l.performed.outcome) work);
      site = rw ring (told-site ∙ ap (λ l. l.performed.site) work);
    }

threads_in_order : (limit : ℕ) (pack : List ℕ) (kernel : Kernel) (groups threads : ℕ) (window : List ℕ) → ThreadsInOrder limit pack kernel groups threads window
unfolding thread_more if_done
threads_in_order limit pack kernel groups threads window = record {
  none = no_thread limit pack kernel groups threads window;
  next = λ n window' e. rw add-one at (one_thread-more limit pack kernel groups threads window n window' e);
  stop = λ n stop e. one_more-thread limit pack kernel groups threads window n ∙ rw e;
  number = λ g j window' h. thread-number limit pack kernel groups threads g j window' h;
}

steps_in_order : (limit : ℕ) (pack : List ℕ) (kernel : Kernel) (t : Thread) (window : List ℕ) → StepsInOrder limit pack kernel t window
steps_in_order limit pack kernel t window = record {
  run = run_is_steps limit pack kernel t window;
  none = no_step limit pack kernel t window;
  next = λ n t' window' e. rw add-one at (one-step_more limit pack kernel t window n t' window' e);
  end = λ n e. one_more limit pack kernel t window n ∙ more_at_rest limit pack kernel _ (ended_rests e);
  stop = λ n why e. one_more limit pack kernel t window n ∙ more_at_rest limit pack kernel _ (stopped_rests {why = why} e);
}

step_by_rule : (limit : ℕ) (pack : List ℕ) (kernel : Kernel) (t : Thread) (window : List ℕ) → StepByRule limit pack kernel t window
unfolding executed decoded applied branched after_store store_of store_quad_of effect_of loaded_effect loaded_quad_effect load_of load_quad_of if_inside stops
step_by_rule limit pack kernel t window = record {
  at_the_limit = at_the_limit limit pack kernel t window;
  only_at_the_limit = λ e. (rw e at (step_counts limit pack kernel t window)).1 refl;
  off_the_end = off_the_end limit pack kernel t window;
  not_listed = λ below on e. instruction_done limit pack kernel t window below on ∙ rw e;
  instruction = instruction_done limit pack kernel t window;
  rule = λ i. refl;
  branch = λ rd offset e. rw e;
  store = λ rd width a x first e. rw e;
  store_quad = λ rd a q first e. rw e;
  load = λ rd width imm x y first vectors e. rw e;
  load_quad = λ rd vd x y first vectors e. rw e;
  only_outside = reaches_out limit pack kernel t window;
}

-- a thread at its start is tied to the limit
limit_tied : (limit : ℕ) (pack : List ℕ) (kernel : Kernel) (g j threads groups : ℕ) (window : List ℕ)
    → LimitTied limit pack kernel (started g j threads groups) window
unfolding running
limit_tied limit pack kernel g j threads groups window =
    let t = started g j threads groups in
    let fresh = starts_fresh g j threads groups in
    record {
      given = out_of_steps limit pack kernel t window fresh;
      left = running_at_the_limit limit pack kernel t window fresh;
      wfi = wfi_at_the_limit limit pack kernel t window fresh;
      last = λ n t' t'' window' window'' is e on done.
          let took : t'.steps ≡ n = rw e at (running_took limit pack kernel t window fresh n (rw e)) in
          let step = instruction_done limit pack kernel t' window' (omega arith) on in
          let here : steps_of limit limit pack kernel t window ≡ running t'' window'' =
          ap (λ k. steps_of k limit pack kernel t window) (sym is) ∙ one-step_more limit pack kernel t window n t' window' e ∙ step ∙ done in
          running_at_the_limit limit pack kernel t window fresh (rw here) ∙ rw here;
    }

dispatch-fourteen : (d : Device) (call : Call) → number_in d call ≡ 0 → Dispatches d call (ring_served d call)
    → ((values_in d call).outcome ≡ 14) ↔ OutOfStepsIn d call (ring_served d call)
dispatch-fourteen d call served is =
    let q = ring_served d call in
    let c = head_in d call q in
    let first = first_out_of_steps d.limit call.pack (kernel_in d call q) c.arg0 c.arg1 (window_in d call q) in
    let same = (dispatch-served d call served is).outcome in
    (λ n. first.0 (sym same ∙ n), λ f. same ∙ first.1 f)

-- the served ring's window lies in the memory, and so is shorter than 2^32 bytes
window-short : (d : Device) (call : Call) → number_in d call ≡ 0 → length (window_in d call (ring_served d call)) < 2 ^ 32
unfolding values_of
window-short d call number =
    let s = served_as d call number in
    let ring : ring_served d call ≡ s.report.ring = ap (λ v. v.ring) s.values in
    let fits = (picked_servable d call s.report.ring s.was.sound s.was.pick).fits in
    let long = window-length _ _ call.memory fits in
    rw ring (omega (arith, long, fits, call_short d call s.was.sound))

-- outcomes 11 to 14 are a DISPATCH_1D's with no fault
stopped_dispatches : (d : Device) (call : Call) → number_in d call ≡ 0 → 11 ≤ (values_in d call).outcome → Dispatches d call (ring_served d call)
unfolding values_of report_of
stopped_dispatches d call number high =
    let s = served_as d call number in
    let ring : ring_served d call ≡ s.report.ring = ap (λ v. v.ring) s.values in
    let told = ap (λ v. v.outcome) s.values ∙ sym (ap (λ r. outcome_number r.outcome) s.was.told) in
    let is = performed-stops _ _ _ _ _ _ _ _ (rw told at high) in
    rw ring (record { opcode = is.1; no_fault = is.0 })

-- and what they tell is the stopping thread's
dispatch-stopped : (d : Device) (call : Call) → number_in d call ≡ 0 → 11 ≤ (values_in d call).outcome
    → Dispatches d call (ring_served d call) × StoppedIn d call (ring_served d call)
unfolding ran_outcome
dispatch-stopped d call number high =
    let is = stopped_dispatches d call number high in
    let left = dispatch-served d call number is in
    (is, go (threads_in d call (ring_served d call)).ran refl left.outcome left.site)
  where
    c : Command
    c = head_in d call (ring_served d call)

    go : (r : Result Unit ThreadStop) → (threads_in d call (ring_served d call)).ran ≡ r
        → (values_in d call).outcome ≡ outcome_number (ran_outcome (threads_in d call (ring_served d call)).ran)
        → (values_in d call).site ≡ site_of (threads_in d call (ring_served d call)).ran → StoppedIn d call (ring_served d call)
    go (Ok u) now outcome site = absurd (omega (arith, high, rw now at outcome))
    go (Err stop) now outcome site =
        rw (rw now at outcome, rw now at site)
        (stopped-thread d.limit call.pack (kernel_in d call (ring_served d call)) c.arg0 c.arg1 (window_in d call (ring_served d call)) stop now (window-short d call number))

pub each_step : EachStep
unfolding EachStep stop_outcome
each_step d call = record {
  served = dispatch-served d call;
  threads = threads_in_order d.limit call.pack;
  steps = steps_in_order d.limit call.pack;
  step = step_by_rule d.limit call.pack;
  limits = λ served is g j g-is j-is. limit_tied d.limit call.pack _ g j _ _;
  fourteen = dispatch-fourteen d call;
  stopped = dispatch-stopped d call;
  numbers = (refl, refl, λ first. refl, refl);
}
