-- The examples that were worked by hand, as whole calls and as steps of a thread.
use Rattle.std.specs.Prelude.{ℕ, ◌+◌, ◌*◌, ◌^◌, ◌≤◌, ◌<◌, ◌≡◌, Bool, true, false, List, [], ◌∷◌, ◌++◌, length, replicate, Some}
use Rattle.memory.specs.declared.quad.Quad.{Quad}
use Rattle.memory.specs.Place.{with_word}
use Rattle.instruction.specs.declared.list.Op.TheVariants.{Unary}
use Rattle.instruction.specs.declared.list.UnaryOp.TheVariants.{Abs}
use Rattle.instruction.specs.Decode.{op_of}
use Rattle.instruction.specs.Vectors.{quad_of, broadcast}
use Rattle.kernel.specs.declared.thread.Thread.{Thread}
use Rattle.kernel.specs.Thread.{written_vector}
use Rattle.kernel.specs.declared.site.Site.{Site}
use Rattle.kernel.specs.Dispatch.{Dispatched, dispatch_of}
use Rattle.kernel.specs.Site.{site_at, no_site, site_of}
use Rattle.kernel.specs.Examples.{fresh_thread, after_word, scalar, word_bytes, bytes_of_words, pack_of_words, pack_of}
use Rattle.command.specs.Outcome.{outcome_number}
use Rattle.work.specs.Work.{ran_outcome}
use Rattle.state.specs.declared.device.Device.{Device}
use Rattle.state.specs.declared.edition.Edition.TheVariants.{One}
use Rattle.state.specs.declared.edition.Start.TheVariants.{Edition2}
use Rattle.state.specs.Counts.{no_counts}
use Rattle.state.specs.Device.{empty_window, empty_windows, fresh_ring, device_of, default_limit, fresh_device}
use Rattle.state.specs.Ready.{ready_at}
use Rattle.device.specs.Answer.{answer_number, no_values, values_of}
use Rattle.device.specs.Turn.{Call, call_of, TurnEnd, turn_of}
use Rattle.demands.specs.Calls.{ServesRing}

-- a command's 16 bytes
abbrev pub header : ℕ → ℕ → ℕ → ℕ → ℕ → ℕ → ℕ → List ℕ
header opcode flags rdst len arg0 arg1 arg2 = opcode ∷ flags ∷ rdst ∷ len ∷ (word_bytes arg0 ++ (word_bytes arg1 ++ word_bytes arg2))

-- a device of edition 1 under this limit whose ring 0 has a window of n bytes and a frame of stride 16, its marker at m
abbrev pub framed_under : ℕ → ℕ → ℕ → Device
framed_under limit n m =
    device_of
    (record { window = record { start = 0; length = n }; cursor = 0; frame = Some (record { base = 0; stride = 16; format = 0 }) }
    ∷ fresh_ring empty_window ∷ fresh_ring empty_window ∷ fresh_ring empty_window ∷ [])
    (replicate 64 0) m limit no_counts One

-- under the limit where none is named
abbrev pub framed : ℕ → ℕ → Device
framed = framed_under default_limit

-- a call with this memory, these rings and no kernels
abbrev pub lent_over : List ℕ → List ℕ → List ℕ → List ℕ → List ℕ → Call
lent_over memory r0 r1 r2 r3 = call_of memory r0 r1 r2 r3 (replicate 8 0) (replicate 1020 0)

-- over n zero bytes
abbrev pub lent : ℕ → List ℕ → List ℕ → List ℕ → List ℕ → Call
lent n = lent_over (replicate n 0)

-- FILL_RECT at 4 in a window of n bytes
abbrev pub fill_at4 : ℕ → ℕ → ℕ → Call
fill_at4 n width height = lent n (header 0x10 0 0 0 4 (width + height * 2 ^ 16) 0xAABBCCDD) [] [] []

-- n zero bytes with the color at these places
unfoldable pub colored : List ℕ → ℕ → List ℕ
colored [] n = replicate n 0
colored (a ∷ places) n = with_word (colored places n) a 0xAABBCCDD

-- a turn that serves this ring: this outcome, this fence, emitted or not, this site, no words read and no IRQ
abbrev pub ServedAt : ℕ → ℕ → ℕ → Bool → Site → TurnEnd → Type 0
ServedAt ring outcome fence emitted site end =
    (answer_number end.turned.answer ≡ 0)
    × (values_of end.turned.answer ≡ record { ring = ring; outcome = outcome; fence = fence; words = 0; irq = false; emitted = emitted; site = site })

-- where no thread stopped
abbrev pub ServedAs : ℕ → ℕ → ℕ → Bool → TurnEnd → Type 0
ServedAs ring outcome fence emitted end = ServedAt ring outcome fence emitted no_site end

-- of ring 0, with no fence
abbrev pub OutcomeOn0 : ℕ → TurnEnd → Type 0
OutcomeOn0 outcome end = ServedAs 0 outcome 0 false end

-- of ring 0, with no fence, where a thread stopped
abbrev pub StopOn0 : ℕ → Site → TurnEnd → Type 0
StopOn0 outcome site end = ServedAt 0 outcome 0 false site end

-- a dispatch has this outcome, and leaves the window as it was
pub record EndsWith (number : ℕ) (window : List ℕ) (d : Dispatched) : Type 0 where
  pub outcome : outcome_number (ran_outcome d.ran) ≡ number
  pub kept : d.window ≡ window

-- DISPATCH_1D of kernel 0 of this pack
abbrev pub dispatch : ℕ → ℕ → List ℕ → Call
dispatch groups threads pack = call_of (replicate 64 0) (header 0x20 0 0 0 groups threads 0) [] [] [] pack (replicate 1020 0)

-- that of one thread in a kernel of one word
abbrev pub one_thread : ℕ → Call
one_thread w = dispatch 1 1 (pack_of w)

-- a thread with x in each word of v1, and y in each of v2
abbrev pub holding : ℕ → ℕ → Thread
holding x y = written_vector (written_vector fresh_thread 1 (broadcast x)) 2 (broadcast y)

-- the four words of vector register n
abbrev pub vector : ℕ → Thread → Quad
vector n t = quad_of t.registers.vectors n

-- BARRIER, and the same waiting for slot s to hold 1, or emitting to it
abbrev pub barrier : List ℕ
barrier = header 0x22 0 0 0 0 0 0

abbrev pub wait_for : ℕ → List ℕ
wait_for s = header 0x22 4 s 0 0 0 0 ++ word_bytes 1

abbrev pub emit_to : ℕ → List ℕ
emit_to s = header 0x22 2 s 0 0 0 0

-- the first four turns of calls over unchanging rings, from this marker, serve these rings
abbrev pub FirstFour : ℕ → Call → ℕ → ℕ → ℕ → ℕ → Type 0
FirstFour marker call a b c d =
    let t1 = (turn_of (framed 64 marker) call).turned in
    let t2 = (turn_of t1.device call).turned in
    let t3 = (turn_of t2.device call).turned in
    let t4 = (turn_of t3.device call).turned in
    ServesRing a t1.answer × ServesRing b t2.answer × ServesRing c t3.answer × ServesRing d t4.answer

-- a turn that answers idle and reports nothing
abbrev pub IdleTurn : TurnEnd → Type 0
IdleTurn end = (answer_number end.turned.answer ≡ 1) × (values_of end.turned.answer ≡ no_values)

pub record Table : Type 0 where
  -- window 64, stride 16, fill at 4, 2 by 3: words at 4, 8, 20, 24, 36, 40
  pub p1 : OutcomeOn0 0 (turn_of (framed 64 0) (fill_at4 64 2 3))
      × ((turn_of (framed 64 0) (fill_at4 64 2 3)).memory ≡ colored (4 ∷ 8 ∷ 20 ∷ 24 ∷ 36 ∷ 40 ∷ []) 64)
  -- window 40: 8 (the end is 44)
  pub p2 : OutcomeOn0 8 (turn_of (framed 40 0) (fill_at4 40 2 3))
  -- width 5: 7
  pub p3 : OutcomeOn0 7 (turn_of (framed 64 0) (fill_at4 64 5 3))
  -- FFF00297 (ADDI s5, s0, -1): 4,294,967,295
  pub p4 : scalar 5 (after_word 0xFFF00297 fresh_thread) ≡ 4294967295
  -- then 0052830B (ADD s6, s5, s5): 4,294,967,294
  pub p5 : scalar 6 (after_word 0x0052830B (after_word 0xFFF00297 fresh_thread)) ≡ 4294967294
  -- 0002930B is ABS: 1
  pub p6 : (op_of 0x0002930B ≡ Unary Abs) × (scalar 6 (after_word 0x0002930B (after_word 0xFFF00297 fresh_thread)) ≡ 1)
  -- 0600030B (CLZ of s0): 32
  pub p7 : scalar 6 (after_word 0x0600030B fresh_thread) ≡ 32
  -- FE502E0D (SW at -4 from s0): 13, in any dispatch under a limit of at least 1 and as a whole turn; the address is its own,
  -- 4,294,967,292, at place 0 of thread 0 of group 0
  pub p8 : ((limit groups threads : ℕ) (window : List ℕ) → 1 ≤ limit → 1 ≤ groups → 1 ≤ threads → length window < 2 ^ 32
      → EndsWith 13 window (dispatch_of limit (pack_of 0xFE502E0D) 0 groups threads window))
      × ((limit groups threads : ℕ) (window : List ℕ) → 1 ≤ limit → 1 ≤ groups → 1 ≤ threads → length window ≤ 4294967292
      → site_of (dispatch_of limit (pack_of 0xFE502E0D) 0 groups threads window).ran ≡ site_at 4294967292 0 0 0)
      × StopOn0 13 (site_at 4294967292 0 0 0) (turn_of (framed 64 0) (one_thread 0xFE502E0D))
  -- 0000000E branches to itself: 14, in any dispatch under any limit, and as a whole turn under each limit from 1 to 65,536, at
  -- place 0 of thread 0 of group 0
  pub p9 : ((limit groups threads : ℕ) (window : List ℕ) → 1 ≤ groups → 1 ≤ threads
      → EndsWith 14 window (dispatch_of limit (pack_of 0x0000000E) 0 groups threads window))
      × ((limit : ℕ) → 1 ≤ limit → limit ≤ 65536 → StopOn0 14 (site_at 0 0 0 0) (turn_of (framed_under limit 64 0) (one_thread 0x0000000E)))
  -- VADD.I8 of 010000FF and 01000001: 02000000; as I16: 02000100 (0020A1AF and 002091AF, v1 and v2 to v3)
  pub p10 : (vector 3 (after_word 0x0020A1AF (holding 0x010000FF 0x01000001)) ≡ broadcast 0x02000000)
      × (vector 3 (after_word 0x002091AF (holding 0x010000FF 0x01000001)) ≡ broadcast 0x02000100)
  -- marker 1, all ready: order 1, 2, 3, 0
  pub p11 : FirstFour 1 (lent 64 barrier barrier barrier barrier) 1 2 3 0
  -- two rings, each waiting for the other's next emit: idle at once
  pub p12 : IdleTurn (turn_of (framed 64 0) (lent 64 (wait_for 0 ++ emit_to 1) (wait_for 1 ++ emit_to 0) [] []))

-- the least limit: it runs one instruction, and 14 comes before running off the end
pub record LeastLimit : Type 0 where
  -- a kernel of FFF00297 (ADDI) alone: 14 under a limit of 1; under one of 2 it runs off the end, 12; both at the place past it
  pub one : StopOn0 14 (site_at 0 4 0 0) (turn_of (framed_under 1 64 0) (one_thread 0xFFF00297))
  pub two : StopOn0 12 (site_at 0 4 0 0) (turn_of (framed_under 2 64 0) (one_thread 0xFFF00297))
  -- one of 0000700F (WFI) alone ends by the limit's step
  pub wfi : OutcomeOn0 0 (turn_of (framed_under 1 64 0) (one_thread 0x0000700F))

-- where a thread stops, in a window of 64 bytes, under a limit of 5
pub record WhereStopped : Type 0 where
  -- 02502F0D (SW at 62 from s0) begins inside and ends outside: the address is the window's length
  pub across : StopOn0 13 (site_at 64 0 0 0) (turn_of (framed_under 5 64 0) (one_thread 0x02502F0D))
  -- s5 is 2·group + thread (ADD s5, s1, s1 and ADD s5, s5, s2), then 4 times that (SHL); SW at 42 from s5, and WFI: of 3 groups of 2
  -- threads only the last thread of the last group reaches out, at place 12
  pub last : StopOn0 13 (site_at 64 12 2 1)
      (turn_of (framed_under 5 64 0) (dispatch 3 2 (pack_of_words (0x0010828B ∷ 0x0022828B ∷ 0x00229297 ∷ 0x0202A50D ∷ 0x0000700F ∷ []))))
  -- FFF00297 (ADDI), then 0000020E, a branch to the kernel's end: 12 at the branch's own place
  pub branch : StopOn0 12 (site_at 0 4 0 0) (turn_of (framed_under 5 64 0) (dispatch 1 1 (pack_of_words (0xFFF00297 ∷ 0x0000020E ∷ []))))
  -- FFF00297 (ADDI), then FFFFFFFF: 11 at its place
  pub unlisted : StopOn0 11 (site_at 0 4 0 0) (turn_of (framed_under 5 64 0) (dispatch 1 1 (pack_of_words (0xFFF00297 ∷ 0xFFFFFFFF ∷ []))))

-- BLIT of width by height pixels from 0 to `to`, in a frame of these pixels
abbrev pub blit_from0 : ℕ → ℕ → ℕ → List ℕ → Call
blit_from0 to width height pixels = lent_over (bytes_of_words pixels) (header 0x11 0 0 0 to 0 (width + height * 2 ^ 16)) [] [] []

-- COPY_BUFFER of len words from 0 to `to`, in such a frame
abbrev pub copy_from0 : ℕ → ℕ → List ℕ → Call
copy_from0 to len pixels = lent_over (bytes_of_words pixels) (header 0x23 0 0 len to 0 0) [] [] []

-- a turn that is done and leaves these pixels
abbrev pub LeavesPixels : List ℕ → TurnEnd → Type 0
LeavesPixels pixels end = OutcomeOn0 0 end × (end.memory ≡ bytes_of_words pixels)

-- a frame of 4 by 4 pixels, each told by its row and column
abbrev pub picture : List ℕ
picture =
    11 ∷ 12 ∷ 13 ∷ 14
    ∷ 21 ∷ 22 ∷ 23 ∷ 24
    ∷ 31 ∷ 32 ∷ 33 ∷ 34
    ∷ 41 ∷ 42 ∷ 43 ∷ 44 ∷ []

-- the picture scrolled by one copy within it: nothing smears
pub record Scrolled : Type 0 where
  -- BLIT of three rows, one row down; the top row stays
  pub down : LeavesPixels
      (11 ∷ 12 ∷ 13 ∷ 14
      ∷ 11 ∷ 12 ∷ 13 ∷ 14
      ∷ 21 ∷ 22 ∷ 23 ∷ 24
      ∷ 31 ∷ 32 ∷ 33 ∷ 34 ∷ [])
      (turn_of (framed 64 0) (blit_from0 16 4 3 picture))
  -- BLIT of three columns, one pixel to the right; the left column stays
  pub right : LeavesPixels
      (11 ∷ 11 ∷ 12 ∷ 13
      ∷ 21 ∷ 21 ∷ 22 ∷ 23
      ∷ 31 ∷ 31 ∷ 32 ∷ 33
      ∷ 41 ∷ 41 ∷ 42 ∷ 43 ∷ [])
      (turn_of (framed 64 0) (blit_from0 4 3 4 picture))
  -- BLIT of three by three pixels, one row down and one pixel to the right
  pub both : LeavesPixels
      (11 ∷ 12 ∷ 13 ∷ 14
      ∷ 21 ∷ 11 ∷ 12 ∷ 13
      ∷ 31 ∷ 21 ∷ 22 ∷ 23
      ∷ 41 ∷ 31 ∷ 32 ∷ 33 ∷ [])
      (turn_of (framed 64 0) (blit_from0 20 3 3 picture))
  -- BLIT of three rows, two pixels on: each is written across two rows of the frame
  pub across : LeavesPixels
      (11 ∷ 12 ∷ 11 ∷ 12
      ∷ 13 ∷ 14 ∷ 21 ∷ 22
      ∷ 23 ∷ 24 ∷ 31 ∷ 32
      ∷ 33 ∷ 34 ∷ 43 ∷ 44 ∷ [])
      (turn_of (framed 64 0) (blit_from0 8 4 3 picture))
  -- COPY_BUFFER of 15 words, one word on
  pub words : LeavesPixels
      (11 ∷ 11 ∷ 12 ∷ 13
      ∷ 14 ∷ 21 ∷ 22 ∷ 23
      ∷ 24 ∷ 31 ∷ 32 ∷ 33
      ∷ 34 ∷ 41 ∷ 42 ∷ 43 ∷ [])
      (turn_of (framed 64 0) (copy_from0 4 15 picture))

-- edition 2 from 4,294,967,294: ring 0 emits three times to slot 5, by 4,294,967,295 and 0 to 1; ring 1 waits for 1 and is
-- served then, not before; then no ring is ready
unfoldable pub RoundTheWrap : Type 0
RoundTheWrap =
    let call = lent 0 (emit_to 5 ++ emit_to 5 ++ emit_to 5) (wait_for 5) [] [] in
    let t1 = turn_of (fresh_device empty_windows default_limit (Edition2 4294967294)) call in
    let t2 = turn_of t1.turned.device call in
    let t3 = turn_of t2.turned.device call in
    let t4 = turn_of t3.turned.device call in
    ServedAs 0 0 4294967295 true t1 × ServedAs 0 0 0 true t2 × ServedAs 0 0 1 true t3 × ServedAs 1 0 0 false t4
    × IdleTurn (turn_of t4.turned.device call)

-- why edition 2 asks of the targets: from 2,147,483,648 ring 1, which waits for 1, is ready; but ring 0's emit is served first, and
-- then no ring is ready
unfoldable pub ReadyNoLonger : Type 0
ReadyNoLonger =
    let call = lent 0 (emit_to 5) (wait_for 5) [] [] in
    let fresh = fresh_device empty_windows default_limit (Edition2 2147483648) in
    let t1 = turn_of fresh call in
    (ready_at fresh 1 (wait_for 5) ≡ true) × ServedAs 0 0 2147483649 true t1 × IdleTurn (turn_of t1.turned.device call)
