-- A report of the wrong length.
-- Assumes nothing.
use mathlib.Core.Path.{◌≡◌, refl}
use mathlib.Core.Logic.{◌≢◌}
use mathlib.Core.List.{List}
use Prim.Native.Nat.{ℕ}
use lib.ListN.{length}
use borrow.Author.Tests.{eq-eqb, ne_eqb}
use Rattle.device.specs.Turn.{call_of}
use Rattle.capi.specs.Image.{image_length}
use Rattle.capi.specs.Report.{report_length}
use Rattle.capi.specs.Calls.{turn_call, untouched, Leaves}

-- what a call on a whole image and such a report leaves
pub leaves_202 : {i image report : List ℕ} (mem r0 r1 r2 r3 pack pipe : List ℕ) → i ≡ image → length image ≡ image_length → length report ≢ report_length
    → Leaves i mem pipe report 202 (turn_call image report (call_of mem r0 r1 r2 r3 pack pipe))
unfolding turn_call untouched
leaves_202 {image = image} {report = report} mem r0 r1 r2 r3 pack pipe same whole wrong =
    rw (eq-eqb _ _ whole, ne_eqb (length report) report_length wrong)
    (record { image = same; memory = refl; pipe = refl; report = refl; answer = refl })
