-- A call over a device's image is the device's turn.
-- Assumes nothing.
use mathlib.Core.Path.{◌≡◌, refl}
use lib.ListN.{length}
use borrow.Author.Tests.{eq-eqb}
use Rattle.state.specs.declared.device.Device.{Device}
use Rattle.device.specs.Turn.{Call, unchanged, finished, served_of, turn_of}
use Rattle.device.proofs.Answers.{refusal_not_0}
use Rattle.device.proofs.Turns.{turn_cases}
use Rattle.capi.specs.Image.{encode, image_length}
use Rattle.capi.specs.Calls.{image_after, called_of, turn_call}
use Rattle.capi.specs.Follows.{followed, TurnFollows}
use Rattle.capi.proofs.Sizes.{encode-length}
use Rattle.capi.proofs.Inverse.{decode-encode}
use Rattle.capi.specs.Report.{report_length}

-- the image after a turn is that of the device after it
turn-kept : (d : Device) (call : Call)
    → image_after (encode d) (turn_of d call).turned.device (turn_of d call).turned.answer ≡ encode (turn_of d call).turned.device
unfolding served_of finished unchanged image_after
turn-kept d call =
    turn_cases d call (λ end. image_after (encode d) end.turned.device end.turned.answer ≡ encode end.turned.device)
    (λ why v. rw (refusal_not_0 why)) (λ sound p. refl) (λ q sound p. refl)

pub turn-follows : TurnFollows
unfolding turn_call called_of followed
turn-follows d formed report call six =
    rw (eq-eqb (length (encode d)) image_length (encode-length d formed), eq-eqb (length report) report_length six, decode-encode d formed, turn-kept d call)
