-- What a formed device and its image have.
-- Assumes nothing.
use Rattle.state.specs.declared.device.Device.{Device}
use Rattle.capi.specs.Inverse.{Formed}
use Rattle.capi.specs.Imaged.{Imaged}
use Rattle.capi.proofs.Sizes.{encode-length}
use Rattle.capi.proofs.Inverse.{decode-encode}
use Rattle.capi.proofs.Follows.{turn-follows}
use Rattle.capi.proofs.Forms.{turn-forms}

pub imaged : (d : Device) → Formed d → Imaged d
imaged d formed = record {
  formed = formed;
  long = encode-length d formed;
  back = decode-encode d formed;
  follows = turn-follows d formed;
  forms = turn-forms d formed;
}
