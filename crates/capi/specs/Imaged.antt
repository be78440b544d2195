-- What a device and its image have, with nothing asked of the device: the contract of `of_every_device` says it of every
-- `Device`.
use Rattle.std.specs.Prelude.{◌≡◌, length}
use Rattle.state.specs.declared.device.Device.{Device}
use Rattle.capi.specs.Image.{image_length, encode, decode}
use Rattle.capi.specs.Inverse.{Formed}
use Rattle.capi.specs.Follows.{FollowsFrom, FormsFrom}

pub record Imaged (d : Device) : Type 0 where
  -- four rings, 64 slots, nineteen counts, and numbers of 32 bits
  pub formed : Formed d
  -- its image has the right length, and read back it is the device
  pub long : length (encode d) ≡ image_length
  pub back : decode (encode d) ≡ d
  -- a call over its image is its turn, which leaves a formed device if the rings lent are of bytes
  pub follows : FollowsFrom d
  pub forms : FormsFrom d
