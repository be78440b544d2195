-- What making a device gives.
-- Assumes nothing.
use mathlib.Core.Path.{refl}
use mathlib.Core.List.{List}
use Prim.Native.Nat.{ℕ}
use lib.Dec.{lit≤}
use lib.ListN.{get_or-replicate}
use Rattle.state.specs.declared.device.Window.{Window}
use Rattle.state.specs.declared.edition.Start.{Start}
use Rattle.state.specs.declared.edition.Start.TheVariants.{Edition1}
use Rattle.state.specs.Device.{fresh_device, empty_device, default_limit, slot_of}
use Rattle.state.proofs.Limits.{limit_fits_lem, limit_unfit}
use Rattle.device.specs.Fresh.{not_made, fresh_with}
use Rattle.demands.specs.Makings.{MakingWith, FreshMakes}

making_with : (memory : ℕ) (windows : List Window) (limit : ℕ) (chosen : Start) → MakingWith memory windows limit chosen
unfolding fresh_with not_made empty_device
making_with memory windows limit chosen = record {
  made = λ fits low high. record { device = rw (fits, limit_fits_lem limit low high); answer = rw (fits, limit_fits_lem limit low high) };
  refused_101 = λ unfit. record { device = rw unfit; answer = rw unfit };
  refused_102 = λ fits outside. record { device = rw (fits, limit_unfit limit outside); answer = rw (fits, limit_unfit limit outside) };
}

pub fresh_makes : FreshMakes
unfolding empty_device fresh_device slot_of
fresh_makes = record {
  named = making_with;
  unnamed = λ memory windows.
      let by_default = making_with memory windows default_limit Edition1 in
      record { made = λ fits. by_default.made fits (lit≤ tt) (lit≤ tt); refused = by_default.refused_101 };
  counts = λ windows limit chosen. refl;
  edition_1 = λ windows limit. record { edition_is = refl; slots = λ n below. get_or-replicate 64 n 0 0 below };
  edition_2 = λ windows limit first. record { edition_is = refl; slots = λ n below. get_or-replicate 64 n first 0 below };
  empty = refl;
  refused = record { edition_is = refl; slots = λ n below. get_or-replicate 64 n 0 0 below };
}
