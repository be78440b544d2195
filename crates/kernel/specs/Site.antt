-- Where a dispatch stopped: the four numbers that are reported of a stop.
use Rattle.std.specs.Prelude.{ℕ, Result, Ok, Err}
use Rattle.kernel.specs.declared.step.Stop.{Stop}
use Rattle.kernel.specs.declared.step.Stop.TheVariants.{NotListed, OffTheKernel, OutsideTheWindow, OutOfSteps}
use Rattle.kernel.specs.declared.dispatch.ThreadStop.{ThreadStop}
use Rattle.kernel.specs.declared.site.Site.{Site}

-- address, place, group and thread
abbrev pub site_at : ℕ → ℕ → ℕ → ℕ → Site
site_at address place group thread = record { address = address; place = place; group = group; thread = thread }

-- no thread stopped: all four are 0
abbrev pub no_site : Site
no_site = site_at 0 0 0 0

-- the address of a stop: of a load or store the first address that is not inside, else 0
abbrev pub address_of : Stop → ℕ
address_of NotListed = 0
address_of OffTheKernel = 0
address_of (OutsideTheWindow first) = first
address_of OutOfSteps = 0

-- of a dispatch that is done four zeros; else the address, and the place, group and thread of the thread that stopped
unfoldable pub site_of : Result Unit ThreadStop → Site
site_of (Ok u) = no_site
site_of (Err stop) = site_at (address_of stop.why) stop.place stop.group stop.thread
