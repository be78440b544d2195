-- Making a fresh device, with a limit and a start named or with neither. It can only give 101, and 102 for its limit alone; with
-- either comes a fresh device of four empty windows at 0, no limit named, edition 1.
use Rattle.std.specs.Prelude.{cond, ℕ, List, Ok, Err}
use Rattle.state.specs.declared.device.Window.{Window}
use Rattle.state.specs.declared.edition.Start.{Start}
use Rattle.state.specs.declared.edition.Start.TheVariants.{Edition1}
use Rattle.state.specs.declared.refusal.Refusal.{Refusal}
use Rattle.state.specs.declared.refusal.Refusal.TheVariants.{Memory, State}
use Rattle.device.specs.declared.fresh.Fresh.{Fresh}
use Rattle.state.specs.Device.{default_limit, fresh_device, empty_device}
use Rattle.state.specs.Refusal.{memory_fits, limit_fits}

-- a refused making
unfoldable pub not_made : Refusal → Fresh
not_made why = record { device = empty_device; answer = Err why }

-- a limit and a start are named: 101 is tested before 102
unfoldable pub fresh_with : ℕ → List Window → ℕ → Start → Fresh
fresh_with memory windows limit start =
    cond (memory_fits memory windows)
    (cond (limit_fits limit)
    (record { device = fresh_device windows limit start; answer = Ok tt })
    (not_made State))
    (not_made Memory)

-- neither is named: edition 1
abbrev pub fresh_of : ℕ → List Window → Fresh
fresh_of memory windows = fresh_with memory windows default_limit Edition1
